-- What the public calls promise. Assumes nothing.
use Rattle.std.specs.Prelude.{◌≡◌, ℕ, ◌-◌, ◌<◌, ◌⊎◌, List, [], ◌++◌, map, length, get_or, take, drop, IfOk, Some, None, Result, MatchResult, slice_index_or}
use Rattle.materials.specs.declared.refusal.Refusal.{Refusal}
use Rattle.materials.specs.declared.refusal.Refusal.TheVariants.{OutOfMemory, DestinationTooShort}
use Rattle.materials.specs.Layout.{Material, encode}
use Rattle.materials.specs.Records.{material, name_of}
use Rattle.materials.specs.Files.{count_of, directory, part_at, parts, refusal, stands_for, look_up_refusal, materials_refusal, write_refusal}

-- materials that nothing is wrong with
abbrev pub Good : List Material → Type 0
Good ms = materials_refusal ms ≡ None

-- the materials are good, and the file is their encoding
abbrev pub Encodes : List Material → List ℕ → Type 0
Encodes ms f = Good ms × (encode ms ≡ f)

-- the file is the encoding of some good materials
abbrev pub Encoding : List ℕ → Type 0
Encoding f = (ms : List Material) × Encodes ms f

-- a file is accepted exactly if it is the encoding of good materials
abbrev pub AcceptsExactly : List ℕ → Result ℕ Refusal → Type 0
AcceptsExactly f r = MatchResult r (λ _. Encoding f) (λ _. Encoding f → ⊥)

-- a file that is not read is no such encoding, or it is one and memory was wanting
abbrev pub NoEncodingOrMemory : List ℕ → Refusal → Type 0
NoEncodingOrMemory f e = (Encoding f → ⊥) ⊎ (Encoding f × (e ≡ OutOfMemory))

-- the name of record i, from 0
abbrev pub name_at : List ℕ → ℕ → List ℕ
name_at f i = name_of (slice_index_or (parts f) i [])

-- no two records have the same name
abbrev pub OneRecordEach : List ℕ → Type 0
OneRecordEach f = (i j : ℕ) → i < count_of f → j < count_of f → name_at f i ≡ name_at f j → i ≡ j

-- a look-up hands out the part of the record that stands for the name: its number, and the place and the bytes that the record's own pair tells
pub record FoundAt (f name : List ℕ) (number offset : ℕ) (bytes : List ℕ) : Type 0 where
  pub accepted : look_up_refusal f name ≡ None
  pub stands : stands_for f name ≡ Some number
  pub place : get_or (directory f) (number - 1) (0, 0) ≡ (offset, length bytes)
  pub part : bytes ≡ part_at f (offset, length bytes)
  pub named : name_of bytes ≡ name

-- what a write answers and leaves: the file and what lay past it, or the destination as it was
abbrev pub Written : List Material → List ℕ → List ℕ → Result ℕ Refusal → Type 0
Written ms before after r = MatchResult r
    (λ n. (write_refusal ms (length before) ≡ None) × (n ≡ length (encode ms)) × (after ≡ encode ms ++ drop n before))
    (λ e. (write_refusal ms (length before) ≡ Some e) × (after ≡ before))

-- the file is not refused, and says these materials
abbrev pub Says : List ℕ → List Material → Type 0
Says f ms = (refusal f ≡ None) × (map material (parts f) ≡ ms)

-- what a write leaves at the front of the destination reads back as what was written
abbrev pub ReadsBack : List Material → List ℕ → Result ℕ Refusal → Type 0
ReadsBack ms after r = IfOk r (λ n. Says (take n after) ms)

-- a file that is read and written again: the same bytes, or the destination as it was
abbrev pub Rewritten : List ℕ → List ℕ → List ℕ → Result ℕ Refusal → Type 0
Rewritten f before after r = MatchResult r
    (λ n. (refusal f ≡ None) × (n ≡ length f) × (after ≡ f ++ drop n before))
    (λ e. (after ≡ before) × ((refusal f ≡ Some e) ⊎ ((refusal f ≡ None) × ((e ≡ OutOfMemory) ⊎ ((e ≡ DestinationTooShort) × (length before < length f))))))
