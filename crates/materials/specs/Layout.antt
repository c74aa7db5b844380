-- The bytes of a materials file: numbers, coefficients, records, pairs and the whole file. Assumes nothing.
use Rattle.std.specs.Prelude.{◌≡◌, ℕ, zero, suc, ◌+◌, ◌*◌, ◌/◌, ◌%◌, ◌≤◌, List, [], ◌∷◌, ◌++◌, map, length, take, drop, ℤ, vec_items, slice_index}
use Rattle.std.specs.Int.{w32}
use Rattle.std.proofs.Common.{to_z, of_z}
use Rattle.std.specs.List.{flat_map}
use Rattle.materials.specs.declared.record.Record.{Record}
use Rattle.materials.specs.declared.part.Fields.{Fields}

-- a material: a record's fields, with lists in the place of the code's vectors
pub record Material : Type 0 where
  pub name : List ℕ
  pub form : ℕ
  pub rounding : ℕ
  pub overflow : ℕ
  pub whole : ℕ
  pub fraction : ℕ
  pub forward : List ℤ
  pub back : List ℤ

-- what a record in memory says
abbrev pub meaning : Record → Material
meaning r = record {
  name = vec_items r.name;
  form = r.form;
  rounding = r.rounding;
  overflow = r.overflow;
  whole = r.whole_bits;
  fraction = r.fraction_bits;
  forward = vec_items r.feedforward;
  back = vec_items r.feedback;
}

-- a number as two bytes and as four, the high byte first
abbrev pub two : ℕ → List ℕ
two n = (n / 256 % 256) ∷ (n % 256) ∷ []

abbrev pub four : ℕ → List ℕ
four n = (n / 16777216 % 256) ∷ (n / 65536 % 256) ∷ (n / 256 % 256) ∷ (n % 256) ∷ []

-- the number that the first two bytes are, and the first four
abbrev pub two_at : List ℕ → ℕ
two_at bs = slice_index bs 0 * 256 + slice_index bs 1

abbrev pub four_at : List ℕ → ℕ
four_at bs = slice_index bs 0 * 16777216 + slice_index bs 1 * 65536 + slice_index bs 2 * 256 + slice_index bs 3

-- a coefficient as four bytes, in two's complement
abbrev pub coded : ℤ → List ℕ
coded z = four (of_z w32 z)

-- the coefficient that the first four bytes are
abbrev pub word_at : List ℕ → ℤ
word_at bs = to_z w32 (four_at bs)

-- the first n coefficients that stand in bs
abbrev pub words : ℕ → List ℕ → List ℤ
words zero bs = []
words (suc n) bs = word_at bs ∷ words n (drop 4 bs)

-- what a record in a file says, once it has been cut into its fields
abbrev pub seen : Fields → Material
seen f = record {
  name = f.name.now;
  form = f.form;
  rounding = f.rounding;
  overflow = f.overflow;
  whole = f.whole_bits;
  fraction = f.fraction_bits;
  forward = words (length f.feedforward.now / 4) f.feedforward.now;
  back = words (length f.feedback.now / 4) f.feedback.now;
}

-- the bytes of a record: the size of its name, the name, seven bytes, the coefficients
abbrev pub encoded : Material → List ℕ
encoded m = length m.name ∷ (m.name ++ m.form ∷ m.rounding ∷ m.overflow ∷ m.whole ∷ m.fraction ∷ length m.forward ∷ length m.back ∷ flat_map coded (m.forward ++ m.back))

-- the pair of each record, offset and length, where the first record begins at the offset
abbrev pub pairs : ℕ → List (List ℕ) → List ℕ
pairs offset [] = []
pairs offset (p ∷ ps) = (four offset ++ two (length p)) ++ pairs (offset + length p) ps

-- the file whose records are these byte lists: their count, their pairs, and they themselves
abbrev pub packed : List (List ℕ) → List ℕ
packed ps = two (length ps) ++ (pairs (2 + 6 * length ps) ps ++ flat_map (λ p. p) ps)

-- the file of these materials
abbrev pub encode : List Material → List ℕ
encode ms = packed (map encoded ms)

-- the bytes were written from `at` on, they stop at `end`, and nothing else has changed
pub record Puts (before : List ℕ) (at : ℕ) (bytes after : List ℕ) (end : ℕ) : Type 0 where
  pub ends : end ≡ at + length bytes
  pub fits : at + length bytes ≤ length before
  pub holds : after ≡ take at before ++ (bytes ++ drop (at + length bytes) before)
