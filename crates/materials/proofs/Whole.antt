-- A list of records as it is written. Assumes nothing.
use Rattle.std.proofs.Common.{◌≡◌, ℕ, ◌+◌, ◌*◌, ◌<◌, ◌≤◌, cond, leb, List, [], ◌∷◌, ◌++◌, map, length, take, drop, Some, None, Option, sym, refl, ap, ◌∙◌, subst, zero-add, arith}
use Rattle.std.specs.List.{flat_map}
use Rattle.std.proofs.lemmas.List.{length-append, length-map, take_at}
use Rattle.std.proofs.lemmas.Bool.{cond-true, cond-false, le-leb, lt-leb}
use Rattle.materials.specs.declared.refusal.RecordFault.{RecordFault}
use Rattle.materials.specs.declared.record.Record.{Record}
use Rattle.materials.specs.declared.refusal.Refusal.{Refusal}
use Rattle.materials.specs.declared.refusal.Refusal.TheVariants.{RecordCount, DestinationTooShort}
use Rattle.materials.specs.Layout.{meaning, encoded, encode, packed, pairs, two, Puts}
use Rattle.materials.specs.Refusals.{first, or_else}
use Rattle.materials.specs.Records.{material_fault}
use Rattle.materials.specs.Files.{faults_in, used_fault, numbered, materials_refusal, write_refusal}
use Rattle.materials.specs.Laws.{Good, Says}
use Rattle.materials.specs.Lists.{called, bytes_of, list_fault, list_refusal, list_length}
use Rattle.materials.proofs.Back.{refusal_back, read_back}
use Rattle.materials.proofs.Writes.{joined_map, length_pair_bytes}

faults_map : {X Y : Type 0} (f : X → Y) (own : Y → Option RecordFault) (called : Y → List ℕ) (e : List (List ℕ)) (n : ℕ) (xs : List X) → faults_in own called e n (map f xs) ≡ faults_in (λ x. own (f x)) (λ x. called (f x)) e n xs
faults_map f own called e n [] = refl
faults_map f own called e n (x ∷ xs) = ap (numbered n (or_else (own (f x)) (used_fault e (called (f x))))) (faults_map f own called (e ++ called (f x) ∷ []) (n + 1) xs)

bytes_map : (rs : List Record) → map encoded (map meaning rs) ≡ map bytes_of rs
bytes_map [] = refl
bytes_map (r ∷ rs) = ap (λ l. bytes_of r ∷ l) (bytes_map rs)

module _ (rs : List Record) where
  pub encode_is : encode (map meaning rs) ≡ two (length rs) ++ (pairs (2 + 6 * length rs) (map bytes_of rs) ++ flat_map bytes_of rs)
  encode_is =
      let n = length-map rs bytes_of in
      ap packed (bytes_map rs) ∙ (λ i. two (n i) ++ (pairs (2 + 6 * n i) (map bytes_of rs) ++ joined_map bytes_of rs i))

  pub encode_length : length (encode (map meaning rs)) ≡ list_length rs
  encode_length =
      let p = length_pair_bytes (2 + 6 * length rs) (map bytes_of rs) in
      let n = length-map rs bytes_of in
      let a = length-append (pairs (2 + 6 * length rs) (map bytes_of rs)) (flat_map bytes_of rs) in
      ap length encode_is ∙ omega arith

  -- the list is refused as its materials are
  same_refusal : materials_refusal (map meaning rs) ≡ list_refusal rs
  same_refusal = λ i. or_else (first ((leb (length-map rs meaning i) 512, RecordCount) ∷ [])) (faults_map meaning material_fault (λ m. m.name) [] 1 rs i)

  abbrev then_room : ℕ → Option Refusal → Option Refusal
  then_room room o = or_else o (cond (leb (length (encode (map meaning rs))) room) None (Some DestinationTooShort))

  pub refused_list : (room : ℕ) (e : Refusal) → list_refusal rs ≡ Some e → write_refusal (map meaning rs) room ≡ Some e
  refused_list room e h = ap (then_room room) (same_refusal ∙ h)

  module _ (few : length rs ≤ 512) (fine : list_fault rs ≡ None) where
    pub good : Good (map meaning rs)
    good = same_refusal ∙ (ap (λ o. or_else o (list_fault rs)) (cond-true (leb (length rs) 512) None (Some RecordCount) (le-leb (length rs) 512 few)) ∙ fine)

    pub too_short : (room : ℕ) → room < list_length rs → write_refusal (map meaning rs) room ≡ Some DestinationTooShort
    too_short room h = ap (then_room room) good ∙ cond-false _ _ _ (lt-leb (length (encode (map meaning rs))) room (omega (arith, encode_length)))

    pub accepted : (room : ℕ) → list_length rs ≤ room → write_refusal (map meaning rs) room ≡ None
    accepted room h = ap (then_room room) good ∙ cond-true _ _ _ (le-leb (length (encode (map meaning rs))) room (omega (arith, encode_length)))

    pub says : (f : List ℕ) → f ≡ encode (map meaning rs) → Says f (map meaning rs)
    says f e = subst (λ g. Says g (map meaning rs)) (sym e) (refusal_back (map meaning rs) good, read_back (map meaning rs) good)

-- the front of what was written
pub front : (bs rest : List ℕ) (n : ℕ) (after : List ℕ) → n ≡ length bs → after ≡ bs ++ rest → take n after ≡ bs
front bs rest n after e h = ap (take n) h ∙ take_at bs rest n (sym e)

-- at the front of a destination
pub at_front : (d bs after : List ℕ) (end : ℕ) → Puts d 0 bs after end → (end ≡ length bs) × (after ≡ bs ++ drop end d)
at_front d bs after end p = (p.ends ∙ zero-add (length bs), p.holds ∙ ap (λ k. bs ++ drop k d) (sym p.ends))
