-- The record that stands for a name.
use Rattle.std.proofs.Common.{◌≡◌, ℕ, ◌+◌, ◌-◌, ◌<◌, ◌≤◌, Bool, true, false, cond, List, [], ◌∷◌, map, length, get_or, Some, Option, sym, ap, ◌∙◌, arith}
use Rattle.std.proofs.lemmas.List.{length-map, get_or-map}
use Rattle.std.specs.Str.{bytes_eq}
use Rattle.materials.specs.declared.record.Record.{Record}
use Rattle.materials.specs.Layout.{meaning}
use Rattle.materials.specs.Records.{material, name_of}
use Rattle.materials.specs.Files.{parts, standing, stands_for}

either_first : (n m k : ℕ) (b : Bool) (later : Option ℕ) → (later ≡ Some k → (n + 1 ≤ k) × (k < n + 1 + m)) → cond b (Some n) later ≡ Some k → (n ≤ k) × (k < n + (1 + m))
either_first n m k true later h e = let q : n ≡ k = cc in (omega arith, omega arith)
either_first n m k false later h e = let j = h e in (omega arith, omega arith)

standing_within : (n : ℕ) (ps : List (List ℕ)) (name : List ℕ) (k : ℕ) → standing n ps name ≡ Some k → (n ≤ k) × (k < n + length ps)
standing_within n [] name k e = absurd (let z : ◌≡◌ {A = ℕ} 0 1 = cc in omega arith)
standing_within n (p ∷ ps) name k e =
    let h = either_first n (length ps) k (bytes_eq (name_of p) name) (standing (n + 1) ps name) (standing_within (n + 1) ps name k) e in
    (h.0, omega arith)

module _ (file name : List ℕ) (rs : List Record) (n : ℕ) (stands : stands_for file name ≡ Some n) (says : map material (parts file) ≡ map meaning rs) where
  pub from_one : 1 ≤ n
  from_one = (standing_within 1 (parts file) name n stands).0

  pub in_parts : n - 1 < length (parts file)
  in_parts = let h = standing_within 1 (parts file) name n stands in omega arith

  pub in_records : n - 1 < length rs
  in_records =
      let e : length (parts file) ≡ length rs = sym (length-map (parts file) material) ∙ (ap length says ∙ length-map rs meaning) in
      omega (arith, in_parts)

  pub the_material : (r : Record) → r ≡ get_or rs (n - 1) r → meaning r ≡ get_or (map material (parts file)) (n - 1) (meaning r)
  the_material r is = ap meaning is ∙ (sym (get_or-map meaning rs (n - 1) r (meaning r) in_records) ∙ ap (λ ms. get_or ms (n - 1) (meaning r)) (sym says))
