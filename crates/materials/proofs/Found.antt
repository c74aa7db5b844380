-- The record that stands for a name, and its place. Assumes nothing.
use Rattle.std.proofs.Common.{◌≡◌, ℕ, zero, suc, ◌+◌, ◌-◌, ◌<◌, Bool, true, false, cond, List, [], length, get_or, drop, is_some, Some, None, Option, MatchOption, sym, refl, ap, ◌∙◌, subst, arith}
use Rattle.std.specs.Str.{bytes_eq}
use Rattle.std.specs.List.{find, range_with_len}
use Rattle.std.specs.Option.{option_map, unwrap_or}
use Rattle.std.proofs.lemmas.List.{length-take, length-drop, at_drop_more, at_drop_all}
use Rattle.std.proofs.lemmas.Slice.Eq.{bytes_eq-Decides}
use Rattle.materials.specs.declared.refusal.Refusal.TheVariants.{NoSuchName}
use Rattle.materials.specs.Refusals.{or_else}
use Rattle.materials.specs.Records.{name_of}
use Rattle.materials.specs.Files.{count_of, directory, part_at, parts, file_fault, records_fault, refusal, standing, stands_for, look_up_refusal}
use Rattle.materials.specs.Laws.{FoundAt, name_at}
use Rattle.materials.proofs.Rows.{or_else_none, some_none}
use Rattle.materials.proofs.Places.{sound, get_or_parts, part_inside}
use Rattle.materials.proofs.Turns.{length_parts}

module _ (t : ℕ → Bool) where
  -- the place that a search over numbers finds
  found_first : (b : Bool) (a n i : ℕ) → t a ≡ b → cond b (Some a) (find t (range_with_len (a + 1) n)) ≡ Some i → (find t (range_with_len (a + 1) n) ≡ Some i → (i < a + 1 + n) × (t i ≡ true)) → (i < a + suc n) × (t i ≡ true)
  found_first true a n i e h k = let r : a ≡ i = ap (λ o. unwrap_or o 0) h in (omega arith, ap t (sym r) ∙ e)
  found_first false a n i e h k = let r = k h in (omega (arith, r.0), r.1)

  pub find_at : (a n i : ℕ) → find t (range_with_len a n) ≡ Some i → (i < a + n) × (t i ≡ true)
  find_at a zero i h = absurd (some_none i (sym h))
  find_at a (suc n) i h = found_first (t a) a n i refl h (find_at (a + 1) n i)

module _ (ps : List (List ℕ)) (name : List ℕ) where
  abbrev pub named_at : ℕ → Bool
  named_at j = bytes_eq (name_of (get_or ps j [])) name

  next : (b : Bool) (a : ℕ) (o : Option ℕ) → cond b (Some (a + 1)) (option_map (λ i. i + 1) o) ≡ option_map (λ i. i + 1) (cond b (Some a) o)
  next true a o = refl
  next false a o = refl

  -- the record that stands for a name is the first that has it
  pub standing_found : (a n : ℕ) → a + n ≡ length ps → standing (a + 1) (drop a ps) name ≡ option_map (λ i. i + 1) (find named_at (range_with_len a n))
  standing_found a zero h = at_drop_all (λ l. standing (a + 1) l name) ps a (omega arith)
  standing_found a (suc n) h =
      at_drop_more (λ l. standing (a + 1) l name) ps a [] (omega arith)
      ∙ (ap (cond (named_at a) (Some (a + 1))) (standing_found (a + 1) n (omega arith))
      ∙ next (named_at a) a (find named_at (range_with_len (a + 1) n)))

pub first_named : (f name : List ℕ) → stands_for f name ≡ option_map (λ i. i + 1) (find (named_at (parts f) name) (range_with_len 0 (count_of f)))
first_named f name = standing_found (parts f) name 0 (count_of f) (omega (arith, length_parts f))

same_option : (r : Option ℕ) → option_map (λ i. i) r ≡ r
same_option (Some i) = refl
same_option None = refl

-- the place of the record that stands for a name, if there is one
abbrev pub Place : List ℕ → List ℕ → Option ℕ → Type 0
Place f name r = MatchOption r (stands_for f name ≡ None) (λ i. (i < count_of f) × (stands_for f name ≡ Some (i + 1)) × (name_at f i ≡ name))

pub found_or_not : (f name : List ℕ) (r : Option ℕ) (n : ℕ) → option_map (λ i. i) r ≡ find (named_at (parts f) name) (range_with_len 0 n) → n ≡ count_of f → Place f name r
found_or_not f name None n e c = first_named f name ∙ ap (option_map (λ i. i + 1)) (ap (λ k. find (named_at (parts f) name) (range_with_len 0 k)) (sym c) ∙ sym e)
found_or_not f name (Some i) n e c =
    let g : find (named_at (parts f) name) (range_with_len 0 (count_of f)) ≡ Some i = ap (λ k. find (named_at (parts f) name) (range_with_len 0 k)) (sym c) ∙ sym e in
    let r = find_at (named_at (parts f) name) 0 (count_of f) i g in
    (omega (arith, r.0), first_named f name ∙ ap (option_map (λ j. j + 1)) g, (bytes_eq-Decides (name_at f i) name).0 r.1)

module _ (f g name : List ℕ) (is : g ≡ f) (fine : refusal f ≡ None) (r : Option ℕ) (place : Place g name r) where
  placed : Place f name r
  placed = subst (λ h. Place h name r) is place

  pub not_found : r ≡ None → look_up_refusal f name ≡ Some NoSuchName
  not_found e =
      let h : stands_for f name ≡ None = subst (Place f name) e placed in
      ap (λ o. or_else o (cond (is_some (stands_for f name)) None (Some NoSuchName))) fine ∙ ap (λ o. cond (is_some o) None (Some NoSuchName)) h

  pub found : (i offset len : ℕ) (bytes : List ℕ) → r ≡ Some i → (offset, len) ≡ get_or (directory g) i (0, 0) → bytes ≡ get_or (parts g) i [] → FoundAt f name (i + 1) offset bytes
  found i offset len bytes e p' b' =
      let t : Place f name (Some i) = subst (Place f name) e placed in
      let p : (offset, len) ≡ get_or (directory f) i (0, 0) = p' ∙ ap (λ h. get_or (directory h) i (0, 0)) is in
      let b : bytes ≡ get_or (parts f) i [] = b' ∙ ap (λ h. get_or (parts h) i []) is in
      let s = sound f (or_else_none (file_fault f) (records_fault [] 1 (parts f)) fine).0 in
      let r = part_inside f s i t.0 in
      let q = b ∙ (get_or_parts f s i t.0 ∙ ap (part_at f) (sym p)) in
      let o = ap (λ x. x.0) p in
      let m = ap (λ x. x.1) p in
      let l : length bytes ≡ len = ap length q ∙ simp (length-take, length-drop) (omega arith) in
      let k : i + 1 - 1 ≡ i = omega arith in
      record {
        accepted = ap (λ x. or_else x (cond (is_some (stands_for f name)) None (Some NoSuchName))) fine ∙ ap (λ x. cond (is_some x) None (Some NoSuchName)) t.1;
        stands = t.1;
        place = ap (λ j. get_or (directory f) j (0, 0)) k ∙ (sym p ∙ (λ j. (offset, sym l j)));
        part = q ∙ (λ j. part_at f (offset, sym l j));
        named = ap name_of b ∙ t.2;
      }
