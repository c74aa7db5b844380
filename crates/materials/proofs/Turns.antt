-- One turn of the loops over a file's records. Assumes nothing.
use Rattle.std.proofs.Common.{◌≡◌, ℕ, zero, suc, ◌+◌, ◌<◌, ◌≤◌, Bool, true, false, cond, ◌||◌, List, [], ◌∷◌, ◌++◌, map, length, get_or, take, drop, Some, None, Option, sym, refl, ap, ◌∙◌, subst, ⊎_elim, add-one, arith}
use Rattle.std.specs.List.{AllByRecursion, list_any, range_with_len}
use Rattle.std.specs.Str.{bytes_eq}
use Rattle.std.proofs.lemmas.List.{length-map, length-take, drop_more, at_drop_more, at_drop_all, get_or-map, get_or-take, map_more, drop_all}
use Rattle.std.proofs.lemmas.Bool.{or_parts, both_ways, cases_order}
use Rattle.std.proofs.lemmas.Slice.Eq.{bytes_eq-Decides}
use Rattle.materials.specs.declared.refusal.RecordFault.{RecordFault}
use Rattle.materials.specs.declared.refusal.RecordFault.TheVariants.{NameUsedEarlier}
use Rattle.materials.specs.declared.refusal.Refusal.{Refusal}
use Rattle.materials.specs.declared.refusal.Refusal.TheVariants.{InRecord}
use Rattle.materials.specs.Refusals.{or_else}
use Rattle.materials.specs.Records.{has_name}
use Rattle.materials.specs.Files.{parts, directory, part_at, count_of, faults_in, used_fault, numbered}
use Rattle.materials.proofs.Places.{length_pairs}
use Rattle.materials.proofs.Rows.{some_none, or_else_none, numbered_none}

pub length_parts : (f : List ℕ) → length (parts f) ≡ count_of f
length_parts f = length-map (directory f) (part_at f) ∙ length_pairs (count_of f) (drop 2 f)

unused : (b : Bool) → cond b (Some NameUsedEarlier) None ≡ None → b ≡ false
unused true h = absurd (some_none NameUsedEarlier h)
unused false h = refl

has_name_drop : (ms : List (List ℕ)) (i : ℕ) (n : List ℕ) → has_name ms n ≡ false → has_name (drop i ms) n ≡ false
has_name_drop [] i n h = ap (λ l. has_name l n) (drop_all i [] (omega arith))
has_name_drop (m ∷ ms) zero n h = h
has_name_drop (m ∷ ms) (suc i) n h = has_name_drop ms i n (or_parts (bytes_eq m n) (has_name ms n) h).1

-- the places below a number are the elements before it
pub any_below : {X : Type 0} (q : X → Bool) (xs : List X) (d : X) (a n : ℕ) → a + n ≤ length xs → list_any (λ j. q (get_or xs j d)) (range_with_len a n) ≡ list_any q (take n (drop a xs))
any_below q xs d a zero h = refl
any_below q xs d a (suc n) h = (λ i. q (get_or xs a d) || any_below q xs d (a + 1) n (omega arith) i) ∙ sym (ap (λ l. list_any q (take (suc n) l)) (drop_more xs a d (omega arith)))

pub any_map : {X Y : Type 0} (q : Y → Bool) (g : X → Y) (xs : List X) → list_any q (map g xs) ≡ list_any (λ x. q (g x)) xs
any_map q g [] = refl
any_map q g (x ∷ xs) = ap (λ b. q (g x) || b) (any_map q g xs)

-- the list is of the parts of a file, or of the materials to be written
module _ {X : Type 0} (own : X → Option RecordFault) (called : X → List ℕ) (xs : List X) where
  abbrev pub called_below : ℕ → List (List ℕ)
  called_below i = map called (take i xs)

  pub length_called : (i : ℕ) → i ≤ length xs → length (called_below i) ≡ i
  length_called i h = length-map (take i xs) called ∙ simp length-take (omega arith)

  pub names_all : (i j : ℕ) (n : List ℕ) → i ≤ length xs → i ≤ j → has_name (drop j (called_below i)) n ≡ false
  names_all i j n h l = at_drop_all (λ m. has_name m n) (called_below i) j (rw (length_called i h) l)

  abbrev pub rest_of : ℕ → Option Refusal
  rest_of i = faults_in own called (called_below i) (i + 1) (drop i xs)

  pub ends : (i : ℕ) → length xs ≤ i → rest_of i ≡ None
  ends i h = at_drop_all (faults_in own called (called_below i) (i + 1)) xs i h

module _ {X : Type 0} (own : X → Option RecordFault) (called : X → List ℕ) (xs : List X) (d : X) where
  abbrev below : ℕ → List (List ℕ)
  below i = called_below own called xs i

  abbrev left : ℕ → Option Refusal
  left i = rest_of own called xs i

  pub called_at : (i j : ℕ) → i ≤ length xs → j < i → get_or (below i) j [] ≡ called (get_or xs j d)
  called_at i j h l =
      let k : j < length (take i xs) = simp length-take (omega arith) in
      get_or-map called (take i xs) j d [] k ∙ ap called (get_or-take i xs j d l)

  pub names_more : (i j : ℕ) (n : List ℕ) → i ≤ length xs → j < i → has_name (drop j (below i)) n ≡ (bytes_eq (called (get_or xs j d)) n || has_name (drop (j + 1) (below i)) n)
  names_more i j n h l =
      let k : j < length (below i) = rw (length_called own called xs i h) l in
      at_drop_more (λ m. has_name m n) (below i) j [] k ∙ ap (λ x. bytes_eq x n || has_name (drop (j + 1) (below i)) n) (called_at i j h l)

  abbrev pub after_own : ℕ → Option RecordFault
  after_own i = or_else (own (get_or xs i d)) (used_fault (below i) (called (get_or xs i d)))

  -- the same of an element that stands there
  pub own_here : (i : ℕ) (x : X) → x ≡ get_or xs i d → or_else (own x) (used_fault (below i) (called x)) ≡ after_own i
  own_here i x e = ap (λ y. or_else (own y) (used_fault (below i) (called y))) e

  turn : (i : ℕ) → i < length xs → left i ≡ numbered (i + 1) (after_own i) (left (i + 1))
  turn i h =
      at_drop_more (faults_in own called (below i) (i + 1)) xs i d h
      ∙ ap (λ e. numbered (i + 1) (after_own i) (faults_in own called e (i + 1 + 1) (drop (i + 1) xs))) (sym (map_more called xs i d h))

  -- a turn that stops at an element, and one that goes on
  pub stops_at : (i : ℕ) → i < length xs → (e : RecordFault) → after_own i ≡ Some e → left i ≡ Some (InRecord (i + 1) e)
  stops_at i h e k = turn i h ∙ ap (λ o. numbered (i + 1) o (left (i + 1))) k

  pub goes_on : (i : ℕ) → i < length xs → after_own i ≡ None → left i ≡ left (i + 1)
  goes_on i h k = turn i h ∙ ap (λ o. numbered (i + 1) o (left (i + 1))) k

  -- one of the names before place i
  pub named_below : (i : ℕ) (n : List ℕ) → i ≤ length xs → list_any (λ j. bytes_eq (called (get_or xs j d)) n) (range_with_len 0 i) ≡ has_name (below i) n
  named_below i n h = any_below (λ x. bytes_eq (called x) n) xs d 0 i (omega arith) ∙ sym (any_map (λ m. bytes_eq m n) called (take i xs))

-- a list that is not refused has no element with a fault
pub all_sound : {X : Type 0} (own : X → Option RecordFault) (called : X → List ℕ) (e : List (List ℕ)) (n : ℕ) (xs : List X) → faults_in own called e n xs ≡ None → AllByRecursion (λ x. own x ≡ None) xs
all_sound own called e n [] h = tt
all_sound own called e n (x ∷ xs) h =
    let k = numbered_none n (or_else (own x) (used_fault e (called x))) (faults_in own called (e ++ called x ∷ []) (n + 1) xs) h in
    ((or_else_none (own x) _ k.0).0, all_sound own called (e ++ called x ∷ []) (n + 1) xs k.1)

-- in a list that is not refused no name is used twice
module _ {X : Type 0} (own : X → Option RecordFault) (called : X → List ℕ) (xs : List X) (d : X) (none : faults_in own called [] 1 xs ≡ None) where
  none_left : (i : ℕ) → i ≤ length xs → rest_of own called xs i ≡ None
  none_left zero h = none
  none_left (suc i) h =
      let l : i < length xs = omega arith in
      let r = numbered_none (i + 1) (after_own own called xs d i) (rest_of own called xs (i + 1)) (sym (turn own called xs d i l) ∙ none_left i (omega arith)) in
      subst (λ k. rest_of own called xs k ≡ None) (add-one i) r.1

  new_name : (i : ℕ) → i < length xs → has_name (called_below own called xs i) (called (get_or xs i d)) ≡ false
  new_name i h =
      let r = numbered_none (i + 1) (after_own own called xs d i) (rest_of own called xs (i + 1)) (sym (turn own called xs d i h) ∙ none_left i (omega arith)) in
      let u = or_else_none (own (get_or xs i d)) (used_fault (called_below own called xs i) (called (get_or xs i d))) r.0 in
      unused (has_name (called_below own called xs i) (called (get_or xs i d))) u.1

  differ : (i j : ℕ) → i < j → j < length xs → called (get_or xs i d) ≡ called (get_or xs j d) → ⊥
  differ i j l h e =
      let n = called (get_or xs j d) in
      let a = names_more own called xs d j i n (omega arith) l in
      let b = has_name_drop (called_below own called xs j) i n (new_name j h) in
      let c = or_parts (bytes_eq (called (get_or xs i d)) n) (has_name (drop (i + 1) (called_below own called xs j)) n) (sym a ∙ b) in
      both_ways (bytes_eq (called (get_or xs i d)) n) c.0 ((bytes_eq-Decides (called (get_or xs i d)) n).1 e)

  pub same_number : (i j : ℕ) → i < length xs → j < length xs → called (get_or xs i d) ≡ called (get_or xs j d) → i ≡ j
  same_number i j h k e =
      ⊎_elim (λ (p : i ≡ j). p)
      (λ o. ⊎_elim (λ (p : i < j). absurd (differ i j p k e)) (λ (p : j < i). absurd (differ j i p h (sym e))) o)
      (cases_order i j)
