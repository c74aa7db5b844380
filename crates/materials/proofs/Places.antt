-- Pairs and the parts that they name. Assumes nothing.
use Rattle.std.proofs.Common.{drop-drop, ◌≡◌, ℕ, zero, suc, ◌+◌, ◌-◌, ◌*◌, ◌<◌, ◌≤◌, min, Bool, cond, eqb, List, [], ◌∷◌, map, length, get_or, take, drop, Some, None, Option, sym, refl, ap, ◌∙◌, ⊎_elim, arith}
use Rattle.std.proofs.lemmas.List.{get_or-drop, get_or-take, drop-take, get_or-map, length-map, take_all, at_drop_more, at_drop_all}
use Rattle.std.proofs.lemmas.Bool.{eqb-true, cases_lt}
use Rattle.std.proofs.lemmas.Bool.Decides.{nat_tests, same_from_decides, Decides-eqb}
use Rattle.std.proofs.lemmas.Slice.Eq.{slice_eq-Decides, bytes_eq-Decides}
use Rattle.std.specs.Cmp.Lexicographic.{pointwise}
use Rattle.std.specs.Str.{bytes_eq}
use Rattle.std.specs.Simd.{first_chunks}
use Rattle.materials.specs.Layout.{four_at, two_at}
use Rattle.materials.specs.declared.refusal.Refusal.{Refusal}
use Rattle.materials.specs.declared.refusal.Refusal.TheVariants.{PairOutOfPlace, FileEndOutOfPlace}
use Rattle.materials.specs.Files.{pair_in, pairs_of, misplaced, count_of, directory, parts, part_at, size_fault, file_fault}
use Rattle.materials.specs.Refusals.{or_else}
use Rattle.materials.proofs.Rows.{cond_none, or_else_none}

pub length_pairs : (n : ℕ) (bs : List ℕ) → length (pairs_of n bs) ≡ n
length_pairs zero bs = refl
length_pairs (suc n) bs = ap suc (length_pairs n (drop 6 bs))

pub get_or_pairs : (n : ℕ) (bs : List ℕ) (i : ℕ) (d : ℕ × ℕ) → i < n → get_or (pairs_of n bs) i d ≡ (four_at (drop (6 * i) bs), two_at (drop (6 * i + 4) bs))
get_or_pairs zero bs i d h = absurd (omega arith)
get_or_pairs (suc n) bs zero d h = refl
get_or_pairs (suc n) bs (suc i) d h =
    let a : drop (6 * i) (drop 6 bs) ≡ drop (6 * suc i) bs = drop-drop (6 * i) 6 bs ∙ ap (λ k. drop k bs) (omega arith) in
    let b : drop (6 * i + 4) (drop 6 bs) ≡ drop (6 * suc i + 4) bs = drop-drop (6 * i + 4) 6 bs ∙ ap (λ k. drop k bs) (omega arith) in
    get_or_pairs n (drop 6 bs) i d (omega arith) ∙ (λ j. (four_at (a j), two_at (b j)))

pub placed_le : (n o : ℕ) (ps : List (ℕ × ℕ)) (end : ℕ) → misplaced n o ps end ≡ None → o ≤ end
placed_le n o [] end h = let e = eqb-true o end (cond_none (eqb o end) None FileEndOutOfPlace h).0 in omega arith
placed_le n o (p ∷ ps) end h =
    let k = cond_none (eqb p.0 o) (misplaced (n + 1) (o + p.1) ps end) (PairOutOfPlace n) h in
    let r = placed_le (n + 1) (o + p.1) ps end k.1 in
    omega arith

-- each pair lies inside
pub placed_at : (n o : ℕ) (ps : List (ℕ × ℕ)) (end i : ℕ) (d : ℕ × ℕ) → misplaced n o ps end ≡ None → i < length ps → (o ≤ (get_or ps i d).0) × ((get_or ps i d).0 + (get_or ps i d).1 ≤ end)
placed_at n o [] end i d h l = absurd (omega arith)
placed_at n o (p ∷ ps) end zero d h l =
    let k = cond_none (eqb p.0 o) (misplaced (n + 1) (o + p.1) ps end) (PairOutOfPlace n) h in
    let e = eqb-true p.0 o k.0 in
    let r = placed_le (n + 1) (o + p.1) ps end k.1 in
    (omega arith, omega arith)
placed_at n o (p ∷ ps) end (suc i) d h l =
    let k = cond_none (eqb p.0 o) (misplaced (n + 1) (o + p.1) ps end) (PairOutOfPlace n) h in
    let r = placed_at (n + 1) (o + p.1) ps end i d k.1 (omega arith) in
    (omega arith, r.1)

-- what is known of a file whose pairs are in place
pub record Sound (f : List ℕ) : Type 0 where
  pub some : 2 ≤ length f
  pub few : length f ≤ 65000
  pub count : count_of f ≤ 512
  pub room : 2 + 6 * count_of f ≤ length f
  pub placed : misplaced 1 (2 + 6 * count_of f) (directory f) (length f) ≡ None

pub sound : (f : List ℕ) → file_fault f ≡ None → Sound f
sound f h =
    let k = or_else_none (size_fault f) (misplaced 1 (2 + 6 * count_of f) (directory f) (length f)) h in
    let s = k.0 in
    record { some = grind (arith, nat_tests); few = grind (arith, nat_tests); count = grind (arith, nat_tests); room = grind (arith, nat_tests); placed = k.1 }

-- one pair of the check of their places
pub placed_more : (ps : List (List ℕ)) (i at end : ℕ) (d : List ℕ) → i < length ps → misplaced (i + 1) at (map pair_in (drop i ps)) end ≡ cond (eqb (four_at (get_or ps i d)) at) (misplaced (i + 1 + 1) (at + two_at (drop 4 (get_or ps i d))) (map pair_in (drop (i + 1) ps)) end) (Some (PairOutOfPlace (i + 1)))
placed_more ps i at end d h = at_drop_more (λ qs. misplaced (i + 1) at (map pair_in qs) end) ps i d h

-- and the file's end
pub placed_end : (ps : List (List ℕ)) (i at end : ℕ) → length ps ≤ i → misplaced (i + 1) at (map pair_in (drop i ps)) end ≡ cond (eqb at end) None (Some FileEndOutOfPlace)
placed_end ps i at end h = at_drop_all (λ qs. misplaced (i + 1) at (map pair_in qs) end) ps i h

-- a pair is read from no more bytes than it takes
pair_taken : (m : ℕ) (bs : List ℕ) → 6 ≤ m → pair_in (take m bs) ≡ pair_in bs
pair_taken m bs h =
    let a : get_or (take m bs) 0 0 ≡ get_or bs 0 0 = get_or-take m bs 0 0 (omega arith) in
    let b : get_or (take m bs) 1 0 ≡ get_or bs 1 0 = get_or-take m bs 1 0 (omega arith) in
    let c : get_or (take m bs) 2 0 ≡ get_or bs 2 0 = get_or-take m bs 2 0 (omega arith) in
    let d : get_or (take m bs) 3 0 ≡ get_or bs 3 0 = get_or-take m bs 3 0 (omega arith) in
    let e : get_or (drop 4 (take m bs)) 0 0 ≡ get_or (drop 4 bs) 0 0 = get_or-drop 4 (take m bs) 0 0 ∙ (get_or-take m bs 4 0 (omega arith) ∙ sym (get_or-drop 4 bs 0 0)) in
    let g : get_or (drop 4 (take m bs)) 1 0 ≡ get_or (drop 4 bs) 1 0 = get_or-drop 4 (take m bs) 1 0 ∙ (get_or-take m bs 5 0 (omega arith) ∙ sym (get_or-drop 4 bs 1 0)) in
    let o : four_at (take m bs) ≡ four_at bs = cc in
    let l : two_at (drop 4 (take m bs)) ≡ two_at (drop 4 bs) = cc in
    λ i. (o i, l i)

-- pairs are read by six bytes, from the bytes that they take
pub pairs_chunked : (n m : ℕ) (bs : List ℕ) → 6 * n ≤ m → map pair_in (first_chunks 6 n (take m bs)) ≡ pairs_of n bs
pairs_chunked zero m bs h = refl
pairs_chunked (suc n) m bs h =
    let p : pair_in (take 6 (take m bs)) ≡ pair_in bs = pair_taken 6 (take m bs) (omega arith) ∙ pair_taken m bs (omega arith) in
    let k : m ≡ 6 + (m - 6) = omega arith in
    let s : drop 6 (take m bs) ≡ take (m - 6) (drop 6 bs) = ap (λ i. drop 6 (take i bs)) k ∙ drop-take 6 (m - 6) bs in
    let r : map pair_in (first_chunks 6 n (drop 6 (take m bs))) ≡ pairs_of n (drop 6 bs) = ap (λ l. map pair_in (first_chunks 6 n l)) s ∙ pairs_chunked n (m - 6) (drop 6 bs) (omega arith) in
    λ i. p i ∷ r i

-- the pairs of a file, as six bytes each
pub listed_chunks : (f : List ℕ) (n m k : ℕ) (ps : List (List ℕ)) → n ≡ count_of f → m ≡ 6 * n → k ≡ n → ps ≡ first_chunks 6 k (take m (drop 2 f)) → map pair_in ps ≡ directory f
listed_chunks f n m k ps c e g h =
    ap (map pair_in) h
    ∙ (ap (λ j. map pair_in (first_chunks 6 j (take m (drop 2 f)))) g
    ∙ (pairs_chunked n m (drop 2 f) (omega arith) ∙ ap (λ j. pairs_of j (drop 2 f)) c))

-- past the sizes the places decide
pub places_decide : (f : List ℕ) (n : ℕ) (ps : List (List ℕ)) (o : Option Refusal) → n ≡ count_of f → size_fault f ≡ None → map pair_in ps ≡ directory f → misplaced 1 (2 + 6 * n) (map pair_in ps) (length f) ≡ o → file_fault f ≡ o
places_decide f n ps o c s e h = (λ i. or_else (s i) (misplaced 1 (2 + 6 * sym c i) (sym e i) (length f))) ∙ h

-- the count of the pairs of a file
pub length_listed : (f : List ℕ) (ps : List (List ℕ)) → map pair_in ps ≡ directory f → length ps ≡ count_of f
length_listed f ps e = sym (length-map ps pair_in) ∙ (ap length e ∙ length_pairs (count_of f) (drop 2 f))

module _ (f : List ℕ) (s : Sound f) (i : ℕ) (h : i < count_of f) where
  pub get_or_parts : get_or (parts f) i [] ≡ part_at f (get_or (directory f) i (0, 0))
  get_or_parts =
      let l : i < length (directory f) = rw length_pairs h in
      get_or-map (part_at f) (directory f) i (0, 0) [] l

  pub part_inside : (2 + 6 * count_of f ≤ (get_or (directory f) i (0, 0)).0) × ((get_or (directory f) i (0, 0)).0 + (get_or (directory f) i (0, 0)).1 ≤ length f)
  part_inside =
      let l : i < length (directory f) = rw length_pairs h in
      placed_at 1 (2 + 6 * count_of f) (directory f) (length f) i (0, 0) s.placed l

pub take_min : (n m : ℕ) (xs : List ℕ) → m ≡ min n (length xs) → take m xs ≡ take n xs
take_min n m xs e =
    ⊎_elim
    (λ (h : n < length xs). let k : m ≡ n = omega arith in ap (λ i. take i xs) k)
    (λ (h : length xs ≤ n). take_all m xs (omega arith) ∙ sym (take_all n xs h))
    (cases_lt n (length xs))

pub same_test : (xs ys : List ℕ) (r : Bool) → r ≡ pointwise eqb xs ys → r ≡ bytes_eq xs ys
same_test xs ys r h = same_from_decides r (bytes_eq xs ys) (slice_eq-Decides Decides-eqb xs ys r h) (bytes_eq-Decides xs ys)
