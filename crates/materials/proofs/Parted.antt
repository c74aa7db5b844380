-- Two lists of bytes, compared part by part. Assumes nothing.
use Rattle.std.proofs.Common.{drop-drop, ◌≡◌, ℕ, zero, suc, ◌+◌, ◌*◌, Bool, true, false, ◌&&◌, eqb, List, [], ◌∷◌, length, take, drop, sym, refl, ap, ◌∙◌, arith}
use Rattle.std.proofs.Math.Bool.{and_assoc}
use Rattle.std.specs.List.{list_all, zip}
use Rattle.std.specs.Str.{bytes_eq}
use Rattle.std.specs.Simd.{first_chunks}

-- the front parts, and what lies behind them
pub same_cut : (n : ℕ) (xs ys : List ℕ) → (bytes_eq (take n xs) (take n ys) && bytes_eq (drop n xs) (drop n ys)) ≡ bytes_eq xs ys
same_cut zero xs ys = refl
same_cut (suc n) [] [] = refl
same_cut (suc n) [] (y ∷ ys) = refl
same_cut (suc n) (x ∷ xs) [] = refl
same_cut (suc n) (x ∷ xs) (y ∷ ys) =
    and_assoc (eqb x y) (bytes_eq (take n xs) (take n ys)) (bytes_eq (drop n xs) (drop n ys)) ∙ ap (λ t. eqb x y && t) (same_cut n xs ys)

-- all pairs of the first chunks of eight
abbrev pub chunks_same : ℕ → List ℕ → List ℕ → Bool
chunks_same k xs ys = list_all (λ c. bytes_eq c.0 c.1) (zip (first_chunks 8 k xs) (first_chunks 8 k ys))

pub same_chunks : (k : ℕ) (xs ys : List ℕ) → (chunks_same k xs ys && bytes_eq (drop (k * 8) xs) (drop (k * 8) ys)) ≡ bytes_eq xs ys
same_chunks zero xs ys = refl
same_chunks (suc k) xs ys =
    let e : suc k * 8 ≡ 8 + k * 8 = omega arith in
    let a : drop (suc k * 8) xs ≡ drop (k * 8) (drop 8 xs) = ap (λ m. drop m xs) e ∙ sym (drop-drop (k * 8) 8 xs) in
    let b : drop (suc k * 8) ys ≡ drop (k * 8) (drop 8 ys) = ap (λ m. drop m ys) e ∙ sym (drop-drop (k * 8) 8 ys) in
    let f = bytes_eq (take 8 xs) (take 8 ys) in
    let g = chunks_same k (drop 8 xs) (drop 8 ys) in
    (λ i. (f && g) && bytes_eq (a i) (b i))
    ∙ and_assoc f g (bytes_eq (drop (k * 8) (drop 8 xs)) (drop (k * 8) (drop 8 ys)))
    ∙ ap (λ t. f && t) (same_chunks k (drop 8 xs) (drop 8 ys))
    ∙ same_cut 8 xs ys

and_false : (a b : Bool) → false ≡ b → false ≡ (a && b)
and_false false b h = refl
and_false true b h = h

pub other_length : (xs ys : List ℕ) → (length xs ≡ length ys → ⊥) → false ≡ bytes_eq xs ys
other_length [] [] h = absurd (h refl)
other_length [] (y ∷ ys) h = refl
other_length (x ∷ xs) [] h = refl
other_length (x ∷ xs) (y ∷ ys) h = and_false (eqb x y) (bytes_eq xs ys) (other_length xs ys (λ e. h (ap suc e)))
