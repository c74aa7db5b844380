-- Coefficients as bytes, and the ends of a word. Assumes nothing.
use Rattle.std.proofs.Common.{◌≡◌, ℕ, zero, suc, ◌+◌, ◌-◌, ◌*◌, ◌/◌, ◌^◌, ◌<◌, ◌≤◌, List, [], ◌∷◌, ◌++◌, map, length, get_or, take, drop, ℤ, sym, refl, ap, ◌∙◌, arith, w32, to_z}
use Rattle.std.proofs.lemmas.List.{take_rest, length-drop, length-take, append_assoc, get_or-take, drop-take}
use Rattle.std.proofs.lemmas.Nat.{pow_below}
use Rattle.std.specs.Simd.{first_chunks}
use Rattle.std.specs.List.{list_all}
use Rattle.std.proofs.lemmas.List.Folds.{list_all-map}
use Rattle.arithmetic.specs.Words.{inside}
use Rattle.materials.specs.Layout.{words, word_at, four_at}
use Rattle.materials.specs.Records.{words_ok}

pub half_small : (w : ℕ) → w ≤ 24 → 2 ^ (w - 1) < 16777216
half_small w h = pow_below (w - 1) 24 (omega arith)

-- four bytes are one coefficient, and what follows is as a slice pattern has it
pub words_more : (rest : List ℕ) → 4 ≤ length rest → words (length rest / 4) rest ≡ to_z w32 (four_at rest) ∷ words (length (take (length rest - 4) (drop 4 rest)) / 4) (take (length rest - 4) (drop 4 rest))
words_more rest h =
    let r : take (length rest - 4) (drop 4 rest) ≡ drop 4 rest = take_rest rest 4 in
    let n : length rest / 4 ≡ suc (length (drop 4 rest) / 4) = simp length-drop (omega arith) in
    rw r (ap (λ k. words k rest) n)

pub words_pushed : (out now all : List ℤ) (rest : List ℕ) (z : ℤ) → 4 ≤ length rest → now ≡ out ++ z ∷ [] → z ≡ to_z w32 (four_at rest) → out ++ words (length rest / 4) rest ≡ all → now ++ words (length (take (length rest - 4) (drop 4 rest)) / 4) (take (length rest - 4) (drop 4 rest)) ≡ all
words_pushed out now all rest z h e f g =
    let more = words (length (take (length rest - 4) (drop 4 rest)) / 4) (take (length rest - 4) (drop 4 rest)) in
    ap (λ l. l ++ more) e ∙ append_assoc out (z ∷ []) more ∙ ap (λ y. out ++ y ∷ more) f ∙ ap (λ l. out ++ l) (sym (words_more rest h)) ∙ g

pub length_words : (n : ℕ) (bs : List ℕ) → length (words n bs) ≡ n
length_words zero bs = refl
length_words (suc n) bs = ap suc (length_words n (drop 4 bs))

-- coefficients are read from the bytes that they take
pub words_take : (n m : ℕ) (bs : List ℕ) → m ≡ 4 * n → words n (take m bs) ≡ words n bs
words_take zero m bs e = refl
words_take (suc n) m bs e =
    let a : get_or (take m bs) 0 0 ≡ get_or bs 0 0 = get_or-take m bs 0 0 (omega arith) in
    let b : get_or (take m bs) 1 0 ≡ get_or bs 1 0 = get_or-take m bs 1 0 (omega arith) in
    let c : get_or (take m bs) 2 0 ≡ get_or bs 2 0 = get_or-take m bs 2 0 (omega arith) in
    let d : get_or (take m bs) 3 0 ≡ get_or bs 3 0 = get_or-take m bs 3 0 (omega arith) in
    let k : m ≡ 4 + (m - 4) = omega arith in
    let s : drop 4 (take m bs) ≡ take (m - 4) (drop 4 bs) = ap (λ i. drop 4 (take i bs)) k ∙ drop-take 4 (m - 4) bs in
    let r : words n (drop 4 (take m bs)) ≡ words n (drop 4 bs) = ap (words n) s ∙ words_take n (m - 4) (drop 4 bs) (omega arith) in
    let f : four_at (take m bs) ≡ four_at bs = cc in
    λ i. to_z w32 (f i) ∷ r i

-- coefficients are read from the bytes by four
pub words_chunked : (n : ℕ) (bs : List ℕ) → map word_at (first_chunks 4 n bs) ≡ words n bs
words_chunked zero bs = refl
words_chunked (suc n) bs =
    let a : get_or (take 4 bs) 0 0 ≡ get_or bs 0 0 = get_or-take 4 bs 0 0 (omega arith) in
    let b : get_or (take 4 bs) 1 0 ≡ get_or bs 1 0 = get_or-take 4 bs 1 0 (omega arith) in
    let c : get_or (take 4 bs) 2 0 ≡ get_or bs 2 0 = get_or-take 4 bs 2 0 (omega arith) in
    let d : get_or (take 4 bs) 3 0 ≡ get_or bs 3 0 = get_or-take 4 bs 3 0 (omega arith) in
    let f : four_at (take 4 bs) ≡ four_at bs = cc in
    λ i. to_z w32 (f i) ∷ words_chunked n (drop 4 bs) i

pub chunks_hold : (w n : ℕ) (bs : List ℕ) → list_all (λ c. inside w (word_at c)) (first_chunks 4 n bs) ≡ words_ok w (words n bs)
chunks_hold w n bs = sym (list_all-map (inside w) word_at (first_chunks 4 n bs)) ∙ ap (words_ok w) (words_chunked n bs)

-- the same, as a part of a slice has it
pub words_front : (n : ℕ) (bs : List ℕ) → 4 * n ≤ length bs → words (length (take (4 * n - 0) (drop 0 bs)) / 4) (take (4 * n - 0) (drop 0 bs)) ≡ words n bs
words_front n bs h =
    let z : 4 * n - 0 ≡ 4 * n = omega arith in
    let k : length (take (4 * n) bs) / 4 ≡ n = simp length-take (omega arith) in
    rw z (ap (λ i. words i (take (4 * n) bs)) k ∙ words_take n (4 * n) bs refl)

pub words_back : (n m : ℕ) (bs : List ℕ) → length bs ≡ 4 * n + 4 * m → words (length (take (length bs - 4 * n) (drop (4 * n) bs)) / 4) (take (length bs - 4 * n) (drop (4 * n) bs)) ≡ words m (drop (4 * n) bs)
words_back n m bs h =
    let r : take (length bs - 4 * n) (drop (4 * n) bs) ≡ drop (4 * n) bs = take_rest bs (4 * n) in
    let k : length (drop (4 * n) bs) / 4 ≡ m = simp length-drop (omega arith) in
    rw r (ap (λ i. words i (drop (4 * n) bs)) k)
