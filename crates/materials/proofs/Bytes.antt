-- Big-endian numbers there and back. Assumes nothing.
use Rattle.std.proofs.Common.{◌≡◌, ℕ, zero, suc, ◌+◌, ◌*◌, ◌/◌, ◌%◌, ◌<◌, ◌≤◌, List, [], ◌∷◌, ◌++◌, length, get_or, drop, sym, ap, ◌∙◌, subst, arith, w32, to_z}
use Rattle.std.specs.List.{flat_map}
use Rattle.std.proofs.lemmas.List.{get_or-drop, drop_more, append_assoc, append-nil, length-drop, drop-drop, drop_all}
use Rattle.std.proofs.lemmas.Int.{of_z-to_z}
use Rattle.materials.specs.Layout.{two, four, two_at, four_at, words, coded}

-- each number of the list is a byte
abbrev pub Bytes : List ℕ → Type 0
Bytes bs = (i : ℕ) → get_or bs i 0 < 256

pub bytes_drop : (n : ℕ) (bs : List ℕ) → Bytes bs → Bytes (drop n bs)
bytes_drop n bs h i = subst (λ x. x < 256) (sym (get_or-drop n bs i 0)) (h (n + i))

pub two_of : (a b : ℕ) → a < 256 → b < 256 → two (a * 256 + b) ≡ a ∷ b ∷ []
two_of a b p q =
    let x : (a * 256 + b) / 256 % 256 ≡ a = omega arith in
    let y : (a * 256 + b) % 256 ≡ b = omega arith in
    λ i. x i ∷ y i ∷ []

pub four_of : (a b c d : ℕ) → a < 256 → b < 256 → c < 256 → d < 256 → four (a * 16777216 + b * 65536 + c * 256 + d) ≡ a ∷ b ∷ c ∷ d ∷ []
four_of a b c d p q r s =
    let w : (a * 16777216 + b * 65536 + c * 256 + d) / 16777216 % 256 ≡ a = omega arith in
    let x : (a * 16777216 + b * 65536 + c * 256 + d) / 65536 % 256 ≡ b = omega arith in
    let y : (a * 16777216 + b * 65536 + c * 256 + d) / 256 % 256 ≡ c = omega arith in
    let z : (a * 16777216 + b * 65536 + c * 256 + d) % 256 ≡ d = omega arith in
    λ i. w i ∷ x i ∷ y i ∷ z i ∷ []

pub two_back : (bs : List ℕ) → Bytes bs → two (two_at bs) ≡ get_or bs 0 0 ∷ get_or bs 1 0 ∷ []
two_back bs h = two_of (get_or bs 0 0) (get_or bs 1 0) (h 0) (h 1)

pub four_back : (bs : List ℕ) → Bytes bs → four (four_at bs) ≡ get_or bs 0 0 ∷ get_or bs 1 0 ∷ get_or bs 2 0 ∷ get_or bs 3 0 ∷ []
four_back bs h = four_of (get_or bs 0 0) (get_or bs 1 0) (get_or bs 2 0) (get_or bs 3 0) (h 0) (h 1) (h 2) (h 3)

pub cons_two : (bs : List ℕ) → 2 ≤ length bs → bs ≡ get_or bs 0 0 ∷ get_or bs 1 0 ∷ drop 2 bs
cons_two bs h = drop_more bs 0 0 (omega arith) ∙ ap (λ l. get_or bs 0 0 ∷ l) (drop_more bs 1 0 (omega arith))

pub cons_four : (bs : List ℕ) → 4 ≤ length bs → bs ≡ get_or bs 0 0 ∷ get_or bs 1 0 ∷ get_or bs 2 0 ∷ get_or bs 3 0 ∷ drop 4 bs
cons_four bs h = drop_more bs 0 0 (omega arith) ∙ ap (λ l. get_or bs 0 0 ∷ l) (drop_more bs 1 0 (omega arith) ∙ ap (λ l. get_or bs 1 0 ∷ l) (drop_more bs 2 0 (omega arith) ∙ ap (λ l. get_or bs 2 0 ∷ l) (drop_more bs 3 0 (omega arith))))

pub cons_seven : (bs : List ℕ) → 7 ≤ length bs → bs ≡ get_or bs 0 0 ∷ get_or bs 1 0 ∷ get_or bs 2 0 ∷ get_or bs 3 0 ∷ get_or bs 4 0 ∷ get_or bs 5 0 ∷ get_or bs 6 0 ∷ drop 7 bs
cons_seven bs h = drop_more bs 0 0 (omega arith) ∙ ap (λ l. get_or bs 0 0 ∷ l) (drop_more bs 1 0 (omega arith) ∙ ap (λ l. get_or bs 1 0 ∷ l) (drop_more bs 2 0 (omega arith) ∙ ap (λ l. get_or bs 2 0 ∷ l) (drop_more bs 3 0 (omega arith) ∙ ap (λ l. get_or bs 3 0 ∷ l) (drop_more bs 4 0 (omega arith) ∙ ap (λ l. get_or bs 4 0 ∷ l) (drop_more bs 5 0 (omega arith) ∙ ap (λ l. get_or bs 5 0 ∷ l) (drop_more bs 6 0 (omega arith)))))))

pub four_at_small : (bs : List ℕ) → Bytes bs → four_at bs < 4294967296
four_at_small bs h = omega (arith, h 0, h 1, h 2, h 3)

-- a coefficient's bytes, read and written
pub coded_back : (bs : List ℕ) → Bytes bs → coded (to_z w32 (four_at bs)) ≡ get_or bs 0 0 ∷ get_or bs 1 0 ∷ get_or bs 2 0 ∷ get_or bs 3 0 ∷ []
coded_back bs h = ap four (of_z-to_z w32 (four_at bs) (four_at_small bs h)) ∙ four_back bs h

-- and all of them
pub coded_words : (n : ℕ) (bs rest : List ℕ) → 4 * n ≤ length bs → Bytes bs → rest ≡ drop (4 * n) bs → flat_map coded (words n bs) ++ rest ≡ bs
coded_words zero bs rest l h e = e
coded_words (suc n) bs rest l h e =
    let k : rest ≡ drop (4 * n) (drop 4 bs) = e ∙ (ap (λ i. drop i bs) (omega arith) ∙ sym (drop-drop (4 * n) 4 bs)) in
    let r : flat_map coded (words n (drop 4 bs)) ++ rest ≡ drop 4 bs = coded_words n (drop 4 bs) rest (simp length-drop (omega arith)) (bytes_drop 4 bs h) k in
    append_assoc (coded (to_z w32 (four_at bs))) (flat_map coded (words n (drop 4 bs))) rest ∙ ((λ i. coded_back bs h i ++ r i) ∙ sym (cons_four bs (omega arith)))

pub coded_both : (n m : ℕ) (bs : List ℕ) → length bs ≡ 4 * n + 4 * m → Bytes bs → flat_map coded (words n bs) ++ flat_map coded (words m (drop (4 * n) bs)) ≡ bs
coded_both n m bs l h =
    let d = drop (4 * n) bs in
    let z : flat_map coded (words m d) ++ [] ≡ d = coded_words m d [] (simp length-drop (omega arith)) (bytes_drop (4 * n) bs h) (sym (drop_all (4 * m) d (simp length-drop (omega arith)))) in
    coded_words n bs (flat_map coded (words m d)) (omega arith) h (sym (append-nil (flat_map coded (words m d))) ∙ z)
