-- Whole turns of n: the number from 0 to n - 1, and the number from -h to h - 1 where n is twice h.
use Rattle.std.specs.Prelude.{Some, ◌≡◌, ℕ, suc, ◌+◌, ◌-◌, ◌*◌, ◌/◌, ◌%◌, ◌^◌, ◌<◌, ◌≤◌, ℤ, pos, negsuc, ◌+ℤ◌, ◌-ℤ◌, ◌*ℤ◌, neg_ℤ, ◌≤ℤ◌, ◌<ℤ◌, FitsSigned}
use Rattle.std.proofs.Math.Path.{refl, sym, ap}
use Rattle.std.proofs.Common.{◌∙◌, mod-lt, arith, to_z, of_z, subst}
use Rattle.std.proofs.Math.Nat.{div-add-mod}
use borrow.Author.Differences.{ints, up, down, same_in, sum_is_lem, product_is}
use Rattle.std.proofs.Math.IntN.{+ℤ_idl, zero-*ℤ, *ℤ_comm}
use Rattle.std.specs.Int.Signed.{shr_z}
use mir.Syntax.{w64}
use Rattle.std.specs.Int.{int_rem_euclid, int_wrap as left_at}
use Rattle.std.proofs.lemmas.Nat.{pow_pos, pow-add, pow_below, mul-le}
use Rattle.std.proofs.lemmas.Int.{int_wrap_fits, int_wrap-add_left, int_wrap-mul_left, wrapping_mul_is}
use Rattle.arithmetic.specs.Words.{half, Inside}
use Rattle.arithmetic.specs.Overflow.{wrapped}
use Rattle.arithmetic.specs.Divisions.{twice_half, floor_rest, floor_unique}

-- the number from 0 to n - 1 that lies whole turns from z is what a division down leaves over
turned : (n : ℕ) (z : ℤ) → 0 < n → int_rem_euclid z (pos n) ≡ z -ℤ (pos n *ℤ shr_z z n)
turned n (pos a) h = let d : n * (a / n) + a % n ≡ a = div-add-mod a n in omega (arith, ints)
turned n (negsuc a) h =
    let d : n * (a / n) + a % n ≡ a = div-add-mod a n in
    let m : a % n < n = mod-lt a h in
    omega (arith, ints)

module _ (h : ℕ) (raw : ℤ) (some : 0 < h) where
  -- the number from -h to h - 1 that lies whole turns of 2 × h from raw
  abbrev around : ℤ
  around = int_rem_euclid (raw +ℤ pos h) (pos (2 * h)) -ℤ pos h

  around_low : neg_ℤ (pos h) ≤ℤ around
  around_low =
      let r = floor_rest (2 * h) (raw +ℤ pos h) (omega arith) in
      omega (arith, ints, turned (2 * h) (raw +ℤ pos h) (omega arith), r.2)

  around_high : around <ℤ pos h
  around_high =
      let r = floor_rest (2 * h) (raw +ℤ pos h) (omega arith) in
      omega (arith, ints, turned (2 * h) (raw +ℤ pos h) (omega arith), r.1, r.2)

  around_by : (z q : ℤ) (r : ℕ) → z +ℤ pos h ≡ pos r → r < 2 * h → raw ≡ (pos (2 * h) *ℤ q) +ℤ z → around ≡ z
  around_by z q r s k e =
      let u : shr_z (raw +ℤ pos h) (2 * h) ≡ q = floor_unique (2 * h) r (raw +ℤ pos h) q k (omega (arith, ints)) in
      omega (arith, ints, turned (2 * h) (raw +ℤ pos h) (omega arith) ∙ ap (λ x. (raw +ℤ pos h) -ℤ (pos (2 * h) *ℤ x)) u)

  -- there is one such number
  around_is : (z q : ℤ) → neg_ℤ (pos h) ≤ℤ z → z <ℤ pos h → raw ≡ (pos (2 * h) *ℤ q) +ℤ z → around ≡ z
  around_is (pos a) q low high e = around_by (pos a) q (a + h) (omega (arith, ints)) (omega (arith, ints)) e
  around_is (negsuc a) q low high e = around_by (negsuc a) q (h - suc a) (omega (arith, ints)) (omega (arith, ints)) e

-- ---- the same of words

-- a wrapped number is a word
pub wrapped_word : (w : ℕ) (raw : ℤ) → 1 ≤ w → Inside w (wrapped w raw)
wrapped_word w raw h = rw (twice_half w h) (record { low = around_low (half w) raw (pow_pos (w - 1)); high = around_high (half w) raw (pow_pos (w - 1)) })

-- and the one word that lies whole turns of 2^w from raw
pub wrapped_is : (w : ℕ) (raw z q : ℤ) → 1 ≤ w → Inside w z → raw ≡ (pos (2 ^ w) *ℤ q) +ℤ z → wrapped w raw ≡ z
wrapped_is w raw z q h i e = rw (twice_half w h) (around_is (half w) raw (pow_pos (w - 1)) z q i.low i.high (rw (twice_half w h) at e))

-- so a word stays as it is
pub wrapped_same : (w : ℕ) (raw : ℤ) → 1 ≤ w → Inside w raw → wrapped w raw ≡ raw
wrapped_same w raw h i = wrapped_is w raw raw (pos 0) h i (omega (arith, ints))

-- a number less its word is a multiple of 2^w
turns : ℕ → ℤ → ℤ
turns w raw = shr_z (raw +ℤ pos (half w)) (2 ^ w)

less_turns : (w : ℕ) (raw : ℤ) → raw ≡ (pos (2 ^ w) *ℤ turns w raw) +ℤ wrapped w raw
unfolding turns
less_turns w raw = omega (arith, ints, turned (2 ^ w) (raw +ℤ pos (half w)) (pow_pos w))

scaled : (m k : ℕ) (q z : ℤ) → ((pos m *ℤ q) +ℤ z) *ℤ pos k ≡ (pos (m * k) *ℤ q) +ℤ (z *ℤ pos k)
scaled m k q z =
    let p = pos m *ℤ q in
    let sum : up (p +ℤ z) + (down p + down z) ≡ down (p +ℤ z) + (up p + up z) = omega (arith, sum_is_lem) in
    let product : up p + m * down q ≡ down p + m * up q = omega (arith, product_is) in
    let sums = ap (λ x. x * k) sum in
    let products = ap (λ x. x * k) product in
    omega (arith, same_in, sum_is_lem, product_is)

-- times 2^s, where 64 - s bits hold the word
module _ (w s : ℕ) (raw : ℤ) (some : 1 ≤ w) (all : w + s ≡ 64) where
  all_bits : 2 ^ w * 2 ^ s ≡ 2 ^ 64
  all_bits = sym (pow-add 2 w s) ∙ ap (λ n. 2 ^ n) all

  half_bits : half w * 2 ^ s ≡ 2 ^ 63
  half_bits = let e : w - 1 + s ≡ 63 = omega arith in sym (pow-add 2 (w - 1) s) ∙ ap (λ n. 2 ^ n) e

  multiple : raw *ℤ pos (2 ^ s) ≡ (pos (2 ^ 64) *ℤ turns w raw) +ℤ (wrapped w raw *ℤ pos (2 ^ s))
  multiple =
      ap (λ x. x *ℤ pos (2 ^ s)) (less_turns w raw)
      ∙ scaled (2 ^ w) (2 ^ s) (turns w raw) (wrapped w raw)
      ∙ ap (λ n. (pos n *ℤ turns w raw) +ℤ (wrapped w raw *ℤ pos (2 ^ s))) all_bits

  in_place : (z : ℤ) → Inside w z → FitsSigned w64 (z *ℤ pos (2 ^ s))
  in_place (pos a) i =
      let h : a < half w = omega (arith, ints, i.high) in
      let m : suc a * 2 ^ s ≤ half w * 2 ^ s = mul-le (suc a) (2 ^ s) (half w) (2 ^ s) h (omega arith) in
      let p = pow_pos s in
      omega (arith, ints, half_bits)
  in_place (negsuc a) i =
      let h : suc a ≤ half w = omega (arith, ints, i.low) in
      let m : suc a * 2 ^ s ≤ half w * 2 ^ s = mul-le (suc a) (2 ^ s) (half w) (2 ^ s) h (omega arith) in
      let p = pow_pos s in
      omega (arith, ints, half_bits)

  no_turns : (q : ℤ) → left_at w64 (pos (2 ^ 64) *ℤ q) ≡ pos 0
  unfolding left_at
  no_turns q =
      let e : left_at w64 (pos (2 ^ 64)) ≡ pos 0 = refl in
      sym (int_wrap-mul_left w64 (pos (2 ^ 64)) q) ∙ ap (λ x. left_at w64 (x *ℤ q)) e ∙ ap (left_at w64) (zero-*ℤ q) ∙ refl

  -- shifting up loses whole turns, so that the word is left
  shifted_up : FitsSigned w64 raw → FitsSigned w64 (pos (2 ^ s)) → to_z w64 ((of_z w64 raw * 2 ^ s) % 2 ^ 64) ≡ wrapped w raw *ℤ pos (2 ^ s)
  shifted_up f g =
      let t = pos (2 ^ 64) *ℤ turns w raw in
      let z = wrapped w raw *ℤ pos (2 ^ s) in
      wrapping_mul_is w64 raw (pos (2 ^ s)) f g
      ∙ ap (left_at w64) multiple
      ∙ sym (int_wrap-add_left w64 t z)
      ∙ ap (λ x. left_at w64 (x +ℤ z)) (no_turns (turns w raw))
      ∙ ap (left_at w64) (+ℤ_idl z)
      ∙ int_wrap_fits w64 z (in_place (wrapped w raw) (wrapped_word w raw some))

-- and shifting down again leaves the number that was shifted up
shifted_down : (k : ℕ) (z : ℤ) → 0 < k → shr_z (z *ℤ pos k) k ≡ z
shifted_down k z h = floor_unique k 0 (z *ℤ pos k) z h (*ℤ_comm z (pos k) ∙ omega (arith, ints))

-- so both leave the word
pub shifted : (w s : ℕ) (raw : ℤ) → 8 ≤ w → w ≤ 28 → s ≡ 64 - w → FitsSigned w64 raw → shr_z (to_z w64 ((of_z w64 raw * 2 ^ s) % 2 ^ 64)) (2 ^ s) ≡ wrapped w raw
shifted w s raw some few e f =
    let g : FitsSigned w64 (pos (2 ^ s)) = omega (arith, ints, pow_below s 63 (omega arith)) in
    ap (λ x. shr_z x (2 ^ s)) (shifted_up w s raw (omega arith) (omega arith) f g) ∙ shifted_down (2 ^ s) (wrapped w raw) (pow_pos s)

-- what holds of the word in an answer holds of each word that the answer is
pub word_out : (P : ℤ → Type 0) (a b : ℤ) → Some a ≡ Some b → P a → P b
word_out P a b e p = subst P (cc) p
