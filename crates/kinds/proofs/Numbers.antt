-- What fits a word of the machine.
use Rattle.std.proofs.Common.{◌≡◌, ℕ, ◌+◌, ◌-◌, ◌*◌, ◌%◌, ◌^◌, ◌<◌, ◌≤◌, ℤ, pos, ◌+ℤ◌, ◌-ℤ◌, ◌*ℤ◌, neg_ℤ, nat_abs, ap, ◌∙◌, mul-le-mul_right, arith, pow_mono, w32, w64, SFits, to_z, of_z}
use borrow.Author.Differences.{ints}
use lib.Signed.{shr_z}
use Rattle.std.specs.Int.{int_min, int_max}
use Rattle.std.proofs.lemmas.Nat.{pow_below, mul-le}
use Rattle.std.proofs.lemmas.Int.{to_z-of_z}
use Rattle.arithmetic.specs.Rounding.{RoundingRule, LawfulRounding, remainder, divided}
use Rattle.exact.specs.Enclosures.{down_by, up_by, moved}
use Rattle.kinds.specs.Facts.{abs_mul, abs_min, abs_max, down_within, up_within}

pub word_abs : (z : ℤ) → SFits w32 z → nat_abs z ≤ 2 ^ 31
word_abs z f = omega (arith, ints)

pub word_fits : (z : ℤ) → SFits w32 z → SFits w64 z
word_fits z f = omega (arith, ints)

pub near_fits : (z : ℤ) → nat_abs z ≤ 2 ^ 62 → SFits w64 z
near_fits z h = omega (arith, ints)

-- a coefficient times a word, and times an end
pub product_bound : (c w : ℤ) → nat_abs c ≤ 2 ^ 23 → SFits w32 w → nat_abs (c *ℤ w) ≤ 2 ^ 54
product_bound c w h f = rw (abs_mul c w) (mul-le (nat_abs c) (nat_abs w) (2 ^ 23) (2 ^ 31) h (word_abs w f))

pub times_bound : (c d : ℤ) → nat_abs c ≤ 2 ^ 23 → nat_abs d ≤ 2 ^ 38 → nat_abs (c *ℤ d) ≤ 2 ^ 61
times_bound c d h k = rw (abs_mul c d) (mul-le (nat_abs c) (nat_abs d) (2 ^ 23) (2 ^ 38) h k)

pub remainder_bound : (r : RoundingRule) → LawfulRounding r → (l : ℕ) (p : ℤ) → 1 ≤ l → l ≤ 23 → nat_abs (remainder l p (r.quotient l p)) ≤ 2 ^ 23
remainder_bound r law l p least most = omega (arith, law.remainder_small l p least most, mul-le-mul_right (2 ^ l) law.share_small, pow_mono most)

-- what a rule's division answers, at a number that went to bits and back
module _ (r : RoundingRule) (l : ℕ) (p : ℤ) (q : ℤ × ℤ) (f : SFits w64 p) (e : q ≡ divided r l (to_z w64 (of_z w64 p))) where
  pub quotient_is : q.0 ≡ r.quotient l p
  quotient_is = ap (λ (x : ℤ × ℤ). x.0) e ∙ ap (r.quotient l) (to_z-of_z w64 p f)

  pub remainder_is : q.1 ≡ remainder l p (r.quotient l p)
  remainder_is = ap (λ (x : ℤ × ℤ). x.1) e ∙ ap (λ n. remainder l n (r.quotient l n)) (to_z-of_z w64 p f)

  pub remainder_near : LawfulRounding r → 1 ≤ l → l ≤ 23 → nat_abs q.1 ≤ 2 ^ 23
  remainder_near law least most = rw remainder_is (remainder_bound r law l p least most)

-- the magnitude of a coefficient times a ceiling, with what makes the division go up
pub ceiling_bound : (c : ℤ) (size m l : ℕ) → SFits w32 c → size ≡ nat_abs (to_z w32 (of_z w32 c)) → nat_abs c ≤ 2 ^ 23 → m ≤ 2 ^ 38 → l ≤ 23 → size * m + (1 * 2 ^ l % 2 ^ 64 - 1) ≤ 2 ^ 62
ceiling_bound c size m l f e h k most =
    let same = ap nat_abs (to_z-of_z w32 c f) in
    omega (arith, mul-le size m (2 ^ 23) (2 ^ 38) (omega arith) k, pow_mono most)

-- ---- the ends of a product
module _ (a b r : ℤ) (h : nat_abs a ≤ 2 ^ 61) (k : nat_abs b ≤ 2 ^ 61) (j : nat_abs r ≤ 2 ^ 23) where
  pub low_bound : nat_abs (int_min a b +ℤ pos 4096 *ℤ r) ≤ 2 ^ 61 + 2 ^ 35
  low_bound = omega (arith, abs_min a b r (2 ^ 61) h k)

  pub high_bound : nat_abs (int_max a b +ℤ pos 4096 *ℤ r) ≤ 2 ^ 61 + 2 ^ 35
  high_bound = omega (arith, abs_max a b r (2 ^ 61) h k)

zero_minus : (z : ℤ) → pos 0 -ℤ z ≡ neg_ℤ z
zero_minus z = omega (arith, ints)

module _ (z : ℤ) (l : ℕ) (h : nat_abs z ≤ 2 ^ 61 + 2 ^ 35) (least : 1 ≤ l) where
  halved : nat_abs z ≤ 2 ^ 61 * 2 ^ l
  halved = omega (arith, h, pow_below 0 l least)

  pub down_bound : nat_abs (down_by z l) ≤ 2 ^ 61
  down_bound = down_within z (2 ^ 61) l halved

  pub up_bound : nat_abs (up_by z l) ≤ 2 ^ 61
  up_bound = up_within z (2 ^ 61) l halved

  -- division upward as the machine does it: minus the quotient, down, of minus z
  pub up_by_is : pos 0 -ℤ shr_z (pos 0 -ℤ z) (2 ^ l) ≡ up_by z l
  up_by_is = zero_minus (shr_z (pos 0 -ℤ z) (2 ^ l)) ∙ ap (λ y. neg_ℤ (shr_z y (2 ^ l))) (zero_minus z)

  pub minus_fits : SFits w64 (pos 0 -ℤ z)
  minus_fits = omega (arith, ints)

  pub up_fits : SFits w64 (pos 0 -ℤ shr_z (pos 0 -ℤ z) (2 ^ l))
  up_fits = let k = up_bound in rw up_by_is (near_fits (up_by z l) (omega arith))

  pub minus_down_fits : SFits w64 (shr_z (pos 0 -ℤ z) (2 ^ l))
  minus_down_fits = let k = up_bound in let e = up_by_is in omega (arith, ints)

-- a move by a raw number beyond 2^50 takes an end beyond 2^38
pub far_moved : (raw w d : ℤ) → 2 ^ 50 < nat_abs raw → SFits w32 w → nat_abs d ≤ 2 ^ 61 → 2 ^ 38 < nat_abs (d +ℤ moved raw w)
far_moved raw w d h f k = omega (arith, ints)
