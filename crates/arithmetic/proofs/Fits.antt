-- What fits 64 bits: the parts of a division of any 64-bit number by 2^l, and every word.
use Rattle.std.proofs.Common.{◌≡◌, ℕ, suc, ◌+◌, ◌-◌, ◌*◌, ◌/◌, ◌%◌, ◌^◌, ◌<◌, ◌≤◌, ℤ, pos, negsuc, ◌+ℤ◌, ◌-ℤ◌, ◌*ℤ◌, ap, ◌∙◌, arith, w32, w64, SFits, to_z, of_z}
use native.Mathlib.Nat.{div-add-mod}
use borrow.Author.Differences.{ints}
use lib.Signed.{shr_z, quot_z, rem_z, mag_shr, mag_rem}
use Rattle.std.proofs.lemmas.Nat.{pow_pos, pow-add, pow_below, one_shl, shr_below, shr_le, mul-le}
use Rattle.std.proofs.lemmas.Int.{to_z-of_z, to_z_pos}
use Rattle.arithmetic.specs.Words.{Inside}
use Rattle.arithmetic.specs.Divisions.{floor_rest}

-- the multiple of 2^l above a number below 2^63 is at most 2^63, of which 2^l is a divisor
above_small : (l a : ℕ) → l ≤ 28 → a < 2 ^ 63 → 2 ^ l * suc (a / 2 ^ l) ≤ 2 ^ 63
above_small l a few h =
    let e : 63 - l + l ≡ 63 = omega arith in
    let q : a / 2 ^ l < 2 ^ (63 - l) = shr_below a (63 - l) l (rw e h) in
    let m : 2 ^ l * suc (a / 2 ^ l) ≤ 2 ^ l * 2 ^ (63 - l) = mul-le (2 ^ l) (suc (a / 2 ^ l)) (2 ^ l) (2 ^ (63 - l)) (omega arith) (omega arith) in
    omega (arith, m, pow-add 2 (63 - l) l, ap (λ n. 2 ^ n) e)

-- the parts of a division down
module _ (l : ℕ) (few : l ≤ 28) where
  -- one, shifted by l
  pub unit_is : to_z w64 ((1 * 2 ^ l) % 2 ^ 64) ≡ pos (2 ^ l)
  unit_is = ap (to_z w64) (one_shl l 64 (omega arith)) ∙ to_z_pos w64 (2 ^ l) (omega (arith, pow_below l 29 (omega arith)))

  pub quotient_fits : (p : ℤ) → SFits w64 p → SFits w64 (shr_z p (2 ^ l))
  quotient_fits p f = record { sfits = omega (arith, f.sfits, mag_shr p (2 ^ l)) }

  pub product_fits : (p : ℤ) → SFits w64 p → SFits w64 (pos (2 ^ l) *ℤ shr_z p (2 ^ l))
  product_fits (pos a) f =
      let d : 2 ^ l * (a / 2 ^ l) + a % 2 ^ l ≡ a = div-add-mod a (2 ^ l) in
      omega (arith, ints)
  product_fits (negsuc a) f =
      let b : 2 ^ l * suc (a / 2 ^ l) ≤ 2 ^ 63 = above_small l a few f.sfits in
      omega (arith, ints)

  pub remainder_fits : (p : ℤ) → SFits w64 (p -ℤ (pos (2 ^ l) *ℤ shr_z p (2 ^ l)))
  remainder_fits p =
      let r = floor_rest (2 ^ l) p (pow_pos l) in
      omega (arith, ints, r.1, r.2, pow_below l 29 (omega arith))

-- the same of a division toward zero
pub zero_quotient_fits : (l : ℕ) (p : ℤ) → SFits w64 p → SFits w64 (quot_z p (pos (2 ^ l)))
zero_quotient_fits l (pos a) f = omega (arith, ints, shr_le a l)
zero_quotient_fits l (negsuc a) f = omega (arith, ints, shr_le (suc a) l)

pub zero_remainder_fits : (l : ℕ) (p : ℤ) → SFits w64 p → SFits w64 (rem_z p (pos (2 ^ l)))
zero_remainder_fits l p f = record { sfits = omega (arith, f.sfits, mag_rem p (pos (2 ^ l))) }

-- what fits comes out of its bits as it went in: the two terms of the code that are too large to rewrite in their proofs
pub sum_and_difference_kept : (q r u : ℤ) → SFits w64 q → SFits w64 r → SFits w64 u → SFits w64 (q +ℤ pos 1) → SFits w64 (r -ℤ u) →
    ◌≡◌ {A = ℤ × ℤ} (to_z w64 (of_z w64 (to_z w64 (of_z w64 q) +ℤ pos 1)), to_z w64 (of_z w64 (to_z w64 (of_z w64 r) -ℤ to_z w64 (of_z w64 u)))) (q +ℤ pos 1, r -ℤ u)
sum_and_difference_kept q r u fq fr fu fs fd = simp to_z-of_z

pub turn_less_kept : (u h : ℤ) → SFits w64 u → SFits w64 h → SFits w64 (h +ℤ h) → SFits w64 (u -ℤ (h +ℤ h)) → SFits w32 (u -ℤ (h +ℤ h)) →
    to_z w32 (of_z w32 (to_z w64 (of_z w64 (to_z w64 (of_z w64 u) -ℤ to_z w64 (of_z w64 (to_z w64 (of_z w64 h) +ℤ to_z w64 (of_z w64 h))))))) ≡ u -ℤ (h +ℤ h)
turn_less_kept u h fu fh ft fd fw = simp to_z-of_z

pub lifted_kept : (p u : ℤ) (n : ℕ) → SFits w64 p → SFits w64 (u -ℤ pos 1) → SFits w64 (p +ℤ (u -ℤ pos 1)) → SFits w64 (shr_z (p +ℤ (u -ℤ pos 1)) n) →
    to_z w64 (of_z w64 (shr_z (to_z w64 (of_z w64 (to_z w64 (of_z w64 p) +ℤ to_z w64 (of_z w64 (u -ℤ pos 1))))) n)) ≡ shr_z (p +ℤ (u -ℤ pos 1)) n
lifted_kept p u n fp fu fs fq = simp to_z-of_z

-- a word of at most 28 bits fits 32 and 64
module _ (w : ℕ) (z : ℤ) (few : w ≤ 28) (word : Inside w z) where
  pub word_fits_32 : SFits w32 z
  word_fits_32 = omega (arith, ints, word.low, word.high, pow_below (w - 1) 28 (omega arith))

  pub word_fits_64 : SFits w64 z
  word_fits_64 = omega (arith, ints, word.low, word.high, pow_below (w - 1) 28 (omega arith))
