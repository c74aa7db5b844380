-- Exact numbers: a whole number over a power of two, held in lowest terms, so that equal numbers are the same term.
use Rattle.std.specs.Prelude.{ℕ, zero, suc, ◌+◌, ◌%◌, ◌^◌, Bool, true, false, ℤ, pos, negsuc, ◌+ℤ◌, ◌*ℤ◌, neg_ℤ, ◌≤ℤ◌, ◌==◌}
use Rattle.std.specs.Int.Signed.{shr_z}

-- 2^n; shut, so that a product with it stays a product
unfoldable pub two : ℕ → ℤ
two n = pos (2 ^ n)

-- an exact number is a whole number z, or (2h + 1) / 2^(n+1)
pub data Exact : Type 0 where
  whole : ℤ → Exact
  part : ℤ → ℕ → Exact

-- its numerator and the exponent of its denominator
abbrev pub num : Exact → ℤ
num (whole z) = z
num (part h n) = h +ℤ h +ℤ pos 1

abbrev pub exp : Exact → ℕ
exp (whole z) = 0
exp (part h n) = suc n

abbrev pub odd : ℤ → Bool
odd (pos n) = n % 2 == 1
odd (negsuc n) = n % 2 == 0

-- half, rounded down
abbrev pub half : ℤ → ℤ
half z = shr_z z 2

abbrev pub given : Bool → Exact → Exact → Exact
given true x y = x
given false x y = y

-- a / 2^n, brought to lowest terms
unfoldable pub over : ℤ → ℕ → Exact
over a zero = whole a
over a (suc n) = given (odd a) (part (half a) n) (over (half a) n)

infixl 65 ◌⊞◌ ◌⊟◌
infix 50 ◌≼◌
-- sum, opposite, difference
unfoldable pub ◌⊞◌ : Exact → Exact → Exact
x ⊞ y = over (num x *ℤ two (exp y) +ℤ num y *ℤ two (exp x)) (exp x + exp y)

unfoldable pub neg : Exact → Exact
neg x = over (neg_ℤ (num x)) (exp x)

abbrev pub ◌⊟◌ : Exact → Exact → Exact
x ⊟ y = x ⊞ neg y

-- c × x / 2^l
unfoldable pub scale : ℤ → ℕ → Exact → Exact
scale c l x = over (c *ℤ num x) (exp x + l)

-- x is at most y
pub record ◌≼◌ (x y : Exact) : Type 0 where
  pub at_most : (num x *ℤ two (exp y)) ≤ℤ (num y *ℤ two (exp x))
