-- The bound kind: a peak, the largest magnitude of a word in steps, and a ceiling, the largest distance from the exact number in ticks.
use Rattle.std.specs.Prelude.{ℕ, ◌+◌, ◌-◌, ◌*◌, ◌^◌, ◌≤◌, min, cond, ℤ, pos, neg_ℤ, Ok, Err, Result, nat_le, unsigned_abs}
use Rattle.std.proofs.Common.{arith}
use Rattle.arithmetic.specs.Words.{half}
use Rattle.arithmetic.specs.Rounding.{up_part}
use Rattle.arithmetic.specs.Settings.{FixedArithmetic, fraction, inner_bits}
use Rattle.exact.specs.Numbers.{Exact}
use Rattle.exact.specs.Enclosures.{Encloses}
use Rattle.kinds.specs.declared.refusal.Refusal.{Refusal}
use Rattle.kinds.specs.declared.refusal.Refusal.TheVariants.{Peak, Ceiling}
use Rattle.kinds.specs.declared.values.Bound.{Bound}
use Rattle.kinds.specs.Arithmetics.{Arithmetic}
use Rattle.kinds.specs.Kinds.{KindModel}

-- a peak and a ceiling; `fitting` asks only for ceilings up to 2^38
abbrev pub bound_of : ℕ → ℕ → Bound
bound_of p m = record { peak = p; ceiling = min m (2 ^ 38); small = omega arith }

-- the largest peak that a word has
abbrev pub peak_limit : FixedArithmetic → ℕ
peak_limit s = half (inner_bits s) - 1

-- the bound, refused first where the peak is above the largest word, then where the ceiling is above 2^38
abbrev pub fitting : FixedArithmetic → ℕ → ℕ → Result Bound Refusal
fitting s p m = cond (nat_le p (peak_limit s)) (cond (nat_le m (2 ^ 38)) (Ok (bound_of p m)) (Err Ceiling)) (Err Peak)

-- what rounding a product by the coefficient c may add to the ceiling
abbrev pub charge : FixedArithmetic → ℤ → ℕ
charge s c = s.rounding.share

-- the peak and the ceiling of a product by c
abbrev pub scaled_peak : FixedArithmetic → ℤ → ℕ → ℕ
scaled_peak s c p = s.rounding.reach (fraction s) (unsigned_abs c * p)

abbrev pub scaled_ceiling : FixedArithmetic → ℤ → ℕ → ℕ
scaled_ceiling s c m = up_part (unsigned_abs c * m) (fraction s) + charge s c

abbrev pub bound_arithmetic : FixedArithmetic → Arithmetic Bound
bound_arithmetic s = record {
  sample = λ u. fitting s (unsigned_abs u) 0;
  zero = bound_of 0 0;
  scale = λ c v. fitting s (scaled_peak s c v.peak) (scaled_ceiling s c v.ceiling);
  sum = λ v w. fitting s (v.peak + w.peak) (v.ceiling + w.ceiling);
  difference = λ v w. fitting s (v.peak + w.peak) (v.ceiling + w.ceiling);
}

-- 4096 × |w - x| is at most m
abbrev pub Near : ℕ → ℤ → Exact → Type 0
Near m w x = Encloses w (neg_ℤ (pos m)) (pos m) x

-- words of magnitude at most the peak, with exact numbers at most the ceiling away
pub record BoundCovers (v : Bound) (w : ℤ) (x : Exact) : Type 0 where
  pub magnitude : unsigned_abs w ≤ v.peak
  pub near : Near v.ceiling w x

abbrev pub bound_kind : FixedArithmetic → KindModel Bound
bound_kind s = record { ops = bound_arithmetic s; covers = BoundCovers }
