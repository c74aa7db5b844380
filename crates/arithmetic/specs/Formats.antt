-- Formats: so many whole bits, sign included, and so many fraction bits.
use Rattle.std.specs.Prelude.{◌≡◌, ℕ, ◌+◌, ◌^◌, ◌<◌, cond, ◌&&◌, ℤ, Some, None, Ok, Err, Option, Result, nat_le, unsigned_abs}
use Rattle.arithmetic.specs.declared.format.Coefficient.{Coefficient}
use Rattle.arithmetic.specs.declared.format.Format.{Format}
use Rattle.arithmetic.specs.declared.format.FormatFault.{FormatFault}
use Rattle.arithmetic.specs.declared.format.FormatFault.TheVariants.{Whole, Fraction, Width}

-- the bits of a word
abbrev pub width : Format → ℕ
width f = f.whole + f.fraction

-- why there is no such format, the first that fails: whole bits, fraction bits, then their sum
abbrev pub format_fault : ℕ → ℕ → Option FormatFault
format_fault k l = cond (nat_le 1 k) (cond (nat_le 1 l) (cond (nat_le 8 (k + l) && nat_le (k + l) 24) None (Some Width)) (Some Fraction)) (Some Whole)

-- every fault of a format is refusal 6
abbrev pub format_number : FormatFault → ℕ
format_number Whole = 6
format_number Fraction = 6
format_number Width = 6

-- a format with just these bits, or the fault
abbrev pub FormatAnswer : ℕ → ℕ → Result Format FormatFault → Type 0
FormatAnswer k l (Ok f) = (format_fault k l ≡ None) × (f.whole ≡ k) × (f.fraction ≡ l)
FormatAnswer k l (Err e) = format_fault k l ≡ Some e

-- a coefficient of this value; refused where it is beyond 2^23 either side
abbrev pub CoefficientAnswer : ℤ → Option Coefficient → Type 0
CoefficientAnswer z (Some c) = c.value ≡ z
CoefficientAnswer z None = 2 ^ 23 < unsigned_abs z
