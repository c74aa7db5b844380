-- A setting: a format with its two rules.
use Rattle.std.specs.Prelude.{◌≡◌, ℕ, ℤ, Some, None, Ok, Err, Result}
use Rattle.arithmetic.specs.declared.format.Format.{Format}
use Rattle.arithmetic.specs.declared.format.FormatFault.{FormatFault}
use Rattle.arithmetic.specs.declared.setting.Setting.{Setting}
use Rattle.arithmetic.specs.declared.setting.FixedPoint.{FixedPoint}
use Rattle.arithmetic.specs.Words.{Inside}
use Rattle.arithmetic.specs.Formats.{width, format_fault}
use Rattle.arithmetic.specs.Rounding.{RoundingRule, LawfulRounding}
use Rattle.arithmetic.specs.Overflow.{OverflowRule, LawfulOverflow}

-- fixed-point arithmetic: a valid format and two rules, by their functions
pub record FixedArithmetic : Type 0 where
  pub format : Format
  pub rounding : RoundingRule
  pub overflow : OverflowRule

-- both rules keep their laws
pub record Lawful (s : FixedArithmetic) : Type 0 where
  pub rounding : LawfulRounding s.rounding
  pub overflow : LawfulOverflow s.overflow

-- the meaning of the code's setting, from the meaning of its rules
abbrev pub meaning : {R O : Type 0} → (R → RoundingRule) → (O → OverflowRule) → FixedPoint R O → FixedArithmetic
meaning r o s = record { format = s.format; rounding = r s.rounding; overflow = o s.overflow }

-- fraction bits
abbrev pub fraction : FixedArithmetic → ℕ
fraction s = s.format.fraction

-- the width of samples, coefficients, registers and outputs
abbrev pub bits : FixedArithmetic → ℕ
bits s = width s.format

-- the width that scales, sums and differences inside a feed obey: for now the same
abbrev pub inner_bits : FixedArithmetic → ℕ
inner_bits s = width s.format

-- z is a word of the format
abbrev pub WordOf : FixedArithmetic → ℤ → Type 0
WordOf s z = Inside (bits s) z

-- the setting with its format checked, or the format's fault
abbrev pub SettingAnswer : {R O : Type 0} → Setting R O → Result (FixedPoint R O) FormatFault → Type 0
SettingAnswer s (Ok p) = (format_fault s.whole s.fraction ≡ None) × (p.format.whole ≡ s.whole) × (p.format.fraction ≡ s.fraction) × (p.rounding ≡ s.rounding) × (p.overflow ≡ s.overflow)
SettingAnswer s (Err e) = format_fault s.whole s.fraction ≡ Some e
