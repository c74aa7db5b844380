-- The watch that a record asks for.
use Rattle.std.specs.Prelude.{◌≡◌, ℕ, List, ℤ, Some, None, Ok, Err, Option, unsigned_abs}
use Rattle.arithmetic.specs.Choices.{rounding_rule, overflow_rule}
use Rattle.arithmetic.specs.Settings.{meaning, SettingAnswer}
use Rattle.arithmetic.specs.declared.choice.RoundingChoice.{RoundingChoice}
use Rattle.arithmetic.specs.declared.choice.OverflowChoice.{OverflowChoice}
use Rattle.arithmetic.specs.declared.setting.Setting.{Setting}
use Rattle.arithmetic.specs.declared.setting.FixedPoint.{FixedPoint}
use Rattle.wiring.specs.Graphs.{Graph}
use Rattle.sheet.specs.declared.figures.SheetFault.{SheetFault}
use Rattle.sheet.specs.Sheets.{Sheet, Granted}
use Rattle.sheet.specs.Calls.{Rows, zero_rows, SheetAnswer}
use Rattle.channel.specs.declared.state.Limits.{Limits}
use Rattle.channel.specs.Theorem.{limits_of}

-- the range and the count of a sheet that is granted for samples from -X to X; without limits, none is granted
abbrev pub WatchLimits : Setting RoundingChoice OverflowChoice → Graph → List ℤ → ℕ → Option Limits → Type 0
WatchLimits st g cs X (Some l) = (p : FixedPoint RoundingChoice OverflowChoice) → SettingAnswer st (Ok p)
    → (t : Sheet) × Granted (meaning rounding_rule overflow_rule p) g cs X t × (l ≡ limits_of X t)
WatchLimits st g cs X None = (p : FixedPoint RoundingChoice OverflowChoice) → SettingAnswer st (Ok p)
    → (t : Sheet) → Granted (meaning rounding_rule overflow_rule p) g cs X t → ⊥

-- the same limits, by what the call for the sheet answers: without limits, it is refused
abbrev pub SheetLimits : Setting RoundingChoice OverflowChoice → Graph → List ℤ → ℤ → Option Limits → Type 0
SheetLimits st g cs x (Some l) = WatchLimits st g cs (unsigned_abs x) (Some l)
SheetLimits st g cs x None = (e : SheetFault) × (after : Rows) × SheetAnswer rounding_rule overflow_rule st g cs x zero_rows after (Err e)
