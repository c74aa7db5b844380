-- Which rule a choice stands for.
use Rattle.arithmetic.specs.declared.choice.RoundingChoice.{RoundingChoice}
use Rattle.arithmetic.specs.declared.choice.RoundingChoice.TheVariants.{Floor, Nearest, TowardZero}
use Rattle.arithmetic.specs.declared.choice.OverflowChoice.{OverflowChoice}
use Rattle.arithmetic.specs.declared.choice.OverflowChoice.TheVariants.{Wrap, Saturate, Stop}
use Rattle.arithmetic.specs.Rounding.{RoundingRule, floor, nearest, toward_zero}
use Rattle.arithmetic.specs.Overflow.{OverflowRule, wrap, saturate, stop}

abbrev pub rounding_rule : RoundingChoice → RoundingRule
rounding_rule Floor = floor
rounding_rule Nearest = nearest
rounding_rule TowardZero = toward_zero

abbrev pub overflow_rule : OverflowChoice → OverflowRule
overflow_rule Wrap = wrap
overflow_rule Saturate = saturate
overflow_rule Stop = stop
