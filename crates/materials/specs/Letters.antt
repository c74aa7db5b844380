-- The letters of a record and what they stand for. Assumes nothing.
use Rattle.std.specs.Prelude.{ℕ, Bool, cond, is_some, Some, None, Option, ◌==◌}
use Rattle.forms.specs.declared.form.Form.{Form}
use Rattle.forms.specs.declared.form.Form.TheVariants.{Direct1, Direct2, Transposed2}
use Rattle.arithmetic.specs.declared.choice.RoundingChoice.{RoundingChoice}
use Rattle.arithmetic.specs.declared.choice.RoundingChoice.TheVariants.{Floor, Nearest, TowardZero}
use Rattle.arithmetic.specs.declared.choice.OverflowChoice.{OverflowChoice}
use Rattle.arithmetic.specs.declared.choice.OverflowChoice.TheVariants.{Wrap, Saturate, Stop}

-- the one of three whose code is c
abbrev pub chosen : {X : Type 0} → ℕ → ℕ → X → ℕ → X → ℕ → X → Option X
chosen c i x j y k z = cond (c == i) (Some x) (cond (c == j) (Some y) (cond (c == k) (Some z) None))

-- forms: 49 is the letter 1, 50 is 2, 84 is T
abbrev pub form_of : ℕ → Option Form
form_of c = chosen c 49 Direct1 50 Direct2 84 Transposed2

-- rounding: 70 is F, 78 is N, 90 is Z
abbrev pub rounding_of : ℕ → Option RoundingChoice
rounding_of c = chosen c 70 Floor 78 Nearest 90 TowardZero

-- overflow: 87 is W, 83 is S, 88 is X
abbrev pub overflow_of : ℕ → Option OverflowChoice
overflow_of c = chosen c 87 Wrap 83 Saturate 88 Stop

-- the letter stands for a form, for a rounding rule, for an overflow rule
abbrev pub form_ok : ℕ → Bool
form_ok c = is_some (form_of c)

abbrev pub rounding_ok : ℕ → Bool
rounding_ok c = is_some (rounding_of c)

abbrev pub overflow_ok : ℕ → Bool
overflow_ok c = is_some (overflow_of c)
