-- The letters of the rules and the forms.
use Rattle.std.specs.Prelude.{◌≡◌, ℕ, List, [], ◌∷◌, Option, Some, None}
use Rattle.arithmetic.specs.declared.choice.RoundingChoice.{RoundingChoice}
use Rattle.arithmetic.specs.declared.choice.RoundingChoice.TheVariants.{Floor, Nearest, TowardZero}
use Rattle.arithmetic.specs.declared.choice.OverflowChoice.{OverflowChoice}
use Rattle.arithmetic.specs.declared.choice.OverflowChoice.TheVariants.{Wrap, Saturate, Stop}
use Rattle.forms.specs.declared.form.Form.{Form}
use Rattle.forms.specs.declared.form.Form.TheVariants.{Direct1, Direct2, Transposed2}

-- F, N, Z
abbrev pub rounding_letter : RoundingChoice → ℕ
rounding_letter Floor = 70
rounding_letter Nearest = 78
rounding_letter TowardZero = 90

-- W, S, X
abbrev pub overflow_letter : OverflowChoice → ℕ
overflow_letter Wrap = 87
overflow_letter Saturate = 83
overflow_letter Stop = 88

-- 1, 2, T
abbrev pub form_letter : Form → ℕ
form_letter Direct1 = 49
form_letter Direct2 = 50
form_letter Transposed2 = 84

-- the text is one letter, and it stands for v
abbrev pub Letter : {T : Type 0} → (ℕ → Option T) → List ℕ → T → Type 0
Letter meant text v = (c : ℕ) × (text ≡ c ∷ []) × (meant c ≡ Some v)

-- no letter that stands for anything is the whole of the text
abbrev pub NoLetter : {T : Type 0} → (ℕ → Option T) → List ℕ → Type 0
NoLetter meant text = (c : ℕ) → text ≡ c ∷ [] → meant c ≡ None
