-- Every form keeps the difference equation of its coefficients.
use Rattle.std.proofs.Common.{◌≡◌, suc, ◌-◌, ◌≤◌, List, [], ◌∷◌, ◌++◌, length, ℤ, subst, arith}
use Rattle.forms.specs.declared.form.Form.{Form}
use Rattle.forms.specs.declared.form.Form.TheVariants.{Direct1, Direct2, Transposed2}
use Rattle.forms.specs.Forms.{direct1, direct2, transposed2, form_graph}
use Rattle.forms.specs.Equation.{DifferenceEquation}
use Rattle.forms.proofs.Direct1Equation.{direct1_keeps}
use Rattle.forms.proofs.Direct2Equation.{direct2_keeps}
use Rattle.forms.proofs.Transposed2Equation.{transposed2_keeps}

pub form_keeps : (form : Form) (b a : List ℤ) → 1 ≤ length b → DifferenceEquation (form_graph form (length b) (length a)) (b ++ a) b a
form_keeps form [] a h = absurd (omega arith)
form_keeps form (c ∷ bs) a h = go form
  where
    later : length bs ≡ suc (length bs) - 1
    later = omega arith

    go : (form : Form) → DifferenceEquation (form_graph form (suc (length bs)) (length a)) ((c ∷ bs) ++ a) (c ∷ bs) a
    go Direct1 = subst (λ n. DifferenceEquation (direct1 n (length a)) ((c ∷ bs) ++ a) (c ∷ bs) a) later (direct1_keeps c bs a)
    go Direct2 = subst (λ n. DifferenceEquation (direct2 n (length a)) ((c ∷ bs) ++ a) (c ∷ bs) a) later (direct2_keeps c bs a)
    go Transposed2 = subst (λ n. DifferenceEquation (transposed2 n (length a)) ((c ∷ bs) ++ a) (c ∷ bs) a) later (transposed2_keeps c bs a)
