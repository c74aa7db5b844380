-- Every form with good lengths passes the check of wirings: all of them are tried.
use Rattle.std.proofs.Common.{◌≡◌, ℕ, zero, suc, ◌+◌, ◌-◌, ◌<◌, Bool, true, not, ◌&&◌, leb, is_some, Some, None, Option, sym, refl, ap, ◌∙◌, inl, inr, arith}
use Rattle.std.proofs.lemmas.Bool.{and_parts, leb-true, cases_lt}
use Rattle.wiring.specs.Checks.{wiring_fault}
use Rattle.forms.specs.declared.form.Form.{Form}
use Rattle.forms.specs.declared.form.Form.TheVariants.{Direct1, Direct2, Transposed2}
use Rattle.forms.specs.Forms.{form_graph}
use Rattle.forms.specs.Built.{numerator_good, denominator_good}

-- the test holds of each number below n
abbrev all_below : (ℕ → Bool) → ℕ → Bool
all_below t zero = true
all_below t (suc n) = t n && all_below t n

at_below : (t : ℕ → Bool) (n k : ℕ) → all_below t n ≡ true → k < n → t k ≡ true
at_below t zero k e h = absurd (omega arith)
at_below t (suc n) k e h = elim (cases_lt k n) [ inl l ↦ at_below t n k (and_parts _ _ e).1 l | inr l ↦ let q : k ≡ n = omega arith in ap t q ∙ (and_parts _ _ e).0 ]

none_from : {A : Type 0} (o : Option A) → not (is_some o) ≡ true → o ≡ None
none_from None e = refl
none_from (Some a) e = cc

abbrev passes : Form → ℕ → ℕ → Bool
passes form i na = not (is_some (wiring_fault (form_graph form (i + 1) na)))

tried : (form : Form) → all_below (λ i. all_below (passes form i) 9) 9 ≡ true
tried Direct1 = refl
tried Direct2 = refl
tried Transposed2 = refl

pub sound_form : (form : Form) (nb na : ℕ) → numerator_good nb ≡ true → denominator_good na ≡ true → wiring_fault (form_graph form nb na) ≡ None
sound_form form nb na hb ha =
    let b = and_parts (leb 1 nb) (leb nb 9) hb in
    let low = leb-true 1 nb b.0 in
    let high = leb-true nb 9 b.1 in
    let far = leb-true na 8 ha in
    let i : nb - 1 < 9 = omega arith in
    let j : na < 9 = omega arith in
    let e : nb - 1 + 1 ≡ nb = omega arith in
    ap (λ n. wiring_fault (form_graph form n na)) (sym e) ∙ none_from _ (at_below (passes form (nb - 1)) 9 na (at_below (λ i. all_below (passes form i) 9) 9 (nb - 1) (tried form) i) j)
