use Rattle.std.proofs.Common.{◌≡◌, ◌++◌, map, Some, codes, ap, ◌∙◌, subst, inr}
use Rattle.std.proofs.lemmas.Bool.Decides.{Decides-eqb}
use Rattle.std.proofs.lemmas.Slice.Eq.{strip_prefix_is}
use Rattle.console_text.specs.Numbers.{NumbersOf}
use Rattle.console_text.specs.Pieces.{pieces}
use Rattle.console_text.proofs.Reading.{bytes}
use Rattle.console_text.proofs.call.read_call.Goals as goal

pub returns-in-Some-strip_prefix : goal.returns-in-Some-strip_prefix
returns-in-Some-strip_prefix g c =
    let line = c.args.line.now in
    let rest = c.in-Some-strip_prefix.rest in
    let is : line ≡ codes "swap " ++ rest.now = strip_prefix_is Decides-eqb line (codes "swap ") (Some rest) c.in-Some-strip_prefix.ensures.cases in
    let texts : map bytes c.as_slice-in-Some-strip_prefix.result.now ≡ pieces 32 rest.now = ap (map bytes) c.as_slice-in-Some-strip_prefix.ensures.value ∙ c.in_ok-texts.ensures in
    let says : NumbersOf (pieces 32 rest.now) c.in_ok-coefficients.field-0 = subst (λ ts. NumbersOf ts c.in_ok-coefficients.field-0) texts c.in_ok-coefficients.ensures in
    inr (rest.now, is, subst (NumbersOf (pieces 32 rest.now)) c.in-Some-2.is says)
