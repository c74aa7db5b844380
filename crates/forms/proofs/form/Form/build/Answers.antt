use Rattle.std.proofs.Common.{◌≡◌, true, leb, ◌++◌, length, vec_items, sym, ap, ◌∙◌, subst₂, rules, append-nil}
use Rattle.std.proofs.lemmas.Bool.{and_parts, leb-true}
use Rattle.std.specs.List.{each_same}
use Rattle.wiring.specs.Checks.{wiring_fault}
use Rattle.wiring.specs.Graphs.{graph_of}
use Rattle.forms.specs.Forms.{form_graph}
use Rattle.forms.specs.Built.{numerator_good, denominator_good}
use Rattle.forms.specs.Equation.{DifferenceEquation}
use Rattle.forms.proofs.Sound.{sound_form}
use Rattle.forms.proofs.Equations.{form_keeps}
use Rattle.forms.proofs.form.Form.build.Goals as goal

pub returns : goal.returns
returns c =
    let nb = length c.args.b.now in
    let na = length c.args.a.now in
    let b : numerator_good nb ≡ true = search rules in
    let a : denominator_good na ≡ true = search rules in
    let g : graph_of c.match-self.wiring ≡ form_graph c.args.self nb na = search rules in
    let cs : vec_items c.in_ok-coefficients.coefficients ≡ c.args.b.now ++ c.args.a.now = each_same _ _ c.in_ok-coefficients.ensures.ok ∙ ap (λ l. c.args.b.now ++ l) (append-nil c.args.a.now) in
    let some = leb-true 1 nb (and_parts (leb 1 nb) (leb nb 9) b).0 in
    record {
      answer = (b, a, g, cs);
      sound = ap wiring_fault g ∙ sound_form c.args.self nb na b a;
      equation = subst₂ (λ g cs. DifferenceEquation g cs c.args.b.now c.args.a.now) (sym g) (sym cs) (form_keeps c.args.self c.args.b.now c.args.a.now some);
    }
