use Rattle.std.proofs.Common.{◌-◌, length, vec_items, ◌∙◌, arith}
use Rattle.wiring.specs.declared.graph.Node.TheVariants.{Sum, Difference}
use Rattle.forms.proofs.Growing.{grown_length}
use Rattle.forms.proofs.Layouts.{start_length, wired_direct2}
use Rattle.forms.proofs.direct2.direct2.Goals as goal

pub add_running_totals-requires-2-clause-numbers : goal.add_running_totals-requires-2-clause-numbers
add_running_totals-requires-2-clause-numbers c =
    let nodes = start_length _ _ c.in_ok-nodes.ensures in
    let taps = grown_length _ _ (vec_items c.add_taps.new.nodes) (length c.args.lists.a.now) c.in_ok-add_taps.ensures in
    let differences = grown_length _ _ (vec_items c.add_running_totals.new.nodes) (length c.args.lists.a.now) (c.in_ok-middle.ensures Difference (λ p q made h. h)).0 in
    omega arith

pub returns : goal.returns
returns c =
    let b = c.args.lists.b.now in
    let m = length c.args.lists.a.now in
    let differences = c.in_ok-middle.ensures Difference (λ p q made h. h) in
    let sums = c.in_ok-output.ensures Sum (λ p q made h. h) in
    wired_direct2 (length b - 1) m _ _ (length b) c.len-feedback.result c.in_ok-middle.middle c.len-products.result _ _ c.count.result c.in_ok-output.output
    (vec_items c.in_ok-nodes.nodes) _ _ _ _ (vec_items c.new-sources.result) _
    c.longer-longer.ensures c.later.ensures (omega arith) (omega arith)
    (c.len-feedback.ensures ∙ c.in_ok-nodes.nodes.ok.0) c.add_taps.new.nodes.ok.0 (c.len-products.ensures ∙ c.add_running_totals.new.nodes.ok.0) c.add_taps-2.new.nodes.ok.0
    c.in_ok-nodes.ensures c.in_ok-add_taps.ensures differences.0 differences.1
    c.in_ok-add_taps-2.ensures sums.0 sums.1
    c.new-sources.ensures.items c.in_ok-add_delays.ensures
