use Rattle.std.proofs.Common.{◌+◌, ◌-◌, length, vec_items, arith}
use Rattle.wiring.specs.declared.graph.Node.TheVariants.{Sum, Difference}
use Rattle.forms.proofs.Layouts.{wired_direct1}
use Rattle.forms.proofs.direct1.direct1.Goals as goal

pub returns : goal.returns
returns c =
    let b = c.args.lists.b.now in
    let m = length c.args.lists.a.now in
    let sums = c.in_ok-sum.ensures Sum (λ p q made h. h) in
    let differences = c.in_ok-output.ensures Difference (λ p q made h. h) in
    wired_direct1 (length b - 1) m _ (length c.later-later.result.now) (length b) (length b + 1) c.len-products.result _ c.in_ok-sum.sum _ c.count.result c.in_ok-output.output
    (vec_items c.in_ok-nodes.nodes) _ _ _ _ (vec_items c.new-sources.result) _ _
    (omega arith) c.later-later.ensures (omega arith) (omega arith) (omega arith) (omega arith) c.add_taps-2.new.nodes.ok.0 c.add_running_totals.new.nodes.ok.0
    c.in_ok-nodes.ensures c.in_ok-add_taps.ensures c.in_ok-add_taps-2.ensures
    sums.0 sums.1 differences.0 differences.1
    c.new-sources.ensures.items c.in_ok-add_delays.ensures c.in_ok-add_delays-2.ensures
