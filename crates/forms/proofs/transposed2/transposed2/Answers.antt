use Rattle.std.proofs.Common.{◌-◌, length, vec_items, ◌∙◌, arith}
use Rattle.std.proofs.lemmas.Bool.{ne_eqb}
use Rattle.forms.proofs.Growing.{grown_length}
use Rattle.forms.proofs.Layouts.{start_length, wired_transposed2}
use Rattle.forms.proofs.transposed2.transposed2.Goals as goal

pub add_totals-requires : goal.add_totals-requires
add_totals-requires c =
    let nodes = start_length _ _ c.in_ok-nodes.ensures in
    let gains = grown_length _ _ (vec_items c.add_gains.new.nodes) (length c.args.lists.b.now) c.in_ok-add_gains.ensures in
    omega arith

pub returns : goal.returns
returns c =
    let b = c.args.lists.b.now in
    let m = length c.args.lists.a.now in
    wired_transposed2 (length b - 1) m _ (length b) c.len-products.result c.len-output.result _ c.count.result
    (vec_items c.in_ok-nodes.nodes) (vec_items c.push.new.self) (vec_items c.add_gains.new.nodes) (vec_items c.push-2.new.self) (vec_items c.add_gains-2.new.nodes) _ (vec_items c.new-sources.result) _
    c.longer-order.ensures (omega arith) (omega arith)
    (c.len-products.ensures ∙ c.push.new.self.ok.0) (c.len-output.ensures ∙ c.add_gains.new.nodes.ok.0) c.add_gains-2.new.nodes.ok.0
    (ne_eqb _ 0 c.if-order-eq0.false)
    c.in_ok-nodes.ensures c.in_ok-push.ensures.items c.in_ok-add_gains.ensures c.in_ok-push-2.ensures.items c.in_ok-add_gains-2.ensures
    c.in_ok-add_totals.ensures.nodes c.new-sources.ensures.items c.in_ok-add_totals.ensures.sources
