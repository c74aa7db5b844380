use Rattle.std.proofs.Common.{refl, ◌∙◌, rules, arith}
use Rattle.std.proofs.lemmas.Iterator.Adapters.{items_from_extend}
use Rattle.std.proofs.lemmas.Iterator.{YieldsList-from_range, YieldsList-from_map}
use Rattle.wiring.specs.declared.graph.Node.TheVariants.{Register}
use Rattle.forms.proofs.parts.start.Goals as goal

pub returns : goal.returns
returns c =
    let n = c.args.registers in
    let h = items_from_extend c.extend.result c.extend.ensures.ran (YieldsList-from_map _ Register (YieldsList-from_range 0 n n c.map.ensures.source (omega arith)) c.map.ensures.closure (λ x r q k. search rules)) in
    let e = rw c.in_ok-extend.was at h in
    e.0 ∙ rw (c.in_ok-push.ensures.items, c.new-nodes.ensures.items) refl
