use Rattle.std.proofs.Common.{ap, ◌∙◌, ◌++◌, drop, replicate, arith}
use Rattle.wiring.proofs.Rows.{cleared_more, cleared_all}
use Rattle.wiring.proofs.run.clear.Goals as goal

pub loop-place-preserved : goal.loop-place-preserved
loop-place-preserved g c = cleared_more c.zero-zero.result _ c.loop-place.place-items c.loop-place.place-index (omega arith) c.loop-place.invariant

pub returns : goal.returns
returns g c =
    cleared_all c.zero-zero.result c.args.row.now c.loop-place.place-items c.loop-place.place-index c.args.n c.requires c.loop-place-test.false (omega arith) c.loop-place.invariant
    ∙ ap (λ z. replicate c.args.n z ++ drop c.args.n c.args.row.now) c.zero-zero.ensures
