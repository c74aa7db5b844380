use Rattle.std.proofs.Common.{◌≡◌, [], length, take, drop}
use Rattle.kinds.specs.Kinds.{arithmetic_of}
use Rattle.wiring.specs.Runs.{work}
use Rattle.wiring.proofs.run.work_nodes.Given as goal

abbrev pub invariant-loop-i : goal.invariant-loop-i
invariant-loop-i g l =
    let o = arithmetic_of g.K.Kind.model g.R.Rounding.rule g.O.Overflow.rule l.values in
    (work o l.coefficients l.registers l.sample [] l.nodes ≡ work o l.coefficients l.registers l.sample (take l.i l.working) (drop l.i l.nodes))
    × (drop l.i l.working ≡ drop l.i l.initial.working)
    × (length l.working ≡ length l.initial.working)
