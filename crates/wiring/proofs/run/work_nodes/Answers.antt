use Rattle.std.proofs.Common.{◌≡◌, ℕ, [], length, get_or, take, ℤ, Ok, Err, subst, arith, length-set, w32, to_z, of_z}
use native.Mathlib.Nat.{sub-zero}
use Rattle.std.proofs.lemmas.Int.{to_z-of_z}
use Rattle.kinds.specs.Kinds.{arithmetic_of}
use Rattle.wiring.specs.declared.faults.RunFault.TheVariants.{Node as AtNode}
use Rattle.wiring.specs.declared.graph.Node.TheVariants.{Input}
use Rattle.wiring.specs.Runs.{node_value, work, answered, row_after}
use Rattle.wiring.proofs.Rows.{again, finished, refused}
use Rattle.wiring.proofs.run.work_nodes.Goals as goal

pub loop-i-preserved : goal.loop-i-preserved
loop-i-preserved g c =
    let o = arithmetic_of g.K.Kind.model g.R.Rounding.rule g.O.Overflow.rule c.args.values.now in
    let t = again o c.args.coefficients.now c.args.registers.now (to_z w32 (of_z w32 c.args.sample)) c.args.nodes.now _ c.loop-i.working c.args.working.now c.loop-i.i c.loop-i.invariant.0 c.loop-i.invariant.1 c.in-Ok.v c.loop-i-test.true (omega arith) (subst (λ (j : ℕ). Ok c.in-Ok.v ≡ node_value o c.args.coefficients.now c.args.registers.now (to_z w32 (of_z w32 c.args.sample)) (take j c.loop-i.working) (get_or c.args.nodes.now c.loop-i.i Input)) (sub-zero c.loop-i.i) c.in-Ok.ensures) in
    (t.0, t.1, simp length-set (omega arith))

pub returns : goal.returns
returns g c =
    let o = arithmetic_of g.K.Kind.model g.R.Rounding.rule g.O.Overflow.rule c.args.values.now in
    let cs = c.args.coefficients.now in
    let rs = c.args.registers.now in
    let ns = c.args.nodes.now in
    let same = to_z-of_z w32 c.args.sample c.ranges.sample in
    let p = finished o cs rs (to_z w32 (of_z w32 c.args.sample)) ns _ c.loop-i.working c.args.working.now c.loop-i.i c.loop-i.invariant.0 c.loop-i.invariant.1 o.zero (omega arith) in
    record {
      answer = subst (λ (x : ℤ). Ok tt ≡ answered (work o cs rs x [] ns)) same p.0;
      row = subst (λ (x : ℤ). c.loop-i.working ≡ row_after o.zero (length ns) c.args.working.now (work o cs rs x [] ns)) same p.1;
    }

pub returns-in-Err : goal.returns-in-Err
returns-in-Err g c =
    let o = arithmetic_of g.K.Kind.model g.R.Rounding.rule g.O.Overflow.rule c.args.values.now in
    let cs = c.args.coefficients.now in
    let rs = c.args.registers.now in
    let ns = c.args.nodes.now in
    let same = to_z-of_z w32 c.args.sample c.ranges.sample in
    let p = refused o cs rs (to_z w32 (of_z w32 c.args.sample)) ns _ c.loop-i.working c.args.working.now c.loop-i.i c.loop-i.invariant.0 c.loop-i.invariant.1 o.zero c.in-Err.refusal c.clear.new.row c.loop-i-test.true (omega arith) (subst (λ (j : ℕ). Err c.in-Err.refusal ≡ node_value o cs rs (to_z w32 (of_z w32 c.args.sample)) (take j c.loop-i.working) (get_or ns c.loop-i.i Input)) (sub-zero c.loop-i.i) c.in-Err.ensures) c.clear.ensures in
    record {
      answer = subst (λ (x : ℤ). Err (AtNode c.loop-i.i c.in-Err.refusal) ≡ answered (work o cs rs x [] ns)) same p.0;
      row = subst (λ (x : ℤ). c.clear.new.row ≡ row_after o.zero (length ns) c.args.working.now (work o cs rs x [] ns)) same p.1;
    }
