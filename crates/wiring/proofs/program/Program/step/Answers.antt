use Rattle.std.proofs.Common.{◌≡◌, ◌<◌, ◌≤◌, length, None, vec_items, arith, rules}
use Rattle.wiring.specs.Graphs.{graph_of}
use Rattle.wiring.specs.Made.{program_rows_fault}
use Rattle.wiring.proofs.Rows.{rows_long}
use Rattle.wiring.proofs.Soundness.{sound_output}
use Rattle.wiring.proofs.Verdicts.{fault_none}
use Rattle.wiring.proofs.program.Program.step.Goals as goal

-- the output is a node, and the working row is as long as there are nodes
pub offset_bounds-working-output : goal.offset_bounds-working-output
offset_bounds-working-output g c =
    let p = c.args.self.now in
    let fine : program_rows_fault p (length c.args.registers.now) (length c.work.new.working) ≡ None = fault_none _ _ _ c.in_ok-take_registers.ensures.answer in
    let t = rows_long (graph_of p.wiring) (length c.args.registers.now) (length c.work.new.working) fine in
    let o : p.wiring.output < length (vec_items p.wiring.nodes) = sound_output (graph_of p.wiring) (vec_items p.coefficients) p.sound in
    let long : length (vec_items p.wiring.nodes) ≤ length c.work.new.working = t.1 in
    let is : c.output.result ≡ p.wiring.output = c.output.ensures in
    let h : c.output.result < length c.work.new.working = omega arith in
    search rules
