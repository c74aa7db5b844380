use Rattle.std.proofs.Common.{ℤ, Err, sym, ap, ◌∙◌, rules, w32, to_z, of_z}
use Rattle.std.proofs.lemmas.Int.{to_z-of_z}
use Rattle.kinds.specs.Bounds.{bound_arithmetic}
use Rattle.wiring.specs.Runs.{run}
use Rattle.wiring.proofs.Soundness.{sound_source, sound_output}
use Rattle.sheet.specs.Searching.{program_graph, program_list, box_in, rounds_meaning}
use Rattle.sheet.proofs.Ran.{ran_row, ran_node, ran_ok}
use Rattle.sheet.proofs.rounds.Rounds.round.Goals as goal

pub unreachable-requires : goal.unreachable-requires
unreachable-requires g c =
    let s = rounds_meaning g.R.Rounding.rule g.O.Overflow.rule c.args.self.now in
    let p = c.args.self.now.program in
    let room = c.args.self.now.room in
    ran_row (bound_arithmetic s) (program_graph p) (program_list p) c.args.rows.now.registers c.args.rows.now.working (to_z w32 (of_z w32 c.args.sample)) (search rules) (search rules) c.in-Err-Row.field-0-0
    (ap (λ f. Err f) (sym c.in-Err-Row.field-0-is) ∙ c.in-Err-Row.ensures.answer)

pub returns-in-Ok : goal.returns-in-Ok
returns-in-Ok g c =
    let s = rounds_meaning g.R.Rounding.rule g.O.Overflow.rule c.args.self.now in
    let p = c.args.self.now.program in
    let room = c.args.self.now.room in
    let same = to_z-of_z w32 c.args.sample c.ranges.sample in
    let t = ran_ok (bound_arithmetic s) (program_graph p) (program_list p) c.args.rows.now.registers c.args.rows.now.working (to_z w32 (of_z w32 c.args.sample)) (search rules) (search rules)
    c.in-Ok.field-0 c.work.new.working (sound_source (program_graph p) (program_list p) p.sound) (sound_output (program_graph p) (program_list p) p.sound) c.in-Ok.ensures.answer c.work.ensures.row in
    (search rules, t.0, ap (λ (u : ℤ). run (bound_arithmetic s) (program_graph p) (program_list p) (box_in (program_graph p) c.args.rows.now.registers) u) (sym same) ∙ t.1, record { sources = t.2; output = t.3 })

pub returns-in-Err-Node : goal.returns-in-Err-Node
returns-in-Err-Node g c =
    let s = rounds_meaning g.R.Rounding.rule g.O.Overflow.rule c.args.self.now in
    let p = c.args.self.now.program in
    let room = c.args.self.now.room in
    let same = to_z-of_z w32 c.args.sample c.ranges.sample in
    ap (λ (u : ℤ). run (bound_arithmetic s) (program_graph p) (program_list p) (box_in (program_graph p) c.args.rows.now.registers) u) (sym same)
    ∙ ran_node (bound_arithmetic s) (program_graph p) (program_list p) c.args.rows.now.registers c.args.rows.now.working (to_z w32 (of_z w32 c.args.sample)) (search rules) (search rules) c.in-Err-Node.k c.in-Err-Node.refusal
    (ap (λ f. Err f) (sym c.in-Err-Node.field-0-is) ∙ c.in-Err-Node.ensures.answer)
