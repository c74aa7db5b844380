use Rattle.std.proofs.Common.{◌≡◌, length, get_or, ℤ, pos, nat_abs, sym, ap, subst, rules, w32, to_z, of_z}
use Rattle.std.proofs.lemmas.Int.{to_z-of_z}
use Rattle.arithmetic.specs.Formats.{width}
use Rattle.kinds.specs.declared.values.Bound.{Bound}
use Rattle.wiring.specs.Made.{register_count}
use Rattle.wiring.proofs.Soundness.{sound_output}
use Rattle.sheet.specs.Searching.{none, program_graph, program_list, box_in, rounds_meaning, Least}
use Rattle.sheet.proofs.Boxes.{quiet_closed, nth_small}
use Rattle.sheet.proofs.Steps.{lawful}
use Rattle.sheet.proofs.Verdicts.{call_fine, granted_verdict, parts_are}
use Rattle.sheet.proofs.sheet.make.Goals as goal

pub close-requires : goal.close-requires
close-requires g c =
    let fine = call_fine (width c.args.rounds.now.values.setting.format) (register_count c.args.rounds.now.program) _ _ _ c.args.range c.requires in
    subst (λ (u : ℤ). pos (nat_abs u) ≡ u) (sym (to_z-of_z w32 c.args.range c.ranges.range)) fine.positive

pub settle-count-requires : goal.settle-count-requires
settle-count-requires g c =
    let a = c.args.rounds.now in
    let s = rounds_meaning g.R.Rounding.rule g.O.Overflow.rule a in
    let law = lawful g.met.R.Rounding.lawful g.met.O.Overflow.lawful a in
    let w = program_graph a.program in
    let X = nat_abs (to_z w32 (of_z w32 c.args.range)) in
    let least = c.in_default.ensures in record {
      closed = quiet_closed s law w (program_list a.program) X (box_in w c.close.new.rows.registers) least.closed;
      small = nth_small s law w (program_list a.program) X least.met.0 (box_in w c.close.new.rows.registers) least.met.1;
    }

pub returns : goal.returns
returns g c =
    let a = c.args.rounds.now in
    let s = rounds_meaning g.R.Rounding.rule g.O.Overflow.rule a in
    let w = program_graph a.program in
    let fine = call_fine (width a.values.setting.format) (register_count a.program) _ _ _ c.args.range c.requires in
    let out = sound_output w (program_list a.program) a.program.sound in
    let room = a.room in
    let n = ap length c.sources-n.ensures in
    let least : Least s w (program_list a.program) (nat_abs c.args.range) (box_in w c.close.new.rows.registers) (get_or c.close.new.rows.working w.output none) =
    subst (λ (u : ℤ). Least s w (program_list a.program) (nat_abs u) (box_in w c.close.new.rows.registers) (get_or c.close.new.rows.working w.output none)) (to_z-of_z w32 c.args.range c.ranges.range) c.in_default.ensures in
    granted_verdict s w (program_list a.program) (nat_abs c.args.range) c.close.new.rows.registers c.settle-count.new.rows.registers c.close.new.rows.working c.settle-count.new.rows.working c.settle-count.result
    fine.range least c.settle-count.ensures
    c.args.peaks.now c.args.ceilings.now c.args.band.now _ _ _
    (parts_are (λ (b : Bound). b.peak) _ _ c.close.new.rows.registers c.args.peaks.now c.write.new.row (λ b v k. search rules) n c.write.ensures)
    (parts_are (λ (b : Bound). b.ceiling) _ _ c.close.new.rows.registers c.args.ceilings.now c.write-2.new.row (λ b v k. search rules) n c.write-2.ensures)
    (parts_are (λ (b : Bound). b.peak) _ _ c.settle-count.new.rows.registers c.args.band.now c.write-3.new.row (λ b v k. search rules) n c.write-3.ensures)
    _ _ c.output-output.ensures c.output.ensures
