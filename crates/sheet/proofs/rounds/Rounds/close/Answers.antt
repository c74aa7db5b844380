use Rattle.std.proofs.Common.{◌≡◌, replicate, ℤ, pos, nat_abs, Ok, Err, sym, refl, ap, ◌∙◌, subst, w32, to_z, of_z}
use Rattle.std.proofs.lemmas.Result.{err_from_is_err_and}
use Rattle.std.proofs.lemmas.Int.{to_z-of_z}
use Rattle.kinds.specs.Parts.{same_bound}
use Rattle.sheet.specs.Searching.{none, box_in, rounds_graph, rounds_list, rounds_meaning, SearchAnswer}
use Rattle.sheet.proofs.Boxes.{Met, met_zero}
use Rattle.sheet.proofs.Steps.{lawful, zeros_in, close_again, close_less, close_ends, close_refused}
use Rattle.sheet.proofs.rounds.Rounds.close.Goals as goal

pub loop-rows-init : goal.loop-rows-init
loop-rows-init g c =
    let a = c.args.self.now in
    let w = rounds_graph a in
    let X = nat_abs (to_z w32 (of_z w32 c.args.range)) in
    let s = rounds_meaning g.R.Rounding.rule g.O.Overflow.rule a in
    let zeros = ap (λ b. box_in w (replicate 16 b)) (same_bound _ none refl refl) ∙ zeros_in w.sources 16 a.room.registers in
    subst (Met s w (rounds_list a) X) (sym zeros) (met_zero s (lawful g.met.R.Rounding.lawful g.met.O.Overflow.lawful a) w (rounds_list a) X)

pub returns-in_err-round : goal.returns-in_err-round
returns-in_err-round g c =
    let same = to_z-of_z w32 c.args.range c.ranges.range in
    let positive : pos (nat_abs (to_z w32 (of_z w32 c.args.range))) ≡ to_z w32 (of_z w32 c.args.range) = subst (λ (u : ℤ). pos (nat_abs u) ≡ u) (sym same) c.requires in
    let e = err_from_is_err_and c.from_residual.result c.from_residual.ensures.1 in
    rw (e.1, e.2) (subst (λ (u : ℤ). SearchAnswer g.R.Rounding.rule g.O.Overflow.rule c.args.self.now (nat_abs u) (Err c.in_err-round.field-0.0) c.round.new.rows) same
    (close_refused g.met.R.Rounding.lawful g.met.O.Overflow.lawful c.args.self.now c.loop-rows.rows c.round.new.rows (to_z w32 (of_z w32 c.args.range)) positive c.loop-rows.invariant c.in_err-round.field-0.0 c.in_err-round.ensures))

pub returns-then-not-raises : goal.returns-then-not-raises
returns-then-not-raises g c =
    let same = to_z-of_z w32 c.args.range c.ranges.range in
    let positive : pos (nat_abs (to_z w32 (of_z w32 c.args.range))) ≡ to_z w32 (of_z w32 c.args.range) = subst (λ (u : ℤ). pos (nat_abs u) ≡ u) (sym same) c.requires in
    subst (λ (u : ℤ). SearchAnswer g.R.Rounding.rule g.O.Overflow.rule c.args.self.now (nat_abs u) (Ok tt) c.round.new.rows) same
    (close_ends g.met.R.Rounding.lawful g.met.O.Overflow.lawful c.args.self.now c.loop-rows.rows c.round.new.rows (to_z w32 (of_z w32 c.args.range)) positive c.in_ok-round.ensures c.loop-rows.invariant c.if-not-raises.ensures)

pub loop-rows-smaller : goal.loop-rows-smaller
loop-rows-smaller g c =
    let same = to_z-of_z w32 c.args.range c.ranges.range in
    let positive : pos (nat_abs (to_z w32 (of_z w32 c.args.range))) ≡ to_z w32 (of_z w32 c.args.range) = subst (λ (u : ℤ). pos (nat_abs u) ≡ u) (sym same) c.requires in
    close_less g.met.R.Rounding.lawful g.met.O.Overflow.lawful c.args.self.now c.loop-rows.rows c.round.new.rows (to_z w32 (of_z w32 c.args.range)) positive c.in_ok-round.ensures c.loop-rows.invariant c.take_sources.new.rows c.take_sources.ensures c.if-not-raises.ensures

pub loop-rows-preserved : goal.loop-rows-preserved
loop-rows-preserved g c =
    let same = to_z-of_z w32 c.args.range c.ranges.range in
    let positive : pos (nat_abs (to_z w32 (of_z w32 c.args.range))) ≡ to_z w32 (of_z w32 c.args.range) = subst (λ (u : ℤ). pos (nat_abs u) ≡ u) (sym same) c.requires in
    close_again g.met.R.Rounding.lawful g.met.O.Overflow.lawful c.args.self.now c.loop-rows.rows c.round.new.rows (to_z w32 (of_z w32 c.args.range)) positive c.in_ok-round.ensures c.loop-rows.invariant c.take_sources.new.rows c.take_sources.ensures
