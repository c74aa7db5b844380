use Rattle.std.proofs.Common.{length, arith}
use Rattle.std.proofs.lemmas.List.{length-take}
use Rattle.sheet.specs.Searching.{rounds_graph, held_box, rounds_meaning}
use Rattle.sheet.proofs.Boxes.{peaks_few}
use Rattle.sheet.proofs.Steps.{settle_closed, settle_sunk, settle_less, settle_ends}
use Rattle.sheet.proofs.rounds.Rounds.settle.Goals as goal

pub returns-then-not-lowers : goal.returns-then-not-lowers
returns-then-not-lowers g c = settle_ends g.met.R.Rounding.lawful g.met.O.Overflow.lawful c.args.self.now c.loop-rows.rows c.round.new.rows c.in-Ok.ensures c.args.rows.now c.loop-rows.count c.loop-rows.invariant.0 c.loop-rows.invariant.1 c.if-not-lowers.ensures

pub overflow_add-count : goal.overflow_add-count
overflow_add-count g c =
    let a = c.args.self.now in
    let later = (settle_sunk g.met.R.Rounding.lawful g.met.O.Overflow.lawful c.args.self.now c.loop-rows.rows c.round.new.rows c.in-Ok.ensures c.args.rows.now c.loop-rows.count c.loop-rows.invariant.0 c.loop-rows.invariant.1 c.if-not-lowers.ensures c.take_sources.new.rows c.take_sources.ensures).1 in
    let long = length-take (length (rounds_graph a).sources) c.args.rows.now.registers in
    let few = a.room.registers in
    let most = peaks_few (rounds_meaning g.R.Rounding.rule g.O.Overflow.rule a) (held_box a c.args.rows.now) c.requires.small (omega arith) in
    omega arith

pub loop-rows-smaller : goal.loop-rows-smaller
loop-rows-smaller g c = settle_less g.met.R.Rounding.lawful g.met.O.Overflow.lawful c.args.self.now c.loop-rows.rows c.round.new.rows c.in-Ok.ensures c.args.rows.now c.loop-rows.count c.loop-rows.invariant.0 c.loop-rows.invariant.1 c.if-not-lowers.ensures c.take_sources.new.rows c.take_sources.ensures

pub loop-rows-preserved : goal.loop-rows-preserved
loop-rows-preserved g c = (
  settle_closed g.met.R.Rounding.lawful g.met.O.Overflow.lawful c.args.self.now c.loop-rows.rows c.round.new.rows c.in-Ok.ensures c.args.rows.now c.loop-rows.count c.loop-rows.invariant.0 c.loop-rows.invariant.1 c.if-not-lowers.ensures c.take_sources.new.rows c.take_sources.ensures,
  settle_sunk g.met.R.Rounding.lawful g.met.O.Overflow.lawful c.args.self.now c.loop-rows.rows c.round.new.rows c.in-Ok.ensures c.args.rows.now c.loop-rows.count c.loop-rows.invariant.0 c.loop-rows.invariant.1 c.if-not-lowers.ensures c.take_sources.new.rows c.take_sources.ensures,
)
