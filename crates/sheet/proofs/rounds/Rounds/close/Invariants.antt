use Rattle.std.proofs.Common.{nat_abs}
use Rattle.sheet.specs.Searching.{rounds_graph, rounds_list, held_box, rounds_meaning}
use Rattle.sheet.proofs.Boxes.{Met, distance}
use Rattle.sheet.proofs.rounds.Rounds.close.Given as goal

abbrev pub invariant-loop-rows : goal.invariant-loop-rows
invariant-loop-rows g l = Met (rounds_meaning g.R.Rounding.rule g.O.Overflow.rule l.self) (rounds_graph l.self) (rounds_list l.self) (nat_abs l.range) (held_box l.self l.rows)

abbrev pub decreases-loop-rows : goal.decreases-loop-rows
decreases-loop-rows g l = distance (rounds_meaning g.R.Rounding.rule g.O.Overflow.rule l.self) (rounds_graph l.self) (held_box l.self l.rows)
