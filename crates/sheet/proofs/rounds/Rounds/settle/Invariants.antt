use Rattle.sheet.specs.Sheets.{Closed}
use Rattle.sheet.specs.Searching.{rounds_graph, rounds_list, held_box, peaks_of, rounds_meaning}
use Rattle.sheet.proofs.Places.{total}
use Rattle.sheet.proofs.Boxes.{Sunk}
use Rattle.sheet.proofs.rounds.Rounds.settle.Given as goal

abbrev pub invariant-loop-rows : goal.invariant-loop-rows
invariant-loop-rows g l =
    let s = rounds_meaning g.R.Rounding.rule g.O.Overflow.rule l.self in
    Closed s (rounds_graph l.self) (rounds_list l.self) 0 (held_box l.self l.rows)
    × Sunk s (rounds_graph l.self) (rounds_list l.self) (held_box l.self l.fn.rows) l.count (held_box l.self l.rows)

abbrev pub decreases-loop-rows : goal.decreases-loop-rows
decreases-loop-rows g l = total (peaks_of (held_box l.self l.rows))
