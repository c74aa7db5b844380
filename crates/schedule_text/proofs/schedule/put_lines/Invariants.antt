use Rattle.std.proofs.Common.{map, take, vec_items}
use Rattle.materials.specs.Layout.{meaning}
use Rattle.schedule_text.specs.Schedules.{LinesOf}
use Rattle.schedule_text.proofs.schedule.put_lines.Given as goal

abbrev pub invariant-loop-item : goal.invariant-loop-item
invariant-loop-item l = LinesOf (map meaning (take l.item-index l.records)) (vec_items l.initial.text) (vec_items l.text)
