use Rattle.std.proofs.Common.{map, take, vec_items}
use Rattle.console_text.specs.Calls.{Reads}
use Rattle.console_text.proofs.script.read_script.Given as goal

abbrev pub invariant-loop-line : goal.invariant-loop-line
invariant-loop-line g l = Reads l.rows.registers l.rows.nodes (map (λ t. t.now) (take l.line-index l.lines)) (vec_items l.marks) (vec_items l.calls)
