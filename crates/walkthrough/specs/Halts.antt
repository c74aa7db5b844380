-- Where the walk stops at a fault.
use Rattle.std.specs.Prelude.{ℕ, Some, None, Option}
use Rattle.kinds.specs.Arithmetics.{number}
use Rattle.wiring.specs.declared.faults.RunFault.{RunFault}
use Rattle.wiring.specs.declared.faults.RunFault.TheVariants.{Row, Node}
use Rattle.wiring.specs.Runs.{run_number}
use Rattle.walkthrough.specs.declared.halt.Halt.{Halt}
use Rattle.walkthrough.specs.declared.halt.Halt.TheVariants.{Refused, AtNode, InRecord, Memory}

-- refused by a number; without a number, memory ran out
abbrev pub halted : Option ℕ → Halt
halted (Some n) = Refused n
halted None = Memory

-- refused by a number, with the node where one refused
abbrev pub halted_run : RunFault → Halt
halted_run (Row f) = Refused (run_number (Row f))
halted_run (Node k e) = AtNode (number e) k

-- refused by a number, with the record where the file has a fault in one
abbrev pub halted_file : Option ℕ → Option ℕ → Halt
halted_file (Some n) (Some r) = InRecord n r
halted_file (Some n) None = Refused n
halted_file None r = Memory
