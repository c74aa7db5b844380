-- What the calls of a program answer and leave.
use Rattle.std.specs.Prelude.{◌≡◌, ℕ, List, length, ℤ, Some, None, Ok, Err, vec_items, Option, Result, nat_le, slice_index_or}
use Rattle.arithmetic.specs.declared.format.Format.{Format}
use Rattle.wiring.specs.declared.faults.ProgramFault.{ProgramFault}
use Rattle.wiring.specs.declared.program.Program.{Program}
use Rattle.kinds.specs.Arithmetics.{Arithmetic}
use Rattle.wiring.specs.declared.faults.RowFault.TheVariants.{Registers}
use Rattle.wiring.specs.declared.faults.RunFault.{RunFault}
use Rattle.wiring.specs.declared.faults.RunFault.TheVariants.{Row}
use Rattle.wiring.specs.Graphs.{Graph, graph_of}
use Rattle.wiring.specs.Runs.{attempt, rows_fault, registers_after}
use Rattle.wiring.specs.Checks.{unless}
use Rattle.wiring.specs.Programs.{program_fault}

-- the program of just this wiring and these coefficients, or the first fault
abbrev pub ProgramAnswer : Format → Graph → List ℤ → Result Program ProgramFault → Type 0
ProgramAnswer f g cs (Ok p) = (program_fault f g cs ≡ None) × (graph_of p.wiring ≡ g) × (vec_items p.coefficients ≡ cs)
ProgramAnswer f g cs (Err e) = program_fault f g cs ≡ Some e

-- a program's run over rows that are lent to it
abbrev pub program_attempt : {V : Type 0} → Arithmetic V → Program → List V → List V → ℤ → Result (List V) RunFault
program_attempt k p rs ws u = attempt k (graph_of p.wiring) (vec_items p.coefficients) rs ws u

abbrev pub node_count : Program → ℕ
node_count p = length (vec_items p.wiring.nodes)

abbrev pub register_count : Program → ℕ
register_count p = length (vec_items p.wiring.sources)

-- whether both rows are long enough
abbrev pub program_rows_fault : Program → ℕ → ℕ → Option RunFault
program_rows_fault p registers working = rows_fault (graph_of p.wiring) registers working

-- whether the register row is
abbrev pub register_row_fault : Program → ℕ → Option RunFault
register_row_fault p registers = unless (nat_le (register_count p) registers) (Row Registers)

-- x where there is no fault
abbrev pub unless_fault : {E X : Type 0} → Option E → X → X → X
unless_fault None x y = x
unless_fault (Some e) x y = y

-- once the nodes are worked: the output is the value of its node in the working row, and the registers take their sources from there
abbrev pub stepped : {V : Type 0} → V → Graph → List V → Result (List V) RunFault → Result V RunFault
stepped z g working (Ok vs) = Ok (slice_index_or working g.output z)
stepped z g working (Err e) = Err e

abbrev pub registers_stepped : {V : Type 0} → V → Graph → List V → List V → Result (List V) RunFault → List V
registers_stepped z g row working (Ok vs) = registers_after z g row working
registers_stepped z g row working (Err e) = row
