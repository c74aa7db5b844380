use Rattle.std.proofs.Common.{◌≡◌, ◌++◌, map, length, get_or, take, drop, vec_items}
use Rattle.wiring.proofs.program.Program.take_registers.Given as goal

abbrev pub invariant-loop-i : goal.invariant-loop-i
invariant-loop-i g l =
    ((d : g.row.V.Denot) → l.registers ≡ map (λ s. get_or l.working s d) (take l.i (vec_items l.self.wiring.sources)) ++ drop l.i l.initial.registers)
    × (length l.registers ≡ length l.initial.registers)
