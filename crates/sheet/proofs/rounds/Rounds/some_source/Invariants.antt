use Rattle.std.proofs.Common.{ℕ, ◌<◌, false, length, get_or}
use Rattle.sheet.specs.Searching.{none, program_graph}
use Rattle.sheet.proofs.rounds.Rounds.some_source.Given as goal

abbrev pub invariant-loop-source : goal.invariant-loop-source
invariant-loop-source g l =
    (k : ℕ) → k < length l.yielded → goal.F-post g l.test (get_or l.rows.working (get_or (program_graph l.self.program).sources k 0) none) (get_or l.rows.registers k none) false
