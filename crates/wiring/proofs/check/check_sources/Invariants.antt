use Rattle.std.proofs.Common.{◌≡◌, drop}
use Rattle.wiring.specs.Checks.{scan, source_fault}
use Rattle.wiring.proofs.check.check_sources.Given as goal

abbrev pub invariant-loop-r : goal.invariant-loop-r
invariant-loop-r l = scan (source_fault l.nodes) 0 l.sources ≡ scan (source_fault l.nodes) l.r (drop l.r l.sources)
