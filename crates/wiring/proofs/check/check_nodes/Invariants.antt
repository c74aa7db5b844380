use Rattle.std.proofs.Common.{◌≡◌, drop}
use Rattle.wiring.specs.Checks.{scan, node_fault}
use Rattle.wiring.proofs.check.check_nodes.Given as goal

abbrev pub invariant-loop-k : goal.invariant-loop-k
invariant-loop-k l = scan (node_fault l.registers l.coefficients) 0 l.nodes ≡ scan (node_fault l.registers l.coefficients) l.k (drop l.k l.nodes)
