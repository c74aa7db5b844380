use Rattle.std.proofs.Common.{◌∙◌, arith}
use Rattle.std.proofs.lemmas.Result.{err_from_is_err_and}
use Rattle.wiring.specs.declared.graph.Node.TheVariants.{Input}
use Rattle.wiring.specs.Checks.{node_fault}
use Rattle.wiring.proofs.Verdicts.{fault_none, fault_some, none_fault, some_fault}
use Rattle.wiring.proofs.Scans.{scan_on, scan_found, scan_end}
use Rattle.wiring.proofs.check.check_nodes.Goals as goal

pub returns-in_err-check : goal.returns-in_err-check
returns-in_err-check c =
    let p = err_from_is_err_and c.from_residual.result c.from_residual.ensures.1 in
    rw (p.1, p.2) (some_fault _ tt _ (c.loop-k.invariant ∙ scan_found (node_fault c.args.registers c.args.coefficients) c.args.nodes.now c.loop-k.k Input _ (omega arith) (fault_some _ _ _ c.in_err-check.ensures)))

pub loop-k-preserved : goal.loop-k-preserved
loop-k-preserved c =
    c.loop-k.invariant ∙ scan_on (node_fault c.args.registers c.args.coefficients) c.args.nodes.now c.loop-k.k Input (omega arith) (fault_none _ _ _ c.in_ok-check.ensures)

pub returns : goal.returns
returns c = none_fault _ tt (c.loop-k.invariant ∙ scan_end (node_fault c.args.registers c.args.coefficients) c.args.nodes.now _ _ (omega arith))
