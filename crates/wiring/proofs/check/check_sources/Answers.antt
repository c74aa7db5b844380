use Rattle.std.proofs.Common.{ap, ◌∙◌, arith, le-ltb, lt-ltb}
use Rattle.wiring.specs.declared.faults.WiringFault.TheVariants.{NoSource}
use Rattle.wiring.specs.Checks.{unless, source_fault}
use Rattle.wiring.proofs.Verdicts.{none_fault, some_fault}
use Rattle.wiring.proofs.Scans.{scan_on, scan_found, scan_end}
use Rattle.wiring.proofs.check.check_sources.Goals as goal

pub returns-then-source-nodes : goal.returns-then-source-nodes
returns-then-source-nodes c =
    some_fault _ tt _ (c.loop-r.invariant ∙ scan_found (source_fault c.args.nodes) c.args.sources.now c.loop-r.r 0 (NoSource c.loop-r.r) (omega arith) (ap (λ b. unless b (NoSource c.loop-r.r)) (le-ltb _ _ c.if-source-nodes.true)))

pub loop-r-preserved : goal.loop-r-preserved
loop-r-preserved c =
    c.loop-r.invariant ∙ scan_on (source_fault c.args.nodes) c.args.sources.now c.loop-r.r 0 (omega arith) (ap (λ b. unless b (NoSource c.loop-r.r)) (lt-ltb _ _ c.if-source-nodes.false))

pub returns : goal.returns
returns c = none_fault _ tt (c.loop-r.invariant ∙ scan_end (source_fault c.args.nodes) c.args.sources.now _ _ (omega arith))
