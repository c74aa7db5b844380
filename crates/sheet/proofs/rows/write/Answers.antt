use Rattle.std.proofs.Common.{[], refl, arith}
use Rattle.wiring.specs.Lists.{none₂}
use Rattle.sheet.proofs.Written.{written_more, written_all}
use Rattle.sheet.proofs.rows.write.Goals as goal

pub loop-i-init : goal.loop-i-init
loop-i-init g c = ([], none₂, refl)

pub loop-i-preserved : goal.loop-i-preserved
loop-i-preserved g c = written_more _ c.args.entries.now c.args.row.now c.index-entries-i.result c.part.result c.loop-i.row c.loop-i.i (omega arith) (omega arith) c.index-entries-i.is c.part.ensures c.loop-i.invariant

pub returns : goal.returns
returns g c = written_all _ c.args.entries.now c.args.row.now c.loop-i.row c.loop-i.i (omega arith) c.loop-i.invariant
