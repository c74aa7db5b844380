use Rattle.materials.proofs.Writes.{puts_part}
use Rattle.materials.proofs.write.put.Goals as goal

pub returns : goal.returns
returns c = puts_part c.args.destination.now c.args.at c.args.bytes.now c.copy_from_slice.new.self c.requires c.copy_from_slice.ensures.after
