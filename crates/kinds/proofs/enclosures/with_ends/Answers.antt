use Rattle.std.proofs.Common.{w32, w64}
use Rattle.std.proofs.lemmas.Int.{to_z-of_z}
use Rattle.kinds.specs.Parts.{ends_as}
use Rattle.kinds.proofs.enclosures.with_ends.Goals as goal

pub returns : goal.returns
returns c = ends_as _ c.args.word c.args.low c.args.high (to_z-of_z w32 _ c.ranges.word) (to_z-of_z w64 _ c.ranges.low) (to_z-of_z w64 _ c.ranges.high)
