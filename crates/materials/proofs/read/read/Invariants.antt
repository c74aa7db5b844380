use Rattle.std.proofs.Common.{◌≡◌, map, take, vec_items}
use Rattle.materials.specs.Layout.{meaning}
use Rattle.materials.specs.Records.{material}
use Rattle.materials.specs.Files.{parts}
use Rattle.materials.proofs.read.read.Given as goal

abbrev pub invariant-loop-i : goal.invariant-loop-i
invariant-loop-i l = map meaning (vec_items l.out) ≡ map material (take l.i (parts l.directory.file.now))
