use Rattle.std.proofs.Common.{arith}
use Rattle.materials.proofs.Places.{length_listed}
use Rattle.materials.proofs.directory.Directory.place.Goals as goal

pub bounds-self-i : goal.bounds-self-i
bounds-self-i c = omega (arith, length_listed c.args.self.now.file.now c.args.self.now.pairs.now c.args.self.now.listed)
