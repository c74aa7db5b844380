use Rattle.materials.proofs.Places.{length_listed}
use Rattle.materials.proofs.directory.Directory.count.Goals as goal

pub returns : goal.returns
returns c = length_listed c.args.self.now.file.now c.args.self.now.pairs.now c.args.self.now.listed
