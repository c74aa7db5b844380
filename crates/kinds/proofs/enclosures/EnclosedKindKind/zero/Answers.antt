use Rattle.std.proofs.Common.{refl}
use Rattle.kinds.specs.Parts.{same_enclosed}
use Rattle.kinds.proofs.enclosures.EnclosedKindKind.zero.Goals as goal

pub returns : goal.returns
returns g c = same_enclosed _ _ refl refl refl
