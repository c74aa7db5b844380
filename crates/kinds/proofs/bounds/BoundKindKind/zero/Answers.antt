use Rattle.std.proofs.Common.{refl}
use Rattle.kinds.specs.Parts.{same_bound}
use Rattle.kinds.proofs.bounds.BoundKindKind.zero.Goals as goal

pub returns : goal.returns
returns g c = same_bound _ _ refl refl
