use Rattle.std.proofs.Common.{Ok, refl, ap, w32}
use Rattle.std.proofs.lemmas.Int.{to_z-of_z}
use Rattle.kinds.specs.Parts.{same_enclosed}
use Rattle.kinds.proofs.enclosures.EnclosedKindKind.sample.Goals as goal

pub returns : goal.returns
returns g c = ap (λ v. Ok v) (same_enclosed _ _ (to_z-of_z w32 c.args.u c.ranges.u) refl refl)
