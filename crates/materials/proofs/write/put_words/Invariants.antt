use Rattle.std.proofs.Common.{take}
use Rattle.std.specs.List.{flat_map}
use Rattle.materials.specs.Layout.{Puts, coded}
use Rattle.materials.proofs.write.put_words.Given as goal

abbrev pub invariant-loop-z : goal.invariant-loop-z
invariant-loop-z l = Puts l.initial.destination l.at (flat_map coded (take l.z-index l.words)) l.destination l.end
