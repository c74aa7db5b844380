use Rattle.std.proofs.Common.{take}
use Rattle.std.specs.List.{flat_map}
use Rattle.materials.specs.Layout.{Puts}
use Rattle.materials.specs.Lists.{bytes_of}
use Rattle.materials.proofs.write.put_records.Given as goal

abbrev pub invariant-loop-item : goal.invariant-loop-item
invariant-loop-item l = Puts l.initial.destination l.at (flat_map bytes_of (take l.item-index l.list.records.now)) l.destination l.end
