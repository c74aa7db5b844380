use Rattle.std.proofs.Common.{◌≡◌, ◌+◌, ◌*◌, ◌≤◌, map, length, take}
use Rattle.std.specs.List.{flat_map}
use Rattle.materials.specs.Layout.{Puts, pairs}
use Rattle.materials.specs.Lists.{bytes_of}
use Rattle.materials.proofs.write.put_pairs.Given as goal

abbrev pub invariant-loop-item : goal.invariant-loop-item
invariant-loop-item l =
    Puts l.initial.destination l.at (pairs (2 + 6 * length l.list.records.now) (map bytes_of (take l.item-index l.list.records.now))) l.destination l.end
    × (l.begin ≡ (2 + 6 * length l.list.records.now) + length (flat_map bytes_of (take l.item-index l.list.records.now)))
    × (l.begin ≤ (2 + 6 * length l.list.records.now) + 116 * l.item-index)
