use Rattle.std.proofs.Common.{◌≡◌, ◌+◌, ◌*◌, ◌≤◌, map, length, take, drop}
use Rattle.std.specs.List.{flat_map}
use Rattle.materials.specs.Files.{faults_in}
use Rattle.materials.specs.Lists.{record_fault, called, bytes_of, list_fault}
use Rattle.materials.proofs.list.check_list.Given as goal

abbrev pub invariant-loop-i : goal.invariant-loop-i
invariant-loop-i l =
    (faults_in record_fault called (map called (take l.i-counter l.records)) (l.i-counter + 1) (drop l.i-counter l.records) ≡ list_fault l.records)
    × (l.size ≡ 2 + 6 * length l.records + length (flat_map bytes_of (take l.i-counter l.records)))
    × (l.size ≤ 2 + 6 * length l.records + 116 * l.i-counter)
