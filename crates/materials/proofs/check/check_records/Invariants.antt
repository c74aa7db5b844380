use Rattle.std.proofs.Common.{◌≡◌, ◌+◌, [], map, take, drop}
use Rattle.materials.specs.Records.{name_of}
use Rattle.materials.specs.Files.{parts, records_fault}
use Rattle.materials.proofs.check.check_records.Given as goal

abbrev pub invariant-loop-i : goal.invariant-loop-i
invariant-loop-i l = records_fault (map name_of (take l.i-counter (parts l.directory.file.now))) (l.i-counter + 1) (drop l.i-counter (parts l.directory.file.now)) ≡ records_fault [] 1 (parts l.directory.file.now)
