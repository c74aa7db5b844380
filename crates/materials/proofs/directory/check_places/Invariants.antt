use Rattle.std.proofs.Common.{◌≡◌, ◌+◌, map, drop}
use Rattle.materials.specs.Files.{pair_in, misplaced}
use Rattle.materials.proofs.directory.check_places.Given as goal

abbrev pub invariant-loop-i : goal.invariant-loop-i
invariant-loop-i l = misplaced (l.i + 1) l.end (map pair_in (drop l.i l.pairs)) l.file_end ≡ misplaced 1 l.start (map pair_in l.pairs) l.file_end
