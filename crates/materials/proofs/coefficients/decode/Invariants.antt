use Rattle.std.proofs.Common.{◌≡◌, map, take, vec_items}
use Rattle.materials.specs.Layout.{word_at}
use Rattle.materials.proofs.coefficients.decode.Given as goal

abbrev pub invariant-loop-bytes : goal.invariant-loop-bytes
invariant-loop-bytes l = vec_items l.out ≡ map word_at (take l.bytes-index l.words)
