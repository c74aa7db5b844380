use Rattle.std.proofs.Common.{◌≡◌, drop}
use Rattle.arithmetic.specs.Formats.{width}
use Rattle.wiring.specs.Checks.{scan}
use Rattle.wiring.specs.Programs.{word_fault}
use Rattle.wiring.proofs.check.check_words.Given as goal

abbrev pub invariant-loop-i : goal.invariant-loop-i
invariant-loop-i l = scan (word_fault (width l.format)) 0 l.coefficients ≡ scan (word_fault (width l.format)) l.i (drop l.i l.coefficients)
