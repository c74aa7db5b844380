use Rattle.std.proofs.Common.{arith}
use borrow.Author.Differences.{ints}
use Rattle.kinds.proofs.enclosures.lost.Goals as goal

pub returns : goal.returns
returns c = record { value = omega (arith, ints); bound = omega (arith, ints) }
