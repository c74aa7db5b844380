use Rattle.std.proofs.Common.{vec_items}
use Rattle.replay.proofs.Loops.{Follows}
use Rattle.replay.proofs.replay.follow.Given as goal

abbrev pub invariant-loop-call : goal.invariant-loop-call
invariant-loop-call g l = Follows g.K.Kind.model g.R.Rounding.rule g.O.Overflow.rule l.initial.channel l.initial.row l.calls l.channel l.row (vec_items l.log) l.call-index
