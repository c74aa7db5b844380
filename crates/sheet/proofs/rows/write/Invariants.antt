use Rattle.sheet.proofs.Written.{Written}
use Rattle.sheet.proofs.rows.write.Given as goal

abbrev pub invariant-loop-i : goal.invariant-loop-i
invariant-loop-i g l = Written (goal.F-post g l.part) l.entries l.initial.row l.i l.row
