use Rattle.std.proofs.Common.{◌≡◌, ℕ, ◌++◌, length, vec_items}
use Rattle.forms.specs.Parts.{listed, GivesBelow}
use Rattle.forms.proofs.parts.add_row.Given as goal

abbrev pub invariant-loop-i : goal.invariant-loop-i
invariant-loop-i g l = (f : ℕ → _) → GivesBelow (length l.coefficients) (goal.F-post g l.make) f → vec_items l.row ≡ vec_items l.initial.row ++ listed f l.i
