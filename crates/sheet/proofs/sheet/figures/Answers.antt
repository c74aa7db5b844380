use Rattle.std.proofs.Common.{ℤ, vec_items, subst, w32}
use Rattle.std.proofs.lemmas.Int.{to_z-of_z}
use Rattle.wiring.specs.Graphs.{graph_of}
use Rattle.sheet.specs.Calls.{rows, zero_rows, SheetAnswer}
use Rattle.sheet.proofs.sheet.figures.Goals as goal

pub returns : goal.returns
returns g c = (
  rows c.sheet.new.peaks c.sheet.new.ceilings c.sheet.new.band,
  subst (λ (x : ℤ). SheetAnswer g.R.Rounding.rule g.O.Overflow.rule c.args.setting.now (graph_of c.args.filter.wiring) (vec_items c.args.filter.coefficients) x zero_rows (rows c.sheet.new.peaks c.sheet.new.ceilings c.sheet.new.band) c.sheet.result) (to_z-of_z w32 c.args.range c.ranges.range) c.sheet.ensures,
)
