use Rattle.std.proofs.Common.{◌≤◌, sym, rules}
use Rattle.arithmetic.specs.Settings.{FixedArithmetic, meaning}
use Rattle.kinds.specs.Bounds.{peak_limit}
use Rattle.kinds.specs.Parts.{fits_as}
use Rattle.kinds.proofs.bounds.fit.Goals as goal

pub returns : goal.returns
returns g c =
    let s : FixedArithmetic = meaning g.R.Rounding.rule g.O.Overflow.rule c.args.setting.now in
    let h : c.args.peak ≤ peak_limit s = search rules in
    sym (fits_as s _ h)
