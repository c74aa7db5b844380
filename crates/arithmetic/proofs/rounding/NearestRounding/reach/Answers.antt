use Rattle.std.proofs.Common.{◌≡◌, ◌+◌, ◌-◌, ◌/◌, ◌%◌, ◌^◌, min, ◌∙◌, arith}
use Rattle.arithmetic.specs.Divisions.{halved_up}
use Rattle.arithmetic.proofs.rounding.NearestRounding.reach.Goals as goal

pub returns : goal.returns
returns c =
    let l = c.args.format.now.fraction in
    let halves = c.args.m / 2 ^ (l - 1) in
    let k : c.fraction.result ≡ l = c.fraction.ensures in
    let e : c.div_ceil.result ≡ halves / 2 + min 1 (halves % 2) = simp k at c.div_ceil.ensures in
    e ∙ halved_up l c.args.m (omega arith)
