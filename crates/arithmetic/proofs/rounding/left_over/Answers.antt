use Rattle.std.proofs.Common.{w64, SFits}
use Rattle.std.proofs.lemmas.Int.{to_z-of_z}
use Rattle.arithmetic.proofs.Fits.{unit_is, quotient_fits, product_fits, remainder_fits}
use Rattle.arithmetic.proofs.rounding.left_over.Goals as goal

pub overflow_mul-result : goal.overflow_mul-result
overflow_mul-result c =
    let l = c.args.l in
    let p = c.args.p in
    let fp : SFits w64 p = c.ranges.p in
    let fq = quotient_fits l c.requires p fp in
    simp (unit_is l c.requires, to_z-of_z) (product_fits l c.requires p fp)

pub overflow_sub-result : goal.overflow_sub-result
overflow_sub-result c =
    let l = c.args.l in
    let p = c.args.p in
    let fp : SFits w64 p = c.ranges.p in
    let fq = quotient_fits l c.requires p fp in
    let fm = product_fits l c.requires p fp in
    simp (unit_is l c.requires, to_z-of_z) (remainder_fits l c.requires p)

pub returns : goal.returns
returns c =
    let l = c.args.l in
    let p = c.args.p in
    let fp : SFits w64 p = c.ranges.p in
    let fq = quotient_fits l c.requires p fp in
    let fm = product_fits l c.requires p fp in
    let fr = remainder_fits l c.requires p in
    simp (unit_is l c.requires, to_z-of_z)
