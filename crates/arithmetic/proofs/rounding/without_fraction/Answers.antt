use Rattle.std.proofs.Common.{◌^◌, pos, ◌+ℤ◌, ◌-ℤ◌, ◌<ℤ◌, ap, ◌∙◌, arith, w64, SFits, to_z, of_z}
use borrow.Author.Differences.{ints}
use lib.Signed.{shr_z}
use Rattle.std.proofs.lemmas.Nat.{pow_pos, pow_below}
use Rattle.arithmetic.specs.Divisions.{zero_up}
use Rattle.arithmetic.proofs.Fits.{unit_is, quotient_fits, lifted_kept}
use Rattle.arithmetic.proofs.rounding.without_fraction.Goals as goal

pub returns-then-p-lt0 : goal.returns-then-p-lt0
returns-then-p-lt0 c =
    let l = c.args.l in
    let p = c.args.p in
    let fp : SFits w64 p = c.ranges.p in
    let b = pow_below l 29 (omega arith) in
    let some = pow_pos l in
    let below : p <ℤ pos 0 = omega (arith, ints) in
    let fd : SFits w64 (pos (2 ^ l) -ℤ pos 1) = omega (arith, ints) in
    let fs : SFits w64 (p +ℤ (pos (2 ^ l) -ℤ pos 1)) = omega (arith, ints) in
    let fq : SFits w64 (shr_z (p +ℤ (pos (2 ^ l) -ℤ pos 1)) (2 ^ l)) = quotient_fits l c.requires (p +ℤ (pos (2 ^ l) -ℤ pos 1)) fs in
    ap (λ u. to_z w64 (of_z w64 (shr_z (to_z w64 (of_z w64 (to_z w64 (of_z w64 p) +ℤ to_z w64 (of_z w64 (u -ℤ pos 1))))) (2 ^ l)))) (unit_is l c.requires)
    ∙ lifted_kept p (pos (2 ^ l)) (2 ^ l) fp fd fs fq
    ∙ zero_up (2 ^ l) p some below
