use Rattle.std.proofs.Common.{◌≡◌, ◌^◌, pos, ◌+ℤ◌, ◌-ℤ◌, ◌≤ℤ◌, ◌<ℤ◌, sym, ap, ◌∙◌, arith, w64, SFits, rules}
use borrow.Author.Differences.{ints}
use Rattle.std.proofs.lemmas.Nat.{pow_pos, pow_below}
use Rattle.std.proofs.lemmas.Int.{to_z-of_z}
use Rattle.arithmetic.specs.Rounding.{divided, floor}
use Rattle.arithmetic.specs.Divisions.{floor_rest, divided_down, divided_up}
use Rattle.arithmetic.proofs.Fits.{sum_and_difference_kept}
use Rattle.arithmetic.proofs.rounding.NearestRounding.divide.Goals as goal

pub overflow_sub-result : goal.overflow_sub-result
overflow_sub-result c =
    let l = c.args.format.now.fraction in
    let p = c.args.p in
    let fp : SFits w64 p = c.ranges.p in
    let f : c.divide-q.result ≡ divided floor l p = simp to_z-of_z at c.divide-q.ensures in
    let e : c.divide-q.result.1 ≡ (divided floor l p).1 = ap (λ x. x.1) f in
    let u : c.unit-unit.result ≡ pos (2 ^ l) = c.unit-unit.ensures in
    let fr : SFits w64 c.divide-q.result.1 = search rules in
    let fu : SFits w64 c.unit-unit.result = search rules in
    let r = floor_rest (2 ^ l) p (pow_pos l) in
    simp to_z-of_z (omega (arith, ints, r.1, r.2, pow_below l 24 (omega arith)))

pub returns-then-r-unit : goal.returns-then-r-unit
returns-then-r-unit c =
    let l = c.args.format.now.fraction in
    let p = c.args.p in
    let fp : SFits w64 p = c.ranges.p in
    let f : c.divide-q.result ≡ divided floor l p = simp to_z-of_z at c.divide-q.ensures in
    let rest = (divided floor l p).1 in
    let e : c.divide-q.result.1 ≡ rest = ap (λ x. x.1) f in
    let u : c.unit-unit.result ≡ pos (2 ^ l) = c.unit-unit.ensures in
    let fq : SFits w64 c.divide-q.result.0 = search rules in
    let fr : SFits w64 c.divide-q.result.1 = search rules in
    let r = floor_rest (2 ^ l) p (pow_pos l) in
    let b = pow_below l 24 (omega arith) in
    let k : (rest +ℤ rest) <ℤ pos (2 ^ l) = omega (arith, ints, r.1, r.2) in
    simp to_z-of_z (f ∙ sym (divided_down l p (omega arith) k))

pub returns-else-r-unit : goal.returns-else-r-unit
returns-else-r-unit c =
    let l = c.args.format.now.fraction in
    let p = c.args.p in
    let fp : SFits w64 p = c.ranges.p in
    let f : c.divide-q.result ≡ divided floor l p = simp to_z-of_z at c.divide-q.ensures in
    let q = c.divide-q.result.0 in
    let rest = (divided floor l p).1 in
    let e : c.divide-q.result.1 ≡ rest = ap (λ x. x.1) f in
    let u : c.unit-unit.result ≡ pos (2 ^ l) = c.unit-unit.ensures in
    let fq : SFits w64 q = search rules in
    let fr : SFits w64 c.divide-q.result.1 = search rules in
    let fu : SFits w64 c.unit-unit.result = search rules in
    let r = floor_rest (2 ^ l) p (pow_pos l) in
    let b = pow_below l 24 (omega arith) in
    let k : pos (2 ^ l) ≤ℤ (rest +ℤ rest) = omega (arith, ints, r.1, r.2) in
    let fm : SFits w64 (q +ℤ pos 1) = search rules in
    let fs : SFits w64 (c.divide-q.result.1 -ℤ c.unit-unit.result) = omega (arith, ints, r.1, r.2) in
    sum_and_difference_kept q c.divide-q.result.1 c.unit-unit.result fq fr fu fm fs ∙ simp (u, f) (sym (divided_up l p (omega arith) k))
