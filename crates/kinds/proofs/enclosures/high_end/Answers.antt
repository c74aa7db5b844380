use Rattle.std.proofs.Common.{◌^◌, ◌≤◌, pos, ◌+ℤ◌, ◌*ℤ◌, nat_abs, sym, subst, arith, w64, SFits, rules}
use borrow.Author.Differences.{ints}
use Rattle.std.specs.Int.{int_max}
use Rattle.std.proofs.lemmas.Int.{to_z-of_z, clamps}
use Rattle.kinds.proofs.Numbers.{near_fits, high_bound, up_bound, up_by_is, minus_fits, minus_down_fits, up_fits}
use Rattle.kinds.proofs.enclosures.high_end.Goals as goal

pub overflow_add-result : goal.overflow_add-result
overflow_add-result c = omega (arith, ints, clamps, c.max.ensures.value)

pub overflow_sub-result : goal.overflow_sub-result
overflow_sub-result c = omega (arith, ints, clamps, c.max.ensures.value)

pub overflow_sub-result-2 : goal.overflow_sub-result-2
overflow_sub-result-2 c =
    let a = c.args.products.low in
    let b = c.args.products.high in
    let r = c.args.r in
    let l = c.args.format.now.fraction in
    let y = int_max a b +ℤ pos 4096 *ℤ r in
    let fa : SFits w64 a = search rules in
    let fb : SFits w64 b = search rules in
    let fr : SFits w64 r = c.ranges.r in
    let fm : SFits w64 (int_max a b) = omega (arith, ints, clamps) in
    let fp : SFits w64 (pos 4096 *ℤ r) = omega (arith, ints, c.requires) in
    let least = c.args.format.now.sound.1 in
    let h = high_bound a b r c.args.products.wide.0 c.args.products.wide.1 c.requires in
    let fs = near_fits y (omega arith) in
    let fn = minus_fits y l h least in
    let fd = minus_down_fits y l h least in
    let m = simp to_z-of_z at c.max.ensures.value in
    simp (m, c.fraction.ensures, to_z-of_z) (up_fits y l h least)

pub returns : goal.returns
returns c =
    let a = c.args.products.low in
    let b = c.args.products.high in
    let r = c.args.r in
    let l = c.args.format.now.fraction in
    let y = int_max a b +ℤ pos 4096 *ℤ r in
    let fa : SFits w64 a = search rules in
    let fb : SFits w64 b = search rules in
    let fr : SFits w64 r = c.ranges.r in
    let fm : SFits w64 (int_max a b) = omega (arith, ints, clamps) in
    let fp : SFits w64 (pos 4096 *ℤ r) = omega (arith, ints, c.requires) in
    let least = c.args.format.now.sound.1 in
    let h = high_bound a b r c.args.products.wide.0 c.args.products.wide.1 c.requires in
    let fs = near_fits y (omega arith) in
    let fn = minus_fits y l h least in
    let fd = minus_down_fits y l h least in
    let fe = up_fits y l h least in
    let k = subst (λ z. nat_abs z ≤ 2 ^ 61) (sym (up_by_is y l h least)) (up_bound y l h least) in
    let m = simp to_z-of_z at c.max.ensures.value in
    record { value = simp (m, c.fraction.ensures, to_z-of_z) (up_by_is y l h least); bound = simp (m, c.fraction.ensures, to_z-of_z) k }
