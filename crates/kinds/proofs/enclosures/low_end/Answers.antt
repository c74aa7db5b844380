use Rattle.std.proofs.Common.{pos, ◌+ℤ◌, ◌*ℤ◌, arith, w64, SFits, rules}
use borrow.Author.Differences.{ints}
use Rattle.std.specs.Int.{int_min}
use Rattle.std.proofs.lemmas.Int.{to_z-of_z, clamps}
use Rattle.exact.specs.Enclosures.{down_by}
use Rattle.kinds.proofs.Numbers.{near_fits, low_bound, down_bound}
use Rattle.kinds.proofs.enclosures.low_end.Goals as goal

pub overflow_add-result : goal.overflow_add-result
overflow_add-result c = omega (arith, ints, clamps, c.min.ensures.value)

pub returns : goal.returns
returns c =
    let a = c.args.products.low in
    let b = c.args.products.high in
    let r = c.args.r in
    let fa : SFits w64 a = search rules in
    let fb : SFits w64 b = search rules in
    let fr : SFits w64 r = c.ranges.r in
    let least = c.args.format.now.sound.1 in
    let fm : SFits w64 (int_min a b) = omega (arith, ints, clamps) in
    let fp : SFits w64 (pos 4096 *ℤ r) = omega (arith, ints, c.requires) in
    let h = low_bound a b r c.args.products.wide.0 c.args.products.wide.1 c.requires in
    let fs = near_fits (int_min a b +ℤ pos 4096 *ℤ r) (omega arith) in
    let k = down_bound (int_min a b +ℤ pos 4096 *ℤ r) c.args.format.now.fraction h least in
    let fe = near_fits (down_by (int_min a b +ℤ pos 4096 *ℤ r) c.args.format.now.fraction) (omega arith) in
    let m = simp to_z-of_z at c.min.ensures.value in
    record { value = simp (m, c.fraction.ensures, to_z-of_z); bound = simp (m, c.fraction.ensures, to_z-of_z) k }
