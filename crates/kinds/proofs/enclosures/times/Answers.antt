use Rattle.std.proofs.Common.{◌*ℤ◌, arith, w32, w64, SFits, rules}
use Rattle.std.proofs.lemmas.Int.{to_z-of_z}
use Rattle.kinds.proofs.Numbers.{word_fits, near_fits, times_bound}
use Rattle.kinds.proofs.enclosures.times.Goals as goal

pub overflow_mul-result : goal.overflow_mul-result
overflow_mul-result c =
    let a = c.args.c.value in
    let b = c.args.end in
    let fa : SFits w32 a = search rules in
    let ga = word_fits a fa in
    let gb : SFits w64 b = c.ranges.end in
    let h = times_bound a b c.args.c.small c.requires in
    simp to_z-of_z (near_fits (a *ℤ b) (omega arith))

pub returns : goal.returns
returns c =
    let a = c.args.c.value in
    let b = c.args.end in
    let fa : SFits w32 a = search rules in
    let ga = word_fits a fa in
    let gb : SFits w64 b = c.ranges.end in
    let h = times_bound a b c.args.c.small c.requires in
    let f = near_fits (a *ℤ b) (omega arith) in
    record { value = simp to_z-of_z; bound = simp to_z-of_z h }
