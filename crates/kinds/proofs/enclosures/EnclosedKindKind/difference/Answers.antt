use Rattle.std.proofs.Common.{◌-ℤ◌, arith, w32, w64, SFits, rules}
use borrow.Author.Differences.{ints}
use Rattle.std.proofs.lemmas.Int.{to_z-of_z}
use Rattle.kinds.proofs.Numbers.{word_fits}
use Rattle.kinds.proofs.enclosures.EnclosedKindKind.difference.Goals as goal

pub returns : goal.returns
returns g c =
    let v = c.args.v in
    let w = c.args.w in
    let v1 : SFits w32 v.word = search rules in
    let w1 : SFits w32 w.word = search rules in
    let v2 = word_fits v.word v1 in
    let w2 = word_fits w.word w1 in
    let r : SFits w64 (◌-ℤ◌ v.word w.word) = omega (arith, ints) in
    let vl : SFits w64 v.low = search rules in
    let vh : SFits w64 v.high = search rules in
    let wl : SFits w64 w.low = search rules in
    let wh : SFits w64 w.high = search rules in
    let l : SFits w64 (◌-ℤ◌ v.low w.high) = omega (arith, ints, v.near, w.near) in
    let h : SFits w64 (◌-ℤ◌ v.high w.low) = omega (arith, ints, v.near, w.near) in
    simp to_z-of_z at c.keep.ensures
