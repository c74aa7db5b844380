use Rattle.std.proofs.Common.{◌*ℤ◌, arith, w32, SFits, rules}
use Rattle.std.proofs.lemmas.Int.{to_z-of_z}
use Rattle.kinds.proofs.Numbers.{word_fits, near_fits, product_bound}
use Rattle.kinds.proofs.words.product.Goals as goal

pub returns : goal.returns
returns c =
    let a = c.args.c.value in
    let b = c.args.word in
    let fa : SFits w32 a = search rules in
    let fb : SFits w32 b = c.ranges.word in
    let ga = word_fits a fa in
    let gb = word_fits b fb in
    let h = product_bound a b c.args.c.small fb in
    let f = near_fits (a *ℤ b) (omega arith) in
    record { value = simp to_z-of_z; bound = simp to_z-of_z h }
