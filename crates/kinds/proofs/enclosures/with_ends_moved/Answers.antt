use Rattle.std.proofs.Common.{◌^◌, ◌<◌, ◌+ℤ◌, nat_abs, sym, ap, ◌∙◌, arith, w32, w64, SFits, rules}
use borrow.Author.Differences.{ints}
use Rattle.std.proofs.lemmas.Int.{to_z-of_z}
use Rattle.exact.specs.Enclosures.{moved}
use Rattle.kinds.specs.Enclosures.{ended}
use Rattle.kinds.proofs.Numbers.{far_moved}
use Rattle.kinds.specs.Parts.{far}
use Rattle.kinds.proofs.enclosures.with_ends_moved.Goals as goal

pub returns-then-unsigned_abs-gt1125899906842624 : goal.returns-then-unsigned_abs-gt1125899906842624
returns-then-unsigned_abs-gt1125899906842624 c =
    let raw = c.args.raw in
    let z = c.args.word in
    let same = ap nat_abs (to_z-of_z w64 raw c.ranges.raw) in
    let h : 2 ^ 50 < nat_abs raw = omega (arith, same, c.unsigned_abs.ensures.value) in
    sym (far z (c.args.ends.low +ℤ moved raw z) (c.args.ends.high +ℤ moved raw z) (far_moved raw z c.args.ends.low h c.ranges.word c.args.ends.wide.0))

pub returns : goal.returns
returns c =
    let low = c.args.ends.low in
    let high = c.args.ends.high in
    let by = c.lost-by.result in
    let fr : SFits w64 c.args.raw = c.ranges.raw in
    let fz : SFits w32 c.args.word = c.ranges.word in
    let fl : SFits w64 low = search rules in
    let fh : SFits w64 high = search rules in
    let fb : SFits w64 by = search rules in
    let l : SFits w64 (low +ℤ by) = omega (arith, ints, c.lost-by.ensures.bound, c.args.ends.wide.0) in
    let h : SFits w64 (high +ℤ by) = omega (arith, ints, c.lost-by.ensures.bound, c.args.ends.wide.1) in
    let b = simp to_z-of_z at c.lost-by.ensures.value in
    let w = simp to_z-of_z at c.with_ends.ensures in
    w ∙ ap (λ t. ended c.args.word (low +ℤ t) (high +ℤ t)) b
