use Rattle.std.proofs.Common.{◌≡◌, ◌+ℤ◌, ap, ◌∙◌, ap₂, arith, w32, w64, SFits, to_z, rules}
use borrow.Author.Differences.{ints}
use Rattle.std.proofs.lemmas.Int.{to_z-of_z}
use Rattle.exact.specs.Enclosures.{moved}
use Rattle.kinds.specs.Enclosures.{ended, ended_at}
use Rattle.kinds.proofs.Numbers.{word_fits}
use Rattle.kinds.proofs.enclosures.keep.Goals as goal

pub returns-then-raw-word : goal.returns-then-raw-word
returns-then-raw-word g c =
    let raw = c.args.raw in
    let low = c.args.ends.low in
    let high = c.args.ends.high in
    let z = c.in_ok-word.word in
    let fr : SFits w64 raw = c.ranges.raw in
    let fl : SFits w64 low = search rules in
    let fh : SFits w64 high = search rules in
    let fz : SFits w32 z = search rules in
    let gz = word_fits z fz in
    let e = simp to_z-of_z at c.in_ok-word.ensures in
    let t : raw ≡ z = simp to_z-of_z at (ap (to_z w64) c.if-raw-word.true) in
    let w = simp to_z-of_z at c.with_ends.ensures in
    let l : low ≡ low +ℤ moved raw z = omega (arith, ints) in
    let h : high ≡ high +ℤ moved raw z = omega (arith, ints) in
    w ∙ ap₂ (ended z) l h ∙ ap (ended_at raw low high) e
