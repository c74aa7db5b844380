use Rattle.std.proofs.Common.{arith}
use Rattle.std.proofs.lemmas.Bool.Decides.{nat_tests}
use Rattle.materials.proofs.Words.{words_front, words_back}
use Rattle.materials.proofs.part.cut.Goals as goal
use Rattle.materials.proofs.part.cut.Goals.{then-not-bytes_hold-via-then-not-bytes_hold, then-not-bytes_hold-via-else-not-bytes_hold+then-not-bytes_hold-2}

pub returns-then-not-bytes_hold : goal.returns-then-not-bytes_hold
returns-then-not-bytes_hold c =
    let f = words_front c.args.nb c.args.rest.now (omega arith) in
    let b = words_back c.args.nb c.args.na c.args.rest.now c.if-rest-middle.false in
    elim c.then-not-bytes_hold.branch [
      | then-not-bytes_hold-via-then-not-bytes_hold w ↦ let k = w.if-not-bytes_hold.ensures in grind (arith, nat_tests)
      | then-not-bytes_hold-via-else-not-bytes_hold+then-not-bytes_hold-2 w ↦ let k = w.if-not-bytes_hold.ensures in let l = w.if-not-bytes_hold-2.ensures in grind (arith, nat_tests)
    ]

pub returns : goal.returns
returns c =
    let f = words_front c.args.nb c.args.rest.now (omega arith) in
    let b = words_back c.args.nb c.args.na c.args.rest.now c.if-rest-middle.false in
    let k = c.if-not-bytes_hold.ensures in
    let l = c.if-not-bytes_hold-2.ensures in
    (grind (arith, nat_tests), (f, b))
