use Rattle.std.proofs.Common.{◌≡◌, ◌*◌, ◌%◌, ◌^◌, ◌∙◌, arith}
use Rattle.std.proofs.lemmas.Nat.{pow_pos, one_shl}
use Rattle.arithmetic.specs.Divisions.{up_quotient}
use Rattle.arithmetic.proofs.rounding.FloorRounding.reach.Goals as goal

pub returns : goal.returns
returns c =
    let l = c.args.format.now.fraction in
    let k : c.fraction.result ≡ l = c.fraction.ensures in
    let u : (1 * 2 ^ l) % 2 ^ 64 ≡ 2 ^ l = one_shl l 64 (omega arith) in
    simp (k, u) at c.div_ceil.ensures ∙ up_quotient c.args.m (2 ^ l) (pow_pos l)
