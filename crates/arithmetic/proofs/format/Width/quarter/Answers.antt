use Rattle.std.proofs.Common.{◌-◌, ◌^◌, ◌<◌, ap, ◌∙◌, arith, w32, to_z}
use Rattle.std.proofs.lemmas.Nat.{one_shl, pow_below}
use Rattle.std.proofs.lemmas.Int.{to_z_pos}
use Rattle.arithmetic.proofs.format.Width.quarter.Goals as goal

pub returns : goal.returns
returns c =
    let few = c.args.self.now.sound in
    let n = c.args.self.now.bits - 2 in
    let s : 2 ^ n < 2 ^ 27 = pow_below n 27 (omega arith) in
    ap (to_z w32) (one_shl n 32 (omega arith)) ∙ to_z_pos w32 (2 ^ n) (omega arith)
