use Rattle.std.proofs.Common.{◌+◌, ◌-◌, ◌*◌, ◌%◌, ◌^◌, div-le_self, arith, w32, SFits, rules}
use Rattle.kinds.proofs.Numbers.{ceiling_bound}
use Rattle.kinds.proofs.bounds.BoundKindKind.scale.Goals as goal

pub overflow_add-error : goal.overflow_add-error
overflow_add-error g c =
    let sound = c.args.setting.now.format.sound in
    let f : SFits w32 c.args.c.value = search rules in
    omega (arith, ceiling_bound c.args.c.value c.unsigned_abs-size.result c.args.v.ceiling c.fraction-l.result f c.unsigned_abs-size.ensures.value c.args.c.small c.args.v.small (omega arith))

pub overflow_add-error-2 : goal.overflow_add-error-2
overflow_add-error-2 g c =
    let sound = c.args.setting.now.format.sound in
    let f : SFits w32 c.args.c.value = search rules in
    let few = (g.met.R.Rounding.lawful c.args.setting.now.rounding).share_small in
    let n = c.unsigned_abs-size.result * c.args.v.ceiling + (1 * 2 ^ c.fraction-l.result % 2 ^ 64 - 1) in
    let h = ceiling_bound c.args.c.value c.unsigned_abs-size.result c.args.v.ceiling c.fraction-l.result f c.unsigned_abs-size.ensures.value c.args.c.small c.args.v.small (omega arith) in
    omega (arith, h, div-le_self n (2 ^ c.fraction-l.result), c.share.ensures, few)
