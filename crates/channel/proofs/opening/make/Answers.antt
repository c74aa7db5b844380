use Rattle.std.proofs.Common.{vec_items, refl}
use Rattle.kinds.specs.Kinds.{arithmetic}
use Rattle.channel.proofs.Registers.{cleared}
use Rattle.channel.proofs.opening.make.Goals as goal

pub returns : goal.returns
returns g c =
    let p = c.args.program in
    let z = (arithmetic g.K.Kind.model g.R.Rounding.rule g.O.Overflow.rule c.args.values.kind c.args.values.setting).zero in
    record {
      channel = record { values_are = refl; program = refl; watch = c.first_watch.ensures };
      registers = cleared z (vec_items p.wiring.sources) c.args.registers.now c.zero_registers.new.registers _ c.requires c.zero_registers.ensures.registers;
    }
