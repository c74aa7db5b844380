use Rattle.arithmetic.specs.Settings.{meaning, Lawful}
use Rattle.channel.proofs.Final.{theorem}
use Rattle.channel.proofs.theorem.channel_theorem.Goals as goal

pub returns : goal.returns
returns g c =
    let s = meaning g.R.Rounding.rule g.O.Overflow.rule c.args.setting.now in
    let lawful : Lawful s = record { rounding = g.met.R.Rounding.lawful c.args.setting.now.rounding; overflow = g.met.O.Overflow.lawful c.args.setting.now.overflow } in
    theorem s lawful (g.K.Kind.model c.args.kind.now s) (g.met.K.Kind.lawful c.args.kind.now s lawful)
