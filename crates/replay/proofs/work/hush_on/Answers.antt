use Rattle.std.proofs.Common.{◌≡◌, length, rules}
use Rattle.channel.specs.Channels.{hush}
use Rattle.replay.proofs.Steps.{hush_ok, hush_err, rest_by}
use Rattle.replay.proofs.work.hush_on.Goals as goal

pub returns-in-Ok : goal.returns-in-Ok
returns-in-Ok g c =
    let e = c.in-Ok.ensures in
    let long : length c.hush.new.registers ≡ length c.args.row.now = search rules in
    record {
      tells = hush_ok g.row.K-Value.Denot _ e.answer;
      holds = e.leaves;
      same = e.same;
      long = long;
      rest = rest_by g.K.Kind.model g.R.Rounding.rule g.O.Overflow.rule c.args.channel.now c.hush.new.self c.args.row.now c.hush.new.registers (hush (length c.args.row.now)) e.registers e.leaves e.same long;
    }

pub returns-in-Err : goal.returns-in-Err
returns-in-Err g c =
    let e = c.in-Err.ensures in
    let long : length c.hush.new.registers ≡ length c.args.row.now = search rules in
    record {
      tells = hush_err g.row.K-Value.Denot _ _ e.answer;
      holds = e.leaves;
      same = e.same;
      long = long;
      rest = rest_by g.K.Kind.model g.R.Rounding.rule g.O.Overflow.rule c.args.channel.now c.hush.new.self c.args.row.now c.hush.new.registers (hush (length c.args.row.now)) e.registers e.leaves e.same long;
    }
