use Rattle.std.proofs.Common.{◌≡◌, length, vec_items, rules}
use Rattle.std.proofs.lemmas.Result.{err_from_is_err_and}
use Rattle.arithmetic.specs.Settings.{meaning}
use Rattle.wiring.specs.Graphs.{graph_of}
use Rattle.replay.proofs.Opens.{row_long, started, row_kept, rest_kept, replays}
use Rattle.replay.proofs.replay.replay.Goals as goal

pub follow-requires : goal.follow-requires
follow-requires g c =
    let e = c.in_ok-channel.ensures in
    record {
      row = row_long g.K.Kind.model g.R.Rounding.rule g.O.Overflow.rule c.in_ok-channel.channel c.args.row.now c.open.new.registers e.registers;
      started = started g.K.Kind.model g.R.Rounding.rule g.O.Overflow.rule c.in_ok-channel.channel c.args.row.now c.open.new.registers e.registers c.args.limits e.answer.1.watch;
    }

pub returns : goal.returns
returns g c =
    let e = c.in_ok-channel.ensures in
    let long : length c.open.new.registers ≡ length c.args.row.now = search rules in
    record {
      row = row_kept g.K.Kind.model g.R.Rounding.rule g.O.Overflow.rule c.in_ok-channel.channel c.args.row.now c.open.new.registers e.registers (graph_of c.args.filter.wiring) e.answer.1.wiring (length c.args.calls.now) (vec_items c.in_ok-follow.field-0) c.follow.new.row c.in_ok-follow.ensures.row;
      log = replays g.K.Kind.model g.R.Rounding.rule g.O.Overflow.rule (λ p. record { rounding = g.met.R.Rounding.lawful p.rounding; overflow = g.met.O.Overflow.lawful p.overflow })
          (λ k p. g.met.K.Kind.lawful k (meaning g.R.Rounding.rule g.O.Overflow.rule p) (record { rounding = g.met.R.Rounding.lawful p.rounding; overflow = g.met.O.Overflow.lawful p.overflow }))
          c.args.kind c.args.setting.now (graph_of c.args.filter.wiring) (vec_items c.args.filter.coefficients) c.args.limits (length c.args.row.now) c.in_ok-channel.channel e.answer.0 e.answer.1
          (length c.open.new.registers) long c.args.calls.now (vec_items c.in_ok-follow.field-0) c.in_ok-follow.ensures.log;
    }

pub returns-in_err-follow : goal.returns-in_err-follow
returns-in_err-follow g c =
    let e = c.in_ok-channel.ensures in
    let q = err_from_is_err_and c.from_residual-in_err-follow.result c.from_residual-in_err-follow.ensures.1 in
    rw (q.1, q.2) (record {
      row = rest_kept g.K.Kind.model g.R.Rounding.rule g.O.Overflow.rule c.in_ok-channel.channel c.args.row.now c.open.new.registers e.registers (graph_of c.args.filter.wiring) e.answer.1.wiring c.follow.new.row c.follow.ensures.rest;
      log = e.answer.0;
    })
