use Rattle.std.proofs.Common.{◌≡◌, length, Some, vec_items, sym, ap, ◌∙◌, rules}
use Rattle.replay.proofs.Loops.{place_get_or, follows_more, follows_all, row_shows}
use Rattle.replay.proofs.replay.follow.Goals as goal

pub loop-call-preserved : goal.loop-call-preserved
loop-call-preserved g c =
    let shown = c.in_ok-item.ensures in
    follows_more g.K.Kind.model g.R.Rounding.rule g.O.Overflow.rule c.args.channel.now c.args.row.now c.args.calls.now
    c.loop-call.channel c.work.new.channel c.loop-call.row c.work.new.row (vec_items c.loop-call.log) (vec_items c.push-in-loop-call.new.self) c.loop-call.call-index c.call-item.result c.in_ok-told.told c.in_ok-item.item
    c.loop-call.invariant (place_get_or c.args.calls.now c.loop-call.call-index c.call-item.result c.loop-call-test.true ∙ ap (λ x. Some x) (sym c.call-item.is))
    c.in_ok-told.ensures.works shown.0 shown.1 c.in_ok-push-2.ensures.items

pub returns : goal.returns
returns g c =
    let n : c.loop-call.call-index ≡ length c.args.calls.now = search rules in
    record {
      rest = c.loop-call.invariant.rest;
      row = row_shows g.K.Kind.model g.R.Rounding.rule g.O.Overflow.rule c.args.channel.now c.args.row.now c.args.calls.now c.loop-call.channel c.loop-call.row (vec_items c.loop-call.log) c.loop-call.call-index c.loop-call.invariant n;
      log = follows_all g.K.Kind.model g.R.Rounding.rule g.O.Overflow.rule c.args.channel.now c.args.row.now c.args.calls.now c.loop-call.channel c.loop-call.row (vec_items c.loop-call.log) c.loop-call.call-index c.loop-call.invariant n;
    }
