use Rattle.std.proofs.Common.{◌≡◌, ◌-◌, length, take, ap, w32, SFits, to_z, of_z, rules}
use Rattle.std.proofs.lemmas.Int.{to_z-of_z}
use Rattle.channel.specs.Running.{registers_in}
use Rattle.replay.specs.declared.log.Told.TheVariants.{Swapped}
use Rattle.replay.proofs.Steps.{lent_feed, lent_hush, lent_rest}
use Rattle.replay.proofs.work.work.Goals as goal

pub returns-in_ok-feed_on-in-Feed : goal.returns-in_ok-feed_on-in-Feed
returns-in_ok-feed_on-in-Feed g c =
    let fits : SFits w32 c.in-Feed.sample = search rules in
    let w = lent_feed g.K.Kind.model g.R.Rounding.rule g.O.Overflow.rule c.args.channel.now c.feed_on.new.channel c.args.row.now c.feed_on.new.row c.min-count.result c.in-Feed.registers c.in_ok-feed_on-in-Feed.field-0
    c.min-count.ensures c.args.call.now c.in-Feed.working (length c.deref.result.now) c.in-Feed.sample (to_z w32 (of_z w32 c.in-Feed.sample)) c.in-Feed.is (ap length c.deref.ensures.value) (to_z-of_z w32 c.in-Feed.sample fits) c.in_ok-feed_on-in-Feed.ensures.works in
    record { works = w; rest = w.rest }

pub returns-in-Hush : goal.returns-in-Hush
returns-in-Hush g c =
    let w = lent_hush g.K.Kind.model g.R.Rounding.rule g.O.Overflow.rule c.args.channel.now c.hush_on.new.channel c.args.row.now c.hush_on.new.row c.min-count-in-Hush.result c.in-Hush.registers c.hush_on.result
    c.min-count-in-Hush.ensures c.args.call.now c.in-Hush.is c.hush_on.ensures in
    record { works = w; rest = w.rest }

pub returns-in_err-feed_on-in-Feed : goal.returns-in_err-feed_on-in-Feed
returns-in_err-feed_on-in-Feed g c =
    let long : length c.feed_on.new.row ≡ length (take (c.min-count.result - 0) c.args.row.now) = search rules in
    record {
      works = search rules;
      rest = lent_rest g.K.Kind.model g.R.Rounding.rule g.O.Overflow.rule c.args.channel.now c.feed_on.new.channel c.args.row.now c.feed_on.new.row c.min-count.result c.in-Feed.registers Swapped
          c.min-count.ensures (registers_in c.args.channel.now) long c.feed_on.ensures.rest;
    }
