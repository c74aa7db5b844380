use Rattle.std.proofs.Common.{◌≡◌, length, take, vec_items, refl, ap, ◌∙◌, w32, to_z, of_z, rules}
use Rattle.std.proofs.lemmas.List.{take_at}
use Rattle.std.proofs.lemmas.Int.{to_z-of_z}
use Rattle.wiring.proofs.Rows.{taken_front}
use Rattle.channel.specs.Channels.{feed}
use Rattle.channel.specs.Running.{nodes_in}
use Rattle.replay.proofs.Steps.{fed_works, refused_works, rest_by}
use Rattle.replay.proofs.work.feed_on.Goals as goal

pub returns-in-Ok : goal.returns-in-Ok
returns-in-Ok g c =
    let e = c.in-Ok.ensures in
    let j = c.in_ok-nodes-in-Ok.ensures in
    let k : length c.feed.new.registers ≡ length c.args.row.now = search rules in
    let n : length c.deref_mut.result.now ≡ length c.args.working.now = ap length (c.deref_mut.ensures.value ∙ c.in_ok-places.ensures.items) in
    let full : length c.feed.new.working ≡ c.in_ok-places.places.len = search rules in
    let w = fed_works g.K.Kind.model g.R.Rounding.rule g.O.Overflow.rule c.args.channel.now c.feed.new.self c.args.row.now c.feed.new.registers _
    (length c.args.working.now) c.args.sample (to_z w32 (of_z w32 c.args.sample)) c.deref_mut.result.now n (to_z-of_z w32 c.args.sample c.ranges.sample) c.feed.new.working (vec_items c.in_ok-nodes-in-Ok.nodes) c.in-Ok.output
    e.answer e.working e.registers e.leaves e.same k (j.items ∙ taken_front c.nodes-nodes.result (nodes_in c.args.channel.now) c.deref.result.now c.nodes-nodes.ensures ∙ ap (take (nodes_in c.args.channel.now)) (c.deref.ensures.value ∙ take_at c.feed.new.working _ c.in_ok-places.places.len full)) refl in
    record { works = w; rest = w.rest }

pub returns : goal.returns
returns g c =
    let e = c.in-Err.ensures in
    let k : length c.feed.new.registers ≡ length c.args.row.now = search rules in
    let n : length c.deref_mut.result.now ≡ length c.args.working.now = ap length (c.deref_mut.ensures.value ∙ c.in_ok-places.ensures.items) in
    let w = refused_works g.K.Kind.model g.R.Rounding.rule g.O.Overflow.rule c.args.channel.now c.feed.new.self c.args.row.now c.feed.new.registers _
    (length c.args.working.now) c.args.sample (to_z w32 (of_z w32 c.args.sample)) c.deref_mut.result.now n (to_z-of_z w32 c.args.sample c.ranges.sample) c.in-Err.fault refl e.answer e.registers e.leaves e.same k in
    record { works = w; rest = w.rest }

pub returns-in_err-nodes-in-Ok : goal.returns-in_err-nodes-in-Ok
returns-in_err-nodes-in-Ok g c =
    let e = c.in-Ok.ensures in
    let k : length c.feed.new.registers ≡ length c.args.row.now = search rules in
    record { works = search rules; rest = rest_by g.K.Kind.model g.R.Rounding.rule g.O.Overflow.rule c.args.channel.now c.feed.new.self c.args.row.now c.feed.new.registers (feed (length c.args.row.now) (length c.deref_mut.result.now) (to_z w32 (of_z w32 c.args.sample))) e.registers e.leaves e.same k }
