use Rattle.std.proofs.Common.{sym, refl, w32, to_z, of_z}
use Rattle.std.proofs.lemmas.Int.{to_z-of_z}
use Rattle.std.proofs.lemmas.Result.{err_from_is_err_and}
use Rattle.wiring.proofs.Verdicts.{fault_none, fault_some}
use Rattle.channel.specs.Running.{state_in}
use Rattle.channel.proofs.Feeds.{early_on, fed_on, stopped_on}
use Rattle.channel.proofs.channel.Channel.feed.Goals as goal

pub returns-in_err-check_feed : goal.returns-in_err-check_feed
returns-in_err-check_feed g c =
    let q = err_from_is_err_and c.from_residual.result c.from_residual.ensures.1 in
    let t = early_on g.K.Kind.model g.R.Rounding.rule g.O.Overflow.rule c.args.self.now c.args.registers.now c.args.working.now
    (to_z w32 (of_z w32 c.args.sample)) c.args.sample (to_z-of_z w32 c.args.sample c.ranges.sample) _ (sym (fault_some _ _ _ c.in_err-check_feed.ensures)) in
    rw (q.1, q.2) (record { answer = t.answers; registers = t.registers; working = t.working; leaves = t.holds; same = record { kind = refl; setting = refl; wiring = refl; limits = refl } })

pub returns-in_err-output : goal.returns-in_err-output
returns-in_err-output g c =
    let q = err_from_is_err_and c.from_residual-in_err-output.result c.from_residual-in_err-output.ensures.1 in
    let t = stopped_on g.K.Kind.model g.R.Rounding.rule g.O.Overflow.rule c.args.self.now c.args.registers.now c.args.working.now
    (to_z w32 (of_z w32 c.args.sample)) c.args.sample (to_z-of_z w32 c.args.sample c.ranges.sample) (sym (fault_none _ _ _ c.in_ok-check_feed.ensures)) c.step-stepped.new.registers c.step-stepped.new.working c.step-stepped.ensures.row c.step-stepped.ensures.registers
    _ q.0 q.2 c.in_err-output.ensures.answer in
    rw q.1 (record { answer = t.answers; registers = t.registers; working = t.working; leaves = t.holds; same = record { kind = refl; setting = refl; wiring = refl; limits = refl } })

pub returns : goal.returns
returns g c =
    let t = fed_on g.K.Kind.model g.R.Rounding.rule g.O.Overflow.rule c.args.self.now c.args.registers.now c.args.working.now
    (to_z w32 (of_z w32 c.args.sample)) c.args.sample (to_z-of_z w32 c.args.sample c.ranges.sample) (sym (fault_none _ _ _ c.in_ok-check_feed.ensures)) c.step-stepped.new.registers c.step-stepped.new.working c.step-stepped.ensures.row c.step-stepped.ensures.registers
    c.in_ok-output.output (state_in c.tell_sample.new.watch) c.in_ok-output.ensures.answer (c.tell_sample.ensures.state _ _) in
    record { answer = t.answers; registers = t.registers; working = t.working; leaves = t.holds; same = record { kind = refl; setting = refl; wiring = refl; limits = c.tell_sample.ensures.limits } }
