use Rattle.std.proofs.Common.{◌≡◌, Some, None, sym, refl, ap, ◌∙◌}
use Rattle.arithmetic.specs.Formats.{width}
use Rattle.wiring.specs.declared.faults.ProgramFault.TheVariants.{OtherLength, Coefficient}
use Rattle.wiring.specs.Programs.{list_fault}
use Rattle.wiring.specs.Runs.{answered}
use Rattle.channel.specs.declared.channel.Channel.{Channel as Running}
use Rattle.wiring.proofs.Verdicts.{fault_none, fault_some}
use Rattle.channel.proofs.Swaps.{no_wiring, swap_says, swap_leaves, swap_stays}
use Rattle.channel.proofs.channel.Channel.swap.Goals as goal

pub returns-in_default : goal.returns-in_default
returns-in_default g c =
    let b = c.args.self.now in
    let new = c.args.coefficients.now in
    let after : Running g.row.K.Denot g.row.R.Denot g.row.O.Denot = record { values = b.values; program = c.put_coefficients.new.self; watch = c.tell.new.watch } in
    let fine : list_fault (width b.values.setting.format) b.program.wiring.coefficients new ≡ None = fault_none _ _ _ c.in_default.ensures.answer in
    let m = g.K.Kind.model in
    let r = g.R.Rounding.rule in
    let o = g.O.Overflow.rule in
    record {
      answer = λ row. ap answered (sym (swap_says m r o b after new None fine row));
      leaves = λ row. swap_leaves m r o b after new c.put_coefficients.ensures.wiring c.put_coefficients.ensures.list row fine c.tell.ensures.state;
      same = record { kind = refl; setting = refl; wiring = c.put_coefficients.ensures.wiring; limits = c.tell.ensures.limits };
    }

pub unreachable-requires : goal.unreachable-requires
unreachable-requires g c =
    let b = c.args.self.now in
    no_wiring (width b.values.setting.format) b.program.wiring.coefficients c.args.coefficients.now _ (fault_some _ _ _ c.in-Err.ensures.answer ∙ ap (λ f. Some f) c.in-Wiring.is)

pub returns-in-OtherLength : goal.returns-in-OtherLength
returns-in-OtherLength g c =
    let b = c.args.self.now in
    let new = c.args.coefficients.now in
    let after : Running g.row.K.Denot g.row.R.Denot g.row.O.Denot = record { values = b.values; program = c.put_coefficients.new.self; watch = b.watch } in
    let found : list_fault (width b.values.setting.format) b.program.wiring.coefficients new ≡ Some OtherLength = fault_some _ _ _ c.in-Err.ensures.answer ∙ ap (λ f. Some f) c.in-OtherLength.is in
    let m = g.K.Kind.model in
    let r = g.R.Rounding.rule in
    let o = g.O.Overflow.rule in
    record {
      answer = λ row. ap answered (sym (swap_says m r o b after new (Some OtherLength) found row));
      leaves = λ row. swap_stays m r o b after new c.put_coefficients.ensures.wiring c.put_coefficients.ensures.list row OtherLength found refl;
      same = record { kind = refl; setting = refl; wiring = c.put_coefficients.ensures.wiring; limits = refl };
    }

pub returns-in-Coefficient : goal.returns-in-Coefficient
returns-in-Coefficient g c =
    let b = c.args.self.now in
    let new = c.args.coefficients.now in
    let after : Running g.row.K.Denot g.row.R.Denot g.row.O.Denot = record { values = b.values; program = c.put_coefficients.new.self; watch = b.watch } in
    let i = c.in-Coefficient.i in
    let found : list_fault (width b.values.setting.format) b.program.wiring.coefficients new ≡ Some (Coefficient i) = fault_some _ _ _ c.in-Err.ensures.answer ∙ ap (λ f. Some f) c.in-Coefficient.is in
    let m = g.K.Kind.model in
    let r = g.R.Rounding.rule in
    let o = g.O.Overflow.rule in
    record {
      answer = λ row. ap answered (sym (swap_says m r o b after new (Some (Coefficient i)) found row));
      leaves = λ row. swap_stays m r o b after new c.put_coefficients.ensures.wiring c.put_coefficients.ensures.list row (Coefficient i) found refl;
      same = record { kind = refl; setting = refl; wiring = c.put_coefficients.ensures.wiring; limits = refl };
    }
