use Rattle.std.proofs.Common.{◌≡◌, true, false, leb, length, Err, sym, refl, ap, ◌∙◌}
use Rattle.std.proofs.lemmas.Result.{err_from_is_err_and}
use Rattle.wiring.specs.Runs.{answered}
use Rattle.wiring.specs.declared.faults.RowFault.TheVariants.{Registers}
use Rattle.wiring.specs.declared.faults.RunFault.TheVariants.{Row}
use Rattle.wiring.proofs.Soundness.{unless_none}
use Rattle.channel.specs.declared.channel.Channel.{Channel as Running}
use Rattle.channel.specs.Channels.{told}
use Rattle.channel.specs.Running.{registers_in}
use Rattle.wiring.proofs.Verdicts.{fault_none, fault_some}
use Rattle.channel.proofs.Hushes.{unless_some, unless_is, hush_says, hush_row, hush_leaves, short_row, short_leaves}
use Rattle.channel.proofs.channel.Channel.hush.Goals as goal

pub returns-in_err-zero_registers : goal.returns-in_err-zero_registers
returns-in_err-zero_registers g c =
    let q = err_from_is_err_and c.from_residual.result c.from_residual.ensures.1 in
    let b = c.args.self.now in
    let rs = c.args.registers.now in
    let rs' = c.zero_registers.new.registers in
    let short : leb (registers_in b) (length rs) ≡ false = unless_some _ (Row Registers) _ (fault_some _ _ _ c.in_err-zero_registers.ensures.answer) in
    let m = g.K.Kind.model in
    let r = g.R.Rounding.rule in
    let o = g.O.Overflow.rule in
    record {
      answer = q.1 ∙ ap (λ e. Err e) (q.2 ∙ ap told (unless_is _ (Row Registers) _ (fault_some _ _ _ c.in_err-zero_registers.ensures.answer))) ∙ ap answered (sym (hush_says m r o b b rs rs' (Row Registers) false short));
      registers = short_row m r o b b rs rs' (Row Registers) c.zero_registers.ensures.registers short;
      leaves = short_leaves m r o b b rs rs' (Row Registers) c.zero_registers.ensures.registers short refl refl;
      same = record { kind = refl; setting = refl; wiring = refl; limits = refl };
    }

pub returns : goal.returns
returns g c =
    let b = c.args.self.now in
    let after : Running g.row.K.Denot g.row.R.Denot g.row.O.Denot = record { values = b.values; program = b.program; watch = c.tell.new.watch } in
    let rs = c.args.registers.now in
    let rs' = c.zero_registers.new.registers in
    let long : leb (registers_in b) (length rs) ≡ true = unless_none _ (Row Registers) (fault_none _ _ _ c.in_ok-zero_registers.ensures.answer) in
    let m = g.K.Kind.model in
    let r = g.R.Rounding.rule in
    let o = g.O.Overflow.rule in
    record {
      answer = ap answered (sym (hush_says m r o b after rs rs' (Row Registers) true long));
      registers = hush_row m r o b after rs rs' (Row Registers) c.zero_registers.ensures.registers long;
      leaves = hush_leaves m r o b after rs rs' (Row Registers) c.zero_registers.ensures.registers long refl c.tell.ensures.state;
      same = record { kind = refl; setting = refl; wiring = refl; limits = c.tell.ensures.limits };
    }
