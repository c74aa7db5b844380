use Rattle.std.proofs.Common.{sym, subst}
use Rattle.console_text.specs.Numbers.{NumberOf}
use Rattle.console_text.proofs.Plains.{not_utf8}
use Rattle.console_text.proofs.call.number.Goals as goal

pub returns-in_err-ok : goal.returns-in_err-ok
returns-in_err-ok c = subst (NumberOf c.args.bytes.now) (sym c.from_residual.ensures) (not_utf8 c.args.bytes.now _ _ c.from_utf8.result c.from_utf8.ensures.cases c.in_err-ok.ensures.variant)
