use Rattle.std.proofs.Common.{[], vec_items, sym, subst, rules}
use Rattle.wiring.specs.Lists.{Each₂, none₂}
use Rattle.console_text.specs.Numbers.{Writes}
use Rattle.console_text.proofs.Reading.{numbers_more, one_unwritten}
use Rattle.console_text.proofs.call.numbers.Goals as goal

pub loop-text-init : goal.loop-text-init
loop-text-init c = subst (Each₂ Writes []) (sym c.new-all.ensures.items) none₂

pub loop-text-preserved : goal.loop-text-preserved
loop-text-preserved c =
    numbers_more c.args.texts.now c.loop-text.text-index _ c.in-Some.n (vec_items c.loop-text.all) (vec_items c.push.new.self) c.loop-text-test.true c.loop-text.invariant c.in-Some.ensures (search rules)

pub returns-in_default : goal.returns-in_default
returns-in_default c = λ zs. one_unwritten c.args.texts.now c.loop-text.text-index _ zs c.loop-text-test.true c.in_default.ensures
