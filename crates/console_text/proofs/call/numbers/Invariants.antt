use Rattle.std.proofs.Common.{map, take, vec_items}
use Rattle.wiring.specs.Lists.{Each₂}
use Rattle.console_text.specs.Numbers.{Writes}
use Rattle.console_text.proofs.call.numbers.Given as goal

abbrev pub invariant-loop-text : goal.invariant-loop-text
invariant-loop-text l = Each₂ Writes (map (λ t. t.now) (take l.text-index l.texts)) (vec_items l.all)
