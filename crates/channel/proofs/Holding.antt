-- What a running channel holds after a call, from its parts.
use Rattle.std.proofs.Common.{◌≡◌, ℕ, List, ◌++◌, length, take, drop, ℤ, Some, None, vec_items, Option, Result, sym, refl, ap, ◌∙◌}
use Rattle.arithmetic.specs.Rounding.{RoundingRule}
use Rattle.arithmetic.specs.Overflow.{OverflowRule}
use Rattle.arithmetic.specs.Settings.{FixedArithmetic, meaning}
use Rattle.kinds.specs.Kinds.{KindModel}
use Rattle.channel.specs.declared.channel.Channel.{Channel as Running}
use Rattle.channel.specs.declared.fault.CallFault.{CallFault}
use Rattle.channel.specs.declared.state.Event.TheVariants.{Hush, Swap}
use Rattle.channel.specs.declared.state.Watch.{Watch}
use Rattle.channel.specs.Channels.{Call, swap, hush, watched, Channel, Answer, leaves}
use Rattle.channel.specs.Running.{limits_in, state_in, state_told, graph, registers_in, holding, values, answered_to, left_by, row_left}

-- ---- the watch
pub swap_told : (w : Option Watch) (cs : List ℤ) → state_told Swap w ≡ watched (limits_in w) (swap cs) (state_in w)
swap_told None cs = refl
swap_told (Some w) cs = refl

pub hush_told : (w : Option Watch) (n : ℕ) → state_told Hush w ≡ watched (limits_in w) (hush n) (state_in w)
hush_told None n = refl
hush_told (Some w) n = refl

-- ---- a channel is its three parts
pub same_parts : {V : Type 0} (a b : Channel V) → a.coefficients ≡ b.coefficients → a.registers ≡ b.registers → a.watch ≡ b.watch → a ≡ b
same_parts a b p q r i = record { coefficients = p i; registers = q i; watch = r i }

module _ {K R O V : Type 0} (m : K → FixedArithmetic → KindModel V) (r : R → RoundingRule) (o : O → OverflowRule) (before after : Running K R O) (row : List V) (call : Call)
    (a : Result (Answer V) CallFault) (is : answered_to m r o before row call ≡ a) where
  abbrev pub left : Result (Answer V) CallFault → Channel V
  left x = leaves (values m r o before) (meaning r o before.values.setting) (graph before) (limits_in before.watch) (holding before row) call x

  pub row_is : (after-row : List V) → after-row ≡ (left a).registers ++ drop (registers_in before) row → after-row ≡ row_left m r o before row call
  row_is after-row e = e ∙ ap (λ x. (left x).registers ++ drop (registers_in before) row) (sym is)

  pub holds_is : (after-row : List V) → after.program.wiring ≡ before.program.wiring → vec_items after.program.coefficients ≡ (left a).coefficients
      → take (registers_in before) after-row ≡ (left a).registers → state_in after.watch ≡ (left a).watch → holding after after-row ≡ left_by m r o before row call
  holds_is after-row w p q t =
      same_parts (holding after after-row) (left a) p (ap (λ x. take (length (vec_items x.sources)) after-row) w ∙ q) t ∙ ap left (sym is)
