-- A hush: what its steps leave is what the call's definition says.
use Rattle.std.proofs.Common.{◌≡◌, ℕ, Bool, true, false, leb, List, ◌++◌, length, take, drop, replicate, Some, Ok, Err, vec_items, sym, refl, ap, ◌∙◌, arith, leb-true}
use Rattle.std.proofs.lemmas.List.{take-append-drop, take_at, length-map}
use Rattle.arithmetic.specs.Rounding.{RoundingRule}
use Rattle.arithmetic.specs.Overflow.{OverflowRule}
use Rattle.arithmetic.specs.Settings.{FixedArithmetic}
use Rattle.kinds.specs.Kinds.{KindModel}
use Rattle.wiring.specs.declared.faults.RunFault.{RunFault}
use Rattle.wiring.specs.Checks.{unless}
use Rattle.wiring.specs.Made.{unless_fault}
use Rattle.wiring.specs.Runs.{or_fault}
use Rattle.channel.specs.declared.channel.Channel.{Channel as Running}
use Rattle.channel.specs.declared.fault.CallFault.TheVariants.{RegisterRow}
use Rattle.channel.specs.declared.state.Event.TheVariants.{Hush}
use Rattle.channel.specs.Channels.{hush, hushed, zeros}
use Rattle.channel.specs.Running.{state_in, state_told, graph, registers_in, holding, values, answered_to, left_by, row_left}
use Rattle.channel.proofs.Holding.{hush_told, row_is, holds_is}
use Rattle.channel.proofs.Registers.{cleared}

-- a test that makes a fault fails
pub unless_some : {F : Type 0} (t : Bool) (f e : F) → unless t f ≡ Some e → t ≡ false
unless_some true f e q = absurd (let z : ◌≡◌ {A = ℕ} 0 1 = cc in omega arith)
unless_some false f e q = refl

-- and the fault is the one it makes
pub unless_is : {F : Type 0} (t : Bool) (f e : F) → unless t f ≡ Some e → e ≡ f
unless_is true f e q = absurd (let z : ◌≡◌ {A = ℕ} 0 1 = cc in omega arith)
unless_is false f e q = cc

module _ {K R O V : Type 0} (m : K → FixedArithmetic → KindModel V) (r : R → RoundingRule) (o : O → OverflowRule) (before after : Running K R O) (row row' : List V) (f : RunFault) where
  abbrev n : ℕ
  n = registers_in before

  abbrev z : V
  z = (values m r o before).zero

  pub hush_says : (t : Bool) → leb n (length row) ≡ t → answered_to m r o before row (hush (length row)) ≡ or_fault (unless t RegisterRow) (Ok hushed)
  hush_says t e = ap (λ x. or_fault (unless x RegisterRow) (Ok hushed)) e

  module _ (moved : row' ≡ unless_fault (unless (leb n (length row)) f) (replicate n z ++ drop n row) row) where
    module _ (long : leb n (length row) ≡ true) where
      all_zero : row' ≡ zeros (graph before) z ++ drop n row
      all_zero = cleared z (graph before).sources row row' f (leb-true _ _ long) moved

      pub hush_row : row' ≡ row_left m r o before row (hush (length row))
      hush_row = row_is m r o before after row (hush (length row)) (Ok hushed) (hush_says true long) row' all_zero

      pub hush_leaves : after.program ≡ before.program → state_in after.watch ≡ state_told Hush before.watch → holding after row' ≡ left_by m r o before row (hush (length row))
      hush_leaves p watch =
          holds_is m r o before after row (hush (length row)) (Ok hushed) (hush_says true long) row' (ap (λ x. x.wiring) p) (ap (λ x. vec_items x.coefficients) p)
          (ap (take n) all_zero ∙ take_at (zeros (graph before) z) (drop n row) n (length-map (graph before).sources (λ _. z))) (watch ∙ hush_told before.watch (length row))

    module _ (short : leb n (length row) ≡ false) where
      stays : row' ≡ row
      stays = moved ∙ ap (λ t. unless_fault (unless t f) (replicate n z ++ drop n row) row) short

      pub short_row : row' ≡ row_left m r o before row (hush (length row))
      short_row = row_is m r o before after row (hush (length row)) (Err RegisterRow) (hush_says false short) row' (stays ∙ sym (take-append-drop n row))

      pub short_leaves : after.program ≡ before.program → state_in after.watch ≡ state_in before.watch → holding after row' ≡ left_by m r o before row (hush (length row))
      short_leaves p watch =
          holds_is m r o before after row (hush (length row)) (Err RegisterRow) (hush_says false short) row' (ap (λ x. x.wiring) p) (ap (λ x. vec_items x.coefficients) p) (ap (take n) stays) watch
