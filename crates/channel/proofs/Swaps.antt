-- The refusals of a coefficient list, as a call tells them.
use Rattle.std.proofs.Common.{◌≡◌, ℕ, suc, Bool, true, false, eqb, List, [], ◌∷◌, length, ℤ, Some, None, Ok, Err, vec_items, Option, refl, ap, ◌∙◌, arith}
use Rattle.std.specs.Option.{option_map}
use Rattle.arithmetic.specs.Formats.{width}
use Rattle.arithmetic.specs.Rounding.{RoundingRule}
use Rattle.arithmetic.specs.Overflow.{OverflowRule}
use Rattle.arithmetic.specs.Settings.{FixedArithmetic}
use Rattle.kinds.specs.Kinds.{KindModel}
use Rattle.arithmetic.specs.Words.{inside}
use Rattle.wiring.specs.declared.faults.WiringFault.{WiringFault}
use Rattle.wiring.specs.declared.faults.ProgramFault.{ProgramFault}
use Rattle.wiring.specs.declared.faults.ProgramFault.TheVariants.{Wiring, OtherLength as ListLength, Coefficient as ListEntry}
use Rattle.wiring.specs.Checks.{unless, first, scan}
use Rattle.wiring.specs.Programs.{word_fault, list_fault}
use Rattle.wiring.specs.Runs.{or_fault}
use Rattle.wiring.specs.Made.{unless_fault}
use Rattle.channel.specs.declared.fault.CallFault.{CallFault}
use Rattle.channel.specs.declared.fault.CallFault.TheVariants.{OtherLength, Coefficient}
use Rattle.channel.specs.declared.channel.Channel.{Channel as Running}
use Rattle.channel.specs.declared.state.Event.TheVariants.{Swap}
use Rattle.channel.specs.Channels.{coefficient_fault, swap_fault, swap, swapped}
use Rattle.channel.specs.Running.{state_in, state_told, holding, answered_to, left_by}
use Rattle.channel.proofs.Holding.{swap_told, holds_is}

-- a list has no fault of a wiring
abbrev pub of_list : ProgramFault → CallFault
of_list (Wiring f) = OtherLength
of_list ListLength = OtherLength
of_list (ListEntry i) = Coefficient i

scan_same : (w i : ℕ) (cs : List ℤ) → scan (coefficient_fault w) i cs ≡ option_map of_list (scan (word_fault w) i cs)
scan_same w i [] = refl
scan_same w i (c ∷ cs) = go (scan_same w (suc i) cs) (inside w c)
  where
    go : scan (coefficient_fault w) (suc i) cs ≡ option_map of_list (scan (word_fault w) (suc i) cs) → (b : Bool)
        → first (unless b (Coefficient i)) (scan (coefficient_fault w) (suc i) cs) ≡ option_map of_list (first (unless b (ListEntry i)) (scan (word_fault w) (suc i) cs))
    go rest true = rest
    go rest false = refl

pub list_told : (w n : ℕ) (cs : List ℤ) → swap_fault w n cs ≡ option_map of_list (list_fault w n cs)
list_told w n cs = go (eqb (length cs) n)
  where
    go : (b : Bool) → first (unless b OtherLength) (scan (coefficient_fault w) 0 cs) ≡ option_map of_list (first (unless b ListLength) (scan (word_fault w) 0 cs))
    go true = scan_same w 0 cs
    go false = refl

scan_no_wiring : (w i : ℕ) (cs : List ℤ) (f : WiringFault) → scan (word_fault w) i cs ≡ Some (Wiring f) → ⊥
scan_no_wiring w i [] f e = let z : ◌≡◌ {A = ℕ} 0 1 = cc in omega arith
scan_no_wiring w i (c ∷ cs) f e = go (scan_no_wiring w (suc i) cs f) (inside w c) e
  where
    go : (scan (word_fault w) (suc i) cs ≡ Some (Wiring f) → ⊥) → (b : Bool) → first (unless b (ListEntry i)) (scan (word_fault w) (suc i) cs) ≡ Some (Wiring f) → ⊥
    go rest true e = rest e
    go rest false e = let z : ◌≡◌ {A = ℕ} 0 1 = cc in omega arith

pub no_wiring : (w n : ℕ) (cs : List ℤ) (f : WiringFault) → list_fault w n cs ≡ Some (Wiring f) → ⊥
no_wiring w n cs f e = go (eqb (length cs) n) e
  where
    go : (b : Bool) → first (unless b ListLength) (scan (word_fault w) 0 cs) ≡ Some (Wiring f) → ⊥
    go true e = scan_no_wiring w 0 cs f e
    go false e = let z : ◌≡◌ {A = ℕ} 0 1 = cc in omega arith

module _ {K R O V : Type 0} (m : K → FixedArithmetic → KindModel V) (r : R → RoundingRule) (o : O → OverflowRule) (before after : Running K R O) (new : List ℤ) where
  abbrev fault : Option ProgramFault
  fault = list_fault (width before.values.setting.format) before.program.wiring.coefficients new

  pub swap_says : (x : Option ProgramFault) → fault ≡ x → (row : List V) → answered_to m r o before row (swap new) ≡ or_fault (option_map of_list x) (Ok (swapped new))
  swap_says x e row = ap (λ (f : Option CallFault). or_fault f (Ok (swapped new))) (list_told (width before.values.setting.format) before.program.wiring.coefficients new ∙ ap (option_map of_list) e)

  module _ (wiring : after.program.wiring ≡ before.program.wiring) (list : vec_items after.program.coefficients ≡ unless_fault fault new (vec_items before.program.coefficients)) (row : List V) where
    pub swap_leaves : fault ≡ None → state_in after.watch ≡ state_told Swap before.watch → holding after row ≡ left_by m r o before row (swap new)
    swap_leaves e watch =
        holds_is m r o before after row (swap new) (Ok (swapped new)) (swap_says None e row) row wiring (list ∙ ap (λ x. unless_fault x new (vec_items before.program.coefficients)) e) refl (watch ∙ swap_told before.watch new)

    pub swap_stays : (f : ProgramFault) → fault ≡ Some f → state_in after.watch ≡ state_in before.watch → holding after row ≡ left_by m r o before row (swap new)
    swap_stays f e watch =
        holds_is m r o before after row (swap new) (Err (of_list f)) (swap_says (Some f) e row) row wiring (list ∙ ap (λ x. unless_fault x new (vec_items before.program.coefficients)) e) refl watch
