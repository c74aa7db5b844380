-- The limits of a watch, from the sheet's answer.
use Rattle.std.proofs.Common.{◌≡◌, ℕ, ◌+◌, ◌≤◌, true, false, leb, List, length, replicate, ℤ, pos, nat_abs, Some, None, Ok, Err, Option, Result, is_ok, sym, refl, ap, ◌∙◌, subst, arith}
use mathlib.Core.Path.{transport}
use Rattle.std.specs.Result.{result_ok}
use Rattle.std.proofs.lemmas.List.{length-replicate}
use Rattle.std.proofs.lemmas.Bool.{le-leb, both_ways}
use Rattle.std.specs.Option.{option_map, unwrap_or}
use Rattle.arithmetic.specs.Choices.{rounding_rule, overflow_rule}
use Rattle.arithmetic.specs.Settings.{meaning, SettingAnswer}
use Rattle.arithmetic.specs.declared.choice.RoundingChoice.{RoundingChoice}
use Rattle.arithmetic.specs.declared.choice.OverflowChoice.{OverflowChoice}
use Rattle.arithmetic.specs.declared.setting.Setting.{Setting}
use Rattle.arithmetic.specs.declared.setting.FixedPoint.{FixedPoint}
use Rattle.wiring.specs.Graphs.{Graph}
use Rattle.wiring.proofs.Soundness.{first_none, mapped_none, few_registers}
use Rattle.wiring.specs.Checks.{unless, first, wiring_fault}
use Rattle.wiring.specs.Programs.{list_fault}
use Rattle.wiring.specs.declared.faults.ProgramFault.TheVariants.{Wiring}
use Rattle.sheet.specs.declared.figures.Figures.{Figures}
use Rattle.sheet.specs.declared.figures.SheetFault.{SheetFault}
use Rattle.sheet.specs.declared.figures.SheetFault.TheVariants.{Format, Program, PeaksRow, CeilingsRow, BandRow, Range, Node}
use Rattle.sheet.specs.Sheets.{Sheet, Granted}
use Rattle.sheet.proofs.Decisions.{range_passes}
use Rattle.sheet.specs.Calls.{Rows, zero_rows, call_fault, sheet_check, SheetAnswer}
use Rattle.channel.specs.Opening.{open_check}
use Rattle.channel.specs.declared.state.Limits.{Limits}
use Rattle.materials.proofs.Rows.{some_none}
use Rattle.console_text.specs.Watching.{WatchLimits, SheetLimits}
use Rattle.console_text.specs.Sessions.{range_in}

module _ (st : Setting RoundingChoice OverflowChoice) (g : Graph) (cs : List ℤ) (x y : ℤ) (same : x ≡ y) (after : Rows) where
  abbrev Answers : Result Figures SheetFault → Type 0
  Answers a = SheetAnswer rounding_rule overflow_rule st g cs x zero_rows after a

  pub limits_granted : (a : Result Figures SheetFault) → Answers a → (f : Figures) (range count : ℕ) → Some f ≡ result_ok a → range ≡ nat_abs y → count ≡ f.count → SheetLimits st g cs y (Some (record { range = range; count = count }))
  limits_granted (Err e) h f range count is r n = absurd (some_none f is)
  limits_granted (Ok x) h f range count is r n = λ p a.
      let v = h.1 p a in
      (v.0, subst (λ z. Granted (meaning rounding_rule overflow_rule p) g cs (nat_abs z) v.0) same v.1, (λ i. record { range = r i; count = (n ∙ ap (λ k. k.count) (ap (λ o. unwrap_or o f) is ∙ v.2)) i }))

  pub limits_refused : (a : Result Figures SheetFault) → Answers a → false ≡ is_ok a → SheetLimits st g cs y None
  limits_refused (Ok f) h k = absurd (both_ways true (sym k) refl)
  limits_refused (Err e) h k = (e, after, subst (λ z. SheetAnswer rounding_rule overflow_rule st g cs z zero_rows after (Err e)) same h)

-- the same limits for an equal wiring, list and range
pub limits_same : (st : Setting RoundingChoice OverflowChoice) (g g' : Graph) (cs cs' : List ℤ) (x x' : ℤ) (o : Option Limits) → g ≡ g' → cs ≡ cs' → x ≡ x' → SheetLimits st g cs x o → SheetLimits st g' cs' x' o
limits_same st g g' cs cs' x x' o eg ec ex h = transport (λ i. SheetLimits st (eg i) (ec i) (ex i) o) h

module _ (st : Setting RoundingChoice OverflowChoice) (g : Graph) (cs : List ℤ) (row : ℕ) (opens : open_check st.whole st.fraction g cs row ≡ None) (p : FixedPoint RoundingChoice OverflowChoice) (set : SettingAnswer st (Ok p)) where
  abbrev w : ℕ
  w = st.whole + st.fraction

  wired : first (option_map Wiring (wiring_fault g)) (list_fault w g.coefficients cs) ≡ None
  wired = mapped_none _ _ (first_none _ _ (first_none _ _ opens).1).0

  -- the call for a sheet has no fault where open has none
  sheet_passes : sheet_check st.whole st.fraction g cs zero_rows (pos (range_in w)) ≡ None
  sheet_passes =
      let few = few_registers g (mapped_none _ _ (first_none _ _ wired).0) in
      let sound = p.format.sound in
      let wide : 8 ≤ w = omega (arith, set.1, set.2) in
      let room : leb (length g.sources) (length {A = ℕ} (replicate 16 0)) ≡ true = le-leb (length g.sources) _ (omega (arith, length-replicate {A = ℕ} 16 0)) in
      let fits = range_passes w wide in
      let called : call_fault w (length g.sources) (length {A = ℕ} (replicate 16 0)) (length {A = ℕ} (replicate 16 0)) (length {A = ℕ} (replicate 16 0)) (pos (range_in w)) ≡ None
      = (λ i. first (unless (room i) PeaksRow) (first (unless (room i) CeilingsRow) (first (unless (room i) BandRow) (unless (fits i) Range)))) in
      (λ i. first (option_map Format (set.0 i)) (first (option_map Program (wired i)) (called i)))

  faultless : (e : SheetFault) → sheet_check st.whole st.fraction g cs zero_rows (pos (range_in w)) ≡ Some e → ⊥
  faultless e h = some_none e (sym h ∙ sheet_passes)

  -- so where the call is refused, no sheet is granted
  denied : (e : SheetFault) (after : Rows) → SheetAnswer rounding_rule overflow_rule st g cs (pos (range_in w)) zero_rows after (Err e) → (t : Sheet) → Granted (meaning rounding_rule overflow_rule p) g cs (range_in w) t → ⊥
  denied (Node k e) after h t granted = (h.1 p set).0.none t.box granted.closed
  denied (Format e) after h t granted = faultless (Format e) h.0
  denied (Program e) after h t granted = faultless (Program e) h.0
  denied PeaksRow after h t granted = faultless PeaksRow h.0
  denied CeilingsRow after h t granted = faultless CeilingsRow h.0
  denied BandRow after h t granted = faultless BandRow h.0
  denied Range after h t granted = faultless Range h.0

-- the limits of the watch on a channel that opens
pub limits_watch : (st : Setting RoundingChoice OverflowChoice) (g : Graph) (cs : List ℤ) (row : ℕ) (o : Option Limits) → open_check st.whole st.fraction g cs row ≡ None
    → SheetLimits st g cs (pos (range_in (st.whole + st.fraction))) o → WatchLimits st g cs (range_in (st.whole + st.fraction)) o
limits_watch st g cs row (Some l) opens h = h
limits_watch st g cs row None opens h = λ p set. denied st g cs row opens p set h.0 h.1 h.2
