-- What a sheet's answer tells of a good material. Assumes nothing.
use Rattle.std.proofs.Common.{◌≡◌, ℕ, ◌+◌, ◌≤◌, List, length, ℤ, pos, Some, None, Ok, Err, Option, Result, IsSome, sym, refl, ◌∙◌, subst, arith, w32, SFits, to_z, of_z}
use mathlib.Core.Path.{transport}
use Rattle.std.proofs.lemmas.List.{length-replicate}
use Rattle.std.proofs.lemmas.Int.{to_z-of_z}
use Rattle.arithmetic.specs.Choices.{rounding_rule, overflow_rule}
use Rattle.arithmetic.specs.Formats.{width}
use Rattle.arithmetic.specs.Settings.{meaning}
use Rattle.arithmetic.specs.declared.choice.RoundingChoice.{RoundingChoice}
use Rattle.arithmetic.specs.declared.choice.OverflowChoice.{OverflowChoice}
use Rattle.arithmetic.specs.declared.format.Format.{Format}
use Rattle.arithmetic.specs.declared.setting.Setting.{Setting}
use Rattle.arithmetic.specs.declared.setting.FixedPoint.{FixedPoint}
use Rattle.wiring.specs.Graphs.{Graph}
use Rattle.sheet.specs.declared.figures.Figures.{Figures}
use Rattle.sheet.specs.declared.figures.SheetFault.{SheetFault}
use Rattle.sheet.specs.declared.figures.SheetFault.TheVariants.{Format as OfFormat, Program, PeaksRow, CeilingsRow, BandRow, Range, Node}
use Rattle.sheet.specs.Calls.{Rows, zero_rows, sheet_check, SheetAnswer}
use Rattle.materials.specs.Layout.{Material}
use Rattle.materials.specs.Letters.{form_of, rounding_of, overflow_of}
use Rattle.materials.specs.Records.{material_fault, setting_in}
use Rattle.materials.specs.declared.letters.Choices.{Choices}
use Rattle.materials.proofs.Rows.{some_none}
use Rattle.schedule_text.specs.declared.outcome.Outcome.{Outcome}
use Rattle.schedule_text.specs.Outcomes.{range_in, range_of, coefficients_of, wiring_in, Filtering, OutcomeOf, told_by}
use Rattle.schedule_text.proofs.Good.{format_passes, check_passes}

-- an answer tells something of the material, and it is so
abbrev pub Tells : Material → Option Outcome → Type 0
Tells m (Some o) = OutcomeOf m o
Tells m None = ⊥

pub tells_some : (m : Material) (o : Option Outcome) → Tells m o → IsSome o
tells_some m (Some o) h = refl
tells_some m None h = absurd h

module _ (m : Material) (good : material_fault m ≡ None) (ch : Choices) (f : Format)
    (form_is : form_of m.form ≡ Some ch.form) (rounding_is : rounding_of m.rounding ≡ Some ch.rounding) (overflow_is : overflow_of m.overflow ≡ Some ch.overflow)
    (whole_is : f.whole ≡ m.whole) (fraction-is : f.fraction ≡ m.fraction)
    (before after : Rows) (rp : 16 ≤ length before.peaks) (rc : 16 ≤ length before.ceilings) (rb : 16 ≤ length before.band) where
  abbrev point : FixedPoint RoundingChoice OverflowChoice
  point = record { format = f; rounding = ch.rounding; overflow = ch.overflow }

  abbrev setting : Setting RoundingChoice OverflowChoice
  setting = setting_in m ch

  abbrev filtering : Filtering m
  filtering = record {
    form = ch.form;
    rounding = ch.rounding;
    overflow = ch.overflow;
    setting = meaning rounding_rule overflow_rule point;
    form_is = form_is;
    rounding_is = rounding_is;
    overflow_is = overflow_is;
    whole_bits = whole_is;
    fraction_bits = fraction-is;
    rounds = refl;
    overflows = refl;
  }

  abbrev Answers : Result Figures SheetFault → Type 0
  Answers a = SheetAnswer rounding_rule overflow_rule setting (wiring_in ch.form m) (coefficients_of m) (pos (range_of m)) before after a

  passes : sheet_check m.whole m.fraction (wiring_in ch.form m) (coefficients_of m) before (pos (range_of m)) ≡ None
  passes = check_passes m good ch.form before rp rc rb

  refuses : (e : SheetFault) → sheet_check m.whole m.fraction (wiring_in ch.form m) (coefficients_of m) before (pos (range_of m)) ≡ Some e → ⊥
  refuses e h = some_none e (sym h ∙ passes)

  told : (a : Result Figures SheetFault) → Answers a → Tells m (told_by a)
  told (Ok x) h =
      let v = h.1 point (format_passes m good, whole_is, fraction-is, refl, refl) in
      (filtering, v.0, v.1, v.2)
  told (Err (Node k e)) h =
      let v = h.1 point (format_passes m good, whole_is, fraction-is, refl, refl) in
      (filtering, e, v.0, refl)
  told (Err (OfFormat e)) h = refuses (OfFormat e) h.0
  told (Err (Program e)) h = refuses (Program e) h.0
  told (Err PeaksRow) h = refuses PeaksRow h.0
  told (Err CeilingsRow) h = refuses CeilingsRow h.0
  told (Err BandRow) h = refuses BandRow h.0
  told (Err Range) h = refuses Range h.0

  -- the same of a setting, a wiring, a list and a range that are equal to the material's
  told_of : (st : Setting RoundingChoice OverflowChoice) (g : Graph) (cs : List ℤ) (x : ℤ) (a : Result Figures SheetFault)
      → st ≡ setting → g ≡ wiring_in ch.form m → cs ≡ coefficients_of m → x ≡ pos (range_of m)
      → SheetAnswer rounding_rule overflow_rule st g cs x before after a → Tells m (told_by a)
  told_of st g cs x a est eg ecs ex h = told a (transport (λ i. SheetAnswer rounding_rule overflow_rule (est i) (eg i) (ecs i) (ex i) before after a) h)

-- the same, from what the calls before the sheet's ensure: whatever the answer tells is so
pub told_call : (m : Material) → material_fault m ≡ None → (ch : Choices) (f : Format) (st : Setting RoundingChoice OverflowChoice) (x : ℤ) (g : Graph) (cs : List ℤ) (after : Rows) (a : Result Figures SheetFault) (o : Option Outcome)
    → form_of m.form ≡ Some ch.form → rounding_of m.rounding ≡ Some ch.rounding → overflow_of m.overflow ≡ Some ch.overflow
    → f.whole ≡ m.whole → f.fraction ≡ m.fraction → st ≡ setting_in m ch → x ≡ pos (range_in (width f)) → SFits w32 x
    → g ≡ wiring_in ch.form m → cs ≡ coefficients_of m
    → SheetAnswer rounding_rule overflow_rule st g cs (to_z w32 (of_z w32 x)) zero_rows after a
    → o ≡ told_by a → Tells m o
told_call m good ch f st x g cs after a o form_is rounding_is overflow_is whole_is fraction-is est ex fits eg ecs h eo =
    let rx : to_z w32 (of_z w32 x) ≡ pos (range_of m) = to_z-of_z w32 x fits ∙ (ex ∙ (λ i. pos (range_in (whole_is i + fraction-is i)))) in
    let room : 16 ≤ length zero_rows.peaks = omega (arith, length-replicate {A = ℕ} 16 0) in
    subst (Tells m) (sym eo)
    (told_of m good ch f form_is rounding_is overflow_is whole_is fraction-is zero_rows after room room room st g cs (to_z w32 (of_z w32 x)) a
    est eg ecs rx h)
