-- What the schedule tells of a material. Assumes nothing.
use Rattle.std.specs.Prelude.{◌≡◌, ℕ, ◌+◌, List, ◌++◌, length, ℤ, Some, None, Ok, Err, vec_items, Option, Result}
use Rattle.arithmetic.specs.Words.{quarter}
use Rattle.arithmetic.specs.Choices.{rounding_rule, overflow_rule}
use Rattle.arithmetic.specs.Settings.{FixedArithmetic}
use Rattle.arithmetic.specs.declared.choice.RoundingChoice.{RoundingChoice}
use Rattle.arithmetic.specs.declared.choice.OverflowChoice.{OverflowChoice}
use Rattle.kinds.specs.declared.refusal.Refusal.{Refusal}
use Rattle.kinds.specs.Arithmetics.{number}
use Rattle.wiring.specs.Graphs.{Graph, graph_of}
use Rattle.forms.specs.declared.form.Form.{Form}
use Rattle.wiring.specs.declared.graph.Filter.{Filter}
use Rattle.forms.specs.Forms.{form_graph}
use Rattle.sheet.specs.declared.figures.Figures.{Figures}
use Rattle.sheet.specs.declared.figures.SheetFault.{SheetFault}
use Rattle.sheet.specs.declared.figures.SheetFault.TheVariants.{Format, Program, PeaksRow, CeilingsRow, BandRow, Range, Node}
use Rattle.sheet.specs.Sheets.{Sheet, Granted, Nowhere}
use Rattle.sheet.specs.Calls.{figures_of}
use Rattle.materials.specs.Layout.{Material}
use Rattle.materials.specs.Letters.{form_of, rounding_of, overflow_of}
use Rattle.schedule_text.specs.declared.outcome.Outcome.{Outcome}
use Rattle.schedule_text.specs.declared.outcome.Outcome.TheVariants.{Fits, NoSheet}

-- the largest sample for words of w bits: a quarter of them
abbrev pub range_in : ℕ → ℕ
range_in = quarter

abbrev pub range_of : Material → ℕ
range_of m = range_in (m.whole + m.fraction)

-- its coefficients: b0 and on, then a1 and on
abbrev pub coefficients_of : Material → List ℤ
coefficients_of m = m.forward ++ m.back

-- its wiring in a form
abbrev pub wiring_in : Form → Material → Graph
wiring_in f m = form_graph f (length m.forward) (length m.back)

-- the filter in a form
abbrev pub FilterOf : Form → Material → Filter → Type 0
FilterOf f m x = (graph_of x.wiring ≡ wiring_in f m) × (vec_items x.coefficients ≡ coefficients_of m)

-- the arithmetic and the wiring that a material's letters and bits stand for
pub record Filtering (m : Material) : Type 0 where
  pub form : Form
  pub rounding : RoundingChoice
  pub overflow : OverflowChoice
  pub setting : FixedArithmetic
  pub form_is : form_of m.form ≡ Some form
  pub rounding_is : rounding_of m.rounding ≡ Some rounding
  pub overflow_is : overflow_of m.overflow ≡ Some overflow
  pub whole_bits : setting.format.whole ≡ m.whole
  pub fraction_bits : setting.format.fraction ≡ m.fraction
  pub rounds : setting.rounding ≡ rounding_rule rounding
  pub overflows : setting.overflow ≡ overflow_rule overflow

-- a sheet is granted to the material, or there is none and node k is the first that refuses with e
abbrev pub GrantedTo : (m : Material) → Filtering m → Sheet → Type 0
GrantedTo m f t = Granted f.setting (wiring_in f.form m) (coefficients_of m) (range_of m) t

abbrev pub DeniedTo : (m : Material) → Filtering m → ℕ → Refusal → Type 0
DeniedTo m f k e = Nowhere f.setting (wiring_in f.form m) (coefficients_of m) (range_of m) k e

-- what the schedule tells of a material: the figures of the sheet that is granted to it, or the number of the refusal and its node
abbrev pub OutcomeOf : Material → Outcome → Type 0
OutcomeOf m (Fits x) = (f : Filtering m) × (t : Sheet) × GrantedTo m f t × (x ≡ figures_of t)
OutcomeOf m (NoSheet n k) = (f : Filtering m) × (e : Refusal) × DeniedTo m f k e × (n ≡ number e)

-- what an answer to the call for a sheet tells; a call that is itself refused tells nothing
abbrev pub told_by : Result Figures SheetFault → Option Outcome
told_by (Ok x) = Some (Fits x)
told_by (Err (Node k e)) = Some (NoSheet (number e) k)
told_by (Err (Format f)) = None
told_by (Err (Program f)) = None
told_by (Err PeaksRow) = None
told_by (Err CeilingsRow) = None
told_by (Err BandRow) = None
told_by (Err Range) = None
