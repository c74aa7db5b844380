-- What the call `sheet` answers, and what it leaves in the rows that are lent to it.
use Rattle.std.specs.Prelude.{◌≡◌, ℕ, ◌+◌, Bool, ◌&&◌, List, length, replicate, ℤ, pos, Some, None, Ok, Err, Option, Result, int_le, int_lt, nat_le, unsigned_abs}
use Rattle.std.specs.Option.{option_map}
use Rattle.arithmetic.specs.declared.setting.Setting.{Setting}
use Rattle.arithmetic.specs.declared.setting.FixedPoint.{FixedPoint}
use Rattle.arithmetic.specs.Words.{half}
use Rattle.arithmetic.specs.Formats.{format_fault, format_number}
use Rattle.arithmetic.specs.Rounding.{RoundingRule}
use Rattle.arithmetic.specs.Overflow.{OverflowRule}
use Rattle.arithmetic.specs.Settings.{FixedArithmetic, meaning, SettingAnswer}
use Rattle.kinds.specs.Arithmetics.{number}
use Rattle.wiring.specs.declared.faults.ProgramFault.TheVariants.{Wiring}
use Rattle.wiring.specs.Graphs.{Graph}
use Rattle.wiring.specs.Checks.{unless, first, wiring_fault}
use Rattle.wiring.specs.Programs.{list_fault, program_number}
use Rattle.sheet.specs.declared.figures.Figures.{Figures}
use Rattle.sheet.specs.declared.figures.SheetFault.{SheetFault}
use Rattle.sheet.specs.declared.figures.SheetFault.TheVariants.{Format, Program, PeaksRow, CeilingsRow, BandRow, Range, Node}
use Rattle.sheet.specs.Sheets.{Sheet, Granted, Nowhere}
use Rattle.sheet.specs.Searching.{IsAtNode, over, peaks_of, ceilings_of}

-- the number of each fault
abbrev pub sheet_number : SheetFault → ℕ
sheet_number (Format f) = format_number f
sheet_number (Program f) = program_number f
sheet_number PeaksRow = 15
sheet_number CeilingsRow = 15
sheet_number BandRow = 15
sheet_number Range = 20
sheet_number (Node k e) = number e

-- the three rows that are lent to the call
pub record Rows : Type 0 where
  pub peaks : List ℕ
  pub ceilings : List ℕ
  pub band : List ℕ

abbrev pub rows : List ℕ → List ℕ → List ℕ → Rows
rows p c b = record { peaks = p; ceilings = c; band = b }

-- rows of 16 zeros, room enough for the registers of every wiring
abbrev pub zero_rows : Rows
zero_rows = rows (replicate 16 0) (replicate 16 0) (replicate 16 0)

-- a range from 0 to the largest word of w bits
abbrev pub in_range : ℕ → ℤ → Bool
in_range w x = int_le (pos 0) x && int_lt x (pos (half w))

-- a row too short for so many registers, then a range out of limits
abbrev pub call_fault : ℕ → ℕ → ℕ → ℕ → ℕ → ℤ → Option SheetFault
call_fault w registers peaks ceilings band x =
    first (unless (nat_le registers peaks) PeaksRow)
    (first (unless (nat_le registers ceilings) CeilingsRow)
    (first (unless (nat_le registers band) BandRow)
    (unless (in_range w x) Range)))

-- the first fault of a call: format, wiring, coefficients, rows, range
abbrev pub sheet_check : ℕ → ℕ → Graph → List ℤ → Rows → ℤ → Option SheetFault
sheet_check k l g cs lent x =
    first (option_map Format (format_fault k l))
    (first (option_map Program (first (option_map Wiring (wiring_fault g)) (list_fault (k + l) g.coefficients cs)))
    (call_fault (k + l) (length g.sources) (length lent.peaks) (length lent.ceilings) (length lent.band) x))

-- the figures of a sheet
abbrev pub figures_of : Sheet → Figures
figures_of t = record { peak = t.output.peak; ceiling = t.output.ceiling; count = t.count; band = t.output_band }

-- the rows with a sheet in their register places
abbrev pub shown : Sheet → Rows → Rows
shown t lent = rows (over (peaks_of t.box) lent.peaks) (over (ceilings_of t.box) lent.ceilings) (over t.band lent.band)

-- the rows with zeros in n places
abbrev pub cleared : ℕ → Rows → Rows
cleared n lent = rows (over (replicate n 0) lent.peaks) (over (replicate n 0) lent.ceilings) (over (replicate n 0) lent.band)

-- the rounds' verdict: a granted sheet, its figures answered and its box and band in the rows; or no box is closed, the first node met
-- is told, and the register places hold zeros
abbrev pub Verdict : FixedArithmetic → Graph → List ℤ → ℕ → Rows → Rows → Result Figures SheetFault → Type 0
Verdict s g cs X before after (Ok f) = (t : Sheet) × Granted s g cs X t × (f ≡ figures_of t) × (after ≡ shown t before)
Verdict s g cs X before after (Err f) = IsAtNode (λ k e. Nowhere s g cs X k e × (after ≡ cleared (length g.sources) before)) f

module _ {R O : Type 0} (r : R → RoundingRule) (o : O → OverflowRule) (st : Setting R O) (g : Graph) (cs : List ℤ) (x : ℤ) (before after : Rows) where
  -- the check finds a fault, and the rows stay
  abbrev pub Refused : SheetFault → Type 0
  Refused f = (sheet_check st.whole st.fraction g cs before x ≡ Some f) × (after ≡ before)

  -- the check finds none, and under the setting with its format checked the rounds decide
  abbrev pub Decided : Result Figures SheetFault → Type 0
  Decided a = (sheet_check st.whole st.fraction g cs before x ≡ None)
      × ((p : FixedPoint R O) → SettingAnswer st (Ok p) → Verdict (meaning r o p) g cs (unsigned_abs x) before after a)

  abbrev pub SheetAnswer : Result Figures SheetFault → Type 0
  SheetAnswer (Ok f) = Decided (Ok f)
  SheetAnswer (Err (Node k e)) = Decided (Err (Node k e))
  SheetAnswer (Err (Format f)) = Refused (Format f)
  SheetAnswer (Err (Program f)) = Refused (Program f)
  SheetAnswer (Err PeaksRow) = Refused PeaksRow
  SheetAnswer (Err CeilingsRow) = Refused CeilingsRow
  SheetAnswer (Err BandRow) = Refused BandRow
  SheetAnswer (Err Range) = Refused Range
