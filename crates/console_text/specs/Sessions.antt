-- A session: a record's channel, worked by the lines of an input.
use Rattle.std.specs.Prelude.{◌≡◌, ℕ, ◌+◌, List, ◌++◌, length, ℤ, Some, Option}
use Rattle.arithmetic.specs.Words.{quarter}
use Rattle.arithmetic.specs.Choices.{rounding_rule, overflow_rule}
use Rattle.arithmetic.specs.Settings.{FixedArithmetic}
use Rattle.arithmetic.specs.declared.choice.RoundingChoice.{RoundingChoice}
use Rattle.arithmetic.specs.declared.choice.OverflowChoice.{OverflowChoice}
use Rattle.arithmetic.specs.declared.setting.Setting.{Setting}
use Rattle.kinds.specs.Kinds.{KindModel}
use Rattle.wiring.specs.Graphs.{Graph}
use Rattle.forms.specs.declared.form.Form.{Form}
use Rattle.forms.specs.Forms.{form_graph}
use Rattle.channel.specs.declared.state.Limits.{Limits}
use Rattle.replay.specs.declared.log.Call.{Call}
use Rattle.replay.specs.declared.log.Entry.{Entry}
use Rattle.replay.specs.Replaying.{Replays}
use Rattle.materials.specs.declared.letters.Choices.{Choices}
use Rattle.materials.specs.Records.{setting_in}
use Rattle.materials.specs.Layout.{Material}
use Rattle.materials.specs.Letters.{form_of, rounding_of, overflow_of}
use Rattle.console_text.specs.Pieces.{lines}
use Rattle.console_text.specs.Texts.{SessionText}
use Rattle.console_text.specs.Watching.{WatchLimits}

-- its wiring in a form, and its coefficients: b0 and on, then a1 and on
abbrev pub wiring_in : Material → Form → Graph
wiring_in m f = form_graph f (length m.forward) (length m.back)

abbrev pub coefficients_in : Material → List ℤ
coefficients_in m = m.forward ++ m.back

-- the largest sample that its sheet is asked for: 2^(w-2) for words of w bits
abbrev pub range_in : ℕ → ℕ
range_in = quarter

-- the log of a list of calls on the channel of a filter, by a row of as many places as there are registers
abbrev pub LoggedCalls : {K V : Type 0} → (K → FixedArithmetic → KindModel V) → K → Setting RoundingChoice OverflowChoice → Graph → List ℤ → Option Limits → List (Call V) → List (Entry V) → Type 0
LoggedCalls m kind st g cs limits calls log = Replays m rounding_rule overflow_rule kind st g cs limits (length g.sources) calls log

-- the text of a session on a material: its letters stand for a form and two rules; the watch has the limits of its sheet; the calls that the
-- input's lines ask for are worked in order on its channel, and their log keeps the channel theorem; and the text is that of the log
pub record Session {K V : Type 0} (m : K → FixedArithmetic → KindModel V) (shown : V → List ℕ) (kind : K) (name : List ℕ) (item : Material) (input text : List ℕ) : Type 0 where
  pub choices : Choices
  pub form_is : form_of item.form ≡ Some choices.form
  pub rounding_is : rounding_of item.rounding ≡ Some choices.rounding
  pub overflow_is : overflow_of item.overflow ≡ Some choices.overflow
  pub limits : Option Limits
  pub watch : WatchLimits (setting_in item choices) (wiring_in item choices.form) (coefficients_in item) (range_in (item.whole + item.fraction)) limits
  pub calls : List (Call V)
  pub log : List (Entry V)
  pub logged : LoggedCalls m kind (setting_in item choices) (wiring_in item choices.form) (coefficients_in item) limits calls log
  pub told : SessionText shown (length (wiring_in item choices.form).sources) (length (wiring_in item choices.form).nodes) name limits (lines input) calls log text
