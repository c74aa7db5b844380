-- Opening a channel: its refusals in their order, and what an opened one holds.
use Rattle.std.specs.Prelude.{◌≡◌, ℕ, ◌+◌, List, ◌++◌, length, drop, ℤ, Some, None, Ok, Err, vec_items, Option, Result, nat_le}
use Rattle.std.specs.Option.{option_map}
use Rattle.arithmetic.specs.declared.setting.Setting.{Setting}
use Rattle.arithmetic.specs.declared.setting.FixedPoint.{FixedPoint}
use Rattle.arithmetic.specs.Formats.{format_fault, format_number}
use Rattle.arithmetic.specs.Rounding.{RoundingRule}
use Rattle.arithmetic.specs.Overflow.{OverflowRule}
use Rattle.arithmetic.specs.Settings.{FixedArithmetic, SettingAnswer}
use Rattle.kinds.specs.declared.values.Values.{Values}
use Rattle.kinds.specs.Kinds.{KindModel}
use Rattle.wiring.specs.declared.faults.ProgramFault.TheVariants.{Wiring}
use Rattle.wiring.specs.declared.program.Program.{Program as Wired}
use Rattle.wiring.specs.Graphs.{Graph, graph_of}
use Rattle.wiring.specs.Checks.{unless, first, wiring_fault}
use Rattle.wiring.specs.Programs.{list_fault, program_number}
use Rattle.channel.specs.declared.channel.Channel.{Channel as Running}
use Rattle.channel.specs.declared.opening.OpenFault.{OpenFault}
use Rattle.channel.specs.declared.opening.OpenFault.TheVariants.{Format, Program, RegisterRow}
use Rattle.channel.specs.declared.state.Limits.{Limits}
use Rattle.channel.specs.declared.state.Watch.{Watch}
use Rattle.channel.specs.Channels.{zeros, first_watch}
use Rattle.channel.specs.Running.{limits_in, state_in, graph, registers_in, values}

-- the number of each fault
abbrev pub open_number : OpenFault → ℕ
open_number (Format f) = format_number f
open_number (Program f) = program_number f
open_number RegisterRow = 15

-- the first fault: format, wiring, coefficients, then a register row of so many places
abbrev pub open_check : ℕ → ℕ → Graph → List ℤ → ℕ → Option OpenFault
open_check k l g cs row =
    first (option_map Format (format_fault k l))
    (first (option_map Program (first (option_map Wiring (wiring_fault g)) (list_fault (k + l) g.coefficients cs)))
    (unless (nat_le (length g.sources) row) RegisterRow))

-- the setting with its format checked and the program of just this wiring and these coefficients, or the first fault
abbrev pub Checked : {R O : Type 0} → Setting R O → Graph → List ℤ → ℕ → Result (FixedPoint R O × Wired) OpenFault → Type 0
Checked s g cs row (Ok t) =
    (open_check s.whole s.fraction g cs row ≡ None) × SettingAnswer s (Ok t.0) × (graph_of t.1.wiring ≡ g) × (vec_items t.1.coefficients ≡ cs)
Checked s g cs row (Err e) = open_check s.whole s.fraction g cs row ≡ Some e

-- a settled watch with these limits, or none
pub record Fresh (limits : Option Limits) (w : Option Watch) : Type 0 where
  pub limits_are : limits_in w ≡ limits
  pub state_is : state_in w ≡ first_watch limits

module _ {K R O : Type 0} where
  -- the channel of checked parts
  pub record Makes (v : Values K R O) (p : Wired) (limits : Option Limits) (c : Running K R O) : Type 0 where
    pub values_are : c.values ≡ v
    pub program : c.program ≡ p
    pub watch : Fresh limits c.watch

  -- a channel that holds just this kind, setting, wiring and coefficients, and a settled watch with these limits, or none
  pub record Opened (k : K) (s : Setting R O) (g : Graph) (cs : List ℤ) (limits : Option Limits) (c : Running K R O) : Type 0 where
    pub kind : c.values.kind ≡ k
    pub setting : SettingAnswer s (Ok c.values.setting)
    pub wiring : graph c ≡ g
    pub coefficients : vec_items c.program.coefficients ≡ cs
    pub watch : Fresh limits c.watch

  -- the channel, where the check finds no fault
  abbrev pub OpenAnswer : K → Setting R O → Graph → List ℤ → ℕ → Option Limits → Result (Running K R O) OpenFault → Type 0
  OpenAnswer k s g cs row limits (Ok c) = (open_check s.whole s.fraction g cs row ≡ None) × Opened k s g cs limits c
  OpenAnswer k s g cs row limits (Err e) = open_check s.whole s.fraction g cs row ≡ Some e

module _ {K R O V : Type 0} (m : K → FixedArithmetic → KindModel V) (r : R → RoundingRule) (o : O → OverflowRule) where
  -- the register row with zeros in the registers; places past them stay
  abbrev pub made_row : Running K R O → List V → List V
  made_row c row = zeros (graph c) (values m r o c).zero ++ drop (registers_in c) row

  -- the register row after open
  abbrev pub opened_row : List V → Result (Running K R O) OpenFault → List V
  opened_row row (Ok c) = made_row c row
  opened_row row (Err e) = row
