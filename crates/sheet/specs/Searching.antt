-- What the steps of the search for a closed box answer and leave. A row holds a box in its first places, one for each register.
use Rattle.std.specs.Prelude.{◌≡◌, ℕ, ◌<◌, ◌≤◌, ◌⊎◌, List, ◌++◌, map, length, get_or, take, drop, ℤ, Ok, Err, vec_items, Result, slice_index, slice_index_or}
use Rattle.arithmetic.specs.Rounding.{RoundingRule}
use Rattle.arithmetic.specs.Overflow.{OverflowRule}
use Rattle.arithmetic.specs.Settings.{FixedArithmetic, meaning}
use Rattle.kinds.specs.declared.refusal.Refusal.{Refusal}
use Rattle.kinds.specs.declared.values.Bound.{Bound}
use Rattle.kinds.specs.Bounds.{bound_of, bound_arithmetic, peak_limit}
use Rattle.wiring.specs.declared.faults.RunFault.TheVariants.{Node as OfRun}
use Rattle.wiring.specs.declared.program.Program.{Program}
use Rattle.wiring.specs.Graphs.{Graph, graph_of}
use Rattle.wiring.specs.Lists.{Each₂, All}
use Rattle.wiring.specs.Runs.{Worked, run}
use Rattle.sheet.specs.declared.figures.SheetFault.{SheetFault}
use Rattle.sheet.specs.declared.figures.SheetFault.TheVariants.{Format, Program as OfProgram, PeaksRow, CeilingsRow, BandRow, Range, Node}
use Rattle.sheet.specs.declared.rounds.Rounds.{Rounds}
use Rattle.sheet.specs.declared.rounds.BoundRows.{BoundRows}
use Rattle.sheet.specs.Rounds.{nth_box}
use Rattle.sheet.specs.Sheets.{Below, Closed, Falls, Nowhere}

-- the bound (0, 0)
abbrev pub none : Bound
none = bound_of 0 0

abbrev pub program_graph : Program → Graph
program_graph p = graph_of p.wiring

abbrev pub program_list : Program → List ℤ
program_list p = vec_items p.coefficients

-- the fault is a node's refusal, and P of the node and the refusal
abbrev pub IsAtNode : (ℕ → Refusal → Type 0) → SheetFault → Type 0
IsAtNode P (Node k e) = P k e
IsAtNode P (Format f) = ⊥
IsAtNode P (OfProgram f) = ⊥
IsAtNode P PeaksRow = ⊥
IsAtNode P CeilingsRow = ⊥
IsAtNode P BandRow = ⊥
IsAtNode P Range = ⊥

-- xs in the first places of a row, the others as they were
abbrev pub over : {V : Type 0} → List V → List V → List V
over xs row = xs ++ drop (length xs) row

-- the box in a row
abbrev pub box_in : Graph → List Bound → List Bound
box_in g row = take (length g.sources) row

-- what the registers' sources hold in a working row
abbrev pub sources_in : List ℕ → List Bound → List Bound
sources_in ss working = map (λ s. get_or working s none) ss

-- the peaks and the ceilings of a box
abbrev pub peaks_of : List Bound → List ℕ
peaks_of box = map (λ b. b.peak) box

abbrev pub ceilings_of : List Bound → List ℕ
ceilings_of box = map (λ b. b.ceiling) box

-- the value has a larger peak or a larger ceiling than the entry
abbrev pub Exceeds : Bound → Bound → Type 0
Exceeds value entry = (entry.peak < value.peak) ⊎ (entry.ceiling < value.ceiling)

-- an entry that its new value exceeds
abbrev pub Raised : List Bound → List Bound → Type 0
Raised box new = (i : ℕ) × (i < length box) × Exceeds (slice_index_or new i none) (slice_index_or box i none)

-- an entry whose new peak is smaller
abbrev pub Lowered : List Bound → List Bound → Type 0
Lowered box new = (i : ℕ) × (i < length box) × ((get_or new i none).peak < (get_or box i none).peak)

-- no entry's new peak is smaller
abbrev pub NotLowered : Bound → Bound → Type 0
NotLowered entry value = entry.peak ≤ value.peak

-- the working row holds what the round w made: at the sources and at the output
pub record Holds (g : Graph) (w : Worked Bound) (working : List Bound) : Type 0 where
  pub sources : sources_in g.sources working ≡ w.registers
  pub output : get_or working g.output none ≡ w.output

module _ (s : FixedArithmetic) (g : Graph) (cs : List ℤ) where
  -- the least closed box, met in rounds from zero, with the output in the round from it
  pub record Least (X : ℕ) (box : List Bound) (output : Bound) : Type 0 where
    pub closed : Closed s g cs X box
    pub least : (other : List Bound) → Closed s g cs X other → Each₂ Below box other
    pub met : (n : ℕ) × (nth_box s g cs X n ≡ Ok box)
    pub output_is : output ≡ closed.made.output

-- ---- what rounds are worked with, and their rows
module _ {R O : Type 0} (a : Rounds R O) where
  abbrev pub rounds_graph : Graph
  rounds_graph = program_graph a.program

  abbrev pub rounds_list : List ℤ
  rounds_list = program_list a.program

  -- the box in the register row
  abbrev pub held_box : BoundRows → List Bound
  held_box rows = box_in rounds_graph rows.registers

  -- the box that the last round made
  abbrev pub made_box : BoundRows → List Bound
  made_box rows = sources_in rounds_graph.sources rows.working

  -- what the last round gave at the output
  abbrev pub made_output : BoundRows → Bound
  made_output rows = slice_index_or rows.working rounds_graph.output none

  -- P of register i's source and its entry
  abbrev pub AtRegister : BoundRows → (Bound → Bound → Type 0) → ℕ → Type 0
  AtRegister rows P i = P (slice_index_or rows.working (slice_index rounds_graph.sources i) none) (slice_index_or rows.registers i none)

module _ {R O : Type 0} (r : R → RoundingRule) (o : O → OverflowRule) (a : Rounds R O) where
  abbrev pub rounds_meaning : FixedArithmetic
  rounds_meaning = meaning r o a.values.setting

  -- a round from the box in the register row, which stays, on the sample u
  abbrev pub RoundAnswer : ℤ → BoundRows → Result (Unit {0}) SheetFault → BoundRows → Type 0
  RoundAnswer u before (Ok _) after = (after.registers ≡ before.registers) × (w : Worked Bound)
      × (run (bound_arithmetic rounds_meaning) (rounds_graph a) (rounds_list a) (held_box a after) u ≡ Ok w) × Holds (rounds_graph a) w after.working
  RoundAnswer u before (Err f) after = IsAtNode (λ k e. run (bound_arithmetic rounds_meaning) (rounds_graph a) (rounds_list a) (held_box a before) u ≡ Err (OfRun k e)) f

  -- the search from zero: the register row has the least closed box and the working row the output of the round from it
  abbrev pub SearchAnswer : ℕ → Result (Unit {0}) SheetFault → BoundRows → Type 0
  SearchAnswer X (Ok _) rows = Least rounds_meaning (rounds_graph a) (rounds_list a) X (held_box a rows) (made_output a rows)
  SearchAnswer X (Err f) rows = IsAtNode (Nowhere rounds_meaning (rounds_graph a) (rounds_list a) X) f

  -- rounds with input 0 can be worked from the box in the register row
  pub record Settles (rows : BoundRows) : Type 0 where
    pub closed : Closed rounds_meaning (rounds_graph a) (rounds_list a) 0 (held_box a rows)
    pub small : All (λ b. b.peak ≤ peak_limit rounds_meaning) (held_box a rows)

  -- how many of them lower a peak, the box after them, and the output peak of one more
  abbrev pub FallsTo : BoundRows → ℕ → BoundRows → Type 0
  FallsTo before count after = Falls rounds_meaning (rounds_graph a) (rounds_list a) (peaks_of (held_box a before)) count (peaks_of (held_box a after)) (made_output a after).peak
