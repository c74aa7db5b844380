-- The running channel: what it holds beside the row that is lent to it, and what its calls answer and leave.
use Rattle.std.specs.Prelude.{◌≡◌, ℕ, List, ◌++◌, length, take, drop, replicate, Some, None, Ok, Err, vec_items, Option, Result}
use Rattle.arithmetic.specs.Rounding.{RoundingRule}
use Rattle.arithmetic.specs.Overflow.{OverflowRule}
use Rattle.arithmetic.specs.Settings.{FixedArithmetic}
use Rattle.kinds.specs.Arithmetics.{Arithmetic}
use Rattle.kinds.specs.Kinds.{KindModel, arithmetic_of, words_of}
use Rattle.wiring.specs.Graphs.{Graph, graph_of}
use Rattle.channel.specs.declared.channel.Channel.{Channel as Running}
use Rattle.channel.specs.declared.fault.CallFault.{CallFault}
use Rattle.channel.specs.declared.fault.CallFault.TheVariants.{RegisterRow, WorkingRow, Sample, Node, OtherLength, Coefficient}
use Rattle.channel.specs.declared.state.State.{State}
use Rattle.channel.specs.declared.state.Event.{Event}
use Rattle.channel.specs.declared.state.Limits.{Limits}
use Rattle.channel.specs.declared.state.Watch.{Watch}
use Rattle.channel.specs.Watches.{moves}
use Rattle.channel.specs.Channels.{Call, Channel, Answer, fed, swapped, hushed, answer, leaves}

-- the limits and the state of a watch, where there is one
abbrev pub limits_in : Option Watch → Option Limits
limits_in None = None
limits_in (Some w) = Some w.limits

abbrev pub state_in : Option Watch → Option State
state_in None = None
state_in (Some w) = Some w.state

-- the state after one accepted event
abbrev pub state_told : Event → Option Watch → Option State
state_told e None = None
state_told e (Some w) = Some (moves w.limits.count w.state e)

module _ {K R O : Type 0} where
  -- the wiring of a channel
  abbrev pub graph : Running K R O → Graph
  graph c = graph_of c.program.wiring

  -- how many registers and how many nodes it has
  abbrev pub registers_in : Running K R O → ℕ
  registers_in c = length (graph c).sources

  abbrev pub nodes_in : Running K R O → ℕ
  nodes_in c = length (graph c).nodes

  -- what a channel and its register row hold
  abbrev pub holding : {V : Type 0} → Running K R O → List V → Channel V
  holding c row = record { coefficients = vec_items c.program.coefficients; registers = take (registers_in c) row; watch = state_in c.watch }

  -- the same kind, setting, wiring and limits
  pub record Same (before now : Running K R O) : Type 0 where
    pub kind : now.values.kind ≡ before.values.kind
    pub setting : now.values.setting ≡ before.values.setting
    pub wiring : now.program.wiring ≡ before.program.wiring
    pub limits : limits_in now.watch ≡ limits_in before.watch

module _ {K R O V : Type 0} (m : K → FixedArithmetic → KindModel V) (r : R → RoundingRule) (o : O → OverflowRule) (c : Running K R O) where
  -- the arithmetic of its values
  abbrev pub values : Arithmetic V
  values = arithmetic_of m r o c.values

  -- what a call answers
  abbrev pub answered_to : List V → Call → Result (Answer V) CallFault
  answered_to row call = answer values (words_of r o c.values) (graph c) (limits_in c.watch) (holding c row) call

  -- what it leaves
  abbrev pub left_by : List V → Call → Channel V
  left_by row call = leaves values (words_of r o c.values) (graph c) (limits_in c.watch) (holding c row) call (answered_to row call)

  -- the register row afterwards: places past the registers stay
  abbrev pub row_left : List V → Call → List V
  row_left row call = (left_by row call).registers ++ drop (registers_in c) row

-- a feed hands out the output of its answer, or the fault
abbrev pub HandsOut : {V : Type 0} → Result (Answer V) CallFault → Result V CallFault → Type 0
HandsOut (Ok (fed w)) r = r ≡ Ok w.output
HandsOut (Ok (swapped cs)) r = ⊥
HandsOut (Ok hushed) r = ⊥
HandsOut (Err e) r = r ≡ Err e

-- the working row after a feed: the values of the n nodes; zeros in the node places where a node refused; else as it was
abbrev pub working_left : {V : Type 0} → V → ℕ → List V → Result (Answer V) CallFault → List V
working_left z n row (Ok (fed w)) = w.values ++ drop n row
working_left z n row (Ok (swapped cs)) = row
working_left z n row (Ok hushed) = row
working_left z n row (Err (Node k e)) = replicate n z ++ drop n row
working_left z n row (Err RegisterRow) = row
working_left z n row (Err WorkingRow) = row
working_left z n row (Err Sample) = row
working_left z n row (Err OtherLength) = row
working_left z n row (Err (Coefficient i)) = row
