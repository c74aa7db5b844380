-- The channel's calls: what each answers, and what it leaves.
use Rattle.std.specs.Prelude.{ℕ, Bool, List, [], ◌∷◌, map, length, ℤ, is_ok, Some, None, Ok, Err, Option, Result, ◌==◌, nat_le}
use Rattle.arithmetic.specs.Words.{inside}
use Rattle.arithmetic.specs.Settings.{FixedArithmetic, bits}
use Rattle.kinds.specs.Arithmetics.{Arithmetic, number}
use Rattle.wiring.specs.declared.faults.RowFault.TheVariants.{Registers, Working}
use Rattle.wiring.specs.declared.faults.RunFault.{RunFault}
use Rattle.wiring.specs.declared.faults.RunFault.TheVariants.{Row, Node as AtNode}
use Rattle.wiring.specs.Graphs.{Graph}
use Rattle.wiring.specs.Checks.{unless, first, scan}
use Rattle.wiring.specs.Runs.{Worked, run, or_fault}
use Rattle.channel.specs.declared.fault.CallFault.{CallFault}
use Rattle.channel.specs.declared.fault.CallFault.TheVariants.{RegisterRow, WorkingRow, Sample, Node, OtherLength, Coefficient}
use Rattle.channel.specs.declared.state.State.{State}
use Rattle.channel.specs.declared.state.State.TheVariants.{Settled}
use Rattle.channel.specs.declared.state.Event.{Event}
use Rattle.channel.specs.declared.state.Event.TheVariants.{Hush, Swap}
use Rattle.channel.specs.declared.state.Limits.{Limits}
use Rattle.channel.specs.Watches.{sampled, moves}

-- the number of each fault
abbrev pub call_number : CallFault → ℕ
call_number RegisterRow = 15
call_number WorkingRow = 15
call_number Sample = 16
call_number (Node k e) = number e
call_number OtherLength = 17
call_number (Coefficient i) = 9

-- a call: feed says how many places its register row and its working row have, and its sample; swap its coefficients; hush how many places
-- its register row has
pub data Call : Type 0 where
  feed : ℕ → ℕ → ℤ → Call
  swap : List ℤ → Call
  hush : ℕ → Call

-- what an accepted call is to a watch with the range X
abbrev pub event : ℕ → Call → Event
event X (feed row working u) = sampled X u
event X (swap cs) = Swap
event X (hush row) = Hush

-- the watch after an accepted call; without limits there is none
abbrev pub watched : Option Limits → Call → Option State → Option State
watched None c p = None
watched (Some f) c None = None
watched (Some f) c (Some p) = Some (moves f.count p (event f.range c))

abbrev pub first_watch : Option Limits → Option State
first_watch None = None
first_watch (Some f) = Some Settled

-- a coefficient that is no word
abbrev pub coefficient_fault : ℕ → ℕ → ℤ → Option CallFault
coefficient_fault w i c = unless (inside w c) (Coefficient i)

-- a coefficient list for a wiring of n: as many, each a word
abbrev pub swap_fault : ℕ → ℕ → List ℤ → Option CallFault
swap_fault w n cs = first (unless (length cs == n) OtherLength) (scan (coefficient_fault w) 0 cs)

-- a feed before its nodes are worked: the register row, the working row, the sample
abbrev pub feed_fault : ℕ → Graph → ℕ → ℕ → ℤ → Option CallFault
feed_fault w g row working u =
    first (unless (nat_le (length g.sources) row) RegisterRow)
    (first (unless (nat_le (length g.nodes) working) WorkingRow)
    (unless (inside w u) Sample))

-- a run's refusal, as a call tells it
abbrev pub told : RunFault → CallFault
told (AtNode k e) = Node k e
told (Row Registers) = RegisterRow
told (Row Working) = WorkingRow

abbrev pub telling : {A B : Type 0} → Result A RunFault → (A → B) → Result B CallFault
telling (Ok a) f = Ok (f a)
telling (Err e) f = Err (told e)

-- what a channel holds: coefficients, registers and the watch's state
pub record Channel (V : Type 0) : Type 0 where
  pub coefficients : List ℤ
  pub registers : List V
  pub watch : Option State

pub data Answer (V : Type 0) : Type 0 where
  fed : Worked V → Answer V
  swapped : List ℤ → Answer V
  hushed : Answer V

abbrev pub zeros : {V : Type 0} → Graph → V → List V
zeros g z = map (λ _. z) g.sources

-- a call with whether it was accepted
pub record Entry : Type 0 where
  pub call : Call
  pub accepted : Bool

module _ {V : Type 0} (k : Arithmetic V) (s : FixedArithmetic) (g : Graph) (limits : Option Limits) where
  -- what a call answers, with its refusals in their order
  abbrev pub answer : Channel V → Call → Result (Answer V) CallFault
  answer ch (feed row working u) =
      or_fault (first (unless (nat_le (length g.sources) row) RegisterRow)
      (first (unless (nat_le (length g.nodes) working) WorkingRow)
      (unless (inside (bits s) u) Sample)))
      (telling (run k g ch.coefficients ch.registers u) fed)
  answer ch (swap cs) = or_fault (first (unless (length cs == g.coefficients) OtherLength) (scan (coefficient_fault (bits s)) 0 cs)) (Ok (swapped cs))
  answer ch (hush row) = or_fault (unless (nat_le (length g.sources) row) RegisterRow) (Ok hushed)

  -- what a call leaves; a refused one changes nothing
  abbrev pub leaves : Channel V → Call → Result (Answer V) CallFault → Channel V
  leaves ch c (Ok (fed r)) = record { coefficients = ch.coefficients; registers = r.registers; watch = watched limits c ch.watch }
  leaves ch c (Ok (swapped cs)) = record { coefficients = cs; registers = ch.registers; watch = watched limits c ch.watch }
  leaves ch c (Ok hushed) = record { coefficients = ch.coefficients; registers = zeros g k.zero; watch = watched limits c ch.watch }
  leaves ch c (Err e) = ch

  module _ (cs : List ℤ) where
    -- after a list of calls, told newest first
    unfoldable pub after : List Call → Channel V
    after [] = record { coefficients = cs; registers = zeros g k.zero; watch = first_watch limits }
    after (c ∷ h) = leaves (after h) c (answer (after h) c)

    -- each call with whether it was accepted
    unfoldable pub history : List Call → List Entry
    history [] = []
    history (c ∷ h) = record { call = c; accepted = is_ok (answer (after h) c) } ∷ history h
