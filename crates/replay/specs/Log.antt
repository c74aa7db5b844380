-- A list of calls, and the log of its entries.
use Rattle.std.specs.Prelude.{◌≡◌, ℕ, zero, suc, min, Bool, true, false, List, [], ◌∷◌, length, ℤ, Some, None, Ok, Err, vec_items, Option, Result}
use Rattle.arithmetic.specs.Settings.{FixedArithmetic}
use Rattle.kinds.specs.Arithmetics.{Arithmetic}
use Rattle.wiring.specs.Graphs.{Graph}
use Rattle.channel.specs.declared.fault.CallFault.{CallFault}
use Rattle.channel.specs.declared.state.Limits.{Limits}
use Rattle.channel.specs.Channels.{Call, feed, swap, hush, Channel, Answer, fed, swapped, hushed, answer, after, Entry as Noted}
use Rattle.replay.specs.declared.log.Call.{Call as Listed}
use Rattle.replay.specs.declared.log.Call.TheVariants.{Feed, Swap, Hush}
use Rattle.replay.specs.declared.log.Told.{Told}
use Rattle.replay.specs.declared.log.Told.TheVariants.{Opened, Fed, Swapped, Hushed, Refused}
use Rattle.replay.specs.declared.log.Entry.{Entry}

-- what stands in place i of a list
abbrev pub place : {A : Type 0} → List A → ℕ → Option A
place [] i = None
place (x ∷ xs) zero = Some x
place (x ∷ xs) (suc i) = place xs i

-- a call of the list, where open set a row of so many places: it is lent as many of them as it says, or all
abbrev pub lent : {V : Type 0} → ℕ → Listed V → Call
lent row (Feed registers working u) = feed (min registers row) (length (vec_items working)) u
lent row (Swap cs) = swap (vec_items cs)
lent row (Hush registers) = hush (min registers row)

-- one more call
abbrev pub then : Option Call → List Call → List Call
then None h = h
then (Some c) h = c ∷ h

-- the first i calls, newest first
abbrev pub earlier : List Call → ℕ → List Call
earlier calls zero = []
earlier calls (suc i) = then (place calls i) (earlier calls i)

-- whether an entry tells of an accepted call
abbrev pub taken : {V : Type 0} → Told V → Bool
taken Opened = true
taken (Fed output nodes) = true
taken Swapped = true
taken Hushed = true
taken (Refused f) = false

-- a call beside the entry that it made
abbrev pub noting : {V : Type 0} → Option Call → Option (Entry V) → List Noted → List Noted
noting (Some c) (Some e) h = record { call = c; accepted = taken e.told } ∷ h
noting (Some c) None h = h
noting None e h = h

-- the first i calls, newest first, each with whether its entry tells that it was accepted: the entry of open stands before those of the calls
abbrev pub past : {V : Type 0} → List Call → List (Entry V) → ℕ → List Noted
past calls log zero = []
past calls log (suc i) = noting (place calls i) (place log (suc i)) (past calls log i)

-- what an accepted feed tells: its output and the value of every node
pub record Heard (V : Type 0) : Type 0 where
  pub output : V
  pub nodes : List V

abbrev pub heard : {V : Type 0} → Told V → Option (Heard V)
heard (Fed output nodes) = Some (record { output = output; nodes = vec_items nodes })
heard Opened = None
heard Swapped = None
heard Hushed = None
heard (Refused f) = None

-- ---- the log, by the channel's steps
-- an entry shows the registers and the watch of a channel
pub record Shows {V : Type 0} (ch : Channel V) (e : Entry V) : Type 0 where
  pub registers : vec_items e.registers ≡ ch.registers
  pub watch : e.watch ≡ ch.watch

-- an entry tells what a call answered
abbrev pub Tells : {V : Type 0} → Result (Answer V) CallFault → Told V → Type 0
Tells (Ok (fed r)) t = heard t ≡ Some (record { output = r.output; nodes = r.values })
Tells (Ok (swapped cs)) t = t ≡ Swapped
Tells (Ok hushed) t = t ≡ Hushed
Tells (Err f) t = t ≡ Refused f

-- one entry for open and one for each call, each showing what the channel holds then and telling what it answered
pub record Logged {V : Type 0} (k : Arithmetic V) (s : FixedArithmetic) (g : Graph) (cs : List ℤ) (limits : Option Limits) (calls : List Call) (log : List (Entry V)) : Type 0 where
  pub entries : length log ≡ suc (length calls)
  pub opens : (e : Entry V) → place log 0 ≡ Some e → e.told ≡ Opened
  pub shows : (i : ℕ) (e : Entry V) → place log i ≡ Some e → Shows (after k s g limits cs (earlier calls i)) e
  pub tells : (i : ℕ) (c : Call) (e : Entry V) → place calls i ≡ Some c → place log (suc i) ≡ Some e → Tells (answer k s g limits (after k s g limits cs (earlier calls i)) c) e.told
