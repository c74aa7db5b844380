-- The channel theorem, over every list of calls.
use Rattle.std.specs.Prelude.{◌≡◌, ℕ, ◌≤◌, cond, ◌⊎◌, ◌↔◌, List, reverse, take, ℤ, pos, Some, None, Ok, Err, Option, Result, ◌≢◌, unsigned_abs}
use Rattle.arithmetic.specs.Words.{inside}
use Rattle.arithmetic.specs.Settings.{FixedArithmetic, inner_bits}
use Rattle.exact.specs.Numbers.{Exact}
use Rattle.kinds.specs.declared.refusal.Refusal.{Refusal}
use Rattle.kinds.specs.declared.refusal.Refusal.TheVariants.{Overflow}
use Rattle.kinds.specs.Arithmetics.{Arithmetic, words}
use Rattle.kinds.specs.Kinds.{KindModel, Goes}
use Rattle.kinds.specs.Words.{word_arithmetic}
use Rattle.kinds.specs.Enclosures.{enclosed_arithmetic}
use Rattle.kinds.specs.Bounds.{Near}
use Rattle.wiring.specs.Graphs.{Graph}
use Rattle.wiring.specs.Lists.{Each₃}
use Rattle.wiring.specs.Programs.{program_fault}
use Rattle.wiring.specs.Runs.{Worked, run}
use Rattle.wiring.specs.Covering.{Related}
use Rattle.sheet.specs.Sheets.{Sheet, Granted}
use Rattle.channel.specs.declared.fault.CallFault.TheVariants.{Node}
use Rattle.channel.specs.declared.state.State.{State}
use Rattle.channel.specs.declared.state.State.TheVariants.{Settled}
use Rattle.channel.specs.declared.state.Limits.{Limits}
use Rattle.channel.specs.Watches.{Live}
use Rattle.channel.specs.Channels.{Call, feed, fed, answer, after, history}
use Rattle.channel.specs.References.{Reference, fixed_run, exact_run, reference, accepted, Quiet, Zeros}

-- the fixed arithmetic that refuses every raw number outside its word, whatever the overflow rule would make of it
abbrev pub in_word : FixedArithmetic → ℤ → Result ℤ Refusal
in_word s raw = cond (inside (inner_bits s) raw) (Ok raw) (Err Overflow)

abbrev pub strict : FixedArithmetic → Arithmetic ℤ
strict s = words s (in_word s)

module _ {V : Type 0} (k : Arithmetic V) (s : FixedArithmetic) (g : Graph) (cs : List ℤ) (limits : Option Limits) (h : List Call) where
  -- the reference runs beside the channel after the calls h
  abbrev pub beside : Reference
  beside = reference s g cs (history k s g limits cs h)

  -- what the watch says then
  abbrev pub said : Option State
  said = (after k s g limits cs h).watch

  -- the next feed is accepted, and makes r
  abbrev pub Accepts : ℕ → ℕ → ℤ → Worked V → Type 0
  Accepts row working u r = answer k s g limits (after k s g limits cs h) (feed row working u) ≡ Ok (fed r)

  -- a: registers cover the reference rows; a feed that is accepted next covers both its runs, and the fixed run does not stop there
  pub record Covered (covers : V → ℤ → Exact → Type 0) : Type 0 where
    pub registers : Each₃ covers (after k s g limits cs h).registers beside.fixed beside.exact
    pub feeds : (row working : ℕ) (u : ℤ) (r : Worked V) → Accepts row working u r → Goes (Related covers) r (fixed_run s g beside u) (exact_run s g beside u)

  -- b: for every sample within X no raw number leaves its word (the strict run is taken, and is the fixed run), and an accepted feed of it is near
  pub record Safe (X : ℕ) (t : Sheet) : Type 0 where
    pub inside : (u : ℤ) → unsigned_abs u ≤ X → (f : Worked ℤ) × (run (strict s) g beside.coefficients beside.fixed u ≡ Ok f) × (fixed_run s g beside u ≡ Ok f)
    pub near : (row working : ℕ) (u : ℤ) (r : Worked V) → unsigned_abs u ≤ X → Accepts row working u r
        → Goes (λ _ f e. Near t.output.ceiling f.output e.output) r (fixed_run s g beside u) (exact_run s g beside u)

  -- b: no sample within X is refused at a node
  abbrev pub Passes : ℕ → Type 0
  Passes X = (row working : ℕ) (u : ℤ) (p : ℕ) (e : Refusal) → unsigned_abs u ≤ X → answer k s g limits (after k s g limits cs h) (feed row working u) ≢ Err (Node p e)

  -- c: what settled means, and the band
  pub record Settles (N : ℕ) (t : Sheet) : Type 0 where
    pub means : (said ≡ Some Settled) ↔ (Quiet (accepted (history k s g limits cs h)) ⊎ Zeros N (accepted (history k s g limits cs h)))
    pub band : (row working : ℕ) (r : Worked V) → said ≡ Some Settled → Accepts row working (pos 0) r
        → (f : Worked ℤ) × (fixed_run s g beside (pos 0) ≡ Ok f) × (unsigned_abs f.output ≤ t.output_band)

-- the limits are those of the sheet
abbrev pub limits_of : ℕ → Sheet → Limits
limits_of X t = record { range = X; count = t.count }

-- a, b and c after the calls h of a channel that was opened
pub record Holds {V : Type 0} (s : FixedArithmetic) (m : KindModel V) (g : Graph) (cs : List ℤ) (limits : Option Limits) (h : List Call) : Type 0 where
  pub a : Covered m.ops s g cs limits h m.covers
  pub b : (X : ℕ) (t : Sheet) → limits ≡ Some (limits_of X t) → Granted s g cs X t
      → (Live (said m.ops s g cs limits h) → Safe m.ops s g cs limits h X t)
      × (Live (said (word_arithmetic s) s g cs limits h) → Passes (word_arithmetic s) s g cs limits h X)
      × (Live (said (enclosed_arithmetic s) s g cs limits h) → Passes (enclosed_arithmetic s) s g cs limits h X)
  pub c : (X : ℕ) (t : Sheet) → limits ≡ Some (limits_of X t) → Granted s g cs X t
      → Live (said m.ops s g cs limits h) → Settles m.ops s g cs limits h t.count t

-- for every wiring and coefficients that pass the check, with or without limits, for every list of calls, after the first n of them
abbrev pub ChannelTheorem : {V : Type 0} → FixedArithmetic → KindModel V → Type 0
ChannelTheorem s m = (g : Graph) (cs : List ℤ) (limits : Option Limits) → program_fault s.format g cs ≡ None
    → (calls : List Call) (n : ℕ) → Holds s m g cs limits (reverse (take n calls))
