-- The channel theorem, on the entries of a log.
use Rattle.std.specs.Prelude.{◌≡◌, ℕ, suc, ◌≤◌, ◌⊎◌, ◌↔◌, List, length, ℤ, pos, Some, Ok, vec_items, Option, unsigned_abs}
use Rattle.arithmetic.specs.Settings.{FixedArithmetic}
use Rattle.exact.specs.Numbers.{Exact}
use Rattle.kinds.specs.Arithmetics.{Arithmetic}
use Rattle.kinds.specs.Kinds.{KindModel, Goes}
use Rattle.kinds.specs.Words.{word_arithmetic}
use Rattle.kinds.specs.Enclosures.{enclosed_arithmetic}
use Rattle.kinds.specs.Bounds.{Near}
use Rattle.wiring.specs.Graphs.{Graph}
use Rattle.wiring.specs.Lists.{Each₃}
use Rattle.wiring.specs.Runs.{Worked, run}
use Rattle.sheet.specs.Sheets.{Sheet, Granted}
use Rattle.channel.specs.declared.state.State.TheVariants.{Settled}
use Rattle.channel.specs.declared.state.Limits.{Limits}
use Rattle.channel.specs.Watches.{Live}
use Rattle.channel.specs.Channels.{Call, feed}
use Rattle.channel.specs.References.{Reference, fixed_run, exact_run, reference, accepted, Quiet, Zeros}
use Rattle.channel.specs.Theorem.{strict, said, Passes, limits_of}
use Rattle.replay.specs.declared.log.Entry.{Entry}
use Rattle.replay.specs.Log.{place, earlier, past, Heard, heard}

module _ {V : Type 0} (s : FixedArithmetic) (m : KindModel V) (g : Graph) (cs : List ℤ) (limits : Option Limits) (calls : List Call) (log : List (Entry V)) where
  -- the reference runs after the first i calls, moved by their arguments and by whether the log says that they were accepted
  abbrev pub beside : ℕ → Reference
  beside i = reference s g cs (past calls log i)

  -- the next call after the first i feeds u, and its entry tells of an accepted feed
  pub record Feeds (i : ℕ) (u : ℤ) (h : Heard V) : Type 0 where
    pub row : ℕ
    pub working : ℕ
    pub entry : Entry V
    pub call_is : place calls i ≡ Some (feed row working u)
    pub entry_is : place log (suc i) ≡ Some entry
    pub told_is : heard entry.told ≡ Some h

  -- the output and every node's value cover the pair at their place in the two runs
  abbrev pub CoversRun : Heard V → Worked ℤ → Worked Exact → Type 0
  CoversRun h f x = m.covers h.output f.output x.output × Each₃ m.covers h.nodes f.values x.values

  -- a: each register value covers the pair at its place in the two rows; where the next call is an accepted feed, the fixed run does not stop,
  -- and the output and every node's value cover the pair at their place in the two runs
  pub record Covered (i : ℕ) (e : Entry V) : Type 0 where
    pub registers : Each₃ m.covers (vec_items e.registers) (beside i).fixed (beside i).exact
    pub feeds : (u : ℤ) (h : Heard V) → Feeds i u h → Goes CoversRun h (fixed_run s g (beside i) u) (exact_run s g (beside i) u)

  -- b: fed with any sample within X from the fixed row, no raw number leaves its word (the strict run is taken, and is the fixed run);
  -- where that feed is the next call and is accepted, the fixed output is near the exact one
  pub record Safe (i : ℕ) (X : ℕ) (t : Sheet) : Type 0 where
    pub inside : (u : ℤ) → unsigned_abs u ≤ X → (f : Worked ℤ) × (run (strict s) g (beside i).coefficients (beside i).fixed u ≡ Ok f) × (fixed_run s g (beside i) u ≡ Ok f)
    pub near : (u : ℤ) (h : Heard V) → unsigned_abs u ≤ X → Feeds i u h → Goes (λ _ f x. Near t.output.ceiling f.output x.output) h (fixed_run s g (beside i) u) (exact_run s g (beside i) u)

  -- b: a channel over this arithmetic after the same calls refuses no sample within X at a node, while its own watch is neither spoilt nor lapsed
  abbrev pub Passing : {W : Type 0} → Arithmetic W → ℕ → ℕ → Type 0
  Passing k i X = Live (said k s g cs limits (earlier calls i)) → Passes k s g cs limits (earlier calls i) X

  -- c: settled exactly when all accepted samples since open or the last accepted hush were 0, or the last N accepted calls fed 0;
  -- where the next call is an accepted 0 that finds it settled, the fixed output is within the band
  pub record Settles (i : ℕ) (e : Entry V) (t : Sheet) : Type 0 where
    pub means : (e.watch ≡ Some Settled) ↔ (Quiet (accepted (past calls log i)) ⊎ Zeros t.count (accepted (past calls log i)))
    pub band : (h : Heard V) → e.watch ≡ Some Settled → Feeds i (pos 0) h → (f : Worked ℤ) × (fixed_run s g (beside i) (pos 0) ≡ Ok f) × (unsigned_abs f.output ≤ t.output_band)

  -- a, b and c of the entry e after the first i calls; b and c for every range X and sheet t that is granted, where the limits are theirs
  pub record HoldsAt (i : ℕ) (e : Entry V) : Type 0 where
    pub a : Covered i e
    pub b : (X : ℕ) (t : Sheet) → limits ≡ Some (limits_of X t) → Granted s g cs X t
        → (Live e.watch → Safe i X t) × Passing (word_arithmetic s) i X × Passing (enclosed_arithmetic s) i X
    pub c : (X : ℕ) (t : Sheet) → limits ≡ Some (limits_of X t) → Granted s g cs X t → Live e.watch → Settles i e t

  -- one entry for open and one for each call, and each of them keeps a, b and c
  pub record LogTheorem : Type 0 where
    pub entries : length log ≡ suc (length calls)
    pub each : (i : ℕ) (e : Entry V) → place log i ≡ Some e → HoldsAt i e
