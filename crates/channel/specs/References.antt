-- The two reference runs beside a channel, moved only by each call's arguments and whether it was accepted, and what a list of calls has been.
use Rattle.std.specs.Prelude.{◌≡◌, ℕ, ◌<◌, ◌≤◌, Bool, true, false, List, [], ◌∷◌, length, ℤ, pos, Ok, Err, Result, slice_index_or}
use Rattle.arithmetic.specs.Settings.{FixedArithmetic}
use Rattle.exact.specs.Numbers.{Exact, whole}
use Rattle.kinds.specs.Arithmetics.{fixed, exact}
use Rattle.wiring.specs.declared.faults.RunFault.{RunFault}
use Rattle.wiring.specs.Graphs.{Graph}
use Rattle.wiring.specs.Runs.{Worked, run}
use Rattle.channel.specs.Channels.{Call, feed, swap, hush, Entry, zeros}

-- the coefficients in force, the fixed row and the exact row
pub record Reference : Type 0 where
  pub coefficients : List ℤ
  pub fixed : List ℤ
  pub exact : List Exact

-- each row takes the registers of its run (were one to stop, the rows would stay)
abbrev pub onto : Reference → Result (Worked ℤ) RunFault → Result (Worked Exact) RunFault → Reference
onto b (Ok f) (Ok e) = record { coefficients = b.coefficients; fixed = f.registers; exact = e.registers }
onto b (Ok f) (Err m) = b
onto b (Err n) e = b

module _ (s : FixedArithmetic) (g : Graph) where
  -- the fixed run of a sample from the fixed row, and the exact run from the exact row
  abbrev pub fixed_run : Reference → ℤ → Result (Worked ℤ) RunFault
  fixed_run b u = run (fixed s) g b.coefficients b.fixed u

  abbrev pub exact_run : Reference → ℤ → Result (Worked Exact) RunFault
  exact_run b u = run (exact s) g b.coefficients b.exact u

  -- a refused call changes nothing; a feed moves both rows, a swap puts in its coefficients, a hush zeroes both rows
  abbrev pub noted : Reference → Call → Bool → Reference
  noted b c false = b
  noted b (feed row working u) true = onto b (fixed_run b u) (exact_run b u)
  noted b (swap cs) true = record { coefficients = cs; fixed = b.fixed; exact = b.exact }
  noted b (hush row) true = record { coefficients = b.coefficients; fixed = zeros g (pos 0); exact = zeros g (whole (pos 0)) }

  -- beside a list of calls, told newest first; both rows are zero at open
  unfoldable pub reference : List ℤ → List Entry → Reference
  reference cs [] = record { coefficients = cs; fixed = zeros g (pos 0); exact = zeros g (whole (pos 0)) }
  reference cs (e ∷ h) = noted (reference cs h) e.call e.accepted

-- ---- the accepted calls, newest first
abbrev pub joined : Bool → Call → List Call → List Call
joined true c h = c ∷ h
joined false c h = h

abbrev pub accepted : List Entry → List Call
accepted [] = []
accepted (e ∷ h) = joined e.accepted e.call (accepted h)

-- every sample since the last hush, or since open, was 0
abbrev pub Quiet : List Call → Type 0
Quiet [] = Unit {0}
Quiet (feed row working u ∷ h) = (u ≡ pos 0) × Quiet h
Quiet (swap cs ∷ h) = Quiet h
Quiet (hush row ∷ h) = Unit {0}

abbrev pub FeedsZero : Call → Type 0
FeedsZero (feed row working u) = u ≡ pos 0
FeedsZero (swap cs) = ⊥
FeedsZero (hush row) = ⊥

-- the last N calls each fed 0
abbrev pub Zeros : ℕ → List Call → Type 0
Zeros N h = (N ≤ length h) × ((i : ℕ) → i < N → FeedsZero (slice_index_or h i (hush 0)))
