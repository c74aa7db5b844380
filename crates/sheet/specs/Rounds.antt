-- Rounds: a wiring worked over bounds, from a box that gives each register a peak and a ceiling.
use Rattle.std.specs.Prelude.{ℕ, zero, suc, ◌+◌, cond, List, map, ℤ, pos, Ok, Err, Result, nat_le, unsigned_abs}
use Rattle.arithmetic.specs.Settings.{FixedArithmetic}
use Rattle.kinds.specs.declared.refusal.Refusal.{Refusal}
use Rattle.kinds.specs.declared.refusal.Refusal.TheVariants.{Peak}
use Rattle.kinds.specs.declared.values.Bound.{Bound}
use Rattle.kinds.specs.Arithmetics.{Arithmetic}
use Rattle.kinds.specs.Bounds.{bound_of, bound_arithmetic, peak_limit, scaled_peak}
use Rattle.wiring.specs.declared.faults.RunFault.{RunFault}
use Rattle.wiring.specs.Graphs.{Graph}
use Rattle.wiring.specs.Runs.{Worked, run, onward}

-- the bound arithmetic with its ceilings left out
abbrev pub fitting_peak : FixedArithmetic → ℕ → Result ℕ Refusal
fitting_peak s p = cond (nat_le p (peak_limit s)) (Ok p) (Err Peak)

abbrev pub peak_arithmetic : FixedArithmetic → Arithmetic ℕ
peak_arithmetic s = record {
  sample = λ u. fitting_peak s (unsigned_abs u);
  zero = 0;
  scale = λ c p. fitting_peak s (scaled_peak s c p);
  sum = λ p q. fitting_peak s (p + q);
  difference = λ p q. fitting_peak s (p + q);
}

abbrev pub new_registers : {V E : Type 0} → Result (Worked V) E → Result (List V) E
new_registers (Ok r) = Ok r.registers
new_registers (Err e) = Err e

module _ (s : FixedArithmetic) (g : Graph) (cs : List ℤ) where
  -- a round from a box with the input (X, 0)
  abbrev pub round : ℕ → List Bound → Result (Worked Bound) RunFault
  round X box = run (bound_arithmetic s) g cs box (pos X)

  -- the box after n rounds from zero, each from the whole box that the one before left
  unfoldable pub nth_box : ℕ → ℕ → Result (List Bound) RunFault
  nth_box X zero = Ok (map (λ _. bound_of 0 0) g.sources)
  nth_box X (suc n) = onward (nth_box X n) (λ box. new_registers (round X box))

  -- a round with input 0, ceilings left out
  abbrev pub quiet_round : List ℕ → Result (Worked ℕ) RunFault
  quiet_round peaks = run (peak_arithmetic s) g cs peaks (pos 0)
