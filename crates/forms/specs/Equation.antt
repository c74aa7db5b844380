-- The difference equation of a filter, by its formula alone, and the outputs of a wiring's exact run, which are held to it.
use Rattle.std.specs.Prelude.{◌≡◌, ℕ, suc, ◌-◌, ◌<◌, cond, List, [], ◌∷◌, map, length, replicate, ℤ, pos, Ok, Result, nat_le, slice_index_or}
use Rattle.arithmetic.specs.Settings.{FixedArithmetic, fraction}
use Rattle.exact.specs.Numbers.{Exact, whole, ◌⊞◌, ◌⊟◌, scale}
use Rattle.kinds.specs.Arithmetics.{exact}
use Rattle.wiring.specs.declared.faults.RunFault.{RunFault}
use Rattle.wiring.specs.Graphs.{Graph}
use Rattle.wiring.specs.Runs.{onward, run}

abbrev pub zero_exact : Exact
zero_exact = whole (pos 0)

-- ---- the equation: a signal is the list of its values, x(0) first
-- x(n - i), zero before the start
abbrev pub delayed : List Exact → ℕ → ℕ → Exact
delayed x n i = cond (nat_le i n) (slice_index_or x (n - i) zero_exact) zero_exact

-- c_0 × x_0 + c_1 × x_1 + .. over all coefficients; a product is c × x / 2^l
unfoldable pub weighted : ℕ → List ℤ → (ℕ → Exact) → Exact
weighted l [] x = zero_exact
weighted l (c ∷ cs) x = scale c l (x 0) ⊞ weighted l cs (λ i. x (suc i))

-- y(n) = sum of b_i × u(n - i) from i = 0 on, minus sum of a_i × y(n - i) from i = 1 on; a_1 is the first entry of a
pub record Solves (l : ℕ) (b a : List ℤ) (u y : List Exact) : Type 0 where
  pub same_length : length y ≡ length u
  pub at_each : (n : ℕ) → n < length u → slice_index_or y n zero_exact ≡ weighted l b (delayed u n) ⊟ weighted l a (λ i. delayed y n (suc i))

-- ---- the outputs of a wiring's exact run
-- one sample after the other, from registers rs; refused where one is refused
unfoldable pub outputs_from : FixedArithmetic → Graph → List ℤ → List Exact → List ℤ → Result (List Exact) RunFault
outputs_from s g cs rs [] = Ok []
outputs_from s g cs rs (u ∷ us) = onward (run (exact s) g cs rs u) (λ w. onward (outputs_from s g cs w.registers us) (λ ys. Ok (w.output ∷ ys)))

-- from rest: all registers zero
abbrev pub outputs : FixedArithmetic → Graph → List ℤ → List ℤ → Result (List Exact) RunFault
outputs s g cs us = outputs_from s g cs (replicate (length g.sources) zero_exact) us

-- under every setting, for every list of samples: none is refused, and the outputs solve the equation
abbrev pub DifferenceEquation : Graph → List ℤ → List ℤ → List ℤ → Type 0
DifferenceEquation g cs b a = (s : FixedArithmetic) (us : List ℤ) → (ys : List Exact) × (outputs s g cs us ≡ Ok ys) × Solves (fraction s) b a (map whole us) ys
