-- Closed boxes, the least of them, and how rounds with input 0 lower its peaks to the band.
use Rattle.std.specs.Prelude.{◌≡◌, ℕ, zero, suc, ◌-◌, ◌<◌, ◌≤◌, List, map, ℤ, Ok, Err, slice_index}
use Rattle.arithmetic.specs.Words.{half}
use Rattle.arithmetic.specs.Settings.{FixedArithmetic, bits}
use Rattle.kinds.specs.declared.refusal.Refusal.{Refusal}
use Rattle.kinds.specs.declared.values.Bound.{Bound}
use Rattle.wiring.specs.declared.faults.RunFault.TheVariants.{Node as AtNode}
use Rattle.wiring.specs.Graphs.{Graph}
use Rattle.wiring.specs.Lists.{Each₂}
use Rattle.wiring.specs.Runs.{Worked}
use Rattle.sheet.specs.Rounds.{round, nth_box, quiet_round}

-- neither part of a is more than that of b
pub record Below (a b : Bound) : Type 0 where
  pub peak : a.peak ≤ b.peak
  pub ceiling : a.ceiling ≤ b.ceiling

-- what a sheet holds: the box, the output's peak and ceiling in the round from it, the count N, the band and the output band
pub record Sheet : Type 0 where
  pub box : List Bound
  pub output : Bound
  pub count : ℕ
  pub band : List ℕ
  pub output_band : ℕ

module _ (s : FixedArithmetic) (g : Graph) (cs : List ℤ) where
  -- a box is closed for X: the round from it with input (X, 0) is taken at every node, and no register's source has more than that register's entry
  pub record Closed (X : ℕ) (box : List Bound) : Type 0 where
    pub made : Worked Bound
    pub is_taken : round s g cs X box ≡ Ok made
    pub within : Each₂ Below made.registers box

  -- n rounds with input 0 each lower an entry of the peaks, and one more lowers none: the last box is the band, and the output band is the
  -- output peak of that one more round
  pub data Falls : List ℕ → ℕ → List ℕ → ℕ → Type 0 where
    rests : {peaks : List ℕ} (r : Worked ℕ) → quiet_round s g cs peaks ≡ Ok r → Each₂ ◌≤◌ peaks r.registers → Falls peaks zero peaks r.output
    lowers : {peaks band : List ℕ} {n top : ℕ} (r : Worked ℕ) → quiet_round s g cs peaks ≡ Ok r → (i : ℕ) → slice_index r.registers i < slice_index peaks i
        → Falls r.registers n band top → Falls peaks (suc n) band top

  -- a sheet is granted for X: its box is closed, met in rounds from zero, and every entry of it is at most that of every other closed box;
  -- the output figures are those of the round from it, the count and the band those of the rounds with input 0
  pub record Granted (X : ℕ) (t : Sheet) : Type 0 where
    pub range : X ≤ half (bits s) - 1
    pub closed : Closed X t.box
    pub least : (other : List Bound) → Closed X other → Each₂ Below t.box other
    pub met : (n : ℕ) × (nth_box s g cs X n ≡ Ok t.box)
    pub output_is : t.output ≡ closed.made.output
    pub falls : Falls (map (λ b. b.peak) t.box) t.count t.band t.output_band

  -- no box is closed for X, and node k with the refusal e is the first met in rounds from zero
  pub record Nowhere (X k : ℕ) (e : Refusal) : Type 0 where
    pub none : (box : List Bound) → Closed X box → ⊥
    pub first_met : (n : ℕ) × (nth_box s g cs X n ≡ Err (AtNode k e))
