-- A run that is taken over a kind of value covers the fixed run and the exact run.
use Rattle.std.specs.Prelude.{◌≡◌, List, ℤ, Ok}
use Rattle.arithmetic.specs.Settings.{FixedArithmetic, WordOf}
use Rattle.exact.specs.Numbers.{Exact}
use Rattle.kinds.specs.Arithmetics.{fixed, exact}
use Rattle.kinds.specs.Kinds.{KindModel, Goes}
use Rattle.wiring.specs.Lists.{All, Each₂, Each₃}
use Rattle.wiring.specs.Graphs.{Graph}
use Rattle.wiring.specs.Runs.{Worked, run}

-- every node's value, the output and every register
pub record Related {A B C : Type 0} (R : A → B → C → Type 0) (a : Worked A) (b : Worked B) (c : Worked C) : Type 0 where
  pub values : Each₃ R a.values b.values c.values
  pub output : R a.output b.output c.output
  pub registers : Each₃ R a.registers b.registers c.registers

-- the value covers the pair, and the pair's fixed number is a word
abbrev pub CoversWord : {V : Type 0} → FixedArithmetic → KindModel V → V → ℤ → Exact → Type 0
CoversWord s m v w x = m.covers v w x × WordOf s w

-- From registers that cover a fixed row and an exact row: where the run over the kind is taken, the fixed run does not stop,
-- and every node's value, the output and every new register covers the pair at its place in the two runs.
-- The exact run has a coefficient list of its own, equal place by place to the kind's.
abbrev pub RunCovers : {V : Type 0} → FixedArithmetic → KindModel V → Type 0
RunCovers {V} s m = (g : Graph) (cs ds : List ℤ) → All (WordOf s) cs → Each₂ ◌≡◌ cs ds
    → (rs : List V) (fs : List ℤ) (xs : List Exact) → Each₃ (CoversWord s m) rs fs xs
    → (u : ℤ) → WordOf s u → (r : Worked V) → run m.ops g cs rs u ≡ Ok r
    → Goes (Related (CoversWord s m)) r (run (fixed s) g cs fs u) (run (exact s) g ds xs u)
