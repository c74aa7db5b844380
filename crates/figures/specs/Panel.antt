-- Format 4.4 and the panel, a filter of one register.
use Rattle.std.specs.Prelude.{ℕ, List, [], ◌∷◌, map, ℤ, pos, neg_ℤ, Ok, Result}
use Rattle.std.proofs.Common.{arith}
use Rattle.arithmetic.specs.declared.format.Format.{Format}
use Rattle.arithmetic.specs.Rounding.{RoundingRule}
use Rattle.arithmetic.specs.Overflow.{OverflowRule}
use Rattle.arithmetic.specs.Settings.{FixedArithmetic}
use Rattle.kinds.specs.Arithmetics.{Arithmetic}
use Rattle.wiring.specs.declared.faults.RunFault.{RunFault}
use Rattle.wiring.specs.Graphs.{Graph}
use Rattle.wiring.specs.Runs.{run, onward}
use Rattle.forms.specs.declared.form.Form.TheVariants.{Direct1}
use Rattle.forms.specs.Forms.{form_graph}

-- -n
abbrev pub minus : ℕ → ℤ
minus n = neg_ℤ (pos n)

-- 4 whole bits and 4 fraction bits: words from -128 to 127, and 2^l is 16
abbrev pub four_four : Format
four_four = record { whole = 4; fraction = 4; sound = omega arith }

abbrev pub setting : RoundingRule → OverflowRule → FixedArithmetic
setting r o = record { format = four_four; rounding = r; overflow = o }

-- direct form 1 with b0 and a1: y(n) = b0 × u(n) - a1 × y(n - 1)
abbrev pub panel : Graph
panel = form_graph Direct1 1 1

-- b0 = 8, a1 = -8: half of the input plus half of the output before
abbrev pub damped : List ℤ
damped = pos 8 ∷ minus 8 ∷ []

-- b0 = 16, a1 = -16: all of the input plus all of the output before
abbrev pub undamped : List ℤ
undamped = pos 16 ∷ minus 16 ∷ []

-- what a wiring makes of samples that it is fed in turn: its outputs, the first sample's first, and its registers at the end
pub record Played (V : Type 0) : Type 0 where
  pub outputs : List V
  pub registers : List V

abbrev pub put_first : {V : Type 0} → V → Played V → Played V
put_first y p = record { outputs = y ∷ p.outputs; registers = p.registers }

module _ {V : Type 0} (k : Arithmetic V) (g : Graph) (cs : List ℤ) where
  -- each run starts from the registers that the one before left
  unfoldable pub play : List V → List ℤ → Result (Played V) RunFault
  play rs [] = Ok (record { outputs = []; registers = rs })
  play rs (u ∷ us) = onward (run k g cs rs u) (λ w. onward (play w.registers us) (λ p. Ok (put_first w.output p)))

  -- from rest: every register holds zero
  abbrev pub play_from_rest : List ℤ → Result (Played V) RunFault
  play_from_rest us = play (map (λ _. k.zero) g.sources) us
