-- The worked figures, by computation.
use Rattle.std.proofs.Common.{◌≡◌, ℕ, zero, suc, ◌*◌, [], ◌∷◌, replicate, pos, Ok, refl, ap, arith}
use Rattle.arithmetic.specs.Rounding.{floor, toward_zero}
use Rattle.arithmetic.specs.Overflow.{wrap}
use Rattle.arithmetic.specs.Settings.{Lawful}
use Rattle.arithmetic.specs.RuleLaws.{floor_lawful, toward_zero_lawful, wrap_lawful}
use Rattle.kinds.specs.declared.values.Bound.{Bound}
use Rattle.kinds.specs.Arithmetics.{fixed}
use Rattle.kinds.specs.Bounds.{bound_of}
use Rattle.wiring.specs.Lists.{none₂, more₂}
use Rattle.wiring.specs.Runs.{Worked, run, work, onward}
use Rattle.sheet.specs.Rounds.{nth_box}
use Rattle.sheet.specs.Sheets.{Falls, rests, lowers}
use Rattle.figures.specs.Panel.{setting, panel, damped, undamped, put_first, play}
use Rattle.figures.specs.Figures.{WorkedFigures}
use Rattle.figures.proofs.Rounds.{granted_at, nowhere_at}

idle_tone : (n : ℕ) → play (fixed (setting floor wrap)) panel damped (pos 1 ∷ []) (replicate n (pos 0)) ≡ Ok (record { outputs = replicate n (pos 1); registers = pos 1 ∷ [] })
unfolding play run work
idle_tone zero = refl
idle_tone (suc n) = ap (λ p. onward p (λ q. Ok (put_first (pos 1) q))) (idle_tone n)

-- ---- rounds of the panel
zero_lawful : Lawful (setting toward_zero wrap)
zero_lawful = record { rounding = toward_zero_lawful; overflow = wrap_lawful }

down_lawful : Lawful (setting floor wrap)
down_lawful = record { rounding = floor_lawful; overflow = wrap_lawful }

-- with input 64: what the register holds, its product, the output
abbrev loud : Bound → Bound → Bound → Worked Bound
loud held back out = record { values = bound_of 64 0 ∷ held ∷ bound_of 32 4096 ∷ back ∷ out ∷ []; output = out; registers = out ∷ [] }

-- with input 0: the peaks of the register and of its product
abbrev quiet : ℕ → ℕ → Worked ℕ
quiet held back = record { values = 0 ∷ held ∷ 0 ∷ back ∷ back ∷ []; output = back; registers = back ∷ [] }

falls_toward_zero : Falls (setting toward_zero wrap) panel damped (63 ∷ []) 6 (0 ∷ []) 0
unfolding run work
falls_toward_zero =
    lowers (quiet 63 31) refl 0 (omega arith)
    (lowers (quiet 31 15) refl 0 (omega arith)
    (lowers (quiet 15 7) refl 0 (omega arith)
    (lowers (quiet 7 3) refl 0 (omega arith)
    (lowers (quiet 3 1) refl 0 (omega arith)
    (lowers (quiet 1 0) refl 0 (omega arith)
    (rests (quiet 0 0) refl (more₂ (omega arith) none₂)))))))

falls_down : Falls (setting floor wrap) panel damped (64 ∷ []) 6 (1 ∷ []) 1
unfolding run work
falls_down =
    lowers (quiet 64 32) refl 0 (omega arith)
    (lowers (quiet 32 16) refl 0 (omega arith)
    (lowers (quiet 16 8) refl 0 (omega arith)
    (lowers (quiet 8 4) refl 0 (omega arith)
    (lowers (quiet 4 2) refl 0 (omega arith)
    (lowers (quiet 2 1) refl 0 (omega arith)
    (rests (quiet 1 1) refl (more₂ (omega arith) none₂)))))))

-- the panel's box is met in 15 rounds from zero; without damping each round adds 1 to the peak and 8,192 to the ceiling, and the 128th refuses
pub worked : WorkedFigures
unfolding play run work nth_box
worked = record {
  product_down = refl;
  negative_down = refl;
  negative_toward_zero = refl;
  negative_nearest = refl;
  half_nearest = refl;
  negative_half_nearest = refl;
  saturated_sum = λ r. refl;
  wrapped_sum = λ r. refl;
  stopped_sum = λ r. (refl, refl);
  panel_wiring = refl;
  decay = refl;
  idle_tone = idle_tone;
  sheet_toward_zero =
      granted_at (setting toward_zero wrap) zero_lawful panel damped 64 15 _ (loud (bound_of 63 16384) (bound_of 31 12288) (bound_of 63 16384)) (omega arith) refl refl
      (more₂ (record { peak = omega arith; ceiling = omega arith }) none₂) refl falls_toward_zero;
  sheet_down =
      granted_at (setting floor wrap) down_lawful panel damped 64 15 _ (loud (bound_of 64 16384) (bound_of 32 12288) (bound_of 64 16384)) (omega arith) refl refl
      (more₂ (record { peak = omega arith; ceiling = omega arith }) none₂) refl falls_down;
  sheet_undamped = (nowhere_at (setting toward_zero wrap) zero_lawful panel undamped 1 127 (bound_of 127 (127 * 8192) ∷ []) _ _ refl refl, refl);
}
