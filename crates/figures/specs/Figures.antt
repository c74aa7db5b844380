-- Worked figures, all in format 4.4.
use Rattle.std.specs.Prelude.{◌≡◌, ℕ, [], ◌∷◌, replicate, ℤ, pos, ◌*ℤ◌, Ok, Err, Result}
use Rattle.arithmetic.specs.Rounding.{RoundingRule, divided, floor, nearest, toward_zero}
use Rattle.arithmetic.specs.Overflow.{OverflowRule, wrap, saturate, stop}
use Rattle.kinds.specs.declared.refusal.Refusal.{Refusal}
use Rattle.kinds.specs.declared.refusal.Refusal.TheVariants.{Overflow, Peak}
use Rattle.kinds.specs.declared.values.Enclosed.{Enclosed}
use Rattle.kinds.specs.Arithmetics.{number, fixed}
use Rattle.kinds.specs.Enclosures.{enclosed_of, enclosed_arithmetic}
use Rattle.kinds.specs.Bounds.{bound_of}
use Rattle.wiring.specs.declared.graph.Node.TheVariants.{Input, Register, Scale, Difference}
use Rattle.sheet.specs.Sheets.{Granted, Nowhere}
use Rattle.figures.specs.Panel.{minus, four_four, setting, panel, damped, undamped, play, play_from_rest}

-- quotient and remainder over 16
abbrev pub over_16 : RoundingRule → ℤ → ℤ × ℤ
over_16 r p = divided r four_four.fraction p

-- a word whose exact number is the word itself: both ends are 0
abbrev pub sharp : ℤ → Enclosed
sharp w = enclosed_of w (pos 0) (pos 0)

abbrev pub sum_of_hundreds : RoundingRule → OverflowRule → Result Enclosed Refusal
sum_of_hundreds r o = (enclosed_arithmetic (setting r o)).sum (sharp (pos 100)) (sharp (pos 100))

pub record WorkedFigures : Type 0 where
  -- ---- rounding
  -- 35 / 16: down 2, and 3 is left
  pub product_down : over_16 floor (pos 5 *ℤ pos 7) ≡ (pos 2, pos 3)
  -- -35 / 16: down -3, and 13 is left; toward zero and to the nearest -2, and -3 is left
  pub negative_down : over_16 floor (minus 5 *ℤ pos 7) ≡ (minus 3, pos 13)
  pub negative_toward_zero : over_16 toward_zero (minus 5 *ℤ pos 7) ≡ (minus 2, minus 3)
  pub negative_nearest : over_16 nearest (minus 5 *ℤ pos 7) ≡ (minus 2, minus 3)
  -- halves go up: 8 / 16 to 1, and -8 / 16 to 0
  pub half_nearest : over_16 nearest (pos 8) ≡ (pos 1, minus 8)
  pub negative_half_nearest : over_16 nearest (minus 8) ≡ (pos 0, minus 8)
  -- ---- overflow: 100 + 100, where the largest word is 127
  -- saturated: 127, and the exact sum is 73 steps above it, 299,008 ticks
  pub saturated_sum : (r : RoundingRule) → sum_of_hundreds r saturate ≡ Ok (enclosed_of (pos 127) (pos 299008) (pos 299008))
  -- wrapped: -56, and the exact sum is 256 steps above it, 1,048,576 ticks
  pub wrapped_sum : (r : RoundingRule) → sum_of_hundreds r wrap ≡ Ok (enclosed_of (minus 56) (pos 1048576) (pos 1048576))
  -- stopped: refused by 18
  pub stopped_sum : (r : RoundingRule) → (sum_of_hundreds r stop ≡ Err Overflow) × (number Overflow ≡ 18)
  -- ---- the panel
  -- its nodes: the input, the register, the input times b0, the register times a1, their difference, which is the output and the register's source
  pub panel_wiring : panel ≡ record { nodes = Input ∷ Register 0 ∷ Scale 0 0 ∷ Scale 1 1 ∷ Difference 2 3 ∷ []; coefficients = 2; output = 4; sources = 4 ∷ [] }
  -- toward zero, from rest, fed 64 and then six zeros: the outputs halve without error to 1, and the last drops a half of a step, 2,048 ticks
  pub decay :
      play_from_rest (enclosed_arithmetic (setting toward_zero wrap)) panel damped (pos 64 ∷ replicate 6 (pos 0))
      ≡ Ok (record {
        outputs = sharp (pos 32) ∷ sharp (pos 16) ∷ sharp (pos 8) ∷ sharp (pos 4) ∷ sharp (pos 2) ∷ sharp (pos 1) ∷ enclosed_of (pos 0) (pos 2048) (pos 2048) ∷ [];
        registers = enclosed_of (pos 0) (pos 2048) (pos 2048) ∷ [];
      })
  -- rounding down, from a register that holds 1, fed n zeros, for every n: each output is 1, and the register still holds 1
  pub idle_tone : (n : ℕ) → play (fixed (setting floor wrap)) panel damped (pos 1 ∷ []) (replicate n (pos 0)) ≡ Ok (record { outputs = replicate n (pos 1); registers = pos 1 ∷ [] })
  -- ---- sheets
  -- samples from -64 to 64, toward zero: output peak 63, output ceiling 16,384, N = 6, output band 0
  pub sheet_toward_zero : Granted (setting toward_zero wrap) panel damped 64 (record { box = bound_of 63 16384 ∷ []; output = bound_of 63 16384; count = 6; band = 0 ∷ []; output_band = 0 })
  -- the same, rounding down: output peak 64, output ceiling 16,384, N = 6, output band 1
  pub sheet_down : Granted (setting floor wrap) panel damped 64 (record { box = bound_of 64 16384 ∷ []; output = bound_of 64 16384; count = 6; band = 1 ∷ []; output_band = 1 })
  -- without damping, samples from -1 to 1, toward zero: no box is closed, and the first refusal is 21 at node 4, the output
  pub sheet_undamped : Nowhere (setting toward_zero wrap) panel undamped 1 4 Peak × (number Peak ≡ 21)
