-- The word from what a division down by 2^w leaves over of raw: that itself below half, else one turn less.
use Rattle.std.proofs.Common.{◌≡◌, ℕ, ◌^◌, ◌≤◌, ℤ, pos, ◌+ℤ◌, ◌-ℤ◌, ◌<ℤ◌, ◌≤ℤ◌, arith}
use Rattle.std.proofs.lemmas.Int.{ints}
use Rattle.std.proofs.lemmas.Nat.{pow_pos}
use Rattle.std.specs.Int.Signed.{shr_z}
use Rattle.arithmetic.specs.Words.{half}
use Rattle.arithmetic.specs.Rounding.{remainder}
use Rattle.arithmetic.specs.Overflow.{wrapped}
use Rattle.arithmetic.specs.Divisions.{twice_half, floor_rest, one_more}
use Rattle.arithmetic.specs.Turns.{wrapped_is}

module _ (w : ℕ) (raw : ℤ) (some : 1 ≤ w) where
  abbrev up : ℤ
  up = remainder w raw (shr_z raw (2 ^ w))

  pub low_turn : up <ℤ pos (half w) → wrapped w raw ≡ up
  low_turn k =
      let r = floor_rest (2 ^ w) raw (pow_pos w) in
      wrapped_is w raw up (shr_z raw (2 ^ w)) some (record { low = omega (arith, ints, r.2); high = k }) (omega (arith, ints))

  pub high_turn : pos (half w) ≤ℤ up → wrapped w raw ≡ up -ℤ pos (2 ^ w)
  high_turn k =
      let r = floor_rest (2 ^ w) raw (pow_pos w) in
      let d = twice_half w some in
      wrapped_is w raw (up -ℤ pos (2 ^ w)) (shr_z raw (2 ^ w) +ℤ pos 1) some (record { low = omega (arith, ints); high = omega (arith, ints, r.1, r.2) }) (omega (arith, ints, one_more (2 ^ w) (shr_z raw (2 ^ w))))
