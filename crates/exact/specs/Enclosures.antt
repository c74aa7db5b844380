-- Enclosures: an exact number between two ends, counted in ticks (1/4096 of a step) from a word.
use Rattle.std.specs.Prelude.{ℕ, ◌^◌, ℤ, pos, ◌+ℤ◌, ◌-ℤ◌, ◌*ℤ◌, neg_ℤ}
use Rattle.std.specs.Int.Signed.{shr_z}
use Rattle.std.specs.Int.{int_min, int_max}
use Rattle.exact.specs.Numbers.{Exact, whole, over, ◌⊞◌, ◌≼◌}

-- n / 2^l, down and up
abbrev pub down_by : ℤ → ℕ → ℤ
down_by n l = shr_z n (2 ^ l)

abbrev pub up_by : ℤ → ℕ → ℤ
up_by n l = neg_ℤ (shr_z (neg_ℤ n) (2 ^ l))

-- d ticks
abbrev pub ticks : ℤ → Exact
ticks d = over d 12

-- x lies from v + d ticks to v + e ticks
pub record Encloses (v d e : ℤ) (x : Exact) : Type 0 where
  pub low : (whole v ⊞ ticks d) ≼ x
  pub high : x ≼ (whole v ⊞ ticks e)

-- how far the overflow rule moved the word, in ticks
abbrev pub moved : ℤ → ℤ → ℤ
moved raw stored = pos 4096 *ℤ (raw -ℤ stored)

-- the ends of c × x / 2^l, where x lies from d to e ticks around a word v, and c × v = 2^l × q + r: counted from q
abbrev pub scale_low : ℤ → ℕ → ℤ → ℤ → ℤ → ℤ
scale_low c l r d e = down_by (int_min (c *ℤ d) (c *ℤ e) +ℤ pos 4096 *ℤ r) l

abbrev pub scale_high : ℤ → ℕ → ℤ → ℤ → ℤ → ℤ
scale_high c l r d e = up_by (int_max (c *ℤ d) (c *ℤ e) +ℤ pos 4096 *ℤ r) l
