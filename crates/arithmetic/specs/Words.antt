-- Words: the whole numbers that a number of bits holds in two's complement.
use Rattle.std.specs.Prelude.{ℕ, ◌-◌, ◌^◌, Bool, ◌&&◌, ℤ, pos, neg_ℤ, ◌≤ℤ◌, ◌<ℤ◌, int_le, int_lt}

-- half of the numbers of w bits: 2^(w-1)
abbrev pub half : ℕ → ℕ
half w = 2 ^ (w - 1)

-- a quarter of the words: 2^(w-2)
abbrev pub quarter : ℕ → ℕ
quarter w = 2 ^ (w - 2)

-- z is a word of w bits: from -2^(w-1) to 2^(w-1) - 1
pub record Inside (w : ℕ) (z : ℤ) : Type 0 where
  pub low : neg_ℤ (pos (half w)) ≤ℤ z
  pub high : z <ℤ pos (half w)

-- the same as a test
abbrev pub inside : ℕ → ℤ → Bool
inside w z = int_le (neg_ℤ (pos (half w))) z && int_lt z (pos (half w))
