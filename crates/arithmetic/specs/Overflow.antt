-- Overflow rules: what becomes of a raw number that no word holds.
use Rattle.std.specs.Prelude.{◌≡◌, ℕ, ◌^◌, ◌≤◌, cond, ℤ, pos, ◌+ℤ◌, ◌-ℤ◌, neg_ℤ, Some, None, Option}
use Rattle.std.specs.Int.{int_max, int_min, int_rem_euclid}
use Rattle.arithmetic.specs.Words.{half, Inside, inside}

-- a rule, by its function: the word that is stored for a raw number at a width; none where the run stops
pub record OverflowRule : Type 0 where
  pub store : ℕ → ℤ → Option ℤ

-- the laws of an overflow rule, at every width from 8 up: it answers words, and a raw number inside the word comes back as it was
pub record LawfulOverflow (o : OverflowRule) : Type 0 where
  pub answers_words : (w : ℕ) (raw z : ℤ) → 8 ≤ w → o.store w raw ≡ Some z → Inside w z
  pub keeps_words : (w : ℕ) (raw : ℤ) → 8 ≤ w → Inside w raw → o.store w raw ≡ Some raw

-- the word that lies a whole number of turns of 2^w from the raw number
abbrev pub wrapped : ℕ → ℤ → ℤ
wrapped w raw = int_rem_euclid (raw +ℤ pos (half w)) (pos (2 ^ w)) -ℤ pos (half w)

abbrev pub wrap : OverflowRule
wrap = record { store = λ w raw. Some (wrapped w raw) }

-- the nearer end of the word
abbrev pub clamped : ℕ → ℤ → ℤ
clamped w raw = int_max (neg_ℤ (pos (half w))) (int_min raw (pos (half w) -ℤ pos 1))

abbrev pub saturate : OverflowRule
saturate = record { store = λ w raw. Some (clamped w raw) }

-- a raw number outside the word stops the run
abbrev pub stop : OverflowRule
stop = record { store = λ w raw. cond (inside w raw) (Some raw) None }
