-- Rounding rules: how a whole number is divided by a power of two.
use Rattle.std.specs.Prelude.{◌≡◌, ℕ, ◌+◌, ◌-◌, ◌*◌, ◌/◌, ◌^◌, ◌≤◌, ℤ, pos, ◌+ℤ◌, ◌-ℤ◌, ◌*ℤ◌, int_div, unsigned_abs}
use Rattle.std.specs.Int.Signed.{shr_z}

-- a rule, by its functions: the quotient of p over 2^l; its share, in ticks (1/4096 of a step), of the error that one
-- division may make; and its reach, the largest magnitude that a quotient of numbers up to m may have
pub record RoundingRule : Type 0 where
  pub quotient : ℕ → ℤ → ℤ
  pub share : ℕ
  pub reach : ℕ → ℕ → ℕ

-- what is left of p where q is the quotient
abbrev pub remainder : ℕ → ℤ → ℤ → ℤ
remainder l p q = p -ℤ (pos (2 ^ l) *ℤ q)

-- the quotient with its remainder
abbrev pub divided : RoundingRule → ℕ → ℤ → ℤ × ℤ
divided r l p = (r.quotient l p, remainder l p (r.quotient l p))

-- the laws of a rounding rule, for l that a format may have
pub record LawfulRounding (r : RoundingRule) : Type 0 where
  pub remainder_small : (l : ℕ) (p : ℤ) → 1 ≤ l → l ≤ 23 → 4096 * unsigned_abs (remainder l p (r.quotient l p)) ≤ r.share * 2 ^ l
  pub share_small : r.share ≤ 4096
  pub quotient_reached : (l m : ℕ) (p : ℤ) → 1 ≤ l → l ≤ 23 → unsigned_abs p ≤ m → unsigned_abs (r.quotient l p) ≤ r.reach l m
  pub reach_rises : (l m n : ℕ) → 1 ≤ l → l ≤ 23 → m ≤ n → r.reach l m ≤ r.reach l n
  pub reach_zero : (l : ℕ) → 1 ≤ l → l ≤ 23 → r.reach l 0 ≡ 0

-- n / 2^l, up
abbrev pub up_part : ℕ → ℕ → ℕ
up_part n l = (n + (2 ^ l - 1)) / 2 ^ l

-- down: the largest whole number that is not above p / 2^l
abbrev pub floor : RoundingRule
floor = record {
  quotient = λ l p. shr_z p (2 ^ l);
  share = 4096;
  reach = λ l m. up_part m l;
}

-- to the nearest whole number, halves up
abbrev pub nearest : RoundingRule
nearest = record {
  quotient = λ l p. shr_z (p +ℤ pos (2 ^ (l - 1))) (2 ^ l);
  share = 2048;
  reach = λ l m. (m + 2 ^ (l - 1)) / 2 ^ l;
}

-- toward zero: the fraction is dropped
abbrev pub toward_zero : RoundingRule
toward_zero = record {
  quotient = λ l p. int_div p (pos (2 ^ l));
  share = 4096;
  reach = λ l m. m / 2 ^ l;
}
