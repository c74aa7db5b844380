-- Hexadecimal digits.
use Rattle.std.specs.Prelude.{◌≡◌, ℕ, ◌+◌, ◌/◌, ◌%◌, ◌<◌, cond, Option, MatchOption, ◌≢◌, nat_lt}

-- the character of a digit: 0 to 9, then a to f
abbrev pub digit_char : ℕ → ℕ
digit_char d = cond (nat_lt d 10) (48 + d) (87 + d)

-- the digit that a character writes, or none where it writes none
abbrev pub DigitOf : ℕ → Option ℕ → Type 0
DigitOf b r = MatchOption r ((d : ℕ) → d < 16 → digit_char d ≢ b) (λ d. (d < 16) × (digit_char d ≡ b))

-- two characters write a byte
abbrev pub Writes : ℕ → ℕ → ℕ → Type 0
Writes high low v = (digit_char (v / 16) ≡ high) × (digit_char (v % 16) ≡ low)
