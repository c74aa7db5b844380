-- The numbers of a line.
use Rattle.std.specs.Prelude.{◌≡◌, ℕ, List, ℤ, Some, None, vec_items, Option, Vec, FitsSigned, ◌≢◌, slice_index}
use Rattle.std.specs.Int.{w32}
use Rattle.std.specs.Str.Parse.{IsNumeral, without_leading_sign, signed_digits_value}
use Rattle.std.specs.declared.alloc.Global.{Global}
use Rattle.wiring.specs.Lists.{Each₂}

-- decimal digits, with a minus before them or not, and no plus; 32 bits hold the number
abbrev pub Plain : List ℕ → Type 0
Plain bs = (slice_index bs 0 ≢ 43) × IsNumeral 10 (without_leading_sign bs) × FitsSigned w32 (signed_digits_value 10 bs)

-- a text writes this number
abbrev pub Writes : List ℕ → ℤ → Type 0
Writes bs z = Plain bs × (z ≡ signed_digits_value 10 bs)

-- the number that a text writes, or none where it writes none
abbrev pub NumberOf : List ℕ → Option ℤ → Type 0
NumberOf bs (Some z) = Writes bs z
NumberOf bs None = Plain bs → ⊥

-- the numbers that texts write, in order, or none where one of them writes none
abbrev pub NumbersOf : List (List ℕ) → Option (Vec ℤ Global) → Type 0
NumbersOf ts (Some v) = Each₂ Writes ts (vec_items v)
NumbersOf ts None = (zs : List ℤ) → Each₂ Writes ts zs → ⊥
