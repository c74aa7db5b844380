-- An arithmetic: the operations by which a wiring is worked. The fixed run and the exact run are two of them.
use Rattle.std.specs.Prelude.{ℕ, ℤ, pos, ◌+ℤ◌, ◌-ℤ◌, ◌*ℤ◌, Some, None, Option, Ok, Err, Result}
use Rattle.arithmetic.specs.Settings.{FixedArithmetic, fraction, inner_bits}
use Rattle.exact.specs.Numbers.{Exact, whole, ◌⊞◌, ◌⊟◌, scale}
use Rattle.kinds.specs.declared.refusal.Refusal.{Refusal}
use Rattle.kinds.specs.declared.refusal.Refusal.TheVariants.{Overflow, End, Peak, Ceiling}

-- each operation but zero may refuse
pub record Arithmetic (V : Type 0) : Type 0 where
  pub sample : ℤ → Result V Refusal
  pub zero : V
  pub scale : ℤ → V → Result V Refusal
  pub sum : V → V → Result V Refusal
  pub difference : V → V → Result V Refusal

-- the number of each refusal
abbrev pub number : Refusal → ℕ
number Overflow = 18
number End = 19
number Peak = 21
number Ceiling = 22

abbrev pub or_refused : Option ℤ → Result ℤ Refusal
or_refused (Some z) = Ok z
or_refused None = Err Overflow

-- the word that the overflow rule stores for a raw number, refused where the rule stops
abbrev pub stored : FixedArithmetic → ℤ → Result ℤ Refusal
stored s raw = or_refused (s.overflow.store (inner_bits s) raw)

-- p over 2^l, rounded
abbrev pub rounded : FixedArithmetic → ℤ → ℤ
rounded s p = s.rounding.quotient (fraction s) p

-- words, with a choice of what becomes of a raw number: each product is rounded by itself
abbrev pub words : FixedArithmetic → (ℤ → Result ℤ Refusal) → Arithmetic ℤ
words s keep = record {
  sample = λ u. Ok u;
  zero = pos 0;
  scale = λ c v. keep (rounded s (c *ℤ v));
  sum = λ v w. keep (v +ℤ w);
  difference = λ v w. keep (v -ℤ w);
}

-- the fixed run: the overflow rule follows every scale, sum and difference
abbrev pub fixed : FixedArithmetic → Arithmetic ℤ
fixed s = words s (stored s)

-- the exact run: a scale is c times the value over 2^l, and neither rule acts
abbrev pub exact : FixedArithmetic → Arithmetic Exact
exact s = record {
  sample = λ u. Ok (whole u);
  zero = whole (pos 0);
  scale = λ c x. Ok (scale c (fraction s) x);
  sum = λ x y. Ok (x ⊞ y);
  difference = λ x y. Ok (x ⊟ y);
}
