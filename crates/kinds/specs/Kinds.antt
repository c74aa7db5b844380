-- Kinds of value: an arithmetic whose values each cover pairs of a fixed word and an exact number.
use Rattle.std.specs.Prelude.{◌≡◌, ℤ, pos, Ok, Result}
use Rattle.arithmetic.specs.declared.setting.FixedPoint.{FixedPoint}
use Rattle.arithmetic.specs.Rounding.{RoundingRule}
use Rattle.arithmetic.specs.Overflow.{OverflowRule}
use Rattle.arithmetic.specs.Settings.{FixedArithmetic, WordOf, meaning}
use Rattle.exact.specs.Numbers.{Exact, whole}
use Rattle.kinds.specs.declared.values.Values.{Values}
use Rattle.kinds.specs.Arithmetics.{Arithmetic, fixed, exact}

-- a kind under a setting: its arithmetic, and which pairs (fixed word, exact number) a value covers
pub record KindModel (V : Type 0) : Type 1 where
  pub ops : Arithmetic V
  pub covers : V → ℤ → Exact → Type 0

-- both x and y are taken, and a is related to what they come to
pub record Goes {A B C E : Type 0} (R : A → B → C → Type 0) (a : A) (x : Result B E) (y : Result C E) : Type 0 where
  pub left : B
  pub right : C
  pub left_is : x ≡ Ok left
  pub right_is : y ≡ Ok right
  pub related : R a left right

-- the operation is taken
abbrev pub Taken : {A E : Type 0} → Result A E → Type 0
Taken {A} r = (a : A) × (r ≡ Ok a)

-- The laws of a kind. They are owed at samples, coefficients and fixed numbers that are words of the format.
-- The value of a sample u covers (u, u), and zero covers (0, 0). Where operands cover two pairs and an operation is taken,
-- the fixed operation does not stop, and the result covers the results of both runs.
-- Sample 0 and operations on the kind's own zero are taken.
pub record LawfulKind {V : Type 0} (s : FixedArithmetic) (m : KindModel V) : Type 0 where
  pub sample_covers : (u : ℤ) → WordOf s u → (v : V) → m.ops.sample u ≡ Ok v → m.covers v u (whole u)
  pub zero_covers : m.covers m.ops.zero (pos 0) (whole (pos 0))
  pub scale_covers : (c : ℤ) → WordOf s c → (v : V) (w : ℤ) (x : Exact) → WordOf s w → m.covers v w x
      → (r : V) → m.ops.scale c v ≡ Ok r → Goes m.covers r ((fixed s).scale c w) ((exact s).scale c x)
  pub sum_covers : (v v' : V) (w w' : ℤ) (x x' : Exact) → WordOf s w → WordOf s w' → m.covers v w x → m.covers v' w' x'
      → (r : V) → m.ops.sum v v' ≡ Ok r → Goes m.covers r ((fixed s).sum w w') ((exact s).sum x x')
  pub difference_covers : (v v' : V) (w w' : ℤ) (x x' : Exact) → WordOf s w → WordOf s w' → m.covers v w x → m.covers v' w' x'
      → (r : V) → m.ops.difference v v' ≡ Ok r → Goes m.covers r ((fixed s).difference w w') ((exact s).difference x x')
  pub sample_taken : Taken (m.ops.sample (pos 0))
  pub scale_taken : (c : ℤ) → WordOf s c → Taken (m.ops.scale c m.ops.zero)
  pub sum_taken : Taken (m.ops.sum m.ops.zero m.ops.zero)
  pub difference_taken : Taken (m.ops.difference m.ops.zero m.ops.zero)

-- a kind's arithmetic under a setting of the code
abbrev pub arithmetic : {K V R O : Type 0} → (K → FixedArithmetic → KindModel V) → (R → RoundingRule) → (O → OverflowRule) → K → FixedPoint R O → Arithmetic V
arithmetic m r o k s = (m k (meaning r o s)).ops

-- the arithmetic of a kind of value under its setting
abbrev pub arithmetic_of : {K V R O : Type 0} → (K → FixedArithmetic → KindModel V) → (R → RoundingRule) → (O → OverflowRule) → Values K R O → Arithmetic V
arithmetic_of m r o v = arithmetic m r o v.kind v.setting

-- the arithmetic of the words of its setting
abbrev pub words_of : {K R O : Type 0} → (R → RoundingRule) → (O → OverflowRule) → Values K R O → FixedArithmetic
words_of r o v = meaning r o v.setting
