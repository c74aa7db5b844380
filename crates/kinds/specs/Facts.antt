-- Tests, words and magnitudes.
use Rattle.std.specs.Prelude.{◌≡◌, ℕ, suc, ◌+◌, ◌-◌, ◌*◌, ◌/◌, ◌^◌, ◌<◌, ◌≤◌, Bool, true, false, ◌&&◌, T, ℤ, pos, negsuc, ◌+ℤ◌, ◌-ℤ◌, ◌*ℤ◌, neg_ℤ, ◌≤ℤ◌, Ok, Result, nat_le, unsigned_abs, refl}
use Rattle.std.proofs.Common.{arith, div-add-mod', mod-lt, mul-le-mul_left, div-lt_iff_lt-mul, leb→le, le→leb, pow_pos}
use Rattle.std.specs.Int.Signed.{le_z_yes, lt_z_yes, shr_z}
use Rattle.std.specs.Int.{int_min, int_max}
use Rattle.std.proofs.lemmas.Int.{clamps, ints}
use Rattle.arithmetic.specs.Words.{half, Inside, inside}
use Rattle.arithmetic.specs.Rounding.{up_part}
use Rattle.arithmetic.specs.Settings.{FixedArithmetic, fraction}
use Rattle.exact.specs.Numbers.{two}
use Rattle.exact.specs.Enclosures.{moved, down_by, up_by, scale_low, scale_high}
use Rattle.exact.proofs.Integers.{neg-*ℤ, *ℤ_neg}

-- ---- tests
pub true_of : (b : Bool) → T b → b ≡ true
true_of true t = refl
true_of false t = absurd t

pub of_true : (b : Bool) → b ≡ true → T b
of_true b e = rw e tt

pub and_yes : (a b : Bool) → a ≡ true → b ≡ true → (a && b) ≡ true
and_yes a b p q = rw (p, q)

pub and_out : (a b : Bool) → (a && b) ≡ true → (a ≡ true) × (b ≡ true)
and_out true b e = (refl, e)
and_out false b e = absurd (let z : ◌≡◌ {A = ℕ} 0 1 = cc in omega arith)

pub leb_yes : (a b : ℕ) → a ≤ b → nat_le a b ≡ true
leb_yes a b h = true_of _ (le→leb a b h)

pub leb_out : (a b : ℕ) → nat_le a b ≡ true → a ≤ b
leb_out a b e = leb→le a b (of_true _ e)

-- what is taken is what it is taken for
pub only : {A E : Type 0} (a b : A) → ◌≡◌ {A = Result A E} (Ok a) (Ok b) → a ≡ b
only a b e = cc

-- ---- words
pub inside_yes : (w : ℕ) (z : ℤ) → Inside w z → inside w z ≡ true
inside_yes w z h = and_yes _ _ (true_of _ h.low.le) (true_of _ h.high.lt)

pub inside_out : (w : ℕ) (z : ℤ) → inside w z ≡ true → Inside w z
inside_out w z e = let t = and_out _ _ e in record { low = le_z_yes (of_true _ t.0); high = lt_z_yes (of_true _ t.1) }

pub small_inside : (w : ℕ) (z : ℤ) → unsigned_abs z ≤ half w - 1 → Inside w z
small_inside w z h = let p = pow_pos (w - 1) in record { low = omega (arith, ints); high = omega (arith, ints) }

pub zero_inside : (w : ℕ) → Inside w (pos 0)
zero_inside w = small_inside w (pos 0) (omega arith)

-- ---- a format's fraction bits
pub fraction_least : (s : FixedArithmetic) → 1 ≤ fraction s
fraction_least s = s.format.sound.1

pub fraction_most : (s : FixedArithmetic) → fraction s ≤ 23
fraction_most s = let a = s.format.sound in omega arith

-- ---- magnitudes
pub abs_neg : (z : ℤ) → unsigned_abs (neg_ℤ z) ≡ unsigned_abs z
abs_neg z = omega (arith, ints)

pub abs_mul : (a b : ℤ) → unsigned_abs (a *ℤ b) ≡ unsigned_abs a * unsigned_abs b
abs_mul (pos a) (pos b) = refl
abs_mul (pos a) (negsuc b) = abs_neg (pos (a * suc b))
abs_mul (negsuc a) (pos b) = abs_neg (pos (suc a * b))
abs_mul (negsuc a) (negsuc b) = refl

pub abs_sum : (a b : ℤ) (m n : ℕ) → unsigned_abs a ≤ m → unsigned_abs b ≤ n → unsigned_abs (a +ℤ b) ≤ m + n
abs_sum a b m n h k = omega (arith, ints)

pub abs_difference : (a b : ℤ) (m n : ℕ) → unsigned_abs a ≤ m → unsigned_abs b ≤ n → unsigned_abs (a -ℤ b) ≤ m + n
abs_difference a b m n h k = omega (arith, ints)

pub abs_scaled : (c d : ℤ) (m : ℕ) → unsigned_abs d ≤ m → unsigned_abs (c *ℤ d) ≤ unsigned_abs c * m
abs_scaled c d m h = rw (abs_mul c d) (mul-le-mul_left (unsigned_abs c) h)

-- n / 2^l, up
pub up_part_ge : (n l : ℕ) → n ≤ up_part n l * 2 ^ l
up_part_ge n l =
    let e = div-add-mod' (n + (2 ^ l - 1)) (2 ^ l) in
    let h = mod-lt (n + (2 ^ l - 1)) (pow_pos l) in
    omega arith

pub up_part_rises : (m n l : ℕ) → m ≤ n → up_part m l ≤ up_part n l
up_part_rises m n l h =
    let p = pow_pos l in
    let e = div-add-mod' (n + (2 ^ l - 1)) (2 ^ l) in
    let r = mod-lt (n + (2 ^ l - 1)) p in
    let t : up_part m l < suc (up_part n l) = (div-lt_iff_lt-mul p).1 (omega arith) in
    omega arith

pub up_part_zero : (l : ℕ) → up_part 0 l ≡ 0
up_part_zero l =
    let p = pow_pos l in
    let t : up_part 0 l < 1 = (div-lt_iff_lt-mul p).1 (omega arith) in
    omega arith

-- ---- ends
-- a word stored as it is moves no end
pub still : (t q : ℤ) → t +ℤ moved q q ≡ t
still t q = omega (arith, ints)

pub down_within : (n : ℤ) (k l : ℕ) → unsigned_abs n ≤ k * 2 ^ l → unsigned_abs (down_by n l) ≤ k
down_within (pos a) k l h =
    let p = pow_pos l in
    let t : a / 2 ^ l < suc k = (div-lt_iff_lt-mul p).1 (omega arith) in
    omega arith
down_within (negsuc a) k l h = (div-lt_iff_lt-mul (pow_pos l)).1 h

pub up_within : (n : ℤ) (k l : ℕ) → unsigned_abs n ≤ k * 2 ^ l → unsigned_abs (up_by n l) ≤ k
up_within n k l h = rw (abs_neg (shr_z (neg_ℤ n) (2 ^ l))) (down_within (neg_ℤ n) k l (rw (abs_neg n) h))

pub abs_min : (a b r : ℤ) (n : ℕ) → unsigned_abs a ≤ n → unsigned_abs b ≤ n → unsigned_abs (int_min a b +ℤ pos 4096 *ℤ r) ≤ n + 4096 * unsigned_abs r
abs_min a b r n h k = omega (arith, ints, clamps)

pub abs_max : (a b r : ℤ) (n : ℕ) → unsigned_abs a ≤ n → unsigned_abs b ≤ n → unsigned_abs (int_max a b +ℤ pos 4096 *ℤ r) ≤ n + 4096 * unsigned_abs r
abs_max a b r n h k = omega (arith, ints, clamps)

module _ (c r d e : ℤ) (m k l : ℕ) (h : unsigned_abs d ≤ m) (j : unsigned_abs e ≤ m) (t : unsigned_abs c * m + 4096 * unsigned_abs r ≤ k * 2 ^ l) where
  pub low_within : unsigned_abs (scale_low c l r d e) ≤ k
  low_within = down_within (int_min (c *ℤ d) (c *ℤ e) +ℤ pos 4096 *ℤ r) k l (let a = abs_min (c *ℤ d) (c *ℤ e) r (unsigned_abs c * m) (abs_scaled c d m h) (abs_scaled c e m j) in omega arith)

  pub high_within : unsigned_abs (scale_high c l r d e) ≤ k
  high_within = up_within (int_max (c *ℤ d) (c *ℤ e) +ℤ pos 4096 *ℤ r) k l (let a = abs_max (c *ℤ d) (c *ℤ e) r (unsigned_abs c * m) (abs_scaled c d m h) (abs_scaled c e m j) in omega arith)

-- ends k either side are wide enough for c × ±n / 2^l with the remainder r
pub wide : (c r : ℤ) (n k l : ℕ) → unsigned_abs c * n + 4096 * unsigned_abs r ≤ k * 2 ^ l
    → (((neg_ℤ (pos k) *ℤ two l) ≤ℤ (c *ℤ neg_ℤ (pos n) +ℤ pos 4096 *ℤ r)) × ((neg_ℤ (pos k) *ℤ two l) ≤ℤ (c *ℤ pos n +ℤ pos 4096 *ℤ r)))
    × (((c *ℤ neg_ℤ (pos n) +ℤ pos 4096 *ℤ r) ≤ℤ (pos k *ℤ two l)) × ((c *ℤ pos n +ℤ pos 4096 *ℤ r) ≤ℤ (pos k *ℤ two l)))
unfolding two
wide (pos c) r n k l h = rw (neg-*ℤ (pos k), *ℤ_neg (pos c) (pos n)) (omega (arith, ints))
wide (negsuc c) r n k l h = rw (neg-*ℤ (pos k), *ℤ_neg (negsuc c) (pos n)) (omega (arith, ints))
