-- Laws of the exact numbers.
use Rattle.std.proofs.Common.{◌≡◌, ℕ, zero, suc, ◌+◌, Bool, true, false, ◌↔◌, ℤ, pos, negsuc, ◌+ℤ◌, ◌*ℤ◌, neg_ℤ, ◌≤ℤ◌, sym, refl, ap, ◌∙◌, subst, ap₂, subst₂, add-zero, add-suc, add_comm, arith}
use mathlib.Core.Path.{subst₃}
use lib.IntN.{+ℤ_invr, +ℤ_idl, zero-*ℤ}
use lib.Signed.{≤ℤ_refl}
use borrow.Author.Differences.{ints}
use Rattle.exact.specs.Numbers.{two, Exact, whole, part, num, exp, odd, half, given, over, ◌⊞◌, ◌⊟◌, neg, scale, ◌≼◌}
use Rattle.exact.proofs.Integers.{one-*ℤ, two_mono, two_cancel, ≤ℤ_trans, ≤ℤ_antisym, +ℤ_mono, neg_mono, *ℤ_mono, *ℤ_mono_neg, two_zero, two_suc, *ℤ_one', ring, *ℤ_distl}

double_odd : (h : ℤ) → odd (h +ℤ h) ≡ false
double_odd (pos n) = grind arith
double_odd (negsuc n) = grind arith

double_half : (h : ℤ) → half (h +ℤ h) ≡ h
double_half (pos n) = ap pos (omega arith)
double_half (negsuc n) = ap negsuc (omega arith)

odd_is : (z : ℤ) → odd z ≡ true → z ≡ half z +ℤ half z +ℤ pos 1
odd_is (pos n) e = grind (arith, ints)
odd_is (negsuc n) e = grind (arith, ints)

even_is : (z : ℤ) → odd z ≡ false → z ≡ half z +ℤ half z
even_is (pos n) e = grind (arith, ints)
even_is (negsuc n) e = grind (arith, ints)

minus : (n : ℕ) → negsuc n +ℤ negsuc n +ℤ pos 1 ≡ negsuc (n + n)
minus n = omega (arith, ints)

odd_odd : (h : ℤ) → odd (h +ℤ h +ℤ pos 1) ≡ true
odd_odd (pos n) = grind arith
odd_odd (negsuc n) = rw (minus n) (grind arith)

odd_half : (h : ℤ) → half (h +ℤ h +ℤ pos 1) ≡ h
odd_half (pos n) = ap pos (omega arith)
odd_half (negsuc n) = rw (minus n) (ap negsuc (omega arith))

-- ---- lowest terms
over_double : (a : ℤ) (n : ℕ) → over (a +ℤ a) (suc n) ≡ over a n
unfolding over
over_double a n = rw (double_odd a, double_half a)

pub over_stretch : (a : ℤ) (m k : ℕ) → over (a *ℤ two k) (m + k) ≡ over a m
over_stretch a m zero = rw (two_zero, *ℤ_one' a, add-zero)
over_stretch a m (suc k) = rw (add-suc, two_suc, *ℤ_distl a (two k) (two k), over_double) (over_stretch a m k)

pub cross : (a b : ℤ) (m n : ℕ) → a *ℤ two n ≡ b *ℤ two m → over a m ≡ over b n
cross a b m n e = sym (over_stretch a m n) ∙ ap₂ over e (add_comm m n) ∙ over_stretch b n m

-- a / 2^n is x, before it is brought to lowest terms
record From (a : ℤ) (n : ℕ) (x : Exact) : Type 0 where
  by : ℕ
  num_is : a ≡ num x *ℤ two by
  exp_is : n ≡ exp x + by

from_over : (a : ℤ) (n : ℕ) → From a n (over a n)
unfolding over
from_over a zero = record { by = 0; num_is = rw (two_zero, *ℤ_one' a); exp_is = omega arith }
from_over a (suc n) = go (odd a) refl (from_over (half a) n)
  where
    go : (b : Bool) → odd a ≡ b → From (half a) n (over (half a) n) → From a (suc n) (given b (part (half a) n) (over (half a) n))
    go true e f = record { by = 0; num_is = odd_is a e ∙ sym (rw (two_zero) (*ℤ_one' _)); exp_is = omega arith }
    go false e f = record { by = suc f.by; num_is = even_is a e ∙ ap₂ ◌+ℤ◌ f.num_is f.num_is ∙ sym (rw two_suc (*ℤ_distl (num (over (half a) n)) (two f.by) (two f.by))); exp_is = omega (arith, f.exp_is) }

pub eta : (x : Exact) → over (num x) (exp x) ≡ x
unfolding over
eta (whole z) = refl
eta (part h n) = rw (odd_odd h, odd_half h)

sum_from : (a b : ℤ) (m n : ℕ) (x y : Exact) → From a m x → From b n y → x ⊞ y ≡ over (a *ℤ two n +ℤ b *ℤ two m) (m + n)
unfolding ◌⊞◌
sum_from a b m n x y f g = cross _ _ _ _ (simp (f.num_is, f.exp_is, g.num_is, g.exp_is, ring))

pub sum_over : (a b : ℤ) (m n : ℕ) → over a m ⊞ over b n ≡ over (a *ℤ two n +ℤ b *ℤ two m) (m + n)
sum_over a b m n = sum_from a b m n (over a m) (over b n) (from_over a m) (from_over b n)

neg_from : (a : ℤ) (m : ℕ) (x : Exact) → From a m x → neg x ≡ over (neg_ℤ a) m
unfolding neg
neg_from a m x f = cross _ _ _ _ (simp (f.num_is, f.exp_is, ring))

pub neg_over : (a : ℤ) (m : ℕ) → neg (over a m) ≡ over (neg_ℤ a) m
neg_over a m = neg_from a m (over a m) (from_over a m)

scale_from : (c : ℤ) (l : ℕ) (a : ℤ) (m : ℕ) (x : Exact) → From a m x → scale c l x ≡ over (c *ℤ a) (m + l)
unfolding scale
scale_from c l a m x f = cross _ _ _ _ (simp (f.num_is, f.exp_is, ring))

pub scale_over : (c : ℤ) (l : ℕ) (a : ℤ) (m : ℕ) → scale c l (over a m) ≡ over (c *ℤ a) (m + l)
scale_over c l a m = scale_from c l a m (over a m) (from_over a m)

-- ---- the laws
-- what holds of every a / 2^m holds of every exact number
pub each {ℓ} : (P : Exact → Type ℓ) → ((a : ℤ) (m : ℕ) → P (over a m)) → (x : Exact) → P x
each P h x = subst P (eta x) (h (num x) (exp x))

pub each₂ {ℓ} : (P : Exact → Exact → Type ℓ) → ((a : ℤ) (m : ℕ) (b : ℤ) (n : ℕ) → P (over a m) (over b n)) → (x y : Exact) → P x y
each₂ P h x y = subst₂ P (eta x) (eta y) (h (num x) (exp x) (num y) (exp y))

ruleset overs = (sum_over, neg_over, scale_over)

pub sum_comm : (x y : Exact) → x ⊞ y ≡ y ⊞ x
sum_comm = each₂ (λ x y. x ⊞ y ≡ y ⊞ x) (λ a m b n. simp overs (cross _ _ _ _ (simp ring)))

pub sum_assoc : (x y z : Exact) → x ⊞ y ⊞ z ≡ x ⊞ (y ⊞ z)
sum_assoc x y z = subst₃ (λ x y z. x ⊞ y ⊞ z ≡ x ⊞ (y ⊞ z)) (eta x) (eta y) (eta z) (simp overs (cross _ _ _ _ (simp ring)))

pub sum_zero : (x : Exact) → x ⊞ over (pos 0) 0 ≡ x
sum_zero = each (λ x. x ⊞ over (pos 0) 0 ≡ x) (λ a m. simp overs (cross _ _ _ _ (simp (ring, zero-*ℤ, +ℤ_idl, two_zero, one-*ℤ))))

pub sum_neg : (x : Exact) → x ⊞ neg x ≡ over (pos 0) 0
sum_neg = each (λ x. x ⊞ neg x ≡ over (pos 0) 0) (λ a m. simp overs (cross _ _ _ _ (simp (ring, +ℤ_invr, zero-*ℤ, two_zero))))

pub scale_sum : (c : ℤ) (l : ℕ) (x y : Exact) → scale c l (x ⊞ y) ≡ scale c l x ⊞ scale c l y
scale_sum c l = each₂ (λ x y. scale c l (x ⊞ y) ≡ scale c l x ⊞ scale c l y) (λ a m b n. simp overs (cross _ _ _ _ (simp ring)))

pub scale_neg : (c : ℤ) (l : ℕ) (x : Exact) → scale c l (neg x) ≡ neg (scale c l x)
scale_neg c l = each (λ x. scale c l (neg x) ≡ neg (scale c l x)) (λ a m. simp overs (cross _ _ _ _ (simp ring)))

pub scale_difference : (c : ℤ) (l : ℕ) (x y : Exact) → scale c l (x ⊟ y) ≡ scale c l x ⊟ scale c l y
scale_difference c l x y = scale_sum c l x (neg y) ∙ ap (λ z. scale c l x ⊞ z) (scale_neg c l y)

pub scale_scale : (c d : ℤ) (l k : ℕ) (x : Exact) → scale c l (scale d k x) ≡ scale (c *ℤ d) (l + k) x
scale_scale c d l k = each (λ x. scale c l (scale d k x) ≡ scale (c *ℤ d) (l + k) x) (λ a m. simp overs (cross _ _ _ _ (simp ring)))

pub scale_comm : (c d : ℤ) (l k : ℕ) (x : Exact) → scale c l (scale d k x) ≡ scale d k (scale c l x)
scale_comm c d l k = each (λ x. scale c l (scale d k x) ≡ scale d k (scale c l x)) (λ a m. simp overs (cross _ _ _ _ (simp ring)))

pub neg_neg : (x : Exact) → neg (neg x) ≡ x
neg_neg = each (λ x. neg (neg x) ≡ x) (λ a m. simp overs (simp ring))

pub neg_sum : (x y : Exact) → neg (x ⊞ y) ≡ neg x ⊞ neg y
neg_sum = each₂ (λ x y. neg (x ⊞ y) ≡ neg x ⊞ neg y) (λ a m b n. simp overs (cross _ _ _ _ (simp ring)))

-- ---- the order
le_from : (a b : ℤ) (m n : ℕ) (x y : Exact) → From a m x → From b n y → (x ≼ y) ↔ ((a *ℤ two n) ≤ℤ (b *ℤ two m))
le_from a b m n x y f g =
    let e : a *ℤ two n ≡ num x *ℤ two (exp y) *ℤ two (f.by + g.by) = simp (f.num_is, g.exp_is, ring) in
    let d : b *ℤ two m ≡ num y *ℤ two (exp x) *ℤ two (f.by + g.by) = simp (g.num_is, f.exp_is, ring) in
    (λ h. rw (e, d) (two_mono _ _ _ h.at_most), λ h. record { at_most = two_cancel (f.by + g.by) _ _ (rw (e, d) at h) })

pub le_over : (a b : ℤ) (m n : ℕ) → (over a m ≼ over b n) ↔ ((a *ℤ two n) ≤ℤ (b *ℤ two m))
le_over a b m n = le_from a b m n (over a m) (over b n) (from_over a m) (from_over b n)

pub at_wholes : (a b : ℤ) → (whole a ≼ whole b) ↔ (a ≤ℤ b)
at_wholes a b = (λ h. two_cancel 0 a b h.at_most, λ h. record { at_most = two_mono 0 a b h })

pub le_refl : (x : Exact) → x ≼ x
le_refl x = record { at_most = ≤ℤ_refl _ }

le_trans_over : (a b c : ℤ) (m n k : ℕ) → over a m ≼ over b n → over b n ≼ over c k → over a m ≼ over c k
le_trans_over a b c m n k h j =
    let p = two_mono k _ _ ((le_over a b m n).0 h) in
    let q = two_mono m _ _ ((le_over b c n k).0 j) in
    let e : b *ℤ two m *ℤ two k ≡ b *ℤ two k *ℤ two m = simp ring in
    (le_over a c m k).1 (two_cancel n _ _ (simp ring (simp ring at (≤ℤ_trans _ _ _ p (rw (sym e) at q)))))

pub le_trans : (x y z : Exact) → x ≼ y → y ≼ z → x ≼ z
le_trans x y z = subst₃ (λ x y z. x ≼ y → y ≼ z → x ≼ z) (eta x) (eta y) (eta z) (le_trans_over _ _ _ _ _ _)

pub le_antisym : (x y : Exact) → x ≼ y → y ≼ x → x ≡ y
le_antisym x y h k = sym (eta x) ∙ cross _ _ _ _ (≤ℤ_antisym _ _ h.at_most k.at_most) ∙ eta y

le_sum_over : (a b c d : ℤ) (m n p q : ℕ) → over a m ≼ over b n → over c p ≼ over d q → (over a m ⊞ over c p) ≼ (over b n ⊞ over d q)
le_sum_over a b c d m n p q h k =
    let u = two_mono (p + q) _ _ ((le_over a b m n).0 h) in
    let v = two_mono (m + n) _ _ ((le_over c d p q).0 k) in
    simp sum_over ((le_over _ _ _ _).1 (simp ring (simp ring at (+ℤ_mono _ _ _ _ u v))))

pub le_sum : (x y u v : Exact) → x ≼ y → u ≼ v → (x ⊞ u) ≼ (y ⊞ v)
le_sum x y u v = subst₂ (λ x y. x ≼ y → u ≼ v → (x ⊞ u) ≼ (y ⊞ v)) (eta x) (eta y)
    (subst₂ (λ u v. over (num x) (exp x) ≼ over (num y) (exp y) → u ≼ v → (over (num x) (exp x) ⊞ u) ≼ (over (num y) (exp y) ⊞ v)) (eta u) (eta v) (le_sum_over _ _ _ _ _ _ _ _))

pub le_neg : (x y : Exact) → x ≼ y → neg y ≼ neg x
le_neg = each₂ (λ x y. x ≼ y → neg y ≼ neg x) (λ a m b n h. simp neg_over ((le_over _ _ _ _).1 (simp ring (neg_mono _ _ ((le_over a b m n).0 h)))))

pub le_scale : (c : ℕ) (l : ℕ) (x y : Exact) → x ≼ y → scale (pos c) l x ≼ scale (pos c) l y
le_scale c l = each₂ (λ x y. x ≼ y → scale (pos c) l x ≼ scale (pos c) l y)
    (λ a m b n h. simp scale_over ((le_over _ _ _ _).1 (simp ring (simp ring at (*ℤ_mono c _ _ (two_mono l _ _ ((le_over a b m n).0 h)))))))

pub le_scale_neg : (c : ℕ) (l : ℕ) (x y : Exact) → x ≼ y → scale (negsuc c) l y ≼ scale (negsuc c) l x
le_scale_neg c l = each₂ (λ x y. x ≼ y → scale (negsuc c) l y ≼ scale (negsuc c) l x)
    (λ a m b n h. simp scale_over ((le_over _ _ _ _).1 (simp ring (simp ring at (*ℤ_mono_neg c _ _ (two_mono l _ _ ((le_over a b m n).0 h)))))))

-- ---- the same with 0 as a whole number
pub sum_none : (x : Exact) → x ⊞ whole (pos 0) ≡ x
unfolding over
sum_none = sum_zero

pub sum_neg_none : (x : Exact) → x ⊞ neg x ≡ whole (pos 0)
unfolding over
sum_neg_none = sum_neg
