-- What sums, differences and scales do to enclosures.
use Rattle.std.proofs.Common.{◌≡◌, ℕ, ◌+◌, ◌^◌, ◌⊎◌, ℤ, pos, negsuc, ◌+ℤ◌, ◌-ℤ◌, ◌*ℤ◌, neg_ℤ, ◌≤ℤ◌, sym, refl, ap, ◌∙◌, inl, inr, mod-lt, div-add-mod', arith, pow_pos}
use lib.IntN.{neg_ℤ-neg_ℤ, +ℤ_idr}
use lib.Signed.{≤ℤ_refl}
use borrow.Author.Differences.{ints}
use Rattle.std.specs.Int.{int_min, int_max}
use Rattle.std.proofs.lemmas.Int.{clamps}
use Rattle.exact.specs.Numbers.{two, Exact, whole, over, ◌⊞◌, ◌⊟◌, scale, ◌≼◌}
use Rattle.exact.specs.Enclosures.{down_by, up_by, ticks, Encloses, moved, scale_low, scale_high}
use Rattle.exact.proofs.Integers.{+ℤ_mono, neg-*ℤ, neg_mono, *ℤ_one', ring, ≤ℤ_trans, two_mono, two_zero}
use Rattle.exact.proofs.NumberLaws.{sum_over, neg_over, scale_over, le_over, le_sum, le_neg, le_scale, le_scale_neg, le_trans, le_refl, cross, over_stretch}

floor_le : (n : ℤ) (l : ℕ) → (down_by n l *ℤ two l) ≤ℤ n
unfolding two
floor_le (pos n) l = let e = div-add-mod' n (2 ^ l) in omega (arith, ints)
floor_le (negsuc n) l = let e = div-add-mod' n (2 ^ l) in let h = mod-lt n (pow_pos l) in omega (arith, ints)

ceil_ge : (n : ℤ) (l : ℕ) → n ≤ℤ (up_by n l *ℤ two l)
ceil_ge n l = rw (neg-*ℤ) (rw (neg_ℤ-neg_ℤ n) at (neg_mono _ _ (floor_le (neg_ℤ n) l)))

pub whole_is : (z : ℤ) → whole z ≡ over z 0
unfolding over
whole_is z = refl

pub two_12 : two 12 ≡ pos 4096
unfolding two
two_12 = refl

-- v + d ticks, over 4096
pub place : (v d : ℤ) → whole v ⊞ ticks d ≡ over (v *ℤ pos 4096 +ℤ d) 12
place v d = rw (whole_is v, sum_over, two_12, two_zero, *ℤ_one' d)

sum_at : (a b : ℤ) (m : ℕ) → over a m ⊞ over b m ≡ over (a +ℤ b) m
sum_at a b m = rw sum_over (cross _ _ _ _ (simp ring))

difference_at : (a b : ℤ) (m : ℕ) → over a m ⊟ over b m ≡ over (a -ℤ b) m
difference_at a b m = rw neg_over (sum_at a (neg_ℤ b) m)

join : (v d w f s : ℤ) → (whole v ⊞ ticks d) ⊞ (whole w ⊞ ticks f) ≡ whole s ⊞ ticks (d +ℤ f +ℤ moved (v +ℤ w) s)
join v d w f s = simp (place, sum_at) (ap (λ z. over z 12) (omega (arith, ints)))

split : (v d w f s : ℤ) → (whole v ⊞ ticks d) ⊟ (whole w ⊞ ticks f) ≡ whole s ⊞ ticks (d -ℤ f +ℤ moved (v -ℤ w) s)
split v d w f s = rw (place v d, place w f, difference_at) (rw place (ap (λ z. over z 12) (omega (arith, ints))))

module _ (v d e w f g s : ℤ) (x y : Exact) (h : Encloses v d e x) (k : Encloses w f g y) where
  pub sum_encloses : Encloses s (d +ℤ f +ℤ moved (v +ℤ w) s) (e +ℤ g +ℤ moved (v +ℤ w) s) (x ⊞ y)
  sum_encloses = record {
    low = rw (← join v d w f s) (le_sum _ _ _ _ h.low k.low);
    high = rw (← join v e w g s) (le_sum _ _ _ _ h.high k.high);
  }

  pub difference_encloses : Encloses s (d -ℤ g +ℤ moved (v -ℤ w) s) (e -ℤ f +ℤ moved (v -ℤ w) s) (x ⊟ y)
  difference_encloses = record {
    low = rw (← split v d w g s) (le_sum _ _ _ _ h.low (le_neg _ _ k.high));
    high = rw (← split v e w f s) (le_sum _ _ _ _ h.high (le_neg _ _ k.low));
  }

-- ---- scale: c × v = 2^l × q + r
shift : (q t s : ℤ) → whole s ⊞ ticks (t +ℤ moved q s) ≡ over (q *ℤ pos 4096 +ℤ t) 12
shift q t s = rw place (ap (λ z. over z 12) (omega (arith, ints)))

module _ (c v q r : ℤ) (l : ℕ) (p : c *ℤ v ≡ q *ℤ two l +ℤ r) where
  spread : (t : ℤ) → (q *ℤ pos 4096 +ℤ t) *ℤ two l ≡ q *ℤ two l *ℤ pos 4096 +ℤ t *ℤ two l
  spread t = simp ring

  product : (d : ℤ) → c *ℤ (v *ℤ pos 4096 +ℤ d) ≡ c *ℤ v *ℤ pos 4096 +ℤ c *ℤ d
  product d = simp ring

  under : (t d : ℤ) → (t *ℤ two l) ≤ℤ (c *ℤ d +ℤ pos 4096 *ℤ r) → over (q *ℤ pos 4096 +ℤ t) 12 ≼ over (c *ℤ (v *ℤ pos 4096 +ℤ d)) (12 + l)
  under t d h =
      let k : ((q *ℤ pos 4096 +ℤ t) *ℤ two l) ≤ℤ (c *ℤ (v *ℤ pos 4096 +ℤ d)) = rw (spread t, product d) (omega (arith, ints)) in
      (le_over _ _ _ _).1 (simp ring (simp ring at (two_mono 12 _ _ k)))

  above : (t d : ℤ) → (c *ℤ d +ℤ pos 4096 *ℤ r) ≤ℤ (t *ℤ two l) → over (c *ℤ (v *ℤ pos 4096 +ℤ d)) (12 + l) ≼ over (q *ℤ pos 4096 +ℤ t) 12
  above t d h =
      let k : (c *ℤ (v *ℤ pos 4096 +ℤ d)) ≤ℤ ((q *ℤ pos 4096 +ℤ t) *ℤ two l) = rw (spread t, product d) (omega (arith, ints)) in
      (le_over _ _ _ _).1 (simp ring (simp ring at (two_mono 12 _ _ k)))

  scaled : (d : ℤ) → scale c l (whole v ⊞ ticks d) ≡ over (c *ℤ (v *ℤ pos 4096 +ℤ d)) (12 + l)
  scaled d = rw (place, scale_over)

  -- of the two ends the one that gives less
  lowest : (d : ℤ) (x : Exact) → (t : ℤ) → (t *ℤ two l) ≤ℤ (c *ℤ d +ℤ pos 4096 *ℤ r) → scale c l (whole v ⊞ ticks d) ≼ x → over (q *ℤ pos 4096 +ℤ t) 12 ≼ x
  lowest d x t h k = le_trans _ _ _ (under t d h) (rw (scaled d) at k)

  highest : (d : ℤ) (x : Exact) → (t : ℤ) → (c *ℤ d +ℤ pos 4096 *ℤ r) ≤ℤ (t *ℤ two l) → x ≼ scale c l (whole v ⊞ ticks d) → x ≼ over (q *ℤ pos 4096 +ℤ t) 12
  highest d x t h k = le_trans _ _ _ (rw (scaled d) at k) (above t d h)

  low_end : (d e : ℤ) → ((scale_low c l r d e *ℤ two l) ≤ℤ (c *ℤ d +ℤ pos 4096 *ℤ r)) × ((scale_low c l r d e *ℤ two l) ≤ℤ (c *ℤ e +ℤ pos 4096 *ℤ r))
  low_end d e =
      let m = int_min (c *ℤ d) (c *ℤ e) in
      let f = floor_le (m +ℤ pos 4096 *ℤ r) l in
      let a : m ≤ℤ (c *ℤ d) = omega (arith, ints, clamps) in
      let b : m ≤ℤ (c *ℤ e) = omega (arith, ints, clamps) in
      (≤ℤ_trans _ _ _ f (+ℤ_mono _ _ _ _ a (≤ℤ_refl _)), ≤ℤ_trans _ _ _ f (+ℤ_mono _ _ _ _ b (≤ℤ_refl _)))

  high_end : (d e : ℤ) → ((c *ℤ d +ℤ pos 4096 *ℤ r) ≤ℤ (scale_high c l r d e *ℤ two l)) × ((c *ℤ e +ℤ pos 4096 *ℤ r) ≤ℤ (scale_high c l r d e *ℤ two l))
  high_end d e =
      let m = int_max (c *ℤ d) (c *ℤ e) in
      let f = ceil_ge (m +ℤ pos 4096 *ℤ r) l in
      let a : (c *ℤ d) ≤ℤ m = omega (arith, ints, clamps) in
      let b : (c *ℤ e) ≤ℤ m = omega (arith, ints, clamps) in
      (≤ℤ_trans _ _ _ (+ℤ_mono _ _ _ _ a (≤ℤ_refl _)) f, ≤ℤ_trans _ _ _ (+ℤ_mono _ _ _ _ b (≤ℤ_refl _)) f)

-- which end of the operand bounds the result turns on the sign of c
ends : (c : ℤ) (l : ℕ) (x a b : Exact) → a ≼ x → x ≼ b → ((scale c l a ≼ scale c l x) × (scale c l x ≼ scale c l b)) ⊎ ((scale c l b ≼ scale c l x) × (scale c l x ≼ scale c l a))
ends (pos n) l x a b h k = inl (le_scale n l _ _ h, le_scale n l _ _ k)
ends (negsuc n) l x a b h k = inr (le_scale_neg n l _ _ k, le_scale_neg n l _ _ h)

-- any ends that are wide enough do
pub scale_within : (c v q r s d e : ℤ) (l : ℕ) (x : Exact) (lo hi : ℤ) → c *ℤ v ≡ q *ℤ two l +ℤ r → Encloses v d e x
    → ((lo *ℤ two l) ≤ℤ (c *ℤ d +ℤ pos 4096 *ℤ r)) × ((lo *ℤ two l) ≤ℤ (c *ℤ e +ℤ pos 4096 *ℤ r))
    → ((c *ℤ d +ℤ pos 4096 *ℤ r) ≤ℤ (hi *ℤ two l)) × ((c *ℤ e +ℤ pos 4096 *ℤ r) ≤ℤ (hi *ℤ two l))
    → Encloses s (lo +ℤ moved q s) (hi +ℤ moved q s) (scale c l x)
scale_within c v q r s d e l x lo hi p h a b = go (ends c l x _ _ h.low h.high)
  where
    go : ((scale c l (whole v ⊞ ticks d) ≼ scale c l x) × (scale c l x ≼ scale c l (whole v ⊞ ticks e))) ⊎ ((scale c l (whole v ⊞ ticks e) ≼ scale c l x) × (scale c l x ≼ scale c l (whole v ⊞ ticks d)))
        → Encloses s (lo +ℤ moved q s) (hi +ℤ moved q s) (scale c l x)
    go (inl t) = record {
      low = rw (shift q lo s) (lowest c v q r l p d (scale c l x) lo a.0 t.0);
      high = rw (shift q hi s) (highest c v q r l p e (scale c l x) hi b.1 t.1);
    }
    go (inr t) = record {
      low = rw (shift q lo s) (lowest c v q r l p e (scale c l x) lo a.1 t.0);
      high = rw (shift q hi s) (highest c v q r l p d (scale c l x) hi b.0 t.1);
    }

pub scale_encloses : (c v q r s d e : ℤ) (l : ℕ) (x : Exact) → c *ℤ v ≡ q *ℤ two l +ℤ r → Encloses v d e x
    → Encloses s (scale_low c l r d e +ℤ moved q s) (scale_high c l r d e +ℤ moved q s) (scale c l x)
scale_encloses c v q r s d e l x p h = scale_within c v q r s d e l x _ _ p h (low_end c v q r l p d e) (high_end c v q r l p d e)

-- wider ends
pub wider : (v d e lo hi : ℤ) (x : Exact) → lo ≤ℤ d → e ≤ℤ hi → Encloses v d e x → Encloses v lo hi x
wider v d e lo hi x a b h = record {
  low = le_trans _ _ _ (le_sum _ _ _ _ (le_refl _) ((le_over _ _ 12 12).1 (two_mono 12 _ _ a))) h.low;
  high = le_trans _ _ _ h.high (le_sum _ _ _ _ (le_refl _) ((le_over _ _ 12 12).1 (two_mono 12 _ _ b)));
}

pub encloses_self : (u : ℤ) → Encloses u (pos 0) (pos 0) (whole u)
encloses_self u = record { low = rw self (le_refl _); high = rw self (le_refl _) }
  where
    self : whole u ⊞ ticks (pos 0) ≡ whole u
    self = place u (pos 0) ∙ ap (λ z. over z 12) (+ℤ_idr _ ∙ ap (λ z. u *ℤ z) (sym two_12)) ∙ over_stretch u 0 12 ∙ sym (whole_is u)
