-- The bound kind keeps its laws.
use Rattle.std.specs.Prelude.{◌≡◌, ℕ, ◌+◌, ◌*◌, ◌^◌, ◌≤◌, ℤ, pos, ◌+ℤ◌, ◌-ℤ◌, ◌*ℤ◌, neg_ℤ, Ok, Result, unsigned_abs, refl}
use Rattle.std.proofs.Common.{ap, ◌∙◌, arith, mul-zero}
use Rattle.std.proofs.lemmas.Int.{ints}
use Rattle.arithmetic.specs.Rounding.{remainder, up_part}
use Rattle.arithmetic.specs.Settings.{FixedArithmetic, Lawful, fraction, inner_bits}
use Rattle.exact.specs.Numbers.{Exact, whole, two, scale, ◌⊞◌, ◌⊟◌}
use Rattle.exact.proofs.EnclosureLaws.{encloses_self, sum_encloses, difference_encloses, scale_within, wider}
use Rattle.kinds.specs.declared.refusal.Refusal.{Refusal}
use Rattle.kinds.specs.declared.values.Bound.{Bound}
use Rattle.kinds.specs.Arithmetics.{or_refused, stored, rounded, words, exact}
use Rattle.kinds.specs.Kinds.{Goes, Taken, LawfulKind}
use Rattle.kinds.specs.Bounds.{bound_of, peak_limit, fitting, scaled_peak, scaled_ceiling, bound_arithmetic, Near, BoundCovers, bound_kind}
use Rattle.kinds.specs.Facts.{small_inside, fraction_least, fraction_most, abs_scaled, abs_sum, abs_difference, up_part_ge, up_part_zero, still, wide}
use Rattle.kinds.specs.Parts.{fitting_is, fits}

-- p is its quotient times 2^l, plus the remainder
pub divided_is : (s : FixedArithmetic) (p : ℤ) → p ≡ rounded s p *ℤ two (fraction s) +ℤ remainder (fraction s) p (rounded s p)
unfolding two
divided_is s p = omega (arith, ints)

-- a larger peak and a larger ceiling cover as much
pub covers_more : (v : Bound) (p m : ℕ) (w : ℤ) (x : Exact) → unsigned_abs w ≤ p → Near m w x → v.peak ≡ p → v.ceiling ≡ m → BoundCovers v w x
covers_more v p m w x h n e f = record { magnitude = rw e h; near = rw f n }

module _ (s : FixedArithmetic) (law : Lawful s) where
  -- a raw number of magnitude up to the largest word is stored as it is
  pub small_stored : (raw : ℤ) → unsigned_abs raw ≤ peak_limit s → stored s raw ≡ Ok raw
  small_stored raw h = ap or_refused (law.overflow.keeps_words (inner_bits s) raw s.format.sound.2 (small_inside (inner_bits s) raw h))

  -- and so is one within a peak that is taken
  pub fitted_stored : (raw : ℤ) (p m : ℕ) (b : Bound) → unsigned_abs raw ≤ p → fitting s p m ≡ Ok b → stored s raw ≡ Ok raw
  fitted_stored raw p m b h e = let l = (fitting_is s p m b e).0 in small_stored raw (omega arith)

  pub scaled_within : (c w : ℤ) (p : ℕ) → unsigned_abs w ≤ p → unsigned_abs (rounded s (c *ℤ w)) ≤ scaled_peak s c p
  scaled_within c w p h = law.rounding.quotient_reached (fraction s) (unsigned_abs c * p) (c *ℤ w) (fraction_least s) (fraction_most s) (abs_scaled c w p h)

  -- the ceiling of a product is enough for the error of the operand and the remainder
  pub enough : (c w : ℤ) (m : ℕ) → unsigned_abs c * m + 4096 * unsigned_abs (remainder (fraction s) (c *ℤ w) (rounded s (c *ℤ w))) ≤ scaled_ceiling s c m * 2 ^ fraction s
  enough c w m =
      let a = up_part_ge (unsigned_abs c * m) (fraction s) in
      let b = law.rounding.remainder_small (fraction s) (c *ℤ w) (fraction_least s) (fraction_most s) in
      omega arith

  pub scale_near : (c : ℤ) (m : ℕ) (w : ℤ) (x : Exact) → Near m w x → Near (scaled_ceiling s c m) (rounded s (c *ℤ w)) (scale c (fraction s) x)
  scale_near c m w x h =
      let q = rounded s (c *ℤ w) in
      let r = remainder (fraction s) (c *ℤ w) q in
      let k = scaled_ceiling s c m in
      let e = wide c r m k (fraction s) (enough c w m) in
      rw (still (neg_ℤ (pos k)) q, still (pos k) q) at (scale_within c w q r q (neg_ℤ (pos m)) (pos m) (fraction s) x (neg_ℤ (pos k)) (pos k) (divided_is s (c *ℤ w)) h e.0 e.1)

pub sum_near : (m n : ℕ) (v w : ℤ) (x y : Exact) → Near m v x → Near n w y → Near (m + n) (v +ℤ w) (x ⊞ y)
sum_near m n v w x y h k = wider _ _ _ _ _ _ (omega (arith, ints)) (omega (arith, ints)) (sum_encloses _ _ _ _ _ _ (v +ℤ w) _ _ h k)

pub difference_near : (m n : ℕ) (v w : ℤ) (x y : Exact) → Near m v x → Near n w y → Near (m + n) (v -ℤ w) (x ⊟ y)
difference_near m n v w x y h k = wider _ _ _ _ _ _ (omega (arith, ints)) (omega (arith, ints)) (difference_encloses _ _ _ _ _ _ (v -ℤ w) _ _ h k)

-- Bounds, and words with exact numbers: whatever becomes of a raw number, so long as small ones stay as they are.
module _ (s : FixedArithmetic) (law : Lawful s) (keep : ℤ → Result ℤ Refusal) (keeps : (raw : ℤ) → unsigned_abs raw ≤ peak_limit s → keep raw ≡ Ok raw) where
  pub bound_lands : (raw : ℤ) (x : Exact) (p m : ℕ) → unsigned_abs raw ≤ p → Near m raw x → (r : Bound) → fitting s p m ≡ Ok r → Goes BoundCovers r (keep raw) (Ok x)
  bound_lands raw x p m h n r e =
      let t = fitting_is s p m r e in
      let l = t.0 in
      record { left = raw; right = x; left_is = keeps raw (omega arith); right_is = refl; related = covers_more r p m raw x h n t.2 t.3 }

  pub bound_sample : (X : ℕ) (u : ℤ) → unsigned_abs u ≤ X → (r : Bound) → (bound_arithmetic s).sample (pos X) ≡ Ok r → Goes BoundCovers r ((words s keep).sample u) ((exact s).sample u)
  bound_sample X u h r e =
      let t = fitting_is s X 0 r e in
      record { left = u; right = whole u; left_is = refl; right_is = refl; related = covers_more r X 0 u (whole u) h (encloses_self u) t.2 t.3 }

  pub bound_zero : BoundCovers (bound_arithmetic s).zero (words s keep).zero (exact s).zero
  bound_zero = record { magnitude = omega arith; near = encloses_self (pos 0) }

  pub bound_scale : (c : ℤ) (v : Bound) (w : ℤ) (x : Exact) → BoundCovers v w x → (r : Bound) → (bound_arithmetic s).scale c v ≡ Ok r
      → Goes BoundCovers r ((words s keep).scale c w) ((exact s).scale c x)
  bound_scale c v w x h = bound_lands _ _ _ _ (scaled_within s law c w v.peak h.magnitude) (scale_near s law c v.ceiling w x h.near)

  module _ (v v' : Bound) (w w' : ℤ) (x x' : Exact) (h : BoundCovers v w x) (h' : BoundCovers v' w' x') (r : Bound) where
    pub bound_sum : (bound_arithmetic s).sum v v' ≡ Ok r → Goes BoundCovers r ((words s keep).sum w w') ((exact s).sum x x')
    bound_sum = bound_lands _ _ _ _ (abs_sum w w' v.peak v'.peak h.magnitude h'.magnitude) (sum_near v.ceiling v'.ceiling w w' x x' h.near h'.near) r

    pub bound_difference : (bound_arithmetic s).difference v v' ≡ Ok r → Goes BoundCovers r ((words s keep).difference w w') ((exact s).difference x x')
    bound_difference = bound_lands _ _ _ _ (abs_difference w w' v.peak v'.peak h.magnitude h'.magnitude) (difference_near v.ceiling v'.ceiling w w' x x' h.near h'.near) r

-- ---- operations on zero are taken
pub zero_fits : (s : FixedArithmetic) → Taken (fitting s 0 0)
zero_fits s = (bound_of 0 0, fits s 0 0 (omega arith) (omega arith))

pub zero_scale_fits : (s : FixedArithmetic) (law : Lawful s) (c : ℤ) → Taken ((bound_arithmetic s).scale c (bound_of 0 0))
zero_scale_fits s law c =
    let e : unsigned_abs c * 0 ≡ 0 = mul-zero (unsigned_abs c) in
    let p : scaled_peak s c 0 ≡ 0 = ap (s.rounding.reach (fraction s)) e ∙ law.rounding.reach_zero (fraction s) (fraction_least s) (fraction_most s) in
    let u : up_part (unsigned_abs c * 0) (fraction s) ≡ 0 = ap (λ n. up_part n (fraction s)) e ∙ up_part_zero (fraction s) in
    let few = law.rounding.share_small in
    (bound_of (scaled_peak s c 0) (scaled_ceiling s c 0), fits s (scaled_peak s c 0) (scaled_ceiling s c 0) (omega arith) (omega arith))

pub bound_lawful : (s : FixedArithmetic) → Lawful s → LawfulKind s (bound_kind s)
bound_lawful s law = record {
  sample_covers = λ u i v e. let t = fitting_is s (unsigned_abs u) 0 v e in covers_more v (unsigned_abs u) 0 u (whole u) (omega arith) (encloses_self u) t.2 t.3;
  zero_covers = bound_zero s law (stored s) keeps;
  scale_covers = λ c i v w x j h. bound_scale s law (stored s) keeps c v w x h;
  sum_covers = λ v v' w w' x x' i i' h h'. bound_sum s law (stored s) keeps v v' w w' x x' h h';
  difference_covers = λ v v' w w' x x' i i' h h'. bound_difference s law (stored s) keeps v v' w w' x x' h h';
  sample_taken = zero_fits s;
  scale_taken = λ c i. zero_scale_fits s law c;
  sum_taken = zero_fits s;
  difference_taken = zero_fits s;
}
  where
    keeps : (raw : ℤ) → unsigned_abs raw ≤ peak_limit s → stored s raw ≡ Ok raw
    keeps = small_stored s law
