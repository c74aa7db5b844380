-- The uses of the simulation: from bounds to the two reference runs, to words and to enclosed values; from the strict run to the fixed one;
-- and from peaks to smaller peaks and to the fixed run.
use Rattle.std.proofs.Common.{◌≡◌, ℕ, ◌+◌, ◌*◌, ◌≤◌, Bool, true, false, cond, leb, ℤ, pos, ◌+ℤ◌, ◌-ℤ◌, ◌*ℤ◌, nat_abs, Ok, Err, Result, sym, refl, ap, ◌∙◌, subst, ap₂, mul-le-mul_left, arith}
use Rattle.arithmetic.specs.Words.{inside}
use Rattle.arithmetic.specs.Settings.{FixedArithmetic, Lawful, fraction, inner_bits}
use Rattle.kinds.specs.declared.refusal.Refusal.{Refusal}
use Rattle.kinds.specs.declared.refusal.Refusal.TheVariants.{Overflow, Peak as AbovePeak}
use Rattle.kinds.specs.declared.values.Word.{Word}
use Rattle.kinds.specs.declared.values.Enclosed.{Enclosed}
use Rattle.kinds.specs.declared.values.Bound.{Bound}
use Rattle.kinds.specs.Arithmetics.{or_refused, stored, rounded, words, fixed, exact}
use Rattle.kinds.specs.Kinds.{Goes}
use Rattle.kinds.specs.Words.{word_of, as_word, word_arithmetic}
use Rattle.kinds.specs.Enclosures.{enclosed_of, enclosed_arithmetic}
use Rattle.kinds.specs.Bounds.{bound_of, bound_arithmetic, peak_limit, fitting, scaled_peak, BoundCovers}
use Rattle.kinds.specs.Facts.{leb_yes, leb_out, only, inside_yes, inside_out, small_inside, fraction_least, fraction_most, abs_sum, abs_difference}
use Rattle.kinds.specs.Parts.{fitting_is}
use Rattle.kinds.specs.BoundLaws.{small_stored, fitted_stored, scaled_within, bound_sample, bound_zero, bound_scale, bound_sum, bound_difference}
use Rattle.kinds.specs.EnclosedLaws.{Held, TakenHeld, zero_held, held_scale, held_sum, held_difference}
use Rattle.wiring.proofs.Simulation.{Simulates}
use Rattle.sheet.specs.Rounds.{fitting_peak, peak_arithmetic}
use Rattle.sheet.proofs.Simulations.{Simulates₂, Goes₂}
use Rattle.channel.specs.Theorem.{in_word, strict}

-- a word within a peak
abbrev pub Within : Bound → Word → Type 0
Within b v = nat_abs v.word ≤ b.peak

-- a smaller peak
abbrev pub Under : ℕ → ℕ → Type 0
Under q p = p ≤ q

-- a number within a peak
abbrev pub Magnitude : ℕ → ℤ → Type 0
Magnitude p v = nat_abs v ≤ p

chosen : {A : Type 0} (t : Bool) (a r : A) (x : Refusal) → cond t (Ok a) (Err x) ≡ Ok r → (t ≡ true) × (a ≡ r)
chosen true a r x e = (refl, only a r e)
chosen false a r x e = absurd (let z : ◌≡◌ {A = ℕ} 0 1 = cc in omega arith)

module _ (s : FixedArithmetic) (law : Lawful s) where
  -- ---- strict, and fixed
  as_stored : (raw r : ℤ) → in_word s raw ≡ Ok r → stored s raw ≡ Ok r
  as_stored raw r e =
      let t = chosen (inside (inner_bits s) raw) raw r Overflow e in
      ap or_refused (law.overflow.keeps_words (inner_bits s) raw s.format.sound.2 (inside_out _ _ t.0)) ∙ ap Ok t.1

  stays : (raw raw' r : ℤ) → raw ≡ raw' → in_word s raw ≡ Ok r → Goes₂ ◌≡◌ r (stored s raw')
  stays raw raw' r q e = record { left = r; left_is = ap (stored s) (sym q) ∙ as_stored raw r e; related = refl }

  pub strict_simulates : (u : ℤ) → Simulates₂ (strict s) (fixed s) ◌≡◌ u u
  strict_simulates u = record {
    of_sample = λ a e. record { left = u; left_is = refl; related = sym (only _ _ e) };
    of_zero = refl;
    of_scale = λ c a b h r e. stays (rounded s (c *ℤ a)) (rounded s (c *ℤ b)) r (ap (λ z. rounded s (c *ℤ z)) h) e;
    of_sum = λ a a' b b' h h' r e. stays (a +ℤ a') (b +ℤ b') r (ap₂ ◌+ℤ◌ h h') e;
    of_difference = λ a a' b b' h h' r e. stays (a -ℤ a') (b -ℤ b') r (ap₂ ◌-ℤ◌ h h') e;
  }

  strict_keeps : (raw : ℤ) → nat_abs raw ≤ peak_limit s → in_word s raw ≡ Ok raw
  strict_keeps raw h = ap (λ t. cond t (Ok raw) (Err Overflow)) (inside_yes (inner_bits s) raw (small_inside (inner_bits s) raw h))

  -- ---- bounds, and words with exact numbers, whatever becomes of a raw number outside its word
  kept_simulates : (keep : ℤ → Result ℤ Refusal) → ((raw : ℤ) → nat_abs raw ≤ peak_limit s → keep raw ≡ Ok raw) → (X : ℕ) (u : ℤ) → nat_abs u ≤ X
      → Simulates (bound_arithmetic s) (words s keep) (exact s) BoundCovers ◌≡◌ (pos X) u u
  kept_simulates keep keeps X u i = record {
    of_sample = bound_sample s law keep keeps X u i;
    of_zero = bound_zero s law keep keeps;
    of_scale = λ c d q a b x h r e. subst (λ n. Goes BoundCovers r ((words s keep).scale c b) ((exact s).scale n x)) q (bound_scale s law keep keeps c a b x h r e);
    of_sum = λ a a' b b' x x' h h' r e. bound_sum s law keep keeps a a' b b' x x' h h' r e;
    of_difference = λ a a' b b' x x' h h' r e. bound_difference s law keep keeps a a' b b' x x' h h' r e;
  }

  pub bound_simulates_strict : (X : ℕ) (u : ℤ) → nat_abs u ≤ X → Simulates (bound_arithmetic s) (strict s) (exact s) BoundCovers ◌≡◌ (pos X) u u
  bound_simulates_strict = kept_simulates (in_word s) strict_keeps

  pub bound_simulates_fixed : (X : ℕ) (u : ℤ) → nat_abs u ≤ X → Simulates (bound_arithmetic s) (fixed s) (exact s) BoundCovers ◌≡◌ (pos X) u u
  bound_simulates_fixed = kept_simulates (stored s) (small_stored s law)

  -- ---- bounds, and words
  word_lands : (raw : ℤ) (p m : ℕ) (r : Bound) → nat_abs raw ≤ p → fitting s p m ≡ Ok r → Goes₂ Within r (as_word (stored s raw))
  word_lands raw p m r h e =
      let t = fitting_is s p m r e in
      let q = t.2 in
      record { left = word_of raw; left_is = ap as_word (fitted_stored s law raw p m r h e); related = omega arith }

  pub word_simulates : (X : ℕ) (u : ℤ) → nat_abs u ≤ X → Simulates₂ (bound_arithmetic s) (word_arithmetic s) Within (pos X) u
  word_simulates X u i = record {
    of_sample = λ r e. let q = (fitting_is s X 0 r e).2 in record { left = word_of u; left_is = refl; related = omega arith };
    of_zero = omega arith;
    of_scale = λ c a b h r e. word_lands _ _ _ r (scaled_within s law c b.word a.peak h) e;
    of_sum = λ a a' b b' h h' r e. word_lands _ _ _ r (abs_sum b.word b'.word a.peak a'.peak h h') e;
    of_difference = λ a a' b b' h h' r e. word_lands _ _ _ r (abs_difference b.word b'.word a.peak a'.peak h h') e;
  }

  -- ---- bounds, and enclosed values
  held : (r : Bound) (o : Result Enclosed Refusal) → TakenHeld r o → Goes₂ Held r o
  held r o t = record { left = t.0; left_is = t.1; related = t.2 }

  pub enclosed_simulates : (X : ℕ) (u : ℤ) → nat_abs u ≤ X → Simulates₂ (bound_arithmetic s) (enclosed_arithmetic s) Held (pos X) u
  enclosed_simulates X u i = record {
    of_sample = λ r e. let q = (fitting_is s X 0 r e).2 in record { left = enclosed_of u (pos 0) (pos 0); left_is = refl; related = record { word = omega arith; low = omega arith; high = omega arith } };
    of_zero = zero_held (bound_of 0 0);
    of_scale = λ c a b h r e. held r _ (held_scale s law c a b h r e);
    of_sum = λ a a' b b' h h' r e. held r _ (held_sum s law a a' b b' h h' r e);
    of_difference = λ a a' b b' h h' r e. held r _ (held_difference s law a a' b b' h h' r e);
  }

  -- ---- peaks, and smaller peaks
  peak_is : (p r : ℕ) → fitting_peak s p ≡ Ok r → (p ≤ peak_limit s) × (p ≡ r)
  peak_is p r e = let t = chosen (leb p (peak_limit s)) p r AbovePeak e in (leb_out _ _ t.0, t.1)

  peak_fits : (p : ℕ) → p ≤ peak_limit s → fitting_peak s p ≡ Ok p
  peak_fits p h = ap (λ t. cond t (Ok p) (Err AbovePeak)) (leb_yes p (peak_limit s) h)

  peak_rises : (c : ℤ) (p q : ℕ) → p ≤ q → scaled_peak s c p ≤ scaled_peak s c q
  peak_rises c p q h = law.rounding.reach_rises (fraction s) (nat_abs c * p) (nat_abs c * q) (fraction_least s) (fraction_most s) (mul-le-mul_left (nat_abs c) h)

  under_lands : (q r p : ℕ) → p ≤ q → fitting_peak s q ≡ Ok r → Goes₂ Under r (fitting_peak s p)
  under_lands q r p h e =
      let t = peak_is q r e in
      let a = t.0 in let b = t.1 in
      record { left = p; left_is = peak_fits p (omega arith); related = omega arith }

  pub under_simulates : Simulates₂ (peak_arithmetic s) (peak_arithmetic s) Under (pos 0) (pos 0)
  under_simulates = record {
    of_sample = λ r e. under_lands 0 r 0 (omega arith) e;
    of_zero = omega arith;
    of_scale = λ c a b h r e. under_lands _ r _ (peak_rises c b a h) e;
    of_sum = λ a a' b b' h h' r e. under_lands (a + a') r (b + b') (omega arith) e;
    of_difference = λ a a' b b' h h' r e. under_lands (a + a') r (b + b') (omega arith) e;
  }

  -- ---- peaks, and the fixed run
  magnitude_lands : (raw : ℤ) (q r : ℕ) → nat_abs raw ≤ q → fitting_peak s q ≡ Ok r → Goes₂ Magnitude r (stored s raw)
  magnitude_lands raw q r h e =
      let t = peak_is q r e in
      let a = t.0 in let b = t.1 in
      record { left = raw; left_is = small_stored s law raw (omega arith); related = omega arith }

  pub magnitude_simulates : Simulates₂ (peak_arithmetic s) (fixed s) Magnitude (pos 0) (pos 0)
  magnitude_simulates = record {
    of_sample = λ r e. record { left = pos 0; left_is = refl; related = omega arith };
    of_zero = omega arith;
    of_scale = λ c a b h r e. magnitude_lands _ _ r (scaled_within s law c b a h) e;
    of_sum = λ a a' b b' h h' r e. magnitude_lands _ _ r (abs_sum b b' a a' h h') e;
    of_difference = λ a a' b b' h h' r e. magnitude_lands _ _ r (abs_difference b b' a a' h h') e;
  }
