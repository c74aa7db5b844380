-- The enclosed kind keeps its laws.
use Rattle.std.specs.Prelude.{◌≡◌, ℕ, ◌^◌, ◌≤◌, ℤ, pos, ◌+ℤ◌, ◌-ℤ◌, ◌*ℤ◌, Ok, Err, Result, unsigned_abs, refl}
use Rattle.std.proofs.Common.{sym, ap, ap₂, subst, subst₂, ◌∙◌, arith}
use Rattle.arithmetic.specs.Rounding.{remainder}
use Rattle.arithmetic.specs.Settings.{FixedArithmetic, Lawful, fraction}
use Rattle.exact.specs.Numbers.{Exact, whole}
use Rattle.exact.specs.Enclosures.{Encloses, moved, scale_low, scale_high}
use Rattle.exact.proofs.EnclosureLaws.{encloses_self, sum_encloses, difference_encloses, scale_encloses}
use Rattle.kinds.specs.declared.refusal.Refusal.{Refusal}
use Rattle.kinds.specs.declared.values.Bound.{Bound}
use Rattle.kinds.specs.declared.values.Enclosed.{Enclosed}
use Rattle.kinds.specs.Arithmetics.{stored, rounded}
use Rattle.kinds.specs.Kinds.{Goes, LawfulKind}
use Rattle.kinds.specs.Bounds.{bound_of, fitting, bound_arithmetic}
use Rattle.kinds.specs.Enclosures.{enclosed_of, ended, ended_at, kept, enclosed_arithmetic, EnclosedCovers, enclosed_kind}
use Rattle.kinds.specs.Facts.{only, abs_sum, abs_difference, still, low_within, high_within}
use Rattle.kinds.specs.Parts.{fitting_is, clip_is, ended_is, ends}
use Rattle.kinds.specs.BoundLaws.{divided_is, fitted_stored, scaled_within, enough, zero_fits, zero_scale_fits}

-- a value that is taken holds the stored word, with the ends moved by as much
pub kept_is : (raw d e : ℤ) (o : Result ℤ Refusal) (r : Enclosed) → ended_at raw d e o ≡ Ok r
    → (o ≡ Ok r.word) × (r.low ≡ d +ℤ moved raw r.word) × (r.high ≡ e +ℤ moved raw r.word)
kept_is raw d e (Ok z) r h =
    let t = ended_is z (d +ℤ moved raw z) (e +ℤ moved raw z) r h in
    (ap (λ y. Ok y) (sym t.0), t.1 ∙ ap (λ y. d +ℤ moved raw y) (sym t.0), t.2 ∙ ap (λ y. e +ℤ moved raw y) (sym t.0))
kept_is raw d e (Err x) r h = absurd (let z : ◌≡◌ {A = ℕ} 0 1 = cc in omega arith)

-- where the moved ends enclose x whatever is stored, a value that is taken covers the stored word with x
pub kept_covers : (s : FixedArithmetic) (raw raw' d e : ℤ) (x : Exact) → raw ≡ raw' → ((z : ℤ) → Encloses z (d +ℤ moved raw z) (e +ℤ moved raw z) x)
    → (r : Enclosed) → kept s raw d e ≡ Ok r → Goes EnclosedCovers r (stored s raw') (Ok x)
kept_covers s raw raw' d e x q within r h =
    let t = kept_is raw d e (stored s raw) r h in
    record {
      left = r.word;
      right = x;
      left_is = ap (stored s) (sym q) ∙ t.0;
      right_is = refl;
      related = record { word = refl; between = subst₂ (λ a b. Encloses r.word a b x) (sym t.1) (sym t.2) (within r.word) };
    }

around : (v : Enclosed) (w : ℤ) (x : Exact) → EnclosedCovers v w x → Encloses v.word v.low v.high x
around v w x h = subst (λ z. Encloses z v.low v.high x) (sym h.word) h.between

-- ---- a bound holds an enclosed value whose word is within its peak and whose ends are within its ceiling
pub record Held (b : Bound) (v : Enclosed) : Type 0 where
  pub word : unsigned_abs v.word ≤ b.peak
  pub low : unsigned_abs v.low ≤ b.ceiling
  pub high : unsigned_abs v.high ≤ b.ceiling

-- the operation is taken, and the bound b holds the value
abbrev pub TakenHeld : Bound → Result Enclosed Refusal → Type 0
TakenHeld b o = (v : Enclosed) × (o ≡ Ok v) × Held b v

abbrev zero_bound : Bound
zero_bound = bound_of 0 0

abbrev pub zero_value : Enclosed
zero_value = enclosed_of (pos 0) (pos 0) (pos 0)

pub zero_held : (b : Bound) → Held b zero_value
zero_held b = record { word = omega arith; low = omega arith; high = omega arith }

module _ (s : FixedArithmetic) (law : Lawful s) where
  -- where a bound is taken, so is each enclosed value that it holds
  pub held_lands : (raw d e : ℤ) (p m : ℕ) → unsigned_abs raw ≤ p → unsigned_abs d ≤ m → unsigned_abs e ≤ m → (b : Bound) → fitting s p m ≡ Ok b → TakenHeld b (kept s raw d e)
  held_lands raw d e p m h i j b f =
      let t = fitting_is s p m b f in
      let k = t.1 in
      let hd : unsigned_abs d ≤ 2 ^ 38 = omega arith in
      let he : unsigned_abs e ≤ 2 ^ 38 = omega arith in (
        enclosed_of raw d e,
        ap (ended_at raw d e) (fitted_stored s law raw p m b h f) ∙ ap₂ (ended raw) (still d raw) (still e raw) ∙ ends raw d e hd he,
        record { word = rw t.2 h; low = rw (t.3, clip_is d hd) i; high = rw (t.3, clip_is e he) j },
      )

  pub held_scale : (c : ℤ) (b : Bound) (v : Enclosed) → Held b v → (r : Bound) → (bound_arithmetic s).scale c b ≡ Ok r → TakenHeld r ((enclosed_arithmetic s).scale c v)
  held_scale c b v h =
      let q = rounded s (c *ℤ v.word) in
      let rest = remainder (fraction s) (c *ℤ v.word) q in
      held_lands q (scale_low c (fraction s) rest v.low v.high) (scale_high c (fraction s) rest v.low v.high) _ _ (scaled_within s law c v.word b.peak h.word)
      (low_within c rest v.low v.high b.ceiling _ _ h.low h.high (enough s law c v.word b.ceiling))
      (high_within c rest v.low v.high b.ceiling _ _ h.low h.high (enough s law c v.word b.ceiling))

  module _ (b b' : Bound) (v v' : Enclosed) (h : Held b v) (h' : Held b' v') (r : Bound) where
    pub held_sum : (bound_arithmetic s).sum b b' ≡ Ok r → TakenHeld r ((enclosed_arithmetic s).sum v v')
    held_sum = held_lands _ (v.low +ℤ v'.low) (v.high +ℤ v'.high) _ _ (abs_sum v.word v'.word _ _ h.word h'.word) (abs_sum v.low v'.low _ _ h.low h'.low) (abs_sum v.high v'.high _ _ h.high h'.high) r

    pub held_difference : (bound_arithmetic s).difference b b' ≡ Ok r → TakenHeld r ((enclosed_arithmetic s).difference v v')
    held_difference = held_lands _ (v.low -ℤ v'.high) (v.high -ℤ v'.low) _ _ (abs_difference v.word v'.word _ _ h.word h'.word) (abs_difference v.low v'.high _ _ h.low h'.high) (abs_difference v.high v'.low _ _ h.high h'.low) r

  pub enclosed_lawful : LawfulKind s (enclosed_kind s)
  enclosed_lawful = record {
    sample_covers = λ u i v e. subst (λ v. EnclosedCovers v u (whole u)) (only (enclosed_of u (pos 0) (pos 0)) v e) (record { word = refl; between = encloses_self u });
    zero_covers = record { word = refl; between = encloses_self (pos 0) };
    scale_covers = λ c i v w x j h. kept_covers s _ _ (scale_low c (fraction s) (remainder (fraction s) (c *ℤ v.word) (rounded s (c *ℤ v.word))) v.low v.high) (scale_high c (fraction s) (remainder (fraction s) (c *ℤ v.word) (rounded s (c *ℤ v.word))) v.low v.high) _ (ap (λ z. rounded s (c *ℤ z)) h.word)
        (λ z. scale_encloses c v.word _ _ z v.low v.high (fraction s) x (divided_is s (c *ℤ v.word)) (around v w x h));
    sum_covers = λ v v' w w' x x' i i' h h'. kept_covers s _ _ (v.low +ℤ v'.low) (v.high +ℤ v'.high) _ (ap₂ ◌+ℤ◌ h.word h'.word) (λ z. sum_encloses _ _ _ _ _ _ z _ _ (around v w x h) (around v' w' x' h'));
    difference_covers = λ v v' w w' x x' i i' h h'. kept_covers s _ _ (v.low -ℤ v'.high) (v.high -ℤ v'.low) _ (ap₂ ◌-ℤ◌ h.word h'.word) (λ z. difference_encloses _ _ _ _ _ _ z _ _ (around v w x h) (around v' w' x' h'));
    sample_taken = (zero_value, refl);
    scale_taken = λ c i. let b = zero_scale_fits s law c in let t = held_scale c zero_bound zero_value (zero_held zero_bound) b.0 b.1 in (t.0, t.1);
    sum_taken = let b = zero_fits s in let t = held_sum zero_bound zero_bound zero_value zero_value (zero_held zero_bound) (zero_held zero_bound) b.0 b.1 in (t.0, t.1);
    difference_taken = let b = zero_fits s in let t = held_difference zero_bound zero_bound zero_value zero_value (zero_held zero_bound) (zero_held zero_bound) b.0 b.1 in (t.0, t.1);
  }
