-- Values by their parts: when values are equal, and which are taken.
use Rattle.std.specs.Prelude.{◌≡◌, ℕ, ◌^◌, ◌<◌, ◌≤◌, min, Bool, true, false, cond, ◌&&◌, ℤ, Some, None, Option, Ok, Err, nat_le, unsigned_abs, refl}
use Rattle.std.proofs.Common.{sym, ap, ◌∙◌, arith}
use mathlib.Core.HLevel.{is_prop→PathP}
use Rattle.std.proofs.Math.Bridge.{le_prop}
use Rattle.std.proofs.lemmas.Bool.{lt-leb}
use Rattle.std.proofs.lemmas.Int.{clamps, ints}
use Rattle.arithmetic.specs.Settings.{FixedArithmetic}
use Rattle.kinds.specs.declared.refusal.Refusal.TheVariants.{Peak, Ceiling, End}
use Rattle.kinds.specs.declared.values.Bound.{Bound}
use Rattle.kinds.specs.declared.values.Enclosed.{Enclosed}
use Rattle.kinds.specs.Arithmetics.{or_refused}
use Rattle.kinds.specs.Bounds.{bound_of, peak_limit, fitting}
use Rattle.kinds.specs.Enclosures.{clip, enclosed_of, ended}
use Rattle.kinds.specs.Facts.{and_yes, and_out, leb_yes, leb_out, only}

-- what is taken for a stored word is that word
pub stored_is : (o : Option ℤ) (z : ℤ) → or_refused o ≡ Ok z → o ≡ Some z
stored_is (Some y) z e = ap Some (only y z e)
stored_is None z e = absurd (let z : ◌≡◌ {A = ℕ} 0 1 = cc in omega arith)

-- ---- bounds
-- bounds with equal parts are equal
pub same_bound : (a b : Bound) → a.peak ≡ b.peak → a.ceiling ≡ b.ceiling → a ≡ b
same_bound a b e f j = record { peak = e j; ceiling = f j; small = is_prop→PathP (λ k. f k ≤ 2 ^ 38) (λ k. le_prop) a.small b.small j }

pub ceiling_is : (m : ℕ) → m ≤ 2 ^ 38 → min m (2 ^ 38) ≡ m
ceiling_is m h = omega arith

fitting_by : (t u : Bool) (a b : Bound) → cond t (cond u (Ok a) (Err Ceiling)) (Err Peak) ≡ Ok b → (t ≡ true) × (u ≡ true) × (a ≡ b)
fitting_by true true a b e = (refl, refl, only a b e)
fitting_by true false a b e = absurd (let z : ◌≡◌ {A = ℕ} 0 1 = cc in omega arith)
fitting_by false u a b e = absurd (let z : ◌≡◌ {A = ℕ} 0 1 = cc in omega arith)

-- what a bound that is taken says of its parts
pub fitting_is : (s : FixedArithmetic) (p m : ℕ) (b : Bound) → fitting s p m ≡ Ok b → (p ≤ peak_limit s) × (m ≤ 2 ^ 38) × (b.peak ≡ p) × (b.ceiling ≡ m)
fitting_is s p m b e =
    let t = fitting_by (nat_le p (peak_limit s)) (nat_le m (2 ^ 38)) (bound_of p m) b e in
    let h = leb_out m (2 ^ 38) t.1 in
    (leb_out p (peak_limit s) t.0, h, ap (λ (v : Bound). v.peak) (sym t.2), ap (λ (v : Bound). v.ceiling) (sym t.2) ∙ ceiling_is m h)

-- parts within the limits are taken
pub fits : (s : FixedArithmetic) (p m : ℕ) → p ≤ peak_limit s → m ≤ 2 ^ 38 → fitting s p m ≡ Ok (bound_of p m)
fits s p m h k = rw (leb_yes p (peak_limit s) h, leb_yes m (2 ^ 38) k)

-- and come to the bound with these parts
pub fits_as : (s : FixedArithmetic) (b : Bound) → b.peak ≤ peak_limit s → fitting s b.peak b.ceiling ≡ Ok b
fits_as s b h = fits s b.peak b.ceiling h b.small ∙ ap (λ v. Ok v) (same_bound (bound_of b.peak b.ceiling) b refl (ceiling_is b.ceiling b.small))

-- ---- enclosed values
-- enclosed values with equal parts are equal
pub same_enclosed : (a b : Enclosed) → a.word ≡ b.word → a.low ≡ b.low → a.high ≡ b.high → a ≡ b
same_enclosed a b e f g j = record { word = e j; low = f j; high = g j; near = (is_prop→PathP (λ k. unsigned_abs (f k) ≤ 2 ^ 38) (λ k. le_prop) a.near.0 b.near.0 j, is_prop→PathP (λ k. unsigned_abs (g k) ≤ 2 ^ 38) (λ k. le_prop) a.near.1 b.near.1 j) }

pub clip_is : (z : ℤ) → unsigned_abs z ≤ 2 ^ 38 → clip z ≡ z
clip_is z h = omega (arith, ints, clamps)

ended_by : (t : Bool) (a b : Enclosed) → cond t (Ok a) (Err End) ≡ Ok b → (t ≡ true) × (a ≡ b)
ended_by true a b e = (refl, only a b e)
ended_by false a b e = absurd (let z : ◌≡◌ {A = ℕ} 0 1 = cc in omega arith)

-- what an enclosed value that is taken says of its parts
pub ended_is : (w d e : ℤ) (v : Enclosed) → ended w d e ≡ Ok v → (v.word ≡ w) × (v.low ≡ d) × (v.high ≡ e)
ended_is w d e v h =
    let t = ended_by (nat_le (unsigned_abs d) (2 ^ 38) && nat_le (unsigned_abs e) (2 ^ 38)) (enclosed_of w d e) v h in
    let u = and_out (nat_le (unsigned_abs d) (2 ^ 38)) (nat_le (unsigned_abs e) (2 ^ 38)) t.0 in (
      ap (λ (v : Enclosed). v.word) (sym t.1),
      ap (λ (v : Enclosed). v.low) (sym t.1) ∙ clip_is d (leb_out _ _ u.0),
      ap (λ (v : Enclosed). v.high) (sym t.1) ∙ clip_is e (leb_out _ _ u.1),
    )

-- ends within 2^38 are taken
pub ends : (w d e : ℤ) → unsigned_abs d ≤ 2 ^ 38 → unsigned_abs e ≤ 2 ^ 38 → ended w d e ≡ Ok (enclosed_of w d e)
ends w d e h k = rw (and_yes _ _ (leb_yes (unsigned_abs d) (2 ^ 38) h) (leb_yes (unsigned_abs e) (2 ^ 38) k))

-- and come to the value with these parts
pub ends_as : (v : Enclosed) (w d e : ℤ) → v.word ≡ w → v.low ≡ d → v.high ≡ e → Ok v ≡ ended w d e
ends_as v w d e p q r =
    ap (λ x. Ok x) (same_enclosed v (enclosed_of v.word v.low v.high) refl (sym (clip_is v.low v.near.0)) (sym (clip_is v.high v.near.1)))
    ∙ sym (ends v.word v.low v.high v.near.0 v.near.1)
    ∙ (λ i. ended (p i) (q i) (r i))

-- a low end beyond 2^38 is refused
pub far : (w d e : ℤ) → 2 ^ 38 < unsigned_abs d → ended w d e ≡ Err End
far w d e h = rw (lt-leb (unsigned_abs d) (2 ^ 38) h)
