-- The laws of exact numbers that bounds rest on.
use Rattle.std.specs.Prelude.{◌≡◌, ℕ, ◌+◌, ℤ, pos, ◌+ℤ◌, ◌-ℤ◌, ◌*ℤ◌}
use Rattle.exact.specs.Numbers.{Exact, whole, two, ◌⊞◌, ◌⊟◌, neg, scale, ◌≼◌}
use Rattle.exact.specs.Enclosures.{Encloses, moved, scale_low, scale_high}

-- exact numbers add, subtract and scale as numbers do, and are ordered
pub record NumberLaws : Type 0 where
  pub sum_comm : (x y : Exact) → x ⊞ y ≡ y ⊞ x
  pub sum_assoc : (x y z : Exact) → x ⊞ y ⊞ z ≡ x ⊞ (y ⊞ z)
  pub sum_zero : (x : Exact) → x ⊞ whole (pos 0) ≡ x
  pub sum_neg : (x : Exact) → x ⊞ neg x ≡ whole (pos 0)
  pub scale_sum : (c : ℤ) (l : ℕ) (x y : Exact) → scale c l (x ⊞ y) ≡ scale c l x ⊞ scale c l y
  pub scale_difference : (c : ℤ) (l : ℕ) (x y : Exact) → scale c l (x ⊟ y) ≡ scale c l x ⊟ scale c l y
  pub scale_scale : (c d : ℤ) (l k : ℕ) (x : Exact) → scale c l (scale d k x) ≡ scale (c *ℤ d) (l + k) x
  pub at_most_itself : (x : Exact) → x ≼ x
  pub at_most_trans : (x y z : Exact) → x ≼ y → y ≼ z → x ≼ z
  pub at_most_antisym : (x y : Exact) → x ≼ y → y ≼ x → x ≡ y
  pub at_most_sum : (x y u v : Exact) → x ≼ y → u ≼ v → (x ⊞ u) ≼ (y ⊞ v)

-- a sum, a difference and a scale of enclosed numbers are enclosed, whatever word s is stored for the raw result
pub record EnclosureLaws : Type 0 where
  pub of_itself : (u : ℤ) → Encloses u (pos 0) (pos 0) (whole u)
  pub of_sum : (v d e w f g s : ℤ) (x y : Exact) → Encloses v d e x → Encloses w f g y
      → Encloses s (d +ℤ f +ℤ moved (v +ℤ w) s) (e +ℤ g +ℤ moved (v +ℤ w) s) (x ⊞ y)
  pub of_difference : (v d e w f g s : ℤ) (x y : Exact) → Encloses v d e x → Encloses w f g y
      → Encloses s (d -ℤ g +ℤ moved (v -ℤ w) s) (e -ℤ f +ℤ moved (v -ℤ w) s) (x ⊟ y)
  pub of_scale : (c v q r s d e : ℤ) (l : ℕ) (x : Exact) → c *ℤ v ≡ q *ℤ two l +ℤ r → Encloses v d e x
      → Encloses s (scale_low c l r d e +ℤ moved q s) (scale_high c l r d e +ℤ moved q s) (scale c l x)
