-- Sums of products of exact numbers, and totals that grow by one product a turn.
use Rattle.std.proofs.Common.{◌≡◌, ℕ, zero, suc, ◌+◌, Bool, true, false, cond, ltb, List, [], ◌∷◌, length, get_or, drop, ℤ, pos, ◌*ℤ◌, sym, refl, ap, ◌∙◌, ap₂}
use lib.Dec.{leb-suc-zero, leb-suc-suc, leb-zero}
use lib.IntN.{*ℤ-zero, zero-*ℤ}
use Rattle.exact.specs.Numbers.{Exact, over, ◌⊞◌, ◌⊟◌, neg, scale}
use Rattle.exact.proofs.NumberLaws.{cross, sum_comm, sum_assoc, sum_none, sum_neg_none, scale_sum, scale_over, scale_comm, neg_sum}
use Rattle.forms.specs.Equation.{zero_exact, weighted}

-- ---- rearranging
pub sum_left_comm : (x y z : Exact) → x ⊞ (y ⊞ z) ≡ y ⊞ (x ⊞ z)
sum_left_comm x y z = sym (sum_assoc x y z) ∙ ap (λ w. w ⊞ z) (sum_comm x y) ∙ sum_assoc y x z

none_sum : (x : Exact) → zero_exact ⊞ x ≡ x
none_sum x = sum_comm zero_exact x ∙ sum_none x

neg_none : neg zero_exact ≡ zero_exact
neg_none = sym (none_sum (neg zero_exact)) ∙ sum_neg_none zero_exact

pub less_none : (x : Exact) → x ⊟ zero_exact ≡ x
less_none x = ap (λ z. x ⊞ z) neg_none ∙ sum_none x

-- what was added is taken off
pub sum_less : (x y : Exact) → x ⊞ y ⊟ y ≡ x
sum_less x y = sum_assoc x y (neg y) ∙ ap (λ z. x ⊞ z) (sum_neg_none y) ∙ sum_none x

pub less_sum : (x y : Exact) → x ⊟ y ⊞ y ≡ x
less_sum x y = sum_assoc x (neg y) y ∙ ap (λ z. x ⊞ z) (sum_comm (neg y) y ∙ sum_neg_none y) ∙ sum_none x

-- a part that may be left out
pub sum_if : (t : Bool) (x y : Exact) → cond t (x ⊞ y) x ≡ x ⊞ cond t y zero_exact
sum_if true x y = refl
sum_if false x y = sym (sum_none x)

pub less_if : (t : Bool) (x y : Exact) → cond t (x ⊟ y) x ≡ x ⊟ cond t y zero_exact
less_if true x y = refl
less_if false x y = sym (less_none x)

-- the laws of sums, for `simp`
pub ruleset sums_law = (sum_assoc, sum_comm, sum_left_comm, neg_sum)

scale_none : (c : ℤ) (l : ℕ) → scale c l zero_exact ≡ zero_exact
unfolding over
scale_none c l = scale_over c l (pos 0) 0 ∙ cross (c *ℤ pos 0) (pos 0) (0 + l) 0 (simp (*ℤ-zero, zero-*ℤ))

-- ---- a past that grows: its newest value first
abbrev pub push : Exact → (ℕ → Exact) → ℕ → Exact
push x h zero = x
push x h (suc i) = h i

module _ (l : ℕ) where
  pub weighted_same : (cs : List ℤ) (x y : ℕ → Exact) → ((i : ℕ) → x i ≡ y i) → weighted l cs x ≡ weighted l cs y
  unfolding weighted
  weighted_same [] x y e = refl
  weighted_same (c ∷ cs) x y e = ap₂ (λ p q. scale c l p ⊞ q) (e 0) (weighted_same cs (λ i. x (suc i)) (λ i. y (suc i)) (λ i. e (suc i)))

  pub weighted_first : (c : ℤ) (cs : List ℤ) (x : ℕ → Exact) → weighted l (c ∷ cs) x ≡ scale c l (x 0) ⊞ weighted l cs (λ i. x (suc i))
  unfolding weighted
  weighted_first c cs x = refl

  pub weighted_none : (cs : List ℤ) → weighted l cs (λ i. zero_exact) ≡ zero_exact
  unfolding weighted
  weighted_none [] = refl
  weighted_none (c ∷ cs) = ap₂ ◌⊞◌ (scale_none c l) (weighted_none cs) ∙ sum_none zero_exact

  pub weighted_sum : (cs : List ℤ) (x y : ℕ → Exact) → weighted l cs (λ i. x i ⊞ y i) ≡ weighted l cs x ⊞ weighted l cs y
  unfolding weighted
  weighted_sum [] x y = sym (sum_none zero_exact)
  weighted_sum (c ∷ cs) x y =
      ap₂ ◌⊞◌ (scale_sum c l (x 0) (y 0)) (weighted_sum cs (λ i. x (suc i)) (λ i. y (suc i))) ∙ simp sums_law

  pub weighted_scale : (c : ℤ) (cs : List ℤ) (x : ℕ → Exact) → scale c l (weighted l cs x) ≡ weighted l cs (λ i. scale c l (x i))
  unfolding weighted
  weighted_scale c [] x = scale_none c l
  weighted_scale c (d ∷ cs) x = scale_sum c l (scale d l (x 0)) (weighted l cs (λ i. x (suc i))) ∙ ap₂ ◌⊞◌ (scale_comm c d l l (x 0)) (weighted_scale c cs (λ i. x (suc i)))

  -- the order of two sums does not matter
  pub weighted_swap : (cs ds : List ℤ) (x : ℕ → ℕ → Exact) → weighted l cs (λ i. weighted l ds (x i)) ≡ weighted l ds (λ j. weighted l cs (λ i. x i j))
  unfolding weighted
  weighted_swap [] ds x = sym (weighted_none ds)
  weighted_swap (c ∷ cs) ds x =
      ap₂ ◌⊞◌ (weighted_scale c ds (x 0)) (weighted_swap cs ds (λ i. x (suc i)))
      ∙ sym (weighted_sum ds (λ j. scale c l (x 0 j)) (λ j. weighted l cs (λ i. x (suc i) j)))

  -- the coefficients from number i on, over a past that has grown
  pub weighted_drop : (cs : List ℤ) (i : ℕ) (x : Exact) (h : ℕ → Exact)
      → weighted l (drop i cs) (push x h) ≡ weighted l (drop (suc i) cs) h ⊞ cond (ltb i (length cs)) (scale (get_or cs i (pos 0)) l x) zero_exact
  unfolding weighted
  weighted_drop [] zero x h = sym (sum_none zero_exact)
  weighted_drop [] (suc i) x h = sym (ap (λ t. zero_exact ⊞ cond t (scale (pos 0) l x) zero_exact) (leb-suc-zero (suc i)) ∙ sum_none zero_exact)
  weighted_drop (c ∷ cs) zero x h =
      sum_comm (scale c l x) (weighted l cs h) ∙ sym (ap (λ t. weighted l cs h ⊞ cond t (scale c l x) zero_exact) (leb-suc-suc 0 (length cs) ∙ leb-zero (length cs)))
  weighted_drop (c ∷ cs) (suc i) x h =
      weighted_drop cs i x h ∙ sym (ap (λ t. weighted l (drop (suc i) cs) h ⊞ cond t (scale (get_or cs i (pos 0)) l x) zero_exact) (leb-suc-suc (suc i) (length cs)))

-- ---- totals in turn
abbrev pub running : (Exact → Exact → Exact) → Exact → (ℕ → Exact) → ℕ → Exact
running f x p zero = x
running f x p (suc n) = f (running f x p n) (p n)

pub push_running : (f : Exact → Exact → Exact) (x : Exact) (p : ℕ → Exact) (n : ℕ) → push x (λ i. running f x p (suc i)) n ≡ running f x p n
push_running f x p zero = refl
push_running f x p (suc n) = refl

running_first : (f : Exact → Exact → Exact) (x : Exact) (p : ℕ → Exact) (n : ℕ) → running f x p (suc n) ≡ running f (f x (p 0)) (λ i. p (suc i)) n
running_first f x p zero = refl
running_first f x p (suc n) = ap (λ z. f z (p (suc n))) (running_first f x p n)

module _ (l : ℕ) where
  abbrev pub products : List ℤ → (ℕ → Exact) → ℕ → Exact
  products cs x i = scale (get_or cs i (pos 0)) l (x i)

  pub running_sum : (cs : List ℤ) (z : Exact) (x : ℕ → Exact) → running ◌⊞◌ z (products cs x) (length cs) ≡ z ⊞ weighted l cs x
  unfolding weighted
  running_sum [] z x = sym (sum_none z)
  running_sum (c ∷ cs) z x =
      running_first ◌⊞◌ z (products (c ∷ cs) x) (length cs)
      ∙ running_sum cs (z ⊞ scale c l (x 0)) (λ i. x (suc i))
      ∙ sum_assoc z (scale c l (x 0)) (weighted l cs (λ i. x (suc i)))

  pub running_less : (cs : List ℤ) (z : Exact) (x : ℕ → Exact) → running ◌⊟◌ z (products cs x) (length cs) ≡ z ⊟ weighted l cs x
  unfolding weighted
  running_less [] z x = sym (less_none z)
  running_less (c ∷ cs) z x =
      running_first ◌⊟◌ z (products (c ∷ cs) x) (length cs)
      ∙ running_less cs (z ⊟ scale c l (x 0)) (λ i. x (suc i))
      ∙ sum_assoc z (neg (scale c l (x 0))) (neg (weighted l cs (λ i. x (suc i))))
      ∙ ap (λ w. z ⊞ w) (sym (neg_sum (scale c l (x 0)) (weighted l cs (λ i. x (suc i)))))
