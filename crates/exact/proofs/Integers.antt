-- Laws of the integers that the library lacks.
use Rattle.std.proofs.Common.{◌≡◌, ℕ, suc, ◌+◌, ◌*◌, ◌^◌, ◌<◌, ◌≤◌, ℤ, pos, negsuc, ◌+ℤ◌, ◌*ℤ◌, neg_ℤ, ◌≤ℤ◌, sym, refl, ap, ◌∙◌, mul-le-mul_right, le_of_mul-le-mul_right, arith, pow_pos, pow-add}
use lib.IntN.{*ℤ_comm, +ℤ_comm, +ℤ_assoc, neg_ℤ-neg_ℤ, neg_ℤ-+ℤ}
use Rattle.exact.specs.Numbers.{two}
use borrow.Author.Differences.{ints, up, down, same_in, sum_is_lem, neg_is, product_is, le_out, at_most_in}

pub *ℤ_distl : (a b c : ℤ) → a *ℤ (b +ℤ c) ≡ a *ℤ b +ℤ a *ℤ c
*ℤ_distl a b c =
    let u = ap (λ x. up a * x) (sum_is_lem b c) in
    let d = ap (λ x. down a * x) (sum_is_lem b c) in
    omega (arith, same_in, sum_is_lem, product_is)

pub *ℤ_distr : (a b c : ℤ) → (a +ℤ b) *ℤ c ≡ a *ℤ c +ℤ b *ℤ c
*ℤ_distr a b c =
    let u = ap (λ x. x * up c) (sum_is_lem a b) in
    let d = ap (λ x. x * down c) (sum_is_lem a b) in
    omega (arith, same_in, sum_is_lem, product_is)

pub *ℤ_neg : (a b : ℤ) → a *ℤ neg_ℤ b ≡ neg_ℤ (a *ℤ b)
*ℤ_neg a b =
    let u = ap (λ x. up a * x) (neg_is b).0 in
    let v = ap (λ x. up a * x) (neg_is b).1 in
    let w = ap (λ x. down a * x) (neg_is b).0 in
    let z = ap (λ x. down a * x) (neg_is b).1 in
    omega (arith, same_in, neg_is, product_is)

pub *ℤ_assoc : (a b c : ℤ) → a *ℤ b *ℤ c ≡ a *ℤ (b *ℤ c)
*ℤ_assoc a b c =
    let p = product_is a b in
    let q = product_is b c in
    let e₁ = ap (λ x. x * up c) p.0 in
    let e₂ = ap (λ x. x * down c) p.0 in
    let e₃ = ap (λ x. x * up c) p.1 in
    let e₄ = ap (λ x. x * down c) p.1 in
    let f₁ = ap (λ x. up a * x) q.0 in
    let f₂ = ap (λ x. down a * x) q.0 in
    let f₃ = ap (λ x. up a * x) q.1 in
    let f₄ = ap (λ x. down a * x) q.1 in
    omega (arith, same_in, product_is)

pub *ℤ_left_comm : (a b c : ℤ) → a *ℤ (b *ℤ c) ≡ b *ℤ (a *ℤ c)
*ℤ_left_comm a b c = sym (*ℤ_assoc a b c) ∙ ap (λ x. x *ℤ c) (*ℤ_comm a b) ∙ *ℤ_assoc b a c

pub *ℤ_one' : (a : ℤ) → a *ℤ pos 1 ≡ a
*ℤ_one' a = omega (arith, ints)

pub one-*ℤ : (a : ℤ) → pos 1 *ℤ a ≡ a
one-*ℤ a = omega (arith, ints)

pub +ℤ_left_comm : (a b c : ℤ) → a +ℤ (b +ℤ c) ≡ b +ℤ (a +ℤ c)
+ℤ_left_comm a b c = omega (arith, ints)

pub neg-*ℤ : (a b : ℤ) → neg_ℤ a *ℤ b ≡ neg_ℤ (a *ℤ b)
neg-*ℤ a b = *ℤ_comm (neg_ℤ a) b ∙ *ℤ_neg b a ∙ ap neg_ℤ (*ℤ_comm b a)

pub ≤ℤ_trans : (a b c : ℤ) → a ≤ℤ b → b ≤ℤ c → a ≤ℤ c
≤ℤ_trans a b c h k = omega (arith, ints)

pub ≤ℤ_antisym : (a b : ℤ) → a ≤ℤ b → b ≤ℤ a → a ≡ b
≤ℤ_antisym a b h k = omega (arith, ints)

pub +ℤ_mono : (a b c d : ℤ) → a ≤ℤ b → c ≤ℤ d → (a +ℤ c) ≤ℤ (b +ℤ d)
+ℤ_mono a b c d h k = omega (arith, ints)

pub neg_mono : (a b : ℤ) → a ≤ℤ b → neg_ℤ b ≤ℤ neg_ℤ a
neg_mono a b h = omega (arith, ints)

pub *ℤ_mono : (n : ℕ) (a b : ℤ) → a ≤ℤ b → (a *ℤ pos n) ≤ℤ (b *ℤ pos n)
*ℤ_mono n a b h = let k = mul-le-mul_right n (le_out a b h) in omega (arith, at_most_in, product_is)

pub *ℤ_cancel : (n : ℕ) (a b : ℤ) → 0 < n → (a *ℤ pos n) ≤ℤ (b *ℤ pos n) → a ≤ℤ b
*ℤ_cancel n a b p h =
    let k : (up a + down b) * n ≤ (up b + down a) * n = omega (arith, le_out, product_is) in
    let j = le_of_mul-le-mul_right k p in
    omega (arith, at_most_in)

pub *ℤ_mono_neg : (n : ℕ) (a b : ℤ) → a ≤ℤ b → (b *ℤ negsuc n) ≤ℤ (a *ℤ negsuc n)
*ℤ_mono_neg n a b h = let k = mul-le-mul_right (suc n) (le_out a b h) in omega (arith, at_most_in, product_is)

pub two_zero : two 0 ≡ pos 1
unfolding two
two_zero = refl

pub two_add : (m n : ℕ) → two (m + n) ≡ two m *ℤ two n
unfolding two
two_add m n = ap pos (pow-add 2 m n)

pub two_suc : (n : ℕ) → two (suc n) ≡ two n +ℤ two n
unfolding two
two_suc n = ap pos (omega arith)

pub two_mono : (n : ℕ) (a b : ℤ) → a ≤ℤ b → (a *ℤ two n) ≤ℤ (b *ℤ two n)
unfolding two
two_mono n = *ℤ_mono (2 ^ n)

pub two_cancel : (n : ℕ) (a b : ℤ) → (a *ℤ two n) ≤ℤ (b *ℤ two n) → a ≤ℤ b
unfolding two
two_cancel n a b = *ℤ_cancel (2 ^ n) a b (pow_pos n)

-- the ring laws, for `simp ring`
pub ruleset ring = (*ℤ_distl, *ℤ_distr, *ℤ_neg, neg-*ℤ, neg_ℤ-neg_ℤ, neg_ℤ-+ℤ, *ℤ_assoc, *ℤ_comm, *ℤ_left_comm, +ℤ_assoc, +ℤ_comm, +ℤ_left_comm, two_add)
