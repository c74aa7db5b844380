-- Lists place by place, and their sums.
use Rattle.std.proofs.Common.{◌≡◌, ℕ, zero, suc, ◌+◌, ◌*◌, ◌<◌, ◌≤◌, List, [], ◌∷◌, ◌++◌, map, length, get_or, refl, ap, ◌∙◌, subst, inl, inr, mul-one, mul-add, arith}
use Rattle.std.proofs.lemmas.Bool.{cases_lt}
use Rattle.wiring.specs.Lists.{Each₂, none₂, more₂, All, all_none, all_more}

pub each_length : {A B : Type 0} {R : A → B → Type 0} {xs : List A} {ys : List B} → Each₂ R xs ys → length xs ≡ length ys
each_length none₂ = refl
each_length (more₂ h hs) = ap suc (each_length hs)

pub each_refl : {A : Type 0} {R : A → A → Type 0} → ((a : A) → R a a) → (xs : List A) → Each₂ R xs xs
each_refl f [] = none₂
each_refl f (x ∷ xs) = more₂ (f x) (each_refl f xs)

pub each_flip : {A B : Type 0} {R : A → B → Type 0} {xs : List A} {ys : List B} → Each₂ R xs ys → Each₂ (λ b a. R a b) ys xs
each_flip none₂ = none₂
each_flip (more₂ h hs) = more₂ h (each_flip hs)

-- what holds below n and at n
pub below_more : (P : ℕ → Type 0) (n : ℕ) → ((k : ℕ) → k < n → P k) → P n → (k : ℕ) → k < n + 1 → P k
below_more P n f p k h = elim (cases_lt k n) [
  | inl low ↦ f k low
  | inr high ↦ subst P (let e : n ≡ k = omega arith in e) p
]

-- one more place
pub each_more : {A B : Type 0} {R : A → B → Type 0} {xs : List A} {ys : List B} {x : A} {y : B} → Each₂ R xs ys → R x y → Each₂ R (xs ++ x ∷ []) (ys ++ y ∷ [])
each_more none₂ r = more₂ r none₂
each_more (more₂ h hs) r = more₂ h (each_more hs r)

-- one relation after another
pub each_then : {A B C : Type 0} {R : A → B → Type 0} {S : B → C → Type 0} {T : A → C → Type 0} {xs : List A} {ys : List B} {zs : List C}
    → ((a : A) (b : B) (c : C) → R a b → S b c → T a c) → Each₂ R xs ys → Each₂ S ys zs → Each₂ T xs zs
each_then f none₂ none₂ = none₂
each_then f (more₂ h hs) (more₂ k ks) = more₂ (f _ _ _ h k) (each_then f hs ks)

-- both lists through functions
pub each_map : {A B C D : Type 0} {R : A → B → Type 0} {S : C → D → Type 0} (f : A → C) (g : B → D) {xs : List A} {ys : List B}
    → ((a : A) (b : B) → R a b → S (f a) (g b)) → Each₂ R xs ys → Each₂ S (map f xs) (map g ys)
each_map f g h none₂ = none₂
each_map f g h (more₂ k ks) = more₂ (h _ _ k) (each_map f g h ks)

-- the right list is the left one through a function
pub each_mapped : {A B : Type 0} {R : A → B → Type 0} (f : A → B) {xs : List A} {ys : List B} → ((a : A) (b : B) → R a b → f a ≡ b) → Each₂ R xs ys → map f xs ≡ ys
each_mapped f h none₂ = refl
each_mapped f h (more₂ {b = b} {xs = xs} r rs) = ap (λ y. y ∷ map f xs) (h _ _ r) ∙ ap (λ zs. b ∷ zs) (each_mapped f h rs)

pub each_map_self : {A B : Type 0} (f : A → B) (xs : List A) → Each₂ (λ a b. f a ≡ b) xs (map f xs)
each_map_self f [] = none₂
each_map_self f (x ∷ xs) = more₂ refl (each_map_self f xs)

-- related at each place
pub each_places : {A B : Type 0} (R : A → B → Type 0) (xs : List A) (ys : List B) (a : A) (b : B) → length xs ≡ length ys
    → ((i : ℕ) → i < length xs → R (get_or xs i a) (get_or ys i b)) → Each₂ R xs ys
each_places R [] [] a b e f = none₂
each_places R [] (y ∷ ys) a b e f = absurd (omega arith)
each_places R (x ∷ xs) [] a b e f = absurd (omega arith)
each_places R (x ∷ xs) (y ∷ ys) a b e f = more₂ (f 0 (omega arith)) (each_places R xs ys a b (omega arith) (λ i h. f (suc i) (omega arith)))

-- one value at every place is related to every list of that length
pub constant_below : {A B : Type 0} {R : A → B → Type 0} (a : A) → ((b : B) → R a b) → (ss : List ℕ) (ys : List B) → length ys ≡ length ss → Each₂ R (map (λ _. a) ss) ys
constant_below a f [] [] e = none₂
constant_below a f [] (y ∷ ys) e = absurd (omega arith)
constant_below a f (s ∷ ss) [] e = absurd (omega arith)
constant_below a f (s ∷ ss) (y ∷ ys) e = more₂ (f y) (constant_below a f ss ys (omega arith))

-- ---- sums
abbrev pub total : List ℕ → ℕ
total [] = 0
total (x ∷ xs) = x + total xs

pub total_below : {xs ys : List ℕ} → Each₂ ◌≤◌ xs ys → total xs ≤ total ys
total_below none₂ = omega arith
total_below (more₂ h hs) = let r = total_below hs in omega arith

pub total_less : {xs ys : List ℕ} → Each₂ ◌≤◌ xs ys → (i : ℕ) → i < length xs → get_or xs i 0 < get_or ys i 0 → total xs < total ys
total_less none₂ i h lt = absurd (omega arith)
total_less (more₂ h hs) zero k lt = let r = total_below hs in omega arith
total_less (more₂ h hs) (suc i) k lt = let r = total_less hs i (omega arith) lt in omega arith

pub total_within : (L : ℕ) {xs : List ℕ} → All (λ x. x ≤ L) xs → total xs ≤ L * length xs
total_within L all_none = omega arith
total_within L (all_more {xs = xs} h hs) =
    let r = total_within L hs in
    let m : L * (length xs + 1) ≡ L * length xs + L = mul-add L (length xs) 1 ∙ ap (λ z. L * length xs + z) (mul-one L) in
    omega arith
