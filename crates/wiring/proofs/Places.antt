-- Lists related place by place.
use Rattle.std.proofs.Common.{ℕ, zero, suc, List, [], ◌∷◌, ◌++◌, map, get_or}
use Rattle.wiring.specs.Lists.{Each₂, none₂, more₂, Each₃, none₃, more₃, All, all_none, all_more}

pub all_at : {A : Type 0} {P : A → Type 0} {xs : List A} {d : A} → All P xs → P d → (i : ℕ) → P (get_or xs i d)
all_at all_none z i = z
all_at (all_more h hs) z zero = h
all_at (all_more h hs) z (suc i) = all_at hs z i

pub each₂_at : {A B : Type 0} {R : A → B → Type 0} {xs : List A} {ys : List B} {a : A} {b : B} → Each₂ R xs ys → R a b → (i : ℕ) → R (get_or xs i a) (get_or ys i b)
each₂_at none₂ z i = z
each₂_at (more₂ h hs) z zero = h
each₂_at (more₂ h hs) z (suc i) = each₂_at hs z i

pub each₂_push : {A B : Type 0} {R : A → B → Type 0} {xs : List A} {ys : List B} (x : A) (y : B) → Each₂ R xs ys → R x y → Each₂ R (xs ++ x ∷ []) (ys ++ y ∷ [])
each₂_push x y none₂ r = more₂ r none₂
each₂_push x y (more₂ s e) r = more₂ s (each₂_push x y e r)

-- P of each entry on the left goes along
pub each₂_with : {A B : Type 0} {P : A → Type 0} {R : A → B → Type 0} {xs : List A} {ys : List B} → All P xs → Each₂ R xs ys → Each₂ (λ a b. P a × R a b) xs ys
each₂_with all_none none₂ = none₂
each₂_with (all_more p ps) (more₂ h hs) = more₂ (p, h) (each₂_with ps hs)

module _ {A B C : Type 0} {R : A → B → C → Type 0} where
  pub each₃_at : {xs : List A} {ys : List B} {zs : List C} {a : A} {b : B} {c : C} → Each₃ R xs ys zs → R a b c → (i : ℕ) → R (get_or xs i a) (get_or ys i b) (get_or zs i c)
  each₃_at none₃ z i = z
  each₃_at (more₃ h hs) z zero = h
  each₃_at (more₃ h hs) z (suc i) = each₃_at hs z i

  pub each₃_push : {xs : List A} {ys : List B} {zs : List C} {a : A} {b : B} {c : C} → Each₃ R xs ys zs → R a b c → Each₃ R (xs ++ (a ∷ [])) (ys ++ (b ∷ [])) (zs ++ (c ∷ []))
  each₃_push none₃ z = more₃ z none₃
  each₃_push (more₃ h hs) z = more₃ h (each₃_push hs z)

  -- what registers take from related values is related
  pub each₃_taken : {xs : List A} {ys : List B} {zs : List C} {a : A} {b : B} {c : C} → Each₃ R xs ys zs → R a b c → (ss : List ℕ)
      → Each₃ R (map (λ s. get_or xs s a) ss) (map (λ s. get_or ys s b) ss) (map (λ s. get_or zs s c) ss)
  each₃_taken hs z [] = none₃
  each₃_taken hs z (s ∷ ss) = more₃ (each₃_at hs z s) (each₃_taken hs z ss)
