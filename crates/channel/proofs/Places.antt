-- Lists related place by place.
use Rattle.std.proofs.Common.{◌≡◌, ℕ, List, [], ◌∷◌, map, length, refl, arith}
use Rattle.wiring.specs.Lists.{Each₂, none₂, more₂, Each₃, none₃, more₃}

-- the same three at each place
pub each₃_same : {A B C : Type 0} {R : A → B → C → Type 0} (a : A) (b : B) (c : C) → R a b c → (ss : List ℕ) → Each₃ R (map (λ _. a) ss) (map (λ _. b) ss) (map (λ _. c) ss)
each₃_same a b c z [] = none₃
each₃_same a b c z (s ∷ ss) = more₃ z (each₃_same a b c z ss)

pub each₃_map : {A B C : Type 0} {R S : A → B → C → Type 0} {xs : List A} {ys : List B} {zs : List C}
    → ((a : A) (b : B) (c : C) → R a b c → S a b c) → Each₃ R xs ys zs → Each₃ S xs ys zs
each₃_map f none₃ = none₃
each₃_map f (more₃ h hs) = more₃ (f _ _ _ h) (each₃_map f hs)

-- two steps from xs
pub each₂_both : {A B C : Type 0} {R : A → B → Type 0} {S : A → C → Type 0} {T : B → C → Type 0} {xs : List A} {ys : List B} {zs : List C}
    → ((a : A) (b : B) (c : C) → R a b → S a c → T b c) → Each₂ R xs ys → Each₂ S xs zs → Each₂ T ys zs
each₂_both f none₂ none₂ = none₂
each₂_both f (more₂ h hs) (more₂ k ks) = more₂ (f _ _ _ h k) (each₂_both f hs ks)

pub each₃_both : {A B C D : Type 0} {R : A → B → Type 0} {S : A → C → D → Type 0} {T : B → C → D → Type 0} {xs : List A} {ys : List B} {zs : List C} {ws : List D}
    → ((a : A) (b : B) (c : C) (d : D) → R a b → S a c d → T b c d) → Each₂ R xs ys → Each₃ S xs zs ws → Each₃ T ys zs ws
each₃_both f none₂ none₃ = none₃
each₃_both f (more₂ h hs) (more₃ k ks) = more₃ (f _ _ _ _ h k) (each₃_both f hs ks)

-- the first two of three, the first through a function
pub each₃_left : {A B C D : Type 0} {R : A → B → C → Type 0} {S : D → B → Type 0} (g : A → D) {xs : List A} {ys : List B} {zs : List C}
    → ((a : A) (b : B) (c : C) → R a b c → S (g a) b) → Each₃ R xs ys zs → Each₂ S (map g xs) ys
each₃_left g f none₃ = none₂
each₃_left g f (more₃ h hs) = more₂ (f _ _ _ h) (each₃_left g f hs)

pub each₂_equal : {A : Type 0} {xs ys : List A} → Each₂ ◌≡◌ xs ys → xs ≡ ys
each₂_equal none₂ = refl
each₂_equal (more₂ {a = a} {b = b} {xs = xs} {ys = ys} h hs) = let t = each₂_equal hs in cc

-- what relates each entry to one value
pub each₂_one : {A B : Type 0} {R : A → B → Type 0} (b : B) → ((a : A) → R a b) → (xs : List A) (ss : List ℕ) → length xs ≡ length ss → Each₂ R xs (map (λ _. b) ss)
each₂_one b f [] [] e = none₂
each₂_one b f [] (s ∷ ss) e = absurd (omega arith)
each₂_one b f (x ∷ xs) [] e = absurd (omega arith)
each₂_one b f (x ∷ xs) (s ∷ ss) e = more₂ (f x) (each₂_one b f xs ss (omega arith))

pub each₃_one : {A B C : Type 0} {R : A → B → C → Type 0} (b : B) (c : C) → ((a : A) → R a b c) → (xs : List A) (ss : List ℕ) → length xs ≡ length ss → Each₃ R xs (map (λ _. b) ss) (map (λ _. c) ss)
each₃_one b c f [] [] e = none₃
each₃_one b c f [] (s ∷ ss) e = absurd (omega arith)
each₃_one b c f (x ∷ xs) [] e = absurd (omega arith)
each₃_one b c f (x ∷ xs) (s ∷ ss) e = more₃ (f x) (each₃_one b c f xs ss (omega arith))
