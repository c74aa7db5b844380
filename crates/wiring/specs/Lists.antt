-- Relations between lists, place by place.
use Rattle.std.specs.Prelude.{List, [], ◌∷◌}

-- as long as each other, and R at each place
pub data Each₂ {A B : Type 0} (R : A → B → Type 0) : List A → List B → Type 0 where
  none₂ : Each₂ R [] []
  more₂ : {a : A} {b : B} {xs : List A} {ys : List B} → R a b → Each₂ R xs ys → Each₂ R (a ∷ xs) (b ∷ ys)

-- the same of three lists
pub data Each₃ {A B C : Type 0} (R : A → B → C → Type 0) : List A → List B → List C → Type 0 where
  none₃ : Each₃ R [] [] []
  more₃ : {a : A} {b : B} {c : C} {xs : List A} {ys : List B} {zs : List C} → R a b c → Each₃ R xs ys zs → Each₃ R (a ∷ xs) (b ∷ ys) (c ∷ zs)

-- P of each entry
pub data All {A : Type 0} (P : A → Type 0) : List A → Type 0 where
  all_none : All P []
  all_more : {a : A} {xs : List A} → P a → All P xs → All P (a ∷ xs)
