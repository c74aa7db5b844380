-- Cutting a text at a byte.
use Rattle.std.proofs.Common.{◌≡◌, ℕ, Bool, true, false, cond, eqb, List, [], ◌∷◌, ◌++◌, sym, refl, ap, ◌∙◌, append_assoc, append-nil}
use Rattle.std.specs.List.{slice_split, onto_first}
use Rattle.console_text.specs.Pieces.{ended, rest, pieces}

-- the lists with these bytes put before the first
abbrev onto : List ℕ → List (List ℕ) → List (List ℕ)
onto begun [] = begun ∷ []
onto begun (p ∷ ps) = (begun ++ p) ∷ ps

onto_one : (begun : List ℕ) (b : ℕ) (l : List (List ℕ)) → onto (begun ++ b ∷ []) l ≡ onto begun (onto_first b l)
onto_one begun b [] = refl
onto_one begun b (p ∷ ps) = ap (λ z. z ∷ ps) (append_assoc begun (b ∷ []) p)

none_step : (t : Bool) (b : ℕ) (l : List (List ℕ)) → onto [] (cond t ([] ∷ l) (onto_first b l)) ≡ cond t ([] ∷ l) (onto_first b l)
none_step true b l = refl
none_step false b [] = refl
none_step false b (p ∷ ps) = refl

module _ (at : ℕ) where
  abbrev split : List ℕ → List (List ℕ)
  split bs = slice_split (λ b. eqb b at) bs

  onto_none : (bs : List ℕ) → onto [] (split bs) ≡ split bs
  onto_none [] = refl
  onto_none (b ∷ bs) = none_step (eqb b at) b (split bs)

  split_step : (t : Bool) (begun : List ℕ) (b : ℕ) (bs : List ℕ) → ended at [] bs ++ rest at [] bs ∷ [] ≡ onto [] (split bs)
      → ended at (begun ++ b ∷ []) bs ++ rest at (begun ++ b ∷ []) bs ∷ [] ≡ onto (begun ++ b ∷ []) (split bs)
      → cond t (begun ∷ ended at [] bs) (ended at (begun ++ b ∷ []) bs) ++ rest at (cond t [] (begun ++ b ∷ [])) bs ∷ [] ≡ onto begun (cond t ([] ∷ split bs) (onto_first b (split bs)))
  split_step true begun b bs anew on = λ i. sym (append-nil begun) i ∷ (anew ∙ onto_none bs) i
  split_step false begun b bs anew on = on ∙ onto_one begun b (split bs)

  split_from : (begun bs : List ℕ) → ended at begun bs ++ rest at begun bs ∷ [] ≡ onto begun (split bs)
  split_from begun [] = ap (λ z. z ∷ []) (sym (append-nil begun))
  split_from begun (b ∷ bs) = split_step (eqb b at) begun b bs (split_from [] bs) (split_from (begun ++ b ∷ []) bs)

  -- the pieces are those of the library's cut
  pub split_pieces : (bs : List ℕ) → split bs ≡ pieces at bs
  split_pieces bs = sym (split_from [] bs ∙ onto_none bs)
