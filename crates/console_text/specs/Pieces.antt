-- A text cut at a byte.
use Rattle.std.specs.Prelude.{ℕ, cond, List, [], ◌∷◌, ◌++◌, ◌==◌}

-- the pieces that the byte ends, where the first has begun with these bytes
abbrev pub ended : ℕ → List ℕ → List ℕ → List (List ℕ)
ended at begun [] = []
ended at begun (b ∷ bs) = cond (b == at) (begun ∷ ended at [] bs) (ended at (begun ++ b ∷ []) bs)

-- what stands behind the last of them
abbrev pub rest : ℕ → List ℕ → List ℕ → List ℕ
rest at begun [] = begun
rest at begun (b ∷ bs) = rest at (cond (b == at) [] (begun ++ b ∷ [])) bs

-- the pieces between the bytes
abbrev pub pieces : ℕ → List ℕ → List (List ℕ)
pieces at bs = ended at [] bs ++ rest at [] bs ∷ []

-- a last line without a line feed is a line too, unless it is empty
abbrev pub unless_empty : List ℕ → List (List ℕ)
unless_empty [] = []
unless_empty (b ∷ bs) = (b ∷ bs) ∷ []

-- the lines of a text, without the line feed (10) that ends each
abbrev pub lines : List ℕ → List (List ℕ)
lines bs = ended 10 [] bs ++ unless_empty (rest 10 [] bs)
