-- The bytes of the schedule's lines. Assumes nothing.
use Rattle.std.specs.Prelude.{ℕ, List, [], ◌∷◌, ◌++◌, decimal}
use Rattle.schedule_text.specs.declared.outcome.Outcome.{Outcome}
use Rattle.schedule_text.specs.declared.outcome.Outcome.TheVariants.{Fits, NoSheet}

-- the words of the schedule
abbrev pub materials_word : List ℕ
materials_word = 109 ∷ 97 ∷ 116 ∷ 101 ∷ 114 ∷ 105 ∷ 97 ∷ 108 ∷ 115 ∷ []

abbrev pub refused_word : List ℕ
refused_word = 114 ∷ 101 ∷ 102 ∷ 117 ∷ 115 ∷ 101 ∷ 100 ∷ []

abbrev pub fits_word : List ℕ
fits_word = 102 ∷ 105 ∷ 116 ∷ 115 ∷ []

abbrev pub none_word : List ℕ
none_word = 110 ∷ 111 ∷ 110 ∷ 101 ∷ []

-- fields after the first: each begins with a tab, and a line feed ends the line
abbrev pub fields : List (List ℕ) → List ℕ
fields [] = 10 ∷ []
fields (x ∷ xs) = 9 ∷ (x ++ fields xs)

-- `materials` and the count
abbrev pub count_line : ℕ → List ℕ
count_line n = materials_word ++ fields (decimal n ∷ [])

-- `refused` and the number
abbrev pub refused_line : ℕ → List ℕ
refused_line n = refused_word ++ fields (decimal n ∷ [])

-- `fits`, output peak, output ceiling, N, output band; or `none`, number, node
abbrev pub fields_of : Outcome → List ℕ
fields_of (Fits f) = fields (fits_word ∷ decimal f.peak ∷ decimal f.ceiling ∷ decimal f.count ∷ decimal f.band ∷ [])
fields_of (NoSheet n k) = fields (none_word ∷ decimal n ∷ decimal k ∷ [])

-- the line of a material: its name, then these
abbrev pub line : List ℕ → Outcome → List ℕ
line name o = name ++ fields_of o
