-- A program: a checked wiring with a coefficient list.
use Rattle.std.specs.Prelude.{ℕ, ◌^◌, Bool, true, not, ◌&&◌, List, [], ◌∷◌, length, ℤ, is_some, Option, ◌==◌, nat_le, unsigned_abs}
use Rattle.std.specs.Option.{option_map}
use Rattle.arithmetic.specs.declared.format.Format.{Format}
use Rattle.arithmetic.specs.Words.{inside}
use Rattle.arithmetic.specs.Formats.{width}
use Rattle.wiring.specs.declared.faults.ProgramFault.{ProgramFault}
use Rattle.wiring.specs.declared.faults.ProgramFault.TheVariants.{Wiring, OtherLength, Coefficient}
use Rattle.wiring.specs.Graphs.{Graph}
use Rattle.wiring.specs.Checks.{unless, first, scan, naming_fault, wiring_fault, wiring_number}

abbrev pub program_number : ProgramFault → ℕ
program_number (Wiring f) = wiring_number f
program_number OtherLength = 17
program_number (Coefficient i) = 9

-- the coefficients in order, each a word of w bits
abbrev pub word_fault : ℕ → ℕ → ℤ → Option ProgramFault
word_fault w i c = unless (inside w c) (Coefficient i)

abbrev pub words_fault : ℕ → List ℤ → Option ProgramFault
words_fault w cs = scan (word_fault w) 0 cs

-- a coefficient list for a wiring: as many as it has, each a word
abbrev pub list_fault : ℕ → ℕ → List ℤ → Option ProgramFault
list_fault w n cs = first (unless (length cs == n) OtherLength) (words_fault w cs)

abbrev pub program_fault : Format → Graph → List ℤ → Option ProgramFault
program_fault f g cs = first (option_map Wiring (wiring_fault g)) (list_fault (width f) g.coefficients cs)

-- no coefficient has more than 24 bits
abbrev pub all_small : List ℤ → Bool
all_small [] = true
all_small (c ∷ cs) = nat_le (unsigned_abs c) (2 ^ 23) && all_small cs

-- what every program keeps: all that is named is there, and coefficients are as many as the wiring has, and small
abbrev pub sound : Graph → List ℤ → Bool
sound g cs = not (is_some (naming_fault g)) && (length cs == g.coefficients && all_small cs)
