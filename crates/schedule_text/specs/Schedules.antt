-- The text of the schedule as a function of the file. Assumes nothing.
use Rattle.std.specs.Prelude.{◌≡◌, ℕ, List, [], ◌∷◌, ◌++◌, map, length, Some, None, Option}
use Rattle.wiring.specs.Lists.{Each₂}
use Rattle.materials.specs.declared.refusal.Refusal.{Refusal}
use Rattle.materials.specs.Layout.{Material}
use Rattle.materials.specs.Records.{material}
use Rattle.materials.specs.Refusals.{number}
use Rattle.materials.specs.Files.{parts, refusal}
use Rattle.schedule_text.specs.declared.outcome.Outcome.{Outcome}
use Rattle.schedule_text.specs.Outcomes.{OutcomeOf}
use Rattle.schedule_text.specs.Lines.{line, count_line, refused_line}

-- the bytes are those of the material's line
abbrev pub LineOf : Material → List ℕ → Type 0
LineOf m bytes = (o : Outcome) × OutcomeOf m o × (bytes ≡ line m.name o)

-- lines one after another
abbrev pub joined_lines : List (List ℕ) → List ℕ
joined_lines [] = []
joined_lines (l ∷ ls) = l ++ joined_lines ls

-- a text, and the same with the lines of these materials behind it
abbrev pub LinesOf : List Material → List ℕ → List ℕ → Type 0
LinesOf ms before after = (ls : List (List ℕ)) × Each₂ LineOf ms ls × (after ≡ before ++ joined_lines ls)

-- the materials of a file, in its order
abbrev pub materials_of : List ℕ → List Material
materials_of f = map material (parts f)

-- a refused file gives its number, another the count of its materials and then their lines
abbrev pub TextOf : Option Refusal → List Material → List ℕ → Type 0
TextOf (Some e) ms text = (n : ℕ) × (number e ≡ Some n) × (text ≡ refused_line n)
TextOf None ms text = LinesOf ms (count_line (length ms)) text

-- the text for a file; it says nothing of when memory is wanting for the text
abbrev pub ScheduleOf : List ℕ → List ℕ → Type 0
ScheduleOf f text = TextOf (refusal f) (materials_of f) text
