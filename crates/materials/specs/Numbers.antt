-- The refusals by number and record alone: a table that knows no cases, which the cases of the code refine. Assumes nothing.
use Rattle.std.specs.Prelude.{◌≡◌, ℕ, ◌+◌, ◌*◌, Bool, true, cond, ◌&&◌, ◌⊎◌, List, [], ◌∷◌, ◌++◌, length, is_some, Some, None, Option, Result, MatchResult, ◌==◌, nat_le}
use Rattle.materials.specs.declared.refusal.Refusal.{Refusal}
use Rattle.materials.specs.declared.refusal.Refusal.TheVariants.{OutOfMemory}
use Rattle.materials.specs.Layout.{Material, encode}
use Rattle.materials.specs.Letters.{form_ok, rounding_ok, overflow_ok}
use Rattle.materials.specs.Refusals.{first, or_else, number, record_number}
use Rattle.materials.specs.Records.{Shape, every, printable, words_ok, unwritten, shape, material, name_of, has_name}
use Rattle.materials.specs.Files.{count_of, directory, parts, stands_for}

-- a number and a record, where there are such
abbrev pub Told : Type 0
Told = Option ℕ × Option ℕ

-- what a refusal tells
abbrev pub told : Refusal → Told
told e = (number e, record_number e)

-- a number without a record
abbrev pub plain : ℕ → Told
plain n = (Some n, None)

-- all of them hold
abbrev pub all : List Bool → Bool
all [] = true
all (b ∷ bs) = b && all bs

-- one record by itself
abbrev pub record_table : Shape → Material → List (Bool × ℕ)
record_table s m =
    (all (s.some ∷ (nat_le 1 s.size && nat_le s.size 40) ∷ s.room ∷ every printable m.name ∷ []), 4)
    ∷ (all (form_ok m.form ∷ rounding_ok m.rounding ∷ overflow_ok m.overflow ∷ []), 5)
    ∷ (all (nat_le 1 m.whole ∷ nat_le 1 m.fraction ∷ (nat_le 8 (m.whole + m.fraction) && nat_le (m.whole + m.fraction) 24) ∷ []), 6)
    ∷ (all ((nat_le 1 (length m.forward) && nat_le (length m.forward) 9) ∷ nat_le (length m.back) 8 ∷ []), 7)
    ∷ (s.exact, 8)
    ∷ (words_ok (m.whole + m.fraction) m.forward && words_ok (m.whole + m.fraction) m.back, 9)
    ∷ []

-- a record's number with what is wrong with it, or what comes after that record
abbrev pub with_record : ℕ → Option ℕ → Option Told → Option Told
with_record n (Some k) o = Some (Some k, Some n)
with_record n None o = o

-- records in their order, the first with the number n, after records of these names
abbrev pub records_table : {X : Type 0} → (X → Option ℕ) → (X → List ℕ) → List (List ℕ) → ℕ → List X → Option Told
records_table own called earlier n [] = None
records_table own called earlier n (x ∷ xs) = with_record n (or_else (own x) (cond (has_name earlier (called x)) (Some 10) None)) (records_table own called (earlier ++ called x ∷ []) (n + 1) xs)

-- the first pair begins at the offset, each other where the one before ends, and the file ends with the last
abbrev pub in_place : ℕ → List (ℕ × ℕ) → ℕ → Bool
in_place offset [] end = offset == end
in_place offset (p ∷ ps) end = p.0 == offset && in_place (offset + p.1) ps end

-- a file
abbrev pub file_table : List ℕ → Option Told
file_table f = or_else
    (first (
    (nat_le 2 (length f) && nat_le (length f) 65000, plain 1)
    ∷ (all (nat_le (count_of f) 512 ∷ nat_le (2 + 6 * count_of f) (length f) ∷ []), plain 2)
    ∷ (in_place (2 + 6 * count_of f) (directory f) (length f), plain 3)
    ∷ []))
    (records_table (λ p. first (record_table (shape p) (material p))) name_of [] 1 (parts f))

-- a look-up, after the file
abbrev pub look_up_table : List ℕ → List ℕ → Option Told
look_up_table f name = or_else (file_table f) (first ((is_some (stands_for f name), plain 11) ∷ []))

-- a write
abbrev pub write_table : List Material → ℕ → Option Told
write_table ms room = or_else
    (first ((nat_le (length ms) 512, plain 2) ∷ []))
    (or_else
    (records_table (λ m. first (record_table (unwritten m.name) m)) (λ m. m.name) [] 1 ms)
    (first ((nat_le (length (encode ms)) room, plain 23) ∷ [])))

-- an answer tells the number and the record of the table, or the table has none
abbrev pub Tells : {X : Type 0} → Option Told → Result X Refusal → Type 0
Tells o r = MatchResult r (λ _. o ≡ None) (λ e. o ≡ Some (told e))

-- the same of a call that needs memory, whose want is told only where the table has none
abbrev pub TellsOrMemory : {X : Type 0} → Option Told → Result X Refusal → Type 0
TellsOrMemory o r = MatchResult r (λ _. o ≡ None) (λ e. (o ≡ Some (told e)) ⊎ ((o ≡ None) × (e ≡ OutOfMemory)))
