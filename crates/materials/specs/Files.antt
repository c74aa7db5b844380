-- Where the records of a file lie, and what of a whole file or list is refused. Assumes nothing.
use Rattle.std.specs.Prelude.{ℕ, zero, suc, ◌+◌, ◌*◌, Bool, cond, ◌&&◌, List, [], ◌∷◌, ◌++◌, map, length, take, drop, is_some, Some, None, Option, ◌==◌, nat_le}
use Rattle.std.specs.Str.{bytes_eq}
use Rattle.materials.specs.declared.refusal.RecordFault.{RecordFault}
use Rattle.materials.specs.declared.refusal.RecordFault.TheVariants.{NameUsedEarlier}
use Rattle.materials.specs.declared.refusal.Refusal.{Refusal}
use Rattle.materials.specs.declared.refusal.Refusal.TheVariants.{FileSize, RecordCount, PairsPastEnd, PairOutOfPlace, FileEndOutOfPlace, InRecord, NoSuchName, DestinationTooShort}
use Rattle.materials.specs.Layout.{Material, encode, two_at, four_at}
use Rattle.materials.specs.Refusals.{first, or_else}
use Rattle.materials.specs.Records.{material_fault, part_fault, name_of, has_name}

-- the count of records that a file begins with
abbrev pub count_of : List ℕ → ℕ
count_of f = two_at f

-- the pair that the first six bytes are, offset and length
abbrev pub pair_in : List ℕ → ℕ × ℕ
pair_in bs = (four_at bs, two_at (drop 4 bs))

-- the first n pairs
abbrev pub pairs_of : ℕ → List ℕ → List (ℕ × ℕ)
pairs_of zero bs = []
pairs_of (suc n) bs = pair_in bs ∷ pairs_of n (drop 6 bs)

-- all pairs of a file
abbrev pub directory : List ℕ → List (ℕ × ℕ)
directory f = pairs_of (count_of f) (drop 2 f)

-- the bytes at an offset, of a length
abbrev pub part_at : List ℕ → ℕ × ℕ → List ℕ
part_at f p = take p.1 (drop p.0 f)

-- the parts of a file that are its records
abbrev pub parts : List ℕ → List (List ℕ)
parts f = map (part_at f) (directory f)

-- 3: pair n begins at the offset, each other where the one before ends, and the file ends with the last
abbrev pub misplaced : ℕ → ℕ → List (ℕ × ℕ) → ℕ → Option Refusal
misplaced n offset [] end = cond (offset == end) None (Some FileEndOutOfPlace)
misplaced n offset (p ∷ ps) end = cond (p.0 == offset) (misplaced (n + 1) (offset + p.1) ps end) (Some (PairOutOfPlace n))

-- 1 and 2 of a file
abbrev pub size_rows : List ℕ → List (Bool × Refusal)
size_rows f =
    (nat_le 2 (length f) && nat_le (length f) 65000, FileSize)
    ∷ (nat_le (count_of f) 512, RecordCount)
    ∷ (nat_le (2 + 6 * count_of f) (length f), PairsPastEnd)
    ∷ []

abbrev pub size_fault : List ℕ → Option Refusal
size_fault f = first (size_rows f)

-- 1 to 3 of a file: the first record begins where the pairs end
abbrev pub file_fault : List ℕ → Option Refusal
file_fault f = or_else (size_fault f) (misplaced 1 (2 + 6 * count_of f) (directory f) (length f))

-- a record's fault with its number, or what comes after that record
abbrev pub numbered : ℕ → Option RecordFault → Option Refusal → Option Refusal
numbered n (Some e) o = Some (InRecord n e)
numbered n None o = o

-- 10: the name is one of those used earlier
abbrev pub used_fault : List (List ℕ) → List ℕ → Option RecordFault
used_fault earlier name = cond (has_name earlier name) (Some NameUsedEarlier) None

-- 4 to 10: the first thing wrong in a list whose first element has the number n, after records of these names
abbrev pub faults_in : {X : Type 0} → (X → Option RecordFault) → (X → List ℕ) → List (List ℕ) → ℕ → List X → Option Refusal
faults_in own called earlier n [] = None
faults_in own called earlier n (x ∷ xs) = numbered n (or_else (own x) (used_fault earlier (called x))) (faults_in own called (earlier ++ called x ∷ []) (n + 1) xs)

-- the same of the parts of a file
abbrev pub records_fault : List (List ℕ) → ℕ → List (List ℕ) → Option Refusal
records_fault earlier n ps = faults_in part_fault name_of earlier n ps

-- and of materials that are to be written
abbrev pub materials_fault : List (List ℕ) → ℕ → List Material → Option Refusal
materials_fault earlier n ms = faults_in material_fault (λ m. m.name) earlier n ms

-- why a file is refused, if it is
abbrev pub refusal : List ℕ → Option Refusal
refusal f = or_else (file_fault f) (records_fault [] 1 (parts f))

-- the number of the record that stands for a name: the first of that name
abbrev pub standing : ℕ → List (List ℕ) → List ℕ → Option ℕ
standing n [] name = None
standing n (p ∷ ps) name = cond (bytes_eq (name_of p) name) (Some n) (standing (n + 1) ps name)

-- the same in a file, whose records count from 1
abbrev pub stands_for : List ℕ → List ℕ → Option ℕ
stands_for f name = standing 1 (parts f) name

-- why a look-up is refused, if it is
abbrev pub look_up_refusal : List ℕ → List ℕ → Option Refusal
look_up_refusal f name = or_else (refusal f) (cond (is_some (stands_for f name)) None (Some NoSuchName))

-- why these materials are no file, if they are none: 2, then 4 to 7, 9, 10
abbrev pub materials_refusal : List Material → Option Refusal
materials_refusal ms = or_else (first ((nat_le (length ms) 512, RecordCount) ∷ [])) (materials_fault [] 1 ms)

-- why they are not written into a destination of this length, if they are not
abbrev pub write_refusal : List Material → ℕ → Option Refusal
write_refusal ms room = or_else (materials_refusal ms) (cond (nat_le (length (encode ms)) room) None (Some DestinationTooShort))
