-- The number of each refusal, and the record that it speaks of. Assumes nothing.
use Rattle.std.specs.Prelude.{◌≡◌, ℕ, Bool, cond, ◌⊎◌, List, [], ◌∷◌, Some, None, Option, Result, MatchResult}
use Rattle.materials.specs.declared.refusal.RecordFault.{RecordFault}
use Rattle.materials.specs.declared.refusal.RecordFault.TheVariants.{Empty, NameSize, TooShort, NameByte, FormLetter, RoundingLetter, OverflowLetter, WholeBits, FractionBits, Width, FeedforwardCount, FeedbackCount, Length, Coefficient, NameUsedEarlier}
use Rattle.materials.specs.declared.refusal.Refusal.{Refusal}
use Rattle.materials.specs.declared.refusal.Refusal.TheVariants.{FileSize, RecordCount, PairsPastEnd, PairOutOfPlace, FileEndOutOfPlace, InRecord, NoSuchName, DestinationTooShort, OutOfMemory}

-- the number of each fault of a record
abbrev pub fault_number : RecordFault → ℕ
fault_number Empty = 4
fault_number NameSize = 4
fault_number TooShort = 4
fault_number NameByte = 4
fault_number FormLetter = 5
fault_number RoundingLetter = 5
fault_number OverflowLetter = 5
fault_number WholeBits = 6
fault_number FractionBits = 6
fault_number Width = 6
fault_number FeedforwardCount = 7
fault_number FeedbackCount = 7
fault_number Length = 8
fault_number Coefficient = 9
fault_number NameUsedEarlier = 10

-- the number of each refusal; want of memory has none
abbrev pub number : Refusal → Option ℕ
number FileSize = Some 1
number RecordCount = Some 2
number PairsPastEnd = Some 2
number (PairOutOfPlace n) = Some 3
number FileEndOutOfPlace = Some 3
number (InRecord n e) = Some (fault_number e)
number NoSuchName = Some 11
number DestinationTooShort = Some 23
number OutOfMemory = None

-- the record that a refusal speaks of, from 1, where it speaks of one
abbrev pub record_number : Refusal → Option ℕ
record_number FileSize = None
record_number RecordCount = None
record_number PairsPastEnd = None
record_number (PairOutOfPlace n) = None
record_number FileEndOutOfPlace = None
record_number (InRecord n e) = Some n
record_number NoSuchName = None
record_number DestinationTooShort = None
record_number OutOfMemory = None

-- the case of the first row whose test fails
abbrev pub first : {X : Type 0} → List (Bool × X) → Option X
first [] = None
first (t ∷ ts) = cond t.0 (first ts) (Some t.1)

-- the first of two answers, if there is one, else the second
abbrev pub or_else : {X : Type 0} → Option X → Option X → Option X
or_else (Some x) o = Some x
or_else None o = o

-- a check passes where nothing is wrong, and else tells what is
abbrev pub Checks : {X E : Type 0} → Option E → Result X E → Type 0
Checks o r = MatchResult r (λ _. o ≡ None) (λ e. o ≡ Some e)

-- where a call needs memory, its want is left open: it may be told only where nothing else is wrong
abbrev pub RefusedOrMemory : Option Refusal → Refusal → Type 0
RefusedOrMemory o e = (o ≡ Some e) ⊎ ((o ≡ None) × (e ≡ OutOfMemory))
