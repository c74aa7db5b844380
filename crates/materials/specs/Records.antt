-- What of one record is refused: a decision table, whose first failing row is told. Assumes nothing.
use Rattle.std.specs.Prelude.{◌≡◌, ℕ, ◌+◌, ◌*◌, ◌/◌, Bool, true, ◌&&◌, List, [], ◌∷◌, ◌++◌, length, take, drop, ℤ, Some, None, Option, Result, MatchResult, ◌==◌, nat_le, slice_index}
use Rattle.std.specs.Str.{bytes_eq}
use Rattle.std.specs.List.{list_all, list_any}
use Rattle.arithmetic.specs.declared.format.Format.{Format}
use Rattle.arithmetic.specs.Words.{inside}
use Rattle.arithmetic.specs.declared.choice.RoundingChoice.{RoundingChoice}
use Rattle.arithmetic.specs.declared.choice.OverflowChoice.{OverflowChoice}
use Rattle.arithmetic.specs.declared.setting.Setting.{Setting}
use Rattle.arithmetic.specs.declared.format.FormatFault.{FormatFault}
use Rattle.arithmetic.specs.declared.format.FormatFault.TheVariants.{Whole, Fraction, Width as OutOfWidth}
use Rattle.materials.specs.declared.refusal.RecordFault.{RecordFault}
use Rattle.materials.specs.declared.refusal.RecordFault.TheVariants.{Empty, NameSize, TooShort, NameByte, FormLetter, RoundingLetter, OverflowLetter, WholeBits, FractionBits, Width, FeedforwardCount, FeedbackCount, Length, Coefficient}
use Rattle.materials.specs.Layout.{Material, words}
use Rattle.materials.specs.declared.letters.Choices.{Choices}
use Rattle.materials.specs.Letters.{form_of, rounding_of, overflow_of, form_ok, rounding_ok, overflow_ok}
use Rattle.materials.specs.Refusals.{first}

-- rows of a decision table: what has to hold, and the fault where it does not
abbrev pub Rows : Type 0
Rows = List (Bool × RecordFault)

-- how a record lies in its bytes
pub record Shape : Type 0 where
  -- it has a byte at all
  pub some : Bool
  -- the size of the name, as its first byte tells it
  pub size : ℕ
  -- it has room for its name and the seven bytes
  pub room : Bool
  -- it is as long as its fields call for
  pub exact : Bool

-- a byte of a name
abbrev pub printable : ℕ → Bool
printable b = nat_le 32 b && nat_le b 126

-- every number passes the test
abbrev pub every : (ℕ → Bool) → List ℕ → Bool
every t xs = list_all t xs

-- every coefficient is a word of w bits
abbrev pub words_ok : ℕ → List ℤ → Bool
words_ok w zs = list_all (inside w) zs

-- 4: the name, and the bytes that it lies in
abbrev pub name_rows : Shape → List ℕ → Rows
name_rows s name =
    (s.some, Empty)
    ∷ (nat_le 1 s.size && nat_le s.size 40, NameSize)
    ∷ (s.room, TooShort)
    ∷ (every printable name, NameByte)
    ∷ []

-- 5: the letters
abbrev pub letter_rows : ℕ → ℕ → ℕ → Rows
letter_rows form rounding overflow =
    (form_ok form, FormLetter)
    ∷ (rounding_ok rounding, RoundingLetter)
    ∷ (overflow_ok overflow, OverflowLetter)
    ∷ []

-- what the letters stand for, or the fault of the first that stands for nothing
abbrev pub ChoicesFound : ℕ → ℕ → ℕ → Result Choices RecordFault → Type 0
ChoicesFound form rounding overflow r = MatchResult r
    (λ x. (first (letter_rows form rounding overflow) ≡ None) × (form_of form ≡ Some x.form) × (rounding_of rounding ≡ Some x.rounding) × (overflow_of overflow ≡ Some x.overflow))
    (λ e. first (letter_rows form rounding overflow) ≡ Some e)

-- the setting of a material, with the rules that its letters stand for
abbrev pub setting_in : Material → Choices → Setting RoundingChoice OverflowChoice
setting_in m ch = record { whole = m.whole; fraction = m.fraction; rounding = ch.rounding; overflow = ch.overflow }

-- 6: the format, whole and fraction bits
abbrev pub format_rows : ℕ → ℕ → Rows
format_rows k l =
    (nat_le 1 k, WholeBits)
    ∷ (nat_le 1 l, FractionBits)
    ∷ (nat_le 8 (k + l) && nat_le (k + l) 24, Width)
    ∷ []

-- the same faults, as a format by itself has them
abbrev pub of_format : FormatFault → RecordFault
of_format Whole = WholeBits
of_format Fraction = FractionBits
of_format OutOfWidth = Width

-- a format with just these bits, or its fault
abbrev pub FormatFound : ℕ → ℕ → Result Format RecordFault → Type 0
FormatFound k l r = MatchResult r
    (λ f. (first (format_rows k l) ≡ None) × (f.whole ≡ k) × (f.fraction ≡ l))
    (λ e. first (format_rows k l) ≡ Some e)

-- 7: how many coefficients of each kind
abbrev pub count_rows : ℕ → ℕ → Rows
count_rows nb na =
    (nat_le 1 nb && nat_le nb 9, FeedforwardCount)
    ∷ (nat_le na 8, FeedbackCount)
    ∷ []

-- 8 and 9: the length, and the coefficients as words of w bits
abbrev pub coefficient_rows : Bool → ℕ → List ℤ → List ℤ → Rows
coefficient_rows exact w forward back =
    (exact, Length)
    ∷ (words_ok w forward && words_ok w back, Coefficient)
    ∷ []

-- 5 to 9
abbrev pub field_rows : Bool → Material → Rows
field_rows exact m =
    letter_rows m.form m.rounding m.overflow
    ++ (format_rows m.whole m.fraction
    ++ (count_rows (length m.forward) (length m.back)
    ++ coefficient_rows exact (m.whole + m.fraction) m.forward m.back))

-- 4 to 9: the first thing wrong with a record of this shape
abbrev pub fault_of : Shape → Material → Option RecordFault
fault_of s m = first (name_rows s m.name ++ field_rows s.exact m)

-- a record in memory lies in no bytes yet, so its shape is as it should be, but for the size of its name
abbrev pub unwritten : List ℕ → Shape
unwritten name = record { some = true; size = length name; room = true; exact = true }

-- the first thing wrong with a record that is to be written: 4 to 7, 9
abbrev pub material_fault : Material → Option RecordFault
material_fault m = fault_of (unwritten m.name) m

-- what a name and the bytes after it say
abbrev pub material_of : List ℕ → List ℕ → Material
material_of n t = record {
  name = n;
  form = slice_index t 0;
  rounding = slice_index t 1;
  overflow = slice_index t 2;
  whole = slice_index t 3;
  fraction = slice_index t 4;
  forward = words (slice_index t 5) (drop 7 t);
  back = words (slice_index t 6) (drop (4 * slice_index t 5) (drop 7 t));
}

-- the name in a part of a file, and the bytes after it
abbrev pub name_of : List ℕ → List ℕ
name_of p = take (slice_index p 0) (drop 1 p)

abbrev pub tail_of : List ℕ → List ℕ
tail_of p = drop (slice_index p 0) (drop 1 p)

-- what a part of a file says, where it is long enough
abbrev pub material : List ℕ → Material
material p = material_of (name_of p) (tail_of p)

-- how a record lies in a part of a file: L + 8 bytes at least, and 4 more for each coefficient
abbrev pub shape : List ℕ → Shape
shape p = record {
  some = nat_le 1 (length p);
  size = slice_index p 0;
  room = nat_le (slice_index p 0 + 8) (length p);
  exact = (length p == slice_index p 0 + 8 + 4 * (slice_index (tail_of p) 5 + slice_index (tail_of p) 6));
}

-- the first thing wrong with a part of a file by itself: 4 to 9
abbrev pub part_fault : List ℕ → Option RecordFault
part_fault p = fault_of (shape p) (material p)

-- 5 to 9 of the bytes after the name
abbrev pub tail_fault : List ℕ → Option RecordFault
tail_fault t = first (field_rows (length (drop 7 t) == 4 * slice_index t 5 + 4 * slice_index t 6) (material_of [] t))

-- 8 and 9 of the bytes of the coefficients
abbrev pub coefficients_fault : ℕ → ℕ → ℕ → List ℕ → Option RecordFault
coefficients_fault nb na w bs = first (coefficient_rows (length bs == 4 * nb + 4 * na) w (words nb bs) (words na (drop (4 * nb) bs)))

-- two pieces of these bytes hold the first nb coefficients and the na after them
abbrev pub Pieces : ℕ → ℕ → List ℕ → List ℕ → List ℕ → Type 0
Pieces nb na bytes forward back = (words (length forward / 4) forward ≡ words nb bytes) × (words (length back / 4) back ≡ words na (drop (4 * nb) bytes))

-- one of the names is n
abbrev pub has_name : List (List ℕ) → List ℕ → Bool
has_name ms n = list_any (λ m. bytes_eq m n) ms
