-- The order of the tests on a record. Assumes nothing.
use Rattle.std.proofs.Common.{◌≡◌, ℕ, ◌+◌, ◌-◌, ◌*◌, ◌<◌, ◌≤◌, Bool, true, cond, ◌&&◌, eqb, leb, List, ◌∷◌, ◌++◌, length, get_or, drop, Some, None, sym, ap, ◌∙◌, arith}
use Rattle.std.proofs.lemmas.List.{length-take, length-drop, length-append}
use Rattle.std.proofs.lemmas.Bool.{eqb-true, leb-true}
use Rattle.std.proofs.lemmas.Bool.Decides.{nat_tests}
use Rattle.std.specs.List.{flat_map}
use Rattle.materials.specs.declared.refusal.RecordFault.{RecordFault}
use Rattle.materials.specs.declared.refusal.RecordFault.TheVariants.{Length, Empty, NameSize, TooShort, NameByte}
use Rattle.materials.specs.Layout.{Material, words, encoded, coded}
use Rattle.materials.specs.Refusals.{first}
use Rattle.materials.specs.Records.{Shape, printable, every, name_rows, letter_rows, format_rows, count_rows, coefficient_rows, field_rows, fault_of, unwritten, material_fault, name_of, tail_of, material, shape, part_fault, tail_fault, coefficients_fault}
use Rattle.materials.proofs.Rows.{cond_none, passes, stops, both_none}
use Rattle.materials.proofs.Words.{length_words}
use Rattle.materials.proofs.Writes.{length_joined_coded}

-- materials with the same fields are the same
pub same_material : (m n : Material) → m.name ≡ n.name → m.form ≡ n.form → m.rounding ≡ n.rounding → m.overflow ≡ n.overflow → m.whole ≡ n.whole → m.fraction ≡ n.fraction → m.forward ≡ n.forward → m.back ≡ n.back → m ≡ n
same_material m n a b c d e f g h = λ i. record { name = a i; form = b i; rounding = c i; overflow = d i; whole = e i; fraction = f i; forward = g i; back = h i }

-- what is known of a record of this shape with no fault, group by group
pub record Passed (s : Shape) (m : Material) : Type 0 where
  pub named : first (name_rows s m.name) ≡ None
  pub lettered : first (letter_rows m.form m.rounding m.overflow) ≡ None
  pub formatted : first (format_rows m.whole m.fraction) ≡ None
  pub counted : first (count_rows (length m.forward) (length m.back)) ≡ None
  pub worded : first (coefficient_rows s.exact (m.whole + m.fraction) m.forward m.back) ≡ None

module _ (s : Shape) (m : Material) where
  abbrev letters : List (Bool × RecordFault)
  letters = letter_rows m.form m.rounding m.overflow

  abbrev formats : List (Bool × RecordFault)
  formats = format_rows m.whole m.fraction

  abbrev counts : List (Bool × RecordFault)
  counts = count_rows (length m.forward) (length m.back)

  abbrev coefficients : Bool → List (Bool × RecordFault)
  coefficients exact = coefficient_rows exact (m.whole + m.fraction) m.forward m.back

  pub passed : fault_of s m ≡ None → Passed s m
  passed h =
      let a = both_none (name_rows s m.name) (field_rows s.exact m) h in
      let b = both_none letters (formats ++ (counts ++ coefficients s.exact)) a.1 in
      let c = both_none formats (counts ++ coefficients s.exact) b.1 in
      let d = both_none counts (coefficients s.exact) c.1 in
      record { named = a.0; lettered = b.0; formatted = c.0; counted = d.0; worded = d.1 }

  pub all_passed : Passed s m → fault_of s m ≡ None
  all_passed p =
      passes (name_rows s m.name) (field_rows s.exact m) p.named
      ∙ (passes letters (formats ++ (counts ++ coefficients s.exact)) p.lettered
      ∙ (passes formats (counts ++ coefficients s.exact) p.formatted
      ∙ (passes counts (coefficients s.exact) p.counted ∙ p.worded)))

-- where the check of a record that is to be written stops, past its name
module _ (m : Material) (named : first (name_rows (unwritten m.name) m.name) ≡ None) where
  abbrev later : List (Bool × RecordFault)
  later = count_rows (length m.forward) (length m.back) ++ coefficient_rows true (m.whole + m.fraction) m.forward m.back

  past_name : material_fault m ≡ first (field_rows true m)
  past_name = passes (name_rows (unwritten m.name) m.name) (field_rows true m) named

  pub at_letters : (e : RecordFault) → first (letter_rows m.form m.rounding m.overflow) ≡ Some e → material_fault m ≡ Some e
  at_letters e h = past_name ∙ stops (letter_rows m.form m.rounding m.overflow) (format_rows m.whole m.fraction ++ later) e h

  module _ (lettered : first (letter_rows m.form m.rounding m.overflow) ≡ None) where
    past_lettered : material_fault m ≡ first (format_rows m.whole m.fraction ++ later)
    past_lettered = past_name ∙ passes (letter_rows m.form m.rounding m.overflow) (format_rows m.whole m.fraction ++ later) lettered

    pub at_format : (e : RecordFault) → first (format_rows m.whole m.fraction) ≡ Some e → material_fault m ≡ Some e
    at_format e h = past_lettered ∙ stops (format_rows m.whole m.fraction) later e h

    module _ (formatted : first (format_rows m.whole m.fraction) ≡ None) where
      past_formatted : material_fault m ≡ first later
      past_formatted = past_lettered ∙ passes (format_rows m.whole m.fraction) later formatted

      pub at_counts : (e : RecordFault) → first (count_rows (length m.forward) (length m.back)) ≡ Some e → material_fault m ≡ Some e
      at_counts e h = past_formatted ∙ stops (count_rows (length m.forward) (length m.back)) (coefficient_rows true (m.whole + m.fraction) m.forward m.back) e h

-- the fields after the name, in a slice whose bytes are called by other names
module _ (t : List ℕ) (f r o : ℕ) (ef : f ≡ get_or t 0 0) (er : r ≡ get_or t 1 0) (eo : o ≡ get_or t 2 0) where
  abbrev nb : ℕ
  nb = get_or t 5 0

  abbrev na : ℕ
  na = get_or t 6 0

  abbrev rest : List ℕ
  rest = drop 7 t

  abbrev last_rows : List (Bool × RecordFault)
  last_rows = coefficient_rows (eqb (length rest) (4 * nb + 4 * na)) (get_or t 3 0 + get_or t 4 0) (words nb rest) (words na (drop (4 * nb) rest))

  abbrev later_rows : List (Bool × RecordFault)
  later_rows = count_rows (length (words nb rest)) (length (words na (drop (4 * nb) rest))) ++ last_rows

  abbrev format : List (Bool × RecordFault)
  format = format_rows (get_or t 3 0) (get_or t 4 0)

  same_letters : first (letter_rows f r o) ≡ first (letter_rows (get_or t 0 0) (get_or t 1 0) (get_or t 2 0))
  same_letters = λ i. first (letter_rows (ef i) (er i) (eo i))

  same_counts : first (count_rows (length (words nb rest)) (length (words na (drop (4 * nb) rest)))) ≡ first (count_rows nb na)
  same_counts = λ i. first (count_rows (length_words nb rest i) (length_words na (drop (4 * nb) rest) i))

  pub tail_letters : (e : RecordFault) → first (letter_rows f r o) ≡ Some e → tail_fault t ≡ Some e
  tail_letters e h = stops (letter_rows (get_or t 0 0) (get_or t 1 0) (get_or t 2 0)) (format ++ later_rows) e (sym same_letters ∙ h)

  module _ (l : first (letter_rows f r o) ≡ None) where
    past_letters : tail_fault t ≡ first (format ++ later_rows)
    past_letters = passes (letter_rows (get_or t 0 0) (get_or t 1 0) (get_or t 2 0)) (format ++ later_rows) (sym same_letters ∙ l)

    pub tail_format : (e : RecordFault) → first (format_rows (get_or t 3 0) (get_or t 4 0)) ≡ Some e → tail_fault t ≡ Some e
    tail_format e h = past_letters ∙ stops format later_rows e h

    module _ (g : first (format_rows (get_or t 3 0) (get_or t 4 0)) ≡ None) where
      past_format : tail_fault t ≡ first later_rows
      past_format = past_letters ∙ passes format later_rows g

      pub tail_counts : (e : RecordFault) → first (count_rows (get_or t 5 0) (get_or t 6 0)) ≡ Some e → tail_fault t ≡ Some e
      tail_counts e h = past_format ∙ stops (count_rows (length (words nb rest)) (length (words na (drop (4 * nb) rest)))) last_rows e (same_counts ∙ h)

      pub tail_past : (w : ℕ) → w ≡ get_or t 3 0 + get_or t 4 0 → first (count_rows (get_or t 5 0) (get_or t 6 0)) ≡ None → tail_fault t ≡ coefficients_fault (get_or t 5 0) (get_or t 6 0) w (drop 7 t)
      tail_past w e h = past_format ∙ (passes (count_rows (length (words nb rest)) (length (words na (drop (4 * nb) rest)))) last_rows (same_counts ∙ h) ∙ ap (λ v. coefficients_fault nb na v rest) (sym e))

-- a part of a file whose name, or the room for it, is wrong
pub part_stops : (p : List ℕ) (e : RecordFault) → first (name_rows (shape p) (name_of p)) ≡ Some e → part_fault p ≡ Some e
part_stops p e h = stops (name_rows (shape p) (name_of p)) (field_rows (shape p).exact (material p)) e h

module _ (p : List ℕ) (named : first (name_rows (shape p) (name_of p)) ≡ None) where
  room : get_or p 0 0 + 8 ≤ length p
  room =
      let a = cond_none (leb 1 (length p)) _ Empty named in
      let b = cond_none (leb 1 (get_or p 0 0) && leb (get_or p 0 0) 40) _ NameSize a.1 in
      let c = cond_none (leb (get_or p 0 0 + 8) (length p)) _ TooShort b.1 in
      leb-true (get_or p 0 0 + 8) (length p) c.0

  pub name_length : length (name_of p) ≡ get_or p 0 0
  name_length = let r = room in simp (length-take, length-drop) (omega arith)

  -- past its name, what follows decides
  pub part_past : part_fault p ≡ tail_fault (tail_of p)
  part_past =
      let t = tail_of p in
      let r = room in
      let n : length (drop 7 t) ≡ length p - (get_or p 0 0 + 8) = simp length-drop (omega arith) in
      let s : eqb (length p) (get_or p 0 0 + 8 + 4 * (get_or t 5 0 + get_or t 6 0)) ≡ eqb (length (drop 7 t)) (4 * get_or t 5 0 + 4 * get_or t 6 0) = grind (arith, nat_tests) in
      passes (name_rows (shape p) (name_of p)) (field_rows (shape p).exact (material p)) named ∙ ap (λ b. first (field_rows b (material p))) s

  pub name_again : first (name_rows (unwritten (name_of p)) (name_of p)) ≡ None
  name_again =
      let a = cond_none (leb 1 (length p)) _ Empty named in
      let b = cond_none (leb 1 (get_or p 0 0) && leb (get_or p 0 0) 40) _ NameSize a.1 in
      let c = cond_none (leb (get_or p 0 0 + 8) (length p)) _ TooShort b.1 in
      let n = name_length in
      let s : (leb 1 (length (name_of p)) && leb (length (name_of p)) 40) ≡ true = rw n b.0 in
      ap (λ x. cond x (cond (every printable (name_of p)) None (Some NameByte)) (Some NameSize)) s ∙ c.1

-- what holds of a part with no fault: its room, its length, and that its material is good
pub record Full (p : List ℕ) : Type 0 where
  pub some : 0 < length p
  pub long : get_or p 0 0 + 8 ≤ length p
  pub sized : length p ≡ get_or p 0 0 + 8 + 4 * (get_or (tail_of p) 5 0 + get_or (tail_of p) 6 0)
  pub name_size : length (name_of p) ≡ get_or p 0 0
  pub good : material_fault (material p) ≡ None

pub full : (p : List ℕ) → part_fault p ≡ None → Full p
full p h =
    let q = passed (shape p) (material p) h in
    let r = room p q.named in
    let x = cond_none (shape p).exact _ Length q.worded in
    let w = ap (λ b. first (coefficient_rows b ((material p).whole + (material p).fraction) (material p).forward (material p).back)) (sym x.0) ∙ q.worded in
    record {
      some = omega arith;
      long = r;
      sized = eqb-true (length p) _ x.0;
      name_size = name_length p q.named;
      good = all_passed (unwritten (name_of p)) (material p) (record { named = name_again p q.named; lettered = q.lettered; formatted = q.formatted; counted = q.counted; worded = w });
    }

-- what holds of a good material
abbrev pub Fine : Material → Type 0
Fine m = Passed (unwritten m.name) m

-- and the bounds that follow
pub record Bounded (m : Material) : Type 0 where
  pub name_low : 1 ≤ length m.name
  pub name_high : length m.name ≤ 40
  pub form : m.form < 128
  pub rounding : m.rounding < 128
  pub overflow : m.overflow < 128
  pub whole : m.whole ≤ 24
  pub fraction : m.fraction ≤ 24
  pub width : m.whole + m.fraction ≤ 24
  pub forward_low : 1 ≤ length m.forward
  pub forward : length m.forward ≤ 9
  pub back : length m.back ≤ 8

pub bounded : (m : Material) → material_fault m ≡ None → Bounded m
bounded m h =
    let f = passed (unwritten m.name) m h in
    let a = f.named in
    let b = f.lettered in
    let d = f.formatted in
    let e = f.counted in
    record {
      name_low = grind (arith, nat_tests);
      name_high = grind (arith, nat_tests);
      form = grind (arith, nat_tests);
      rounding = grind (arith, nat_tests);
      overflow = grind (arith, nat_tests);
      whole = grind (arith, nat_tests);
      fraction = grind (arith, nat_tests);
      width = grind (arith, nat_tests);
      forward_low = grind (arith, nat_tests);
      forward = grind (arith, nat_tests);
      back = grind (arith, nat_tests);
    }

pub length_encoded : (m : Material) → length (encoded m) ≡ length m.name + 8 + 4 * (length m.forward + length m.back)
length_encoded m =
    let n = length_joined_coded (m.forward ++ m.back) in
    let l = length-append m.forward m.back in
    let k = length-append m.name (m.form ∷ m.rounding ∷ m.overflow ∷ m.whole ∷ m.fraction ∷ length m.forward ∷ length m.back ∷ flat_map coded (m.forward ++ m.back)) in
    omega arith
