-- The cases of the code tell the numbers and records of the table. Assumes nothing.
use Rattle.std.proofs.Common.{◌≡◌, ℕ, ◌+◌, ◌*◌, Bool, true, false, cond, ◌&&◌, eqb, leb, List, [], ◌∷◌, ◌++◌, map, length, is_some, Some, None, Option, sym, refl, ap, ◌∙◌}
use Rattle.materials.specs.declared.refusal.RecordFault.{RecordFault}
use Rattle.materials.specs.declared.refusal.RecordFault.TheVariants.{NameUsedEarlier}
use Rattle.materials.specs.declared.refusal.Refusal.{Refusal}
use Rattle.materials.specs.declared.refusal.Refusal.TheVariants.{RecordCount, PairOutOfPlace, FileEndOutOfPlace, NoSuchName, DestinationTooShort}
use Rattle.materials.specs.Layout.{Material, encode}
use Rattle.materials.specs.Letters.{form_ok, rounding_ok, overflow_ok}
use Rattle.materials.specs.Refusals.{first, or_else, fault_number}
use Rattle.materials.specs.Records.{Shape, every, printable, words_ok, unwritten, shape, material, name_of, has_name, name_rows, field_rows, fault_of, part_fault, material_fault}
use Rattle.materials.specs.Files.{count_of, directory, parts, stands_for, misplaced, size_rows, size_fault, file_fault, numbered, used_fault, faults_in, records_fault, materials_fault, refusal, look_up_refusal, write_refusal}
use Rattle.materials.specs.Numbers.{told, plain, all, record_table, with_record, records_table, in_place, file_table, look_up_table, write_table}

abbrev pub mapped : {X Y : Type 0} → (X → Y) → Option X → Option Y
mapped f (Some x) = Some (f x)
mapped f None = None

module _ {X Y : Type 0} (f : X → Y) where
  first_mapped : (ts : List (Bool × X)) → mapped f (first ts) ≡ first (map (λ t. (t.0, f t.1)) ts)
  first_mapped [] = refl
  first_mapped (t ∷ ts) = elim t.0 as (λ b. mapped f (cond b (first ts) (Some t.1)) ≡ cond b (first (map (λ u. (u.0, f u.1)) ts)) (Some (f t.1))) [ true ↦ first_mapped ts | false ↦ refl ]

  or_else_mapped : (o q : Option X) → mapped f (or_else o q) ≡ or_else (mapped f o) (mapped f q)
  or_else_mapped (Some x) q = refl
  or_else_mapped None q = refl

  some_mapped : (b : Bool) (x : X) → mapped f (cond b None (Some x)) ≡ cond b None (Some (f x))
  some_mapped true x = refl
  some_mapped false x = refl

-- rows of one number are one row
group : {X : Type 0} (bs : List Bool) (n : X) (ts : List (Bool × X)) → first (map (λ b. (b, n)) bs ++ ts) ≡ first ((all bs, n) ∷ ts)
group [] n ts = refl
group (b ∷ bs) n ts = elim b as (λ v. cond v (first (map (λ u. (u, n)) bs ++ ts)) (Some n) ≡ cond (v && all bs) (first ts) (Some n)) [ true ↦ group bs n ts | false ↦ refl ]

module _ (s : Shape) (m : Material) where
  abbrev names : List Bool
  names = s.some ∷ (leb 1 s.size && leb s.size 40) ∷ s.room ∷ every printable m.name ∷ []

  abbrev letters : List Bool
  letters = form_ok m.form ∷ rounding_ok m.rounding ∷ overflow_ok m.overflow ∷ []

  abbrev formats : List Bool
  formats = leb 1 m.whole ∷ leb 1 m.fraction ∷ (leb 8 (m.whole + m.fraction) && leb (m.whole + m.fraction) 24) ∷ []

  abbrev counts : List Bool
  counts = (leb 1 (length m.forward) && leb (length m.forward) 9) ∷ leb (length m.back) 8 ∷ []

  abbrev later : List (Bool × ℕ)
  later = (s.exact, 8) ∷ (words_ok (m.whole + m.fraction) m.forward && words_ok (m.whole + m.fraction) m.back, 9) ∷ []

  abbrev rows : ℕ → List Bool → List (Bool × ℕ)
  rows n bs = map (λ b. (b, n)) bs

  pub record_told : mapped fault_number (fault_of s m) ≡ first (record_table s m)
  record_told =
      first_mapped fault_number (name_rows s m.name ++ field_rows s.exact m)
      ∙ (group names 4 (rows 5 letters ++ (rows 6 formats ++ (rows 7 counts ++ later)))
      ∙ ap (λ o. cond (all names) o (Some 4)) (group letters 5 (rows 6 formats ++ (rows 7 counts ++ later))
      ∙ ap (λ o. cond (all letters) o (Some 5)) (group formats 6 (rows 7 counts ++ later)
      ∙ ap (λ o. cond (all formats) o (Some 6)) (group counts 7 later))))

numbered_told : (n : ℕ) (o : Option RecordFault) (q : Option Refusal) → mapped told (numbered n o q) ≡ with_record n (mapped fault_number o) (mapped told q)
numbered_told n (Some e) q = refl
numbered_told n None q = refl

used_told : (b : Bool) → mapped fault_number (cond b (Some NameUsedEarlier) None) ≡ cond b (Some 10) None
used_told true = refl
used_told false = refl

module _ {X : Type 0} (own : X → Option RecordFault) (own' : X → Option ℕ) (same : (x : X) → mapped fault_number (own x) ≡ own' x) (called : X → List ℕ) where
  pub records_told : (e : List (List ℕ)) (n : ℕ) (xs : List X) → mapped told (faults_in own called e n xs) ≡ records_table own' called e n xs
  records_told e n [] = refl
  records_told e n (x ∷ xs) =
      let o = or_else_mapped fault_number (own x) (used_fault e (called x)) ∙ (λ i. or_else (same x i) (used_told (has_name e (called x)) i)) in
      numbered_told n (or_else (own x) (used_fault e (called x))) (faults_in own called (e ++ called x ∷ []) (n + 1) xs)
      ∙ (λ i. with_record n (o i) (records_told (e ++ called x ∷ []) (n + 1) xs i))

places_told : (n o : ℕ) (ps : List (ℕ × ℕ)) (end : ℕ) → mapped told (misplaced n o ps end) ≡ cond (in_place o ps end) None (Some (plain 3))
places_told n o [] end = some_mapped told (eqb o end) FileEndOutOfPlace
places_told n o (p ∷ ps) end = elim (eqb p.0 o) as (λ b. mapped told (cond b (misplaced (n + 1) (o + p.1) ps end) (Some (PairOutOfPlace n))) ≡ cond (b && in_place (o + p.1) ps end) None (Some (plain 3))) [ true ↦ places_told (n + 1) (o + p.1) ps end | false ↦ refl ]

module _ (f : List ℕ) where
  abbrev size : Bool
  size = leb 2 (length f) && leb (length f) 65000

  abbrev counted : List Bool
  counted = leb (count_of f) 512 ∷ leb (2 + 6 * count_of f) (length f) ∷ []

  abbrev placed : Bool
  placed = in_place (2 + 6 * count_of f) (directory f) (length f)

  sizes_told : mapped told (size_fault f) ≡ first ((size, plain 1) ∷ (all counted, plain 2) ∷ [])
  sizes_told = first_mapped told (size_rows f) ∙ ap (λ o. cond size o (Some (plain 1))) (group counted (plain 2) [])

  three : (a b c : Bool) → or_else (first ((a, plain 1) ∷ (b, plain 2) ∷ [])) (cond c None (Some (plain 3))) ≡ first ((a, plain 1) ∷ (b, plain 2) ∷ (c, plain 3) ∷ [])
  three true true c = refl
  three true false c = refl
  three false b c = refl

  places_of : mapped told (file_fault f) ≡ first ((size, plain 1) ∷ (all counted, plain 2) ∷ (placed, plain 3) ∷ [])
  places_of =
      or_else_mapped told (size_fault f) (misplaced 1 (2 + 6 * count_of f) (directory f) (length f))
      ∙ ((λ i. or_else (sizes_told i) (places_told 1 (2 + 6 * count_of f) (directory f) (length f) i)) ∙ three size (all counted) placed)

  file_told : mapped told (refusal f) ≡ file_table f
  file_told =
      or_else_mapped told (file_fault f) (records_fault [] 1 (parts f))
      ∙ (λ i. or_else (places_of i) (records_told part_fault (λ p. first (record_table (shape p) (material p))) (λ p. record_told (shape p) (material p)) name_of [] 1 (parts f) i))

  look_up_told : (name : List ℕ) → mapped told (look_up_refusal f name) ≡ look_up_table f name
  look_up_told name =
      or_else_mapped told (refusal f) (cond (is_some (stands_for f name)) None (Some NoSuchName))
      ∙ (λ i. or_else (file_told i) (some_mapped told (is_some (stands_for f name)) NoSuchName i))

or_else_assoc : {X : Type 0} (o p q : Option X) → or_else (or_else o p) q ≡ or_else o (or_else p q)
or_else_assoc (Some x) p q = refl
or_else_assoc None p q = refl

write_told : (ms : List Material) (room : ℕ) → mapped told (write_refusal ms room) ≡ write_table ms room
write_told ms room =
    let a = first ((leb (length ms) 512, RecordCount) ∷ []) in
    let c = cond (leb (length (encode ms)) room) None (Some DestinationTooShort) in
    ap (mapped told) (or_else_assoc a (materials_fault [] 1 ms) c)
    ∙ (or_else_mapped told a (or_else (materials_fault [] 1 ms) c)
    ∙ ((λ i. or_else (first_mapped told ((leb (length ms) 512, RecordCount) ∷ []) i) (or_else_mapped told (materials_fault [] 1 ms) c i))
    ∙ (λ i. or_else (first ((leb (length ms) 512, plain 2) ∷ [])) (or_else (records_told material_fault (λ m. first (record_table (unwritten m.name) m)) (λ m. record_told (unwritten m.name) m) (λ m. m.name) [] 1 ms i) (some_mapped told (leb (length (encode ms)) room) DestinationTooShort i)))))

-- a refusal by case is one of the table, and so is none
pub file_tells : (f : List ℕ) (o : Option Refusal) → refusal f ≡ o → file_table f ≡ mapped told o
file_tells f o h = sym (file_told f) ∙ ap (mapped told) h

pub look_up_tells : (f name : List ℕ) (o : Option Refusal) → look_up_refusal f name ≡ o → look_up_table f name ≡ mapped told o
look_up_tells f name o h = sym (look_up_told f name) ∙ ap (mapped told) h

pub write_tells : (ms : List Material) (room : ℕ) (o : Option Refusal) → write_refusal ms room ≡ o → write_table ms room ≡ mapped told o
write_tells ms room o h = sym (write_told ms room) ∙ ap (mapped told) h
