-- A list of materials that is written and read back. Assumes nothing.
use Rattle.std.proofs.Common.{◌≡◌, ℕ, ◌+◌, ◌-◌, ◌*◌, ◌/◌, ◌%◌, ◌^◌, ◌<◌, ◌≤◌, true, ◌&&◌, eqb, leb, List, [], ◌∷◌, ◌++◌, map, length, get_or, take, drop, ℤ, pos, neg_ℤ, None, sym, refl, ap, ◌∙◌, arith, w32, SFits, to_z, of_z}
use native.Mathlib.Nat.{div-div-eq-div-mul}
use lib.Signed.{le_z, lt_z}
use Rattle.std.specs.List.{flat_map, AllByRecursion}
use Rattle.std.proofs.lemmas.List.{append-nil, length-append, length-map, take_at, drop_at, drop-drop}
use Rattle.std.proofs.lemmas.Int.{ints, to_z-of_z}
use Rattle.std.proofs.lemmas.Bool.{cond-true, and_parts, and_from, eq-eqb, le-leb, leb-true}
use Rattle.materials.specs.Layout.{Material, four_at, words, coded, encoded, pairs, packed, encode}
use Rattle.materials.specs.Refusals.{first, or_else}
use Rattle.materials.specs.Records.{name_of, tail_of, material, part_fault, material_fault, fault_of, shape, unwritten, words_ok}
use Rattle.arithmetic.specs.Words.{inside}
use Rattle.materials.specs.Files.{pairs_of, misplaced, part_at, directory, parts, count_of, size_fault, file_fault, records_fault, materials_fault, used_fault, numbered, refusal}
use Rattle.materials.specs.Laws.{Good}
use Rattle.materials.specs.declared.refusal.RecordFault.TheVariants.{Coefficient}
use Rattle.materials.specs.declared.refusal.Refusal.TheVariants.{RecordCount}
use Rattle.materials.proofs.Rows.{cond_none, or_else_none}
use Rattle.materials.proofs.Chains.{passed, bounded, length_encoded, same_material}
use Rattle.materials.proofs.Turns.{all_sound}
use Rattle.materials.proofs.Words.{half_small}
use Rattle.materials.proofs.Writes.{joined_append, length_joined_coded, length_pair_bytes}

four_four : (n : ℕ) → n < 4294967296 → n / 16777216 % 256 * 16777216 + n / 65536 % 256 * 65536 + n / 256 % 256 * 256 + n % 256 ≡ n
four_four n h =
    let a : n / 65536 ≡ n / 256 / 256 = sym (div-div-eq-div-mul n 256 256) in
    let b : n / 16777216 ≡ n / 256 / 256 / 256 = sym (div-div-eq-div-mul n 256 65536) ∙ sym (div-div-eq-div-mul (n / 256) 256 256) in
    rw (a, b) (omega arith)

two_two : (n : ℕ) → n < 65536 → n / 256 % 256 * 256 + n % 256 ≡ n
two_two n h = omega arith

ofZ_small : (z : ℤ) → SFits w32 z → of_z w32 z < 4294967296
ofZ_small z f = omega (arith, ints)

-- coefficients, written and read back
words_coded : (zs : List ℤ) (rest : List ℕ) → AllByRecursion (SFits w32) zs → words (length zs) (flat_map coded zs ++ rest) ≡ zs
words_coded [] rest h = refl
words_coded (z ∷ zs) rest h =
    let a : to_z w32 (four_at (coded z)) ≡ z = ap (to_z w32) (four_four (of_z w32 z) (ofZ_small z h.0)) ∙ to_z-of_z w32 z h.0 in
    λ i. a i ∷ words_coded zs rest h.1 i

word_fits : (w : ℕ) (z : ℤ) → w ≤ 24 → inside w z ≡ true → SFits w32 z
word_fits w z h k =
    let s = half_small w h in
    let p = and_parts (le_z (neg_ℤ (pos (2 ^ (w - 1)))) z) (lt_z z (pos (2 ^ (w - 1)))) k in
    grind (arith, ints)

words_fit : (w : ℕ) (zs : List ℤ) → w ≤ 24 → words_ok w zs ≡ true → AllByRecursion (SFits w32) zs
words_fit w [] h k = tt
words_fit w (z ∷ zs) h k = let p = and_parts (inside w z) (words_ok w zs) k in (word_fits w z h p.0, words_fit w zs h p.1)

module _ (m : Material) where
  abbrev tail : List ℕ
  tail = m.form ∷ m.rounding ∷ m.overflow ∷ m.whole ∷ m.fraction ∷ length m.forward ∷ length m.back ∷ flat_map coded (m.forward ++ m.back)

  pub name_back : name_of (encoded m) ≡ m.name
  name_back = take_at m.name tail (length m.name) refl

  tail_back : tail_of (encoded m) ≡ tail
  tail_back = drop_at m.name tail (length m.name) refl

  module _ (ok : material_fault m ≡ None) where
    wide : m.whole + m.fraction ≤ 24
    wide = (bounded m ok).width

    worded : (words_ok (m.whole + m.fraction) m.forward ≡ true) × (words_ok (m.whole + m.fraction) m.back ≡ true)
    worded = and_parts _ _ (cond_none (words_ok (m.whole + m.fraction) m.forward && words_ok (m.whole + m.fraction) m.back) None Coefficient (passed (unwritten m.name) m ok).worded).0

    forward_back : words (length m.forward) (flat_map coded (m.forward ++ m.back)) ≡ m.forward
    forward_back = ap (words (length m.forward)) (joined_append coded m.forward m.back) ∙ words_coded m.forward (flat_map coded m.back) (words_fit (m.whole + m.fraction) m.forward wide worded.0)

    back_back : words (length m.back) (drop (4 * length m.forward) (flat_map coded (m.forward ++ m.back))) ≡ m.back
    back_back =
        ap (λ l. words (length m.back) (drop (4 * length m.forward) l)) (joined_append coded m.forward m.back)
        ∙ (ap (words (length m.back)) (drop_at (flat_map coded m.forward) (flat_map coded m.back) (4 * length m.forward) (length_joined_coded m.forward) ∙ sym (append-nil (flat_map coded m.back)))
        ∙ words_coded m.back [] (words_fit (m.whole + m.fraction) m.back wide worded.1))

    pub material_back : material (encoded m) ≡ m
    material_back =
        let t = tail_back in
        same_material _ _ name_back (ap (λ l. get_or l 0 0) t) (ap (λ l. get_or l 1 0) t) (ap (λ l. get_or l 2 0) t) (ap (λ l. get_or l 3 0) t) (ap (λ l. get_or l 4 0) t)
        (ap (λ l. words (get_or l 5 0) (drop 7 l)) t ∙ forward_back)
        (ap (λ l. words (get_or l 6 0) (drop (4 * get_or l 5 0) (drop 7 l))) t ∙ back_back)

    shape_back : shape (encoded m) ≡ unwritten m.name
    shape_back =
        let n = length_encoded m in
        let p = encoded m in
        let t = tail_back in
        let five = ap (λ l. get_or l 5 0) t in
        let six = ap (λ l. get_or l 6 0) t in
        let a : leb 1 (length p) ≡ true = le-leb 1 (length p) (omega arith) in
        let b : leb (length m.name + 8) (length p) ≡ true = le-leb (length m.name + 8) (length p) (omega arith) in
        let s : eqb (length p) (length m.name + 8 + 4 * (get_or (tail_of p) 5 0 + get_or (tail_of p) 6 0)) ≡ true = eq-eqb (length p) _ (omega arith) in
        λ i. record { some = a i; size = length m.name; room = b i; exact = s i }

    pub fault_back : part_fault (encoded m) ≡ material_fault m
    fault_back = λ i. fault_of (shape_back i) (material_back i)

-- where parts lie that begin at the offset
abbrev places : ℕ → List (List ℕ) → List (ℕ × ℕ)
places o [] = []
places o (p ∷ ps) = (o, length p) ∷ places (o + length p) ps

abbrev ShortOnes : List (List ℕ) → Type 0
ShortOnes ps = AllByRecursion (λ p. length p < 65536) ps

places_of : (o : ℕ) (ps : List (List ℕ)) (rest : List ℕ) → o + length (flat_map (λ p. p) ps) < 4294967296 → ShortOnes ps → pairs_of (length ps) (pairs o ps ++ rest) ≡ places o ps
places_of o [] rest h s = refl
places_of o (p ∷ ps) rest h s =
    let l = length-append p (flat_map (λ q. q) ps) in
    let a = four_four o (omega arith) in
    let b = two_two (length p) s.0 in
    let r = places_of (o + length p) ps rest (omega arith) s.1 in
    λ i. (a i, b i) ∷ r i

placed : (n o : ℕ) (ps : List (List ℕ)) (end : ℕ) → end ≡ o + length (flat_map (λ p. p) ps) → misplaced n o (places o ps) end ≡ None
placed n o [] end e = cond-true _ _ _ (eq-eqb o end (omega arith))
placed n o (p ∷ ps) end e =
    let l = length-append p (flat_map (λ q. q) ps) in
    cond-true _ _ _ (eq-eqb o o refl) ∙ placed (n + 1) (o + length p) ps end (omega arith)

parts_of_places : (f : List ℕ) (o : ℕ) (ps : List (List ℕ)) → drop o f ≡ flat_map (λ p. p) ps → map (part_at f) (places o ps) ≡ ps
parts_of_places f o [] h = refl
parts_of_places f o (p ∷ ps) h =
    let a : take (length p) (drop o f) ≡ p = ap (take (length p)) h ∙ take_at p (flat_map (λ q. q) ps) (length p) refl in
    let b : drop (o + length p) f ≡ flat_map (λ q. q) ps = sym (drop-drop (length p) o f) ∙ (ap (drop (length p)) h ∙ drop_at p (flat_map (λ q. q) ps) (length p) refl) in
    λ i. a i ∷ parts_of_places f (o + length p) ps b i

module _ (ps : List (List ℕ)) (few : length ps ≤ 512) (short : ShortOnes ps) (room : 2 + 6 * length ps + length (flat_map (λ p. p) ps) ≤ 65000) where
  count_back : count_of (packed ps) ≡ length ps
  count_back = two_two (length ps) (omega arith)

  directory_back : directory (packed ps) ≡ places (2 + 6 * length ps) ps
  directory_back = ap (λ k. pairs_of k (drop 2 (packed ps))) count_back ∙ places_of (2 + 6 * length ps) ps (flat_map (λ p. p) ps) (omega arith) short

  packed_length : length (packed ps) ≡ 2 + 6 * length ps + length (flat_map (λ p. p) ps)
  packed_length =
      let p = length_pair_bytes (2 + 6 * length ps) ps in
      let a = length-append (pairs (2 + 6 * length ps) ps) (flat_map (λ p. p) ps) in
      omega arith

  pub parts_back : parts (packed ps) ≡ ps
  parts_back =
      let d : drop (2 + 6 * length ps) (packed ps) ≡ flat_map (λ p. p) ps = sym (drop-drop (6 * length ps) 2 (packed ps)) ∙ drop_at (pairs (2 + 6 * length ps) ps) (flat_map (λ p. p) ps) (6 * length ps) (length_pair_bytes (2 + 6 * length ps) ps) in
      ap (map (part_at (packed ps))) directory_back ∙ parts_of_places (packed ps) (2 + 6 * length ps) ps d

  pub file_back : file_fault (packed ps) ≡ None
  file_back =
      let a = packed_length in
      let c = count_back in
      let i : misplaced 1 (2 + 6 * count_of (packed ps)) (directory (packed ps)) (length (packed ps)) ≡ None = (λ j. misplaced 1 (2 + 6 * c j) (directory_back j) (length (packed ps))) ∙ placed 1 (2 + 6 * length ps) ps (length (packed ps)) a in
      let s : size_fault (packed ps) ≡ None =
      cond-true _ _ _ (and_from _ _ (le-leb 2 (length (packed ps)) (omega arith)) (le-leb (length (packed ps)) 65000 (omega arith)))
      ∙ (cond-true _ _ _ (le-leb (count_of (packed ps)) 512 (omega arith))
      ∙ cond-true _ _ _ (le-leb (2 + 6 * count_of (packed ps)) (length (packed ps)) (omega arith))) in
      ap (λ o. or_else o (misplaced 1 (2 + 6 * count_of (packed ps)) (directory (packed ps)) (length (packed ps)))) s ∙ i

abbrev Fine : Material → Type 0
Fine m = material_fault m ≡ None

short_ones : (ms : List Material) → AllByRecursion Fine ms → ShortOnes (map encoded ms) × (length (flat_map (λ p. p) (map encoded ms)) ≤ 116 * length ms)
short_ones [] h = (tt, omega arith)
short_ones (m ∷ ms) h =
    let b = bounded m h.0 in
    let n = length_encoded m in
    let r = short_ones ms h.1 in
    let l = length-append (encoded m) (flat_map (λ p. p) (map encoded ms)) in
    ((omega arith, r.0), omega arith)

faults_back : (e : List (List ℕ)) (k : ℕ) (ms : List Material) → AllByRecursion Fine ms → records_fault e k (map encoded ms) ≡ materials_fault e k ms
faults_back e k [] h = refl
faults_back e k (m ∷ ms) h =
    let o = fault_back m h.0 in
    let n = name_back m in
    (λ i. numbered k (or_else (o i) (used_fault e (n i))) (records_fault (e ++ n i ∷ []) (k + 1) (map encoded ms)))
    ∙ ap (numbered k (or_else (material_fault m) (used_fault e m.name))) (faults_back (e ++ m.name ∷ []) (k + 1) ms h.1)

materials_back : (ms : List Material) → AllByRecursion Fine ms → map material (map encoded ms) ≡ ms
materials_back [] h = refl
materials_back (m ∷ ms) h = λ i. material_back m h.0 i ∷ materials_back ms h.1 i

module _ (ms : List Material) (good : Good ms) where
  none : materials_fault [] 1 ms ≡ None
  none = (or_else_none (first ((leb (length ms) 512, RecordCount) ∷ [])) (materials_fault [] 1 ms) good).1

  few : length ms ≤ 512
  few = leb-true (length ms) 512 (cond_none (leb (length ms) 512) None RecordCount (or_else_none (first ((leb (length ms) 512, RecordCount) ∷ [])) (materials_fault [] 1 ms) good).0).0

  ok : AllByRecursion Fine ms
  ok = all_sound material_fault (λ m. m.name) [] 1 ms none

  count : length (map encoded ms) ≤ 512
  count = omega (arith, few, length-map ms encoded)

  fits : 2 + 6 * length (map encoded ms) + length (flat_map (λ p. p) (map encoded ms)) ≤ 65000
  fits = omega (arith, few, length-map ms encoded, (short_ones ms ok).1)

  same_parts : parts (encode ms) ≡ map encoded ms
  same_parts = parts_back (map encoded ms) count (short_ones ms ok).0 fits

  -- what is written is not refused, and reads back as what was written
  pub refusal_back : refusal (encode ms) ≡ None
  refusal_back =
      let a = file_back (map encoded ms) count (short_ones ms ok).0 fits in
      let b = ap (records_fault [] 1) same_parts ∙ (faults_back [] 1 ms ok ∙ none) in
      ap (λ o. or_else o (records_fault [] 1 (parts (encode ms)))) a ∙ b

  pub read_back : map material (parts (encode ms)) ≡ ms
  read_back = ap (map material) same_parts ∙ materials_back ms ok
