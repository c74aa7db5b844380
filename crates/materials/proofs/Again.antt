-- A file that is read and written again. Assumes nothing.
use Rattle.std.proofs.Common.{◌≡◌, ℕ, zero, suc, ◌+◌, ◌*◌, ◌<◌, ◌≤◌, Bool, true, false, cond, eqb, leb, List, [], ◌∷◌, ◌++◌, map, length, get_or, take, drop, Some, None, Ok, Err, Result, sym, refl, ap, ◌∙◌, subst, inr, ⊎_elim, arith}
use Rattle.std.specs.List.{flat_map, AllByRecursion}
use Rattle.std.proofs.lemmas.List.{append_assoc, length-take, length-drop, take-append-drop, drop-drop, drop_all, drop_more, length-map, get_or-take, get_or_past}
use Rattle.std.proofs.lemmas.Bool.{eqb-true, cases_lt, cond-true, le-leb, leb-false}
use Rattle.materials.specs.declared.refusal.Refusal.{Refusal}
use Rattle.materials.specs.declared.refusal.Refusal.TheVariants.{PairOutOfPlace, FileEndOutOfPlace, RecordCount, DestinationTooShort}
use Rattle.materials.specs.Layout.{Material, two, four, two_at, four_at, words, coded, encoded, pairs, packed, encode}
use Rattle.materials.specs.Refusals.{first, or_else}
use Rattle.materials.specs.Records.{name_of, tail_of, material, part_fault}
use Rattle.materials.specs.Files.{pairs_of, misplaced, part_at, directory, parts, count_of, file_fault, records_fault, materials_fault, used_fault, numbered, write_refusal, refusal}
use Rattle.materials.specs.Laws.{Good, Encoding, Written, Rewritten}
use Rattle.materials.proofs.Rows.{some_none, cond_none, or_else_none, numbered_none}
use Rattle.materials.proofs.Bytes.{Bytes, bytes_drop, two_back, four_back, cons_two, cons_four, cons_seven, coded_both}
use Rattle.materials.proofs.Chains.{full}
use Rattle.materials.proofs.Places.{Sound, sound, placed_le}
use Rattle.materials.proofs.Turns.{all_sound, length_parts}
use Rattle.materials.proofs.Words.{length_words}
use Rattle.materials.proofs.Writes.{joined_append}
use Rattle.materials.proofs.Back.{refusal_back}

-- a part that has no fault is the bytes of what it says
pub part_again : (p : List ℕ) → part_fault p ≡ None → Bytes p → encoded (material p) ≡ p
part_again p h b =
    let f = full p h in
    let t = tail_of p in
    let n = f.name_size in
    let nb = get_or t 5 0 in
    let na = get_or t 6 0 in
    let lt : 7 ≤ length t = simp length-drop (omega (arith, f.long)) in
    let lc : length (drop 7 t) ≡ 4 * nb + 4 * na = simp length-drop (omega (arith, f.long, f.sized)) in
    let c : flat_map coded (words nb (drop 7 t) ++ words na (drop (4 * nb) (drop 7 t))) ≡ drop 7 t = joined_append coded (words nb (drop 7 t)) (words na (drop (4 * nb) (drop 7 t))) ∙ coded_both nb na (drop 7 t) lc (bytes_drop 7 t (bytes_drop (get_or p 0 0) (drop 1 p) (bytes_drop 1 p b))) in
    let s : get_or t 0 0 ∷ get_or t 1 0 ∷ get_or t 2 0 ∷ get_or t 3 0 ∷ get_or t 4 0 ∷ length (words nb (drop 7 t)) ∷ length (words na (drop (4 * nb) (drop 7 t))) ∷ flat_map coded (words nb (drop 7 t) ++ words na (drop (4 * nb) (drop 7 t))) ≡ t =
    (λ i. get_or t 0 0 ∷ get_or t 1 0 ∷ get_or t 2 0 ∷ get_or t 3 0 ∷ get_or t 4 0 ∷ length_words nb (drop 7 t) i ∷ length_words na (drop (4 * nb) (drop 7 t)) i ∷ c i) ∙ sym (cons_seven t lt) in
    (λ i. n i ∷ (name_of p ++ s i)) ∙ (ap (λ l. get_or p 0 0 ∷ l) (take-append-drop (get_or p 0 0) (drop 1 p)) ∙ sym (drop_more p 0 0 f.some))

module _ (f : List ℕ) where
  pub joined_again : (n m o : ℕ) (q : List ℕ) → misplaced m o (pairs_of n q) (length f) ≡ None → flat_map (λ p. p) (map (part_at f) (pairs_of n q)) ≡ drop o f
  joined_again zero m o q h = let e = eqb-true o (length f) (cond_none (eqb o (length f)) None FileEndOutOfPlace h).0 in sym (drop_all o f (omega arith))
  joined_again (suc n) m o q h =
      let k = cond_none (eqb (four_at q) o) (misplaced (m + 1) (o + two_at (drop 4 q)) (pairs_of n (drop 6 q)) (length f)) (PairOutOfPlace m) h in
      let e = eqb-true (four_at q) o k.0 in
      let r = joined_again n (m + 1) (o + two_at (drop 4 q)) (drop 6 q) k.1 in
      (λ i. take (two_at (drop 4 q)) (drop (e i) f) ++ r i) ∙ (ap (λ l. take (two_at (drop 4 q)) (drop o f) ++ l) (sym (drop-drop (two_at (drop 4 q)) o f)) ∙ take-append-drop (two_at (drop 4 q)) (drop o f))

  pub pairs_again : (n m o : ℕ) (q rest : List ℕ) → 6 * n ≤ length q → Bytes q → misplaced m o (pairs_of n q) (length f) ≡ None → rest ≡ drop (6 * n) q → pairs o (map (part_at f) (pairs_of n q)) ++ rest ≡ q
  pairs_again zero m o q rest l b h z = z
  pairs_again (suc n) m o q rest l b h z =
      let k = cond_none (eqb (four_at q) o) (misplaced (m + 1) (o + two_at (drop 4 q)) (pairs_of n (drop 6 q)) (length f)) (PairOutOfPlace m) h in
      let e = eqb-true (four_at q) o k.0 in
      let y = two_at (drop 4 q) in
      let le = placed_le (m + 1) (o + y) (pairs_of n (drop 6 q)) (length f) k.1 in
      let z' : length (take y (drop (four_at q) f)) ≡ y = simp (length-take, length-drop) (omega arith) in
      let w : rest ≡ drop (6 * n) (drop 6 q) = z ∙ (ap (λ i. drop i q) (omega arith) ∙ sym (drop-drop (6 * n) 6 q)) in
      let r : pairs (o + y) (map (part_at f) (pairs_of n (drop 6 q))) ++ rest ≡ drop 6 q = pairs_again n (m + 1) (o + y) (drop 6 q) rest (simp length-drop (omega arith)) (bytes_drop 6 q b) k.1 w in
      let a : four o ≡ get_or q 0 0 ∷ get_or q 1 0 ∷ get_or q 2 0 ∷ get_or q 3 0 ∷ [] = ap four (sym e) ∙ four_back q b in
      let c : two y ≡ get_or (drop 4 q) 0 0 ∷ get_or (drop 4 q) 1 0 ∷ [] = two_back (drop 4 q) (bytes_drop 4 q b) in
      let t : drop 4 q ≡ get_or (drop 4 q) 0 0 ∷ get_or (drop 4 q) 1 0 ∷ drop 6 q = cons_two (drop 4 q) (simp length-drop (omega arith)) ∙ ap (λ l. get_or (drop 4 q) 0 0 ∷ get_or (drop 4 q) 1 0 ∷ l) (drop-drop 2 4 q) in
      append_assoc (four o ++ two (length (take y (drop (four_at q) f)))) (pairs (o + length (take y (drop (four_at q) f))) (map (part_at f) (pairs_of n (drop 6 q)))) rest
      ∙ ((λ i. (four o ++ two (z' i)) ++ (pairs (o + z' i) (map (part_at f) (pairs_of n (drop 6 q))) ++ rest))
      ∙ ((λ i. (a i ++ c i) ++ r i)
      ∙ ((λ i. get_or q 0 0 ∷ get_or q 1 0 ∷ get_or q 2 0 ∷ get_or q 3 0 ∷ sym t i) ∙ sym (cons_four q (omega arith)))))

  -- a file whose pairs are in place is its parts, packed
  pub packed_again : Sound f → Bytes f → packed (parts f) ≡ f
  packed_again s b =
      let n = length_parts f in
      let c = count_of f in
      let j : flat_map (λ p. p) (parts f) ≡ drop (6 * c) (drop 2 f) = joined_again c 1 (2 + 6 * c) (drop 2 f) s.placed ∙ sym (drop-drop (6 * c) 2 f) in
      let p : pairs (2 + 6 * c) (parts f) ++ flat_map (λ p. p) (parts f) ≡ drop 2 f = pairs_again c 1 (2 + 6 * c) (drop 2 f) (flat_map (λ p. p) (parts f)) (simp length-drop (omega (arith, s.room))) (bytes_drop 2 f b) s.placed j in
      (λ i. two (n i) ++ (pairs (2 + 6 * n i) (parts f) ++ flat_map (λ p. p) (parts f)))
      ∙ ((λ i. two_back f b i ++ p i) ∙ sym (cons_two f s.some))

pub bytes_take : (n : ℕ) (bs : List ℕ) → Bytes bs → Bytes (take n bs)
bytes_take n bs h i =
    ⊎_elim
    (λ (k : i < n). subst (λ x. x < 256) (sym (get_or-take n bs i 0 k)) (h i))
    (λ (k : n ≤ i). subst (λ x. x < 256) (sym (get_or_past (take n bs) i 0 (simp length-take (omega arith)))) (omega arith))
    (cases_lt i n)

bytes_parts : (f : List ℕ) → Bytes f → (prs : List (ℕ × ℕ)) → AllByRecursion Bytes (map (part_at f) prs)
bytes_parts f b [] = tt
bytes_parts f b (p ∷ ps) = (bytes_take p.1 (drop p.0 f) (bytes_drop p.0 f b), bytes_parts f b ps)

parts_again : (ps : List (List ℕ)) → AllByRecursion (λ p. part_fault p ≡ None) ps → AllByRecursion Bytes ps → map encoded (map material ps) ≡ ps
parts_again [] a b = refl
parts_again (p ∷ ps) a b = λ i. part_again p a.0 b.0 i ∷ parts_again ps a.1 b.1 i

-- a file that is not refused is what its materials are written as
pub file_again : (f : List ℕ) → refusal f ≡ None → Bytes f → encode (map material (parts f)) ≡ f
file_again f h b =
    let s = or_else_none (file_fault f) (records_fault [] 1 (parts f)) h in
    ap packed (parts_again (parts f) (all_sound part_fault name_of [] 1 (parts f) s.1) (bytes_parts f b (directory f))) ∙ packed_again f (sound f s.0) b

faults_forth : (e : List (List ℕ)) (k : ℕ) (ps : List (List ℕ)) → records_fault e k ps ≡ None → AllByRecursion (λ p. part_fault p ≡ None) ps → materials_fault e k (map material ps) ≡ records_fault e k ps
faults_forth e k [] h a = refl
faults_forth e k (p ∷ ps) h a =
    let s = numbered_none k _ _ h in
    (λ i. numbered k (or_else (((full p a.0).good ∙ sym a.0) i) (used_fault e (name_of p))) (faults_forth (e ++ name_of p ∷ []) (k + 1) ps s.1 a.1 i))

-- what was read is a good list
pub good_forth : (f : List ℕ) → refusal f ≡ None → Good (map material (parts f))
good_forth f h =
    let s = or_else_none (file_fault f) (records_fault [] 1 (parts f)) h in
    let d = sound f s.0 in
    let a = all_sound part_fault name_of [] 1 (parts f) s.1 in
    let n = length-map (parts f) material in
    let c : length (map material (parts f)) ≤ 512 = omega (arith, d.count, length_parts f) in
    let t : first ((leb (length (map material (parts f))) 512, RecordCount) ∷ []) ≡ None = cond-true _ _ _ (le-leb (length (map material (parts f))) 512 c) in
    ap (λ o. or_else o (materials_fault [] 1 (map material (parts f)))) t ∙ (faults_forth [] 1 (parts f) s.1 a ∙ s.1)

-- and is refused when it is written only for want of room
pub refusal_forth : (f : List ℕ) (room : ℕ) → refusal f ≡ None → Bytes f → write_refusal (map material (parts f)) room ≡ cond (leb (length f) room) None (Some DestinationTooShort)
refusal_forth f room h b =
    let e = file_again f h b in
    ap (λ o. or_else o (cond (leb (length (encode (map material (parts f)))) room) None (Some DestinationTooShort))) (good_forth f h)
    ∙ ap (λ l. cond (leb (length l) room) None (Some DestinationTooShort)) e

short_why : (b : Bool) (e : Refusal) → cond b None (Some DestinationTooShort) ≡ Some e → (b ≡ false) × (e ≡ DestinationTooShort)
short_why true e h = absurd (some_none e (sym h))
short_why false e h = (refl, cc)

rewritten_by : (f before after : List ℕ) (r : Result ℕ Refusal) → refusal f ≡ None → Bytes f → Written (map material (parts f)) before after r → Rewritten f before after r
rewritten_by f before after (Ok n) h b w = let e = file_again f h b in (h, w.1 ∙ ap length e, w.2 ∙ ap (λ l. l ++ drop n before) e)
rewritten_by f before after (Err x) h b w =
    let s = short_why (leb (length f) (length before)) x (sym (refusal_forth f (length before) h b) ∙ w.0) in
    (w.1, inr (h, inr (s.1, leb-false (length f) (length before) s.0)))

pub rewritten : (f before after : List ℕ) (ms : List Material) (r : Result ℕ Refusal) → refusal f ≡ None → Bytes f → ms ≡ map material (parts f) → Written ms before after r → Rewritten f before after r
rewritten f before after ms r h b e w = rewritten_by f before after r h b (subst (λ l. Written l before after r) e w)

-- a file is not refused exactly if it is the encoding of good materials
pub encoding_of : (f : List ℕ) → Bytes f → refusal f ≡ None → Encoding f
encoding_of f b h = (map material (parts f), (good_forth f h, file_again f h b))

pub not_encoding : (f : List ℕ) (e : Refusal) → refusal f ≡ Some e → Encoding f → ⊥
not_encoding f e h x = some_none e (sym h ∙ (ap refusal (sym x.1.1) ∙ refusal_back x.0 x.1.0))
