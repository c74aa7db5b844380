-- Bytes written one after another. Assumes nothing.
use Rattle.std.proofs.Common.{◌≡◌, ℕ, ◌+◌, ◌-◌, ◌*◌, ◌<◌, ◌≤◌, List, [], ◌∷◌, ◌++◌, map, length, get_or, take, drop, ℤ, pos, sym, refl, ap, ◌∙◌, add-zero, arith}
use borrow.Rule.Slice.PartMut.{put_mid}
use Rattle.std.specs.List.{flat_map}
use Rattle.std.proofs.lemmas.List.{append_assoc, length-append, length-take, length-drop, length-take-le, take-append-drop, take_at, drop_at, drop-drop, take_more, flat_map_more, map_push, length-map}
use Rattle.materials.specs.Layout.{Puts, coded, Material, encoded, pairs, four, two}

pub puts_none : (d : List ℕ) (at : ℕ) → at ≤ length d → Puts d at [] d at
puts_none d at h = record { ends = sym (add-zero at); fits = omega arith; holds = sym (ap (λ k. take at d ++ drop k d) (add-zero at) ∙ take-append-drop at d) }

-- what a copy into a part of a slice leaves
pub puts_part : (d : List ℕ) (at : ℕ) (bs now : List ℕ) → at + length bs ≤ length d → now ≡ bs → Puts d at bs (put_mid at (at + length bs - at) d now) (at + length bs)
puts_part d at bs now h e =
    let k : at + length bs - at ≡ length bs = omega arith in
    record { ends = refl; fits = h; holds = (λ i. take at d ++ (e i ++ drop (k i) (drop at d))) ∙ ap (λ l. take at d ++ (bs ++ l)) (drop-drop (length bs) at d) }

module _ {d : List ℕ} {at : ℕ} {bs d₁ : List ℕ} {e₁ : ℕ} (p : Puts d at bs d₁ e₁) where
  split : d₁ ≡ (take at d ++ bs) ++ drop (at + length bs) d
  split = p.holds ∙ sym (append_assoc (take at d) bs (drop (at + length bs) d))

  length_front : length (take at d ++ bs) ≡ e₁
  length_front = length-append (take at d) bs ∙ (ap (λ n. n + length bs) (length-take-le at d (omega (arith, p.fits))) ∙ sym p.ends)

  pub puts_length : length d₁ ≡ length d
  puts_length = ap length split ∙ simp (length-append, length-take, length-drop) (omega (arith, p.fits))

  pub puts_more : {cs d₂ : List ℕ} {e₂ : ℕ} → Puts d₁ e₁ cs d₂ e₂ → Puts d at (bs ++ cs) d₂ e₂
  puts_more {cs} {d₂} {e₂} q =
      let n : e₂ ≡ at + length (bs ++ cs) = q.ends ∙ simp length-append (omega (arith, p.ends)) in
      let t : take e₁ d₁ ≡ take at d ++ bs = ap (take e₁) split ∙ take_at (take at d ++ bs) (drop (at + length bs) d) e₁ length_front in
      let u : drop e₁ d₁ ≡ drop (at + length bs) d = ap (drop e₁) split ∙ drop_at (take at d ++ bs) (drop (at + length bs) d) e₁ length_front in
      let v : drop (e₁ + length cs) d₁ ≡ drop (at + length (bs ++ cs)) d = sym (drop-drop (length cs) e₁ d₁) ∙ (ap (drop (length cs)) u ∙ (drop-drop (length cs) (at + length bs) d ∙ ap (λ k. drop k d) (simp length-append (omega arith)))) in
      record { ends = n; fits = simp length-append (omega (arith, puts_length, p.ends, q.fits)); holds = q.holds ∙ ((λ i. t i ++ (cs ++ v i)) ∙ (append_assoc (take at d) bs (cs ++ drop (at + length (bs ++ cs)) d) ∙ ap (λ l. take at d ++ l) (sym (append_assoc bs cs (drop (at + length (bs ++ cs)) d))))) }

pub length_joined_coded : (zs : List ℤ) → length (flat_map coded zs) ≡ 4 * length zs
length_joined_coded [] = refl
length_joined_coded (z ∷ zs) = let r = length_joined_coded zs in omega arith

-- one coefficient more
pub coded_more : (zs : List ℤ) (i : ℕ) (bs : List ℕ) → i < length zs → bs ≡ coded (get_or zs i (pos 0)) → flat_map coded (take i zs) ++ bs ≡ flat_map coded (take (i + 1) zs)
coded_more zs i bs h e = ap (λ l. flat_map coded (take i zs) ++ l) e ∙ (flat_map_more coded [] (take i zs) (get_or zs i (pos 0)) ∙ ap (flat_map coded) (sym (take_more zs i (pos 0) h)))

pub length_coded_take : (zs : List ℤ) (i : ℕ) → i ≤ length zs → length (flat_map coded (take i zs)) ≡ 4 * i
length_coded_take zs i h = length_joined_coded (take i zs) ∙ ap (λ n. 4 * n) (length-take-le i zs h)

pub joined_append : {X : Type 0} (f : X → List ℕ) (xs ys : List X) → flat_map f (xs ++ ys) ≡ flat_map f xs ++ flat_map f ys
joined_append f [] ys = refl
joined_append f (x ∷ xs) ys = ap (λ l. f x ++ l) (joined_append f xs ys) ∙ sym (append_assoc (f x) (flat_map f xs) (flat_map f ys))

-- a record is its pieces, one after another
pub encoded_pieces : (m : Material) (l : ℕ) (n fs : List ℕ) (a b : List ℤ) → l ≡ length m.name → n ≡ m.name → fs ≡ m.form ∷ m.rounding ∷ m.overflow ∷ m.whole ∷ m.fraction ∷ length m.forward ∷ length m.back ∷ [] → a ≡ m.forward → b ≡ m.back → l ∷ [] ++ n ++ fs ++ flat_map coded a ++ flat_map coded b ≡ encoded m
encoded_pieces m l n fs a b e g h j k =
    let fs' = m.form ∷ m.rounding ∷ m.overflow ∷ m.whole ∷ m.fraction ∷ length m.forward ∷ length m.back ∷ [] in
    (λ i. e i ∷ [] ++ g i ++ h i ++ flat_map coded (j i) ++ flat_map coded (k i))
    ∙ (append_assoc (length m.name ∷ [] ++ m.name ++ fs') (flat_map coded m.forward) (flat_map coded m.back)
    ∙ (ap (λ t. length m.name ∷ [] ++ m.name ++ fs' ++ t) (sym (joined_append coded m.forward m.back))
    ∙ append_assoc (length m.name ∷ [] ++ m.name) fs' (flat_map coded (m.forward ++ m.back))))

module _ {X : Type 0} (f : X → List ℕ) where
  pub joined_map : (xs : List X) → flat_map (λ p. p) (map f xs) ≡ flat_map f xs
  joined_map [] = refl
  joined_map (x ∷ xs) = ap (λ l. f x ++ l) (joined_map xs)

  module _ (xs : List X) (i : ℕ) (x : X) (h : i < length xs) (is : x ≡ get_or xs i x) where
    next : take (i + 1) xs ≡ take i xs ++ x ∷ []
    next = take_more xs i x h ∙ ap (λ y. take i xs ++ y ∷ []) (sym is)

    pub joined_next : flat_map f (take i xs) ++ f x ≡ flat_map f (take (i + 1) xs)
    joined_next = flat_map_more f [] (take i xs) x ∙ ap (flat_map f) (sym next)

    pub length_next : length (flat_map f (take (i + 1) xs)) ≡ length (flat_map f (take i xs)) + length (f x)
    length_next = ap length (sym joined_next) ∙ length-append (flat_map f (take i xs)) (f x)

    pub room_next : length (flat_map f (take i xs)) + length (f x) ≤ length (flat_map f xs)
    room_next =
        let w : flat_map f (take (i + 1) xs) ++ flat_map f (drop (i + 1) xs) ≡ flat_map f xs = sym (joined_append f (take (i + 1) xs) (drop (i + 1) xs)) ∙ ap (flat_map f) (take-append-drop (i + 1) xs) in
        omega (arith, length_next, ap length w, length-append (flat_map f (take (i + 1) xs)) (flat_map f (drop (i + 1) xs)))

    pub map_next : map f (take (i + 1) xs) ≡ map f (take i xs) ++ f x ∷ []
    map_next = ap (map f) next ∙ map_push f (take i xs) x

pub pairs_push : (o : ℕ) (ps : List (List ℕ)) (p : List ℕ) → pairs o (ps ++ p ∷ []) ≡ pairs o ps ++ (four (o + length (flat_map (λ q. q) ps)) ++ two (length p))
pairs_push o [] p = ap (λ k. four k ++ two (length p)) (sym (add-zero o))
pairs_push o (q ∷ ps) p =
    let e : o + length q + length (flat_map (λ r. r) ps) ≡ o + length (q ++ flat_map (λ r. r) ps) = simp length-append (omega arith) in
    ap (λ l. (four o ++ two (length q)) ++ l) (pairs_push (o + length q) ps p ∙ ap (λ k. pairs (o + length q) ps ++ (four k ++ two (length p))) e)

pub length_pair_bytes : (o : ℕ) (ps : List (List ℕ)) → length (pairs o ps) ≡ 6 * length ps
length_pair_bytes o [] = refl
length_pair_bytes o (p ∷ ps) = let r = length_pair_bytes (o + length p) ps in omega arith

pub pairs_next : {X : Type 0} (f : X → List ℕ) (xs : List X) (i : ℕ) (x : X) (h : i < length xs) (is : x ≡ get_or xs i x) (o begin len : ℕ) (a b : List ℕ) → begin ≡ o + length (flat_map f (take i xs)) → len ≡ length (f x) → a ≡ four begin → b ≡ two len → pairs o (map f (take i xs)) ++ a ++ b ≡ pairs o (map f (take (i + 1) xs))
pairs_next f xs i x h is o begin len a b e l j k =
    let t : begin ≡ o + length (flat_map (λ q. q) (map f (take i xs))) = e ∙ ap (λ n. o + length n) (sym (joined_map f (take i xs))) in
    append_assoc (pairs o (map f (take i xs))) a b
    ∙ ((λ u. pairs o (map f (take i xs)) ++ ((j ∙ ap four t) u ++ (k ∙ ap two l) u))
    ∙ (sym (pairs_push o (map f (take i xs)) (f x)) ∙ ap (pairs o) (sym (map_next f xs i x h is))))

pub length_pair_take : {X : Type 0} (f : X → List ℕ) (o : ℕ) (xs : List X) (i : ℕ) → i ≤ length xs → length (pairs o (map f (take i xs))) ≡ 6 * i
length_pair_take f o xs i h = length_pair_bytes o (map f (take i xs)) ∙ ap (λ n. 6 * n) (length-map (take i xs) f ∙ length-take-le i xs h)
