-- Lists of numbers and of calls, one element more.
use Rattle.std.proofs.Common.{◌≡◌, ℕ, zero, suc, ◌+◌, ◌<◌, Bool, true, false, List, [], ◌∷◌, ◌++◌, map, length, get_or, take, ℤ, Some, None, Bor, sym, subst, arith}
use Rattle.std.proofs.lemmas.List.{map_more}
use Rattle.wiring.proofs.Places.{each₂_push}
use Rattle.wiring.specs.Lists.{Each₂, more₂}
use Rattle.replay.specs.declared.log.Call.{Call}
use Rattle.console_text.specs.Numbers.{Plain, Writes}
use Rattle.console_text.specs.Calls.{Asks, Reads, no_lines, a_call, unread}

-- the bytes of a text that is lent
abbrev pub bytes : Bor (List ℕ) → List ℕ
bytes t = t.now

-- the texts so far and one more
texts_more : (ts : List (Bor (List ℕ))) (i : ℕ) (d : Bor (List ℕ)) → i < length ts → map bytes (take i ts) ++ bytes (get_or ts i d) ∷ [] ≡ map bytes (take (i + 1) ts)
texts_more ts i d h = sym (map_more bytes ts i d h)

pub numbers_more : (ts : List (Bor (List ℕ))) (i : ℕ) (d : Bor (List ℕ)) (z : ℤ) (zs ys : List ℤ) → i < length ts
    → Each₂ Writes (map bytes (take i ts)) zs → Writes (bytes (get_or ts i d)) z → ys ≡ zs ++ z ∷ [] → Each₂ Writes (map bytes (take (i + 1) ts)) ys
numbers_more ts i d z zs ys h e w q =
    subst (λ us. Each₂ Writes us ys) (texts_more ts i d h) (subst (Each₂ Writes (map bytes (take i ts) ++ bytes (get_or ts i d) ∷ [])) (sym q) (each₂_push (bytes (get_or ts i d)) z e w))

reads_push : {V : Type 0} {r n : ℕ} {ls : List (List ℕ)} {ms : List Bool} {cs : List (Call V)} (l : List ℕ) (c : Call V) → Reads r n ls ms cs → Asks r n l (Some c) → Reads r n (ls ++ l ∷ []) (ms ++ true ∷ []) (cs ++ c ∷ [])
reads_push l c no_lines a = a_call a no_lines
reads_push l c (a_call b e) a = a_call b (reads_push l c e a)
reads_push l c (unread b e) a = unread b (reads_push l c e a)

unread_push : {V : Type 0} {r n : ℕ} {ls : List (List ℕ)} {ms : List Bool} {cs : List (Call V)} (l : List ℕ) → Reads r n ls ms cs → Asks {V = V} r n l None → Reads r n (ls ++ l ∷ []) (ms ++ false ∷ []) cs
unread_push l no_lines a = unread a no_lines
unread_push l (a_call b e) a = a_call b (unread_push l e a)
unread_push l (unread b e) a = unread b (unread_push l e a)

pub reads_more : {V : Type 0} (r n : ℕ) (ls : List (Bor (List ℕ))) (i : ℕ) (d : Bor (List ℕ)) (c : Call V) (ms ns : List Bool) (cs ds : List (Call V)) → i < length ls
    → Reads r n (map bytes (take i ls)) ms cs → Asks r n (bytes (get_or ls i d)) (Some c) → ns ≡ ms ++ true ∷ [] → ds ≡ cs ++ c ∷ [] → Reads r n (map bytes (take (i + 1) ls)) ns ds
reads_more r n ls i d c ms ns cs ds h e a p q =
    subst (λ us. Reads r n us ns ds) (texts_more ls i d h)
    (subst (λ us. Reads r n (map bytes (take i ls) ++ bytes (get_or ls i d) ∷ []) us ds) (sym p)
    (subst (λ us. Reads r n (map bytes (take i ls) ++ bytes (get_or ls i d) ∷ []) (ms ++ true ∷ []) us) (sym q) (reads_push (bytes (get_or ls i d)) c e a)))

pub unread_more : {V : Type 0} (r n : ℕ) (ls : List (Bor (List ℕ))) (i : ℕ) (d : Bor (List ℕ)) (ms ns : List Bool) (cs : List (Call V)) → i < length ls
    → Reads r n (map bytes (take i ls)) ms cs → Asks {V = V} r n (bytes (get_or ls i d)) None → ns ≡ ms ++ false ∷ [] → Reads r n (map bytes (take (i + 1) ls)) ns cs
unread_more r n ls i d ms ns cs h e a p =
    subst (λ us. Reads r n us ns cs) (texts_more ls i d h)
    (subst (λ us. Reads r n (map bytes (take i ls) ++ bytes (get_or ls i d) ∷ []) us cs) (sym p) (unread_push (bytes (get_or ls i d)) e a))

-- each text of a list that writes numbers writes one
written_at : (ts : List (Bor (List ℕ))) (i : ℕ) (d : Bor (List ℕ)) (zs : List ℤ) → i < length ts → Each₂ Writes (map bytes ts) zs → Plain (bytes (get_or ts i d))
written_at [] i d zs h e = absurd (omega arith)
written_at (t ∷ ts) zero d [] h e = elim e [ ]
written_at (t ∷ ts) (suc i) d [] h e = elim e [ ]
written_at (t ∷ ts) zero d (z ∷ zs) h (more₂ w e) = w.0
written_at (t ∷ ts) (suc i) d (z ∷ zs) h (more₂ w e) = written_at ts i d zs (omega arith) e

-- so a text that writes none is in no such list
pub one_unwritten : (ts : List (Bor (List ℕ))) (i : ℕ) (d : Bor (List ℕ)) (zs : List ℤ) → i < length ts → (Plain (bytes (get_or ts i d)) → ⊥) → Each₂ Writes (map bytes ts) zs → ⊥
one_unwritten ts i d zs h none e = none (written_at ts i d zs h e)
