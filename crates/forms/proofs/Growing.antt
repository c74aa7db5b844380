-- Lists that grow by one entry a turn.
use Rattle.std.proofs.Common.{◌≡◌, ℕ, ◌+◌, List, [], ◌∷◌, ◌++◌, length, sym, ap, ◌∙◌, append_assoc, arith, length-append}
use Rattle.std.proofs.lemmas.List.FromFn.{map-range_with_len_more, length-map-range_with_len}
use Rattle.forms.specs.Parts.{listed}

-- a list that has grown by f 0 to f (n - 1) grows by f n
pub listed_more : {A : Type 0} (f : ℕ → A) (was now : List A) (n : ℕ) (next : List A) → now ≡ was ++ listed f n → next ≡ now ++ f n ∷ [] → next ≡ was ++ listed f (n + 1)
listed_more f was now n next p q =
    q ∙ ap (λ l. l ++ f n ∷ []) p ∙ append_assoc was (listed f n) (f n ∷ []) ∙ ap (λ l. was ++ l) (sym (map-range_with_len_more f 0 n n (omega arith)))

-- how long it is then
pub grown_length : {A : Type 0} (f : ℕ → A) (was now : List A) (n : ℕ) → now ≡ was ++ listed f n → length now ≡ length was + n
grown_length f was now n p = ap length p ∙ length-append was (listed f n) ∙ ap (λ k. length was + k) (length-map-range_with_len f 0 n)
