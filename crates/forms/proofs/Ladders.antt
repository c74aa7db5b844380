-- Totals by register, one behind the other.
use Rattle.std.proofs.Common.{◌≡◌, ℕ, ◌+◌, min, Bool, cond, ltb, [], ◌∷◌, ◌++◌, sym, ap, ◌∙◌, arith}
use Rattle.std.specs.List.{range_with_len}
use Rattle.std.proofs.lemmas.List.FromFn.{map-range_with_len_more}
use Rattle.std.proofs.lemmas.List.{map-id}
use Rattle.std.proofs.lemmas.Bool.Decides.{nat_tests}

-- ---- one register more
pub counting_more : (n : ℕ) → range_with_len 0 (n + 1) ≡ range_with_len 0 n ++ n ∷ []
counting_more n = sym (map-id (range_with_len 0 (n + 1))) ∙ map-range_with_len_more (λ k. k) 0 n n (omega arith) ∙ ap (λ l. l ++ n ∷ []) (map-id (range_with_len 0 n))

pub min_more : (i n : ℕ) → min (i + 1) n ≡ cond (ltb i n) (min i n + 1) (min i n)
min_more i n = grind (arith, nat_tests)

pub both_more : (x y : Bool) (p a b c d n : ℕ) → c ≡ cond x (a + 1) a → d ≡ cond y (b + 1) b → n ≡ cond x 1 0 + cond y 1 0 → p + c + d ≡ p + a + b + n
both_more x y p a b c d n ec ed en = grind arith
