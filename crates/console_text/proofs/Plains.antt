-- A number's text is ASCII, and so UTF-8.
use Rattle.std.proofs.Common.{◌≡◌, ℕ, Bool, true, false, cond, eqb, List, [], ◌∷◌, drop, Ok, Err, Result, is_ok, MatchResult, IsUtf8, IsAscii, sym, refl, arith}
use Rattle.std.specs.Str.Parse.{AllDigits}
use Rattle.std.proofs.lemmas.Str.Ascii.{IsAscii-nil, IsAscii-cons}
use Rattle.std.proofs.lemmas.Str.Parse.{digit_from_value}
use Rattle.std.proofs.lemmas.Bool.{eqb-true, both_ways}
use Rattle.std.proofs.lemmas.Str.{IsUtf8-from_ascii}
use Rattle.console_text.specs.Numbers.{Plain}

digits_ascii : (ds : List ℕ) → AllDigits 10 ds → IsAscii ds
digits_ascii [] h = IsAscii-nil
digits_ascii (d ∷ ds) h =
    let k = digit_from_value d h.0 in
    IsAscii-cons d ds (omega arith) (digits_ascii ds h.1)

signed_ascii : (b : ℕ) (bs : List ℕ) (m p : Bool) → eqb b 45 ≡ m → eqb b 43 ≡ p → (b ≡ 43 → ⊥) → AllDigits 10 (cond m (drop 1 (b ∷ bs)) (drop (cond p 1 0) (b ∷ bs))) → IsAscii (b ∷ bs)
signed_ascii b bs true p e q other h = let k : b ≡ 45 = eqb-true b 45 e in IsAscii-cons b bs (omega arith) (digits_ascii bs h)
signed_ascii b bs false true e q other h = absurd (other (eqb-true b 43 q))
signed_ascii b bs false false e q other h = digits_ascii (b ∷ bs) h

plain_ascii : (bs : List ℕ) → Plain bs → IsAscii bs
plain_ascii [] h = IsAscii-nil
plain_ascii (b ∷ bs) h = signed_ascii b bs (eqb b 45) (eqb b 43) refl refl h.0 h.1.1

-- so what is no UTF-8 writes no number
pub plain_utf8 : (bs : List ℕ) → Plain bs → IsUtf8 bs
plain_utf8 bs h = IsUtf8-from_ascii bs (plain_ascii bs h)

pub not_utf8 : {S E : Type 0} (bs : List ℕ) (P : S → Type 0) (Q : E → Type 0) (r : Result S E) → MatchResult r P (λ e. (IsUtf8 bs → ⊥) × Q e) → false ≡ is_ok r → Plain bs → ⊥
not_utf8 bs P Q (Ok x) h k p = both_ways true (sym k) refl
not_utf8 bs P Q (Err e) h k p = h.0 (plain_utf8 bs p)
