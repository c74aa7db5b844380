-- Zeros in the registers of a row.
use Rattle.std.proofs.Common.{◌≡◌, ℕ, ◌≤◌, leb, List, [], ◌∷◌, ◌++◌, map, length, drop, replicate, refl, ap, ◌∙◌, le-leb}
use Rattle.wiring.specs.Checks.{unless}
use Rattle.wiring.specs.Made.{unless_fault}

-- one zero for each source
pub zeros_are : {V : Type 0} (z : V) (ss : List ℕ) → replicate (length ss) z ≡ map (λ _. z) ss
zeros_are z [] = refl
zeros_are z (s ∷ ss) = ap (λ l. z ∷ l) (zeros_are z ss)

-- what a row that is long enough holds when its registers were cleared
pub cleared : {V E : Type 0} (z : V) (ss : List ℕ) (row after : List V) (e : E) → length ss ≤ length row
    → after ≡ unless_fault (unless (leb (length ss) (length row)) e) (replicate (length ss) z ++ drop (length ss) row) row
    → after ≡ map (λ _. z) ss ++ drop (length ss) row
cleared z ss row after e long is =
    is
    ∙ ap (λ t. unless_fault (unless t e) (replicate (length ss) z ++ drop (length ss) row) row) (le-leb (length ss) (length row) long)
    ∙ ap (λ l. l ++ drop (length ss) row) (zeros_are z ss)
