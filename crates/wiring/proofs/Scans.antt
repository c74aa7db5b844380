-- A loop that looks along a list for the first fault.
use Rattle.std.proofs.Common.{◌≡◌, ℕ, zero, suc, ◌+◌, ◌<◌, ◌≤◌, List, [], ◌∷◌, length, get_or, drop, Some, None, Option, refl, add-one, arith, drop-cons}
use Rattle.wiring.specs.Checks.{scan}

module _ {A F : Type 0} (fault : ℕ → A → Option F) (xs : List A) (i : ℕ) (d : A) where
  pub scan_on : i < length xs → fault i (get_or xs i d) ≡ None → scan fault i (drop i xs) ≡ scan fault (i + 1) (drop (i + 1) xs)
  scan_on h e = rw (add-one, drop-cons xs i d h, e)

  pub scan_found : (f : F) → i < length xs → fault i (get_or xs i d) ≡ Some f → scan fault i (drop i xs) ≡ Some f
  scan_found f h e = rw (drop-cons xs i d h, e)

pub scan_end : {A F : Type 0} (fault : ℕ → A → Option F) (xs : List A) (j i : ℕ) → length xs ≤ i → scan fault j (drop i xs) ≡ None
scan_end fault [] j zero h = refl
scan_end fault [] j (suc i) h = refl
scan_end fault (x ∷ xs) j zero h = absurd (omega arith)
scan_end fault (x ∷ xs) j (suc i) h = scan_end fault xs j i (omega arith)
