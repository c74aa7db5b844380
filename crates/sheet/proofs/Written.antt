-- Rows that a loop writes from the front.
use Rattle.std.proofs.Common.{◌≡◌, ℕ, ◌+◌, ◌<◌, ◌≤◌, List, [], ◌∷◌, ◌++◌, length, get_or, take, drop, set, sym, ap, ◌∙◌, subst, arith}
use Rattle.std.proofs.lemmas.List.{length-take-le, take_more, take_all}
use Rattle.wiring.specs.Lists.{Each₂}
use Rattle.wiring.proofs.Rows.{filled_more}
use Rattle.sheet.specs.Searching.{over}
use Rattle.sheet.proofs.Places.{each_length, each_more}

module _ {X Y : Type 0} (R : X → Y → Type 0) (xs : List X) (row : List Y) where
  -- the first i places of a row are written
  abbrev pub Written : ℕ → List Y → Type 0
  Written i now = (ys : List Y) × Each₂ R (take i xs) ys × (now ≡ ys ++ drop i row)

  pub written_more : (x : X) (y : Y) (now : List Y) (i : ℕ) → i < length xs → length xs ≤ length row → x ≡ get_or xs i x → R x y → Written i now → Written (i + 1) (set now i y)
  written_more x y now i h k read r w =
      let long = each_length w.1 in
      let l = length-take-le i xs (omega arith) in (
        w.0 ++ y ∷ [],
        subst (λ l. Each₂ R l (w.0 ++ y ∷ [])) (ap (λ z. take i xs ++ z ∷ []) read ∙ sym (take_more xs i x h)) (each_more w.1 r),
        filled_more w.0 row now i y (omega arith) (omega arith) w.2,
      )

  pub written_all : (now : List Y) (i : ℕ) → i ≡ length xs → Written i now → (ys : List Y) × Each₂ R xs ys × (now ≡ over ys row)
  written_all now i h w =
      let each : Each₂ R xs w.0 = subst (λ l. Each₂ R l w.0) (take_all i xs (omega arith)) w.1 in
      (w.0, each, w.2 ∙ ap (λ k. w.0 ++ drop k row) (h ∙ each_length each))
