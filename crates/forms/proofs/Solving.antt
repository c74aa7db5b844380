-- A wiring whose every step gives the equation's next output solves the equation.
use Rattle.std.proofs.Common.{◌≡◌, ℕ, zero, suc, ◌+◌, ◌-◌, ◌<◌, Bool, true, false, cond, leb, List, [], ◌∷◌, map, length, get_or, replicate, ℤ, Ok, refl, ap, ◌∙◌, ap₂, arith}
use Rattle.arithmetic.specs.Settings.{FixedArithmetic, fraction}
use Rattle.exact.specs.Numbers.{Exact, whole, ◌⊟◌}
use Rattle.kinds.specs.Arithmetics.{exact}
use Rattle.wiring.specs.Graphs.{Graph}
use Rattle.wiring.specs.Runs.{onward, Worked, run}
use Rattle.std.proofs.lemmas.List.{length-map}
use Rattle.std.proofs.lemmas.Bool.{leb-true, leb-false}
use Rattle.forms.specs.Equation.{zero_exact, delayed, weighted, Solves, outputs, outputs_from}
use Rattle.forms.proofs.Weighted.{push, weighted_same}

-- ---- the past at a time n: what the list gives up to then, over a past h
abbrev back : (ℕ → Exact) → List Exact → ℕ → ℕ → Exact
back h [] n = h
back h (x ∷ xs) zero = push x h
back h (x ∷ xs) (suc n) = back (push x h) xs n

-- before the list's start
before : (xs : List Exact) (h : ℕ → Exact) (n i k : ℕ) → n < length xs → i ≡ suc (n + k) → back h xs n i ≡ h k
before [] h n i k l e = absurd (omega arith)
before (x ∷ xs) h zero i k l e = let d : i ≡ suc k = omega arith in ap (push x h) d
before (x ∷ xs) h (suc n) i k l e = before xs (push x h) n i (suc k) (omega arith) (omega arith)

-- within it
within : (xs : List Exact) (h : ℕ → Exact) (n i j : ℕ) → n < length xs → n ≡ i + j → back h xs n i ≡ get_or xs j zero_exact
within [] h n i j l e = absurd (omega arith)
within (x ∷ xs) h zero zero zero l e = refl
within (x ∷ xs) h zero zero (suc j) l e = absurd (omega arith)
within (x ∷ xs) h zero (suc i) j l e = absurd (omega arith)
within (x ∷ xs) h (suc n) i zero l e = before xs (push x h) n i 0 (omega arith) (omega arith)
within (x ∷ xs) h (suc n) i (suc j) l e = within xs (push x h) n i j (omega arith) (omega arith)

back_delayed : (xs : List Exact) (n i : ℕ) → n < length xs → back (λ k. zero_exact) xs n i ≡ delayed xs n i
back_delayed xs n i l = go (leb i n) refl
  where
    go : (t : Bool) → leb i n ≡ t → back (λ k. zero_exact) xs n i ≡ cond t (get_or xs (n - i) zero_exact) zero_exact
    go true e = let h = leb-true i n e in within xs (λ k. zero_exact) n i (n - i) l (omega arith)
    go false e = let h = leb-false i n e in before xs (λ k. zero_exact) n i (i - suc n) l (omega arith)

-- ---- one step: from pasts u and y of the input and the output, newest first, the output is the equation's
module _ (s : FixedArithmetic) (g : Graph) (cs b a : List ℤ) (Fits : List Exact → (ℕ → Exact) → (ℕ → Exact) → Type 0) where
  pub record Step (rs : List Exact) (u y : ℕ → Exact) (z : ℤ) : Type 0 where
    pub next : Worked Exact
    pub runs : run (exact s) g cs rs z ≡ Ok next
    pub output_is : next.output ≡ weighted (fraction s) b (push (whole z) u) ⊟ weighted (fraction s) a y
    pub fits : Fits next.registers (push (whole z) u) (push next.output y)

  -- outputs ys for the samples us
  record From (rs : List Exact) (u y : ℕ → Exact) (us : List ℤ) : Type 0 where
    ys : List Exact
    runs : outputs_from s g cs rs us ≡ Ok ys
    long : length ys ≡ length us
    each : (n : ℕ) → n < length us → get_or ys n zero_exact ≡ weighted (fraction s) b (back u (map whole us) n) ⊟ weighted (fraction s) a (λ i. back y ys n (suc i))

  module _ (step : (rs : List Exact) (u y : ℕ → Exact) → Fits rs u y → (z : ℤ) → Step rs u y z) where
    from : (us : List ℤ) (rs : List Exact) (u y : ℕ → Exact) → Fits rs u y → From rs u y us
    unfolding outputs_from
    from [] rs u y h = record { ys = []; runs = refl; long = refl; each = λ n l. absurd (omega arith) }
    from (z ∷ us) rs u y h =
        let t = step rs u y h z in
        let w = t.next in
        let f = from us w.registers (push (whole z) u) (push w.output y) t.fits in
        record {
          ys = w.output ∷ f.ys;
          runs = ap (λ r. onward r (λ w. onward (outputs_from s g cs w.registers us) (λ ys. Ok (w.output ∷ ys)))) t.runs ∙ ap (λ r. onward r (λ ys. Ok (w.output ∷ ys))) f.runs;
          long = ap suc f.long;
          each = elim [ zero ↦ (λ l. t.output_is) | suc n ↦ (λ l. f.each n (omega arith)) ];
        }

    pub solved : Fits (replicate (length g.sources) zero_exact) (λ i. zero_exact) (λ i. zero_exact) → (us : List ℤ)
        → (ys : List Exact) × (outputs s g cs us ≡ Ok ys) × Solves (fraction s) b a (map whole us) ys
    solved h us =
        let f = from us (replicate (length g.sources) zero_exact) (λ i. zero_exact) (λ i. zero_exact) h in
        let e = length-map us whole in
        let d = f.long in (
          f.ys,
          f.runs,
          record {
            same_length = omega arith;
            at_each = λ n l. f.each n (omega arith) ∙ ap₂ ◌⊟◌ (weighted_same (fraction s) b _ _ (λ i. back_delayed (map whole us) n i l)) (weighted_same (fraction s) a _ _ (λ i. back_delayed f.ys n (suc i) (omega arith)));
          },
        )
