-- Direct form 1 keeps the difference equation.
use Rattle.std.proofs.Common.{◌≡◌, ℕ, suc, ◌+◌, List, [], ◌∷◌, ◌++◌, map, length, get_or, replicate, ℤ, sym, refl, ap, ◌∙◌, ap₂, arith, length-append}
use lib.ListN.{replicate-append-replicate}
use Rattle.std.proofs.lemmas.List.FromFn.{length-map-range_with_len}
use Rattle.std.proofs.lemmas.List.{get_or_append_left, get_or-append-add, map-append}
use Rattle.arithmetic.specs.Settings.{FixedArithmetic, fraction}
use Rattle.exact.specs.Numbers.{Exact, whole, ◌⊞◌, ◌⊟◌}
use Rattle.wiring.specs.Runs.{taken}
use Rattle.forms.specs.Parts.{listed, chain, taps, sums, differences, delays}
use Rattle.forms.specs.Forms.{direct1, direct1_products, direct1_totals, direct1_sum, direct1_output}
use Rattle.forms.specs.Equation.{zero_exact, weighted, DifferenceEquation}
use Rattle.forms.proofs.Weighted.{push, products, weighted_first}
use Rattle.forms.proofs.Rows.{Reads, Row, moved_to, valued, along, chain_next, Started, Laid, Totalled, start_laid, scales_laid, sums_laid, differences_laid, work_then, run_is, front_named, back_named, listed_at, taken_row, zeros_listed}
use Rattle.forms.proofs.Solving.{Step, solved}

-- the registers hold the past of the input, then that of the output
module _ (s : FixedArithmetic) (c : ℤ) (bs a : List ℤ) where
  abbrev Fits : List Exact → (ℕ → Exact) → (ℕ → Exact) → Type 0
  Fits rs u y = rs ≡ listed u (length bs) ++ listed y (length a)

  abbrev Next : List Exact → (ℕ → Exact) → (ℕ → Exact) → ℤ → Type 0
  Next rs u y z = Step s (direct1 (length bs) (length a)) ((c ∷ bs) ++ a) (c ∷ bs) a Fits rs u y z

-- ---- one step, row by row: the input and the registers, the products of b, those of a, the sum, the difference
module _ (s : FixedArithmetic) (c : ℤ) (bs a : List ℤ) (rs : List Exact) (u y : ℕ → Exact) (z : ℤ) where
  abbrev N : ℕ
  N = length bs

  abbrev M : ℕ
  M = length a

  abbrev cs : List ℤ
  cs = (c ∷ bs) ++ a

  abbrev P : ℕ
  P = direct1_products N M

  abbrev T : ℕ
  T = direct1_totals N M

  -- the products of the coefficients b and a
  abbrev forward : ℕ → Exact
  forward = products (fraction s) (c ∷ bs) (push (whole z) u)

  abbrev feedback : ℕ → Exact
  feedback = products (fraction s) a y

  abbrev total : Exact
  total = forward 0 ⊞ weighted (fraction s) bs u

  module _ (t0 : Started s cs rs z (N + M)) (ru : Row t0.after 1 u N) (ry : Row t0.after (N + 1) y M) where
    finish : (t1 : Laid s cs rs z t0.after (taps 0 1 0 (N + 1)) (N + 1) forward) (t2 : Laid s cs rs z t1.after (taps (N + 1) (N + 2) (N + 1) M) M feedback)
        (t3 : Totalled s cs rs z t2.after (sums P T (P + 1) N) N (direct1_sum N M) total)
        → Totalled s cs rs z t3.after (differences (direct1_sum N M) (T + N) (P + (N + 1)) M) M (direct1_output N M) (total ⊟ weighted (fraction s) a y) → Next s c bs a rs u y z
    finish t1 t2 t3 t4 = record {
      next = taken (direct1 N M) zero_exact t4.after;
      runs = run_is s cs rs z (direct1 N M) t4.after
          (work_then s cs rs z _ _ [] t3.after t4.after
          (work_then s cs rs z _ _ [] t2.after t3.after
          (work_then s cs rs z _ _ [] t1.after t2.after (work_then s cs rs z _ _ [] t0.after t1.after t0.worked t1.worked) t2.worked)
          t3.worked)
          t4.worked);
      output_is = t4.end.value ∙ ap (λ v. v ⊟ weighted (fraction s) a y) (sym (weighted_first (fraction s) c bs (push (whole z) u)));
      fits = map-append (λ k. get_or t4.after k zero_exact) (delays 0 1 N) (delays (direct1_output N M) (N + 1) M) ∙ ap₂ ◌++◌ inputs outputs;
    }
      where
        later : (k : ℕ) (v : Exact) → Reads t0.after k v → Reads t4.after k v
        later k v r = t4.keeps k v (t3.keeps k v (t2.extends.keeps k v (t1.extends.keeps k v r)))

        inputs : map (λ k. get_or t4.after k zero_exact) (delays 0 1 N) ≡ listed (push (whole z) u) N
        inputs = taken_row t4.after (chain 0 1) (push (whole z) u) N (λ i k. along t4.after 0 1 N (whole z) u (later _ _ t0.input) (λ i k. later _ _ (ru i k)) i (omega arith))

        outputs : map (λ k. get_or t4.after k zero_exact) (delays (direct1_output N M) (N + 1) M) ≡ listed (push (get_or t4.after (direct1_output N M) zero_exact) y) M
        outputs = taken_row t4.after (chain (direct1_output N M) (N + 1)) (push (get_or t4.after (direct1_output N M) zero_exact) y) M
            (λ i k. along t4.after (direct1_output N M) (N + 1) M _ y (record { within = t4.end.within; value = refl }) (λ i k. later _ _ (ry i k)) i (omega arith))

    with_feedback : (t1 : Laid s cs rs z t0.after (taps 0 1 0 (N + 1)) (N + 1) forward) → Laid s cs rs z t1.after (taps (N + 1) (N + 2) (N + 1) M) M feedback → Next s c bs a rs u y z
    with_feedback t1 t2 =
        let l1 = t0.long in
        let l2 = t1.extends.longer in
        let l3 = t2.extends.longer in
        with_sum (sums_laid s cs rs z t2.after P T (P + 1) bs (forward 0) u (omega arith)
        (t2.extends.keeps _ _ (moved_to _ _ _ _ (omega arith) (t1.extends.row 0 (omega arith))))
        (λ i k. t2.extends.keeps _ _ (moved_to _ _ _ _ (omega arith) (t1.extends.row (suc i) (omega arith)))))
      where
        with_sum : Totalled s cs rs z t2.after (sums P T (P + 1) N) N (direct1_sum N M) total → Next s c bs a rs u y z
        with_sum t3 =
            let l1 = t0.long in
            let l2 = t1.extends.longer in
            let l3 = t2.extends.longer in
            let l4 = t3.longer in
            finish t1 t2 t3 (differences_laid s cs rs z t3.after (direct1_sum N M) (T + N) (P + (N + 1)) a total y (omega arith) t3.end
            (λ i k. t3.keeps _ _ (moved_to _ _ _ _ (omega arith) (t2.extends.row i k))))

    with_forward : Laid s cs rs z t0.after (taps 0 1 0 (N + 1)) (N + 1) forward → Next s c bs a rs u y z
    with_forward t1 = with_feedback t1 (scales_laid s cs rs z t1.after (chain (N + 1) (N + 2)) (N + 1) M a y (λ i k. back_named (c ∷ bs) a (N + 1) i (omega arith))
        (λ i k. t1.extends.keeps _ _ (moved_to _ _ _ _ (sym (chain_next (N + 1) (N + 2) i (omega arith))) (ry i k))))

    with_start : Next s c bs a rs u y z
    with_start = with_forward (scales_laid s cs rs z t0.after (chain 0 1) 0 (N + 1) (c ∷ bs) (push (whole z) u) (λ i k. front_named (c ∷ bs) a i (omega arith)) (λ i k. along t0.after 0 1 N (whole z) u t0.input ru i (omega arith)))

  step : Fits s c bs a rs u y → Next s c bs a rs u y z
  step h = start (start_laid s cs rs z (N + M))
    where
      long : length (listed u N) ≡ N
      long = length-map-range_with_len u 0 N

      start : Started s cs rs z (N + M) → Next s c bs a rs u y z
      start t0 = with_start t0
          (λ i k. let l = long in valued t0.after _ _ _ (ap (λ rs. get_or rs i zero_exact) h ∙ get_or_append_left (listed u N) (listed y M) zero_exact i (omega arith) ∙ listed_at u N i k) (t0.row i (omega arith)))
          (λ i k. let l = long in moved_to t0.after (1 + (length (listed u N) + i)) (N + 1 + i) _ (omega arith)
          (valued t0.after _ _ _ (ap (λ rs. get_or rs (length (listed u N) + i) zero_exact) h ∙ get_or-append-add (listed u N) (listed y M) i zero_exact ∙ listed_at y M i k) (t0.row (length (listed u N) + i) (omega arith))))

pub direct1_keeps : (c : ℤ) (bs a : List ℤ) → DifferenceEquation (direct1 (length bs) (length a)) ((c ∷ bs) ++ a) (c ∷ bs) a
direct1_keeps c bs a s = solved s (direct1 (length bs) (length a)) ((c ∷ bs) ++ a) (c ∷ bs) a (Fits s c bs a) (λ rs u y h z. step s c bs a rs u y z h)
    (ap (λ n. replicate n zero_exact) (length-append (delays 0 1 (length bs)) _ ∙ ap₂ ◌+◌ (length-map-range_with_len (chain 0 1) 0 (length bs)) (length-map-range_with_len (chain (direct1_output (length bs) (length a)) (length bs + 1)) 0 (length a))) ∙ sym (replicate-append-replicate (length bs) (length a) zero_exact) ∙ ap₂ ◌++◌ (zeros_listed (length bs)) (zeros_listed (length a)))
