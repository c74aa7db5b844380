-- Direct form 2 keeps the difference equation.
use Rattle.std.proofs.Common.{◌≡◌, ℕ, zero, suc, ◌+◌, max, List, [], ◌∷◌, ◌++◌, length, get_or, replicate, ℤ, sym, ap, ◌∙◌, add_comm, suc-add, zero-add, arith}
use Rattle.std.proofs.lemmas.List.FromFn.{length-map-range_with_len}
use Rattle.arithmetic.specs.Settings.{FixedArithmetic, fraction}
use Rattle.exact.specs.Numbers.{Exact, whole, ◌⊞◌, ◌⊟◌}
use Rattle.exact.proofs.NumberLaws.{sum_none}
use Rattle.wiring.specs.Runs.{taken}
use Rattle.forms.specs.Parts.{listed, chain, taps, sums, differences}
use Rattle.forms.specs.Forms.{direct2, direct2_totals, direct2_middle, direct2_products, direct2_output}
use Rattle.forms.specs.Equation.{zero_exact, weighted, DifferenceEquation}
use Rattle.forms.proofs.Weighted.{push, products, weighted_first, weighted_same, weighted_sum, weighted_swap, weighted_none, sum_less, less_sum}
use Rattle.forms.proofs.Rows.{Row, moved_to, valued, along, chain_next, Started, Laid, Totalled, start_laid, scales_laid, sums_laid, differences_laid, work_then, run_is, front_named, back_named, listed_at, taken_row, zeros_listed}
use Rattle.forms.proofs.Solving.{Step, solved}

-- where the input is v plus its weighted past, and the output is v weighted, the output solves the equation
between : (l : ℕ) (b a : List ℤ) (u y v : ℕ → Exact) → ((i : ℕ) → u i ≡ v i ⊞ weighted l a (λ j. v (suc (i + j)))) → ((i : ℕ) → y i ≡ weighted l b (λ j. v (suc (i + j))))
    → weighted l b v ≡ weighted l b u ⊟ weighted l a y
between l b a u y v hu hy =
    sym (sum_less (weighted l b v) (weighted l a y))
    ∙ ap (λ w. w ⊟ weighted l a y) (sym (
    weighted_same l b u (λ i. v i ⊞ weighted l a (λ j. v (suc (i + j)))) hu
    ∙ weighted_sum l b v (λ i. weighted l a (λ j. v (suc (i + j))))
    ∙ ap (λ w. weighted l b v ⊞ w) (weighted_swap l b a (λ i j. v (suc (i + j)))
    ∙ weighted_same l a _ y (λ j. weighted_same l b _ _ (λ i. ap (λ k. v (suc k)) (add_comm i j)) ∙ sym (hy j)))))

-- the registers hold the past v between the feedback and the output
module _ (s : FixedArithmetic) (c : ℤ) (bs a : List ℤ) where
  record Fits (rs : List Exact) (u y : ℕ → Exact) : Type 0 where
    v : ℕ → Exact
    held : rs ≡ listed v (max (length bs) (length a))
    input : (i : ℕ) → u i ≡ v i ⊞ weighted (fraction s) a (λ j. v (suc (i + j)))
    output : (i : ℕ) → y i ≡ weighted (fraction s) (c ∷ bs) (λ j. v (i + j))

  abbrev Next : List Exact → (ℕ → Exact) → (ℕ → Exact) → ℤ → Type 0
  Next rs u y z = Step s (direct2 (length bs) (length a)) ((c ∷ bs) ++ a) (c ∷ bs) a Fits rs u y z

-- ---- one step, row by row: the input and the registers, the products of a, v's new value, the products of b, the sum
module _ (s : FixedArithmetic) (c : ℤ) (bs a : List ℤ) (rs : List Exact) (u y : ℕ → Exact) (z : ℤ) (h : Fits s c bs a rs u y) where
  abbrev N : ℕ
  N = length bs

  abbrev M : ℕ
  M = length a

  abbrev K : ℕ
  K = max N M

  abbrev cs : List ℤ
  cs = (c ∷ bs) ++ a

  abbrev T : ℕ
  T = direct2_totals N M

  abbrev P : ℕ
  P = direct2_products N M

  -- the new value of v
  abbrev middle : Exact
  middle = whole z ⊟ weighted (fraction s) a h.v

  abbrev line : ℕ → Exact
  line = push middle h.v

  abbrev feedback : ℕ → Exact
  feedback = products (fraction s) a h.v

  abbrev forward : ℕ → Exact
  forward = products (fraction s) (c ∷ bs) line

  abbrev total : Exact
  total = forward 0 ⊞ weighted (fraction s) bs h.v

  total_is : total ≡ weighted (fraction s) (c ∷ bs) line
  total_is = sym (weighted_first (fraction s) c bs line)

  line_input : (i : ℕ) → push (whole z) u i ≡ line i ⊞ weighted (fraction s) a (λ j. line (suc (i + j)))
  line_input zero = sym (ap (λ w. middle ⊞ w) (weighted_same (fraction s) a _ _ (λ j. ap h.v (zero-add j))) ∙ less_sum (whole z) (weighted (fraction s) a h.v))
  line_input (suc i) = h.input i ∙ ap (λ w. h.v i ⊞ w) (weighted_same (fraction s) a _ _ (λ j. ap h.v (sym (suc-add i j))))

  line_output : (o : Exact) → o ≡ weighted (fraction s) (c ∷ bs) line → (i : ℕ) → push o y i ≡ weighted (fraction s) (c ∷ bs) (λ j. line (i + j))
  line_output o e zero = e ∙ weighted_same (fraction s) (c ∷ bs) _ _ (λ j. ap line (sym (zero-add j)))
  line_output o e (suc i) = h.output i ∙ weighted_same (fraction s) (c ∷ bs) _ _ (λ j. ap line (sym (suc-add i j)))

  module _ (t0 : Started s cs rs z K) (rv : Row t0.after 1 h.v K) (t1 : Laid s cs rs z t0.after (taps 1 2 (N + 1) M) M feedback) where
    finish : (t2 : Totalled s cs rs z t1.after (differences 0 T (K + 1) M) M (direct2_middle N M) middle)
        (t3 : Laid s cs rs z t2.after (taps (direct2_middle N M) 1 0 (N + 1)) (N + 1) forward)
        → Totalled s cs rs z t3.after (sums P (P + (N + 1)) (P + 1) N) N (direct2_output N M) total → Next s c bs a rs u y z
    finish t2 t3 t4 = record {
      next = taken (direct2 N M) zero_exact t4.after;
      runs = run_is s cs rs z (direct2 N M) t4.after
          (work_then s cs rs z _ _ [] t3.after t4.after
          (work_then s cs rs z _ _ [] t2.after t3.after
          (work_then s cs rs z _ _ [] t1.after t2.after (work_then s cs rs z _ _ [] t0.after t1.after t0.worked t1.worked) t2.worked)
          t3.worked)
          t4.worked);
      output_is = t4.end.value ∙ total_is ∙ between (fraction s) (c ∷ bs) a (push (whole z) u) y line line_input h.output;
      fits = record {
        v = line;
        held = taken_row t4.after (chain (direct2_middle N M) 1) line K
            (λ i k. along t4.after (direct2_middle N M) 1 K middle h.v (t4.keeps _ _ (t3.extends.keeps _ _ t2.end))
            (λ i k. t4.keeps _ _ (t3.extends.keeps _ _ (t2.keeps _ _ (t1.extends.keeps _ _ (rv i k))))) i (omega arith));
        input = line_input;
        output = line_output (get_or t4.after (direct2_output N M) zero_exact) (t4.end.value ∙ total_is);
      };
    }

    with_forward : (t2 : Totalled s cs rs z t1.after (differences 0 T (K + 1) M) M (direct2_middle N M) middle)
        → Laid s cs rs z t2.after (taps (direct2_middle N M) 1 0 (N + 1)) (N + 1) forward → Next s c bs a rs u y z
    with_forward t2 t3 =
        let l1 = t0.long in
        let l2 = t1.extends.longer in
        let l3 = t2.longer in
        let l4 = t3.extends.longer in
        finish t2 t3 (sums_laid s cs rs z t3.after P (P + (N + 1)) (P + 1) bs (forward 0) h.v (omega arith)
        (moved_to _ _ _ _ (omega arith) (t3.extends.row 0 (omega arith)))
        (λ i k. moved_to _ _ _ _ (omega arith) (t3.extends.row (suc i) (omega arith))))

    with_middle : Totalled s cs rs z t1.after (differences 0 T (K + 1) M) M (direct2_middle N M) middle → Next s c bs a rs u y z
    with_middle t2 = with_forward t2 (scales_laid s cs rs z t2.after (chain (direct2_middle N M) 1) 0 (N + 1) (c ∷ bs) line (λ i k. front_named (c ∷ bs) a i (omega arith))
        (λ i k. along t2.after (direct2_middle N M) 1 N middle h.v t2.end (λ i k. t2.keeps _ _ (t1.extends.keeps _ _ (rv i (omega arith)))) i (omega arith)))

    with_feedback : Next s c bs a rs u y z
    with_feedback =
        let l1 = t0.long in
        let l2 = t1.extends.longer in
        with_middle (differences_laid s cs rs z t1.after 0 T (K + 1) a (whole z) h.v (omega arith) (t1.extends.keeps _ _ t0.input)
        (λ i k. moved_to _ _ _ _ (omega arith) (t1.extends.row i k)))

  step : Next s c bs a rs u y z
  step = start (start_laid s cs rs z K)
    where
      start : Started s cs rs z K → Next s c bs a rs u y z
      start t0 = with_feedback t0 rv (scales_laid s cs rs z t0.after (chain 1 2) (N + 1) M a h.v (λ i k. back_named (c ∷ bs) a (N + 1) i (omega arith))
          (λ i k. moved_to _ _ _ _ (sym (chain_next 1 2 i (omega arith))) (rv i (omega arith))))
        where
          rv : Row t0.after 1 h.v K
          rv i k = valued t0.after _ _ _ (ap (λ rs. get_or rs i zero_exact) h.held ∙ listed_at h.v K i k) (t0.row i k)

pub direct2_keeps : (c : ℤ) (bs a : List ℤ) → DifferenceEquation (direct2 (length bs) (length a)) ((c ∷ bs) ++ a) (c ∷ bs) a
direct2_keeps c bs a s = solved s (direct2 (length bs) (length a)) ((c ∷ bs) ++ a) (c ∷ bs) a (Fits s c bs a) (λ rs u y h z. step s c bs a rs u y z h)
    (record {
      v = λ i. zero_exact;
      held = ap (λ n. replicate n zero_exact) (length-map-range_with_len (chain (direct2_middle (length bs) (length a)) 1) 0 (max (length bs) (length a))) ∙ zeros_listed (max (length bs) (length a));
      input = λ i. sym (ap (λ w. zero_exact ⊞ w) (weighted_none (fraction s) a) ∙ sum_none zero_exact);
      output = λ i. sym (weighted_none (fraction s) (c ∷ bs));
    })
