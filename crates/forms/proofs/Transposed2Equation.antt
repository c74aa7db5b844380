-- Transposed form 2 keeps the difference equation.
use Rattle.std.proofs.Common.{◌≡◌, ℕ, zero, suc, ◌+◌, ◌<◌, ◌≤◌, min, max, Bool, true, false, cond, eqb, ltb, List, [], ◌∷◌, ◌++◌, length, get_or, drop, replicate, ℤ, Ok, sym, refl, ap, ◌∙◌, subst, ap₂, inl, inr, add-one, arith, drop_of_length-le}
use Rattle.std.specs.List.{range_with_len, flat_map}
use Rattle.std.proofs.lemmas.List.FromFn.{length-map-range_with_len}
use Rattle.std.proofs.lemmas.List.{flat_map_more}
use Rattle.std.proofs.lemmas.Bool.{cases_lt, ltb-true, ne_eqb}
use Rattle.arithmetic.specs.Settings.{FixedArithmetic, fraction}
use Rattle.exact.specs.Numbers.{Exact, whole, ◌⊞◌, ◌⊟◌, scale}
use Rattle.exact.proofs.NumberLaws.{sum_none, sum_assoc}
use Rattle.wiring.specs.declared.graph.Node.{Node}
use Rattle.wiring.specs.declared.graph.Node.TheVariants.{Zero, Sum, Difference}
use Rattle.wiring.specs.Runs.{work, taken}
use Rattle.forms.specs.Parts.{listed, gains, total_nodes, total_end, total_place, totals_of, end_of}
use Rattle.forms.specs.Forms.{transposed2, transposed2_gain, transposed2_recursive, transposed2_products, transposed2_output, transposed2_totals}
use Rattle.forms.specs.Equation.{zero_exact, weighted, DifferenceEquation}
use Rattle.forms.proofs.Ladders.{counting_more, min_more, both_more}
use Rattle.forms.proofs.Weighted.{push, products, weighted_first, weighted_drop, weighted_none, less_none, sum_if, less_if, sums_law}
use Rattle.forms.proofs.Rows.{Reads, Row, moved_to, valued, works, Started, Laid, Totalled, start_laid, none_laid, one_laid, scales_laid, maybe_totalled, then_totalled, end_is, work_then, run_is, front_named, back_named, listed_at, listed_same, taken_row, zeros_listed}
use Rattle.forms.proofs.Solving.{Step, solved}

-- ---- with-feedback by register
module _ (s : FixedArithmetic) (cs : List ℤ) (rs : List Exact) (u : ℤ) where
  -- from x, adds y if `more` and subtracts z if `less`
  one_total : (more less : Bool) (vs : List Exact) (start place p q : ℕ) (x y z : Exact) → place ≡ length vs → Reads vs start x → (more ≡ true → Reads vs p y) → (less ≡ true → Reads vs q z)
      → Totalled s cs rs u vs (total_nodes more less start place p q) (cond more 1 0 + cond less 1 0) (total_end more less start place) (x ⊞ cond more y zero_exact ⊟ cond less z zero_exact)
  one_total more less vs start place p q x y z e r rp rq =
      go (maybe_totalled s cs rs u more vs (Sum start p) start x (x ⊞ y) r (λ h. ap₂ (λ a b. Ok (a ⊞ b)) r.value (rp h).value))
    where
      long : (t : Bool) (n : ℕ) → n ≡ length vs + cond t 1 0 → n ≡ cond t (place + 1) place
      long t n d = grind arith

      go : Totalled s cs rs u vs (cond more (Sum start p ∷ []) []) (cond more 1 0) (cond more (length vs) start) (cond more (x ⊞ y) x)
          → Totalled s cs rs u vs (total_nodes more less start place p q) (cond more 1 0 + cond less 1 0) (total_end more less start place) (x ⊞ cond more y zero_exact ⊟ cond less z zero_exact)
      go t =
          let at : Reads t.after (cond more place start) (cond more (x ⊞ y) x) = moved_to _ _ _ _ (ap (λ k. cond more k start) (sym e)) t.end in
          end_is s cs rs u _ _ _ _ _ _ _ (ap (λ k. cond less k (cond more place start)) (long more _ t.longer)) (less_if less _ z ∙ ap (λ v. v ⊟ cond less z zero_exact) (sum_if more x y))
          (then_totalled s cs rs u _ _ _ _ _ _ _ _ _ t (maybe_totalled s cs rs u less t.after (Difference (cond more place start) q) (cond more place start) (cond more (x ⊞ y) x) (cond more (x ⊞ y) x ⊟ z) at
          (λ h. ap₂ (λ a b. Ok (a ⊟ b)) at.value (t.keeps _ _ (rq h)).value)))

  module _ (vs : List Exact) (place first back N M : ℕ) where
    -- the with-feedback of n registers, worked
    record Ladder (n : ℕ) (x : ℕ → Exact) : Type 0 where
      after : List Exact
      worked : works s cs rs u vs (flat_map (totals_of place first back N M) (range_with_len 0 n)) ≡ Ok after
      longer : length after ≡ total_place place first back N M n
      keeps : (k : ℕ) (y : Exact) → Reads vs k y → Reads after k y
      ends : (i : ℕ) → i < n → Reads after (end_of place first back N M i) (x i)

    module _ (x p q : ℕ → Exact) (next : place ≡ length vs) (added : Row vs first p N) (taken-off : Row vs back q M) where
      -- what register i takes
      abbrev total : ℕ → Exact
      total i = x i ⊞ cond (ltb i N) (p i) zero_exact ⊟ cond (ltb i M) (q i) zero_exact

      joined_next : (f : ℕ → List Node) (n : ℕ) → flat_map f (range_with_len 0 (suc n)) ≡ flat_map f (range_with_len 0 n) ++ f n
      joined_next f n = ap (λ k. flat_map f (range_with_len 0 k)) (sym (add-one n)) ∙ ap (flat_map f) (counting_more n) ∙ sym (flat_map_more f [] (range_with_len 0 n) n)

      ladder_more : (n : ℕ) (t : Ladder n total) → Totalled s cs rs u t.after (totals_of place first back N M n) (cond (ltb n N) 1 0 + cond (ltb n M) 1 0) (end_of place first back N M n) (total n)
          → Ladder (suc n) total
      ladder_more n t r = record {
        after = r.after;
        worked = ap (works s cs rs u vs) (joined_next (totals_of place first back N M) n) ∙ work_then s cs rs u _ _ vs t.after r.after t.worked r.worked;
        longer = r.longer ∙ ap (λ k. k + (cond (ltb n N) 1 0 + cond (ltb n M) 1 0)) t.longer
            ∙ sym (both_more (ltb n N) (ltb n M) place (min n N) (min n M) (min (n + 1) N) (min (n + 1) M) _ (min_more n N) (min_more n M) refl)
            ∙ ap (total_place place first back N M) (add-one n);
        keeps = λ k y h. r.keeps k y (t.keeps k y h);
        ends = at;
      }
        where
          at : (i : ℕ) → i < suc n → Reads r.after (end_of place first back N M i) (total i)
          at i h = elim (cases_lt i n) [ inl l ↦ r.keeps _ _ (t.ends i l) | inr l ↦ let e : i ≡ n = omega arith in subst (λ i. Reads r.after (end_of place first back N M i) (total i)) (sym e) r.end ]

      ladder : (n : ℕ) → ((i : ℕ) → i < n → Reads vs (i + 2) (x i)) → Ladder n total
      ladder zero starts = go (none_laid s cs rs u vs x)
        where
          go : Laid s cs rs u vs [] 0 x → Ladder 0 total
          go t = record { after = t.after; worked = t.worked; longer = let e = t.extends.longer in omega arith; keeps = t.extends.keeps; ends = λ i h. absurd (omega arith) }
      ladder (suc n) starts = go (ladder n (λ i h. starts i (omega arith)))
        where
          go : Ladder n total → Ladder (suc n) total
          go t = ladder_more n t (one_total (ltb n N) (ltb n M) t.after (n + 2) (total_place place first back N M n) (first + n) (back + n) (x n) (p n) (q n) (sym t.longer)
              (t.keeps _ _ (starts n (omega arith))) (λ h. t.keeps _ _ (added n (ltb-true n N h))) (λ h. t.keeps _ _ (taken-off n (ltb-true n M h))))

-- ---- register i holds the products of the coefficients behind number i with the pasts of the input and the output
module _ (s : FixedArithmetic) (c : ℤ) (bs a : List ℤ) where
  abbrev holding : (ℕ → Exact) → (ℕ → Exact) → ℕ → Exact
  holding u y i = weighted (fraction s) (drop i bs) u ⊟ weighted (fraction s) (drop i a) y

  abbrev Fits : List Exact → (ℕ → Exact) → (ℕ → Exact) → Type 0
  Fits rs u y = rs ≡ listed (holding u y) (max (length bs) (length a))

  abbrev Next : List Exact → (ℕ → Exact) → (ℕ → Exact) → ℤ → Type 0
  Next rs u y z = Step s (transposed2_recursive (length bs) (length a)) ((c ∷ bs) ++ a) (c ∷ bs) a Fits rs u y z

  -- nothing is left behind the last coefficient
  holding_none : (u y : ℕ → Exact) (i : ℕ) → length bs ≤ i → length a ≤ i → holding u y i ≡ zero_exact
  unfolding weighted
  holding_none u y i h k = ap₂ (λ p q. weighted (fraction s) p u ⊟ weighted (fraction s) q y) (drop_of_length-le bs h) (drop_of_length-le a k) ∙ less_none zero_exact

-- ---- one step, row by row: the input, the registers and a zero, the products of b, the output, the products of a, the totals
module _ (s : FixedArithmetic) (c : ℤ) (bs a : List ℤ) (rs : List Exact) (u y : ℕ → Exact) (z : ℤ) (h : Fits s c bs a rs u y) where
  abbrev N : ℕ
  N = length bs

  abbrev M : ℕ
  M = length a

  abbrev K : ℕ
  K = max N M

  abbrev cs : List ℤ
  cs = (c ∷ bs) ++ a

  abbrev P : ℕ
  P = transposed2_products N M

  abbrev O : ℕ
  O = transposed2_output N M

  abbrev T : ℕ
  T = transposed2_totals N M

  abbrev held : ℕ → Exact
  held = holding s c bs a u y

  abbrev forward : ℕ → Exact
  forward = products (fraction s) (c ∷ bs) (λ i. whole z)

  -- the output
  abbrev out : Exact
  out = forward 0 ⊞ held 0

  abbrev feedback : ℕ → Exact
  feedback = products (fraction s) a (λ i. out)

  out_is : out ≡ weighted (fraction s) (c ∷ bs) (push (whole z) u) ⊟ weighted (fraction s) a y
  out_is = sym (sum_assoc _ _ _) ∙ ap (λ v. v ⊟ weighted (fraction s) a y) (sym (weighted_first (fraction s) c bs (push (whole z) u)))

  abbrev new : ℕ → Exact
  new i = held (suc i) ⊞ cond (ltb i N) (forward (suc i)) zero_exact ⊟ cond (ltb i M) (feedback i) zero_exact

  new_is : (i : ℕ) → new i ≡ holding s c bs a (push (whole z) u) (push out y) i
  new_is i = sym (ap₂ ◌⊟◌ (weighted_drop (fraction s) bs i (whole z) u) (weighted_drop (fraction s) a i out y) ∙ simp sums_law)

  module _ (t0 : Started s cs rs z K) (t1 : Laid s cs rs z t0.after (Zero ∷ []) 1 (λ i. zero_exact)) (row : Row t1.after 1 held (K + 1))
      (t2 : Laid s cs rs z t1.after (gains 0 0 (N + 1)) (N + 1) forward) (t3 : Laid s cs rs z t2.after (Sum P 1 ∷ []) 1 (λ i. out)) where
    finish : (t4 : Laid s cs rs z t3.after (gains O (N + 1) M) M feedback) → Ladder s cs rs z t4.after T (P + 1) (O + 1) N M K new → Next s c bs a rs u y z
    finish t4 t5 = record {
      next = taken (transposed2_recursive N M) zero_exact t5.after;
      runs = run_is s cs rs z (transposed2_recursive N M) t5.after
          (work_then s cs rs z _ _ [] t4.after t5.after
          (work_then s cs rs z _ _ [] t3.after t4.after
          (work_then s cs rs z _ _ [] t2.after t3.after
          (work_then s cs rs z _ _ [] t1.after t2.after (work_then s cs rs z _ _ [] t0.after t1.after t0.worked t1.worked) t2.worked)
          t3.worked)
          t4.worked)
          t5.worked);
      output_is = at ∙ out_is;
      fits = taken_row t5.after (end_of T (P + 1) (O + 1) N M) new K t5.ends
          ∙ listed_same _ _ K (λ i k. new_is i ∙ ap (λ o. holding s c bs a (push (whole z) u) (push o y) i) (sym at));
    }
      where
        at : get_or t5.after O zero_exact ≡ out
        at =
            let l0 = t0.long in
            let l1 = t1.extends.longer in
            let l2 = t2.extends.longer in
            (t5.keeps _ _ (t4.extends.keeps _ _ (moved_to _ _ _ _ (omega arith) (t3.extends.row 0 (omega arith))))).value

    with_feedback : Laid s cs rs z t3.after (gains O (N + 1) M) M feedback → Next s c bs a rs u y z
    with_feedback t4 =
        let l0 = t0.long in
        let l1 = t1.extends.longer in
        let l2 = t2.extends.longer in
        let l3 = t3.extends.longer in
        let l4 = t4.extends.longer in
        finish t4 (ladder s cs rs z t4.after T (P + 1) (O + 1) N M (λ i. held (suc i)) (λ i. forward (suc i)) feedback (omega arith)
        (λ i k. t4.extends.keeps _ _ (t3.extends.keeps _ _ (moved_to _ _ _ _ (omega arith) (t2.extends.row (suc i) (omega arith)))))
        (λ i k. moved_to _ _ _ _ (omega arith) (t4.extends.row i k))
        K (λ i k. t4.extends.keeps _ _ (t3.extends.keeps _ _ (t2.extends.keeps _ _ (moved_to _ _ _ _ (omega arith) (row (suc i) (omega arith)))))))

    with_output : Next s c bs a rs u y z
    with_output =
        let l0 = t0.long in
        let l1 = t1.extends.longer in
        let l2 = t2.extends.longer in
        with_feedback (scales_laid s cs rs z t3.after (λ i. O) (N + 1) M a (λ i. out) (λ i k. back_named (c ∷ bs) a (N + 1) i (omega arith))
        (λ i k. moved_to _ _ _ _ (omega arith) (t3.extends.row 0 (omega arith))))

  module _ (t0 : Started s cs rs z K) (t1 : Laid s cs rs z t0.after (Zero ∷ []) 1 (λ i. zero_exact)) where
    row : Row t1.after 1 held (K + 1)
    row i k = elim (cases_lt i K) [
      | inl l ↦ t1.extends.keeps _ _ (valued _ _ _ _ (ap (λ rs. get_or rs i zero_exact) h ∙ listed_at held K i l) (t0.row i l))
      | inr l ↦ let l0 = t0.long in valued _ _ _ _ (sym (holding_none s c bs a u y i (omega arith) (omega arith))) (moved_to _ _ _ _ (omega arith) (t1.extends.row 0 (omega arith)))
    ]

    with_forward : Laid s cs rs z t1.after (gains 0 0 (N + 1)) (N + 1) forward → Next s c bs a rs u y z
    with_forward t2 =
        let l0 = t0.long in
        let l1 = t1.extends.longer in
        let first : Reads t2.after P (forward 0) = moved_to _ _ _ _ (omega arith) (t2.extends.row 0 (omega arith)) in
        let second : Reads t2.after 1 (held 0) = t2.extends.keeps _ _ (row 0 (omega arith)) in
        with_output t0 t1 row t2 (one_laid s cs rs z t2.after (Sum P 1) out (ap₂ (λ a b. Ok (a ⊞ b)) first.value second.value))

    with_start : Next s c bs a rs u y z
    with_start = with_forward (scales_laid s cs rs z t1.after (λ i. 0) 0 (N + 1) (c ∷ bs) (λ i. whole z) (λ i k. front_named (c ∷ bs) a i (omega arith)) (λ i k. t1.extends.keeps _ _ t0.input))

  step : Next s c bs a rs u y z
  step = start (start_laid s cs rs z K)
    where
      start : Started s cs rs z K → Next s c bs a rs u y z
      start t0 = with_start t0 (one_laid s cs rs z t0.after Zero zero_exact refl)

recursive_keeps : (c : ℤ) (bs a : List ℤ) → DifferenceEquation (transposed2_recursive (length bs) (length a)) ((c ∷ bs) ++ a) (c ∷ bs) a
recursive_keeps c bs a s = solved s (transposed2_recursive (length bs) (length a)) ((c ∷ bs) ++ a) (c ∷ bs) a (Fits s c bs a) (λ rs u y h z. step s c bs a rs u y z h)
    (ap (λ n. replicate n zero_exact) (length-map-range_with_len _ 0 (max (length bs) (length a))) ∙ zeros_listed (max (length bs) (length a))
    ∙ listed_same _ _ (max (length bs) (length a)) (λ i k. sym (ap₂ ◌⊟◌ (weighted_none (fraction s) (drop i bs)) (weighted_none (fraction s) (drop i a)) ∙ less_none zero_exact)))

-- ---- without registers
gain_keeps : (c : ℤ) → DifferenceEquation transposed2_gain (c ∷ []) (c ∷ []) []
unfolding work weighted
gain_keeps c s = solved s transposed2_gain (c ∷ []) (c ∷ []) [] (λ rs u y. Unit {0}) step tt
  where
    step : (rs : List Exact) (u y : ℕ → Exact) → Unit {0} → (z : ℤ) → Step s transposed2_gain (c ∷ []) (c ∷ []) [] (λ rs u y. Unit {0}) rs u y z
    step rs u y h z = record {
      next = taken transposed2_gain zero_exact (whole z ∷ scale c (fraction s) (whole z) ∷ []);
      runs = run_is s (c ∷ []) rs z transposed2_gain (whole z ∷ scale c (fraction s) (whole z) ∷ []) refl;
      output_is = sym (less_none _ ∙ sum_none _);
      fits = tt;
    }

some_registers : (c : ℤ) (bs a : List ℤ) → 0 < max (length bs) (length a) → DifferenceEquation (transposed2 (length bs) (length a)) ((c ∷ bs) ++ a) (c ∷ bs) a
some_registers c bs a h =
    let e : eqb (max (length bs) (length a)) 0 ≡ false = ne_eqb _ _ (λ e. omega arith) in
    subst (λ t. DifferenceEquation (cond t transposed2_gain (transposed2_recursive (length bs) (length a))) ((c ∷ bs) ++ a) (c ∷ bs) a) (sym e) (recursive_keeps c bs a)

pub transposed2_keeps : (c : ℤ) (bs a : List ℤ) → DifferenceEquation (transposed2 (length bs) (length a)) ((c ∷ bs) ++ a) (c ∷ bs) a
transposed2_keeps c [] [] = gain_keeps c
transposed2_keeps c [] (d ∷ a) = some_registers c [] (d ∷ a) (omega arith)
transposed2_keeps c (d ∷ bs) a = some_registers c (d ∷ bs) a (omega arith)
