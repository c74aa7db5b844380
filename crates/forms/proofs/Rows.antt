-- Rows of nodes worked over exact numbers: nothing refuses, and each row's values stand behind those so far.
use Rattle.std.proofs.Common.{◌≡◌, ℕ, zero, suc, ◌+◌, ◌<◌, ◌≤◌, Bool, true, false, cond, List, [], ◌∷◌, ◌++◌, map, length, get_or, replicate, ℤ, pos, Ok, Err, Result, sym, refl, ap, ◌∙◌, ap₂, inl, inr, add-one, arith}
use mathlib.Core.List.{map-map}
use lib.ListN.{length-replicate, get_or-replicate}
use Rattle.std.specs.List.{range_with_len}
use Rattle.std.proofs.lemmas.List.FromFn.{map-range_with_len_more, length-map-range_with_len, get_or-map-range_with_len, fill_by_all}
use Rattle.std.proofs.lemmas.Bool.{cases_lt}
use Rattle.std.proofs.lemmas.List.{length_push, get_or_push, get_or_append_left, get_or-append-add}
use Rattle.arithmetic.specs.Settings.{FixedArithmetic, fraction}
use Rattle.exact.specs.Numbers.{Exact, whole, ◌⊞◌, ◌⊟◌, scale}
use Rattle.kinds.specs.declared.refusal.Refusal.{Refusal}
use Rattle.kinds.specs.Arithmetics.{exact}
use Rattle.wiring.specs.declared.graph.Node.{Node}
use Rattle.wiring.specs.declared.graph.Node.TheVariants.{Input, Register, Scale, Sum, Difference}
use Rattle.wiring.specs.declared.faults.RunFault.{RunFault}
use Rattle.wiring.specs.Graphs.{Graph}
use Rattle.wiring.specs.Runs.{onward, at_node, node_value, work, taken, run}
use Rattle.forms.specs.Parts.{listed, chain, chained, registers, sums, differences}
use Rattle.forms.specs.Equation.{zero_exact, weighted}
use Rattle.forms.proofs.Weighted.{push, running, push_running, products, running_sum, running_less}

-- ---- values at places
-- x stands at place k
pub record Reads (vs : List Exact) (k : ℕ) (x : Exact) : Type 0 where
  pub within : k < length vs
  pub value : get_or vs k zero_exact ≡ x

-- x 0 to x (n - 1) stand from place k on
abbrev pub Row : List Exact → ℕ → (ℕ → Exact) → ℕ → Type 0
Row vs k x n = (i : ℕ) → i < n → Reads vs (k + i) (x i)

-- the same place, or the same value, written another way
pub moved_to : (vs : List Exact) (k j : ℕ) (x : Exact) → k ≡ j → Reads vs k x → Reads vs j x
moved_to vs k j x e r = rw e at r

pub valued : (vs : List Exact) (k : ℕ) (x y : Exact) → x ≡ y → Reads vs k x → Reads vs k y
valued vs k x y e r = rw e at r

-- the nodes of a chain
pub along : (vs : List Exact) (from place n : ℕ) (z : Exact) (x : ℕ → Exact) → Reads vs from z → Row vs place x n → (i : ℕ) → i ≤ n → Reads vs (chain from place i) (push z x i)
along vs from place n z x r row zero h = r
along vs from place n z x r row (suc i) h = row i (omega arith)

-- a chain without a gap
pub chain_next : (from place i : ℕ) → place ≡ from + 1 → chain from place i ≡ from + i
chain_next from place zero e = omega arith
chain_next from place (suc i) e = omega arith

-- ws is vs with the row x behind it
pub record Extends (vs : List Exact) (n : ℕ) (x : ℕ → Exact) (ws : List Exact) : Type 0 where
  pub longer : length ws ≡ length vs + n
  pub keeps : (k : ℕ) (y : Exact) → Reads vs k y → Reads ws k y
  pub row : Row ws (length vs) x n

extends_none : (vs : List Exact) (x : ℕ → Exact) → Extends vs 0 x vs
extends_none vs x = record { longer = omega arith; keeps = λ k y r. r; row = λ i h. absurd (omega arith) }

pushed : (vs : List Exact) (z : Exact) → Reads (vs ++ z ∷ []) (length vs) z
pushed vs z = record { within = let e = length_push vs z in omega arith; value = get_or_push vs z zero_exact (length vs) refl }

pushed_keeps : (vs : List Exact) (z : Exact) (k : ℕ) (y : Exact) → Reads vs k y → Reads (vs ++ z ∷ []) k y
pushed_keeps vs z k y r =
    let h = r.within in
    let e = length_push vs z in
    record { within = omega arith; value = get_or_append_left vs (z ∷ []) zero_exact k h ∙ r.value }

extends_more : (vs ws : List Exact) (n : ℕ) (x : ℕ → Exact) → Extends vs n x ws → Extends vs (suc n) x (ws ++ x n ∷ [])
extends_more vs ws n x t = record {
  longer = let e = length_push ws (x n) in let d = t.longer in omega arith;
  keeps = λ k y r. pushed_keeps ws (x n) k y (t.keeps k y r);
  row = at;
}
  where
    at : Row (ws ++ x n ∷ []) (length vs) x (suc n)
    at i h = elim (cases_lt i n) [
      | inl l ↦ pushed_keeps ws (x n) _ _ (t.row i l)
      | inr l ↦ let e : i ≡ n = omega arith in rw e (moved_to _ _ _ _ t.longer (pushed ws (x n)))
    ]

-- ---- the interpreter
module _ (s : FixedArithmetic) (cs : List ℤ) (rs : List Exact) (u : ℤ) where
  abbrev pub value_of : List Exact → Node → Result Exact Refusal
  value_of vs n = node_value (exact s) cs rs u vs n

  abbrev pub works : List Exact → List Node → Result (List Exact) RunFault
  works vs ns = work (exact s) cs rs u vs ns

  work_append : (ns : List Node) (vs : List Exact) (ms : List Node) → works vs (ns ++ ms) ≡ onward (works vs ns) (λ ws. works ws ms)
  unfolding work
  work_append [] vs ms = refl
  work_append (n ∷ ns) vs ms = go (at_node (length vs) (value_of vs n)) (λ v. work_append ns (vs ++ (v ∷ [])) ms)
    where
      go : (r : Result Exact RunFault) → ((v : Exact) → works (vs ++ (v ∷ [])) (ns ++ ms) ≡ onward (works (vs ++ (v ∷ [])) ns) (λ ws. works ws ms))
          → onward r (λ v. works (vs ++ (v ∷ [])) (ns ++ ms)) ≡ onward (onward r (λ v. works (vs ++ (v ∷ [])) ns)) (λ ws. works ws ms)
      go (Ok v) h = h v
      go (Err e) h = refl

  -- rows worked one behind the other
  pub work_then : (ns ms : List Node) (vs ws xs : List Exact) → works vs ns ≡ Ok ws → works ws ms ≡ Ok xs → works vs (ns ++ ms) ≡ Ok xs
  work_then ns ms vs ws xs e d = work_append ns vs ms ∙ ap (λ r. onward r (λ ws. works ws ms)) e ∙ d

  work_one : (vs : List Exact) (n : Node) (x : Exact) → value_of vs n ≡ Ok x → works vs (n ∷ []) ≡ Ok (vs ++ x ∷ [])
  unfolding work
  work_one vs n x e = ap (λ r. onward (at_node (length vs) r) (λ v. works (vs ++ (v ∷ [])) [])) e

  -- a row of n nodes has the values x
  pub record Laid (vs : List Exact) (ns : List Node) (n : ℕ) (x : ℕ → Exact) : Type 0 where
    pub after : List Exact
    pub worked : works vs ns ≡ Ok after
    pub extends : Extends vs n x after

  laid_more : (vs : List Exact) (ns : List Node) (n : ℕ) (x : ℕ → Exact) (node : Node) → (t : Laid vs ns n x) → value_of t.after node ≡ Ok (x n) → Laid vs (ns ++ node ∷ []) (suc n) x
  laid_more vs ns n x node t e = record {
    after = t.after ++ x n ∷ [];
    worked = work_then ns (node ∷ []) vs t.after (t.after ++ x n ∷ []) t.worked (work_one t.after node (x n) e);
    extends = extends_more vs t.after n x t.extends;
  }

  -- no node, and one node
  pub none_laid : (vs : List Exact) (x : ℕ → Exact) → Laid vs [] 0 x
  unfolding work
  none_laid vs x = record { after = vs; worked = refl; extends = extends_none vs x }

  pub one_laid : (vs : List Exact) (node : Node) (x : Exact) → value_of vs node ≡ Ok x → Laid vs (node ∷ []) 1 (λ i. x)
  unfolding none_laid
  one_laid vs node x e = laid_more vs [] 0 (λ i. x) node (none_laid vs (λ i. x)) e

  -- each node's value, where those before it in the row are in place
  row_laid : (vs : List Exact) (f : ℕ → Node) (x : ℕ → Exact) (n : ℕ)
      → ((i : ℕ) → i < n → (ws : List Exact) → Extends vs i x ws → value_of ws (f i) ≡ Ok (x i)) → Laid vs (listed f n) n x
  row_laid vs f x zero h = none_laid vs x
  row_laid vs f x (suc n) h =
      let t = row_laid vs f x n (λ i l. h i (omega arith)) in
      let e : listed f (suc n) ≡ listed f n ++ f n ∷ [] = ap (λ k. listed f k) (sym (add-one n)) ∙ map-range_with_len_more f 0 n n (omega arith) in
      rw e (laid_more vs (listed f n) n x (f n) t (h n (omega arith) t.after t.extends))

  -- the input and n registers
  pub record Started (n : ℕ) : Type 0 where
    pub after : List Exact
    pub worked : works [] (Input ∷ registers n) ≡ Ok after
    pub long : length after ≡ n + 1
    pub input : Reads after 0 (whole u)
    pub row : Row after 1 (λ i. get_or rs i zero_exact) n

  pub start_laid : (n : ℕ) → Started n
  start_laid n =
      let a = one_laid [] Input (whole u) refl in
      let b = row_laid a.after Register (λ i. get_or rs i zero_exact) n (λ i l ws t. refl) in
      let la : length a.after ≡ 1 = a.extends.longer in
      record {
        after = b.after;
        worked = work_then (Input ∷ []) (registers n) [] a.after b.after a.worked b.worked;
        long = let e = b.extends.longer in omega arith;
        input = b.extends.keeps _ _ (a.extends.row 0 (omega arith));
        row = λ i l. moved_to _ _ _ _ (ap (λ k. k + i) la) (b.extends.row i l);
      }

  -- coefficients, of which the first has the number c, each times a node
  pub scales_laid : (vs : List Exact) (place : ℕ → ℕ) (c n : ℕ) (part : List ℤ) (x : ℕ → Exact)
      → ((i : ℕ) → i < n → get_or cs (c + i) (pos 0) ≡ get_or part i (pos 0))
      → ((i : ℕ) → i < n → Reads vs (place i) (x i))
      → Laid vs (listed (λ i. Scale (place i) (c + i)) n) n (products (fraction s) part x)
  scales_laid vs place c n part x named reads = row_laid vs (λ i. Scale (place i) (c + i)) (products (fraction s) part x) n
      (λ i l ws t. ap₂ (λ k z. Ok (scale k (fraction s) z)) (named i l) (t.keeps _ _ (reads i l)).value)

  -- totals in turn: n nodes, of which node k is the last total x
  pub record Totalled (vs : List Exact) (ns : List Node) (n k : ℕ) (x : Exact) : Type 0 where
    pub after : List Exact
    pub worked : works vs ns ≡ Ok after
    pub longer : length after ≡ length vs + n
    pub keeps : (k : ℕ) (y : Exact) → Reads vs k y → Reads after k y
    pub end : Reads after k x

  -- by an operation f of two nodes
  totals_laid : (op : ℕ → ℕ → Node) (f : Exact → Exact → Exact) → ((ws : List Exact) (p q : ℕ) → value_of ws (op p q) ≡ Ok (f (get_or ws p zero_exact) (get_or ws q zero_exact)))
      → (vs : List Exact) (start place first n : ℕ) (z : Exact) (x : ℕ → Exact) → place ≡ length vs → Reads vs start z → Row vs first x n
      → Totalled vs (chained op start place first n) n (chain start place n) (running f z x n)
  totals_laid op f is vs start place first n z x ep r row = record {
    after = t.after;
    worked = t.worked;
    longer = t.extends.longer;
    keeps = t.extends.keeps;
    end = at t.after n t.extends;
  }
    where
      at : (ws : List Exact) (i : ℕ) → Extends vs i (λ i. running f z x (suc i)) ws → Reads ws (chain start place i) (running f z x i)
      at ws i t = valued ws _ _ _ (push_running f z x i) (along ws start place i z (λ i. running f z x (suc i)) (t.keeps _ _ r) (rw ep t.row) i (omega arith))

      t : Laid vs (chained op start place first n) n (λ i. running f z x (suc i))
      t = row_laid vs (λ i. op (chain start place i) (first + i)) (λ i. running f z x (suc i)) n
          (λ i l ws t. is ws (chain start place i) (first + i) ∙ ap₂ (λ p q. Ok (f p q)) (at ws i t).value (t.keeps _ _ (row i l)).value)

  -- one total and then another
  pub then_totalled : (vs : List Exact) (ns ms : List Node) (n m k j : ℕ) (x y : Exact) (t : Totalled vs ns n k x) → Totalled t.after ms m j y → Totalled vs (ns ++ ms) (n + m) j y
  then_totalled vs ns ms n m k j x y t r = record {
    after = r.after;
    worked = work_then ns ms vs t.after r.after t.worked r.worked;
    longer = let a = t.longer in let b = r.longer in omega arith;
    keeps = λ k y h. r.keeps k y (t.keeps k y h);
    end = r.end;
  }

  -- a node that may be left out
  pub maybe_totalled : (t : Bool) (vs : List Exact) (node : Node) (k : ℕ) (x y : Exact) → Reads vs k x → (t ≡ true → value_of vs node ≡ Ok y)
      → Totalled vs (cond t (node ∷ []) []) (cond t 1 0) (cond t (length vs) k) (cond t y x)
  maybe_totalled true vs node k x y r h = go (one_laid vs node y (h refl))
    where
      go : Laid vs (node ∷ []) 1 (λ i. y) → Totalled vs (node ∷ []) 1 (length vs) y
      go t = record { after = t.after; worked = t.worked; longer = t.extends.longer; keeps = t.extends.keeps; end = moved_to _ _ _ _ (omega arith) (t.extends.row 0 (omega arith)) }
  maybe_totalled false vs node k x y r h = go (none_laid vs (λ i. x))
    where
      go : Laid vs [] 0 (λ i. x) → Totalled vs [] 0 k x
      go t = record { after = t.after; worked = t.worked; longer = t.extends.longer; keeps = t.extends.keeps; end = t.extends.keeps _ _ r }

  pub end_is : (vs : List Exact) (ns : List Node) (n k j : ℕ) (x y : Exact) → k ≡ j → x ≡ y → Totalled vs ns n k x → Totalled vs ns n j y
  end_is vs ns n k j x y d e t = rw (d, e) at t

  -- the products of the coefficients added to z, or subtracted from it
  module _ (vs : List Exact) (start place first : ℕ) (part : List ℤ) (z : Exact) (x : ℕ → Exact)
      (next : place ≡ length vs) (from : Reads vs start z) (row : Row vs first (products (fraction s) part x) (length part)) where
    pub sums_laid : Totalled vs (sums start place first (length part)) (length part) (chain start place (length part)) (z ⊞ weighted (fraction s) part x)
    sums_laid = end_is _ _ _ _ _ _ _ refl (running_sum (fraction s) part z x) (totals_laid Sum ◌⊞◌ (λ ws p q. refl) vs start place first (length part) z (products (fraction s) part x) next from row)

    pub differences_laid : Totalled vs (differences start place first (length part)) (length part) (chain start place (length part)) (z ⊟ weighted (fraction s) part x)
    differences_laid = end_is _ _ _ _ _ _ _ refl (running_less (fraction s) part z x) (totals_laid Difference ◌⊟◌ (λ ws p q. refl) vs start place first (length part) z (products (fraction s) part x) next from row)

  -- the whole run
  pub run_is : (g : Graph) (vs : List Exact) → works [] g.nodes ≡ Ok vs → run (exact s) g cs rs u ≡ Ok (taken g zero_exact vs)
  unfolding run
  run_is g vs e = ap (λ r. onward r (λ vs. Ok (taken g zero_exact vs))) e

-- ---- coefficients: b, and then a
pub front_named : (b a : List ℤ) (i : ℕ) → i < length b → get_or (b ++ a) (0 + i) (pos 0) ≡ get_or b i (pos 0)
front_named b a i l = let e : 0 + i ≡ i = omega arith in ap (λ k. get_or (b ++ a) k (pos 0)) e ∙ get_or_append_left b a (pos 0) i l

pub back_named : (b a : List ℤ) (n i : ℕ) → n ≡ length b → get_or (b ++ a) (n + i) (pos 0) ≡ get_or a i (pos 0)
back_named b a n i e = ap (λ k. get_or (b ++ a) (k + i) (pos 0)) e ∙ get_or-append-add b a i (pos 0)

-- ---- what registers take
pub listed_at : (x : ℕ → Exact) (n i : ℕ) → i < n → get_or (listed x n) i zero_exact ≡ x i
listed_at x n i l = get_or-map-range_with_len x 0 n i i zero_exact l (omega arith)

pub listed_same : (x y : ℕ → Exact) (n : ℕ) → ((i : ℕ) → i < n → x i ≡ y i) → listed x n ≡ listed y n
listed_same x y n h = fill_by_all y (listed x n) n zero_exact (length-map-range_with_len x 0 n) (λ k l. get_or-map-range_with_len x 0 n k k zero_exact l (omega arith) ∙ h k l)

pub taken_row : (vs : List Exact) (place : ℕ → ℕ) (x : ℕ → Exact) (n : ℕ) → ((i : ℕ) → i < n → Reads vs (place i) (x i)) → map (λ k. get_or vs k zero_exact) (listed place n) ≡ listed x n
taken_row vs place x n h = map-map (λ k. get_or vs k zero_exact) place (range_with_len 0 n) ∙ listed_same (λ i. get_or vs (place i) zero_exact) x n (λ i l. (h i l).value)

pub zeros_listed : (n : ℕ) → replicate n zero_exact ≡ listed (λ i. zero_exact) n
zeros_listed n = fill_by_all (λ i. zero_exact) (replicate n zero_exact) n zero_exact (length-replicate n zero_exact) (λ k l. get_or-replicate n k zero_exact zero_exact l)
