-- Rows that a loop fills from the front, and a run with one node more.
use Rattle.std.proofs.Common.{◌≡◌, ℕ, ◌+◌, ◌-◌, ◌<◌, ◌≤◌, Bool, true, false, leb, List, [], ◌∷◌, ◌++◌, map, length, get_or, take, drop, set, replicate, ℤ, Some, None, Ok, Err, Option, Result, sym, ap, ◌∙◌, arith, ltb-true, leb-true}
use native.Mathlib.Nat.{sub-zero}
use Rattle.std.proofs.lemmas.List.{append_assoc, drop_more, set_at, length-replicate, replicate_more, get_or_read, length-map, map_more, length-take-le, take_more_set, drop-set-lt, at_drop_more, at_drop_all, append-nil, take-append-drop, drop-drop}
use Rattle.kinds.specs.declared.refusal.Refusal.{Refusal}
use Rattle.kinds.specs.Arithmetics.{Arithmetic}
use Rattle.wiring.specs.declared.graph.Node.{Node}
use Rattle.wiring.specs.declared.graph.Node.TheVariants.{Input, Register, Scale, Sum, Difference}
use Rattle.wiring.specs.declared.faults.RunFault.{RunFault}
use Rattle.wiring.specs.declared.faults.RowFault.TheVariants.{Registers, Working}
use Rattle.wiring.specs.declared.faults.RunFault.TheVariants.{Row, Node as AtNode}
use Rattle.wiring.specs.Graphs.{Graph}
use Rattle.wiring.specs.Checks.{unless, first, node_fault}
use Rattle.wiring.specs.Runs.{onward, at_node, node_value, work, answered, row_after, rows_fault, or_fault}
use Rattle.wiring.proofs.Soundness.{first_none, unless_none, and_out}

-- one more place of a row written, after those of front
pub filled_more : {X : Type 0} (front xs ys : List X) (i : ℕ) (v : X) → length front ≡ i → i < length xs → ys ≡ front ++ drop i xs
    → set ys i v ≡ (front ++ v ∷ []) ++ drop (i + 1) xs
filled_more front xs ys i v long h e =
    ap (λ w. set w i v) (e ∙ ap (λ w. front ++ w) (drop_more xs i v h))
    ∙ set_at front (get_or xs i v) (drop (i + 1) xs) v i long
    ∙ sym (append_assoc front (v ∷ []) (drop (i + 1) xs))

pub cleared_more : {X : Type 0} (z : X) (xs ys : List X) (i : ℕ) → i < length xs → ys ≡ replicate i z ++ drop i xs
    → set ys i z ≡ replicate (i + 1) z ++ drop (i + 1) xs
cleared_more z xs ys i h e =
    filled_more (replicate i z) xs ys i z (length-replicate i z) h e ∙ ap (λ w. w ++ drop (i + 1) xs) (replicate_more i z)

-- the first n places of a row, all written
pub cleared_all : {X : Type 0} (z : X) (xs ys : List X) (i n : ℕ) → n ≤ length xs → length (take n xs) ≤ i → i ≤ length (take n xs) → ys ≡ replicate i z ++ drop i (take n xs)
    → ys ++ drop n xs ≡ replicate n z ++ drop n xs
cleared_all z xs ys i n h a b e =
    let all : length (take n xs) ≡ n = length-take-le n xs h in
    let i_is : i ≡ n = omega arith in
    ap (λ w. w ++ drop n xs) (e ∙ at_drop_all (λ w. replicate i z ++ w) (take n xs) i a ∙ append-nil (replicate i z) ∙ ap (λ k. replicate k z) i_is)

-- one more source taken
pub taken_more : {X : Type 0} (d v : X) (ss : List ℕ) (ws xs ys : List X) (i s : ℕ) → i < length ss → i < length xs → s ≡ get_or ss i 0 → s < length ws → v ≡ get_or ws s v
    → ys ≡ map (λ k. get_or ws k d) (take i ss) ++ drop i xs
    → set ys i v ≡ map (λ k. get_or ws k d) (take (i + 1) ss) ++ drop (i + 1) xs
taken_more d v ss ws xs ys i s hs hx at inside read e =
    let long : length (map (λ k. get_or ws k d) (take i ss)) ≡ i = length-map (take i ss) (λ k. get_or ws k d) ∙ length-take-le i ss (omega arith) in
    let value : v ≡ get_or ws (get_or ss i 0) d = get_or_read ws s v inside read d ∙ ap (λ k. get_or ws k d) at in
    filled_more (map (λ k. get_or ws k d) (take i ss)) xs ys i v long hx e
    ∙ ap (λ y. (map (λ k. get_or ws k d) (take i ss) ++ y ∷ []) ++ drop (i + 1) xs) value
    ∙ ap (λ w. w ++ drop (i + 1) xs) (sym (map_more (λ k. get_or ws k d) ss i 0 hs))

-- ---- what a node without fault names is there
module _ (nr nc k : ℕ) where
  pub names_register : (r : ℕ) → node_fault nr nc k (Register r) ≡ None → r < nr
  names_register r e = ltb-true _ _ (unless_none _ _ e)

  pub names_scaled : (p c : ℕ) → node_fault nr nc k (Scale p c) ≡ None → (p < k) × (c < nc)
  names_scaled p c e = let t = first_none _ _ e in (ltb-true _ _ (unless_none _ _ t.0), ltb-true _ _ (unless_none _ _ t.1))

  pub names_sum : (p q : ℕ) → node_fault nr nc k (Sum p q) ≡ None → (p < k) × (q < k)
  names_sum p q e = let t = and_out _ _ (unless_none _ _ e) in (ltb-true _ _ t.0, ltb-true _ _ t.1)

  pub names_difference : (p q : ℕ) → node_fault nr nc k (Difference p q) ≡ None → (p < k) × (q < k)
  names_difference = names_sum

module _ {V : Type 0} (o : Arithmetic V) (cs : List ℤ) (rs : List V) (u : ℤ) where
  -- the run from node i on, once that node's value is known
  pub work_at : (ns : List Node) (ws : List V) (i : ℕ) (r : Result V Refusal) → i < length ns → i ≤ length ws → r ≡ node_value o cs rs u (take i ws) (get_or ns i Input) →
      work o cs rs u (take i ws) (drop i ns) ≡ onward (at_node i r) (λ v. work o cs rs u (take i ws ++ v ∷ []) (drop (i + 1) ns))
  unfolding work
  work_at ns ws i r h k e =
      at_drop_more (λ t. work o cs rs u (take i ws) t) ns i Input h
      ∙ ap (λ x. onward (at_node (length (take i ws)) x) (λ v. work o cs rs u (take i ws ++ v ∷ []) (drop (i + 1) ns))) (sym e)
      ∙ ap (λ j. onward (at_node j r) (λ v. work o cs rs u (take i ws ++ v ∷ []) (drop (i + 1) ns))) (length-take-le i ws k)

  -- all nodes done
  pub work_all : (ns : List Node) (ws : List V) (i : ℕ) → length ns ≤ i → work o cs rs u (take i ws) (drop i ns) ≡ Ok (take i ws)
  unfolding work
  work_all ns ws i h = at_drop_all (λ t. work o cs rs u (take i ws) t) ns i h

  -- the loop's step and its two ends: `whole` is the whole run, ws the working row at node i, ws₀ as it was at the start
  module _ (ns : List Node) (whole : Result (List V) RunFault) (ws ws₀ : List V) (i : ℕ)
      (so_far : whole ≡ work o cs rs u (take i ws) (drop i ns)) (rest : drop i ws ≡ drop i ws₀) where
    pub again : (v : V) → i < length ns → i < length ws → Ok v ≡ node_value o cs rs u (take i ws) (get_or ns i Input) →
        (whole ≡ work o cs rs u (take (i + 1) (set ws i v)) (drop (i + 1) ns)) × (drop (i + 1) (set ws i v) ≡ drop (i + 1) ws₀)
    again v h k e = (
      so_far ∙ work_at ns ws i (Ok v) h (omega arith) e ∙ ap (λ t. work o cs rs u t (drop (i + 1) ns)) (sym (take_more_set ws i v k)),
      drop-set-lt (i + 1) ws i v (omega arith) ∙ sym (drop-drop 1 i ws) ∙ ap (drop 1) rest ∙ drop-drop 1 i ws₀,
    )

    pub finished : (z : V) → length ns ≡ i → (Ok tt ≡ answered whole) × (ws ≡ row_after z (length ns) ws₀ whole)
    finished z h =
        let e : whole ≡ Ok (take i ws) = so_far ∙ work_all ns ws i (omega arith) in (
          ap answered (sym e),
          sym (take-append-drop i ws) ∙ ap (λ t. take i ws ++ t) rest ∙ ap (row_after z i ws₀) (sym e) ∙ ap (λ j. row_after z j ws₀ whole) (sym h),
        )

    pub refused : (z : V) (e : Refusal) (out : List V) → i < length ns → i ≤ length ws → Err e ≡ node_value o cs rs u (take i ws) (get_or ns i Input) → out ≡ replicate (length ns) z ++ drop (length ns) ws →
        (Err (AtNode i e) ≡ answered whole) × (out ≡ row_after z (length ns) ws₀ whole)
    refused z e out h k q w =
        let n = length ns in
        let f : whole ≡ Err (AtNode i e) = so_far ∙ work_at ns ws i (Err e) h k q in
        let m : i + (n - i) ≡ n = omega arith in
        let d : drop n ws ≡ drop n ws₀ = ap (λ j. drop j ws) (sym m) ∙ sym (drop-drop (n - i) i ws) ∙ ap (drop (n - i)) rest ∙ drop-drop (n - i) i ws₀ ∙ ap (λ j. drop j ws₀) m in (
          ap answered (sym f),
          w ∙ ap (λ t. replicate n z ++ t) d ∙ ap (row_after z n ws₀) (sym f),
        )

-- ---- rows that are long enough
pub rows_long : (g : Graph) (a b : ℕ) → rows_fault g a b ≡ None → (length g.sources ≤ a) × (length g.nodes ≤ b)
rows_long g a b e = let t = first_none _ _ e in (leb-true _ _ (unless_none _ _ t.0), leb-true _ _ (unless_none _ _ t.1))

-- where a row is short the working row stays
pub short_stays : {V : Type 0} (z : V) (n : ℕ) (ws : List V) (g : Graph) (a b : ℕ) (f : RunFault) → Some f ≡ rows_fault g a b → ws ≡ row_after z n ws (Err f)
short_stays z n ws g a b f = go (leb (length g.sources) a) (leb (length g.nodes) b)
  where
    go : (p q : Bool) → Some f ≡ first (unless p (Row Registers)) (unless q (Row Working)) → ws ≡ row_after z n ws (Err f)
    go false q e = let t : f ≡ Row Registers = cc in rw t
    go true false e = let t : f ≡ Row Working = cc in rw t
    go true true e = absurd (let z : ◌≡◌ {A = ℕ} 0 1 = cc in omega arith)

-- what the inner run was handed is the program's own
module _ {V : Type 0} (o : Arithmetic V) (cs cs' : List ℤ) (rs rs' : List V) (u u' : ℤ) (ns ns' : List Node) (f : Option RunFault)
    (of-nodes : ns' ≡ ns) (of_list : cs' ≡ cs) (of_row : rs' ≡ rs) (of_sample : u' ≡ u) (fine : None ≡ f) where
  same_run : work o cs' rs' u' [] ns' ≡ or_fault f (work o cs rs u [] ns)
  same_run = (λ i. work o (of_list i) (of_row i) (of_sample i) [] (of-nodes i)) ∙ ap (λ t. or_fault t (work o cs rs u [] ns)) fine

  pub handed_answer : (r : Result (Unit {0}) RunFault) → r ≡ answered (work o cs' rs' u' [] ns') → r ≡ answered (or_fault f (work o cs rs u [] ns))
  handed_answer r h = h ∙ ap answered same_run

  pub handed_row : (z : V) (ws out : List V) → out ≡ row_after z (length ns') ws (work o cs' rs' u' [] ns') → out ≡ row_after z (length ns) ws (or_fault f (work o cs rs u [] ns))
  handed_row z ws out h = h ∙ (λ i. row_after z (length (of-nodes i)) ws (same_run i))

pub taken_front : {V : Type 0} (n m : ℕ) (rs : List V) → n ≡ m → take (n - 0) rs ≡ take m rs
taken_front n m rs e = ap (λ k. take k rs) (sub-zero n ∙ e)
