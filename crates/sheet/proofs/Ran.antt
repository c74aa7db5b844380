-- What the runner answers and leaves, in terms of the run.
use Rattle.std.proofs.Common.{◌≡◌, ℕ, suc, ◌+◌, ◌<◌, ◌≤◌, List, [], ◌∷◌, ◌++◌, map, length, get_or, take, drop, ℤ, Ok, Err, Result, sym, refl, ap, ◌∙◌, add-zero, arith, le-leb}
use Rattle.std.proofs.lemmas.List.{length-append, get_or_append_left}
use Rattle.kinds.specs.declared.refusal.Refusal.{Refusal}
use Rattle.kinds.specs.Arithmetics.{Arithmetic}
use Rattle.wiring.specs.declared.graph.Node.{Node}
use Rattle.wiring.specs.declared.faults.RowFault.{RowFault}
use Rattle.wiring.specs.declared.faults.RowFault.TheVariants.{Registers, Working}
use Rattle.wiring.specs.declared.faults.RunFault.TheVariants.{Row, Node as AtNode}
use Rattle.wiring.specs.Graphs.{Graph}
use Rattle.wiring.specs.Checks.{unless, first}
use Rattle.wiring.specs.Runs.{onward, at_node, node_value, work, Worked, taken, run, or_fault, attempt, answered, row_after}
use Rattle.wiring.proofs.Simulation.{only, onward_out, onward_in}

answered_ok : {A E : Type 0} (x : Result A E) (t : Unit {0}) → Ok t ≡ answered x → (a : A) × (x ≡ Ok a)
answered_ok (Ok a) t e = (a, refl)
answered_ok (Err f) t e = absurd (let z : ◌≡◌ {A = ℕ} 0 1 = cc in omega arith)

answered_err : {A E : Type 0} (x : Result A E) (f : E) → Err f ≡ answered x → x ≡ Err f
answered_err (Ok a) f e = absurd (let z : ◌≡◌ {A = ℕ} 0 1 = cc in omega arith)
answered_err (Err d) f e = cc

onward_err : {A B E : Type 0} (o : Result A E) (f : A → Result B E) (x : E) → o ≡ Err x → onward o f ≡ Err x
onward_err o f x e = rw e

-- values of nodes that are there
pub read_front : {V : Type 0} (vs rest : List V) (z : V) (ss : List ℕ) → ((i : ℕ) → i < length ss → get_or ss i 0 < length vs) → map (λ s. get_or (vs ++ rest) s z) ss ≡ map (λ s. get_or vs s z) ss
read_front vs rest z [] h = refl
read_front vs rest z (s ∷ ss) h =
    ap (λ y. y ∷ map (λ t. get_or (vs ++ rest) t z) ss) (get_or_append_left vs rest z s (h 0 (omega arith)))
    ∙ ap (λ l. get_or vs s z ∷ l) (read_front vs rest z ss (λ i k. h (suc i) (omega arith)))

module _ {V : Type 0} (o : Arithmetic V) (cs : List ℤ) (rs : List V) (u : ℤ) where
  -- as many values as nodes
  work_long : (ns : List Node) (vs out : List V) → work o cs rs u vs ns ≡ Ok out → length out ≡ length vs + length ns
  unfolding work
  work_long [] vs out e = ap length (sym (only vs out e)) ∙ sym (add-zero (length vs))
  work_long (n ∷ ns) vs out e =
      let t = onward_out (at_node (length vs) (node_value o cs rs u vs n)) (λ v. work o cs rs u (vs ++ (v ∷ [])) ns) out e in
      let i = work_long ns (vs ++ (t.0 ∷ [])) out t.2 in
      let l = length-append vs (t.0 ∷ []) in
      omega arith

  -- work over nodes is not refused for a row
  no_row : (ns : List Node) (vs : List V) (f : RowFault) → work o cs rs u vs ns ≡ Err (Row f) → ⊥
  unfolding work
  no_row [] vs f e = let z : ◌≡◌ {A = ℕ} 0 1 = cc in omega arith
  no_row (n ∷ ns) vs f e = go (λ v. no_row ns (vs ++ (v ∷ [])) f) (node_value o cs rs u vs n) e
    where
      go : ((v : V) → work o cs rs u (vs ++ (v ∷ [])) ns ≡ Err (Row f) → ⊥) → (x : Result V Refusal)
          → onward (at_node (length vs) x) (λ v. work o cs rs u (vs ++ (v ∷ [])) ns) ≡ Err (Row f) → ⊥
      go rest (Ok v) e = rest v e
      go rest (Err x) e = let z : ◌≡◌ {A = ℕ} 0 1 = cc in omega arith

module _ {V : Type 0} (o : Arithmetic V) (g : Graph) (cs : List ℤ) (rs ws : List V) (u : ℤ)
    (registers : length g.sources ≤ length rs) (nodes : length g.nodes ≤ length ws) where
  -- rows that are long enough
  attempt_is : attempt o g cs rs ws u ≡ work o cs (take (length g.sources) rs) u [] g.nodes
  attempt_is =
      let a = le-leb (length g.sources) (length rs) registers in
      let b = le-leb (length g.nodes) (length ws) nodes in
      λ i. or_fault (first (unless (a i) (Row Registers)) (unless (b i) (Row Working))) (work o cs (take (length g.sources) rs) u [] g.nodes)

  pub ran_row : (f : RowFault) → Err (Row f) ≡ answered (attempt o g cs rs ws u) → ⊥
  ran_row f e = no_row o cs (take (length g.sources) rs) u g.nodes [] f (sym attempt_is ∙ answered_err _ (Row f) e)

  pub ran_node : (k : ℕ) (x : Refusal) → Err (AtNode k x) ≡ answered (attempt o g cs rs ws u) → run o g cs (take (length g.sources) rs) u ≡ Err (AtNode k x)
  unfolding run
  ran_node k x e = onward_err (work o cs (take (length g.sources) rs) u [] g.nodes) (λ vs. Ok (taken g o.zero vs)) (AtNode k x) (sym attempt_is ∙ answered_err _ (AtNode k x) e)

  pub ran_ok : (t : Unit {0}) (after : List V) → ((i : ℕ) → i < length g.sources → get_or g.sources i 0 < length g.nodes) → g.output < length g.nodes
      → Ok t ≡ answered (attempt o g cs rs ws u) → after ≡ row_after o.zero (length g.nodes) ws (attempt o g cs rs ws u)
      → (w : Worked V) × (run o g cs (take (length g.sources) rs) u ≡ Ok w) × (map (λ s. get_or after s o.zero) g.sources ≡ w.registers) × (get_or after g.output o.zero ≡ w.output)
  unfolding run
  ran_ok t after named out e row =
      let a = answered_ok (attempt o g cs rs ws u) t e in
      let vs = a.0 in
      let made : work o cs (take (length g.sources) rs) u [] g.nodes ≡ Ok vs = sym attempt_is ∙ a.1 in
      let long₀ = work_long o cs (take (length g.sources) rs) u g.nodes [] vs made in
      let long : length vs ≡ length g.nodes = omega arith in
      let rest = drop (length g.nodes) ws in
      let is : after ≡ vs ++ rest = row ∙ ap (row_after o.zero (length g.nodes) ws) a.1 in (
        taken g o.zero vs,
        onward_in (work o cs (take (length g.sources) rs) u [] g.nodes) (λ vs. Ok (taken g o.zero vs)) vs (taken g o.zero vs) made refl,
        ap (λ l. map (λ s. get_or l s o.zero) g.sources) is ∙ read_front vs rest o.zero g.sources (λ i h. let k = named i h in omega arith),
        ap (λ l. get_or l g.output o.zero) is ∙ get_or_append_left vs rest o.zero g.output (omega arith),
      )
