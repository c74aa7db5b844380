-- One interpreter: the nodes of a wiring worked in order over an arithmetic.
use Rattle.std.specs.Prelude.{ℕ, List, [], ◌∷◌, ◌++◌, map, length, get_or, take, drop, replicate, ℤ, pos, Some, None, Ok, Err, Option, Result, nat_le, slice_index_or}
use Rattle.kinds.specs.declared.refusal.Refusal.{Refusal}
use Rattle.kinds.specs.Arithmetics.{Arithmetic, number}
use Rattle.wiring.specs.declared.graph.Node.{Node}
use Rattle.wiring.specs.declared.graph.Node.TheVariants.{Input, Zero, Register, Scale, Sum, Difference}
use Rattle.wiring.specs.declared.faults.RowFault.TheVariants.{Registers, Working}
use Rattle.wiring.specs.declared.faults.RunFault.{RunFault}
use Rattle.wiring.specs.declared.faults.RunFault.TheVariants.{Row, Node as AtNode}
use Rattle.wiring.specs.Graphs.{Graph}
use Rattle.wiring.specs.Checks.{unless, first}

abbrev pub run_number : RunFault → ℕ
run_number (Row f) = 15
run_number (AtNode k e) = number e

abbrev pub onward : {A B E : Type 0} → Result A E → (A → Result B E) → Result B E
onward (Ok a) f = f a
onward (Err e) f = Err e

-- a refusal is told with the node's number
abbrev pub at_node : {V : Type 0} → ℕ → Result V Refusal → Result V RunFault
at_node k (Ok v) = Ok v
at_node k (Err e) = Err (AtNode k e)

-- coefficients cs, registers rs as they were before, sample u; vs are the values of the nodes so far
module _ {V : Type 0} (k : Arithmetic V) (cs : List ℤ) (rs : List V) (u : ℤ) where
  abbrev pub node_value : List V → Node → Result V Refusal
  node_value vs Input = k.sample u
  node_value vs Zero = Ok k.zero
  node_value vs (Register r) = Ok (slice_index_or rs r k.zero)
  node_value vs (Scale p c) = k.scale (slice_index_or cs c (pos 0)) (slice_index_or vs p k.zero)
  node_value vs (Sum p q) = k.sum (slice_index_or vs p k.zero) (slice_index_or vs q k.zero)
  node_value vs (Difference p q) = k.difference (slice_index_or vs p k.zero) (slice_index_or vs q k.zero)

  -- each node's value goes behind those so far
  unfoldable pub work : List V → List Node → Result (List V) RunFault
  work vs [] = Ok vs
  work vs (n ∷ ns) = onward (at_node (length vs) (node_value vs n)) (λ v. work (vs ++ (v ∷ [])) ns)

-- what a run makes: each node's value, the output and the new registers
pub record Worked (V : Type 0) : Type 0 where
  pub values : List V
  pub output : V
  pub registers : List V

-- the output and the registers take their values when all nodes are worked
abbrev pub taken : {V : Type 0} → Graph → V → List V → Worked V
taken g z vs = record { values = vs; output = slice_index_or vs g.output z; registers = map (λ s. get_or vs s z) g.sources }

-- the run of a wiring over an arithmetic
unfoldable pub run : {V : Type 0} → Arithmetic V → Graph → List ℤ → List V → ℤ → Result (Worked V) RunFault
run k g cs rs u = onward (work k cs rs u [] g.nodes) (λ vs. Ok (taken g k.zero vs))

-- ---- the runner, over rows that are lent to it
-- a row that is too short, the register row first
abbrev pub rows_fault : Graph → ℕ → ℕ → Option RunFault
rows_fault g registers working = first (unless (nat_le (length g.sources) registers) (Row Registers)) (unless (nat_le (length g.nodes) working) (Row Working))

abbrev pub or_fault : {A E : Type 0} → Option E → Result A E → Result A E
or_fault (Some e) r = Err e
or_fault None r = r

-- the node values, from a register row rs and a working row ws
abbrev pub attempt : {V : Type 0} → Arithmetic V → Graph → List ℤ → List V → List V → ℤ → Result (List V) RunFault
attempt k g cs rs ws u = or_fault (rows_fault g (length rs) (length ws)) (work k cs (take (length g.sources) rs) u [] g.nodes)

abbrev pub answered : {A E : Type 0} → Result A E → Result (Unit {0}) E
answered (Ok a) = Ok tt
answered (Err e) = Err e

-- the working row after: the node values; zeros in the node places where a node refused; as it was where a row was short
abbrev pub row_after : {V : Type 0} → V → ℕ → List V → Result (List V) RunFault → List V
row_after z n ws (Ok vs) = vs ++ drop n ws
row_after z n ws (Err (AtNode k e)) = replicate n z ++ drop n ws
row_after z n ws (Err (Row f)) = ws

-- the register row after all registers have taken their sources together; places past the registers stay
abbrev pub registers_after : {V : Type 0} → V → Graph → List V → List V → List V
registers_after d g rs vs = map (λ s. get_or vs s d) g.sources ++ drop (length g.sources) rs
