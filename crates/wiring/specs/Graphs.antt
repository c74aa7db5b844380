-- A wiring as a graph: what its nodes compute, in order.
use Rattle.std.specs.Prelude.{ℕ, List, vec_items}
use Rattle.wiring.specs.declared.graph.Node.{Node}
use Rattle.wiring.specs.declared.graph.Wiring.{Wiring}

-- nodes, registers and coefficients are numbered from 0
pub record Graph : Type 0 where
  pub nodes : List Node
  -- how many coefficients
  pub coefficients : ℕ
  -- the node whose value is the output
  pub output : ℕ
  -- for each register, the node whose value it takes
  pub sources : List ℕ

abbrev pub graph_of : Wiring → Graph
graph_of w = record { nodes = vec_items w.nodes; coefficients = w.coefficients; output = w.output; sources = vec_items w.sources }
