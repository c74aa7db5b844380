-- Wirings that have room in the rows of a sheet.
use Rattle.std.specs.Prelude.{◌≤◌, length}
use Rattle.wiring.specs.Graphs.{Graph}
use Rattle.wiring.specs.Checks.{register_limit, node_limit}

-- a place in the register row for each register, and one in the working row for each node
pub record Room (g : Graph) : Type 0 where
  pub registers : length g.sources ≤ register_limit
  pub nodes : length g.nodes ≤ node_limit
