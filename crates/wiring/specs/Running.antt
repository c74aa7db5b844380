-- What the runner's inner functions are handed by a checked program.
use Rattle.std.specs.Prelude.{◌≡◌, ℕ, ◌^◌, ◌<◌, ◌≤◌, List, length, ℤ, pos, None, slice_index_or, unsigned_abs}
use Rattle.wiring.specs.declared.graph.Node.{Node}
use Rattle.wiring.specs.declared.graph.Node.TheVariants.{Input}
use Rattle.wiring.specs.Checks.{node_fault}

-- every coefficient has at most 24 bits
abbrev pub Small : List ℤ → Type 0
Small cs = (i : ℕ) → unsigned_abs (slice_index_or cs i (pos 0)) ≤ 2 ^ 23

-- every node names only what is there
abbrev pub Named : ℕ → ℕ → List Node → Type 0
Named registers coefficients ns = (k : ℕ) → k < length ns → node_fault registers coefficients k (slice_index_or ns k Input) ≡ None
