-- The rows of nodes that the forms are made of.
use Rattle.std.specs.Prelude.{◌≡◌, ℕ, zero, suc, ◌+◌, ◌<◌, min, Bool, cond, List, [], ◌∷◌, ◌++◌, map, nat_lt}
use Rattle.std.specs.List.{range_with_len}
use Rattle.wiring.specs.declared.graph.Node.{Node}
use Rattle.wiring.specs.declared.graph.Node.TheVariants.{Register, Scale, Sum, Difference}

-- f 0, f 1 and so on, n entries
abbrev pub listed : {A : Type 0} → (ℕ → A) → ℕ → List A
listed f n = map f (range_with_len 0 n)

-- f is what the calls give, at each argument, or at each below n
abbrev pub Gives : {A : Type 0} → (ℕ → ℕ → A → Type 0) → (ℕ → ℕ → A) → Type 0
Gives gives f = (p q : ℕ) (x : _) → gives p q x → x ≡ f p q

abbrev pub GivesBelow : {A : Type 0} → ℕ → (ℕ → A → Type 0) → (ℕ → A) → Type 0
GivesBelow n gives f = (i : ℕ) (x : _) → i < n → gives i x → x ≡ f i

-- the i-th node of a chain: node `from` itself, then the nodes from number `place` on
abbrev pub chain : ℕ → ℕ → ℕ → ℕ
chain from place zero = from
chain from place (suc i) = place + i

-- the registers 0 to n - 1
abbrev pub registers : ℕ → List Node
registers n = listed Register n

-- n nodes, each made of the node of a chain at its place and of a number; the first number is c
abbrev pub chained : (ℕ → ℕ → Node) → ℕ → ℕ → ℕ → ℕ → List Node
chained make from place c n = listed (λ i. make (chain from place i) (c + i)) n

-- n coefficients, of which the first has the number c, each times the node of a chain at its place
abbrev pub taps : ℕ → ℕ → ℕ → ℕ → List Node
taps = chained Scale

-- n coefficients, of which the first has the number c, each times the same node
abbrev pub gains : ℕ → ℕ → ℕ → List Node
gains node c n = listed (λ i. Scale node (c + i)) n

-- Totals in turn: to node `start` the n nodes from number `first` on are added one by one.
-- The totals have the numbers from `place` on, so that the last of them is node `chain start place n`.
abbrev pub sums : ℕ → ℕ → ℕ → ℕ → List Node
sums = chained Sum

-- the same, subtracted
abbrev pub differences : ℕ → ℕ → ℕ → ℕ → List Node
differences = chained Difference

-- the sources of a delay line of n registers, which are nodes from number `place` on: the first takes node `from`, each other the register before it
abbrev pub delays : ℕ → ℕ → ℕ → List ℕ
delays from place n = listed (chain from place) n

-- One total: from node `start`, adds node p if `more`, then subtracts node q if `less`. Its first node has the number `place`.
abbrev pub total_nodes : Bool → Bool → ℕ → ℕ → ℕ → ℕ → List Node
total_nodes more less start place p q = cond more (Sum start p ∷ []) [] ++ cond less (Difference (cond more place start) q ∷ []) []

-- its last node
abbrev pub total_end : Bool → Bool → ℕ → ℕ → ℕ
total_end more less start place = cond less (cond more (place + 1) place) (cond more place start)

-- Totals by register, for register i from the node behind its own, node i + 2. Their numbers begin at `place`,
-- the N nodes that are added at `first`, and the M nodes that are subtracted at `back`.
module _ (place first back N M : ℕ) where
  -- the number of the first node of register i's total: those before it have as many sums as min i N, and min i M differences
  abbrev pub total_place : ℕ → ℕ
  total_place i = place + min i N + min i M

  abbrev pub totals_of : ℕ → List Node
  totals_of i = total_nodes (nat_lt i N) (nat_lt i M) (i + 2) (total_place i) (first + i) (back + i)

  abbrev pub end_of : ℕ → ℕ
  end_of i = total_end (nat_lt i N) (nat_lt i M) (i + 2) (total_place i)
