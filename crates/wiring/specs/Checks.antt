-- The check of a wiring: the first fault is told.
use Rattle.std.specs.Prelude.{ℕ, suc, Bool, true, false, ◌&&◌, List, [], ◌∷◌, length, Some, None, Option, nat_le, nat_lt}
use Rattle.wiring.specs.declared.graph.Node.{Node}
use Rattle.wiring.specs.declared.graph.Node.TheVariants.{Input, Zero, Register, Scale, Sum, Difference}
use Rattle.wiring.specs.declared.faults.WiringFault.{WiringFault}
use Rattle.wiring.specs.declared.faults.WiringFault.TheVariants.{NodeCount, RegisterCount, CoefficientCount, NotEarlier, NoRegister, NoCoefficient, NoOutput, NoSource}
use Rattle.wiring.specs.Graphs.{Graph}

-- the number of each fault
abbrev pub wiring_number : WiringFault → ℕ
wiring_number NodeCount = 12
wiring_number RegisterCount = 12
wiring_number CoefficientCount = 12
wiring_number (NotEarlier k) = 13
wiring_number (NoRegister k) = 13
wiring_number (NoCoefficient k) = 13
wiring_number NoOutput = 14
wiring_number (NoSource r) = 14

-- no fault where the test holds
abbrev pub unless : {F : Type 0} → Bool → F → Option F
unless true f = None
unless false f = Some f

-- the first of two faults
abbrev pub first : {F : Type 0} → Option F → Option F → Option F
first (Some f) g = Some f
first None g = g

-- how large a wiring may be
abbrev pub node_limit : ℕ
node_limit = 64

abbrev pub register_limit : ℕ
register_limit = 16

abbrev pub coefficient_limit : ℕ
coefficient_limit = 17

-- 1 to 64 nodes, at most 16 registers and at most 17 coefficients
abbrev pub counts_fault : Graph → Option WiringFault
counts_fault g =
    first (unless (nat_le 1 (length g.nodes) && nat_le (length g.nodes) node_limit) NodeCount)
    (first (unless (nat_le (length g.sources) register_limit) RegisterCount)
    (unless (nat_le g.coefficients coefficient_limit) CoefficientCount))

-- node k names only nodes before it, and registers and coefficients that are there
abbrev pub node_fault : ℕ → ℕ → ℕ → Node → Option WiringFault
node_fault registers coefficients k Input = None
node_fault registers coefficients k Zero = None
node_fault registers coefficients k (Register r) = unless (nat_lt r registers) (NoRegister k)
node_fault registers coefficients k (Scale p c) = first (unless (nat_lt p k) (NotEarlier k)) (unless (nat_lt c coefficients) (NoCoefficient k))
node_fault registers coefficients k (Sum p q) = unless (nat_lt p k && nat_lt q k) (NotEarlier k)
node_fault registers coefficients k (Difference p q) = unless (nat_lt p k && nat_lt q k) (NotEarlier k)

-- the first fault along a list, whose first entry has the number i
abbrev pub scan : {A F : Type 0} → (ℕ → A → Option F) → ℕ → List A → Option F
scan fault i [] = None
scan fault i (x ∷ xs) = first (fault i x) (scan fault (suc i) xs)

-- the nodes in order
abbrev pub nodes_fault : ℕ → ℕ → List Node → Option WiringFault
nodes_fault registers coefficients ns = scan (node_fault registers coefficients) 0 ns

-- the sources in order, each one of so many nodes
abbrev pub source_fault : ℕ → ℕ → ℕ → Option WiringFault
source_fault nodes r s = unless (nat_lt s nodes) (NoSource r)

abbrev pub sources_fault : ℕ → List ℕ → Option WiringFault
sources_fault nodes ss = scan (source_fault nodes) 0 ss

-- what a node, the output or a register names is there
abbrev pub naming_fault : Graph → Option WiringFault
naming_fault g =
    first (nodes_fault (length g.sources) g.coefficients g.nodes)
    (first (unless (nat_lt g.output (length g.nodes)) NoOutput)
    (sources_fault (length g.nodes) g.sources))

abbrev pub wiring_fault : Graph → Option WiringFault
wiring_fault g = first (counts_fault g) (naming_fault g)
