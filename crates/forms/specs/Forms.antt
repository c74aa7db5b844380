-- The three forms as wirings. The filter has coefficients b0 to bN, then a1 to aM:
-- y(n) = sum of b_i × u(n - i) minus sum of a_i × y(n - i), with input u and output y.
use Rattle.std.specs.Prelude.{ℕ, ◌+◌, ◌-◌, max, cond, List, [], ◌∷◌, ◌++◌, ◌==◌}
use Rattle.std.specs.List.{range_with_len, flat_map}
use Rattle.wiring.specs.Graphs.{Graph}
use Rattle.wiring.specs.declared.graph.Node.{Node}
use Rattle.wiring.specs.declared.graph.Node.TheVariants.{Input, Zero, Scale, Sum}
use Rattle.forms.specs.declared.form.Form.{Form}
use Rattle.forms.specs.declared.form.Form.TheVariants.{Direct1, Direct2, Transposed2}
use Rattle.forms.specs.Parts.{listed, chain, registers, taps, gains, sums, differences, delays, totals_of, end_of}

-- ---- direct form 1: the registers hold u1 to uN, then y1 to yM
module _ (N M : ℕ) where
  -- the node of b0's product; the products of the other coefficients follow
  abbrev pub direct1_products : ℕ
  direct1_products = N + M + 1

  -- the node of the first total
  abbrev pub direct1_totals : ℕ
  direct1_totals = direct1_products + (N + M + 1)

  -- the node of the total of all b products
  abbrev pub direct1_sum : ℕ
  direct1_sum = chain direct1_products direct1_totals N

  abbrev pub direct1_output : ℕ
  direct1_output = chain direct1_sum (direct1_totals + N) M

  -- input, registers, products by coefficient, totals
  abbrev pub direct1_nodes : List Node
  direct1_nodes =
      (Input ∷ registers (N + M))
      ++ taps 0 1 0 (N + 1)
      ++ taps (N + 1) (N + 2) (N + 1) M
      ++ sums direct1_products direct1_totals (direct1_products + 1) N
      ++ differences direct1_sum (direct1_totals + N) (direct1_products + (N + 1)) M

  -- u1 takes the input, and y1 takes the output
  abbrev pub direct1 : Graph
  direct1 = record { nodes = direct1_nodes; coefficients = N + 1 + M; output = direct1_output; sources = delays 0 1 N ++ delays direct1_output (N + 1) M }

-- ---- direct form 2: the registers hold v1 to vK, K the larger of N and M
module _ (N M : ℕ) where
  -- the node of the first total of v0
  abbrev pub direct2_totals : ℕ
  direct2_totals = max N M + 1 + M

  -- the node of v0: the input less a1 × v1 up to aM × vM
  abbrev pub direct2_middle : ℕ
  direct2_middle = chain 0 direct2_totals M

  -- the node of b0's product
  abbrev pub direct2_products : ℕ
  direct2_products = direct2_totals + M

  abbrev pub direct2_output : ℕ
  direct2_output = chain direct2_products (direct2_products + (N + 1)) N

  -- input, registers, a products, v0's totals, b products, totals of the output
  abbrev pub direct2_nodes : List Node
  direct2_nodes =
      (Input ∷ registers (max N M))
      ++ taps 1 2 (N + 1) M
      ++ differences 0 direct2_totals (max N M + 1) M
      ++ taps direct2_middle 1 0 (N + 1)
      ++ sums direct2_products (direct2_products + (N + 1)) (direct2_products + 1) N

  -- v1 takes v0
  abbrev pub direct2 : Graph
  direct2 = record { nodes = direct2_nodes; coefficients = N + 1 + M; output = direct2_output; sources = delays direct2_middle 1 (max N M) }

-- ---- transposed form 2: the registers hold s1 to sK, K the larger of N and M
module _ (N M : ℕ) where
  -- the node of b0's product
  abbrev pub transposed2_products : ℕ
  transposed2_products = max N M + 2

  -- y = b0 × u + s1
  abbrev pub transposed2_output : ℕ
  transposed2_output = transposed2_products + (N + 1)

  -- the node of the first total
  abbrev pub transposed2_totals : ℕ
  transposed2_totals = transposed2_output + 1 + M

  -- the total that s_(i + 1) takes: s_(i + 2), or the zero behind the last register, plus b_(i + 1) × u if i < N, less a_(i + 1) × y if i < M
  abbrev pub transposed2_total : ℕ → List Node
  transposed2_total i = totals_of transposed2_totals (transposed2_products + 1) (transposed2_output + 1) N M i

  -- the last node of that total
  abbrev pub transposed2_source : ℕ → ℕ
  transposed2_source i = end_of transposed2_totals (transposed2_products + 1) (transposed2_output + 1) N M i

  -- input, registers, zero, b products, y, a products, totals by register
  abbrev pub transposed2_nodes : List Node
  transposed2_nodes =
      (Input ∷ registers (max N M))
      ++ (Zero ∷ [])
      ++ gains 0 0 (N + 1)
      ++ (Sum transposed2_products 1 ∷ [])
      ++ gains transposed2_output (N + 1) M
      ++ flat_map transposed2_total (range_with_len 0 (max N M))

  -- where there are registers
  abbrev pub transposed2_recursive : Graph
  transposed2_recursive = record { nodes = transposed2_nodes; coefficients = N + 1 + M; output = transposed2_output; sources = listed transposed2_source (max N M) }

-- without registers: y = b0 × u
abbrev pub transposed2_gain : Graph
transposed2_gain = record { nodes = Input ∷ Scale 0 0 ∷ []; coefficients = 1; output = 1; sources = [] }

abbrev pub transposed2 : ℕ → ℕ → Graph
transposed2 N M = cond (max N M == 0) transposed2_gain (transposed2_recursive N M)

-- the wiring of a form for nb coefficients b and na coefficients a
abbrev pub form_graph : Form → ℕ → ℕ → Graph
form_graph Direct1 nb na = direct1 (nb - 1) na
form_graph Direct2 nb na = direct2 (nb - 1) na
form_graph Transposed2 nb na = transposed2 (nb - 1) na
