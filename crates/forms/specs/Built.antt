-- What the builder answers.
use Rattle.std.specs.Prelude.{◌≡◌, ℕ, Bool, true, false, ◌&&◌, List, ◌++◌, length, ℤ, Some, None, Ok, Err, vec_items, Option, Result, nat_le}
use Rattle.wiring.specs.Checks.{wiring_fault}
use Rattle.wiring.specs.Graphs.{graph_of}
use Rattle.forms.specs.declared.form.Form.{Form}
use Rattle.wiring.specs.declared.graph.Filter.{Filter}
use Rattle.forms.specs.declared.form.FormFault.{FormFault}
use Rattle.forms.specs.declared.form.FormFault.TheVariants.{Numerator, Denominator, Memory}
use Rattle.forms.specs.Forms.{form_graph}
use Rattle.forms.specs.Equation.{DifferenceEquation}

-- 1 to 9 coefficients b
abbrev pub numerator_good : ℕ → Bool
numerator_good nb = nat_le 1 nb && nat_le nb 9

-- at most 8 coefficients a
abbrev pub denominator_good : ℕ → Bool
denominator_good na = nat_le na 8

-- The wiring of the form with the coefficients b, then a. Refused where b has a wrong length, else where a has;
-- where both are good, memory may run out: when it does is left open.
abbrev pub BuildAnswer : Form → List ℤ → List ℤ → Result Filter FormFault → Type 0
BuildAnswer form bs cs (Ok filter) =
    (numerator_good (length bs) ≡ true) × (denominator_good (length cs) ≡ true)
    × (graph_of filter.wiring ≡ form_graph form (length bs) (length cs)) × (vec_items filter.coefficients ≡ bs ++ cs)
BuildAnswer form bs cs (Err Numerator) = numerator_good (length bs) ≡ false
BuildAnswer form bs cs (Err Denominator) = (numerator_good (length bs) ≡ true) × (denominator_good (length cs) ≡ false)
BuildAnswer form bs cs (Err Memory) = (numerator_good (length bs) ≡ true) × (denominator_good (length cs) ≡ true)

-- what is built passes the check of wirings
abbrev pub SoundFilter : Result Filter FormFault → Type 0
SoundFilter (Ok filter) = wiring_fault (graph_of filter.wiring) ≡ None
SoundFilter (Err e) = Unit {0}

-- the exact run of what is built keeps the difference equation of the coefficients
abbrev pub EquationKept : List ℤ → List ℤ → Result Filter FormFault → Type 0
EquationKept bs cs (Ok filter) = DifferenceEquation (graph_of filter.wiring) (vec_items filter.coefficients) bs cs
EquationKept bs cs (Err e) = Unit {0}

-- the number of each refusal; want of memory has none
abbrev pub form_number : FormFault → Option ℕ
form_number Numerator = Some 7
form_number Denominator = Some 7
form_number Memory = None
