-- The steps of the two loops, at rows.
use Rattle.std.proofs.Common.{◌≡◌, ℕ, zero, suc, ◌+◌, ◌<◌, ◌≤◌, List, [], ◌∷◌, map, length, get_or, take, drop, replicate, ℤ, pos, nat_abs, Ok, Err, sym, refl, ap, ◌∙◌, subst, arith}
use Rattle.std.proofs.lemmas.List.{length-map, take_at}
use Rattle.arithmetic.specs.Rounding.{RoundingRule, LawfulRounding}
use Rattle.arithmetic.specs.Overflow.{OverflowRule, LawfulOverflow}
use Rattle.arithmetic.specs.Settings.{Lawful}
use Rattle.kinds.specs.declared.refusal.Refusal.{Refusal}
use Rattle.kinds.specs.declared.values.Bound.{Bound}
use Rattle.kinds.specs.Bounds.{bound_arithmetic}
use Rattle.wiring.specs.Lists.{Each₂}
use Rattle.wiring.specs.Runs.{Worked, run, registers_after}
use Rattle.sheet.specs.declared.figures.SheetFault.{SheetFault}
use Rattle.sheet.specs.declared.figures.SheetFault.TheVariants.{Format, Program as OfProgram, PeaksRow, CeilingsRow, BandRow, Range, Node}
use Rattle.sheet.specs.declared.rounds.Rounds.{Rounds}
use Rattle.sheet.specs.declared.rounds.BoundRows.{BoundRows}
use Rattle.sheet.specs.Rounds.{round}
use Rattle.sheet.specs.Sheets.{Below, Closed}
use Rattle.sheet.specs.Searching.{none, IsAtNode, box_in, peaks_of, Raised, Lowered, NotLowered, Holds, rounds_graph, rounds_list, held_box, made_box, made_output, rounds_meaning, RoundAnswer, SearchAnswer, FallsTo}
use Rattle.sheet.proofs.Places.{total}
use Rattle.sheet.proofs.Boxes.{Met, Sunk, distance, met_more, met_closed, met_refused, nearer, closed_more, sinks, sunk_more, sunk_all}

-- the rules keep their laws
pub lawful : {R O : Type 0} {r : R → RoundingRule} {o : O → OverflowRule} → ((x : R) → LawfulRounding (r x)) → ((x : O) → LawfulOverflow (o x)) → (a : Rounds R O) → Lawful (rounds_meaning r o a)
lawful p q a = record { rounding = p a.values.setting.rounding; overflow = q a.values.setting.overflow }

-- a row of zeros has a box of zeros
pub zeros_in : (ss : List ℕ) (n : ℕ) → length ss ≤ n → take (length ss) (replicate n none) ≡ map (λ _. none) ss
zeros_in [] n h = refl
zeros_in (s ∷ ss) zero h = absurd (omega arith)
zeros_in (s ∷ ss) (suc n) h = ap (λ l. none ∷ l) (zeros_in ss n (omega arith))

module _ {R O : Type 0} {r : R → RoundingRule} {o : O → OverflowRule} (lr : (x : R) → LawfulRounding (r x)) (lo : (x : O) → LawfulOverflow (o x)) (a : Rounds R O) (before after : BoundRows) where
  -- all registers take what the round made
  next_box : (next : BoundRows) → next ≡ record after { registers = registers_after none (rounds_graph a) after.registers after.working } → (w : Worked Bound) → Holds (rounds_graph a) w after.working → w.registers ≡ held_box a next
  next_box next moved w holds =
      let ss = (rounds_graph a).sources in
      sym (ap (held_box a) moved ∙ take_at (made_box a after) (drop (length ss) after.registers) (length ss) (length-map ss (λ s. get_or after.working s none)) ∙ holds.sources)

  -- ---- a round of the search, with the input (X, 0)
  module _ (u : ℤ) (positive : pos (nat_abs u) ≡ u) (done : RoundAnswer r o a u before (Ok tt) after) (met : Met (rounds_meaning r o a) (rounds_graph a) (rounds_list a) (nat_abs u) (held_box a before)) where
    taken_at : round (rounds_meaning r o a) (rounds_graph a) (rounds_list a) (nat_abs u) (held_box a after) ≡ Ok done.1
    taken_at = ap (λ (v : ℤ). run (bound_arithmetic (rounds_meaning r o a)) (rounds_graph a) (rounds_list a) (held_box a after) v) positive ∙ done.2

    met_here : Met (rounds_meaning r o a) (rounds_graph a) (rounds_list a) (nat_abs u) (held_box a after)
    met_here = subst (λ l. Met (rounds_meaning r o a) (rounds_graph a) (rounds_list a) (nat_abs u) (box_in (rounds_graph a) l)) (sym done.0) met

    -- the last one
    pub close_ends : Each₂ Below (made_box a after) (held_box a after) → SearchAnswer r o a (nat_abs u) (Ok tt) after
    close_ends h =
        met_closed (rounds_meaning r o a) (lawful lr lo a) (rounds_graph a) (rounds_list a) (nat_abs u) (held_box a after) done.1 (made_output a after) met_here taken_at
        (subst (λ l. Each₂ Below l (held_box a after)) done.3.sources h) done.3.output

    module _ (next : BoundRows) (moved : next ≡ record after { registers = registers_after none (rounds_graph a) after.registers after.working }) where
      -- one more
      pub close_again : Met (rounds_meaning r o a) (rounds_graph a) (rounds_list a) (nat_abs u) (held_box a next)
      close_again =
          subst (Met (rounds_meaning r o a) (rounds_graph a) (rounds_list a) (nat_abs u)) (next_box next moved done.1 done.3)
          (met_more (rounds_meaning r o a) (lawful lr lo a) (rounds_graph a) (rounds_list a) (nat_abs u) (held_box a after) done.1 met_here taken_at)

      pub close_less : Raised (held_box a after) (made_box a after) → distance (rounds_meaning r o a) (rounds_graph a) (held_box a next) < distance (rounds_meaning r o a) (rounds_graph a) (held_box a before)
      close_less up =
          let less = nearer (rounds_meaning r o a) (lawful lr lo a) (rounds_graph a) (rounds_list a) (nat_abs u) (held_box a after) done.1 met_here taken_at (subst (λ l. Raised (held_box a after) l) done.3.sources up) in
          subst (λ l. distance (rounds_meaning r o a) (rounds_graph a) (held_box a next) < distance (rounds_meaning r o a) (rounds_graph a) (box_in (rounds_graph a) l)) done.0
          (subst (λ l. distance (rounds_meaning r o a) (rounds_graph a) l < distance (rounds_meaning r o a) (rounds_graph a) (held_box a after)) (next_box next moved done.1 done.3) less)

  -- ---- a round with input 0, after n that lowered a peak
  module _ (done : RoundAnswer r o a (pos 0) before (Ok tt) after) (start : BoundRows) (n : ℕ) (closed : Closed (rounds_meaning r o a) (rounds_graph a) (rounds_list a) 0 (held_box a before))
      (sunk : Sunk (rounds_meaning r o a) (rounds_graph a) (rounds_list a) (held_box a start) n (held_box a before)) where
    closed_here : Closed (rounds_meaning r o a) (rounds_graph a) (rounds_list a) 0 (held_box a after)
    closed_here = subst (λ l. Closed (rounds_meaning r o a) (rounds_graph a) (rounds_list a) 0 (box_in (rounds_graph a) l)) (sym done.0) closed

    sunk_here : Sunk (rounds_meaning r o a) (rounds_graph a) (rounds_list a) (held_box a start) n (held_box a after)
    sunk_here = subst (λ l. Sunk (rounds_meaning r o a) (rounds_graph a) (rounds_list a) (held_box a start) n (box_in (rounds_graph a) l)) (sym done.0) sunk

    -- it lowers none
    pub settle_ends : Each₂ NotLowered (held_box a after) (made_box a after) → FallsTo r o a start n after
    settle_ends h =
        sunk_all (rounds_meaning r o a) (lawful lr lo a) (rounds_graph a) (rounds_list a) (held_box a start) (held_box a after) n done.1 (made_output a after).peak sunk_here done.2
        (subst (λ l. Each₂ NotLowered (held_box a after) l) done.3.sources h) (ap (λ (b : Bound). b.peak) done.3.output)

    module _ (low : Lowered (held_box a after) (made_box a after)) (next : BoundRows) (moved : next ≡ record after { registers = registers_after none (rounds_graph a) after.registers after.working }) where
      lowered : Lowered (held_box a after) done.1.registers
      lowered = subst (λ l. Lowered (held_box a after) l) done.3.sources low

      pub settle_closed : Closed (rounds_meaning r o a) (rounds_graph a) (rounds_list a) 0 (held_box a next)
      settle_closed =
          subst (Closed (rounds_meaning r o a) (rounds_graph a) (rounds_list a) 0) (next_box next moved done.1 done.3)
          (closed_more (rounds_meaning r o a) (lawful lr lo a) (rounds_graph a) (rounds_list a) (held_box a after) done.1 closed_here done.2)

      pub settle_sunk : Sunk (rounds_meaning r o a) (rounds_graph a) (rounds_list a) (held_box a start) (n + 1) (held_box a next)
      settle_sunk =
          subst (Sunk (rounds_meaning r o a) (rounds_graph a) (rounds_list a) (held_box a start) (n + 1)) (next_box next moved done.1 done.3)
          (sunk_more (rounds_meaning r o a) (lawful lr lo a) (rounds_graph a) (rounds_list a) (held_box a start) (held_box a after) n done.1 sunk_here closed_here done.2 lowered)

      pub settle_less : total (peaks_of (held_box a next)) < total (peaks_of (held_box a before))
      settle_less =
          let less = sinks (rounds_meaning r o a) (lawful lr lo a) (rounds_graph a) (rounds_list a) (held_box a after) done.1 closed_here done.2 lowered in
          subst (λ l. total (peaks_of (held_box a next)) < total (peaks_of (box_in (rounds_graph a) l))) done.0
          (subst (λ l. total (peaks_of l) < total (peaks_of (held_box a after))) (next_box next moved done.1 done.3) less)

-- what follows from a node's refusal
at_node : {P Q : ℕ → Refusal → Type 0} → ((k : ℕ) (e : Refusal) → P k e → Q k e) → (f : SheetFault) → IsAtNode P f → IsAtNode Q f
at_node h (Node k e) p = h k e p
at_node h (Format f) p = p
at_node h (OfProgram f) p = p
at_node h PeaksRow p = p
at_node h CeilingsRow p = p
at_node h BandRow p = p
at_node h Range p = p

-- a round that refuses
pub close_refused : {R O : Type 0} {r : R → RoundingRule} {o : O → OverflowRule} → ((x : R) → LawfulRounding (r x)) → ((x : O) → LawfulOverflow (o x)) → (a : Rounds R O) (before after : BoundRows) (u : ℤ) → pos (nat_abs u) ≡ u
    → Met (rounds_meaning r o a) (rounds_graph a) (rounds_list a) (nat_abs u) (held_box a before) → (f : SheetFault) → RoundAnswer r o a u before (Err f) after → SearchAnswer r o a (nat_abs u) (Err f) after
close_refused {r = r} {o = o} lr lo a before after u positive met =
    at_node (λ k e h. met_refused (rounds_meaning r o a) (lawful lr lo a) (rounds_graph a) (rounds_list a) (nat_abs u) (held_box a before) k e met
    (ap (λ (v : ℤ). run (bound_arithmetic (rounds_meaning r o a)) (rounds_graph a) (rounds_list a) (held_box a before) v) positive ∙ h))
