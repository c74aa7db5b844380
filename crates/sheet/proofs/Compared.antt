-- The sources' values beside the registers' entries.
use Rattle.std.proofs.Common.{◌≡◌, ℕ, ◌<◌, ◌≤◌, Bool, true, false, List, length, get_or, take, MatchBool, Some, Option, Bor, Iter, sym, ap, ◌∙◌, subst, arith}
use Rattle.std.proofs.lemmas.List.{length-map, length-take-le, get_or_default, get_or-take, get_or-map}
use Rattle.std.proofs.lemmas.Iterator.{zips}
use Rattle.std.proofs.lemmas.Slice.Zip.{zip_turn}
use Rattle.std.proofs.iter.Yields.{fronts}
use Rattle.std.specs.Iterator.{Yields}
use Rattle.std.specs.Iterator.Adapters.{zip_first, zip_second}
use Rattle.std.specs.Slice.Iter.{iter_rest}
use Rattle.std.specs.declared.iter.Zip.{Zip}
use Rattle.kinds.specs.declared.values.Bound.{Bound}
use Rattle.wiring.specs.declared.program.Program.{Program}
use Rattle.wiring.specs.Lists.{Each₂}
use Rattle.wiring.proofs.Soundness.{sound_source}
use Rattle.sheet.specs.Rooms.{Room}
use Rattle.sheet.specs.Searching.{none, program_graph, program_list, sources_in}
use Rattle.sheet.proofs.Places.{each_places}

-- this turn of a loop over the sources and the entries: its place, that its source is a node that is there, and what the source's place and the entry hold
pub source_turn : (p : Program) (room : Room (program_graph p)) (rs ws : List Bound) (nodes : length ws ≡ 64) (xs : List (Bor ℕ × Bor Bound)) (s t u : Zip (Iter ℕ) (Iter Bound)) (r : Option (Bor ℕ × Bor Bound))
    → iter_rest (zip_first s) ≡ (program_graph p).sources → iter_rest (zip_second s) ≡ rs → Yields (zips fronts fronts) s xs t → (q : Bor ℕ × Bor Bound) → r ≡ Some q → zips fronts fronts t r u
    → (length xs < length (program_graph p).sources) × (q.0.now < length ws)
    × ((d : Bound) → get_or ws q.0.now d ≡ get_or ws (get_or (program_graph p).sources (length xs) 0) none) × (q.1.now ≡ get_or rs (length xs) none)
source_turn p room rs ws nodes xs s t u r first second y q e steps =
    let turn = zip_turn (program_graph p).sources rs xs s t u r first second y q e steps in
    let same = turn.2 0 in
    let there = sound_source (program_graph p) (program_list p) p.sound (length xs) turn.0 in
    let small = room.nodes in
    let inside : q.0.now < length ws = omega arith in
    (turn.0, inside, λ d. get_or_default ws q.0.now d none inside ∙ ap (λ k. get_or ws k none) same, turn.3 none)

module _ (ss : List ℕ) (rs ws : List Bound) (long : length ss ≤ length rs) where
  -- R of a source's value and its register's entry, at the places of the two lists
  at_place : (R : Bound → Bound → Type 0) (i : ℕ) → i < length ss → R (get_or ws (get_or ss i 0) none) (get_or rs i none) → R (get_or (sources_in ss ws) i none) (get_or (take (length ss) rs) i none)
  at_place R i h p =
      subst (λ x. R x (get_or (take (length ss) rs) i none)) (sym (get_or-map (λ s. get_or ws s none) ss i 0 none h))
      (subst (λ y. R (get_or ws (get_or ss i 0) none) y) (sym (get_or-take (length ss) rs i none h)) p)

  -- some pair passes a test, or none does
  pub compared : (Yes No : ℕ → Type 0) (P Q : Bound → Bound → Type 0) (b : Bool) → MatchBool b ((i : ℕ) × (i < length ss) × Yes i) ((i : ℕ) → i < length ss → No i)
      → ((i : ℕ) → Yes i → P (get_or ws (get_or ss i 0) none) (get_or rs i none)) → ((i : ℕ) → No i → Q (get_or ws (get_or ss i 0) none) (get_or rs i none))
      → MatchBool b ((i : ℕ) × (i < length (take (length ss) rs)) × P (get_or (sources_in ss ws) i none) (get_or (take (length ss) rs) i none)) (Each₂ Q (sources_in ss ws) (take (length ss) rs))
  compared Yes No P Q true t some all =
      let l = length-take-le (length ss) rs long in
      let h = t.1 in
      (t.0, omega arith, at_place P t.0 h (some t.0 t.2))
  compared Yes No P Q false f some all =
      let l = length-take-le (length ss) rs long in
      let m = length-map ss (λ s. get_or ws s none) in
      each_places Q (sources_in ss ws) (take (length ss) rs) none none (m ∙ sym l) (λ i h. let k : i < length ss = omega arith in at_place Q i k (all i (f i k)))
