use Rattle.std.proofs.Common.{◌≡◌, ℕ, ◌<◌, ◌≤◌, List, ◌++◌, map, length, get_or, drop, Ok, vec_items, sym, ap, ◌∙◌, subst, arith}
use Rattle.std.proofs.lemmas.List.{length-set, take_all}
use Rattle.wiring.specs.declared.program.Program.{Program}
use Rattle.wiring.specs.Graphs.{graph_of}
use Rattle.wiring.specs.Made.{unless_fault}
use Rattle.wiring.specs.Runs.{or_fault, registers_after}
use Rattle.wiring.proofs.Rows.{rows_long, taken_more}
use Rattle.wiring.proofs.Verdicts.{fault_none}
use Rattle.wiring.proofs.Soundness.{sound_source}
use Rattle.wiring.proofs.program.Program.take_registers.Goals as goal

placed : (p : Program) (items : List ℕ) (i n : ℕ) → items ≡ vec_items p.wiring.sources → i < length items → length (vec_items p.wiring.nodes) ≤ n → get_or items i 0 < n
placed p items i n e h far =
    let t = sound_source (graph_of p.wiring) (vec_items p.coefficients) p.sound i (subst (λ l. i < length l) e h) in
    let q : get_or items i 0 ≡ get_or (vec_items p.wiring.sources) i 0 = ap (λ l. get_or l i 0) e in
    omega arith

pub fetch-requires : goal.fetch-requires
fetch-requires g c =
    let p = c.args.self.now in
    let t = rows_long (graph_of p.wiring) (length c.args.registers.now) (length c.args.working.now) (fault_none _ _ _ c.in_ok-check_rows.ensures) in
    placed p c.deref-source-items.result.now c.loop-i.i (length c.args.working.now) c.deref-source-items.ensures.value c.loop-i-test.true t.1

pub loop-i-preserved : goal.loop-i-preserved
loop-i-preserved g c =
    let p = c.args.self.now in
    let t = rows_long (graph_of p.wiring) (length c.args.registers.now) (length c.args.working.now) (fault_none _ _ _ c.in_ok-check_rows.ensures) in
    let h : c.loop-i.i < length (vec_items p.wiring.sources) = subst (λ l. c.loop-i.i < length l) c.deref-source-items.ensures.value c.loop-i-test.true in
    let k : length (vec_items p.wiring.sources) ≤ length c.args.registers.now = t.0 in (
      (λ d. taken_more d c.fetch.result (vec_items p.wiring.sources) c.args.working.now c.args.registers.now c.loop-i.registers
          c.loop-i.i _ h (omega arith) (ap (λ w. get_or w c.loop-i.i 0) c.deref-source-items.ensures.value)
          (placed p c.deref-source-items.result.now c.loop-i.i (length c.args.working.now) c.deref-source-items.ensures.value c.loop-i-test.true t.1)
          (c.fetch.ensures c.fetch.result) (c.loop-i.invariant.0 d)),
      simp length-set (omega arith),
    )

pub returns : goal.returns
returns g c =
    let p = c.args.self.now in
    let e = sym (fault_none _ _ _ c.in_ok-check_rows.ensures) in
    let ss = vec_items p.wiring.sources in
    let l : length c.deref-source-items.result.now ≡ length ss = ap length c.deref-source-items.ensures.value in
    let all : length ss ≤ c.loop-i.i = omega arith in
    let same : c.loop-i.i ≡ length ss = omega arith in
    record {
      answer = ap (λ f. or_fault f (Ok tt)) e;
      registers = λ d.
          c.loop-i.invariant.0 d
          ∙ ap (λ l. map (λ s. get_or c.args.working.now s d) l ++ drop c.loop-i.i c.args.registers.now) (take_all c.loop-i.i ss all)
          ∙ ap (λ k. map (λ s. get_or c.args.working.now s d) ss ++ drop k c.args.registers.now) same
          ∙ ap (λ f. unless_fault f (registers_after d (graph_of p.wiring) c.args.registers.now c.args.working.now) c.args.registers.now) e;
    }
