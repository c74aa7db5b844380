use Rattle.std.proofs.Common.{◌≡◌, ℕ, ◌-◌, ◌<◌, ◌≤◌, List, [], length, get_or, take, ℤ, Err, vec_items, sym, ap, ◌∙◌, subst, w32}
use Rattle.std.proofs.lemmas.List.{length-take-le}
use Rattle.std.proofs.lemmas.Int.{to_z-of_z}
use Rattle.std.proofs.lemmas.Result.{err_from_is_err_and}
use Rattle.arithmetic.specs.Settings.{meaning, Lawful}
use Rattle.kinds.specs.Kinds.{arithmetic_of}
use Rattle.wiring.specs.declared.graph.Node.TheVariants.{Input}
use Rattle.wiring.specs.declared.program.Program.{Program}
use Rattle.wiring.specs.Checks.{node_fault}
use Rattle.wiring.specs.Graphs.{graph_of}
use Rattle.wiring.specs.Made.{program_rows_fault}
use Rattle.wiring.specs.Running.{Small, Named}
use Rattle.wiring.specs.Runs.{work, answered, or_fault, row_after}
use Rattle.wiring.proofs.Rows.{rows_long, short_stays, handed_answer, handed_row, taken_front}
use Rattle.wiring.proofs.Soundness.{sound_node, sound_count, sound_small}
use Rattle.wiring.proofs.Verdicts.{fault_none, fault_some}
use Rattle.wiring.proofs.Coverings.{run_covers}
use Rattle.wiring.proofs.program.Program.work.Goals as goal

-- what a program knows of its parts, at lists that equal them
small_list : (p : Program) (cs : List ℤ) → cs ≡ vec_items p.coefficients → Small cs
small_list p cs e = subst Small (sym e) (sound_small (graph_of p.wiring) (vec_items p.coefficients) p.sound)

named_nodes : (p : Program) (cs : List ℤ) (ns : List _) (n : ℕ) → cs ≡ vec_items p.coefficients → ns ≡ vec_items p.wiring.nodes → n ≡ length (vec_items p.wiring.sources) → Named n (length cs) ns
named_nodes p cs ns n e f q k h =
    let c : length cs ≡ p.wiring.coefficients = ap length e ∙ sound_count (graph_of p.wiring) (vec_items p.coefficients) p.sound in
    (λ i. node_fault (q i) (c i) k (get_or (f i) k Input)) ∙ sound_node (graph_of p.wiring) (vec_items p.coefficients) p.sound k (subst (λ l. k < length l) f h)

pub work_nodes-requires : goal.work_nodes-requires
work_nodes-requires g c =
    let p = c.args.self.now in
    let t = rows_long (graph_of p.wiring) (length c.args.registers.now) (length c.args.working.now) (fault_none _ _ _ c.in_ok-check_rows.ensures) in
    let n : c.len-count.result ≡ length (vec_items p.wiring.sources) = c.len-count.ensures ∙ p.wiring.sources.ok.0 in
    let room : length (vec_items p.wiring.nodes) ≤ length c.args.working.now = t.1 in
    let long : length (take (c.len-count.result - 0) c.args.registers.now) ≡ length (vec_items p.wiring.sources) = ap length (taken_front c.len-count.result _ c.args.registers.now n) ∙ length-take-le _ c.args.registers.now t.0 in
    record {
      small = small_list p _ c.deref-2.ensures.value;
      named = named_nodes p _ _ _ c.deref-2.ensures.value c.deref.ensures.value long;
      room = subst (λ l. length l ≤ length c.args.working.now) (sym c.deref.ensures.value) room;
    }

pub returns-in_err-check_rows : goal.returns-in_err-check_rows
returns-in_err-check_rows g c =
    let p = c.args.self.now in
    let o = arithmetic_of g.K.Kind.model g.R.Rounding.rule g.O.Overflow.rule c.args.values.now in
    let s = meaning g.R.Rounding.rule g.O.Overflow.rule c.args.values.now.setting in
    let lawful : Lawful s = record { rounding = g.met.R.Rounding.lawful c.args.values.now.setting.rounding; overflow = g.met.O.Overflow.lawful c.args.values.now.setting.overflow } in
    let w = work o (vec_items p.coefficients) (take (length (vec_items p.wiring.sources)) c.args.registers.now) c.args.sample [] (vec_items p.wiring.nodes) in
    let q = err_from_is_err_and c.from_residual.result c.from_residual.ensures.1 in
    let e = sym (fault_some _ _ _ c.in_err-check_rows.ensures) in
    record {
      answer = q.1 ∙ ap (λ x. Err x) q.2 ∙ ap (λ f. answered (or_fault f w)) e;
      row = short_stays o.zero _ c.args.working.now (graph_of p.wiring) _ _ _ e ∙ ap (λ f. row_after o.zero (length (vec_items p.wiring.nodes)) c.args.working.now (or_fault f w)) e;
      covers = run_covers s lawful (g.K.Kind.model c.args.values.now.kind s) (g.met.K.Kind.lawful c.args.values.now.kind s lawful);
    }

pub returns : goal.returns
returns g c =
    let p = c.args.self.now in
    let o = arithmetic_of g.K.Kind.model g.R.Rounding.rule g.O.Overflow.rule c.args.values.now in
    let s = meaning g.R.Rounding.rule g.O.Overflow.rule c.args.values.now.setting in
    let lawful : Lawful s = record { rounding = g.met.R.Rounding.lawful c.args.values.now.setting.rounding; overflow = g.met.O.Overflow.lawful c.args.values.now.setting.overflow } in
    let n : c.len-count.result ≡ length (vec_items p.wiring.sources) = c.len-count.ensures ∙ p.wiring.sources.ok.0 in
    let row = taken_front c.len-count.result _ c.args.registers.now n in
    let same = to_z-of_z w32 c.args.sample c.ranges.sample in
    record {
      answer = handed_answer o _ _ _ _ _ _ _ _ (program_rows_fault p (length c.args.registers.now) (length c.args.working.now)) c.deref.ensures.value c.deref-2.ensures.value row same (sym (fault_none _ _ _ c.in_ok-check_rows.ensures)) _ c.work_nodes.ensures.answer;
      row = handed_row o _ _ _ _ _ _ _ _ (program_rows_fault p (length c.args.registers.now) (length c.args.working.now)) c.deref.ensures.value c.deref-2.ensures.value row same (sym (fault_none _ _ _ c.in_ok-check_rows.ensures)) o.zero c.args.working.now _ c.work_nodes.ensures.row;
      covers = run_covers s lawful (g.K.Kind.model c.args.values.now.kind s) (g.met.K.Kind.lawful c.args.values.now.kind s lawful);
    }
