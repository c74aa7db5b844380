use Rattle.std.proofs.Common.{◌≡◌, List, length, ℤ, nat_abs, Some, None, vec_items, sym, ap, ◌∙◌, subst, w32, to_z, of_z}
use Rattle.std.proofs.lemmas.Result.{err_from_is_err_and}
use Rattle.std.proofs.lemmas.Int.{to_z-of_z}
use Rattle.arithmetic.specs.Formats.{width}
use Rattle.arithmetic.specs.Settings.{meaning}
use Rattle.wiring.specs.Graphs.{Graph, graph_of}
use Rattle.wiring.proofs.Verdicts.{fault_none, fault_some}
use Rattle.sheet.specs.Searching.{program_graph, program_list}
use Rattle.sheet.specs.Calls.{rows, call_fault, Verdict}
use Rattle.sheet.proofs.Decisions.{check_is, refuses, decides}
use Rattle.sheet.proofs.sheet.sheet.Goals as goal

pub returns-in_err-check_call : goal.returns-in_err-check_call
returns-in_err-check_call g c =
    let st = c.args.setting.now in
    let q = c.in_ok-setting.setting in
    let known = c.in_ok-setting.ensures in
    let made = c.in_ok-program.ensures in
    let w = graph_of c.args.filter.wiring in
    let cs = vec_items c.args.filter.coefficients in
    let before = rows c.args.peaks.now c.args.ceilings.now c.args.band.now in
    let same = to_z-of_z w32 c.args.range c.ranges.range in
    let count : length c.sources.result.now ≡ length w.sources = ap length c.sources.ensures ∙ ap (λ (h : Graph). length h.sources) made.1 in
    let f = c.in_err-check_call.field-0.0 in
    let fault : call_fault (width q.format) (length w.sources) (length c.args.peaks.now) (length c.args.ceilings.now) (length c.args.band.now) c.args.range ≡ Some f
    = (λ i. call_fault (width q.format) (sym count i) (length c.args.peaks.now) (length c.args.ceilings.now) (length c.args.band.now) (sym same i)) ∙ fault_some _ tt f c.in_err-check_call.ensures in
    let e = err_from_is_err_and c.from_residual-in_err-check_call.result c.from_residual-in_err-check_call.ensures.1 in
    rw (e.1, e.2) (refuses g.R.Rounding.rule g.O.Overflow.rule st w cs c.args.range before (width q.format) (length w.sources) (length c.args.peaks.now) (length c.args.ceilings.now) (length c.args.band.now) f fault
    (check_is st.whole st.fraction w cs before c.args.range q.format known.1 known.2 (Some f) known.0 made.0 fault))

pub returns : goal.returns
returns g c =
    let st = c.args.setting.now in
    let q = c.in_ok-setting.setting in
    let known = c.in_ok-setting.ensures in
    let p = c.in_ok-program.program in
    let made = c.in_ok-program.ensures in
    let w = graph_of c.args.filter.wiring in
    let cs = vec_items c.args.filter.coefficients in
    let before = rows c.args.peaks.now c.args.ceilings.now c.args.band.now in
    let after = rows c.make.new.peaks c.make.new.ceilings c.make.new.band in
    let same = to_z-of_z w32 c.args.range c.ranges.range in
    let count : length c.sources.result.now ≡ length w.sources = ap length c.sources.ensures ∙ ap (λ (h : Graph). length h.sources) made.1 in
    let fine : call_fault (width q.format) (length w.sources) (length c.args.peaks.now) (length c.args.ceilings.now) (length c.args.band.now) c.args.range ≡ None
    = (λ i. call_fault (width q.format) (sym count i) (length c.args.peaks.now) (length c.args.ceilings.now) (length c.args.band.now) (sym same i)) ∙ fault_none _ _ tt c.in_ok-check_call.ensures in
    let s = meaning g.R.Rounding.rule g.O.Overflow.rule q in
    let v : Verdict s (program_graph p) (program_list p) (nat_abs (to_z w32 (of_z w32 c.args.range))) before after c.make.result = c.make.ensures in
    decides g.R.Rounding.rule g.O.Overflow.rule st w cs c.args.range before after q known
    (check_is st.whole st.fraction w cs before c.args.range q.format known.1 known.2 None known.0 made.0 fine)
    c.make.result
    (subst (λ (u : ℤ). Verdict s w cs (nat_abs u) before after c.make.result) same
    (subst (λ (ds : List ℤ). Verdict s w ds (nat_abs (to_z w32 (of_z w32 c.args.range))) before after c.make.result) made.2
    (subst (λ (h : Graph). Verdict s h (program_list p) (nat_abs (to_z w32 (of_z w32 c.args.range))) before after c.make.result) made.1 v)))
