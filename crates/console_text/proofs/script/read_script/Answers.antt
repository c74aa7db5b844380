use Rattle.std.proofs.Common.{[], map, take, vec_items, sym, ap, ◌∙◌, subst}
use Rattle.console_text.specs.Calls.{Asks, Reads, no_lines}
use Rattle.console_text.proofs.Reading.{bytes, reads_more, unread_more}
use Rattle.console_text.proofs.script.read_script.Goals as goal
use Rattle.console_text.proofs.script.read_script.Goals.{in-Some+in_ok-push-in-Some+in_ok-push-in-Some-2, in-None+in_ok-push-in-None}

pub loop-line-init : goal.loop-line-init
loop-line-init g c = subst (λ ms. Reads c.args.rows.now.registers c.args.rows.now.nodes [] ms (vec_items c.new-calls.result)) (sym c.new-marks.ensures.items) (subst (Reads c.args.rows.now.registers c.args.rows.now.nodes [] []) (sym c.new-calls.ensures.items) no_lines)

pub loop-line-preserved : goal.loop-line-preserved
loop-line-preserved g c =
    let r = c.args.rows.now.registers in
    let n = c.args.rows.now.nodes in
    let ls = c.args.lines.now in
    let i = c.loop-line.line-index in
    elim c.match-branch-2.branch [
      | in-Some+in_ok-push-in-Some+in_ok-push-in-Some-2 w ↦
          reads_more r n ls i _ w.in-Some.call (vec_items c.loop-line.marks) (vec_items c.match-branch-2.marks) (vec_items c.loop-line.calls) (vec_items c.match-branch-2.calls) c.loop-line-test.true c.loop-line.invariant
          (subst (Asks r n _) w.in-Some.is c.in_ok-call.ensures)
          (ap vec_items w.marks-is ∙ w.in_ok-push-in-Some-2.ensures.items) (ap vec_items w.calls-is ∙ w.in_ok-push-in-Some.ensures.items)
      | in-None+in_ok-push-in-None w ↦
          unread_more r n ls i _ (vec_items c.loop-line.marks) (vec_items c.match-branch-2.marks) (vec_items c.match-branch-2.calls) c.loop-line-test.true (subst (λ v. Reads r n (map bytes (take i ls)) (vec_items c.loop-line.marks) (vec_items v)) (sym w.calls-is) c.loop-line.invariant)
          (subst (Asks r n _) w.in-None.is c.in_ok-call.ensures)
          (ap vec_items w.marks-is ∙ w.in_ok-push-in-None.ensures.items)
    ]
