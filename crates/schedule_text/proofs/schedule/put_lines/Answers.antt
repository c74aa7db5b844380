use Rattle.std.proofs.Common.{◌≡◌, ◌++◌, vec_items, ap, ◌∙◌}
use Rattle.schedule_text.specs.Lines.{line}
use Rattle.schedule_text.proofs.Lines.{lines_none, lines_more}
use Rattle.schedule_text.proofs.schedule.put_lines.Goals as goal

pub loop-item-init : goal.loop-item-init
loop-item-init c = lines_none (vec_items c.args.text.now)

pub loop-item-preserved : goal.loop-item-preserved
loop-item-preserved c =
    let x = c.item-item.result in
    let n = vec_items x.name in
    let t : vec_items c.put_line.new.text ≡ vec_items c.loop-item.text ++ line n c.in_ok-outcome.outcome
    = c.in_ok-put_line.ensures ∙ ap (λ b. vec_items c.loop-item.text ++ line b c.in_ok-outcome.outcome) c.as_slice.ensures.value in
    lines_more c.args.records.now c.loop-item.item-index x (vec_items c.args.text.now) (vec_items c.loop-item.text) (vec_items c.put_line.new.text) c.in_ok-outcome.outcome
    c.loop-item-test.true c.item-item.is c.loop-item.invariant c.in_ok-outcome.ensures t
