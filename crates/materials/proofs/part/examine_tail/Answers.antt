use Rattle.std.proofs.Common.{◌+◌, refl, ◌∙◌}
use Rattle.std.proofs.lemmas.List.{take_rest}
use Rattle.std.proofs.lemmas.Result.{err_from_is_err_and}
use Rattle.materials.proofs.Chains.{tail_letters, tail_format, tail_counts, tail_past, same_material}
use Rattle.materials.proofs.part.examine_tail.Goals as goal

pub returns-in_err-choices_of : goal.returns-in_err-choices_of
returns-in_err-choices_of c =
    let p = err_from_is_err_and c.from_residual.result c.from_residual.ensures.1 in
    rw (p.1, p.2) (tail_letters c.args.tail.now _ _ _ c.from-form.ensures c.from-rounding.ensures c.from-overflow.ensures _ c.in_err-choices_of.ensures)

pub returns-in_err-format : goal.returns-in_err-format
returns-in_err-format c =
    let p = err_from_is_err_and c.from_residual-in_err-format.result c.from_residual-in_err-format.ensures.1 in
    rw (p.1, p.2) (tail_format c.args.tail.now _ _ _ c.from-form.ensures c.from-rounding.ensures c.from-overflow.ensures c.in_ok-choices_of.ensures.0 _ c.in_err-format.ensures)

pub returns-in_err-check_counts : goal.returns-in_err-check_counts
returns-in_err-check_counts c =
    let p = err_from_is_err_and c.from_residual-in_err-check_counts.result c.from_residual-in_err-check_counts.ensures.1 in
    rw (p.1, p.2) (tail_counts c.args.tail.now _ _ _ c.from-form.ensures c.from-rounding.ensures c.from-overflow.ensures c.in_ok-choices_of.ensures.0 c.in_ok-format.ensures.0 _ c.in_err-check_counts.ensures)

pub returns-in_err-feedforward : goal.returns-in_err-feedforward
returns-in_err-feedforward c =
    let t = c.args.tail.now in
    let r = take_rest t 7 in
    let e = c.in_err-feedforward.ensures in
    let d = tail_past t _ _ _ c.from-form.ensures c.from-rounding.ensures c.from-overflow.ensures c.in_ok-choices_of.ensures.0 c.in_ok-format.ensures.0 _ (λ i. c.in_ok-format.ensures.1 i + c.in_ok-format.ensures.2 i) c.in_ok-check_counts.ensures in
    let p = err_from_is_err_and c.from_residual-in_err-feedforward.result c.from_residual-in_err-feedforward.ensures.1 in
    rw (p.1, p.2) (d ∙ rw r at e)

pub returns : goal.returns
returns c =
    let t = c.args.tail.now in
    let r = take_rest t 7 in
    let e = c.in_ok-feedforward.ensures in
    let d = tail_past t _ _ _ c.from-form.ensures c.from-rounding.ensures c.from-overflow.ensures c.in_ok-choices_of.ensures.0 c.in_ok-format.ensures.0 _ (λ i. c.in_ok-format.ensures.1 i + c.in_ok-format.ensures.2 i) c.in_ok-check_counts.ensures in
    let e' = rw r at e in
    (d ∙ e'.0, same_material _ _ refl c.from-form.ensures c.from-rounding.ensures c.from-overflow.ensures refl refl e'.1.0 e'.1.1)
