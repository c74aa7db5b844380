use Rattle.std.proofs.Common.{◌≡◌, true, length, vec_items, sym, ap, ◌∙◌}
use Rattle.std.proofs.lemmas.Result.{err_from_is_err_and}
use Rattle.materials.specs.Layout.{meaning}
use Rattle.materials.specs.Refusals.{first}
use Rattle.materials.specs.Records.{name_rows, unwritten, field_rows, count_rows}
use Rattle.materials.proofs.Rows.{stops}
use Rattle.materials.proofs.Chains.{at_letters, at_format, at_counts}
use Rattle.materials.proofs.list.check_record.Goals as goal

pub returns-in_err-check_name : goal.returns-in_err-check_name
returns-in_err-check_name c =
    let m = meaning c.args.item.now in
    let p = err_from_is_err_and c.from_residual.result c.from_residual.ensures.1 in
    let e = ap (λ n. first (name_rows (unwritten n) n)) (sym c.as_slice.ensures.value) ∙ c.in_err-check_name.ensures in
    rw (p.1, p.2) (stops (name_rows (unwritten m.name) m.name) (field_rows true m) _ e)

pub returns-in_err-choices_of : goal.returns-in_err-choices_of
returns-in_err-choices_of c =
    let m = meaning c.args.item.now in
    let p = err_from_is_err_and c.from_residual-in_err-choices_of.result c.from_residual-in_err-choices_of.ensures.1 in
    let n = ap (λ n. first (name_rows (unwritten n) n)) (sym c.as_slice.ensures.value) ∙ c.in_ok-check_name.ensures in
    rw (p.1, p.2) (at_letters m n _ c.in_err-choices_of.ensures)

pub returns-in_err-format : goal.returns-in_err-format
returns-in_err-format c =
    let m = meaning c.args.item.now in
    let p = err_from_is_err_and c.from_residual-in_err-format.result c.from_residual-in_err-format.ensures.1 in
    let n = ap (λ n. first (name_rows (unwritten n) n)) (sym c.as_slice.ensures.value) ∙ c.in_ok-check_name.ensures in
    rw (p.1, p.2) (at_format m n c.in_ok-choices_of.ensures.0 _ c.in_err-format.ensures)

pub returns-in_err-check_counts : goal.returns-in_err-check_counts
returns-in_err-check_counts c =
    let m = meaning c.args.item.now in
    let p = err_from_is_err_and c.from_residual-in_err-check_counts.result c.from_residual-in_err-check_counts.ensures.1 in
    let n = ap (λ n. first (name_rows (unwritten n) n)) (sym c.as_slice.ensures.value) ∙ c.in_ok-check_name.ensures in
    let a : c.len.result ≡ length (vec_items c.args.item.now.feedforward) = c.len.ensures ∙ c.args.item.now.feedforward.ok.0 in
    let b : c.len-2.result ≡ length (vec_items c.args.item.now.feedback) = c.len-2.ensures ∙ c.args.item.now.feedback.ok.0 in
    let k = (λ i. first (count_rows (sym a i) (sym b i))) ∙ c.in_err-check_counts.ensures in
    rw (p.1, p.2) (at_counts m n c.in_ok-choices_of.ensures.0 c.in_ok-format.ensures.0 _ k)
