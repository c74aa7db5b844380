use Rattle.std.proofs.Common.{◌≡◌, ◌<◌, [], length, sym, ◌∙◌, ◌+◌, arith, rules, tests}
use Rattle.std.proofs.lemmas.Result.{err_from_is_err_and, MatchResult-weaker}
use Rattle.materials.specs.declared.refusal.Refusal.TheVariants.{InRecord}
use Rattle.materials.proofs.Rows.{with_number, without_fault}
use Rattle.materials.specs.Records.{name_of, part_fault}
use Rattle.materials.specs.Files.{parts}
use Rattle.materials.proofs.Turns.{length_parts, stops_at, goes_on, ends}
use Rattle.materials.proofs.check.check_records.Goals as goal

pub returns-in_err-map_err : goal.returns-in_err-map_err
returns-in_err-map_err c =
    let f = c.args.directory.now.file.now in
    let i = c.loop-i.i-counter in
    let h : i < length (parts f) = omega (arith, length_parts f) in
    let p = err_from_is_err_and c.from_residual.result c.from_residual.ensures.1 in
    let d = c.in_err-map_err.field-0.0 in
    let t = MatchResult-weaker c.check_part.result {Q' = λ e. d ≡ InRecord (i + 1) e} c.in_err-map_err.ensures.cases (λ x q. q) (λ e q. search (rules, tests)) in
    let k = with_number _ (i + 1) d c.check_part.result c.check_part.ensures t in
    rw (p.1, p.2, k.2) (sym c.loop-i.invariant ∙ stops_at part_fault name_of (parts f) [] i h k.0 k.1)

pub loop-i-preserved : goal.loop-i-preserved
loop-i-preserved c =
    let f = c.args.directory.now.file.now in
    let i = c.loop-i.i-counter in
    let h : i < length (parts f) = omega (arith, length_parts f) in
    let k = without_fault _ _ c.check_part.result c.check_part.ensures c.in_ok-map_err.ensures.cases in
    sym (goes_on part_fault name_of (parts f) [] i h k) ∙ c.loop-i.invariant

pub returns : goal.returns
returns c =
    let f = c.args.directory.now.file.now in
    sym c.loop-i.invariant ∙ ends part_fault name_of (parts f) c.loop-i.i-counter (omega (arith, length_parts f))
