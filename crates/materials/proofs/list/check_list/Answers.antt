use Rattle.std.proofs.Common.{◌≡◌, ◌+◌, ◌*◌, leb, length, Some, None, sym, ap, ◌∙◌, arith, rules, tests}
use Rattle.std.proofs.lemmas.Result.{err_from_is_err_and, MatchResult-weaker}
use Rattle.std.proofs.lemmas.List.{take_all}
use Rattle.std.proofs.lemmas.Bool.{cond-true, le-leb}
use Rattle.std.specs.List.{flat_map}
use Rattle.materials.specs.declared.refusal.Refusal.TheVariants.{RecordCount, InRecord}
use Rattle.materials.specs.Refusals.{or_else}
use Rattle.materials.specs.Lists.{record_fault, called, bytes_of, list_fault}
use Rattle.materials.proofs.Rows.{refused_good, taken_good}
use Rattle.materials.proofs.Turns.{own_here, stops_at, goes_on, ends}
use Rattle.materials.proofs.Writes.{length_next}
use Rattle.materials.proofs.list.check_list.Goals as goal

pub returns-in_err-good : goal.returns-in_err-good
returns-in_err-good c =
    let rs = c.args.records.now in
    let x = c.index-records-i.result in
    let o = own_here record_fault called rs x c.loop-i.i-counter x c.index-records-i.is in
    let p = err_from_is_err_and c.from_residual.result c.from_residual.ensures.1 in
    let d = c.in_err-good.field-0.0 in
    let t = MatchResult-weaker c.of.result {Q' = λ e. d ≡ InRecord (c.loop-i.i-counter + 1) e} c.in_err-good.ensures.cases (λ x q. q) (λ e q. search (rules, tests)) in
    let k = refused_good _ _ (c.loop-i.i-counter + 1) d c.of.result c.of.ensures t in
    rw (p.1, p.2, k.2) (ap (λ o. or_else o (list_fault rs)) (cond-true (leb (length rs) 512) None (Some RecordCount) (le-leb (length rs) 512 (omega arith)))
    ∙ (sym c.loop-i.invariant.0 ∙ stops_at record_fault called rs x c.loop-i.i-counter c.loop-i-test.true k.0 (sym o ∙ k.1)))

pub loop-i-preserved : goal.loop-i-preserved
loop-i-preserved c =
    let rs = c.args.records.now in
    let x = c.index-records-i.result in
    let o = own_here record_fault called rs x c.loop-i.i-counter x c.index-records-i.is in
    let n = length_next bytes_of rs c.loop-i.i-counter x c.loop-i-test.true c.index-records-i.is in
    let k = taken_good _ _ c.of.result c.in_ok-good.good c.of.ensures (search (rules, tests)) in
    let l = ap (λ r. length (bytes_of r)) k.1 in
    (sym (goes_on record_fault called rs x c.loop-i.i-counter c.loop-i-test.true (sym o ∙ k.0)) ∙ c.loop-i.invariant.0, omega arith, omega arith)

pub invariant_of-result : goal.invariant_of-result
invariant_of-result c =
    let rs = c.args.records.now in
    let t = take_all c.loop-i.i-counter rs c.loop-i-test.false in
    record {
      good = sym c.loop-i.invariant.0 ∙ ends record_fault called rs c.loop-i.i-counter c.loop-i-test.false;
      few = omega arith;
      sized = c.loop-i.invariant.1 ∙ ap (λ l. 2 + 6 * length rs + length (flat_map bytes_of l)) t;
    }
