use Rattle.std.proofs.Common.{◌≡◌, ◌+◌, ◌≤◌, length, get_or, take, drop, Some, None, sym, ap, ◌∙◌, arith, rules}
use Rattle.std.proofs.lemmas.List.{take_rest}
use Rattle.std.proofs.lemmas.Bool.Decides.{nat_tests}
use Rattle.materials.specs.Refusals.{first}
use Rattle.materials.specs.Records.{name_of, tail_of, name_rows, shape, tail_fault, material_of}
use Rattle.materials.proofs.Chains.{part_stops, part_past}
use Rattle.materials.proofs.part.examine.Goals as goal
use Rattle.std.proofs.lemmas.Result.{MatchResult-weaker}
use Rattle.materials.specs.declared.refusal.RecordFault.TheVariants.{NameByte}

pub returns-then-not-all_printable : goal.returns-then-not-all_printable
returns-then-not-all_printable c =
    let p = c.args.part.now in
    let some : 1 ≤ length p = search rules in
    let long : get_or p 0 0 + 8 ≤ length p = search rules in
    let n : c.split_at.result.0.now ≡ name_of p = c.split_at.ensures.front ∙ ap (take (get_or p 0 0)) (take_rest p 1) in
    let k = c.if-not-all_printable.ensures in
    let r : first (name_rows (shape p) (name_of p)) ≡ Some NameByte = grind (arith, nat_tests) in
    part_stops p NameByte r

pub returns : goal.returns
returns c =
    let p = c.args.part.now in
    let some : 1 ≤ length p = search rules in
    let long : get_or p 0 0 + 8 ≤ length p = search rules in
    let n : c.split_at.result.0.now ≡ name_of p = c.split_at.ensures.front ∙ ap (take (get_or p 0 0)) (take_rest p 1) in
    let t : c.split_at.result.1.now ≡ tail_of p = c.split_at.ensures.back ∙ ap (drop (get_or p 0 0)) (take_rest p 1) in
    let k = c.if-not-all_printable.ensures in
    let r : first (name_rows (shape p) (name_of p)) ≡ None = grind (arith, nat_tests) in
    let e = part_past p r ∙ ap tail_fault (sym t) in
    MatchResult-weaker c.examine_tail.result c.examine_tail.ensures
    (λ f h. (e ∙ h.0, h.1 ∙ (λ i. material_of (n i) (t i))))
    (λ x h. e ∙ h)
