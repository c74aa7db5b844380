use Rattle.std.proofs.Common.{[], get_or, length, refl, ◌∙◌, ◌≤◌, arith, rules, tests}
use Rattle.std.specs.Str.{bytes_eq}
use Rattle.std.proofs.lemmas.Iterator.{YieldsList-from_range}
use Rattle.std.proofs.lemmas.Iterator.Search.{any_from_yields_List}
use Rattle.materials.specs.Records.{name_of, part_fault}
use Rattle.materials.specs.Files.{parts}
use Rattle.materials.proofs.Turns.{length_parts, named_below}
use Rattle.materials.proofs.check.name_used.Goals as goal

pub returns : goal.returns
returns c =
    let ps = parts c.args.directory.now.file.now in
    let n = c.args.name.now in
    let h : c.args.i ≤ length ps = omega (arith, length_parts c.args.directory.now.file.now) in
    any_from_yields_List (λ j. bytes_eq (name_of (get_or ps j [])) n) _ _ c.any.result c.any.ensures.ran (YieldsList-from_range 0 c.args.i c.args.i refl (omega arith)) (λ x b q k. search (rules, tests))
    ∙ named_below part_fault name_of ps [] c.args.i n h
