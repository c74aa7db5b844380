use Rattle.std.proofs.Common.{refl, arith, rules, tests}
use Rattle.std.proofs.lemmas.Iterator.{YieldsList-from_range}
use Rattle.std.proofs.lemmas.Iterator.Search.{find_from_yields_List}
use Rattle.materials.specs.Files.{parts}
use Rattle.materials.proofs.Found.{named_at, found_or_not}
use Rattle.materials.proofs.look_up.find.Goals as goal

pub returns : goal.returns
returns c =
    let f = c.args.directory.now.file.now in
    let n = c.args.name.now in
    let t = find_from_yields_List (named_at (parts f) n) _ _ c.find.result c.find.ensures.ran (YieldsList-from_range 0 c.count.result c.count.result refl (omega arith)) (λ x b q k. search (rules, tests)) in
    found_or_not f n c.find.result c.count.result t c.count.ensures
