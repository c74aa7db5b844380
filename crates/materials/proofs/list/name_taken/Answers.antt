use Rattle.std.proofs.Common.{sym, ◌∙◌, rules, tests}
use Rattle.std.specs.Str.{bytes_eq}
use Rattle.std.proofs.lemmas.Iterator.{YieldsList-from_slice}
use Rattle.std.proofs.lemmas.Iterator.Search.{any_from_yields_List}
use Rattle.materials.specs.Lists.{called}
use Rattle.materials.proofs.Turns.{any_map}
use Rattle.materials.proofs.list.name_taken.Goals as goal

pub returns : goal.returns
returns c =
    let n = c.args.name.now in
    any_from_yields_List (λ r. bytes_eq (called r) n) _ _ c.any.result c.any.ensures.ran (YieldsList-from_slice c.args.records.now cc) (λ x b q k. search (rules, tests))
    ∙ sym (any_map (λ m. bytes_eq m n) called c.args.records.now)
