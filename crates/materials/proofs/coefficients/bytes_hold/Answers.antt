use Rattle.std.proofs.Common.{◌/◌, length, ap, ◌∙◌, rules, tests}
use Rattle.std.specs.List.{list_all}
use Rattle.std.proofs.lemmas.Iterator.{YieldsList-from_slice}
use Rattle.std.proofs.lemmas.Iterator.Search.{all_from_yields_List}
use Rattle.arithmetic.specs.Formats.{width}
use Rattle.arithmetic.specs.Words.{inside}
use Rattle.materials.specs.Layout.{word_at}
use Rattle.materials.proofs.Words.{chunks_hold}
use Rattle.materials.proofs.coefficients.bytes_hold.Goals as goal

pub returns : goal.returns
returns c =
    let w = width c.args.format in
    let bs = c.args.bytes.now in
    let r = all_from_yields_List (λ x. inside w (word_at x)) _ _ c.all.result c.all.ensures.ran (YieldsList-from_slice c.as_chunks.result.0.now cc) (λ x b q k. search (rules, tests)) in
    r ∙ (ap (list_all (λ x. inside w (word_at x))) c.as_chunks.ensures.front ∙ chunks_hold w (length bs / 4) bs)
