use Rattle.std.proofs.Common.{◌≡◌, map, eqb, IfOk, vec_items, subst, rules}
use Rattle.std.proofs.lemmas.Iterator.Consumers.{map_from_collect}
use Rattle.std.proofs.lemmas.Iterator.Splits.{YieldsList-from_slice_split}
use Rattle.console_text.proofs.Cutting.{split_pieces}
use Rattle.console_text.proofs.pieces.pieces.Goals as goal

pub returns : goal.returns
returns c =
    let at = c.args.at in
    let text = c.args.text.now in
    subst (λ ps. IfOk c.collect.result (λ v. map (λ x. x.now) (vec_items v) ≡ ps)) (split_pieces at text)
    (map_from_collect _ c.collect.ensures.ran (YieldsList-from_slice_split _ (λ b. eqb b at) text c.split.ensures.rest c.split.ensures.done c.split.ensures.closure (λ x b q k. search rules)))
