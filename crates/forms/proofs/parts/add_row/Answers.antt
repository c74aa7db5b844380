use Rattle.std.proofs.Common.{[], ◌∷◌, ◌++◌, vec_items, ap, ◌∙◌, arith, of_calls}
use Rattle.forms.proofs.Growing.{listed_more}
use Rattle.forms.proofs.parts.add_row.Goals as goal

pub loop-i-preserved : goal.loop-i-preserved
loop-i-preserved g c f h =
    listed_more f _ (vec_items c.loop-i.row) c.loop-i.i _ (c.loop-i.invariant f h)
    (c.in_ok-push.ensures.items ∙ ap (λ x. vec_items c.loop-i.row ++ x ∷ []) (h c.loop-i.i _ (omega arith) (search of_calls)))
