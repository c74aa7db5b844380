use Rattle.std.proofs.Common.{pos, vec_items, ap, ◌∙◌, subst, rules}
use Rattle.wiring.specs.Graphs.{graph_of}
use Rattle.materials.specs.Layout.{meaning}
use Rattle.materials.specs.Records.{ChoicesFound, FormatFound}
use Rattle.schedule_text.specs.Outcomes.{range_in}
use Rattle.schedule_text.proofs.Told.{Tells, tells_some, told_call}
use Rattle.schedule_text.proofs.material.outcome.Goals as goal
use Rattle.schedule_text.proofs.material.outcome.Goals.{After-told}

-- what the sheet's answer tells is so
tells : (c : After-told) → Tells (meaning c.args.item.now) c.told.result
tells c =
    let m = meaning c.args.item.now in
    let letters = subst (ChoicesFound m.form m.rounding m.overflow) c.unwrap-choices.ensures c.choices.ensures in
    let bits = subst (FormatFound m.whole m.fraction) c.unwrap-format.ensures c.format.ensures in
    let made = c.in_ok-filter.ensures in
    let filter = c.in_ok-filter.filter in
    told_call m c.requires c.unwrap-choices.result c.unwrap-format.result c.setting-setting.result c.quarter.result (graph_of filter.wiring) (vec_items filter.coefficients) c.figures-answer.ensures.0 c.figures-answer.result _
    letters.1 letters.2 letters.3 bits.1 bits.2 c.setting-setting.ensures (c.quarter.ensures ∙ ap (λ w. pos (range_in w)) c.width.ensures) (search rules) made.0 made.1 c.figures-answer.ensures.1 c.told.ensures

pub unwrap-requires : goal.unwrap-requires
unwrap-requires c = tells_some (meaning c.args.item.now) c.told.result (tells c)

pub returns : goal.returns
returns c = subst (Tells (meaning c.args.item.now)) c.unwrap.ensures (tells c.before)
