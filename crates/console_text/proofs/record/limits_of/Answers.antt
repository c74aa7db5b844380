use Rattle.std.proofs.Common.{◌+◌, pos, vec_items, ap, ◌∙◌, w32, rules}
use Rattle.std.proofs.lemmas.Int.{to_z-of_z}
use Rattle.wiring.specs.Graphs.{graph_of}
use Rattle.materials.specs.Layout.{meaning}
use Rattle.console_text.specs.Sessions.{wiring_in, coefficients_in, range_in}
use Rattle.console_text.proofs.Limiting.{limits_same}
use Rattle.console_text.proofs.record.limits_of.Goals as goal

pub returns : goal.returns
returns c =
    let m = meaning c.args.item.now in
    let filter = c.in_ok-filter.filter in
    let built = c.in_ok-filter.ensures in
    let bits = c.in_ok-format.ensures in
    limits_same c.args.setting.now (graph_of filter.wiring) (wiring_in m c.args.form) (vec_items filter.coefficients) (coefficients_in m) _ (pos (range_in (m.whole + m.fraction))) c.sheet_limits.result
    built.0 built.1 (to_z-of_z w32 c.quarter-range.result (search rules) ∙ (c.quarter-range.ensures ∙ ap (λ w. pos (range_in w)) c.width.ensures ∙ (λ i. pos (range_in (bits.1 i + bits.2 i))))) c.sheet_limits.ensures
