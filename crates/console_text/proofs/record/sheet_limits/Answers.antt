use Rattle.std.proofs.Common.{nat_abs, vec_items, sym, refl, ap, ◌∙◌, subst, w32, rules}
use Rattle.std.proofs.lemmas.Int.{to_z-of_z}
use Rattle.wiring.specs.Graphs.{graph_of}
use Rattle.console_text.specs.Watching.{SheetLimits}
use Rattle.console_text.proofs.Limiting.{limits_granted, limits_refused}
use Rattle.console_text.proofs.record.sheet_limits.Goals as goal

pub returns-in_err-figures : goal.returns-in_err-figures
returns-in_err-figures c =
    let filter = c.args.filter in
    subst (SheetLimits c.args.setting.now (graph_of filter.wiring) (vec_items filter.coefficients) c.args.range) (sym c.from_residual.ensures)
    (limits_refused c.args.setting.now (graph_of filter.wiring) (vec_items filter.coefficients) _ c.args.range (to_z-of_z w32 c.args.range (search rules))
    c.figures.ensures.0 c.figures.result c.figures.ensures.1 c.in_err-figures.ensures.variant)

pub returns : goal.returns
returns c =
    let filter = c.args.filter in
    limits_granted c.args.setting.now (graph_of filter.wiring) (vec_items filter.coefficients) _ c.args.range (to_z-of_z w32 c.args.range (search rules))
    c.figures.ensures.0 c.figures.result c.figures.ensures.1
    c.in_ok-figures.figures _ _ c.in_ok-figures.ensures.value (c.unsigned_abs.ensures.value ∙ ap nat_abs (to_z-of_z w32 c.args.range (search rules))) refl
