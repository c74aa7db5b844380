use Rattle.std.proofs.Common.{Err}
use mathlib.Core.Path.{transport}
use Rattle.materials.specs.Layout.{meaning}
use Rattle.forms.specs.Built.{BuildAnswer}
use Rattle.schedule_text.proofs.Good.{build_passes}
use Rattle.schedule_text.proofs.material.filter.Goals as goal

pub unreachable-requires : goal.unreachable-requires
unreachable-requires c =
    let h = transport (λ i. BuildAnswer c.args.form (c.as_slice.ensures.value i) (c.as_slice-2.ensures.value i) (Err c.in-Err.fault)) c.in-Err.ensures.answer in
    build_passes (meaning c.args.item.now) c.requires c.args.form c.in-Err.fault h c.in-Numerator.is
