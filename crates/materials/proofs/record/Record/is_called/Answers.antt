use Rattle.std.proofs.Common.{ap, ◌∙◌}
use Rattle.std.specs.Str.{bytes_eq}
use Rattle.materials.proofs.Places.{same_test}
use Rattle.materials.proofs.record.Record.is_called.Goals as goal

pub returns : goal.returns
returns c = same_test c.as_slice.result.now c.args.name.now c.eq.result c.eq.ensures ∙ ap (λ n. bytes_eq n c.args.name.now) c.as_slice.ensures.value
