use Rattle.std.proofs.Common.{map, sym, ap, ◌∙◌}
use Rattle.materials.specs.Layout.{meaning}
use Rattle.materials.proofs.Again.{rewritten}
use Rattle.materials.proofs.round_trip.rewrite.Goals as goal

pub returns : goal.returns
returns c =
    let k = c.in_ok-records.ensures.answer in
    rewritten c.args.file.now c.args.destination.now c.write.new.destination _ c.write.result k.0 (λ i. (c.type_inv.file i).fits) (ap (map meaning) c.as_slice.ensures.value ∙ sym k.1) c.write.ensures.written
