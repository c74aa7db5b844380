use Rattle.std.proofs.Common.{◌≡◌, [], None, ap, ◌∙◌, subst, arith}
use Rattle.std.specs.List.{flat_map}
use Rattle.std.proofs.lemmas.List.{take_all}
use Rattle.std.proofs.ByRecursion.{All-get_or}
use Rattle.materials.specs.Layout.{Puts}
use Rattle.materials.specs.Lists.{called, bytes_of, record_fault}
use Rattle.materials.proofs.Turns.{all_sound}
use Rattle.materials.proofs.Writes.{puts_none, puts_more, joined_next, room_next}
use Rattle.materials.proofs.write.put_records.Goals as goal

pub loop-item-init : goal.loop-item-init
loop-item-init c = puts_none c.args.destination.now c.args.at (omega arith)

pub invariant_of-put_record : goal.invariant_of-put_record
invariant_of-put_record c =
    let rs = c.args.list.now.records.now in
    record { good = ap record_fault c.item-item.is ∙ All-get_or (λ x. record_fault x ≡ None) rs c.loop-item.item-index c.item-item.result c.loop-item-test.true (all_sound record_fault called [] 1 rs c.args.list.now.good) }

pub put_record-end-requires : goal.put_record-end-requires
put_record-end-requires c =
    let r = room_next bytes_of c.args.list.now.records.now c.loop-item.item-index c.item-item.result c.loop-item-test.true c.item-item.is in
    omega arith

pub loop-item-preserved : goal.loop-item-preserved
loop-item-preserved c =
    subst (λ bs. Puts c.args.destination.now c.args.at bs c.put_record-end.new.destination c.put_record-end.result) (joined_next bytes_of c.args.list.now.records.now c.loop-item.item-index c.item-item.result c.loop-item-test.true c.item-item.is) (puts_more c.loop-item.invariant c.put_record-end.ensures)

pub returns : goal.returns
returns c = subst (λ rs. Puts c.args.destination.now c.args.at (flat_map bytes_of rs) c.loop-item.destination c.loop-item.end) (take_all c.loop-item.item-index c.args.list.now.records.now c.loop-item-test.false) c.loop-item.invariant
