use Rattle.std.proofs.Common.{◌≡◌, ◌+◌, ◌*◌, [], map, length, None, ap, ◌∙◌, subst, arith}
use Rattle.std.proofs.lemmas.List.{take_all}
use Rattle.std.proofs.ByRecursion.{All-get_or}
use Rattle.materials.specs.Layout.{Puts, pairs}
use Rattle.materials.specs.Lists.{called, bytes_of, record_fault}
use Rattle.materials.proofs.Turns.{all_sound}
use Rattle.materials.proofs.Writes.{puts_none, puts_more, pairs_next, length_pair_take, length_next}
use Rattle.materials.proofs.write.put_pairs.Goals as goal

pub loop-item-init : goal.loop-item-init
loop-item-init c = (puts_none c.args.destination.now c.args.at (omega arith), omega arith, omega arith)

pub invariant_of-length : goal.invariant_of-length
invariant_of-length c =
    let rs = c.args.list.now.records.now in
    record { good = ap record_fault c.item-item.is ∙ All-get_or (λ x. record_fault x ≡ None) rs c.loop-item.item-index c.item-item.result c.loop-item-test.true (all_sound record_fault called [] 1 rs c.args.list.now.good) }

pub put-end-requires : goal.put-end-requires
put-end-requires c =
    let n = length_pair_take bytes_of (2 + 6 * length c.args.list.now.records.now) c.args.list.now.records.now c.loop-item.item-index (omega arith) in
    let l : length c.to_be_bytes.result ≡ 4 = ap length c.to_be_bytes.ensures in
    omega (arith, c.loop-item.invariant.0.ends)

pub put-end-requires-in-loop-item : goal.put-end-requires-in-loop-item
put-end-requires-in-loop-item c =
    let n = length_pair_take bytes_of (2 + 6 * length c.args.list.now.records.now) c.args.list.now.records.now c.loop-item.item-index (omega arith) in
    let l : length c.to_be_bytes.result ≡ 4 = ap length c.to_be_bytes.ensures in
    let k : length c.to_be_bytes-in-loop-item.result ≡ 2 = ap length c.to_be_bytes-in-loop-item.ensures in
    omega (arith, c.loop-item.invariant.0.ends)

pub loop-item-preserved : goal.loop-item-preserved
loop-item-preserved c =
    let rs = c.args.list.now.records.now in
    let i = c.loop-item.item-index in
    let x = c.item-item.result in
    let n = length_next bytes_of rs i x c.loop-item-test.true c.item-item.is in
    let p = puts_more (puts_more c.loop-item.invariant.0 c.put-end.ensures) c.put-end-in-loop-item.ensures in
    (subst (λ bs. Puts c.args.destination.now c.args.at bs c.put-end-in-loop-item.new.destination c.put-end-in-loop-item.result) (pairs_next bytes_of rs i x c.loop-item-test.true c.item-item.is (2 + 6 * length c.args.list.now.records.now) c.loop-item.begin c.length-length.result _ _ c.loop-item.invariant.1 c.length-length.ensures.0 c.to_be_bytes.ensures c.to_be_bytes-in-loop-item.ensures) p, omega arith, omega arith)

pub returns : goal.returns
returns c = subst (λ rs. Puts c.args.destination.now c.args.at (pairs (2 + 6 * length c.args.list.now.records.now) (map bytes_of rs)) c.loop-item.destination c.loop-item.end) (take_all c.loop-item.item-index c.args.list.now.records.now c.loop-item-test.false) c.loop-item.invariant.0
