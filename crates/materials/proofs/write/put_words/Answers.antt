use Rattle.std.proofs.Common.{◌≡◌, length, get_or, pos, ap, ◌∙◌, subst, arith, w32, SFits, rules}
use Rattle.std.specs.List.{flat_map}
use Rattle.std.proofs.lemmas.List.{take_all}
use Rattle.std.proofs.lemmas.Int.{to_z-of_z}
use Rattle.materials.specs.Layout.{coded, Puts}
use Rattle.materials.proofs.Writes.{puts_none, puts_more, coded_more, length_coded_take}
use Rattle.materials.proofs.write.put_words.Goals as goal

pub loop-z-init : goal.loop-z-init
loop-z-init c = puts_none c.args.destination.now c.args.at (omega arith)

pub put-end-requires : goal.put-end-requires
put-end-requires c =
    let n = length_coded_take c.args.words.now c.loop-z.z-index (omega arith) in
    let l : length c.to_be_bytes.result ≡ 4 = ap length c.to_be_bytes.ensures in
    omega arith

pub loop-z-preserved : goal.loop-z-preserved
loop-z-preserved c =
    let zs = c.args.words.now in
    let i = c.loop-z.z-index in
    let n = length_coded_take zs i (omega arith) in
    let f : SFits w32 (get_or zs i (pos 0)) = search rules in
    let e = c.to_be_bytes.ensures ∙ ap coded (to_z-of_z w32 (get_or zs i (pos 0)) f) in
    subst (λ bs. Puts c.args.destination.now c.args.at bs c.put-end.new.destination c.put-end.result) (coded_more zs i c.to_be_bytes.result (omega arith) e) (puts_more c.loop-z.invariant c.put-end.ensures)

pub returns : goal.returns
returns c = subst (λ zs. Puts c.args.destination.now c.args.at (flat_map coded zs) c.loop-z.destination c.loop-z.end) (take_all c.loop-z.z-index c.args.words.now c.loop-z-test.false) c.loop-z.invariant
