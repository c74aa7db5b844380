use Rattle.std.proofs.Common.{◌≡◌, [], ◌∷◌, length, vec_items, ◌∙◌, subst, rules}
use Rattle.materials.specs.Layout.{meaning, Puts}
use Rattle.materials.proofs.Chains.{bounded, length_encoded}
use Rattle.materials.proofs.Writes.{puts_more, encoded_pieces, length_joined_coded}
use Rattle.materials.proofs.write.put_record.Goals as goal

pub overflow_cast-len : goal.overflow_cast-len
overflow_cast-len c =
    let b = bounded (meaning c.args.good.now.item.now) c.args.good.now.good in
    search rules

pub put-at-requires-2 : goal.put-at-requires-2
put-at-requires-2 c =
    let b = bounded (meaning c.args.good.now.item.now) c.args.good.now.good in
    let l = length_encoded (meaning c.args.good.now.item.now) in
    search rules

pub overflow_cast-fields : goal.overflow_cast-fields
overflow_cast-fields c =
    let b = bounded (meaning c.args.good.now.item.now) c.args.good.now.good in
    search rules

pub overflow_cast-fields-2 : goal.overflow_cast-fields-2
overflow_cast-fields-2 c =
    let b = bounded (meaning c.args.good.now.item.now) c.args.good.now.good in
    search rules

pub overflow_cast-fields-3 : goal.overflow_cast-fields-3
overflow_cast-fields-3 c =
    let b = bounded (meaning c.args.good.now.item.now) c.args.good.now.good in
    search rules

pub overflow_cast-nb : goal.overflow_cast-nb
overflow_cast-nb c =
    let b = bounded (meaning c.args.good.now.item.now) c.args.good.now.good in
    search rules

pub overflow_cast-na : goal.overflow_cast-na
overflow_cast-na c =
    let b = bounded (meaning c.args.good.now.item.now) c.args.good.now.good in
    search rules

pub put-at-requires-3 : goal.put-at-requires-3
put-at-requires-3 c =
    let b = bounded (meaning c.args.good.now.item.now) c.args.good.now.good in
    let l = length_encoded (meaning c.args.good.now.item.now) in
    search rules

pub put_words-at-requires : goal.put_words-at-requires
put_words-at-requires c =
    let b = bounded (meaning c.args.good.now.item.now) c.args.good.now.good in
    let l = length_encoded (meaning c.args.good.now.item.now) in
    search rules

pub put_words-requires : goal.put_words-requires
put_words-requires c =
    let b = bounded (meaning c.args.good.now.item.now) c.args.good.now.good in
    let l = length_encoded (meaning c.args.good.now.item.now) in
    let n = length_joined_coded c.as_slice-2.result.now in
    search rules

pub returns : goal.returns
returns c =
    let m = meaning c.args.good.now.item.now in
    let n : c.len.result ≡ length (vec_items c.args.good.now.item.now.name) = c.len.ensures ∙ c.args.good.now.item.now.name.ok.0 in
    let a : c.len-2.result ≡ length (vec_items c.args.good.now.item.now.feedforward) = c.len-2.ensures ∙ c.args.good.now.item.now.feedforward.ok.0 in
    let b : c.len-3.result ≡ length (vec_items c.args.good.now.item.now.feedback) = c.len-3.ensures ∙ c.args.good.now.item.now.feedback.ok.0 in
    let p = puts_more (puts_more (puts_more (puts_more c.put-at.ensures c.put-at-2.ensures) c.put-at-3.ensures) c.put_words-at.ensures) c.put_words.ensures in
    subst (λ bs. Puts c.args.destination.now c.args.at bs c.put_words.new.destination c.put_words.result) (encoded_pieces m _ _ _ _ _ n c.as_slice.ensures.value (λ i. m.form ∷ m.rounding ∷ m.overflow ∷ m.whole ∷ m.fraction ∷ a i ∷ b i ∷ []) c.as_slice-2.ensures.value c.as_slice-3.ensures.value) p
