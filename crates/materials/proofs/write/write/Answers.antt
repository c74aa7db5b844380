use Rattle.std.proofs.Common.{◌≡◌, ◌+◌, ◌*◌, ◌≤◌, ◌++◌, map, length, Some, None, sym, refl, ap, ◌∙◌, subst, arith}
use Rattle.std.specs.List.{flat_map}
use Rattle.std.proofs.lemmas.List.{append_assoc, length-map}
use Rattle.std.proofs.lemmas.Result.{err_from_is_err_and}
use Rattle.materials.specs.declared.refusal.Refusal.TheVariants.{DestinationTooShort}
use Rattle.materials.specs.Layout.{meaning, encode, Puts, pairs, two}
use Rattle.materials.specs.Lists.{bytes_of, list_fault, list_length}
use Rattle.materials.proofs.Writes.{puts_more, length_pair_bytes}
use Rattle.materials.proofs.Whole.{encode_is, refused_list, too_short, accepted, at_front, front, says}
use Rattle.materials.proofs.Numbered.{write_tells}
use Rattle.materials.proofs.write.write.Goals as goal

pub returns-in_err-list : goal.returns-in_err-list
returns-in_err-list c =
    let room = length c.args.destination.now in
    let p = err_from_is_err_and c.from_residual.result c.from_residual.ensures.1 in
    let e = refused_list c.args.records.now room _ c.in_err-list.ensures in
    rw (p.1, p.2) (record { written = (e, refl); numbers = write_tells (map meaning c.args.records.now) room (Some _) e; reads_back = tt })

pub returns-then-list-destination : goal.returns-then-list-destination
returns-then-list-destination c =
    let room = length c.args.destination.now in
    let l = c.in_ok-list.list in
    let is = c.in_ok-list.ensures in
    let good : list_fault c.args.records.now ≡ None = subst (λ rs. list_fault rs ≡ None) is l.good in
    let few = ap length is in
    let sized = l.sized ∙ ap list_length is in
    let e = too_short c.args.records.now (omega (arith, l.few)) good room (omega arith) in
    record { written = (e, refl); numbers = write_tells (map meaning c.args.records.now) room (Some DestinationTooShort) e; reads_back = tt }

pub put_pairs-at-requires : goal.put_pairs-at-requires
put_pairs-at-requires c =
    let l = c.in_ok-list.list in
    let b : length c.to_be_bytes.result ≡ 2 = ap length c.to_be_bytes.ensures in
    omega (arith, l.sized)

pub put_records-requires : goal.put_records-requires
put_records-requires c =
    let l = c.in_ok-list.list in
    let rs = l.records.now in
    let b : length c.to_be_bytes.result ≡ 2 = ap length c.to_be_bytes.ensures in
    let n = length_pair_bytes (2 + 6 * length rs) (map bytes_of rs) in
    let m = length-map rs bytes_of in
    omega (arith, l.sized)

pub returns : goal.returns
returns c =
    let l = c.in_ok-list.list in
    let is = c.in_ok-list.ensures in
    let rs = c.args.records.now in
    let good : list_fault rs ≡ None = subst (λ xs. list_fault xs ≡ None) is l.good in
    let few : length rs ≤ 512 = subst (λ xs. length xs ≤ 512) is l.few in
    let sized : l.size ≡ list_length rs = l.sized ∙ ap list_length is in
    let p = puts_more (puts_more c.put-at.ensures c.put_pairs-at.ensures) c.put_records.ensures in
    let e' : c.to_be_bytes.result ++ pairs (2 + 6 * length l.records.now) (map bytes_of l.records.now) ++ flat_map bytes_of l.records.now ≡ two (length rs) ++ pairs (2 + 6 * length rs) (map bytes_of rs) ++ flat_map bytes_of rs = (λ i. c.to_be_bytes.ensures i ++ pairs (2 + 6 * length l.records.now) (map bytes_of l.records.now) ++ flat_map bytes_of l.records.now) ∙ ap (λ xs. two (length xs) ++ pairs (2 + 6 * length xs) (map bytes_of xs) ++ flat_map bytes_of xs) is in
    let e = e' ∙ (append_assoc (two (length rs)) (pairs (2 + 6 * length rs) (map bytes_of rs)) (flat_map bytes_of rs) ∙ sym (encode_is rs)) in
    let q = at_front c.args.destination.now (encode (map meaning rs)) _ _ (subst (λ bs. Puts c.args.destination.now 0 bs c.put_records.new.destination c.put_records.result) e p) in
    let room = length c.args.destination.now in
    let a = accepted rs few good room (omega arith) in
    record {
      written = (a, q.0, q.1);
      numbers = write_tells (map meaning rs) room None a;
      reads_back = says rs few good _ (front (encode (map meaning rs)) _ _ _ q.0 q.1);
    }
