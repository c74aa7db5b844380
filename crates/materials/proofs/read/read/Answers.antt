use Rattle.std.proofs.Common.{◌≡◌, ℕ, ◌+◌, ◌<◌, ◌≤◌, List, [], ◌∷◌, ◌++◌, map, length, get_or, take, None, vec_items, sym, ap, ◌∙◌, subst, arith}
use Rattle.std.proofs.lemmas.List.{map_push, map_more, take_all}
use Rattle.std.proofs.ByRecursion.{All-get_or}
use Rattle.materials.specs.declared.record.Record.{Record}
use Rattle.materials.specs.Layout.{meaning, encode}
use Rattle.materials.specs.Records.{part_fault, name_of, material}
use Rattle.materials.specs.Files.{parts, file_fault, records_fault}
use Rattle.materials.specs.Laws.{Good}
use Rattle.materials.proofs.Rows.{or_else_none, some_none}
use Rattle.materials.proofs.Turns.{length_parts, all_sound}
use Rattle.materials.proofs.Again.{file_again, good_forth}
use Rattle.materials.proofs.read.read.Goals as goal

pub unreachable-requires : goal.unreachable-requires
unreachable-requires c =
    let f = c.in_ok-directory.directory.file.now in
    let ps = parts f in
    let k = c.in_ok-directory.ensures.answer in
    let h : c.loop-i.i < length ps = omega (arith, length_parts f) in
    let s = or_else_none (file_fault c.args.file.now) (records_fault [] 1 (parts c.args.file.now)) k.1 in
    let t = all_sound part_fault name_of [] 1 ps (subst (λ g. records_fault [] 1 (parts g) ≡ None) (sym k.0) s.1) in
    let a = All-get_or (λ p. part_fault p ≡ None) ps c.loop-i.i [] h t in
    some_none _ (sym (ap part_fault (sym c.part.ensures) ∙ c.in_default.ensures) ∙ a)

-- one record more
more : (out now : List Record) (x : Record) (ps : List (List ℕ)) (i : ℕ) (p : List ℕ) → i < length ps → now ≡ out ++ x ∷ [] → map meaning out ≡ map material (take i ps) → meaning x ≡ material p → p ≡ get_or ps i [] → map meaning now ≡ map material (take (i + 1) ps)
more out now x ps i p h e inv m g =
    ap (map meaning) e
    ∙ (map_push meaning out x
    ∙ ((λ j. inv j ++ (m ∙ ap material g) j ∷ []) ∙ sym (map_more material ps i [] h)))

pub loop-i-preserved : goal.loop-i-preserved
loop-i-preserved c =
    let f = c.in_ok-directory.directory.file.now in
    let h : c.loop-i.i < length (parts f) = omega (arith, length_parts f) in
    more (vec_items c.loop-i.out) _ _ (parts f) c.loop-i.i _ h c.in_ok-push.ensures.items c.loop-i.invariant (c.in_ok-make.ensures ∙ c.in-Ok.ensures.1) c.part.ensures

pub returns : goal.returns
returns c =
    let f = c.args.file.now in
    let d = c.in_ok-directory.directory.file.now in
    let k = c.in_ok-directory.ensures.answer in
    let l : length (parts d) ≤ c.loop-i.i = omega (arith, length_parts d) in
    let e : map meaning (vec_items c.loop-i.out) ≡ map material (parts f) = c.loop-i.invariant ∙ (ap (map material) (take_all c.loop-i.i (parts d) l) ∙ ap (λ g. map material (parts g)) k.0) in
    record { answer = (k.1, sym e); numbers = c.in_ok-directory.ensures.numbers; exactly = (subst Good (sym e) (good_forth f k.1), ap encode e ∙ file_again f k.1 (λ i. (c.type_inv.file i).fits)) }
