use Rattle.std.proofs.Common.{◌≡◌, length, ◌/◌, ◌*◌, drop, true, ◌&&◌, ap, sym, ◌∙◌, rules, tests}
use Rattle.std.specs.Str.{bytes_eq}
use Rattle.std.specs.List.{list_all, zip}
use Rattle.std.specs.Simd.{first_chunks}
use Rattle.std.proofs.lemmas.Iterator.{YieldsList-from_slice, YieldsList-from_zip}
use Rattle.std.proofs.lemmas.Iterator.Search.{all_from_yields_List}
use Rattle.materials.proofs.Places.{same_test}
use Rattle.materials.proofs.Parted.{chunks_same, same_chunks}
use Rattle.materials.proofs.same.same_eights.Goals as goal

pub returns-then-all : goal.returns-then-all
returns-then-all c =
    let p = c.args.p.now in
    let q = c.args.q.now in
    let k = length p / 8 in
    let n : length q / 8 ≡ k = ap (λ m. m / 8) (sym c.requires) in
    let y = YieldsList-from_zip (YieldsList-from_slice c.as_chunks.result.0.now cc) (YieldsList-from_slice c.as_chunks-2.result.0.now cc) in
    let r = all_from_yields_List {s = c.zip.result} (λ x. bytes_eq x.0 x.1) c.all.new.self _ c.all.result c.all.ensures.ran y (λ x b s h. search (rules, tests)) in
    let f : c.as_chunks-2.result.0.now ≡ first_chunks 8 k q = c.as_chunks-2.ensures.front ∙ ap (λ m. first_chunks 8 m q) n in
    let d : c.as_chunks-2.result.1.now ≡ drop (k * 8) q = c.as_chunks-2.ensures.back ∙ ap (λ m. drop (m * 8) q) n in
    let all : true ≡ chunks_same k p q = sym c.if-all.true ∙ r ∙ (λ i. list_all (λ x. bytes_eq x.0 x.1) (zip (c.as_chunks.ensures.front i) (f i))) in
    same_test c.as_chunks.result.1.now c.as_chunks-2.result.1.now c.eq.result c.eq.ensures
    ∙ (λ i. bytes_eq (c.as_chunks.ensures.back i) (d i))
    ∙ ap (λ t. t && bytes_eq (drop (k * 8) p) (drop (k * 8) q)) all
    ∙ same_chunks k p q
