use Rattle.std.proofs.Common.{pos, ◌+ℤ◌, ◌*ℤ◌, ap, ◌∙◌, arith, w32, w64, SFits, rules}
use Rattle.std.specs.Int.{int_min, int_max}
use Rattle.std.proofs.lemmas.Int.{to_z-of_z}
use Rattle.arithmetic.specs.Rounding.{remainder}
use Rattle.arithmetic.specs.Settings.{FixedArithmetic, meaning, fraction}
use Rattle.exact.specs.Enclosures.{down_by, up_by}
use Rattle.kinds.specs.Enclosures.{kept}
use Rattle.kinds.proofs.Numbers.{quotient_is, remainder_is, remainder_near}
use Rattle.kinds.proofs.enclosures.EnclosedKindKind.scale.Goals as goal

pub low_end-low-requires : goal.low_end-low-requires
low_end-low-requires g c =
    let s = c.args.setting.now in
    let rule = g.R.Rounding.rule s.rounding in
    let sound = s.format.sound in
    let f : SFits w64 c.product.result = search rules in
    let fr : SFits w64 c.divide-q.result.1 = search rules in
    simp to_z-of_z (remainder_near rule s.format.fraction c.product.result c.divide-q.result f c.divide-q.ensures (g.met.R.Rounding.lawful s.rounding) (omega arith) (omega arith))

pub high_end-high-requires : goal.high_end-high-requires
high_end-high-requires g c =
    let s = c.args.setting.now in
    let rule = g.R.Rounding.rule s.rounding in
    let sound = s.format.sound in
    let f : SFits w64 c.product.result = search rules in
    let fr : SFits w64 c.divide-q.result.1 = search rules in
    simp to_z-of_z (remainder_near rule s.format.fraction c.product.result c.divide-q.result f c.divide-q.ensures (g.met.R.Rounding.lawful s.rounding) (omega arith) (omega arith))

pub returns : goal.returns
returns g c =
    let s : FixedArithmetic = meaning g.R.Rounding.rule g.O.Overflow.rule c.args.setting.now in
    let l = fraction s in
    let v = c.args.v in
    let w1 : SFits w32 v.word = search rules in
    let v1 : SFits w64 v.low = search rules in
    let v2 : SFits w64 v.high = search rules in
    let f : SFits w64 c.product.result = search rules in
    let fq : SFits w64 c.divide-q.result.0 = search rules in
    let fr : SFits w64 c.divide-q.result.1 = search rules in
    let fa : SFits w64 c.products-products.result.low = search rules in
    let fb : SFits w64 c.products-products.result.high = search rules in
    let fl : SFits w64 c.low_end-low.result = search rules in
    let fh : SFits w64 c.high_end-high.result = search rules in
    let p = simp to_z-of_z at c.product.ensures.value in
    let q = quotient_is s.rounding l c.product.result c.divide-q.result f c.divide-q.ensures ∙ ap (s.rounding.quotient l) p in
    let r = remainder_is s.rounding l c.product.result c.divide-q.result f c.divide-q.ensures ∙ ap (λ n. remainder l n (s.rounding.quotient l n)) p in
    let a = c.products-products.ensures.low in
    let b = c.products-products.ensures.high in
    let low = simp to_z-of_z at c.low_end-low.ensures.value ∙ (λ i. down_by (int_min (a i) (b i) +ℤ pos 4096 *ℤ r i) l) in
    let high = simp to_z-of_z at c.high_end-high.ensures.value ∙ (λ i. up_by (int_max (a i) (b i) +ℤ pos 4096 *ℤ r i) l) in
    simp to_z-of_z at c.keep.ensures ∙ (λ i. kept s (q i) (low i) (high i))
