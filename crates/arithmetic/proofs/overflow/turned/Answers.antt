use Rattle.std.proofs.Common.{◌≡◌, ◌-◌, sym, ap, ◌∙◌, subst, arith, w32, w64, SFits, to_z, of_z}
use Rattle.std.proofs.lemmas.Int.{to_z-of_z}
use Rattle.arithmetic.specs.Words.{Inside}
use Rattle.arithmetic.specs.Overflow.{wrapped}
use Rattle.arithmetic.proofs.Fits.{word_fits_32, word_fits_64}
use Rattle.arithmetic.specs.Turns.{wrapped_word, shifted}
use Rattle.arithmetic.proofs.overflow.turned.Goals as goal

pub overflow_cast-result-3 : goal.overflow_cast-result-3
overflow_cast-result-3 c =
    let w = c.args.width.bits in
    let raw = c.args.raw in
    let k : c.bits-spare.result ≡ w = c.bits-spare.ensures in
    let i : Inside w (wrapped w raw) = wrapped_word w raw (omega arith) in
    let f32 : SFits w32 (wrapped w raw) = word_fits_32 w (wrapped w raw) (omega arith) i in
    let f64 : SFits w64 (wrapped w raw) = word_fits_64 w (wrapped w raw) (omega arith) i in
    let e = shifted w (64 - c.bits-spare.result) raw (omega arith) (omega arith) (omega arith) c.ranges.raw in
    subst (λ x. SFits w32 (to_z w64 (of_z w64 x))) (sym e) (simp to_z-of_z f32)

pub returns : goal.returns
returns c =
    let w = c.args.width.bits in
    let raw = c.args.raw in
    let k : c.bits-spare.result ≡ w = c.bits-spare.ensures in
    let i : Inside w (wrapped w raw) = wrapped_word w raw (omega arith) in
    let f32 : SFits w32 (wrapped w raw) = word_fits_32 w (wrapped w raw) (omega arith) i in
    let f64 : SFits w64 (wrapped w raw) = word_fits_64 w (wrapped w raw) (omega arith) i in
    let e = shifted w (64 - c.bits-spare.result) raw (omega arith) (omega arith) (omega arith) c.ranges.raw in
    ap (λ x. to_z w32 (of_z w32 (to_z w64 (of_z w64 x)))) e ∙ simp to_z-of_z
