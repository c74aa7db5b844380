use Rattle.std.proofs.Common.{◌/◌, map, length, ap, ◌∙◌}
use Rattle.std.proofs.lemmas.List.{take_all}
use Rattle.materials.specs.Layout.{word_at}
use Rattle.materials.proofs.Words.{words_chunked}
use Rattle.materials.proofs.coefficients.decode.Goals as goal

pub returns : goal.returns
returns c =
    c.loop-bytes.invariant
    ∙ (ap (map word_at) (take_all c.loop-bytes.bytes-index c.as_chunks.result.0.now c.loop-bytes-test.false ∙ c.as_chunks.ensures.front)
    ∙ words_chunked (length c.args.bytes.now / 4) c.args.bytes.now)
