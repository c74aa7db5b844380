use Rattle.std.proofs.Common.{◌≡◌, None, arith}
use Rattle.std.proofs.lemmas.Bool.Decides.{nat_tests}
use Rattle.std.proofs.lemmas.Result.{err_from_is_err_and}
use Rattle.materials.specs.Files.{size_fault}
use Rattle.materials.proofs.Places.{listed_chunks, places_decide}
use Rattle.materials.proofs.directory.Directory.of.Goals as goal

pub returns-in_err-check_places : goal.returns-in_err-check_places
returns-in_err-check_places c =
    let f = c.args.file.now in
    let n = c.from_be_bytes-count.ensures in
    let s : size_fault f ≡ None = grind (arith, nat_tests) in
    let e = listed_chunks f c.from_be_bytes-count.result _ _ c.as_chunks.result.0.now n (omega arith) (omega arith) c.as_chunks.ensures.front in
    let p = err_from_is_err_and c.from_residual.result c.from_residual.ensures.1 in
    rw (p.1, p.2) (places_decide f _ c.as_chunks.result.0.now _ n s e c.in_err-check_places.ensures)

pub invariant_of-result : goal.invariant_of-result
invariant_of-result c =
    let f = c.args.file.now in
    let n = c.from_be_bytes-count.ensures in
    let s : size_fault f ≡ None = grind (arith, nat_tests) in
    let e = listed_chunks f c.from_be_bytes-count.result _ _ c.as_chunks.result.0.now n (omega arith) (omega arith) c.as_chunks.ensures.front in
    record { sound = places_decide f _ c.as_chunks.result.0.now None n s e c.in_ok-check_places.ensures; listed = e }
