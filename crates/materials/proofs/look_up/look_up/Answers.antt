use Rattle.std.proofs.Common.{◌≡◌, cond, is_some, Some, None, ap, rules}
use Rattle.std.proofs.lemmas.Result.{err_from_is_err_and}
use Rattle.materials.specs.declared.refusal.Refusal.TheVariants.{NoSuchName}
use Rattle.materials.specs.Refusals.{or_else}
use Rattle.materials.specs.Files.{stands_for}
use Rattle.materials.proofs.Found.{not_found, found}
use Rattle.materials.proofs.Numbered.{look_up_tells}
use Rattle.materials.proofs.look_up.look_up.Goals as goal

pub returns-in_err-directory : goal.returns-in_err-directory
returns-in_err-directory c =
    let f = c.args.file.now in
    let p = err_from_is_err_and c.from_residual.result c.from_residual.ensures.1 in
    let e = ap (λ o. or_else o (cond (is_some (stands_for f c.args.name.now)) None (Some NoSuchName))) c.in_err-directory.ensures.answer in
    rw (p.1, p.2) (record { found = e; numbers = look_up_tells f c.args.name.now (Some _) e })

pub returns-in_err-i : goal.returns-in_err-i
returns-in_err-i c =
    let f = c.args.file.now in
    let k = c.in_ok-directory.ensures.answer in
    let p = err_from_is_err_and c.from_residual-in_err-i.result c.from_residual-in_err-i.ensures.1 in
    let e = not_found f c.in_ok-directory.directory.file.now c.args.name.now k.0 k.1 c.find.result c.find.ensures c.in_err-i.ensures.ok_part in
    let n : p.0 ≡ NoSuchName = search rules in
    rw (p.1, n) (record { found = e; numbers = look_up_tells f c.args.name.now (Some NoSuchName) e })

pub returns : goal.returns
returns c =
    let f = c.args.file.now in
    let k = c.in_ok-directory.ensures.answer in
    let e = found f c.in_ok-directory.directory.file.now c.args.name.now k.0 k.1 c.find.result c.find.ensures c.in_ok-i.i c.place.result.offset c.place.result.length c.part.result.now c.in_ok-i.ensures.ok_part c.place.ensures c.part.ensures in
    record { found = e; numbers = look_up_tells f c.args.name.now None e.accepted }
