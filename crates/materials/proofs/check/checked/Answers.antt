use Rattle.std.proofs.Common.{◌≡◌, ℕ, ◌<◌, List, [], Some, None, Option, sym, ap, subst, ◌∙◌}
use Rattle.std.proofs.lemmas.Result.{err_from_is_err_and}
use Rattle.materials.specs.declared.refusal.Refusal.{Refusal}
use Rattle.materials.specs.Refusals.{or_else}
use Rattle.materials.specs.Records.{part_fault, name_of}
use Rattle.materials.specs.Files.{parts, file_fault, records_fault, refusal}
use Rattle.materials.specs.Laws.{OneRecordEach}
use Rattle.materials.proofs.Rows.{or_else_none}
use Rattle.materials.proofs.Turns.{length_parts, same_number}
use Rattle.materials.proofs.Again.{encoding_of, not_encoding}
use Rattle.materials.proofs.Numbered.{file_tells}
use Rattle.materials.proofs.check.checked.Goals as goal

pub returns-in_err-directory : goal.returns-in_err-directory
returns-in_err-directory c =
    let f = c.args.file.now in
    let p = err_from_is_err_and c.from_residual.result c.from_residual.ensures.1 in
    let e = ap (λ o. or_else o (records_fault [] 1 (parts f))) c.in_err-directory.ensures in
    rw (p.1, p.2) (record { answer = e; numbers = file_tells f (Some _) e; exactly = not_encoding f _ e; names = tt })

-- a file whose pairs are in place is refused as its records are
decided : (f g : List ℕ) (o : Option Refusal) → g ≡ f → file_fault g ≡ None → records_fault [] 1 (parts g) ≡ o → refusal f ≡ o
decided f g o is s h = ap refusal (sym is) ∙ (ap (λ q. or_else q (records_fault [] 1 (parts g))) s ∙ h)

pub returns-in_err-check_records : goal.returns-in_err-check_records
returns-in_err-check_records c =
    let f = c.args.file.now in
    let d = c.in_ok-directory.directory in
    let p = err_from_is_err_and c.from_residual-in_err-check_records.result c.from_residual-in_err-check_records.ensures.1 in
    let e = decided f d.file.now _ c.in_ok-directory.ensures d.sound c.in_err-check_records.ensures in
    rw (p.1, p.2) (record { answer = e; numbers = file_tells f (Some _) e; exactly = not_encoding f _ e; names = tt })

one_each : (f : List ℕ) → refusal f ≡ None → OneRecordEach f
one_each f h i j k l e =
    let n = length_parts f in
    let r = or_else_none (file_fault f) (records_fault [] 1 (parts f)) h in
    same_number part_fault name_of (parts f) [] r.1 i j (subst (λ m. i < m) (sym n) k) (subst (λ m. j < m) (sym n) l) e

pub returns : goal.returns
returns c =
    let f = c.args.file.now in
    let d = c.in_ok-directory.directory in
    let e = decided f d.file.now None c.in_ok-directory.ensures d.sound c.in_ok-check_records.ensures in
    record { answer = (c.in_ok-directory.ensures, e); numbers = file_tells f None e; exactly = encoding_of f (λ i. (c.type_inv.file i).fits) e; names = one_each f e }
