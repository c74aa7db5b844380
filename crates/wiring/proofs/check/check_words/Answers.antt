use Rattle.std.proofs.Common.{get_or, pos, sym, ap, ◌∙◌, arith, w32, SFits, rules}
use Rattle.std.proofs.lemmas.Int.{to_z-of_z}
use Rattle.arithmetic.specs.Formats.{width}
use Rattle.wiring.specs.declared.faults.ProgramFault.TheVariants.{Coefficient}
use Rattle.wiring.specs.Checks.{unless}
use Rattle.wiring.specs.Programs.{word_fault}
use Rattle.wiring.proofs.Verdicts.{none_fault, some_fault}
use Rattle.wiring.proofs.Scans.{scan_on, scan_found, scan_end}
use Rattle.wiring.proofs.check.check_words.Goals as goal

pub returns-then-not-holds : goal.returns-then-not-holds
returns-then-not-holds c =
    let f : SFits w32 (get_or c.args.coefficients.now c.loop-i.i (pos 0)) = search rules in
    some_fault _ tt _ (c.loop-i.invariant ∙ scan_found (word_fault (width c.args.format.now)) c.args.coefficients.now c.loop-i.i (pos 0) (Coefficient c.loop-i.i) (omega arith) (ap (λ b. unless b (Coefficient c.loop-i.i)) (sym (simp to_z-of_z at c.if-not-holds.ensures))))

pub loop-i-preserved : goal.loop-i-preserved
loop-i-preserved c =
    let f : SFits w32 (get_or c.args.coefficients.now c.loop-i.i (pos 0)) = search rules in
    c.loop-i.invariant ∙ scan_on (word_fault (width c.args.format.now)) c.args.coefficients.now c.loop-i.i (pos 0) (omega arith) (ap (λ b. unless b (Coefficient c.loop-i.i)) (sym (simp to_z-of_z at c.if-not-holds.ensures)))

pub returns : goal.returns
returns c = none_fault _ tt (c.loop-i.invariant ∙ scan_end (word_fault (width c.args.format.now)) c.args.coefficients.now _ _ (omega arith))
