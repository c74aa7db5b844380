use Rattle.std.proofs.Common.{◌≡◌, true, List, ℤ, vec_items, sym, subst}
use Rattle.wiring.specs.Graphs.{graph_of}
use Rattle.wiring.specs.Programs.{sound}
use Rattle.wiring.proofs.Verdicts.{fault_none}
use Rattle.wiring.proofs.Soundness.{relisted}
use Rattle.wiring.proofs.program.Program.put_coefficients.Goals as goal

pub invariant_of-self : goal.invariant_of-self
invariant_of-self c =
    let p = c.args.self.now in
    let g = graph_of p.wiring in
    let kept : sound g c.args.coefficients.now ≡ true = relisted c.args.format.now g (vec_items p.coefficients) c.args.coefficients.now p.sound (fault_none _ _ _ c.in_ok-check_list.ensures) in
    record { sound = subst (λ (cs : List ℤ). sound g cs ≡ true) (sym c.copy_from_slice.ensures.items) kept }
