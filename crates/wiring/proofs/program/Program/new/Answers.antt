use Rattle.std.proofs.Common.{◌≡◌, List, ℤ, None, vec_items, subst}
use Rattle.arithmetic.specs.Formats.{width}
use Rattle.wiring.specs.Graphs.{graph_of}
use Rattle.wiring.specs.Programs.{list_fault}
use Rattle.wiring.proofs.Verdicts.{fault_none}
use Rattle.wiring.proofs.Soundness.{program_sound, no_program_fault}
use Rattle.wiring.proofs.program.Program.new.Goals as goal

pub invariant_of-result : goal.invariant_of-result
invariant_of-result c =
    let f = c.args.format.now in
    let g = graph_of c.args.filter.wiring in
    let cs = vec_items c.args.filter.coefficients in
    let listed : list_fault (width f) g.coefficients cs ≡ None = subst (λ (xs : List ℤ). list_fault (width f) g.coefficients xs ≡ None) c.deref.ensures.value (fault_none _ _ _ c.in_ok-check_list.ensures) in
    record { sound = program_sound f g cs (no_program_fault f g cs (fault_none _ _ _ c.in_ok-check.ensures) listed) }
