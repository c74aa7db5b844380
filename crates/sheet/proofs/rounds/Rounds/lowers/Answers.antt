use Rattle.std.proofs.Common.{◌<◌, ◌≤◌, Bool, MatchBool, true, false, rules, tests}
use Rattle.sheet.specs.Searching.{program_graph}
use Rattle.sheet.proofs.Places.{each_flip}
use Rattle.sheet.proofs.Compared.{compared}
use Rattle.sheet.proofs.rounds.Rounds.lowers.Goals as goal

flipped : (P Q R : Type 0) (b : Bool) → (Q → R) → MatchBool b P Q → MatchBool b P R
flipped P Q R true f p = p
flipped P Q R false f q = f q

pub returns : goal.returns
returns g c =
    let room = c.args.self.now.room in
    flipped _ _ _ c.some_source.result each_flip (compared (program_graph c.args.self.now.program).sources c.args.rows.now.registers c.args.rows.now.working (search rules)
    _ _ (λ v e. v.peak < e.peak) (λ v e. e.peak ≤ v.peak) c.some_source.result c.some_source.ensures (λ i k. search (rules, tests)) (λ i k. search (rules, tests)))
