use Rattle.std.proofs.Common.{rules, tests}
use Rattle.sheet.specs.Sheets.{Below}
use Rattle.sheet.specs.Searching.{program_graph, Exceeds}
use Rattle.sheet.proofs.Compared.{compared}
use Rattle.sheet.proofs.rounds.Rounds.raises.Goals as goal

pub returns : goal.returns
returns g c =
    let room = c.args.self.now.room in
    compared (program_graph c.args.self.now.program).sources c.args.rows.now.registers c.args.rows.now.working (search rules) _ _ Exceeds Below c.some_source.result c.some_source.ensures
    (λ i k. search (rules, tests)) (λ i k. search (rules, tests))
