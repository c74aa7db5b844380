use Rattle.std.proofs.Common.{refl}
use Rattle.replay.proofs.Steps.{swap_ok, swap_err}
use Rattle.replay.proofs.work.swap_on.Goals as goal

pub returns-in-Ok : goal.returns-in-Ok
returns-in-Ok g c = λ row.
    let e = c.in-Ok.ensures in
    record { tells = swap_ok g.row.K-Value.Denot _ _ (e.answer row); holds = e.leaves row; same = e.same; long = refl; rest = refl }

pub returns-in-Err : goal.returns-in-Err
returns-in-Err g c = λ row.
    let e = c.in-Err.ensures in
    record { tells = swap_err g.row.K-Value.Denot _ _ _ (e.answer row); holds = e.leaves row; same = e.same; long = refl; rest = refl }
