use Rattle.std.proofs.Common.{◌≡◌, ◌-◌, min, length, get_or, take, drop, ap, ◌∙◌, arith}
use Rattle.std.proofs.lemmas.List.{take_rest}
use Rattle.materials.proofs.Places.{take_min}
use Rattle.materials.proofs.part.part_name.Goals as goal

pub returns : goal.returns
returns c =
    let p = c.args.part.now in
    let z : c.min-n.result - 0 ≡ min (get_or p 0 0) (length (take (length p - 1) (drop 1 p))) = omega (arith, c.min-n.ensures) in
    take_min (get_or p 0 0) (c.min-n.result - 0) (take (length p - 1) (drop 1 p)) z ∙ ap (take (get_or p 0 0)) (take_rest p 1)
