use Rattle.std.proofs.Common.{◌≡◌, ◌+◌, ◌-◌, get_or, take, drop, sym, ap, ◌∙◌, arith}
use Rattle.materials.specs.Files.{directory}
use Rattle.materials.proofs.Places.{sound, get_or_parts, part_inside}
use Rattle.materials.proofs.directory.Directory.part.Goals as goal

pub slice_bounds-result-end : goal.slice_bounds-result-end
slice_bounds-result-end c =
    let f = c.args.self.now.file.now in
    let o = ap (λ p. p.0) c.place-place.ensures in
    let l = ap (λ p. p.1) c.place-place.ensures in
    let b = part_inside f (sound f c.args.self.now.sound) c.args.i c.requires in
    omega arith

pub returns : goal.returns
returns c =
    let f = c.args.self.now.file.now in
    let o = ap (λ p. p.0) c.place-place.ensures in
    let l = ap (λ p. p.1) c.place-place.ensures in
    let n : c.place-place.result.offset + c.place-place.result.length - c.place-place.result.offset ≡ (get_or (directory f) c.args.i (0, 0)).1 = omega arith in
    (λ j. take (n j) (drop (o j) f)) ∙ sym (get_or_parts f (sound f c.args.self.now.sound) c.args.i c.requires)
