use Rattle.std.proofs.Common.{◌≡◌, take, drop, true, false, ◌&&◌, ap, sym, ◌∙◌}
use Rattle.std.specs.Str.{bytes_eq}
use Rattle.materials.proofs.Places.{same_test}
use Rattle.materials.proofs.Parted.{same_cut}
use Rattle.materials.proofs.same.same_bytes.Goals as goal

pub returns-then-eq : goal.returns-then-eq
returns-then-eq c =
    let p = c.args.p.now in
    let q = c.args.q.now in
    let x = c.in-Some-Some.ensures.cases in
    let y = c.in-Some-Some.ensures'.cases in
    let t = same_test c.in-Some-Some.a.now c.in-Some-Some.b.now c.eq.result c.eq.ensures in
    let front : true ≡ bytes_eq (take 32 p) (take 32 q) = sym c.if-eq.true ∙ t ∙ (λ i. bytes_eq (x.0 i) (y.0 i)) in
    c.same_eights.ensures ∙ (λ i. bytes_eq (x.1 i) (y.1 i)) ∙ ap (λ b. b && bytes_eq (drop 32 p) (drop 32 q)) front ∙ same_cut 32 p q

pub returns-else-eq : goal.returns-else-eq
returns-else-eq c =
    let p = c.args.p.now in
    let q = c.args.q.now in
    let x = c.in-Some-Some.ensures.cases in
    let y = c.in-Some-Some.ensures'.cases in
    let t = same_test c.in-Some-Some.a.now c.in-Some-Some.b.now c.eq.result c.eq.ensures in
    let front : false ≡ bytes_eq (take 32 p) (take 32 q) = sym c.if-eq.false ∙ t ∙ (λ i. bytes_eq (x.0 i) (y.0 i)) in
    c.if-eq.false ∙ ap (λ b. b && bytes_eq (drop 32 p) (drop 32 q)) front ∙ same_cut 32 p q
