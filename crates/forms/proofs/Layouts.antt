-- Rows of nodes laid one behind the other are the nodes of a form.
use Rattle.std.proofs.Common.{◌≡◌, ℕ, ◌+◌, max, false, cond, eqb, List, [], ◌∷◌, ◌++◌, length, sym, refl, ap, ◌∙◌, arith}
use Rattle.std.proofs.lemmas.List.{length_push}
use Rattle.std.proofs.lemmas.List.FromFn.{length-map-range_with_len}
use Rattle.wiring.specs.declared.graph.Node.{Node}
use Rattle.wiring.specs.declared.graph.Node.TheVariants.{Input, Zero, Register, Sum}
use Rattle.wiring.specs.Graphs.{Graph}
use Rattle.std.specs.List.{range_with_len, flat_map}
use Rattle.forms.specs.Parts.{listed, chain, registers, taps, gains, sums, differences, delays, totals_of, end_of}
use Rattle.forms.specs.Forms.{direct1, direct1_products, direct1_totals, direct2, direct2_totals, direct2_products, transposed2, transposed2_gain, transposed2_recursive, transposed2_products, transposed2_output, transposed2_totals}
use Rattle.forms.proofs.Growing.{grown_length}

pub start_length : (n : ℕ) (ns : List Node) → ns ≡ Input ∷ registers n → length ns ≡ n + 1
start_length n ns e = let p = length-map-range_with_len Register 0 n in ap length e ∙ omega arith

pub wired_direct1 : (N M k n nb nc p l3 s l4 c o : ℕ) (i1 i2 i3 i4 i5 : List Node) (s0 s1 s2 : List ℕ)
    → k ≡ N + M → n ≡ N → nb ≡ N + 1 → nc ≡ N + 2 → c ≡ N + 1 + M → p ≡ length i1 → l3 ≡ length i3 → l4 ≡ length i4
    → i1 ≡ Input ∷ registers k → i2 ≡ i1 ++ taps 0 1 0 nb → i3 ≡ i2 ++ taps nb nc nb M
    → i4 ≡ i3 ++ sums p l3 (p + 1) n → s ≡ chain p l3 n
    → i5 ≡ i4 ++ differences s l4 (p + nb) M → o ≡ chain s l4 M
    → s0 ≡ [] → s1 ≡ s0 ++ delays 0 1 n → s2 ≡ s1 ++ delays o nb M
    → ◌≡◌ {A = Graph} (record { nodes = i5; coefficients = c; output = o; sources = s2 }) (direct1 N M)
wired_direct1 N M k n nb nc p l3 s l4 c o i1 i2 i3 i4 i5 s0 s1 s2 ek en eb ec et ep e3 e4 a1 a2 a3 a4 at5 a5 ao b0 b1 b2 =
    let q1 = start_length k i1 a1 in
    let q2 = grown_length _ i1 i2 nb a2 in
    let q3 = grown_length _ i2 i3 M a3 in
    let q4 = grown_length _ i3 i4 n a4 in
    let r1 : p ≡ direct1_products N M = omega arith in
    let r3 : l3 ≡ direct1_totals N M = omega arith in
    let r4 : l4 ≡ direct1_totals N M + N = omega arith in
    rw (b2, b1, b0, ao, a5, a4, a3, a2, a1, at5, r4, r3, r1, et, ec, eb, en, ek) refl

pub wired_direct2 : (N M k n nb f m p l2 l4 c o : ℕ) (i1 i2 i3 i4 i5 : List Node) (s0 s1 : List ℕ)
    → k ≡ max N M → n ≡ N → nb ≡ N + 1 → c ≡ N + 1 + M → f ≡ length i1 → l2 ≡ length i2 → p ≡ length i3 → l4 ≡ length i4
    → i1 ≡ Input ∷ registers k → i2 ≡ i1 ++ taps 1 2 nb M
    → i3 ≡ i2 ++ differences 0 l2 f M → m ≡ chain 0 l2 M
    → i4 ≡ i3 ++ taps m 1 0 nb
    → i5 ≡ i4 ++ sums p l4 (p + 1) n → o ≡ chain p l4 n
    → s0 ≡ [] → s1 ≡ s0 ++ delays m 1 k
    → ◌≡◌ {A = Graph} (record { nodes = i5; coefficients = c; output = o; sources = s1 }) (direct2 N M)
wired_direct2 N M k n nb f m p l2 l4 c o i1 i2 i3 i4 i5 s0 s1 ek en eb ec ef e2 ep e4 a1 a2 a3 am a4 a5 ao b0 b1 =
    let q1 = start_length k i1 a1 in
    let q2 = grown_length _ i1 i2 M a2 in
    let q3 = grown_length _ i2 i3 M a3 in
    let q4 = grown_length _ i3 i4 nb a4 in
    let rf : f ≡ max N M + 1 = omega arith in
    let r2 : l2 ≡ direct2_totals N M = omega arith in
    let rp : p ≡ direct2_products N M = omega arith in
    let r4 : l4 ≡ direct2_products N M + (N + 1) = omega arith in
    rw (b1, b0, ao, a5, a4, a3, a2, a1, am, r4, rp, r2, rf, ec, eb, en, ek) refl

pub wired_transposed2 : (N M k nb p o l5 c : ℕ) (i1 i2 i3 i4 i5 i6 : List Node) (s0 s1 : List ℕ)
    → k ≡ max N M → nb ≡ N + 1 → c ≡ N + 1 + M → p ≡ length i2 → o ≡ length i3 → l5 ≡ length i5 → eqb k 0 ≡ false
    → i1 ≡ Input ∷ registers k → i2 ≡ i1 ++ Zero ∷ [] → i3 ≡ i2 ++ gains 0 0 nb → i4 ≡ i3 ++ Sum p 1 ∷ [] → i5 ≡ i4 ++ gains o nb M
    → i6 ≡ i5 ++ flat_map (totals_of l5 (p + 1) (o + 1) N M) (range_with_len 0 (max N M))
    → s0 ≡ [] → s1 ≡ s0 ++ listed (end_of l5 (p + 1) (o + 1) N M) (max N M)
    → ◌≡◌ {A = Graph} (record { nodes = i6; coefficients = c; output = o; sources = s1 }) (transposed2 N M)
wired_transposed2 N M k nb p o l5 c i1 i2 i3 i4 i5 i6 s0 s1 ek eb ec ep eo e5 some a1 a2 a3 a4 a5 a6 b0 b1 =
    let q1 = start_length k i1 a1 in
    let q2 : length i2 ≡ length i1 + 1 = ap length a2 ∙ length_push i1 Zero in
    let q3 = grown_length _ i2 i3 nb a3 in
    let q4 : length i4 ≡ length i3 + 1 = ap length a4 ∙ length_push i3 (Sum p 1) in
    let q5 = grown_length _ i4 i5 M a5 in
    let rp : p ≡ transposed2_products N M = omega arith in
    let ro : o ≡ transposed2_output N M = omega arith in
    let r5 : l5 ≡ transposed2_totals N M = omega arith in
    let t : eqb (max N M) 0 ≡ false = ap (λ x. eqb x 0) (sym ek) ∙ some in
    rw (b1, b0, a6, a5, a4, a3, a2, a1, r5, ro, rp, ec, eb, ek) (sym (ap (λ z. cond z transposed2_gain (transposed2_recursive N M)) t))
