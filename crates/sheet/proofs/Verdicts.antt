-- From the rounds to the verdict of a call.
use Rattle.std.proofs.Common.{◌≡◌, ℕ, ◌-◌, ◌<◌, ◌≤◌, Bool, true, T, leb, List, length, get_or, map, take, ℤ, pos, nat_abs, None, Ok, sym, ap, ◌∙◌, arith, leb-true}
use native.Mathlib.Nat.{sub-zero}
use borrow.Author.Differences.{ints}
use lib.Signed.{le_z_yes, lt_z_yes}
use Rattle.std.proofs.lemmas.List.{get_or_default}
use Rattle.arithmetic.specs.Words.{half}
use Rattle.arithmetic.specs.Settings.{FixedArithmetic, bits}
use Rattle.kinds.specs.declared.values.Bound.{Bound}
use Rattle.wiring.specs.Graphs.{Graph}
use Rattle.wiring.specs.Lists.{Each₂}
use Rattle.wiring.specs.Checks.{unless}
use Rattle.wiring.proofs.Soundness.{first_none, unless_none, and_out}
use Rattle.sheet.specs.declared.figures.SheetFault.TheVariants.{PeaksRow, CeilingsRow, BandRow}
use Rattle.sheet.specs.Sheets.{Falls}
use Rattle.sheet.specs.Searching.{none, over, box_in, peaks_of, ceilings_of, Least}
use Rattle.sheet.specs.Calls.{rows, in_range, call_fault, Verdict}
use Rattle.sheet.proofs.Places.{each_mapped}

of_true : (b : Bool) → b ≡ true → T b
of_true b e = rw e tt

-- ---- what the check of a call gives
pub record Fine (w n a b d : ℕ) (x : ℤ) : Type 0 where
  pub peaks : n ≤ a
  pub ceilings : n ≤ b
  pub band : n ≤ d
  pub positive : pos (nat_abs x) ≡ x
  pub range : nat_abs x ≤ half w - 1

in_range_out : (w : ℕ) (x : ℤ) → in_range w x ≡ true → (pos (nat_abs x) ≡ x) × (nat_abs x ≤ half w - 1)
in_range_out w x e =
    let t = and_out _ _ e in
    let low = le_z_yes {a = pos 0} {b = x} (of_true _ t.0) in
    let high = lt_z_yes {a = x} {b = pos (half w)} (of_true _ t.1) in
    (omega (arith, ints, low, high), omega (arith, ints, low, high))

pub call_fine : (w n a b d : ℕ) (x : ℤ) → call_fault w n a b d x ≡ None → Fine w n a b d x
call_fine w n a b d x e =
    let t = first_none (unless (leb n a) PeaksRow) _ e in
    let u = first_none (unless (leb n b) CeilingsRow) _ t.1 in
    let v = first_none (unless (leb n d) BandRow) _ u.1 in
    let r = in_range_out w x (unless_none _ _ v.1) in
    record { peaks = leb-true _ _ (unless_none _ _ t.0); ceilings = leb-true _ _ (unless_none _ _ u.0); band = leb-true _ _ (unless_none _ _ v.0); positive = r.0; range = r.1 }

-- ---- what the code reads and cuts
pub read_at : (ws : List Bound) (o out : ℕ) (x : Bound) → o ≡ out → out < length ws → get_or ws o x ≡ get_or ws out none
read_at ws o out x e h = ap (λ k. get_or ws k x) e ∙ get_or_default ws out x none h

module _ (s : FixedArithmetic) (g : Graph) (cs : List ℤ) (X : ℕ) (row row' working working' : List Bound) (n : ℕ) where
  pub granted_verdict : X ≤ half (bits s) - 1 → Least s g cs X (box_in g row) (get_or working g.output none) → Falls s g cs (peaks_of (box_in g row)) n (peaks_of (box_in g row')) (get_or working' g.output none).peak
      → (p c b p' c' b' : List ℕ) → p' ≡ over (peaks_of (box_in g row)) p → c' ≡ over (ceilings_of (box_in g row)) c → b' ≡ over (peaks_of (box_in g row')) b
      → (top last : Bound) → top ≡ get_or working g.output none → last ≡ get_or working' g.output none
      → Verdict s g cs X (rows p c b) (rows p' c' b') (Ok (record { peak = top.peak; ceiling = top.ceiling; count = n; band = last.peak }))
  granted_verdict range least falls p c b p' c' b' ep ec eb top last et el = (
    record { box = box_in g row; output = get_or working g.output none; count = n; band = peaks_of (box_in g row'); output_band = (get_or working' g.output none).peak },
    record { range = range; closed = least.closed; least = least.least; met = least.met; output_is = least.output_is; falls = falls },
    (λ i. record { peak = (et i).peak; ceiling = (et i).ceiling; count = n; band = (el i).peak }),
    (λ i. rows (ep i) (ec i) (eb i)),
  )

pub cut_is : {V : Type 0} (n m : ℕ) (xs : List V) → n ≡ m → take (n - 0) xs ≡ take m xs
cut_is n m xs e = ap (λ k. take k xs) (sub-zero n ∙ e)

-- a part of each entry of a box, written to a row
pub parts_are : {T : Type 0} {R : Bound → T → Type 0} (f : Bound → T) (n m : ℕ) (row : List Bound) (lent now : List T) → ((b : Bound) (v : T) → R b v → f b ≡ v) → n ≡ m
    → (ys : List T) × Each₂ R (take (n - 0) row) ys × (now ≡ over ys lent) → now ≡ over (map f (take m row)) lent
parts_are f n m row lent now h e t = t.2 ∙ ap (λ l. over l lent) (sym (each_mapped f h t.1)) ∙ ap (λ l. over (map f l) lent) (cut_is n m row e)
