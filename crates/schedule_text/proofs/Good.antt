-- What a material that nothing is wrong with passes. Assumes nothing.
use Rattle.std.proofs.Common.{◌≡◌, ℕ, suc, ◌+◌, ◌-◌, ◌≤◌, max, Bool, true, false, cond, ◌&&◌, eqb, leb, List, [], ◌∷◌, ◌++◌, length, ℤ, pos, None, Err, ◌⊎◌, inl, inr, sym, refl, ap, subst, ◌∙◌, arith}
use Rattle.std.proofs.lemmas.List.{length-append}
use Rattle.std.proofs.lemmas.Bool.{both_ways, and_parts, and_from, le-leb, eq-eqb, leb-true, eqb-true}
use Rattle.std.specs.Option.{option_map}
use Rattle.arithmetic.specs.Words.{inside}
use Rattle.arithmetic.specs.Formats.{format_fault}
use Rattle.wiring.proofs.Soundness.{few_registers}
use Rattle.wiring.specs.Checks.{unless, first, scan, wiring_fault}
use Rattle.wiring.specs.Programs.{word_fault, words_fault, list_fault}
use Rattle.wiring.specs.declared.faults.ProgramFault.TheVariants.{Wiring, OtherLength, Coefficient}
use Rattle.forms.specs.declared.form.Form.{Form}
use Rattle.forms.specs.declared.form.Form.TheVariants.{Direct1, Direct2, Transposed2}
use Rattle.forms.specs.Forms.{form_graph, transposed2_gain, transposed2_recursive}
use Rattle.forms.specs.declared.form.FormFault.{FormFault}
use Rattle.forms.specs.declared.form.FormFault.TheVariants.{Numerator, Denominator}
use Rattle.forms.specs.Built.{numerator_good, denominator_good, BuildAnswer}
use Rattle.forms.proofs.Sound.{sound_form}
use Rattle.sheet.specs.declared.figures.SheetFault.TheVariants.{Format, Program, PeaksRow, CeilingsRow, BandRow, Range}
use Rattle.sheet.proofs.Decisions.{range_passes}
use Rattle.sheet.specs.Calls.{Rows, call_fault, sheet_check}
use Rattle.materials.specs.Layout.{Material}
use Rattle.materials.specs.Records.{words_ok, unwritten, material_fault}
use Rattle.materials.proofs.Rows.{cond_none}
use Rattle.materials.proofs.Chains.{passed, bounded}
use Rattle.schedule_text.specs.Outcomes.{range_of, coefficients_of, wiring_in}

-- words in order have no fault
words_pass : (w i : ℕ) (cs : List ℤ) → words_ok w cs ≡ true → scan (word_fault w) i cs ≡ None
words_pass w i [] h = refl
words_pass w i (c ∷ cs) h =
    let p = and_parts (inside w c) (words_ok w cs) h in
    ap (λ b. first (unless b (Coefficient i)) (scan (word_fault w) (suc i) cs)) p.0 ∙ words_pass w (suc i) cs p.1

words_both : (w : ℕ) (xs ys : List ℤ) → words_ok w xs ≡ true → words_ok w ys ≡ true → words_ok w (xs ++ ys) ≡ true
words_both w [] ys h k = k
words_both w (x ∷ xs) ys h k =
    let p = and_parts (inside w x) (words_ok w xs) h in
    and_from (inside w x) (words_ok w (xs ++ ys)) p.0 (words_both w xs ys p.1 k)

module _ (nb na : ℕ) (some : 1 ≤ nb) where
  none_of_both : max (nb - 1) na ≡ 0 → 1 ≡ nb + na
  none_of_both e = omega arith

  transposed_count : (b : Bool) → eqb (max (nb - 1) na) 0 ≡ b → (cond b transposed2_gain (transposed2_recursive (nb - 1) na)).coefficients ≡ nb + na
  transposed_count true e = none_of_both (eqb-true _ _ e)
  transposed_count false e = omega arith

  -- a form has as many coefficients as there are in both lists
  count_is : (f : Form) → (form_graph f nb na).coefficients ≡ nb + na
  count_is Direct1 = omega arith
  count_is Direct2 = omega arith
  count_is Transposed2 = transposed_count (eqb (max (nb - 1) na) 0) refl

module _ (m : Material) (good : material_fault m ≡ None) where
  pub format_passes : format_fault m.whole m.fraction ≡ None
  format_passes =
      let p = (passed (unwritten m.name) m good).formatted in
      let a = cond_none (leb 1 m.whole) _ _ p in
      let b = cond_none (leb 1 m.fraction) _ _ a.1 in
      let d = cond_none (leb 8 (m.whole + m.fraction) && leb (m.whole + m.fraction) 24) _ _ b.1 in
      rw (a.0, b.0, d.0)

  width_low : 8 ≤ m.whole + m.fraction
  width_low =
      let p = (passed (unwritten m.name) m good).formatted in
      let a = cond_none (leb 1 m.whole) _ _ p in
      let b = cond_none (leb 1 m.fraction) _ _ a.1 in
      let d = cond_none (leb 8 (m.whole + m.fraction) && leb (m.whole + m.fraction) 24) _ _ b.1 in
      leb-true 8 (m.whole + m.fraction) (and_parts _ _ d.0).0

  pub numerator_passes : numerator_good (length m.forward) ≡ true
  numerator_passes =
      let b = bounded m good in
      and_from _ _ (le-leb 1 (length m.forward) b.forward_low) (le-leb (length m.forward) 9 b.forward)

  pub denominator_passes : denominator_good (length m.back) ≡ true
  denominator_passes = le-leb (length m.back) 8 (bounded m good).back

  -- its coefficients are words
  words_pass_both : words_ok (m.whole + m.fraction) (coefficients_of m) ≡ true
  words_pass_both =
      let p = (passed (unwritten m.name) m good).worded in
      let a = cond_none (words_ok (m.whole + m.fraction) m.forward && words_ok (m.whole + m.fraction) m.back) _ _ p in
      let b = and_parts (words_ok (m.whole + m.fraction) m.forward) (words_ok (m.whole + m.fraction) m.back) a.0 in
      words_both (m.whole + m.fraction) m.forward m.back b.0 b.1

  module _ (f : Form) where
    wiring_passes : wiring_fault (wiring_in f m) ≡ None
    wiring_passes = sound_form f (length m.forward) (length m.back) numerator_passes denominator_passes

    list_passes : list_fault (m.whole + m.fraction) (wiring_in f m).coefficients (coefficients_of m) ≡ None
    list_passes =
        let n = length-append m.forward m.back ∙ sym (count_is (length m.forward) (length m.back) (bounded m good).forward_low f) in
        ap (λ b. first (unless b OtherLength) (words_fault (m.whole + m.fraction) (coefficients_of m))) (eq-eqb _ _ n) ∙ words_pass (m.whole + m.fraction) 0 (coefficients_of m) words_pass_both

    call_passes : (p c b : ℕ) → 16 ≤ p → 16 ≤ c → 16 ≤ b → call_fault (m.whole + m.fraction) (length (wiring_in f m).sources) p c b (pos (range_of m)) ≡ None
    call_passes p c b hp hc hb =
        let n = length (wiring_in f m).sources in
        let few = few_registers (wiring_in f m) wiring_passes in
        let kp : leb n p ≡ true = le-leb n p (omega arith) in
        let kc : leb n c ≡ true = le-leb n c (omega arith) in
        let kb : leb n b ≡ true = le-leb n b (omega arith) in
        let kr = range_passes (m.whole + m.fraction) width_low in
        (λ i. first (unless (kp i) PeaksRow) (first (unless (kc i) CeilingsRow) (first (unless (kb i) BandRow) (unless (kr i) Range))))

    -- the call for its sheet has no fault, where the rows have room for 16 registers
    pub check_passes : (lent : Rows) → 16 ≤ length lent.peaks → 16 ≤ length lent.ceilings → 16 ≤ length lent.band → sheet_check m.whole m.fraction (wiring_in f m) (coefficients_of m) lent (pos (range_of m)) ≡ None
    check_passes lent hp hc hb =
        λ i. first (option_map Format (format_passes i)) (first (option_map Program (first (option_map Wiring (wiring_passes i)) (list_passes i))) (call_passes (length lent.peaks) (length lent.ceilings) (length lent.band) hp hc hb i))

  -- building its filter is refused for want of memory alone
  module _ (f : Form) (e : FormFault) (h : BuildAnswer f m.forward m.back (Err e)) where
    pub build_passes : (e ≡ Numerator) ⊎ (e ≡ Denominator) → ⊥
    build_passes (inl k) = both_ways _ (subst (λ x. BuildAnswer f m.forward m.back (Err x)) k h) numerator_passes
    build_passes (inr k) = both_ways _ (subst (λ x. BuildAnswer f m.forward m.back (Err x)) k h).1 denominator_passes
