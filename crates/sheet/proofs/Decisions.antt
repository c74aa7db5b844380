-- From the verdict under one checked setting to the answer of the call.
use Rattle.std.proofs.Common.{◌≡◌, ℕ, ◌+◌, ◌-◌, ◌≤◌, List, length, Bool, true, false, ℤ, pos, nat_abs, Some, None, Ok, Err, Option, Result, sym, refl, ◌∙◌, subst, arith}
use mathlib.Core.HLevel.{is_prop→PathP}
use native.Mathlib.Bridge.{le_prop}
use Rattle.std.specs.Option.{option_map}
use Rattle.arithmetic.specs.declared.format.Format.{Format}
use Rattle.arithmetic.specs.declared.setting.Setting.{Setting}
use Rattle.arithmetic.specs.declared.setting.FixedPoint.{FixedPoint}
use Rattle.std.proofs.lemmas.Bool.{and_from, le-leb, lt-ltb}
use Rattle.std.proofs.lemmas.Nat.{pow_below}
use Rattle.arithmetic.specs.Words.{half, quarter}
use Rattle.arithmetic.specs.Formats.{width, format_fault}
use Rattle.arithmetic.specs.Rounding.{RoundingRule}
use Rattle.arithmetic.specs.Overflow.{OverflowRule}
use Rattle.arithmetic.specs.Settings.{meaning, SettingAnswer}
use Rattle.wiring.specs.declared.faults.ProgramFault.TheVariants.{Wiring}
use Rattle.wiring.specs.Graphs.{Graph}
use Rattle.kinds.specs.declared.refusal.Refusal.{Refusal}
use Rattle.wiring.specs.Checks.{unless, first, wiring_fault}
use Rattle.wiring.specs.Programs.{list_fault, program_fault}
use Rattle.sheet.specs.declared.figures.Figures.{Figures}
use Rattle.sheet.specs.declared.figures.SheetFault.{SheetFault}
use Rattle.sheet.specs.declared.figures.SheetFault.TheVariants.{Format as OfFormat, Program, PeaksRow, CeilingsRow, BandRow, Range, Node}
use Rattle.sheet.specs.Calls.{Rows, in_range, call_fault, sheet_check, Verdict, SheetAnswer}

-- ---- a setting has one checked form
same_format : (a b : Format) → a.whole ≡ b.whole → a.fraction ≡ b.fraction → a ≡ b
same_format a b e f j = record {
  whole = e j;
  fraction = f j;
  sound = (
    is_prop→PathP (λ k. 1 ≤ e k) (λ k. le_prop) a.sound.0 b.sound.0 j,
    is_prop→PathP (λ k. 1 ≤ f k) (λ k. le_prop) a.sound.1 b.sound.1 j,
    is_prop→PathP (λ k. 8 ≤ e k + f k) (λ k. le_prop) a.sound.2 b.sound.2 j,
    is_prop→PathP (λ k. e k + f k ≤ 24) (λ k. le_prop) a.sound.3 b.sound.3 j,
  );
}

pub same_point : {R O : Type 0} (st : Setting R O) (p q : FixedPoint R O) → SettingAnswer st (Ok p) → SettingAnswer st (Ok q) → p ≡ q
same_point st p q a b =
    let f = same_format p.format q.format (a.1 ∙ sym b.1) (a.2 ∙ sym b.2) in
    let r = a.3 ∙ sym b.3 in
    let o = a.4 ∙ sym b.4 in
    λ i. record { format = f i; rounding = r i; overflow = o i }

-- ---- the whole check, from its parts
module _ (k l : ℕ) (g : Graph) (cs : List ℤ) (lent : Rows) (x : ℤ) (f : Format) (whole : f.whole ≡ k) (fraction : f.fraction ≡ l) where
  as_width : width f ≡ k + l
  as_width i = whole i + fraction i

  pub check_is : (o : Option SheetFault) → format_fault k l ≡ None → program_fault f g cs ≡ None
      → call_fault (width f) (length g.sources) (length lent.peaks) (length lent.ceilings) (length lent.band) x ≡ o → sheet_check k l g cs lent x ≡ o
  check_is o a b c =
      let b' : first (option_map Wiring (wiring_fault g)) (list_fault (k + l) g.coefficients cs) ≡ None = subst (λ w. first (option_map Wiring (wiring_fault g)) (list_fault w g.coefficients cs) ≡ None) as_width b in
      let c' : call_fault (k + l) (length g.sources) (length lent.peaks) (length lent.ceilings) (length lent.band) x ≡ o = subst (λ w. call_fault w (length g.sources) (length lent.peaks) (length lent.ceilings) (length lent.band) x ≡ o) as_width c in
      (λ i. first (option_map OfFormat (a i)) (first (option_map Program (b' i)) (call_fault (k + l) (length g.sources) (length lent.peaks) (length lent.ceilings) (length lent.band) x))) ∙ c'

-- ---- the range
-- a quarter of the words of w bits is a range in the limits
pub range_passes : (w : ℕ) → 8 ≤ w → in_range w (pos (quarter w)) ≡ true
range_passes w h = and_from _ _ (le-leb 0 (quarter w) (omega arith)) (lt-ltb (quarter w) (half w) (pow_below (w - 2) (w - 1) (omega arith)))

-- ---- what the check of a call answers
-- it names no node
no_node : (p q r s : Bool) (k : ℕ) (e : Refusal) → first (unless p PeaksRow) (first (unless q CeilingsRow) (first (unless r BandRow) (unless s Range))) ≡ Some (Node k e) → ⊥
no_node false q r s k e h = let z : ◌≡◌ {A = ℕ} 0 1 = cc in omega arith
no_node true false r s k e h = let z : ◌≡◌ {A = ℕ} 0 1 = cc in omega arith
no_node true true false s k e h = let z : ◌≡◌ {A = ℕ} 0 1 = cc in omega arith
no_node true true true false k e h = let z : ◌≡◌ {A = ℕ} 0 1 = cc in omega arith
no_node true true true true k e h = let z : ◌≡◌ {A = ℕ} 0 1 = cc in omega arith

pub refuses : {R O : Type 0} (r : R → RoundingRule) (o : O → OverflowRule) (st : Setting R O) (g : Graph) (cs : List ℤ) (x : ℤ) (lent : Rows) (w n a b d : ℕ) (f : SheetFault)
    → call_fault w n a b d x ≡ Some f → sheet_check st.whole st.fraction g cs lent x ≡ Some f → SheetAnswer r o st g cs x lent lent (Err f)
refuses r o st g cs x lent w n a b d (Node k e) h c = absurd (no_node _ _ _ _ k e h)
refuses r o st g cs x lent w n a b d (OfFormat f) h c = (c, refl)
refuses r o st g cs x lent w n a b d (Program f) h c = (c, refl)
refuses r o st g cs x lent w n a b d PeaksRow h c = (c, refl)
refuses r o st g cs x lent w n a b d CeilingsRow h c = (c, refl)
refuses r o st g cs x lent w n a b d BandRow h c = (c, refl)
refuses r o st g cs x lent w n a b d Range h c = (c, refl)

-- ---- the rounds decide
module _ {R O : Type 0} (r : R → RoundingRule) (o : O → OverflowRule) (st : Setting R O) (g : Graph) (cs : List ℤ) (x : ℤ) (before after : Rows) (p : FixedPoint R O) (checked : SettingAnswer st (Ok p))
    (fine : sheet_check st.whole st.fraction g cs before x ≡ None) where
  every : (a : Result Figures SheetFault) → Verdict (meaning r o p) g cs (nat_abs x) before after a → (q : FixedPoint R O) → SettingAnswer st (Ok q) → Verdict (meaning r o q) g cs (nat_abs x) before after a
  every a v q h = subst (λ z. Verdict (meaning r o z) g cs (nat_abs x) before after a) (same_point st p q checked h) v

  pub decides : (a : Result Figures SheetFault) → Verdict (meaning r o p) g cs (nat_abs x) before after a → SheetAnswer r o st g cs x before after a
  decides (Ok f) v = (fine, every (Ok f) v)
  decides (Err (Node k e)) v = (fine, every (Err (Node k e)) v)
  decides (Err (OfFormat f)) v = absurd v
  decides (Err (Program f)) v = absurd v
  decides (Err PeaksRow) v = absurd v
  decides (Err CeilingsRow) v = absurd v
  decides (Err BandRow) v = absurd v
  decides (Err Range) v = absurd v
