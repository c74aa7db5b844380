-- The replay: from what open leaves to the theorem on the log.
use Rattle.std.proofs.Common.{◌≡◌, ℕ, ◌+◌, ◌≤◌, List, ◌++◌, map, length, take, drop, ℤ, None, Ok, vec_items, Option, sym, refl, ap, ◌∙◌, subst, ap₂, arith}
use Rattle.std.specs.Option.{option_map}
use Rattle.std.proofs.lemmas.List.{drop_at, length-append, length-map, take_at}
use Rattle.arithmetic.specs.declared.setting.Setting.{Setting}
use Rattle.arithmetic.specs.declared.setting.FixedPoint.{FixedPoint}
use Rattle.arithmetic.specs.Rounding.{RoundingRule}
use Rattle.arithmetic.specs.Overflow.{OverflowRule}
use Rattle.arithmetic.specs.Formats.{format_fault}
use Rattle.arithmetic.specs.Settings.{FixedArithmetic, meaning, SettingAnswer, Lawful}
use Rattle.kinds.specs.Kinds.{KindModel, LawfulKind}
use Rattle.wiring.specs.declared.faults.ProgramFault.TheVariants.{Wiring}
use Rattle.wiring.specs.Graphs.{Graph}
use Rattle.wiring.specs.Checks.{first, wiring_fault}
use Rattle.wiring.specs.Programs.{list_fault, program_fault}
use Rattle.wiring.proofs.Soundness.{first_none, mapped_none}
use Rattle.sheet.proofs.Decisions.{same_point}
use Rattle.channel.specs.declared.channel.Channel.{Channel as Running}
use Rattle.channel.specs.declared.opening.OpenFault.TheVariants.{Format, Program}
use Rattle.channel.specs.declared.state.Limits.{Limits}
use Rattle.channel.specs.Channels.{zeros, first_watch, after}
use Rattle.channel.specs.Running.{graph, registers_in, values}
use Rattle.channel.specs.Opening.{open_check, Fresh, Opened, made_row}
use Rattle.channel.proofs.Holding.{same_parts}
use Rattle.replay.specs.declared.log.Call.{Call as Listed}
use Rattle.replay.specs.declared.log.Entry.{Entry}
use Rattle.replay.specs.Log.{lent, Logged}
use Rattle.replay.specs.Replaying.{RowShows, Started, Logs, Replays}
use Rattle.replay.proofs.Along.{log_theorem}

-- ---- what open leaves
module _ {K R O V : Type 0} (m : K → FixedArithmetic → KindModel V) (r : R → RoundingRule) (o : O → OverflowRule) (c : Running K R O) (row row' : List V) (made : row' ≡ made_row m r o c row) where
  pub row_long : registers_in c ≤ length row'
  row_long =
      let a = ap length made in
      let b = length-append (zeros (graph c) (values m r o c).zero) (drop (registers_in c) row) in
      let d = length-map (graph c).sources (λ _. (values m r o c).zero) in
      omega arith

  pub started : (limits : Option Limits) → Fresh limits c.watch → Started m r o c row'
  unfolding after
  started limits f = same_parts _ _ refl
      (ap (take (registers_in c)) made ∙ take_at (zeros (graph c) (values m r o c).zero) (drop (registers_in c) row) (registers_in c) (length-map (graph c).sources (λ _. (values m r o c).zero)))
      (f.state_is ∙ ap first_watch (sym f.limits_are))

  -- places past the registers are as they were before open
  past_kept : drop (registers_in c) row' ≡ drop (registers_in c) row
  past_kept = ap (drop (registers_in c)) made ∙ drop_at (zeros (graph c) (values m r o c).zero) (drop (registers_in c) row) (registers_in c) (length-map (graph c).sources (λ _. (values m r o c).zero))

  pub rest_kept : (g : Graph) → graph c ≡ g → (left : List V) → drop (registers_in c) left ≡ drop (registers_in c) row' → drop (length g.sources) left ≡ drop (length g.sources) row
  rest_kept g w left h = subst (λ x. drop (length x.sources) left ≡ drop (length x.sources) row) w (h ∙ past_kept)

  pub row_kept : (g : Graph) → graph c ≡ g → (calls : ℕ) (log : List (Entry V)) (left : List V) → RowShows (registers_in c) calls log row' left → RowShows (length g.sources) calls log row left
  row_kept g w calls log left h =
      subst (λ x. RowShows (length x.sources) calls log row left) w (λ e at. h e at ∙ ap (λ x. vec_items e.registers ++ x) past_kept)

-- ---- the check of open is the program's
fine : {R O : Type 0} (st : Setting R O) (p : FixedPoint R O) (g : Graph) (cs : List ℤ) (row : ℕ) → open_check st.whole st.fraction g cs row ≡ None → SettingAnswer st (Ok p) → program_fault p.format g cs ≡ None
fine st p g cs row e a =
    let x = first_none (option_map Format (format_fault st.whole st.fraction)) _ e in
    let y = first_none (option_map Program (first (option_map Wiring (wiring_fault g)) (list_fault (st.whole + st.fraction) g.coefficients cs))) _ x.1 in
    ap₂ (λ k l. first (option_map Wiring (wiring_fault g)) (list_fault (k + l) g.coefficients cs)) a.1 a.2 ∙ mapped_none Program _ y.0

module _ {K R O V : Type 0} (m : K → FixedArithmetic → KindModel V) (r : R → RoundingRule) (o : O → OverflowRule) (law : (p : FixedPoint R O) → Lawful (meaning r o p)) (laws : (k : K) (p : FixedPoint R O) → LawfulKind (meaning r o p) (m k (meaning r o p)))
    (kind : K) (st : Setting R O) (g : Graph) (cs : List ℤ) (limits : Option Limits) (row : ℕ) (c : Running K R O) (passed : open_check st.whole st.fraction g cs row ≡ None) (opened : Opened kind st g cs limits c)
    (row' : ℕ) (same_row : row' ≡ row) (calls : List (Listed V)) (log : List (Entry V)) (logs : Logs m r o c row' calls log) where
  logged : (p : FixedPoint R O) → SettingAnswer st (Ok p) → Logged (m kind (meaning r o p)).ops (meaning r o p) g cs limits (map (lent row) calls) log
  logged p a =
      let same = same_point st c.values.setting p opened.setting a in
      subst (λ (y : K × FixedPoint R O × Graph × List ℤ × Option Limits × ℕ). Logged (m y.0 (meaning r o y.1)).ops (meaning r o y.1) y.2 y.3 y.4 (map (lent y.5) calls) log)
      (λ i. (opened.kind i, same i, opened.wiring i, opened.coefficients i, opened.watch.limits_are i, same_row i)) logs

  pub replays : Replays m r o kind st g cs limits row calls log
  replays = record {
    opened = passed;
    checked = (c.values.setting, opened.setting);
    logged = logged;
    theorem = λ p a. log_theorem (meaning r o p) (law p) (m kind (meaning r o p)) (laws kind p) g cs limits (fine st p g cs row passed a) (map (lent row) calls) log (logged p a);
  }
