-- The text of a session, from its parts.
use Rattle.std.proofs.Common.{◌≡◌, ℕ, suc, ◌+◌, ◌<◌, Bool, List, [], ◌∷◌, length, drop, ℤ, pos, Some, Option, refl, ap, ◌∙◌, subst, arith}
use mathlib.Core.Path.{transport}
use Rattle.std.proofs.lemmas.List.{length-map}
use Rattle.arithmetic.specs.Settings.{FixedArithmetic}
use Rattle.arithmetic.specs.declared.choice.RoundingChoice.{RoundingChoice}
use Rattle.arithmetic.specs.declared.choice.OverflowChoice.{OverflowChoice}
use Rattle.arithmetic.specs.declared.setting.Setting.{Setting}
use Rattle.kinds.specs.Kinds.{KindModel}
use Rattle.wiring.specs.Graphs.{Graph}
use Rattle.channel.specs.declared.state.Limits.{Limits}
use Rattle.replay.specs.declared.log.Call.{Call}
use Rattle.replay.specs.declared.log.Entry.{Entry}
use Rattle.replay.specs.Log.{lent}
use Rattle.materials.specs.declared.letters.Choices.{Choices}
use Rattle.materials.specs.Layout.{Material}
use Rattle.materials.specs.Letters.{form_of, rounding_of, overflow_of}
use Rattle.console_text.specs.Pieces.{lines}
use Rattle.console_text.specs.Calls.{Reads, no_lines, a_call, unread}
use Rattle.console_text.specs.Texts.{read_count, answers, marked_text, Answered, no_lines_left, answer, unanswered}
use Rattle.console_text.specs.Watching.{SheetLimits}
use Rattle.materials.specs.Records.{setting_in}
use Rattle.console_text.specs.Sessions.{wiring_in, coefficients_in, range_in, LoggedCalls, Session}
use Rattle.console_text.proofs.Limiting.{limits_watch}

-- as many lines are marked as read as there are calls
reads_count : {V : Type 0} {r n : ℕ} {ls : List (List ℕ)} {ms : List Bool} {cs : List (Call V)} → Reads r n ls ms cs → read_count ms ≡ length cs
reads_count no_lines = refl
reads_count (a_call a e) = ap suc (reads_count e)
reads_count (unread a e) = reads_count e

-- the answers by the marks are the answers to the lines
answered : {V : Type 0} (shown : V → List ℕ) {r n : ℕ} {ls : List (List ℕ)} {ms : List Bool} {cs : List (Call V)} (k : ℕ) (log : List (Entry V)) → Reads r n ls ms cs → length log ≡ length cs → Answered shown r n k ls cs log (answers shown k ms log)
answered shown k [] no_lines h = no_lines_left
answered shown k (e ∷ log) no_lines h = absurd (omega arith)
answered shown k [] (a_call a q) h = absurd (omega arith)
answered shown k (e ∷ log) (a_call a q) h = answer a (answered shown (k + 1) log q (omega arith))
answered shown k log (unread a q) h = unanswered a (answered shown (k + 1) log q h)

module _ {K V : Type 0} (m : K → FixedArithmetic → KindModel V) (kind : K) (st : Setting RoundingChoice OverflowChoice) (g : Graph) (cs : List ℤ) (limits : Option Limits) where
  -- the entry of open, then one for each call
  log_length : (calls : List (Call V)) (log : List (Entry V)) → LoggedCalls m kind st g cs limits calls log → length log ≡ suc (length calls)
  log_length calls log rp = (rp.logged rp.checked.0 rp.checked.1).entries ∙ ap suc (length-map calls (lent (length g.sources)))

  -- there are entries enough
  pub entries_enough : (r n : ℕ) (ls : List (List ℕ)) (ms ms' : List Bool) (calls calls' : List (Call V)) (log log' : List (Entry V))
      → Reads r n ls ms calls → calls' ≡ calls → LoggedCalls m kind st g cs limits calls' log → ms' ≡ ms → log' ≡ log → read_count ms' < length log'
  entries_enough r n ls ms ms' calls calls' log log' reads ec rp em el =
      let a : read_count ms' ≡ length calls = ap read_count em ∙ reads_count reads in
      let b : length log' ≡ suc (length calls) = ap length el ∙ (log_length calls' log rp ∙ ap (λ c. suc (length c)) ec) in
      omega arith

behind_first : {V : Type 0} (log : List (Entry V)) (n : ℕ) → length log ≡ suc n → length (drop 1 log) ≡ n
behind_first [] n h = absurd (omega arith)
behind_first (e ∷ log) n h = omega arith

module _ {K V : Type 0} (m : K → FixedArithmetic → KindModel V) (shown : V → List ℕ) (kind : K) (name : List ℕ) (item : Material) (input text : List ℕ) (ch : Choices) (limits : Option Limits) where
  pub session_whole : (st : Setting RoundingChoice OverflowChoice) (g : Graph) (cs : List ℤ) (r n : ℕ) (ls : List (List ℕ)) (ms ms' : List Bool) (calls calls' : List (Call V)) (log log' : List (Entry V))
      → form_of item.form ≡ Some ch.form → rounding_of item.rounding ≡ Some ch.rounding → overflow_of item.overflow ≡ Some ch.overflow
      → st ≡ setting_in item ch → g ≡ wiring_in item ch.form → cs ≡ coefficients_in item → r ≡ length g.sources → n ≡ length g.nodes → ls ≡ lines input
      → SheetLimits st (wiring_in item ch.form) (coefficients_in item) (pos (range_in (item.whole + item.fraction))) limits
      → Reads r n ls ms calls → calls' ≡ calls → LoggedCalls m kind st g cs limits calls' log → ms' ≡ ms → log' ≡ log → text ≡ marked_text shown name limits ms' log'
      → Session m shown kind name item input text
  session_whole st g cs r n ls ms ms' calls calls' log log' fi ri oi est eg ecs er en els w reads ec rp em el et =
      let own : Reads (length (wiring_in item ch.form).sources) (length (wiring_in item ch.form).nodes) (lines input) ms calls
      = transport (λ i. Reads ((er ∙ ap (λ x. length x.sources) eg) i) ((en ∙ ap (λ x. length x.nodes) eg) i) (els i) ms calls) reads in
      let logs : LoggedCalls m kind (setting_in item ch) (wiring_in item ch.form) (coefficients_in item) limits calls log
      = transport (λ i. LoggedCalls m kind (est i) (eg i) (ecs i) limits (ec i) log) rp in
      record {
        choices = ch;
        form_is = fi;
        rounding_is = ri;
        overflow_is = oi;
        limits = limits;
        watch = limits_watch (setting_in item ch) (wiring_in item ch.form) (coefficients_in item) _ limits logs.opened (subst (λ s. SheetLimits s (wiring_in item ch.form) (coefficients_in item) (pos (range_in (item.whole + item.fraction))) limits) est w);
        calls = calls;
        log = log;
        logged = logs;
        told = (
          answers shown 1 ms (drop 1 log),
          et ∙ (λ i. marked_text shown name limits (em i) (el i)),
          answered shown 1 (drop 1 log) own (behind_first log (length calls) (log_length m kind (setting_in item ch) (wiring_in item ch.form) (coefficients_in item) limits calls log logs)),
        );
      }
