-- The whole text of a session.
use Rattle.std.specs.Prelude.{◌≡◌, ℕ, suc, ◌+◌, Bool, true, false, List, [], ◌∷◌, ◌++◌, drop, Some, None, Option}
use Rattle.channel.specs.declared.state.Limits.{Limits}
use Rattle.replay.specs.declared.log.Call.{Call}
use Rattle.replay.specs.declared.log.Entry.{Entry}
use Rattle.console_text.specs.Lines.{answer_line, unread_line, opened_line}
use Rattle.console_text.specs.Calls.{Asks}

-- how many lines are marked as read
abbrev pub read_count : List Bool → ℕ
read_count [] = 0
read_count (true ∷ marks) = suc (read_count marks)
read_count (false ∷ marks) = read_count marks

module _ {V : Type 0} (shown : V → List ℕ) where
  -- the answers to marked lines, the first of which has the number n, by the entries of the calls: for a line that is read the line of the
  -- next entry, for another `unread`; each ended by a line feed (10)
  abbrev pub answers : ℕ → List Bool → List (Entry V) → List ℕ
  answers n [] log = []
  answers n (true ∷ marks) [] = []
  answers n (true ∷ marks) (e ∷ log) = answer_line shown e ++ 10 ∷ answers (n + 1) marks log
  answers n (false ∷ marks) log = unread_line n ++ 10 ∷ answers (n + 1) marks log

  -- the text: the first line, then the answers, by a log that begins with the entry of open
  abbrev pub marked_text : List ℕ → Option Limits → List Bool → List (Entry V) → List ℕ
  marked_text kind limits marks log = opened_line kind limits ++ 10 ∷ answers 1 marks (drop 1 log)

  -- the answers to input lines: each line asks for the next call and is answered by the line of that call's entry, or asks for none and is
  -- answered by `unread` and its number
  pub data Answered (registers nodes : ℕ) : ℕ → List (List ℕ) → List (Call V) → List (Entry V) → List ℕ → Type 0 where
    no_lines_left : {n : ℕ} → Answered registers nodes n [] [] [] []
    answer : {n : ℕ} {line : List ℕ} {lines : List (List ℕ)} {c : Call V} {calls : List (Call V)} {e : Entry V} {log : List (Entry V)} {text : List ℕ}
        → Asks registers nodes line (Some c) → Answered registers nodes (n + 1) lines calls log text
        → Answered registers nodes n (line ∷ lines) (c ∷ calls) (e ∷ log) (answer_line shown e ++ 10 ∷ text)
    unanswered : {n : ℕ} {line : List ℕ} {lines : List (List ℕ)} {calls : List (Call V)} {log : List (Entry V)} {text : List ℕ}
        → Asks {V = V} registers nodes line None → Answered registers nodes (n + 1) lines calls log text
        → Answered registers nodes n (line ∷ lines) calls log (unread_line n ++ 10 ∷ text)

  -- the text of a session: the first line, then the answers to the input's lines by the log, whose first entry is that of open
  abbrev pub SessionText : ℕ → ℕ → List ℕ → Option Limits → List (List ℕ) → List (Call V) → List (Entry V) → List ℕ → Type 0
  SessionText registers nodes kind limits lines calls log text =
      (rest : List ℕ) × (text ≡ opened_line kind limits ++ 10 ∷ rest) × Answered registers nodes 1 lines calls (drop 1 log) rest
