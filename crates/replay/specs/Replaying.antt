-- What the calls of this crate answer.
use Rattle.std.specs.Prelude.{◌≡◌, ℕ, List, [], ◌++◌, map, length, drop, ℤ, Some, None, Ok, Err, vec_items, Option, Result, Vec}
use Rattle.std.specs.declared.alloc.Global.{Global}
use Rattle.arithmetic.specs.declared.setting.Setting.{Setting}
use Rattle.arithmetic.specs.declared.setting.FixedPoint.{FixedPoint}
use Rattle.arithmetic.specs.Rounding.{RoundingRule}
use Rattle.arithmetic.specs.Overflow.{OverflowRule}
use Rattle.arithmetic.specs.Settings.{FixedArithmetic, meaning, SettingAnswer}
use Rattle.kinds.specs.Kinds.{KindModel}
use Rattle.wiring.specs.Graphs.{Graph}
use Rattle.channel.specs.declared.channel.Channel.{Channel as Running}
use Rattle.channel.specs.declared.state.Limits.{Limits}
use Rattle.channel.specs.Channels.{Call, after}
use Rattle.channel.specs.Running.{registers_in, holding, answered_to, left_by, Same, graph, limits_in, values}
use Rattle.channel.specs.Opening.{open_check}
use Rattle.replay.specs.declared.log.Call.{Call as Listed}
use Rattle.replay.specs.declared.log.Told.{Told}
use Rattle.replay.specs.declared.log.Entry.{Entry}
use Rattle.replay.specs.declared.log.ReplayFault.{ReplayFault}
use Rattle.replay.specs.declared.log.ReplayFault.TheVariants.{Open, Memory}
use Rattle.replay.specs.Log.{place, lent, Tells, Logged}
use Rattle.replay.specs.Theorem.{LogTheorem}

-- one call worked on a channel with its row: what it told, and what the channel and the row then hold
pub record Works {K R O V : Type 0} (m : K → FixedArithmetic → KindModel V) (r : R → RoundingRule) (o : O → OverflowRule) (before : Running K R O) (row : List V) (call : Call) (now : Running K R O) (left : List V) (t : Told V) : Type 0 where
  pub tells : Tells (answered_to m r o before row call) t
  pub holds : holding now left ≡ left_by m r o before row call
  pub same : Same before now
  pub long : length left ≡ length row
  pub rest : drop (registers_in before) left ≡ drop (registers_in before) row

-- the channel and its row are as open leaves them
abbrev pub Started : {K R O V : Type 0} → (K → FixedArithmetic → KindModel V) → (R → RoundingRule) → (O → OverflowRule) → Running K R O → List V → Type 0
Started m r o c row = holding c row ≡ after (values m r o c) (meaning r o c.values.setting) (graph c) (limits_in c.watch) (vec_items c.program.coefficients) []

-- the log of a list of calls on this channel, with a row of so many places
abbrev pub Logs : {K R O V : Type 0} → (K → FixedArithmetic → KindModel V) → (R → RoundingRule) → (O → OverflowRule) → Running K R O → ℕ → List (Listed V) → List (Entry V) → Type 0
Logs m r o c row calls log = Logged (values m r o c) (meaning r o c.values.setting) (graph c) (vec_items c.program.coefficients) (limits_in c.watch) (map (lent row) calls) log

-- a log for every setting whose check passes: each entry is what the channel's steps answer and leave, and keeps a, b and c
pub record Replays {K R O V : Type 0} (m : K → FixedArithmetic → KindModel V) (r : R → RoundingRule) (o : O → OverflowRule) (kind : K) (st : Setting R O) (g : Graph) (cs : List ℤ) (limits : Option Limits) (row : ℕ) (calls : List (Listed V)) (log : List (Entry V)) : Type 0 where
  pub opened : open_check st.whole st.fraction g cs row ≡ None
  pub checked : (p : FixedPoint R O) × SettingAnswer st (Ok p)
  pub logged : (p : FixedPoint R O) → SettingAnswer st (Ok p) → Logged (m kind (meaning r o p)).ops (meaning r o p) g cs limits (map (lent row) calls) log
  pub theorem : (p : FixedPoint R O) → SettingAnswer st (Ok p) → LogTheorem (meaning r o p) (m kind (meaning r o p)) g cs limits (map (lent row) calls) log

-- the log; or open's fault; or, though open finds no fault, want of memory
abbrev pub ReplayAnswer : {K R O V : Type 0} → (K → FixedArithmetic → KindModel V) → (R → RoundingRule) → (O → OverflowRule) → K → Setting R O → Graph → List ℤ → Option Limits → ℕ → List (Listed V) → Result (Vec (Entry V) Global) ReplayFault → Type 0
ReplayAnswer m r o kind st g cs limits row calls (Ok log) = Replays m r o kind st g cs limits row calls (vec_items log)
ReplayAnswer m r o kind st g cs limits row calls (Err (Open f)) = open_check st.whole st.fraction g cs row ≡ Some f
ReplayAnswer m r o kind st g cs limits row calls (Err Memory) = open_check st.whole st.fraction g cs row ≡ None

-- the last entry's registers stand at the front of the row; places past the registers are as they were
abbrev pub RowShows : {V : Type 0} → ℕ → ℕ → List (Entry V) → List V → List V → Type 0
RowShows {V} registers calls log before row = (e : Entry V) → place log calls ≡ Some e → row ≡ vec_items e.registers ++ drop registers before

-- the row after a replay: the registers of the last entry; a refusal of open leaves it as it was; at want of memory
-- what its registers hold is left open, and places past them are as they were
abbrev pub RowLeft : {V : Type 0} → ℕ → ℕ → List V → List V → Result (Vec (Entry V) Global) ReplayFault → Type 0
RowLeft registers calls before row (Ok log) = RowShows registers calls (vec_items log) before row
RowLeft registers calls before row (Err (Open f)) = row ≡ before
RowLeft registers calls before row (Err Memory) = drop registers row ≡ drop registers before
