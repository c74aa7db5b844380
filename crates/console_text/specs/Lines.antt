-- The bytes of the console's lines, without the line feed that ends each.
use Rattle.std.specs.Prelude.{ℕ, List, [], ◌∷◌, ◌++◌, Some, None, codes, decimal, Option}
use Rattle.std.specs.Fmt.{signed_decimal}
use Rattle.kinds.specs.declared.values.Word.{Word}
use Rattle.kinds.specs.declared.values.Enclosed.{Enclosed}
use Rattle.kinds.specs.declared.values.Bound.{Bound}
use Rattle.channel.specs.declared.state.State.{State}
use Rattle.channel.specs.declared.state.State.TheVariants.{Settled, Sounding, Falling, Spoilt, Lapsed}
use Rattle.channel.specs.declared.state.Limits.{Limits}
use Rattle.channel.specs.declared.fault.CallFault.{CallFault}
use Rattle.channel.specs.declared.fault.CallFault.TheVariants.{RegisterRow, WorkingRow, Sample, Node, OtherLength, Coefficient}
use Rattle.channel.specs.Channels.{call_number}
use Rattle.replay.specs.declared.log.Told.{Told}
use Rattle.replay.specs.declared.log.Told.TheVariants.{Opened, Fed, Swapped, Hushed, Refused}
use Rattle.replay.specs.declared.log.Entry.{Entry}

-- fields with a tab between two of them
abbrev pub tabbed : List ℕ → List (List ℕ) → List ℕ
tabbed x [] = x
tabbed x (y ∷ ys) = x ++ (9 ∷ tabbed y ys)

-- a bare word; a word with its low end and its high end; a peak and a ceiling
abbrev pub word_fields : Word → List ℕ
word_fields v = signed_decimal v.word

abbrev pub enclosed_fields : Enclosed → List ℕ
enclosed_fields v = tabbed (signed_decimal v.word) (signed_decimal v.low ∷ signed_decimal v.high ∷ [])

abbrev pub bound_fields : Bound → List ℕ
bound_fields v = tabbed (decimal v.peak) (decimal v.ceiling ∷ [])

-- what the watch says, where there is one
abbrev pub watch_field : Option State → List ℕ
watch_field None = codes "none"
watch_field (Some Settled) = codes "settled"
watch_field (Some Sounding) = codes "sounding"
watch_field (Some (Falling n)) = codes "falling " ++ decimal n
watch_field (Some Spoilt) = codes "spoilt"
watch_field (Some Lapsed) = codes "lapsed"

-- the node that refused, or a dash where none did
abbrev pub node_field : CallFault → List ℕ
node_field RegisterRow = codes "-"
node_field WorkingRow = codes "-"
node_field Sample = codes "-"
node_field (Node k e) = decimal k
node_field OtherLength = codes "-"
node_field (Coefficient i) = codes "-"

-- what a call told, then the watch: `fed` and the value's fields, `swapped`, `hushed`, or `refused`, the number and the node. (The log's first
-- entry, of open itself, tells `opened`; it is the line of no call.)
abbrev pub told_line : {V : Type 0} → (V → List ℕ) → Told V → Option State → List ℕ
told_line shown Opened s = tabbed (codes "opened") (watch_field s ∷ [])
told_line shown (Fed v nodes) s = tabbed (codes "fed") (shown v ∷ watch_field s ∷ [])
told_line shown Swapped s = tabbed (codes "swapped") (watch_field s ∷ [])
told_line shown Hushed s = tabbed (codes "hushed") (watch_field s ∷ [])
told_line shown (Refused f) s = tabbed (codes "refused") (decimal (call_number f) ∷ node_field f ∷ watch_field s ∷ [])

-- the line of a call, by the log's entry of it
abbrev pub answer_line : {V : Type 0} → (V → List ℕ) → Entry V → List ℕ
answer_line shown e = told_line shown e.told e.watch

-- the line of an input line that asks for no call: `unread` and its number
abbrev pub unread_line : ℕ → List ℕ
unread_line n = tabbed (codes "unread") (decimal n ∷ [])

-- X and N, or `none` where there is no watch
abbrev pub limits_field : Option Limits → List ℕ
limits_field (Some f) = tabbed (decimal f.range) (decimal f.count ∷ [])
limits_field None = codes "none"

-- the first line: `opened`, the kind, `watch`, and its limits
abbrev pub opened_line : List ℕ → Option Limits → List ℕ
opened_line kind limits = tabbed (codes "opened") (kind ∷ codes "watch" ∷ limits_field limits ∷ [])
