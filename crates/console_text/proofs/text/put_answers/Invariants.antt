use Rattle.std.proofs.Common.{◌≡◌, ◌+◌, ◌≤◌, ◌++◌, length, drop, string_bytes}
use Rattle.std.specs.Slice.Iter.{iter_rest}
use Rattle.console_text.specs.Texts.{read_count, answers}
use Rattle.console_text.proofs.text.put_answers.Given as goal

-- what is still to come makes the text whole, and there are entries enough for it
abbrev pub invariant-loop-i : goal.invariant-loop-i
invariant-loop-i g l =
    (string_bytes l.text ++ answers g.V.Shown.fields (l.i + 1) (drop l.i l.marks) (iter_rest l.entries) ≡ string_bytes l.initial.text ++ answers g.V.Shown.fields 1 l.marks l.log)
    × (read_count (drop l.i l.marks) ≤ length (iter_rest l.entries))
