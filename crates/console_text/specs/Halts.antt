-- Why there is no text.
use Rattle.std.specs.Prelude.{ℕ, Some, None, Option}
use Rattle.channel.specs.Opening.{open_number}
use Rattle.replay.specs.declared.log.ReplayFault.{ReplayFault}
use Rattle.replay.specs.declared.log.ReplayFault.TheVariants.{Open, Memory as NoMemory}
use Rattle.console_text.specs.declared.halt.Halt.{Halt}
use Rattle.console_text.specs.declared.halt.Halt.TheVariants.{Refused, Memory}

-- refused by a number; without a number, memory ran out
abbrev pub halted : Option ℕ → Halt
halted (Some n) = Refused n
halted None = Memory

-- there is no log: the number of open's fault, or memory ran out
abbrev pub unopened : ReplayFault → Halt
unopened (Open f) = Refused (open_number f)
unopened NoMemory = Memory
