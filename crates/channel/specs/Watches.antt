-- The watch: its states, moved by accepted calls.
use Rattle.std.specs.Prelude.{ℕ, ◌+◌, cond, ℤ, Some, None, Option, ◌==◌, nat_le, nat_lt, unsigned_abs}
use Rattle.channel.specs.declared.state.State.{State}
use Rattle.channel.specs.declared.state.State.TheVariants.{Settled, Sounding, Falling, Spoilt, Lapsed}
use Rattle.channel.specs.declared.state.Event.{Event}
use Rattle.channel.specs.declared.state.Event.TheVariants.{Hush, Swap, Beyond, Loud, Zero}

-- on reaching N zeros, settled
abbrev pub reaches : ℕ → ℕ → State
reaches N n = cond (nat_le N n) Settled (Falling n)

-- a hush settles all but a lapsed watch
abbrev pub on_hush : State → State
on_hush Settled = Settled
on_hush Sounding = Settled
on_hush (Falling n) = Settled
on_hush Spoilt = Settled
on_hush Lapsed = Lapsed

-- a sample beyond the range spoils all but a lapsed watch
abbrev pub on_beyond : State → State
on_beyond Settled = Spoilt
on_beyond Sounding = Spoilt
on_beyond (Falling n) = Spoilt
on_beyond Spoilt = Spoilt
on_beyond Lapsed = Lapsed

-- another sample that is not 0: sounding, or settled if N is 0
abbrev pub on_loud : ℕ → State → State
on_loud N Settled = cond (N == 0) Settled Sounding
on_loud N Sounding = cond (N == 0) Settled Sounding
on_loud N (Falling n) = cond (N == 0) Settled Sounding
on_loud N Spoilt = Spoilt
on_loud N Lapsed = Lapsed

-- a zero: one more of N
abbrev pub on_zero : ℕ → State → State
on_zero N Settled = Settled
on_zero N Sounding = reaches N 1
on_zero N (Falling n) = reaches N (n + 1)
on_zero N Spoilt = Spoilt
on_zero N Lapsed = Lapsed

-- the state after one accepted event
abbrev pub moves : ℕ → State → Event → State
moves N p Hush = on_hush p
moves N p Swap = Lapsed
moves N p Beyond = on_beyond p
moves N p Loud = on_loud N p
moves N p Zero = on_zero N p

-- what a sample is to a watch with the range X
abbrev pub sampled : ℕ → ℤ → Event
sampled X u = cond (nat_lt X (unsigned_abs u)) Beyond (cond (unsigned_abs u == 0) Zero Loud)

-- there is a watch, and it is neither spoilt nor lapsed
abbrev pub Live : Option State → Type 0
Live None = ⊥
Live (Some Settled) = Unit {0}
Live (Some Sounding) = Unit {0}
Live (Some (Falling n)) = Unit {0}
Live (Some Spoilt) = ⊥
Live (Some Lapsed) = ⊥
