-- How the watch came to be live.
use Rattle.std.proofs.Common.{◌≡◌, ℕ, ◌≤◌, true, false, cond, eqb, ltb, List, ℤ, nat_abs, Some, None, Option, refl, arith}
use Rattle.channel.specs.declared.state.State.{State}
use Rattle.channel.specs.declared.state.State.TheVariants.{Settled, Sounding, Falling, Spoilt, Lapsed}
use Rattle.channel.specs.declared.state.Event.{Event}
use Rattle.channel.specs.declared.state.Event.TheVariants.{Hush, Swap, Beyond, Loud, Zero}
use Rattle.channel.specs.declared.state.Limits.{Limits}
use Rattle.channel.specs.Watches.{on_beyond, on_loud, on_zero, moves, sampled, Live}
use Rattle.channel.specs.Channels.{feed, swap, hush, watched}

-- not Lapsed
abbrev pub Awake : Option State → Type 0
Awake None = ⊥
Awake (Some Settled) = Unit {0}
Awake (Some Sounding) = Unit {0}
Awake (Some (Falling n)) = Unit {0}
Awake (Some Spoilt) = Unit {0}
Awake (Some Lapsed) = ⊥

pub live_awake : (p : Option State) → Live p → Awake p
live_awake None l = l
live_awake (Some Settled) l = tt
live_awake (Some Sounding) l = tt
live_awake (Some (Falling n)) l = tt
live_awake (Some Spoilt) l = tt
live_awake (Some Lapsed) l = l

not_beyond : (p : State) → Live (Some (on_beyond p)) → ⊥
not_beyond Settled l = l
not_beyond Sounding l = l
not_beyond (Falling n) l = l
not_beyond Spoilt l = l
not_beyond Lapsed l = l

live_loud : (N : ℕ) (p : State) → Live (Some (on_loud N p)) → Live (Some p)
live_loud N Settled l = tt
live_loud N Sounding l = tt
live_loud N (Falling n) l = tt
live_loud N Spoilt l = l
live_loud N Lapsed l = l

live_zero : (N : ℕ) (p : State) → Live (Some (on_zero N p)) → Live (Some p)
live_zero N Settled l = tt
live_zero N Sounding l = tt
live_zero N (Falling n) l = tt
live_zero N Spoilt l = l
live_zero N Lapsed l = l

live_sampled : (N X : ℕ) (u : ℤ) (p : State) → Live (Some (moves N p (sampled X u))) → Live (Some p) × (nat_abs u ≤ X)
live_sampled N X u p = elim (ltb X (nat_abs u)) as (λ t. ltb X (nat_abs u) ≡ t → Live (Some (moves N p (cond t Beyond (cond (eqb (nat_abs u) 0) Zero Loud)))) → Live (Some p) × (nat_abs u ≤ X)) [
  | true ↦ (λ e l. absurd (not_beyond p l))
  | false ↦ (λ e l. (elim (eqb (nat_abs u) 0) as (λ t. Live (Some (moves N p (cond t Zero Loud))) → Live (Some p)) [ true ↦ live_zero N p | false ↦ live_loud N p ] l, grind arith))
] refl

-- a feed that leaves the watch live found it live, and was within the range
pub live_fed : (f : Limits) (row working : ℕ) (u : ℤ) (p : Option State) → Live (watched (Some f) (feed row working u) p) → Live p × (nat_abs u ≤ f.range)
live_fed f row working u None l = absurd l
live_fed f row working u (Some p) l = live_sampled f.count f.range u p l

awake_moves : (N : ℕ) (p : State) (e : Event) → Awake (Some (moves N p e)) → Awake (Some p)
awake_moves N Settled e a = tt
awake_moves N Sounding e a = tt
awake_moves N (Falling n) e a = tt
awake_moves N Spoilt e a = tt
awake_moves N Lapsed Hush a = a
awake_moves N Lapsed Swap a = a
awake_moves N Lapsed Beyond a = a
awake_moves N Lapsed Loud a = a
awake_moves N Lapsed Zero a = a

pub awake_fed : (f : Limits) (row working : ℕ) (u : ℤ) (p : Option State) → Awake (watched (Some f) (feed row working u) p) → Awake p
awake_fed f row working u None a = a
awake_fed f row working u (Some p) a = awake_moves f.count p (sampled f.range u) a

pub awake_hushed : (f : Limits) (row : ℕ) (p : Option State) → Awake (watched (Some f) (hush row) p) → Awake p
awake_hushed f row None a = a
awake_hushed f row (Some p) a = awake_moves f.count p Hush a

pub not_swapped : (f : Limits) (new : List ℤ) (p : Option State) → Awake (watched (Some f) (swap new) p) → ⊥
not_swapped f new None a = a
not_swapped f new (Some p) a = a
