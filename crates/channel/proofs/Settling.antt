-- What the watch says of the accepted calls.
use Rattle.std.proofs.Common.{◌≡◌, ℕ, zero, suc, ◌+◌, ◌<◌, ◌≤◌, Bool, true, false, cond, eqb, ltb, leb, ◌⊎◌, ◌↔◌, List, [], ◌∷◌, length, get_or, ℤ, pos, nat_abs, Some, None, Option, refl, ap, inl, inr, ⊎_elim, arith}
use borrow.Author.Differences.{ints}
use Rattle.arithmetic.specs.Settings.{FixedArithmetic}
use Rattle.kinds.specs.Arithmetics.{Arithmetic}
use Rattle.wiring.specs.Graphs.{Graph}
use Rattle.channel.specs.declared.state.State.{State}
use Rattle.channel.specs.declared.state.State.TheVariants.{Settled, Sounding, Falling, Spoilt, Lapsed}
use Rattle.channel.specs.declared.state.Event.TheVariants.{Beyond, Loud, Zero}
use Rattle.channel.specs.declared.state.Limits.{Limits}
use Rattle.channel.specs.Watches.{reaches, on_hush, on_beyond, on_loud, on_zero, moves, sampled, Live}
use Rattle.channel.specs.Channels.{Call, feed, swap, hush, watched, Channel, after, history}
use Rattle.channel.specs.References.{Reference, accepted, Quiet, FeedsZero, Zeros}
use Rattle.channel.proofs.Histories.{Lasting, lasts}

abs_zero : (u : ℤ) → eqb (nat_abs u) 0 ≡ true → u ≡ pos 0
abs_zero u e = let h : nat_abs u ≡ 0 = grind arith in omega (arith, ints)

abs_some : (u : ℤ) → eqb (nat_abs u) 0 ≡ false → u ≡ pos 0 → ⊥
abs_some u e q = let h : nat_abs u ≡ 0 = ap nat_abs q in grind arith

abbrev counted : Bool → ℕ → ℕ
counted true n = suc n
counted false n = 0

-- how many of the last calls fed zero
abbrev silence : List Call → ℕ
silence [] = 0
silence (feed row working u ∷ h) = counted (eqb (nat_abs u) 0) (silence h)
silence (swap cs ∷ h) = 0
silence (hush row ∷ h) = 0

abbrev Means : ℕ → List Call → State → Type 0
Means N h Settled = Quiet h ⊎ (N ≤ silence h)
Means N h Sounding = (Quiet h → ⊥) × (silence h ≡ 0) × (0 < N)
Means N h (Falling n) = (Quiet h → ⊥) × (silence h ≡ n) × (n < N)
Means N h Spoilt = Unit {0}
Means N h Lapsed = Unit {0}

module _ (N row working : ℕ) (u : ℤ) (h : List Call) where
  reached : (n : ℕ) → (Quiet h → ⊥) → silence (feed row working u ∷ h) ≡ n + 1 → Means N (feed row working u ∷ h) (reaches N (n + 1))
  reached n q s = elim (leb N (n + 1)) as (λ b. leb N (n + 1) ≡ b → Means N (feed row working u ∷ h) (cond b Settled (Falling (n + 1))))
      [ true ↦ (λ e. inr (let k : N ≤ n + 1 = grind arith in omega arith)) | false ↦ (λ e. ((λ z. q z.1), s, grind arith)) ] refl

  louder : (u ≡ pos 0 → ⊥) → silence (feed row working u ∷ h) ≡ 0 → Means N (feed row working u ∷ h) (cond (eqb N 0) Settled Sounding)
  louder q s = elim (eqb N 0) as (λ b. eqb N 0 ≡ b → Means N (feed row working u ∷ h) (cond b Settled Sounding))
      [ true ↦ (λ e. inr (let k : N ≡ 0 = grind arith in omega arith)) | false ↦ (λ e. ((λ z. q z.0), s, grind arith)) ] refl

  on_beyond_means : (p : State) → Means N (feed row working u ∷ h) (on_beyond p)
  on_beyond_means Settled = tt
  on_beyond_means Sounding = tt
  on_beyond_means (Falling n) = tt
  on_beyond_means Spoilt = tt
  on_beyond_means Lapsed = tt

  on_loud_means : (p : State) → eqb (nat_abs u) 0 ≡ false → Means N (feed row working u ∷ h) (on_loud N p)
  on_loud_means Settled e = louder (abs_some u e) (rw e)
  on_loud_means Sounding e = louder (abs_some u e) (rw e)
  on_loud_means (Falling n) e = louder (abs_some u e) (rw e)
  on_loud_means Spoilt e = tt
  on_loud_means Lapsed e = tt

  one_more : eqb (nat_abs u) 0 ≡ true → silence (feed row working u ∷ h) ≡ suc (silence h)
  one_more e = rw e

  on_zero_means : (p : State) → Means N h p → eqb (nat_abs u) 0 ≡ true → Means N (feed row working u ∷ h) (on_zero N p)
  on_zero_means Settled m e = ⊎_elim (λ q. inl (abs_zero u e, q)) (λ s. inr (let k = one_more e in omega arith)) m
  on_zero_means Sounding m e = reached 0 m.0 (let k = one_more e in omega (arith, m.1))
  on_zero_means (Falling n) m e = reached n m.0 (let k = one_more e in omega (arith, m.1))
  on_zero_means Spoilt m e = tt
  on_zero_means Lapsed m e = tt

  fed_means : (X : ℕ) (p : State) → Means N h p → Means N (feed row working u ∷ h) (moves N p (sampled X u))
  fed_means X p m = elim (ltb X (nat_abs u)) as (λ t. Means N (feed row working u ∷ h) (moves N p (cond t Beyond (cond (eqb (nat_abs u) 0) Zero Loud)))) [
    | true ↦ on_beyond_means p
    | false ↦ (elim (eqb (nat_abs u) 0) as (λ t. eqb (nat_abs u) 0 ≡ t → Means N (feed row working u ∷ h) (moves N p (cond t Zero Loud)))
        [ true ↦ (λ e. on_zero_means p m e) | false ↦ (λ e. on_loud_means p e) ] refl)
  ]

hush_means : (N row : ℕ) (h : List Call) (p : State) → Means N (hush row ∷ h) (on_hush p)
hush_means N row h Settled = inl tt
hush_means N row h Sounding = inl tt
hush_means N row h (Falling n) = inl tt
hush_means N row h Spoilt = inl tt
hush_means N row h Lapsed = tt

silence_within : (h : List Call) → silence h ≤ length h
silence_within [] = omega arith
silence_within (feed row working u ∷ h) = let t = silence_within h in elim (eqb (nat_abs u) 0) as (λ b. counted b (silence h) ≤ suc (length h)) [ true ↦ omega arith | false ↦ omega arith ]
silence_within (swap cs ∷ h) = omega arith
silence_within (hush row ∷ h) = omega arith

silence_at : (h : List Call) (i : ℕ) → i < silence h → FeedsZero (get_or h i (hush 0))
silence_at [] i p = absurd (omega arith)
silence_at (feed row working u ∷ h) zero p = first (eqb (nat_abs u) 0) refl p
  where
    first : (b : Bool) → eqb (nat_abs u) 0 ≡ b → 0 < counted b (silence h) → u ≡ pos 0
    first true e p = abs_zero u e
    first false e p = absurd (omega arith)
silence_at (feed row working u ∷ h) (suc i) p = silence_at h i (down (eqb (nat_abs u) 0) p)
  where
    down : (b : Bool) → suc i < counted b (silence h) → i < silence h
    down true p = omega arith
    down false p = absurd (omega arith)
silence_at (swap cs ∷ h) i p = absurd (omega arith)
silence_at (hush row ∷ h) i p = absurd (omega arith)

silence_covers : (N : ℕ) (h : List Call) → Zeros N h → N ≤ silence h
silence_covers zero h z = omega arith
silence_covers (suc N) [] z = absurd (let k = z.0 in omega arith)
silence_covers (suc N) (feed row working u ∷ h) z =
    let u_is : u ≡ pos 0 = z.1 0 (omega arith) in
    let k = z.0 in
    let t : N ≤ silence h = silence_covers N h (omega arith, λ i p. z.1 (suc i) (omega arith)) in
    let e : eqb (nat_abs u) 0 ≡ true = rw u_is in
    let n : silence (feed row working u ∷ h) ≡ suc (silence h) = rw e in
    omega arith
silence_covers (suc N) (swap cs ∷ h) z = absurd (z.1 0 (omega arith))
silence_covers (suc N) (hush row ∷ h) z = absurd (z.1 0 (omega arith))

settles : (N : ℕ) (h : List Call) (p : State) → Means N h p → Live (Some p) → (◌≡◌ {A = Option State} (Some p) (Some Settled)) ↔ (Quiet h ⊎ Zeros N h)
settles N h Settled m live = ((λ e. ⊎_elim inl (λ s. inr (let w = silence_within h in (omega arith, λ i p. silence_at h i (omega arith)))) m), (λ z. refl))
settles N h Sounding m live = (
  (λ e. let n : ◌≡◌ {A = ℕ} 0 1 = cc in absurd (omega arith)),
  (λ z. absurd (⊎_elim m.0 (λ s. let t = silence_covers N h s in omega (arith, m.1, m.2)) z)),
)
settles N h (Falling n) m live = (
  (λ e. let z : ◌≡◌ {A = ℕ} 0 1 = cc in absurd (omega arith)),
  (λ z. absurd (⊎_elim m.0 (λ s. let t = silence_covers N h s in omega (arith, m.1, m.2)) z)),
)
settles N h Spoilt m live = absurd live
settles N h Lapsed m live = absurd live

abbrev Meant : ℕ → List Call → Option State → Type 0
Meant N h None = Unit {0}
Meant N h (Some p) = Means N h p

module _ {V : Type 0} (k : Arithmetic V) (s : FixedArithmetic) (w : Graph) (f : Limits) (cs : List ℤ) where
  abbrev Told : Channel V → Reference → List Call → Type 0
  Told ch b h = Meant f.count h ch.watch

  feeds_told : (p : Option State) (h : List Call) (row working : ℕ) (u : ℤ) → Meant f.count h p → Meant f.count (feed row working u ∷ h) (watched (Some f) (feed row working u) p)
  feeds_told None h row working u m = tt
  feeds_told (Some p) h row working u m = fed_means f.count row working u h f.range p m

  swaps_told : (p : Option State) (h : List Call) (new : List ℤ) → Meant f.count (swap new ∷ h) (watched (Some f) (swap new) p)
  swaps_told None h new = tt
  swaps_told (Some p) h new = tt

  hushes_told : (p : Option State) (h : List Call) (row : ℕ) → Meant f.count (hush row ∷ h) (watched (Some f) (hush row) p)
  hushes_told None h row = tt
  hushes_told (Some p) h row = hush_means f.count row h p

  tell : Lasting k s w (Some f) cs Told
  tell = record {
    opened = inl tt;
    feeds = λ ch b h p row working u r i e. feeds_told ch.watch h row working u p;
    swaps = λ ch b h p new n. swaps_told ch.watch h new;
    hushes = λ ch b h p row. hushes_told ch.watch h row;
  }

  settles_if : (h : List Call) (p : Option State) → Meant f.count h p → Live p → (p ≡ Some Settled) ↔ (Quiet h ⊎ Zeros f.count h)
  settles_if h None m live = absurd live
  settles_if h (Some p) m live = settles f.count h p m live

  pub settling : (h : List Call) → Live (after k s w (Some f) cs h).watch
      → ((after k s w (Some f) cs h).watch ≡ Some Settled) ↔ (Quiet (accepted (history k s w (Some f) cs h)) ⊎ Zeros f.count (accepted (history k s w (Some f) cs h)))
  settling h live = settles_if _ _ (lasts k s w (Some f) cs Told tell h) live
