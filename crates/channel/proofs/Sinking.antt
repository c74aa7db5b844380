-- Under a granted sheet: a feed within the range keeps the rows in the box, and zeros let them sink to the band.
use Rattle.std.proofs.Common.{◌≡◌, ℕ, suc, ◌+◌, ◌<◌, ◌≤◌, true, false, cond, eqb, ltb, leb, List, map, length, ℤ, pos, nat_abs, Some, None, Ok, Option, sym, refl, ap, ◌∙◌, subst, arith}
use borrow.Author.Differences.{ints}
use Rattle.arithmetic.specs.Settings.{FixedArithmetic, Lawful}
use Rattle.exact.specs.Numbers.{Exact, whole}
use Rattle.exact.proofs.EnclosureLaws.{encloses_self, wider}
use Rattle.kinds.specs.declared.values.Bound.{Bound}
use Rattle.kinds.specs.Arithmetics.{fixed, exact}
use Rattle.kinds.specs.Kinds.{Goes}
use Rattle.kinds.specs.Bounds.{bound_of, bound_arithmetic, BoundCovers}
use Rattle.wiring.specs.Graphs.{Graph}
use Rattle.wiring.specs.Lists.{Each₂, Each₃}
use Rattle.wiring.specs.Runs.{Worked, run}
use Rattle.wiring.specs.Covering.{Related}
use Rattle.wiring.proofs.Simulation.{only, simulation}
use Rattle.sheet.specs.Rounds.{quiet_round, peak_arithmetic}
use Rattle.sheet.specs.Sheets.{Below, Falls, rests, lowers, Sheet, Granted}
use Rattle.sheet.proofs.Places.{each_length, each_flip, each_map, each_refl}
use Rattle.sheet.proofs.Simulations.{Goes₂, Related₂, simulation₂}
use Rattle.sheet.proofs.Boxes.{registers_length, quiet_closed, peaks_go}
use Rattle.channel.specs.declared.state.State.{State}
use Rattle.channel.specs.declared.state.State.TheVariants.{Settled, Sounding, Falling, Spoilt, Lapsed}
use Rattle.channel.specs.declared.state.Event.TheVariants.{Beyond, Loud, Zero}
use Rattle.channel.specs.Watches.{reaches, on_loud, on_zero, moves, sampled, Live}
use Rattle.channel.specs.Channels.{feed, hush, watched, zeros}
use Rattle.channel.specs.Theorem.{strict, limits_of}
use Rattle.channel.proofs.Places.{each₂_both, each₃_both, each₃_left, each₂_one, each₃_one}
use Rattle.channel.proofs.Instances.{Under, Magnitude, bound_simulates_strict, bound_simulates_fixed, under_simulates, magnitude_simulates}

wider_covers : (a b : Bound) (f : ℤ) (e : Exact) → Below a b → BoundCovers a f e → BoundCovers b f e
wider_covers a b f e h c =
    let p = h.peak in let q = h.ceiling in let m = c.magnitude in
    record { magnitude = omega arith; near = wider _ _ _ _ _ _ (omega (arith, ints)) (omega (arith, ints)) c.near }

zero_covers : (b : Bound) → BoundCovers b (pos 0) (whole (pos 0))
zero_covers b = wider_covers (bound_of 0 0) b (pos 0) (whole (pos 0)) (record { peak = omega arith; ceiling = omega arith }) (record { magnitude = omega arith; near = encloses_self (pos 0) })

module _ (s : FixedArithmetic) (law : Lawful s) (g : Graph) (cs : List ℤ) (X : ℕ) (t : Sheet) (granted : Granted s g cs X t) where
  -- the round from the box
  abbrev pub box_round : Worked Bound
  box_round = granted.closed.made

  abbrev pub tops : List ℕ
  tops = map (λ b. b.peak) t.box

  box_length : length t.box ≡ length g.sources
  box_length = sym (each_length granted.closed.within) ∙ registers_length (bound_arithmetic s) g cs t.box (pos X) box_round granted.closed.is_taken

  -- ---- rounds with input 0
  -- a round with input 0 raises none of the peaks
  abbrev Descends : List ℕ → Type 0
  Descends B = (r : Worked ℕ) → quiet_round s g cs B ≡ Ok r → Each₂ ◌≤◌ r.registers B

  box_descends : Descends tops
  box_descends r e =
      let c = quiet_closed s law g cs X t.box granted.closed in
      let q = peaks_go s law g cs t.box c.made c.is_taken in
      let same : q.0 ≡ r = only _ _ (sym q.1 ∙ e) in
      subst (λ rs. Each₂ ◌≤◌ rs tops) (q.2 ∙ ap (λ (x : Worked ℕ). x.registers) same) (each_map (λ (b : Bound). b.peak) (λ (b : Bound). b.peak) (λ a b h. h.peak) c.within)

  next_descends : (B : List ℕ) (r : Worked ℕ) → quiet_round s g cs B ≡ Ok r → Each₂ ◌≤◌ r.registers B → Descends r.registers
  next_descends B r e d r' e' =
      let m = simulation₂ (peak_arithmetic s) (peak_arithmetic s) Under (pos 0) (pos 0) (under_simulates s law) g cs B r.registers (each_flip d) r e in
      let q : m.left ≡ r' = only _ _ (sym m.left_is ∙ e') in
      subst (λ (x : Worked ℕ). Each₂ ◌≤◌ x.registers r.registers) q (each_flip m.related.registers)

  -- one more round from the band
  record Rests (B : List ℕ) (top : ℕ) : Type 0 where
    made : Worked ℕ
    ran : quiet_round s g cs B ≡ Ok made
    down : Each₂ ◌≤◌ made.registers B
    out : top ≡ made.output

  comes_to_rest : {B band : List ℕ} {n top : ℕ} → Falls s g cs B n band top → Descends B → Rests band top
  comes_to_rest (rests r e h) d = record { made = r; ran = e; down = d r e; out = refl }
  comes_to_rest (lowers {peaks = B} r e i h f) d = comes_to_rest f (next_descends B r e (d r e))

  band_rests : Rests t.band t.output_band
  band_rests = comes_to_rest granted.falls box_descends

  band_length : length t.band ≡ length g.sources
  band_length = sym (each_length band_rests.down) ∙ registers_length (peak_arithmetic s) g cs t.band (pos 0) band_rests.made band_rests.ran

  -- ---- how far a fixed row has sunk
  -- after n zeros the row is below bars, from which the other rounds lead to the band
  pub record Sinking (n : ℕ) (fs : List ℤ) : Type 0 where
    pub bars : List ℕ
    pub left : ℕ
    pub falls : Falls s g cs bars left t.band t.output_band
    pub sum : left + n ≡ t.count
    pub below : Each₂ Magnitude bars fs

  abbrev pub Sunk : Option State → List ℤ → Type 0
  Sunk None fs = Unit {0}
  Sunk (Some Settled) fs = Each₂ Magnitude t.band fs
  Sunk (Some Sounding) fs = 0 < t.count
  Sunk (Some (Falling n)) fs = Sinking n fs × (n < t.count)
  Sunk (Some Spoilt) fs = Unit {0}
  Sunk (Some Lapsed) fs = Unit {0}

  -- both rows are in the box
  abbrev pub Rows : List ℤ → List Exact → Type 0
  Rows fs es = Each₃ BoundCovers t.box fs es

  in_tops : (fs : List ℤ) (es : List Exact) → Rows fs es → Each₂ Magnitude tops fs
  in_tops fs es r = each₃_left (λ (b : Bound). b.peak) (λ a b c h. h.magnitude) r

  -- a feed of 0 from below bars
  sinks : (bars : List ℕ) (r : Worked ℕ) → quiet_round s g cs bars ≡ Ok r → (fs : List ℤ) → Each₂ Magnitude bars fs → Goes₂ (Related₂ Magnitude) r (run (fixed s) g cs fs (pos 0))
  sinks bars r e fs h = simulation₂ (peak_arithmetic s) (fixed s) Magnitude (pos 0) (pos 0) (magnitude_simulates s law) g cs bars fs h r e

  -- a feed of 0 from within the band has its output within the output band, and leaves the row within the band
  pub band_holds : (fs : List ℤ) → Each₂ Magnitude t.band fs → (f : Worked ℤ) × (run (fixed s) g cs fs (pos 0) ≡ Ok f) × (nat_abs f.output ≤ t.output_band) × Each₂ Magnitude t.band f.registers
  band_holds fs h =
      let m = sinks t.band band_rests.made band_rests.ran fs h in
      let o = m.related.output in
      let q = band_rests.out in
      (m.left, m.left_is, omega arith, each₂_both (λ (a b : ℕ) (v : ℤ) h k. omega arith) band_rests.down m.related.registers)

  fall_one : {B band : List ℕ} {k top : ℕ} → Falls s g cs B k band top → 0 < k → (fs : List ℤ) → Each₂ Magnitude B fs → (f : Worked ℤ) → run (fixed s) g cs fs (pos 0) ≡ Ok f
      → (B' : List ℕ) × (k' : ℕ) × (k ≡ suc k') × Falls s g cs B' k' band top × Each₂ Magnitude B' f.registers
  fall_one (rests r e h) p fs b f q = absurd (omega arith)
  fall_one (lowers {peaks = B} {n = k'} r e i h rest) p fs b f q =
      let m = sinks B r e fs b in
      let x : m.left ≡ f = only _ _ (sym m.left_is ∙ q) in
      (r.registers, k', refl, rest, subst (λ (z : Worked ℤ). Each₂ Magnitude r.registers z.registers) x m.related.registers)

  at_band : {B band : List ℕ} {k top : ℕ} → Falls s g cs B k band top → k ≡ 0 → B ≡ band
  at_band (rests r e h) q = refl
  at_band (lowers r e i h rest) q = absurd (omega arith)

  sinking_fed : (n : ℕ) (fs : List ℤ) (f : Worked ℤ) → Sinking n fs → n < t.count → run (fixed s) g cs fs (pos 0) ≡ Ok f → Sinking (n + 1) f.registers
  sinking_fed n fs f d l q =
      let m = d.sum in
      let x = fall_one d.falls (omega arith) fs d.below f q in
      let y = x.2 in
      record { bars = x.0; left = x.1; falls = x.3; sum = omega arith; below = x.4 }

  reaches_sunk : (n : ℕ) (fs : List ℤ) → Sinking (n + 1) fs → n < t.count → Sunk (Some (reaches t.count (n + 1))) fs
  reaches_sunk n fs d l = elim (leb t.count (n + 1)) as (λ b. leb t.count (n + 1) ≡ b → Sunk (Some (cond b Settled (Falling (n + 1)))) fs) [
    | true ↦ (λ e. let k : t.count ≤ n + 1 = grind arith in let m = d.sum in subst (λ B. Each₂ Magnitude B fs) (at_band d.falls (omega arith)) d.below)
    | false ↦ (λ e. (d, grind arith))
  ] refl

  loud_sunk : (fs : List ℤ) (es : List Exact) → Rows fs es → Sunk (Some (cond (eqb t.count 0) Settled Sounding)) fs
  loud_sunk fs es r = elim (eqb t.count 0) as (λ b. eqb t.count 0 ≡ b → Sunk (Some (cond b Settled Sounding)) fs) [
    | true ↦ (λ e. subst (λ B. Each₂ Magnitude B fs) (at_band granted.falls (grind arith)) (in_tops fs es r))
    | false ↦ (λ e. grind arith)
  ] refl

  zero_sunk : (q : State) → Live (Some q) → (fs : List ℤ) (es : List Exact) → Rows fs es → Sunk (Some q) fs → (f : Worked ℤ) → run (fixed s) g cs fs (pos 0) ≡ Ok f → Sunk (Some (on_zero t.count q)) f.registers
  zero_sunk Settled l fs es r d f e = let m = band_holds fs d in let x : m.0 ≡ f = only _ _ (sym m.1 ∙ e) in subst (λ (z : Worked ℤ). Each₂ Magnitude t.band z.registers) x m.3
  zero_sunk Sounding l fs es r d f e = reaches_sunk 0 f.registers (sinking_fed 0 fs f (record { bars = tops; left = t.count; falls = granted.falls; sum = omega arith; below = in_tops fs es r }) d e) d
  zero_sunk (Falling n) l fs es r d f e = reaches_sunk n f.registers (sinking_fed n fs f d.0 d.1 e) d.1
  zero_sunk Spoilt l fs es r d f e = absurd l
  zero_sunk Lapsed l fs es r d f e = absurd l

  louder_sunk : (q : State) → Live (Some q) → (fs : List ℤ) (es : List Exact) → Rows fs es → Sunk (Some (on_loud t.count q)) fs
  louder_sunk Settled l fs es r = loud_sunk fs es r
  louder_sunk Sounding l fs es r = loud_sunk fs es r
  louder_sunk (Falling n) l fs es r = loud_sunk fs es r
  louder_sunk Spoilt l fs es r = absurd l
  louder_sunk Lapsed l fs es r = absurd l

  fed_sunk : (q : State) (u : ℤ) → Live (Some q) → nat_abs u ≤ X → (fs : List ℤ) (es : List Exact) → Rows fs es → Sunk (Some q) fs → (f : Worked ℤ) (e : Worked Exact) → run (fixed s) g cs fs u ≡ Ok f → Rows f.registers e.registers
      → Sunk (Some (moves t.count q (sampled X u))) f.registers
  fed_sunk q u l h fs es r d f e run_is r' = elim (ltb X (nat_abs u)) as (λ b. ltb X (nat_abs u) ≡ b → Sunk (Some (moves t.count q (cond b Beyond (cond (eqb (nat_abs u) 0) Zero Loud)))) f.registers) [
    | true ↦ (λ i. absurd (let k : X < nat_abs u = grind arith in omega arith))
    | false ↦ (λ i. elim (eqb (nat_abs u) 0) as (λ b. eqb (nat_abs u) 0 ≡ b → Sunk (Some (moves t.count q (cond b Zero Loud))) f.registers) [
      | true ↦ (λ j. let k : nat_abs u ≡ 0 = grind arith in let z : u ≡ pos 0 = omega (arith, ints) in zero_sunk q l fs es r d f (subst (λ y. run (fixed s) g cs fs y ≡ Ok f) z run_is))
      | false ↦ (λ j. louder_sunk q l f.registers e.registers r')
    ] refl)
  ] refl

  -- ---- what the calls leave
  -- a sample within the range, from rows in the box: both runs are taken and stay under the round from the box
  pub stays : (fs : List ℤ) (es : List Exact) → Rows fs es → (u : ℤ) → nat_abs u ≤ X → Goes (Related BoundCovers) box_round (run (fixed s) g cs fs u) (run (exact s) g cs es u)
  stays fs es r u h = simulation (bound_arithmetic s) (fixed s) (exact s) BoundCovers ◌≡◌ (pos X) u u (bound_simulates_fixed s law X u h) cs cs (each_refl (λ c. refl) cs) refl t.box fs es r g box_round granted.closed.is_taken

  -- and no raw number leaves its word
  pub stays_strict : (fs : List ℤ) (es : List Exact) → Rows fs es → (u : ℤ) → nat_abs u ≤ X → Goes (Related BoundCovers) box_round (run (strict s) g cs fs u) (run (exact s) g cs es u)
  stays_strict fs es r u h = simulation (bound_arithmetic s) (strict s) (exact s) BoundCovers ◌≡◌ (pos X) u u (bound_simulates_strict s law X u h) cs cs (each_refl (λ c. refl) cs) refl t.box fs es r g box_round granted.closed.is_taken

  -- the registers of the round are in the box again
  pub back_in : (fs : List ℤ) (es : List Exact) → Each₃ BoundCovers box_round.registers fs es → Rows fs es
  back_in fs es h = each₃_both wider_covers granted.closed.within h

  pub zero_rows : Rows (zeros g (pos 0)) (zeros g (whole (pos 0)))
  zero_rows = each₃_one (pos 0) (whole (pos 0)) zero_covers t.box g.sources box_length

  pub hush_sunk : (row : ℕ) (p : Option State) → Sunk (watched (Some (limits_of X t)) (hush row) p) (zeros g (pos 0))
  hush_sunk row p = go p
    where
      band_zeros : Each₂ Magnitude t.band (zeros g (pos 0))
      band_zeros = each₂_one (pos 0) (λ a. omega arith) t.band g.sources band_length

      go : (p : Option State) → Sunk (watched (Some (limits_of X t)) (hush row) p) (zeros g (pos 0))
      go None = tt
      go (Some Settled) = band_zeros
      go (Some Sounding) = band_zeros
      go (Some (Falling n)) = band_zeros
      go (Some Spoilt) = band_zeros
      go (Some Lapsed) = tt

  pub feed_sunk : (p : Option State) (row working : ℕ) (u : ℤ) → Live p → nat_abs u ≤ X → (fs : List ℤ) (es : List Exact) → Rows fs es → Sunk p fs → (f : Worked ℤ) (e : Worked Exact) → run (fixed s) g cs fs u ≡ Ok f → Rows f.registers e.registers
      → Sunk (watched (Some (limits_of X t)) (feed row working u) p) f.registers
  feed_sunk None row working u l = absurd l
  feed_sunk (Some q) row working u l = fed_sunk q u l
