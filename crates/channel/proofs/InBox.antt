-- While the watch is live, the reference rows are in the box, and have sunk as far as the watch says.
use Rattle.std.proofs.Common.{◌≡◌, ℕ, ◌≤◌, List, ℤ, nat_abs, Some, Ok, Err, Result, sym, refl, ap, ◌∙◌, subst₂}
use Rattle.arithmetic.specs.Settings.{FixedArithmetic, Lawful}
use Rattle.exact.specs.Numbers.{Exact}
use Rattle.kinds.specs.Arithmetics.{Arithmetic, fixed, exact}
use Rattle.kinds.specs.Bounds.{BoundCovers}
use Rattle.wiring.specs.declared.faults.RunFault.{RunFault}
use Rattle.wiring.specs.Graphs.{Graph}
use Rattle.wiring.specs.Runs.{Worked, run}
use Rattle.wiring.specs.Covering.{Related}
use Rattle.sheet.specs.Sheets.{Sheet, Granted}
use Rattle.channel.specs.declared.state.State.TheVariants.{Settled}
use Rattle.channel.specs.declared.state.Limits.{Limits}
use Rattle.channel.specs.Watches.{Live}
use Rattle.channel.specs.Channels.{Call, feed, swap, watched, Channel, after, history}
use Rattle.channel.specs.References.{Reference, onto, fixed_run, exact_run, reference, accepted}
use Rattle.channel.specs.Theorem.{limits_of}
use Rattle.channel.proofs.Histories.{Lasting, lasts}
use Rattle.channel.proofs.Watches.{Awake, live_awake, live_fed, awake_fed, awake_hushed, not_swapped}
use Rattle.channel.proofs.Sinking.{box_round, Sunk, Rows, stays, back_in, zero_rows, hush_sunk, feed_sunk}

onto_same : (b : Reference) (x : Result (Worked ℤ) RunFault) (y : Result (Worked Exact) RunFault) → (onto b x y).coefficients ≡ b.coefficients
onto_same b (Ok f) (Ok e) = refl
onto_same b (Ok f) (Err m) = refl
onto_same b (Err n) y = refl

module _ (s : FixedArithmetic) (law : Lawful s) (g : Graph) (cs : List ℤ) (X : ℕ) (t : Sheet) (granted : Granted s g cs X t) {V : Type 0} (k : Arithmetic V) where
  abbrev limits : Limits
  limits = limits_of X t

  -- coefficients are those of open until a swap
  pub record Boxed (ch : Channel V) (b : Reference) (h : List Call) : Type 0 where
    pub same : Awake ch.watch → b.coefficients ≡ cs
    pub rows : Live ch.watch → Rows s law g cs X t granted b.fixed b.exact
    pub sunk : Live ch.watch → Sunk s law g cs X t granted ch.watch b.fixed

  -- both runs of a sample within the range, from the reference's rows
  pub record Ran (b : Reference) (u : ℤ) : Type 0 where
    pub f : Worked ℤ
    pub e : Worked Exact
    pub f_is : fixed_run s g b u ≡ Ok f
    pub e_is : exact_run s g b u ≡ Ok e
    pub f_ran : run (fixed s) g cs b.fixed u ≡ Ok f
    pub rel : Related BoundCovers (box_round s law g cs X t granted) f e

  pub ran : (ch : Channel V) (b : Reference) (h : List Call) → Boxed ch b h → Live ch.watch → (u : ℤ) → nat_abs u ≤ X → Ran b u
  ran ch b h p l u i =
      let m = stays s law g cs X t granted b.fixed b.exact (p.rows l) u i in
      let c = p.same (live_awake ch.watch l) in
      record { f = m.left; e = m.right; f_is = ap (λ z. run (fixed s) g z b.fixed u) c ∙ m.left_is; e_is = ap (λ z. run (exact s) g z b.exact u) c ∙ m.right_is; f_ran = m.left_is; rel = m.related }

  in_again : (b : Reference) (u : ℤ) (m : Ran b u) → Rows s law g cs X t granted m.f.registers m.e.registers
  in_again b u m = back_in s law g cs X t granted m.f.registers m.e.registers m.rel.registers

  box : Lasting k s g (Some limits) cs Boxed
  box = record {
    opened = record { same = λ a. refl; rows = λ l. zero_rows s law g cs X t granted; sunk = λ l. hush_sunk s law g cs X t granted 0 (Some Settled) };
    feeds = λ ch b h p row working u r i e. record {
      same = λ a. onto_same b (fixed_run s g b u) (exact_run s g b u) ∙ p.same (awake_fed limits row working u ch.watch a);
      rows = λ l.
          let v = live_fed limits row working u ch.watch l in
          let m = ran ch b h p v.0 u v.1 in
          subst₂ (λ x y. Rows s law g cs X t granted (onto b x y).fixed (onto b x y).exact) (sym m.f_is) (sym m.e_is) (in_again b u m);
      sunk = λ l.
          let v = live_fed limits row working u ch.watch l in
          let m = ran ch b h p v.0 u v.1 in
          subst₂ (λ x y. Sunk s law g cs X t granted (watched (Some limits) (feed row working u) ch.watch) (onto b x y).fixed) (sym m.f_is) (sym m.e_is)
          (feed_sunk s law g cs X t granted ch.watch row working u v.0 v.1 b.fixed b.exact (p.rows v.0) (p.sunk v.0) m.f m.e m.f_ran (in_again b u m));
    };
    swaps = λ ch b h p new n. record {
      same = λ a. absurd (not_swapped limits new ch.watch a);
      rows = λ l. absurd (not_swapped limits new ch.watch (live_awake (watched (Some limits) (swap new) ch.watch) l));
      sunk = λ l. absurd (not_swapped limits new ch.watch (live_awake (watched (Some limits) (swap new) ch.watch) l));
    };
    hushes = λ ch b h p row. record {
      same = λ a. p.same (awake_hushed limits row ch.watch a);
      rows = λ l. zero_rows s law g cs X t granted;
      sunk = λ l. hush_sunk s law g cs X t granted row ch.watch;
    };
  }

  pub boxed : (h : List Call) → Boxed (after k s g (Some limits) cs h) (reference s g cs (history k s g (Some limits) cs h)) (accepted (history k s g (Some limits) cs h))
  boxed = lasts k s g (Some limits) cs Boxed box
