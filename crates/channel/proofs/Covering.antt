-- After every list of calls the registers cover the rows of the two reference runs.
use Rattle.std.proofs.Common.{◌≡◌, List, ◌∷◌, ℤ, pos, Ok, Option, sym, refl, subst₂}
use Rattle.arithmetic.specs.Settings.{FixedArithmetic, Lawful, WordOf, bits}
use Rattle.exact.specs.Numbers.{Exact, whole}
use Rattle.kinds.specs.Kinds.{KindModel, LawfulKind, Goes}
use Rattle.wiring.specs.Graphs.{Graph}
use Rattle.wiring.specs.Lists.{All, Each₃}
use Rattle.wiring.specs.Runs.{Worked, run}
use Rattle.wiring.specs.Covering.{Related, CoversWord}
use Rattle.wiring.proofs.Coverings.{zero_inside, run_covers}
use Rattle.sheet.proofs.Places.{each_refl}
use Rattle.channel.specs.declared.state.Limits.{Limits}
use Rattle.channel.specs.Channels.{Call, feed, Channel, fed, zeros, leaves, after, history}
use Rattle.channel.specs.References.{Reference, onto, fixed_run, exact_run, reference, accepted}
use Rattle.channel.specs.Theorem.{Covered}
use Rattle.channel.proofs.Places.{each₃_same, each₃_map}
use Rattle.channel.proofs.Histories.{Lasting, lasts, feed_run}

module _ {V : Type 0} (s : FixedArithmetic) (lawful : Lawful s) (m : KindModel V) (laws : LawfulKind s m) (g : Graph) (limits : Option Limits) (cs : List ℤ) (good : All (WordOf s) cs) where
  -- the channel and the reference have the same coefficients, all words, and the registers cover both rows
  pub record Agrees (ch : Channel V) (b : Reference) (h : List Call) : Type 0 where
    pub same : ch.coefficients ≡ b.coefficients
    pub sound : All (WordOf s) ch.coefficients
    pub rows : Each₃ (CoversWord s m) ch.registers b.fixed b.exact

  pub goes : (ch : Channel V) (b : Reference) (h : List Call) → Agrees ch b h → (u : ℤ) (r : Worked V) → WordOf s u → run m.ops g ch.coefficients ch.registers u ≡ Ok r
      → Goes (Related (CoversWord s m)) r (fixed_run s g b u) (exact_run s g b u)
  goes ch b h p u r i e = rw p.same at (run_covers s lawful m laws g ch.coefficients ch.coefficients p.sound (each_refl (λ c. refl) ch.coefficients) ch.registers b.fixed b.exact p.rows u i r e)

  zero_rows : Each₃ (CoversWord s m) (zeros g m.ops.zero) (zeros g (pos 0)) (zeros g (whole (pos 0)))
  zero_rows = each₃_same m.ops.zero (pos 0) (whole (pos 0)) (laws.zero_covers, zero_inside (bits s)) g.sources

  agree : Lasting m.ops s g limits cs Agrees
  agree = record {
    opened = record { same = refl; sound = good; rows = zero_rows };
    feeds = λ ch b h p row working u r i e.
        let t = goes ch b h p u r i e in
        subst₂ (λ x y. Agrees (leaves m.ops s g limits ch (feed row working u) (Ok (fed r))) (onto b x y) (feed row working u ∷ h)) (sym t.left_is) (sym t.right_is) (record { same = p.same; sound = p.sound; rows = t.related.registers });
    swaps = λ ch b h p new n. record { same = refl; sound = n; rows = p.rows };
    hushes = λ ch b h p row. record { same = p.same; sound = p.sound; rows = zero_rows };
  }

  pub agrees : (h : List Call) → Agrees (after m.ops s g limits cs h) (reference s g cs (history m.ops s g limits cs h)) (accepted (history m.ops s g limits cs h))
  agrees = lasts m.ops s g limits cs Agrees agree

  covered_only : (r : Worked V) (f : Worked ℤ) (e : Worked Exact) → Related (CoversWord s m) r f e → Related m.covers r f e
  covered_only r f e t = record { values = each₃_map (λ a b c h. h.0) t.values; output = t.output.0; registers = each₃_map (λ a b c h. h.0) t.registers }

  pub covering : (h : List Call) → Covered m.ops s g cs limits h m.covers
  covering h =
      let p = agrees h in
      record {
        registers = each₃_map (λ a b c h. h.0) p.rows;
        feeds = λ row working u r e.
            let t = feed_run m.ops s g limits (after m.ops s g limits cs h) row working u r e in
            let x = goes _ _ _ p u r t.0 t.1 in
            record { left = x.left; right = x.right; left_is = x.left_is; right_is = x.right_is; related = covered_only r x.left x.right x.related };
      }
