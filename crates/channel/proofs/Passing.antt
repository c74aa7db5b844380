-- Channels over words and over enclosed values refuse no sample within the range at a node.
use Rattle.std.proofs.Common.{◌≡◌, ℕ, ◌≤◌, Bool, true, false, leb, List, length, ℤ, pos, nat_abs, Some, Ok, Err, sym, refl, ap, ◌∙◌, subst, arith}
use Rattle.arithmetic.specs.Words.{inside}
use Rattle.arithmetic.specs.Settings.{FixedArithmetic, Lawful, bits}
use Rattle.kinds.specs.declared.refusal.Refusal.{Refusal}
use Rattle.kinds.specs.declared.values.Bound.{Bound}
use Rattle.kinds.specs.Arithmetics.{Arithmetic}
use Rattle.kinds.specs.Words.{word_arithmetic}
use Rattle.kinds.specs.Enclosures.{enclosed_arithmetic}
use Rattle.kinds.specs.Bounds.{bound_arithmetic}
use Rattle.kinds.specs.EnclosedLaws.{Held, zero_held}
use Rattle.wiring.specs.Graphs.{Graph}
use Rattle.wiring.specs.Lists.{Each₂}
use Rattle.wiring.specs.Checks.{unless, first}
use Rattle.wiring.specs.Runs.{Worked, run, or_fault}
use Rattle.wiring.proofs.Simulation.{only}
use Rattle.sheet.specs.Sheets.{Below, Sheet, Granted}
use Rattle.sheet.proofs.Places.{each_length}
use Rattle.sheet.proofs.Simulations.{Simulates₂, simulation₂}
use Rattle.sheet.proofs.Boxes.{registers_length}
use Rattle.channel.specs.declared.fault.CallFault.TheVariants.{RegisterRow, WorkingRow, Sample, Node}
use Rattle.channel.specs.declared.state.Limits.{Limits}
use Rattle.channel.specs.Watches.{Live}
use Rattle.channel.specs.Channels.{Call, swap, watched, telling, Channel, fed, zeros, after}
use Rattle.channel.specs.References.{Reference}
use Rattle.channel.specs.Theorem.{Passes, limits_of}
use Rattle.channel.proofs.Places.{each₂_both, each₂_one}
use Rattle.channel.proofs.Instances.{Within, word_simulates, enclosed_simulates}
use Rattle.channel.proofs.Histories.{Lasting, lasts}
use Rattle.channel.proofs.Watches.{Awake, live_awake, live_fed, awake_fed, awake_hushed, not_swapped}

-- where the run is taken, only a row or the sample is refused
no_node : {A : Type 0} (a b c : Bool) (x : A) (p : ℕ) (e : Refusal)
    → or_fault (first (unless a RegisterRow) (first (unless b WorkingRow) (unless c Sample))) (Ok x) ≡ Err (Node p e) → ⊥
no_node true true true x p e q = let z : ◌≡◌ {A = ℕ} 0 1 = cc in omega arith
no_node true true false x p e q = let z : ◌≡◌ {A = ℕ} 0 1 = cc in omega arith
no_node true false c x p e q = let z : ◌≡◌ {A = ℕ} 0 1 = cc in omega arith
no_node false b c x p e q = let z : ◌≡◌ {A = ℕ} 0 1 = cc in omega arith

module _ (s : FixedArithmetic) (g : Graph) (cs : List ℤ) (X : ℕ) (t : Sheet) (granted : Granted s g cs X t)
    {V : Type 0} (k : Arithmetic V) (R : Bound → V → Type 0) (sims : (u : ℤ) → nat_abs u ≤ X → Simulates₂ (bound_arithmetic s) k R (pos X) u)
    (grows : (a b : Bound) (v : V) → Below a b → R a v → R b v) (at_zero : (b : Bound) → R b k.zero) where
  abbrev limits : Limits
  limits = limits_of X t

  -- while the watch is live, the registers are in the box
  record Fits (ch : Channel V) (b : Reference) (h : List Call) : Type 0 where
    same : Awake ch.watch → ch.coefficients ≡ cs
    rows : Live ch.watch → Each₂ R t.box ch.registers

  runs : (ch : Channel V) (b : Reference) (h : List Call) → Fits ch b h → Live ch.watch → (u : ℤ) → nat_abs u ≤ X
      → (r : Worked V) × (run k g ch.coefficients ch.registers u ≡ Ok r) × Each₂ R t.box r.registers
  runs ch b h p l u i =
      let m = simulation₂ (bound_arithmetic s) k R (pos X) u (sims u i) g cs t.box ch.registers (p.rows l) granted.closed.made granted.closed.is_taken in
      let c = p.same (live_awake ch.watch l) in
      (m.left, ap (λ z. run k g z ch.registers u) c ∙ m.left_is, each₂_both grows granted.closed.within m.related.registers)

  zero_row : Each₂ R t.box (zeros g k.zero)
  zero_row = each₂_one k.zero at_zero t.box g.sources (sym (each_length granted.closed.within) ∙ registers_length (bound_arithmetic s) g cs t.box (pos X) granted.closed.made granted.closed.is_taken)

  fit : Lasting k s g (Some limits) cs Fits
  fit = record {
    opened = record { same = λ a. refl; rows = λ l. zero_row };
    feeds = λ ch b h p row working u r i e. record {
      same = λ a. p.same (awake_fed limits row working u ch.watch a);
      rows = λ l.
          let v = live_fed limits row working u ch.watch l in
          let m = runs ch b h p v.0 u v.1 in
          let q : m.0 ≡ r = only _ _ (sym m.1 ∙ e) in
          subst (λ (z : Worked V). Each₂ R t.box z.registers) q m.2;
    };
    swaps = λ ch b h p new n. record {
      same = λ a. absurd (not_swapped limits new ch.watch a);
      rows = λ l. absurd (not_swapped limits new ch.watch (live_awake (watched (Some limits) (swap new) ch.watch) l));
    };
    hushes = λ ch b h p row. record {
      same = λ a. p.same (awake_hushed limits row ch.watch a);
      rows = λ l. zero_row;
    };
  }

  pub passes : (h : List Call) → Live (after k s g (Some limits) cs h).watch → Passes k s g cs (Some limits) h X
  passes h l row working u p e i q =
      let ch = after k s g (Some limits) cs h in
      let m = runs ch _ _ (lasts k s g (Some limits) cs Fits fit h) l u i in
      let fault = first (unless (leb (length g.sources) row) RegisterRow) (first (unless (leb (length g.nodes) working) WorkingRow) (unless (inside (bits s) u) Sample)) in
      no_node (leb (length g.sources) row) (leb (length g.nodes) working) (inside (bits s) u) (fed m.0) p e (ap (λ o. or_fault fault (telling o fed)) (sym m.1) ∙ q)

module _ (s : FixedArithmetic) (law : Lawful s) (g : Graph) (cs : List ℤ) (X : ℕ) (t : Sheet) (granted : Granted s g cs X t) where
  pub word_passes : (h : List Call) → Live (after (word_arithmetic s) s g (Some (limits_of X t)) cs h).watch → Passes (word_arithmetic s) s g cs (Some (limits_of X t)) h X
  word_passes = passes s g cs X t granted (word_arithmetic s) Within (word_simulates s law X) (λ a b v h k. let i = h.peak in omega arith) (λ b. omega arith)

  pub enclosed_passes : (h : List Call) → Live (after (enclosed_arithmetic s) s g (Some (limits_of X t)) cs h).watch → Passes (enclosed_arithmetic s) s g cs (Some (limits_of X t)) h X
  enclosed_passes = passes s g cs X t granted (enclosed_arithmetic s) Held (enclosed_simulates s law X)
      (λ a b v h k. let i = h.peak in let j = h.ceiling in let x = k.word in let y = k.low in let z = k.high in record { word = omega arith; low = omega arith; high = omega arith })
      zero_held
