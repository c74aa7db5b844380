-- What a call that is accepted says, and induction over a list of calls.
use Rattle.std.proofs.Common.{◌≡◌, ℕ, suc, true, eqb, leb, List, [], ◌∷◌, length, ℤ, pos, is_ok, Some, None, Ok, Err, Option, Result, sym, refl, ap, ◌∙◌, subst, arith}
use Rattle.arithmetic.specs.Words.{inside}
use Rattle.arithmetic.specs.Settings.{FixedArithmetic, WordOf, bits}
use Rattle.exact.specs.Numbers.{whole}
use Rattle.kinds.specs.Arithmetics.{Arithmetic}
use Rattle.wiring.specs.declared.faults.RunFault.{RunFault}
use Rattle.wiring.specs.Graphs.{Graph}
use Rattle.wiring.specs.Lists.{All, all_none, all_more}
use Rattle.wiring.specs.Checks.{unless, first, scan}
use Rattle.wiring.specs.Runs.{Worked, run, or_fault}
use Rattle.wiring.proofs.Simulation.{only}
use Rattle.wiring.proofs.Soundness.{first_none, unless_none, inside_out}
use Rattle.channel.specs.declared.fault.CallFault.{CallFault}
use Rattle.channel.specs.declared.fault.CallFault.TheVariants.{RegisterRow, WorkingRow, Sample, OtherLength}
use Rattle.channel.specs.declared.state.Limits.{Limits}
use Rattle.channel.specs.Channels.{Call, feed, swap, hush, first_watch, coefficient_fault, telling, Channel, Answer, fed, swapped, hushed, zeros, answer, leaves, after, history}
use Rattle.channel.specs.References.{Reference, noted, reference, joined, accepted}

-- what is taken after a check met no fault
pub or_fault_out : {A E : Type 0} (o : Option E) (x : Result A E) (a : A) → or_fault o x ≡ Ok a → (o ≡ None) × (x ≡ Ok a)
or_fault_out None x a e = (refl, e)
or_fault_out (Some f) x a e = absurd (let z : ◌≡◌ {A = ℕ} 0 1 = cc in omega arith)

pub telling_out : {A B : Type 0} (o : Result A RunFault) (f : A → B) (b : B) → telling o f ≡ Ok b → (a : A) × (o ≡ Ok a) × (b ≡ f a)
telling_out (Ok a) f b e = (a, refl, sym (only _ _ e))
telling_out (Err x) f b e = absurd (let z : ◌≡◌ {A = ℕ} 0 1 = cc in omega arith)

words_out : (s : FixedArithmetic) (i : ℕ) (cs : List ℤ) → scan (coefficient_fault (bits s)) i cs ≡ None → All (WordOf s) cs
words_out s i [] e = all_none
words_out s i (c ∷ cs) e =
    let t = first_none (coefficient_fault (bits s) i c) (scan (coefficient_fault (bits s)) (suc i) cs) e in
    all_more (inside_out (bits s) c (unless_none _ _ t.0)) (words_out s (suc i) cs t.1)

module _ {V : Type 0} (k : Arithmetic V) (s : FixedArithmetic) (g : Graph) (limits : Option Limits) where
  -- an accepted feed
  pub record Fed (ch : Channel V) (u : ℤ) (a : Answer V) : Type 0 where
    pub made : Worked V
    pub a_is : a ≡ fed made
    pub word : WordOf s u
    pub ran : run k g ch.coefficients ch.registers u ≡ Ok made

  pub feed_out : (ch : Channel V) (row working : ℕ) (u : ℤ) (a : Answer V) → answer k s g limits ch (feed row working u) ≡ Ok a → Fed ch u a
  feed_out ch row working u a e =
      let x = or_fault_out (first (unless (leb (length g.sources) row) RegisterRow) (first (unless (leb (length g.nodes) working) WorkingRow) (unless (inside (bits s) u) Sample))) _ a e in
      let y = first_none (unless (leb (length g.sources) row) RegisterRow) _ x.0 in
      let z = first_none (unless (leb (length g.nodes) working) WorkingRow) _ y.1 in
      let t = telling_out (run k g ch.coefficients ch.registers u) fed a x.1 in
      record { made = t.0; a_is = t.2; word = inside_out _ _ (unless_none (inside (bits s) u) Sample z.1); ran = t.1 }

  pub feed_run : (ch : Channel V) (row working : ℕ) (u : ℤ) (r : Worked V) → answer k s g limits ch (feed row working u) ≡ Ok (fed r) → WordOf s u × (run k g ch.coefficients ch.registers u ≡ Ok r)
  feed_run ch row working u r e = let t = feed_out ch row working u (fed r) e in let q = t.a_is in let i : t.made ≡ r = cc in (t.word, t.ran ∙ ap Ok i)

  pub swap_out : (ch : Channel V) (cs : List ℤ) (a : Answer V) → answer k s g limits ch (swap cs) ≡ Ok a → All (WordOf s) cs × (a ≡ swapped cs)
  swap_out ch cs a e =
      let x = or_fault_out (first (unless (eqb (length cs) g.coefficients) OtherLength) (scan (coefficient_fault (bits s)) 0 cs)) _ a e in
      let y = first_none (unless (eqb (length cs) g.coefficients) OtherLength) _ x.0 in
      (words_out s 0 cs y.1, sym (only _ _ x.1))

  pub hush_out : (ch : Channel V) (row : ℕ) (a : Answer V) → answer k s g limits ch (hush row) ≡ Ok a → a ≡ hushed
  hush_out ch row a e = sym (only _ _ (or_fault_out (unless (leb (length g.sources) row) RegisterRow) _ a e).1)

  module _ (cs : List ℤ) (P : Channel V → Reference → List Call → Type 0) where
    -- what holds at open and is kept by each accepted call
    pub record Lasting : Type 0 where
      pub opened : P (record { coefficients = cs; registers = zeros g k.zero; watch = first_watch limits }) (record { coefficients = cs; fixed = zeros g (pos 0); exact = zeros g (whole (pos 0)) }) []
      pub feeds : (ch : Channel V) (b : Reference) (h : List Call) → P ch b h → (row working : ℕ) (u : ℤ) (r : Worked V) → WordOf s u
          → run k g ch.coefficients ch.registers u ≡ Ok r → P (leaves k s g limits ch (feed row working u) (Ok (fed r))) (noted s g b (feed row working u) true) (feed row working u ∷ h)
      pub swaps : (ch : Channel V) (b : Reference) (h : List Call) → P ch b h → (new : List ℤ) → All (WordOf s) new
          → P (leaves k s g limits ch (swap new) (Ok (swapped new))) (noted s g b (swap new) true) (swap new ∷ h)
      pub hushes : (ch : Channel V) (b : Reference) (h : List Call) → P ch b h → (row : ℕ)
          → P (leaves k s g limits ch (hush row) (Ok hushed)) (noted s g b (hush row) true) (hush row ∷ h)

    module _ (l : Lasting) where
      next : (ch : Channel V) (b : Reference) (h : List Call) → P ch b h → (c : Call) (x : Result (Answer V) CallFault) → answer k s g limits ch c ≡ x
          → P (leaves k s g limits ch c x) (noted s g b c (is_ok x)) (joined (is_ok x) c h)
      next ch b h p c (Err e) q = p
      next ch b h p (feed row working u) (Ok a) q =
          let t = feed_out ch row working u a q in
          subst (λ a. P (leaves k s g limits ch (feed row working u) (Ok a)) (noted s g b (feed row working u) true) (feed row working u ∷ h)) (sym t.a_is) (l.feeds ch b h p row working u t.made t.word t.ran)
      next ch b h p (swap new) (Ok a) q =
          let t = swap_out ch new a q in
          subst (λ a. P (leaves k s g limits ch (swap new) (Ok a)) (noted s g b (swap new) true) (swap new ∷ h)) (sym t.1) (l.swaps ch b h p new t.0)
      next ch b h p (hush row) (Ok a) q =
          subst (λ a. P (leaves k s g limits ch (hush row) (Ok a)) (noted s g b (hush row) true) (hush row ∷ h)) (sym (hush_out ch row a q)) (l.hushes ch b h p row)

      pub lasts : (h : List Call) → P (after k s g limits cs h) (reference s g cs (history k s g limits cs h)) (accepted (history k s g limits cs h))
      unfolding after history reference
      lasts [] = l.opened
      lasts (c ∷ h) = next (after k s g limits cs h) (reference s g cs (history k s g limits cs h)) (accepted (history k s g limits cs h)) (lasts h) c (answer k s g limits (after k s g limits cs h) c) refl
