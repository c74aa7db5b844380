-- The channel theorem.
use Rattle.std.proofs.Common.{◌≡◌, ℕ, List, reverse, take, ℤ, pos, Some, None, Ok, Option, sym, refl, ap, ◌∙◌, subst}
use Rattle.arithmetic.specs.Settings.{FixedArithmetic, Lawful}
use Rattle.kinds.specs.declared.values.Bound.{Bound}
use Rattle.kinds.specs.Arithmetics.{fixed}
use Rattle.kinds.specs.Kinds.{KindModel, LawfulKind}
use Rattle.kinds.specs.Words.{word_arithmetic}
use Rattle.kinds.specs.Enclosures.{enclosed_arithmetic}
use Rattle.kinds.specs.Bounds.{Near}
use Rattle.wiring.specs.Graphs.{Graph}
use Rattle.wiring.specs.Runs.{Worked, run}
use Rattle.wiring.specs.Programs.{program_fault}
use Rattle.wiring.proofs.Soundness.{program_words}
use Rattle.sheet.specs.Sheets.{Sheet, Granted}
use Rattle.sheet.proofs.Places.{each_refl}
use Rattle.sheet.proofs.Simulations.{Related₂, simulation₂}
use Rattle.channel.specs.declared.state.Limits.{Limits}
use Rattle.channel.specs.Watches.{Live}
use Rattle.channel.specs.Channels.{Call}
use Rattle.channel.specs.Theorem.{strict, beside, said, Safe, Passes, Settles, limits_of, Holds, ChannelTheorem}
use Rattle.channel.proofs.Places.{each₂_equal}
use Rattle.channel.proofs.Instances.{strict_simulates}
use Rattle.channel.proofs.Covering.{covering}
use Rattle.channel.proofs.Settling.{settling}
use Rattle.channel.proofs.Sinking.{Sunk, stays_strict, band_holds}
use Rattle.channel.proofs.InBox.{boxed, ran}
use Rattle.channel.proofs.Watches.{live_awake}
use Rattle.channel.proofs.Passing.{word_passes, enclosed_passes}

same_run : (a b : Worked ℤ) → Related₂ ◌≡◌ a b → a ≡ b
same_run a b r = λ i. record { values = each₂_equal r.values i; output = r.output i; registers = each₂_equal r.registers i }

-- a run in which no raw number leaves its word is the fixed run
strict_is_fixed : (s : FixedArithmetic) → Lawful s → (g : Graph) (cs fs : List ℤ) (u : ℤ) (f : Worked ℤ) → run (strict s) g cs fs u ≡ Ok f → run (fixed s) g cs fs u ≡ Ok f
strict_is_fixed s law g cs fs u f e =
    let m = simulation₂ (strict s) (fixed s) ◌≡◌ u u (strict_simulates s law u) g cs fs fs (each_refl (λ z. refl) fs) f e in
    m.left_is ∙ ap Ok (sym (same_run f m.left m.related))

module _ {V : Type 0} (s : FixedArithmetic) (law : Lawful s) (m : KindModel V) (g : Graph) (cs : List ℤ) (X : ℕ) (t : Sheet) (granted : Granted s g cs X t) (h : List Call) where
  abbrev limits : Option Limits
  limits = Some (limits_of X t)

  safe : Live (said m.ops s g cs limits h) → Safe m.ops s g cs limits h X t
  safe l =
      let b = boxed s law g cs X t granted m.ops h in
      let r = beside m.ops s g cs limits h in
      let c = b.same (live_awake (said m.ops s g cs limits h) l) in
      record {
        inside = λ u i.
            let x = stays_strict s law g cs X t granted r.fixed r.exact (b.rows l) u i in
            (x.left, ap (λ z. run (strict s) g z r.fixed u) c ∙ x.left_is, ap (λ z. run (fixed s) g z r.fixed u) c ∙ strict_is_fixed s law g cs r.fixed u x.left x.left_is);
        near = λ row working u a i e.
            let x = ran s law g cs X t granted m.ops _ _ _ b l u i in
            record { left = x.f; right = x.e; left_is = x.f_is; right_is = x.e_is; related = subst (λ (o : Bound). Near o.ceiling x.f.output x.e.output) (sym granted.output_is) x.rel.output.near };
      }

  settles : Live (said m.ops s g cs limits h) → Settles m.ops s g cs limits h t.count t
  settles l =
      let b = boxed s law g cs X t granted m.ops h in
      let r = beside m.ops s g cs limits h in
      let c = b.same (live_awake (said m.ops s g cs limits h) l) in
      record {
        means = settling m.ops s g (limits_of X t) cs h l;
        band = λ row working a q e.
            let d = subst (λ p. Sunk s law g cs X t granted p r.fixed) q (b.sunk l) in
            let x = band_holds s law g cs X t granted r.fixed d in
            (x.0, ap (λ z. run (fixed s) g z r.fixed (pos 0)) c ∙ x.1, x.2);
      }

pub holds : {V : Type 0} (s : FixedArithmetic) → Lawful s → (m : KindModel V) → LawfulKind s m → (g : Graph) (cs : List ℤ) (limits : Option Limits) → program_fault s.format g cs ≡ None → (h : List Call) → Holds s m g cs limits h
holds s law m laws g cs limits e h = record {
  a = covering s law m laws g limits cs (program_words s.format g cs e) h;
  b = λ X t q granted. subst (λ f. (Live (said m.ops s g cs f h) → Safe m.ops s g cs f h X t) × (Live (said (word_arithmetic s) s g cs f h) → Passes (word_arithmetic s) s g cs f h X) × (Live (said (enclosed_arithmetic s) s g cs f h) → Passes (enclosed_arithmetic s) s g cs f h X)) (sym q)
      (safe s law m g cs X t granted h, word_passes s law g cs X t granted h, enclosed_passes s law g cs X t granted h);
  c = λ X t q granted. subst (λ f. Live (said m.ops s g cs f h) → Settles m.ops s g cs f h t.count t) (sym q) (settles s law m g cs X t granted h);
}

pub theorem : {V : Type 0} (s : FixedArithmetic) → Lawful s → (m : KindModel V) → LawfulKind s m → ChannelTheorem s m
theorem s law m laws g cs limits e calls n = holds s law m laws g cs limits e (reverse (take n calls))
