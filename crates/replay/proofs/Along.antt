-- The theorem on a log whose entries are those of the channel's steps.
use Rattle.std.proofs.Common.{◌≡◌, ℕ, zero, suc, ◌<◌, ◌≤◌, true, ◌⊎◌, ◌↔◌, List, [], ◌∷◌, length, ℤ, pos, is_ok, Some, None, Ok, Err, vec_items, Option, Result, sym, refl, ap, ◌∙◌, subst, ap₂, arith}
use Rattle.arithmetic.specs.Settings.{FixedArithmetic, Lawful}
use Rattle.kinds.specs.Arithmetics.{Arithmetic}
use Rattle.kinds.specs.Kinds.{KindModel, Goes, LawfulKind}
use Rattle.wiring.specs.Graphs.{Graph}
use Rattle.wiring.specs.Programs.{program_fault}
use Rattle.wiring.specs.Lists.{Each₃}
use Rattle.wiring.specs.Runs.{Worked, run}
use Rattle.channel.specs.declared.fault.CallFault.{CallFault}
use Rattle.channel.specs.declared.state.Limits.{Limits}
use Rattle.channel.specs.declared.state.State.TheVariants.{Settled}
use Rattle.channel.specs.Watches.{Live}
use Rattle.channel.specs.Channels.{Call, feed, Answer, fed, swapped, hushed, answer, after, history}
use Rattle.channel.specs.References.{fixed_run, exact_run, reference, accepted, Quiet, Zeros}
use Rattle.channel.specs.Theorem.{strict}
use Rattle.channel.proofs.Final.{holds}
use Rattle.replay.specs.declared.log.Told.{Told}
use Rattle.replay.specs.declared.log.Told.TheVariants.{Opened, Fed, Swapped, Hushed, Refused}
use Rattle.replay.specs.declared.log.Entry.{Entry}
use Rattle.replay.specs.Log.{place, then, earlier, taken, noting, past, Heard, heard, Tells, Logged}
use Rattle.replay.specs.Theorem.{Feeds, HoldsAt, LogTheorem}

-- ---- places
pub place_less : {A : Type 0} (xs : List A) (i : ℕ) (x : A) → place xs i ≡ Some x → i < length xs
place_less [] i x e = absurd (let z : ◌≡◌ {A = ℕ} 0 1 = cc in omega arith)
place_less (y ∷ xs) zero x e = omega arith
place_less (y ∷ xs) (suc i) x e = let h = place_less xs i x e in omega arith

pub place_some : {A : Type 0} (xs : List A) (i : ℕ) → i < length xs → (x : A) × (place xs i ≡ Some x)
place_some [] i h = absurd (omega arith)
place_some (y ∷ xs) zero h = (y, refl)
place_some (y ∷ xs) (suc i) h = place_some xs i (omega arith)

-- ---- what an entry tells
taken_is : {V : Type 0} (t : Told V) (h : Heard V) → heard t ≡ Some h → taken t ≡ true
taken_is Opened h e = refl
taken_is (Fed output nodes) h e = refl
taken_is Swapped h e = refl
taken_is Hushed h e = refl
taken_is (Refused f) h e = absurd (let z : ◌≡◌ {A = ℕ} 0 1 = cc in omega arith)

tells_taken : {V : Type 0} (x : Result (Answer V) CallFault) (t : Told V) → Tells x t → taken t ≡ is_ok x
tells_taken (Ok (fed r)) t e = taken_is t _ e
tells_taken (Ok (swapped cs)) t e = ap taken e
tells_taken (Ok hushed) t e = ap taken e
tells_taken (Err f) t e = ap taken e

pub some_is : {A : Type 0} (a b : A) → ◌≡◌ {A = Option A} (Some a) (Some b) → a ≡ b
some_is a b e = cc

tells_fed : {V : Type 0} (x : Result (Answer V) CallFault) (t : Told V) (h : Heard V) → Tells x t → heard t ≡ Some h
    → (r : Worked V) × (x ≡ Ok (fed r)) × (record { output = r.output; nodes = r.values } ≡ h)
tells_fed (Ok (fed r)) t h e q = (r, refl, some_is _ _ (sym e ∙ q))
tells_fed (Ok (swapped cs)) t h e q = let n : None ≡ Some h = sym (ap heard e) ∙ q in absurd (let z : ◌≡◌ {A = ℕ} 0 1 = cc in omega arith)
tells_fed (Ok hushed) t h e q = let n : None ≡ Some h = sym (ap heard e) ∙ q in absurd (let z : ◌≡◌ {A = ℕ} 0 1 = cc in omega arith)
tells_fed (Err f) t h e q = let n : None ≡ Some h = sym (ap heard e) ∙ q in absurd (let z : ◌≡◌ {A = ℕ} 0 1 = cc in omega arith)

module _ {V : Type 0} (k : Arithmetic V) (s : FixedArithmetic) (g : Graph) (cs : List ℤ) (limits : Option Limits) (calls : List Call) (log : List (Entry V)) (l : Logged k s g cs limits calls log) where
  -- what the log says of the calls is their history
  pub past_is : (i : ℕ) → i ≤ length calls → past calls log i ≡ history k s g limits cs (earlier calls i)
  unfolding history
  past_is zero h = refl
  past_is (suc i) h =
      let n = l.entries in
      let c = place_some calls i (omega arith) in
      let e = place_some log (suc i) (omega arith) in
      let t = tells_taken _ _ (l.tells i c.0 e.0 c.1 e.1) in
      let p = past_is i (omega arith) in
      ap₂ (λ x y. noting x y (past calls log i)) c.1 e.1
      ∙ (λ j. record { call = c.0; accepted = t j } ∷ p j)
      ∙ ap (λ x. history k s g limits cs (then x (earlier calls i))) (sym c.1)

module _ {V : Type 0} (s : FixedArithmetic) (law : Lawful s) (m : KindModel V) (laws : LawfulKind s m) (g : Graph) (cs : List ℤ) (limits : Option Limits) (fine : program_fault s.format g cs ≡ None)
    (calls : List Call) (log : List (Entry V)) (l : Logged m.ops s g cs limits calls log) where
  -- a feed that an entry tells of was accepted
  fed_at : (i : ℕ) (u : ℤ) (h : Heard V) (f : Feeds s m g cs limits calls log i u h) → (r : Worked V) × (answer m.ops s g limits (after m.ops s g limits cs (earlier calls i)) (feed f.row f.working u) ≡ Ok (fed r)) × (record { output = r.output; nodes = r.values } ≡ h)
  fed_at i u h f = tells_fed _ _ h (l.tells i _ f.entry f.call_is f.entry_is) f.told_is

  each_entry : (i : ℕ) (e : Entry V) → place log i ≡ Some e → HoldsAt s m g cs limits calls log i e
  each_entry i e at =
      let n = l.entries in
      let n' = place_less log i e at in
      let H = holds s law m laws g cs limits fine (earlier calls i) in
      let p = sym (past_is m.ops s g cs limits calls log l i (omega arith)) in
      let sh = l.shows i e at in
      let w = sym sh.watch in
      record {
        a = record {
          registers = subst (λ x. Each₃ m.covers (vec_items e.registers) (reference s g cs x).fixed (reference s g cs x).exact) p
              (subst (λ x. Each₃ m.covers x (reference s g cs (history m.ops s g limits cs (earlier calls i))).fixed (reference s g cs (history m.ops s g limits cs (earlier calls i))).exact) (sym sh.registers) H.a.registers);
          feeds = λ u h f.
              let t = fed_at i u h f in
              let y = H.a.feeds f.row f.working u t.0 t.1 in
              subst (λ x. Goes (λ (h : Heard V) (a : Worked ℤ) (b : Worked _). m.covers h.output a.output b.output × Each₃ m.covers h.nodes a.values b.values) h (fixed_run s g (reference s g cs x) u) (exact_run s g (reference s g cs x) u)) p
              (record {
                left = y.left;
                right = y.right;
                left_is = y.left_is;
                right_is = y.right_is;
                related = subst (λ (h : Heard V). m.covers h.output y.left.output y.right.output × Each₃ m.covers h.nodes y.left.values y.right.values) t.2 (y.related.output, y.related.values);
              });
        };
        b = λ X t q granted.
            let B = H.b X t q granted in (
              λ live.
                  let S = B.0 (subst Live sh.watch live) in
                  record {
                    inside = λ u d. let y = S.inside u d in
                        (y.0, ap (λ x. run (strict s) g (reference s g cs x).coefficients (reference s g cs x).fixed u) (sym p) ∙ y.1, ap (λ x. fixed_run s g (reference s g cs x) u) (sym p) ∙ y.2);
                    near = λ u h d f.
                        let r = fed_at i u h f in
                        let y = S.near f.row f.working u r.0 d r.1 in
                        record { left = y.left; right = y.right; left_is = ap (λ x. fixed_run s g (reference s g cs x) u) (sym p) ∙ y.left_is; right_is = ap (λ x. exact_run s g (reference s g cs x) u) (sym p) ∙ y.right_is; related = y.related };
                  },
              B.1,
              B.2,
            );
        c = λ X t q granted live.
            let S = H.c X t q granted (subst Live sh.watch live) in
            record {
              means = subst (λ x. (e.watch ≡ Some Settled) ↔ (Quiet (accepted x) ⊎ Zeros t.count (accepted x))) p (subst (λ x. (x ≡ Some Settled) ↔ (Quiet (accepted (history m.ops s g limits cs (earlier calls i))) ⊎ Zeros t.count (accepted (history m.ops s g limits cs (earlier calls i))))) w S.means);
              band = λ h z f.
                  let r = fed_at i (pos 0) h f in
                  let y = S.band f.row f.working r.0 (w ∙ z) r.1 in
                  (y.0, ap (λ x. fixed_run s g (reference s g cs x) (pos 0)) (sym p) ∙ y.1, y.2);
            };
      }

  pub log_theorem : LogTheorem s m g cs limits calls log
  log_theorem = record { entries = l.entries; each = each_entry }
