-- One call: what the methods answer and leave is what an entry tells and shows.
use Rattle.std.proofs.Common.{◌≡◌, ℕ, ◌+◌, ◌-◌, ◌<◌, ◌≤◌, min, Bool, true, false, leb, List, [], ◌∷◌, ◌++◌, length, take, drop, ℤ, Some, None, Ok, Err, vec_items, Option, Result, Vec, sym, refl, ap, ◌∙◌, subst, add-zero, arith, leb-false, leb-true}
use native.Mathlib.Nat.{sub-zero}
use Rattle.std.specs.declared.alloc.Global.{Global}
use Rattle.std.proofs.lemmas.List.{drop_at, drop_all, drop-drop, drop-append-le, length-append, length-drop, length-take-le, take_at, take_all, take-take, take-append-le, take-append-drop}
use Rattle.arithmetic.specs.Words.{inside}
use Rattle.arithmetic.specs.Rounding.{RoundingRule}
use Rattle.arithmetic.specs.Overflow.{OverflowRule}
use Rattle.arithmetic.specs.Settings.{FixedArithmetic, bits, meaning}
use Rattle.kinds.specs.Arithmetics.{Arithmetic}
use Rattle.kinds.specs.Kinds.{KindModel}
use Rattle.wiring.specs.declared.graph.Node.{Node}
use Rattle.wiring.specs.Graphs.{Graph}
use Rattle.wiring.specs.Checks.{unless, first}
use Rattle.wiring.specs.Runs.{at_node, node_value, work, taken, Worked, run, or_fault, answered}
use Rattle.wiring.proofs.Simulation.{only, onward_out}
use Rattle.wiring.proofs.Soundness.{first_none, unless_none}
use Rattle.channel.specs.declared.channel.Channel.{Channel as Running}
use Rattle.channel.specs.declared.fault.CallFault.{CallFault}
use Rattle.channel.specs.declared.fault.CallFault.TheVariants.{RegisterRow, WorkingRow, Sample}
use Rattle.channel.specs.declared.state.Limits.{Limits}
use Rattle.channel.specs.Channels.{Call, feed, hush, Channel, Answer, fed, swapped, hushed, telling, answer, leaves}
use Rattle.channel.specs.Running.{limits_in, graph, registers_in, nodes_in, holding, Same, values, answered_to, left_by, row_left, HandsOut, working_left}
use Rattle.channel.proofs.Histories.{or_fault_out, feed_run}
use Rattle.channel.proofs.Holding.{same_parts}
use Rattle.replay.specs.declared.log.Call.{Call as Listed}
use Rattle.replay.specs.declared.log.Call.TheVariants.{Feed, Hush}
use Rattle.replay.specs.declared.log.Told.{Told}
use Rattle.replay.specs.declared.log.Told.TheVariants.{Swapped, Hushed, Refused}
use Rattle.replay.specs.Log.{lent, heard, Tells}
use Rattle.replay.specs.Replaying.{Works}

-- ---- places past the registers
pub past_rest : {V : Type 0} (n : ℕ) (front row row' : List V) → row' ≡ front ++ drop n row → take n row' ≡ front → length row' ≡ length row → drop n row' ≡ drop n row
past_rest n front row row' e f l = go (leb n (length row)) refl
  where
    go : (b : Bool) → leb n (length row) ≡ b → drop n row' ≡ drop n row
    go true q =
        let h = leb-true _ _ q in
        ap (drop n) e ∙ drop_at front (drop n row) n (ap length (sym f) ∙ length-take-le n row' (omega arith))
    go false q =
        let h = leb-false _ _ q in
        drop_all n row' (omega arith) ∙ sym (drop_all n row (omega arith))

-- ---- swap
abbrev verdict : {V : Type 0} → Option CallFault → List ℤ → Result (Answer V) CallFault
verdict f cs = or_fault f (Ok (swapped cs))

pub swap_ok : (V : Type 0) (f : Option CallFault) (cs : List ℤ) → Ok tt ≡ answered (verdict {V = V} f cs) → Tells (verdict {V = V} f cs) Swapped
swap_ok V None cs e = refl
swap_ok V (Some x) cs e = absurd (let z : ◌≡◌ {A = ℕ} 0 1 = cc in omega arith)

pub swap_err : (V : Type 0) (f : Option CallFault) (cs : List ℤ) (x : CallFault) → Err x ≡ answered (verdict {V = V} f cs) → Tells (verdict {V = V} f cs) (Refused x)
swap_err V None cs x e = absurd (let z : ◌≡◌ {A = ℕ} 0 1 = cc in omega arith)
swap_err V (Some y) cs x e = let q : x ≡ y = cc in ap Refused q

-- the same, from what a method says of the channel and of the row
pub rest_by : {K R O V : Type 0} (m : K → FixedArithmetic → KindModel V) (r : R → RoundingRule) (o : O → OverflowRule) (c c' : Running K R O) (row row' : List V) (call : Call)
    → row' ≡ row_left m r o c row call → holding c' row' ≡ left_by m r o c row call → Same c c' → length row' ≡ length row → drop (registers_in c) row' ≡ drop (registers_in c) row
rest_by m r o c c' row row' call e h same l =
    past_rest (registers_in c) (left_by m r o c row call).registers row row' e (ap (λ x. take (length (vec_items x.sources)) row') (sym same.wiring) ∙ ap (λ (x : Channel _). x.registers) h) l

-- ---- hush
abbrev hushing : {V : Type 0} → Option CallFault → Result (Answer V) CallFault
hushing f = or_fault f (Ok hushed)

pub hush_ok : (V : Type 0) (f : Option CallFault) → Ok tt ≡ answered (hushing {V = V} f) → Tells (hushing {V = V} f) Hushed
hush_ok V None e = refl
hush_ok V (Some x) e = absurd (let z : ◌≡◌ {A = ℕ} 0 1 = cc in omega arith)

pub hush_err : (V : Type 0) (f : Option CallFault) (x : CallFault) → Err x ≡ answered (hushing {V = V} f) → Tells (hushing {V = V} f) (Refused x)
hush_err V None x e = absurd (let z : ◌≡◌ {A = ℕ} 0 1 = cc in omega arith)
hush_err V (Some y) x e = let q : x ≡ y = cc in ap Refused q

-- ---- feed
module _ {V : Type 0} (k : Arithmetic V) (cs : List ℤ) (rs : List V) (u : ℤ) where
  -- as many values as nodes
  work_long : (ns : List Node) (vs out : List V) → work k cs rs u vs ns ≡ Ok out → length out ≡ length vs + length ns
  unfolding work
  work_long [] vs out e = ap length (sym (only vs out e)) ∙ sym (add-zero (length vs))
  work_long (n ∷ ns) vs out e =
      let t = onward_out (at_node (length vs) (node_value k cs rs u vs n)) (λ v. work k cs rs u (vs ++ (v ∷ [])) ns) out e in
      let i = work_long ns (vs ++ (t.0 ∷ [])) out t.2 in
      let l = length-append vs (t.0 ∷ []) in
      omega arith

  run_long : (g : Graph) (r : Worked V) → run k g cs rs u ≡ Ok r → length r.values ≡ length g.nodes
  unfolding run
  run_long g r e =
      let t = onward_out (work k cs rs u [] g.nodes) (λ vs. Ok (taken g k.zero vs)) r e in
      let p : length t.0 ≡ length r.values = ap (λ (x : Worked V). length x.values) (only _ _ t.2) in
      let q = work_long g.nodes [] t.0 t.1 in
      omega arith

module _ {V : Type 0} (k : Arithmetic V) (s : FixedArithmetic) (g : Graph) (limits : Option Limits) (ch : Channel V) (row working : ℕ) (u : ℤ) where
  abbrev says : Result (Answer V) CallFault
  says = answer k s g limits ch (feed row working u)

  -- what an accepted feed made
  pub record Made (out : V) : Type 0 where
    pub worked : Worked V
    pub says_is : says ≡ Ok (fed worked)
    pub out_is : out ≡ worked.output
    pub long : length worked.values ≡ length g.nodes
    pub room : length g.nodes ≤ working

  pub made_by : (out : V) → HandsOut says (Ok out) → Made out
  made_by out = go says refl
    where
      go : (x : Result (Answer V) CallFault) → says ≡ x → HandsOut x (Ok out) → Made out
      go (Ok (fed w)) e h =
          let x = or_fault_out (first (unless (leb (length g.sources) row) RegisterRow) (first (unless (leb (length g.nodes) working) WorkingRow) (unless (inside (bits s) u) Sample))) _ _ e in
          let y = first_none (unless (leb (length g.sources) row) RegisterRow) _ x.0 in
          let z = first_none (unless (leb (length g.nodes) working) WorkingRow) _ y.1 in
          record { worked = w; says_is = e; out_is = only _ _ h; long = run_long k ch.coefficients ch.registers u g w (feed_run k s g limits ch row working u w e).1; room = leb-true _ _ (unless_none _ _ z.0) }
      go (Ok (swapped cs)) e h = absurd h
      go (Ok hushed) e h = absurd h
      go (Err f) e h = absurd (let z : ◌≡◌ {A = ℕ} 0 1 = cc in omega arith)

  pub feed_refused : (x : CallFault) → HandsOut says (Err x) → Tells says (Refused x)
  feed_refused x = go says
    where
      go : (y : Result (Answer V) CallFault) → HandsOut y (Err x) → Tells y (Refused x)
      go (Ok (fed w)) h = absurd (let z : ◌≡◌ {A = ℕ} 0 1 = cc in omega arith)
      go (Ok (swapped cs)) h = absurd h
      go (Ok hushed) h = absurd h
      go (Err f) h = let q : x ≡ f = cc in ap Refused q

module _ {K R O V : Type 0} (m : K → FixedArithmetic → KindModel V) (r : R → RoundingRule) (o : O → OverflowRule) (c c' : Running K R O) (row row' : List V) (t : Told V) where
  -- a feed, by the length of its working row and its sample as they were handed on
  module _ (w : ℕ) (u u' : ℤ) (places : List V) (long : length places ≡ w) (same-sample : u' ≡ u) where
    abbrev call' : Call
    call' = feed (length row) (length places) u'

    moved : Works m r o c row call' c' row' t → Works m r o c row (feed (length row) w u) c' row' t
    moved x = subst (λ z. Works m r o c row z c' row' t) (λ i. feed (length row) (long i) (same-sample i)) x

    pub fed_works : (places' ns : List V) (out : V) → HandsOut (answered_to m r o c row call') (Ok out)
        → places' ≡ working_left (values m r o c).zero (nodes_in c) places (answered_to m r o c row call')
        → row' ≡ row_left m r o c row call' → holding c' row' ≡ left_by m r o c row call' → Same c c' → length row' ≡ length row
        → ns ≡ take (nodes_in c) places' → heard t ≡ Some (record { output = out; nodes = ns }) → Works m r o c row (feed (length row) w u) c' row' t
    fed_works places' ns out h p d l same len n e =
        let x = made_by (values m r o c) (meaning r o c.values.setting) (graph c) (limits_in c.watch) (holding c row) (length row) (length places) u' out h in
        let q : ns ≡ x.worked.values =
        n ∙ ap (take (nodes_in c)) (p ∙ ap (working_left (values m r o c).zero (nodes_in c) places) x.says_is) ∙ take_at x.worked.values (drop (nodes_in c) places) (nodes_in c) x.long in
        moved (record { tells = subst (λ z. Tells z t) (sym x.says_is) (e ∙ (λ i. Some (record { output = x.out_is i; nodes = q i }))); holds = l; same = same; long = len; rest = rest_by m r o c c' row row' call' d l same len })

    pub refused_works : (f : CallFault) → t ≡ Refused f → HandsOut (answered_to m r o c row call') (Err f)
        → row' ≡ row_left m r o c row call' → holding c' row' ≡ left_by m r o c row call' → Same c c' → length row' ≡ length row → Works m r o c row (feed (length row) w u) c' row' t
    refused_works f e h d l same len =
        moved (record { tells = subst (λ z. Tells (answered_to m r o c row call') z) (sym e) (feed_refused (values m r o c) (meaning r o c.values.setting) (graph c) (limits_in c.watch) (holding c row) (length row) (length places) u' f h); holds = l; same = same; long = len; rest = rest_by m r o c c' row row' call' d l same len })

-- ---- a call that is lent a part of the row
module _ {K R O V : Type 0} (m : K → FixedArithmetic → KindModel V) (r : R → RoundingRule) (o : O → OverflowRule) (c c' : Running K R O) (row short' : List V) (n : ℕ) (fits : n ≤ length row) (t : Told V) (call : Call)
    (refuses : leb (registers_in c) n ≡ false → (rs : List V) → answered_to m r o c rs call ≡ Err RegisterRow)
    (works : Works m r o c (take n row) call c' short' t) where
  abbrev short : List V
  short = take n row

  abbrev left : List V
  left = short' ++ drop n row

  abbrev leaving : Channel V → Channel V
  leaving ch = leaves (values m r o c) (meaning r o c.values.setting) (graph c) (limits_in c.watch) ch call (answer (values m r o c) (meaning r o c.values.setting) (graph c) (limits_in c.watch) ch call)

  short_long : length short' ≡ n
  short_long = works.long ∙ length-take-le n row fits

  left_long : length left ≡ length row
  left_long = let a = length-append short' (drop n row) in let b = length-drop n row in let d = short_long in omega arith

  same_registers : registers_in c' ≡ registers_in c
  same_registers = ap (λ x. length (vec_items x.sources)) works.same.wiring

  enough : registers_in c ≤ n → Works m r o c row call c' left t
  enough h =
      let a : holding c short ≡ holding c row = same_parts (holding c short) (holding c row) refl (take-take (registers_in c) n row h) refl in
      let b : holding c' left ≡ holding c' short' = let d = short_long in let e = same_registers in same_parts (holding c' left) (holding c' short') refl (take-append-le (registers_in c') short' (drop n row) (omega arith)) refl in
      record {
        tells = subst (λ x. Tells (answer (values m r o c) (meaning r o c.values.setting) (graph c) (limits_in c.watch) x call) t) a works.tells;
        holds = b ∙ works.holds ∙ ap leaving a;
        same = works.same;
        long = left_long;
        rest = drop-append-le (registers_in c) short' (drop n row) (let d = short_long in omega arith) ∙ ap (λ x. x ++ drop n row) works.rest
            ∙ sym (drop-append-le (registers_in c) short (drop n row) (let d = length-take-le n row fits in omega arith)) ∙ ap (drop (registers_in c)) (take-append-drop n row);
      }

  lacking : n < registers_in c → leb (registers_in c) n ≡ false → Works m r o c row call c' left t
  lacking h q =
      let a : holding c' short' ≡ holding c short = works.holds ∙ ap (leaves (values m r o c) (meaning r o c.values.setting) (graph c) (limits_in c.watch) (holding c short) call) (refuses q short) in
      let k = short_long in
      let e = same_registers in
      let l = length-take-le n row fits in
      let b : short' ≡ short = sym (take_all (registers_in c') short' (omega arith)) ∙ ap (λ (x : Channel V). x.registers) a ∙ take_all (registers_in c) short (omega arith) in
      let d : left ≡ row = ap (λ x. x ++ drop n row) b ∙ take-append-drop n row in
      record {
        tells = subst (λ x. Tells x t) (refuses q short ∙ sym (refuses q row)) works.tells;
        holds = same_parts (holding c' left) (holding c row) (ap (λ (x : Channel V). x.coefficients) a) ((λ i. take (e i) (d i))) (ap (λ (x : Channel V). x.watch) a)
            ∙ ap (leaves (values m r o c) (meaning r o c.values.setting) (graph c) (limits_in c.watch) (holding c row) call) (sym (refuses q row));
        same = works.same;
        long = left_long;
        rest = ap (drop (registers_in c)) d;
      }

  pub lent_works : Works m r o c row call c' left t
  lent_works = go (leb (registers_in c) n) refl
    where
      go : (b : Bool) → leb (registers_in c) n ≡ b → Works m r o c row call c' left t
      go true e = enough (leb-true _ _ e)
      go false e = lacking (leb-false _ _ e) e

module _ {K R O V : Type 0} (m : K → FixedArithmetic → KindModel V) (r : R → RoundingRule) (o : O → OverflowRule) (c c' : Running K R O) (row short' : List V) (n a : ℕ) (t : Told V) (is : n ≡ min a (length row)) where
  fits : n ≤ length row
  fits = omega arith

  whole_row : short' ++ drop n row ≡ short' ++ drop (n - 0) row
  whole_row = ap (λ x. short' ++ drop x row) (sym (sub-zero n))

  short_row : take (n - 0) row ≡ take n row
  short_row = ap (λ x. take x row) (sub-zero n)

  short_length : length (take (n - 0) row) ≡ n
  short_length = ap length short_row ∙ length-take-le n row fits

  pub lent_hush : (listed : Listed V) → listed ≡ Hush a → Works m r o c (take (n - 0) row) (hush (length (take (n - 0) row))) c' short' t
      → Works m r o c row (lent (length row) listed) c' (short' ++ drop (n - 0) row) t
  lent_hush listed e w =
      let x : Works m r o c (take n row) (hush n) c' short' t = subst (λ (y : List V × ℕ). Works m r o c y.0 (hush y.1) c' short' t) (λ i. (short_row i, short_length i)) w in
      let y = lent_works m r o c c' row short' n fits t (hush n) (λ q rs. ap (λ b. or_fault (unless b RegisterRow) (Ok hushed)) q) x in
      subst (λ (z : Call × List V). Works m r o c row z.0 c' z.1 t) (λ i. ((ap hush is ∙ ap (lent (length row)) (sym e)) i, whole_row i)) y

  pub lent_feed : (listed : Listed V) (working : Vec V Global) (w : ℕ) (u u' : ℤ) → listed ≡ Feed a working u → w ≡ length (vec_items working) → u' ≡ u → Works m r o c (take (n - 0) row) (feed (length (take (n - 0) row)) w u') c' short' t
      → Works m r o c row (lent (length row) listed) c' (short' ++ drop (n - 0) row) t
  lent_feed listed working w u u' e long same-sample v =
      let x : Works m r o c (take n row) (feed n w u) c' short' t = subst (λ (y : List V × Call). Works m r o c y.0 y.1 c' short' t) (λ i. (short_row i, feed (short_length i) w (same-sample i))) v in
      let y = lent_works m r o c c' row short' n fits t (feed n w u)
      (λ q rs. ap (λ b. or_fault (first (unless b RegisterRow) (first (unless (leb (nodes_in c) w) WorkingRow) (unless (inside (bits (meaning r o c.values.setting)) u) Sample))) (telling (run (values m r o c) (graph c) (vec_items c.program.coefficients) (take (registers_in c) rs) u) fed)) q) x in
      subst (λ (z : Call × List V). Works m r o c row z.0 c' z.1 t) (λ i. (((λ j. feed (is j) (long j) u) ∙ ap (lent (length row)) (sym e)) i, whole_row i)) y

  -- whatever became of the call, places past the registers stay where they stay in the part that it was lent
  pub lent_rest : (reg : ℕ) → length short' ≡ length (take (n - 0) row) → drop reg short' ≡ drop reg (take (n - 0) row) → drop reg (short' ++ drop (n - 0) row) ≡ drop reg row
  lent_rest reg long e = ap (λ x. drop reg (short' ++ drop x row)) (sub-zero n) ∙ go (leb reg n) refl
    where
      long' : length short' ≡ n
      long' = long ∙ short_length

      go : (b : Bool) → leb reg n ≡ b → drop reg (short' ++ drop n row) ≡ drop reg row
      go true q =
          let h = leb-true _ _ q in
          let l = long' in
          let k = length-take-le n row fits in
          drop-append-le reg short' (drop n row) (omega arith) ∙ ap (λ x. x ++ drop n row) (e ∙ ap (drop reg) short_row) ∙ sym (drop-append-le reg (take n row) (drop n row) (omega arith)) ∙ ap (drop reg) (take-append-drop n row)
      go false q =
          let h = leb-false _ _ q in
          let d : n + (reg - n) ≡ reg = omega arith in
          ap (λ x. drop x (short' ++ drop n row)) (sym d) ∙ sym (drop-drop (reg - n) n (short' ++ drop n row)) ∙ ap (drop (reg - n)) (drop_at short' (drop n row) n long') ∙ drop-drop (reg - n) n row ∙ ap (λ x. drop x row) d
