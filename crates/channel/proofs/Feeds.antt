-- A feed: what its steps make is what the call's definition says.
use Rattle.std.proofs.Common.{◌≡◌, ℕ, ◌≤◌, Bool, true, false, leb, List, [], ◌++◌, length, get_or, take, drop, ℤ, Some, None, Ok, Err, vec_items, Option, Result, sym, refl, ap, ◌∙◌, subst, arith, le-leb, leb-true}
use Rattle.std.proofs.lemmas.List.{take-append-drop, take_at, length-map}
use Rattle.arithmetic.specs.Words.{inside}
use Rattle.arithmetic.specs.Formats.{width}
use Rattle.arithmetic.specs.Rounding.{RoundingRule}
use Rattle.arithmetic.specs.Overflow.{OverflowRule}
use Rattle.arithmetic.specs.Settings.{FixedArithmetic, bits, meaning}
use Rattle.kinds.specs.Arithmetics.{Arithmetic}
use Rattle.kinds.specs.Kinds.{KindModel}
use Rattle.wiring.specs.declared.faults.RowFault.TheVariants.{Registers, Working}
use Rattle.wiring.specs.declared.faults.RunFault.{RunFault}
use Rattle.wiring.specs.declared.faults.RunFault.TheVariants.{Row, Node as AtNode}
use Rattle.wiring.specs.Graphs.{Graph}
use Rattle.wiring.specs.Checks.{unless, first}
use Rattle.wiring.specs.Programs.{sound}
use Rattle.wiring.specs.Made.{stepped, registers_stepped}
use Rattle.wiring.specs.Runs.{Worked, work, taken, run, or_fault, attempt, answered, row_after}
use Rattle.wiring.proofs.Simulation.{only, onward_in}
use Rattle.wiring.proofs.Soundness.{first_none, unless_none, sound_source, sound_output}
use Rattle.sheet.proofs.Ran.{ran_row, ran_node, ran_ok}
use Rattle.channel.specs.declared.channel.Channel.{Channel as Running}
use Rattle.channel.specs.declared.fault.CallFault.{CallFault}
use Rattle.channel.specs.declared.fault.CallFault.TheVariants.{RegisterRow, WorkingRow, Sample, Node}
use Rattle.channel.specs.declared.state.State.{State}
use Rattle.channel.specs.declared.state.Limits.{Limits}
use Rattle.channel.specs.Channels.{Call, feed, feed_fault, watched, told, telling, Channel, Answer, fed, answer, leaves}
use Rattle.channel.specs.Running.{limits_in, state_in, graph, nodes_in, values, HandsOut, working_left}
use Rattle.channel.proofs.Holding.{same_parts}

-- a refusal before the nodes leaves the working row
early_stays : {V : Type 0} (z : V) (m : ℕ) (ws : List V) (e : CallFault) (a b c : Bool) → Some e ≡ first (unless a RegisterRow) (first (unless b WorkingRow) (unless c Sample)) → ws ≡ working_left z m ws (Err e)
early_stays z m ws e false b c q = let p : e ≡ RegisterRow = cc in subst (λ x. ws ≡ working_left z m ws (Err x)) (sym p) refl
early_stays z m ws e true false c q = let p : e ≡ WorkingRow = cc in subst (λ x. ws ≡ working_left z m ws (Err x)) (sym p) refl
early_stays z m ws e true true false q = let p : e ≡ Sample = cc in subst (λ x. ws ≡ working_left z m ws (Err x)) (sym p) refl
early_stays z m ws e true true true q = absurd (let z : ◌≡◌ {A = ℕ} 0 1 = cc in omega arith)

stepped_ok : {V : Type 0} (z v : V) (g : Graph) (ws : List V) (x : Result (List V) RunFault) → Ok v ≡ stepped z g ws x → (vs : List V) × (x ≡ Ok vs) × (v ≡ get_or ws g.output z)
stepped_ok z v g ws (Ok vs) e = (vs, refl, only _ _ e)
stepped_ok z v g ws (Err f) e = absurd (let z : ◌≡◌ {A = ℕ} 0 1 = cc in omega arith)

stepped_err : {V : Type 0} (z : V) (g : Graph) (ws : List V) (f : RunFault) (x : Result (List V) RunFault) → Err f ≡ stepped z g ws x → x ≡ Err f
stepped_err z g ws f (Ok vs) e = absurd (let z : ◌≡◌ {A = ℕ} 0 1 = cc in omega arith)
stepped_err z g ws f (Err d) e = cc

module _ {V : Type 0} (k : Arithmetic V) (s : FixedArithmetic) (g : Graph) (limits : Option Limits) (cs : List ℤ) (p : Option State) (rs ws : List V) where
  abbrev n : ℕ
  n = length g.sources

  abbrev nodes : ℕ
  nodes = length g.nodes

  abbrev ch : Channel V
  ch = record { coefficients = cs; registers = take n rs; watch = p }

  module _ (u : ℤ) where
    abbrev call : Call
    call = feed (length rs) (length ws) u

    abbrev says : Result (Answer V) CallFault
    says = answer k s g limits ch call

    abbrev left : Result (Answer V) CallFault → Channel V
    left a = leaves k s g limits ch call a

    -- the answer, the rows and the watch after a feed are those of its definition
    pub record Feeds (r : Result V CallFault) (rs' ws' : List V) (q : Option State) : Type 0 where
      pub answers : HandsOut says r
      pub registers : rs' ≡ (left says).registers ++ drop n rs
      pub working : ws' ≡ working_left k.zero nodes ws says
      pub holds : (record { coefficients = cs; registers = take n rs'; watch = q }) ≡ left says

    from_answer : (a : Result (Answer V) CallFault) → says ≡ a → (r : Result V CallFault) (rs' ws' : List V) (q : Option State) → HandsOut a r
        → rs' ≡ (left a).registers ++ drop n rs → ws' ≡ working_left k.zero nodes ws a → take n rs' ≡ (left a).registers → cs ≡ (left a).coefficients → q ≡ (left a).watch
        → Feeds r rs' ws' q
    from_answer a e r rs' ws' q out row working regs coefs watch = record {
      answers = subst (λ x. HandsOut x r) (sym e) out;
      registers = row ∙ ap (λ x. (left x).registers ++ drop n rs) (sym e);
      working = working ∙ ap (λ x. working_left k.zero nodes ws x) (sym e);
      holds = same_parts (record { coefficients = cs; registers = take n rs'; watch = q }) (left a) coefs regs watch ∙ ap left (sym e);
    }

    -- refused before the nodes are worked
    pub early : (e : CallFault) → Some e ≡ feed_fault (bits s) g (length rs) (length ws) u → Feeds (Err e) rs ws p
    early e q = from_answer (Err e) (ap (λ (f : Option CallFault). or_fault f (telling (run k g cs (take n rs) u) fed)) (sym q)) (Err e) rs ws p refl (sym (take-append-drop n rs)) (early_stays k.zero nodes ws e (leb n (length rs)) (leb nodes (length ws)) (inside (bits s) u) q) refl refl refl

    module _ (fine : None ≡ feed_fault (bits s) g (length rs) (length ws) u) where
      rows : (n ≤ length rs) × (nodes ≤ length ws)
      rows =
          let t = first_none _ _ (sym fine) in
          (leb-true _ _ (unless_none _ _ t.0), leb-true _ _ (unless_none _ _ (first_none _ _ t.1).0))

      attempt_is : attempt k g cs rs ws u ≡ work k cs (take n rs) u [] g.nodes
      attempt_is =
          let a = le-leb n (length rs) rows.0 in
          let b = le-leb nodes (length ws) rows.1 in
          λ i. or_fault (first (unless (a i) (Row Registers)) (unless (b i) (Row Working))) (work k cs (take n rs) u [] g.nodes)

      says_is : (x : Result (Worked V) RunFault) → run k g cs (take n rs) u ≡ x → says ≡ telling x fed
      says_is x e i = or_fault (sym fine i) (telling (e i) fed)

      run_is : (vs : List V) → attempt k g cs rs ws u ≡ Ok vs → run k g cs (take n rs) u ≡ Ok (taken g k.zero vs)
      unfolding run
      run_is vs e = onward_in (work k cs (take n rs) u [] g.nodes) (λ vs. Ok (taken g k.zero vs)) vs (taken g k.zero vs) (sym attempt_is ∙ e) refl

      module _ (rs' ws' : List V) (row : ws' ≡ row_after k.zero nodes ws (attempt k g cs rs ws u)) (moved : rs' ≡ registers_stepped k.zero g rs ws' (attempt k g cs rs ws u)) where
        -- accepted
        pub fed_is : sound g cs ≡ true → (v : V) (q : Option State) → Ok v ≡ stepped k.zero g ws' (attempt k g cs rs ws u) → q ≡ watched limits call p → Feeds (Ok v) rs' ws' q
        fed_is good v q e watch =
            let a = stepped_ok k.zero v g ws' (attempt k g cs rs ws u) e in
            let vs = a.0 in
            let w : Worked V = taken g k.zero vs in
            let runs = run_is vs a.1 in
            let t = ran_ok k g cs rs ws u rows.0 rows.1 tt ws' (sound_source g cs good) (sound_output g cs good) (sym (ap answered a.1)) row in
            let same : t.0 ≡ w = only _ _ (sym t.1 ∙ runs) in
            let regs : rs' ≡ w.registers ++ drop n rs = moved ∙ ap (registers_stepped k.zero g rs ws') a.1 ∙ ap (λ l. l ++ drop n rs) (t.2 ∙ ap (λ (y : Worked V). y.registers) same) in
            let out : v ≡ w.output = a.2 ∙ t.3 ∙ ap (λ (y : Worked V). y.output) same in
            from_answer (Ok (fed w)) (says_is (Ok w) runs) (Ok v) rs' ws' q (ap (λ x. Ok x) out) regs (row ∙ ap (row_after k.zero nodes ws) a.1)
            (ap (take n) regs ∙ take_at w.registers (drop n rs) n (length-map g.sources (λ x. get_or vs x k.zero))) refl watch

        -- refused at a node
        pub stopped_is : (f : RunFault) → Err f ≡ stepped k.zero g ws' (attempt k g cs rs ws u) → Feeds (Err (told f)) rs' ws' p
        stopped_is f e = go f (stepped_err k.zero g ws' f (attempt k g cs rs ws u) e)
          where
            go : (f : RunFault) → attempt k g cs rs ws u ≡ Err f → Feeds (Err (told f)) rs' ws' p
            go (Row x) a = absurd (ran_row k g cs rs ws u rows.0 rows.1 x (sym (ap answered a)))
            go (AtNode j x) a =
                let runs = ran_node k g cs rs ws u rows.0 rows.1 j x (sym (ap answered a)) in
                let stays : rs' ≡ rs = moved ∙ ap (registers_stepped k.zero g rs ws') a in
                from_answer (Err (Node j x)) (says_is (Err (AtNode j x)) runs) (Err (Node j x)) rs' ws' p refl (stays ∙ sym (take-append-drop n rs)) (row ∙ ap (row_after k.zero nodes ws) a) (ap (take n) stays) refl refl

-- ---- the same of a running channel, whose sample came through calls as u and is v
module _ {K R O V : Type 0} (m : K → FixedArithmetic → KindModel V) (r : R → RoundingRule) (o : O → OverflowRule) (b : Running K R O) (rs ws : List V) where
  abbrev pub FeedsOn : ℤ → Result V CallFault → List V → List V → Option State → Type 0
  FeedsOn x = Feeds (values m r o b) (meaning r o b.values.setting) (graph b) (limits_in b.watch) (vec_items b.program.coefficients) (state_in b.watch) rs ws x

  abbrev z : V
  z = (values m r o b).zero

  abbrev tried : ℤ → Result (List V) RunFault
  tried x = attempt (values m r o b) (graph b) (vec_items b.program.coefficients) rs ws x

  module _ (u v : ℤ) (same : u ≡ v) where
    pub early_on : (e : CallFault) → Some e ≡ feed_fault (width b.values.setting.format) (graph b) (length rs) (length ws) u → FeedsOn v (Err e) rs ws (state_in b.watch)
    early_on e q =
        subst (λ x. FeedsOn x (Err e) rs ws (state_in b.watch)) same
        (early (values m r o b) (meaning r o b.values.setting) (graph b) (limits_in b.watch) (vec_items b.program.coefficients) (state_in b.watch) rs ws u e q)

    module _ (fine : None ≡ feed_fault (width b.values.setting.format) (graph b) (length rs) (length ws) u) (rs' ws' : List V)
        (row : ws' ≡ row_after z (nodes_in b) ws (tried u)) (moved : rs' ≡ registers_stepped z (graph b) rs ws' (tried u)) where
      pub fed_on : (out : V) (q : Option State) → Ok out ≡ stepped z (graph b) ws' (tried u) → q ≡ watched (limits_in b.watch) (feed (length rs) (length ws) u) (state_in b.watch) → FeedsOn v (Ok out) rs' ws' q
      fed_on out q e watch =
          subst (λ x. FeedsOn x (Ok out) rs' ws' q) same
          (fed_is (values m r o b) (meaning r o b.values.setting) (graph b) (limits_in b.watch) (vec_items b.program.coefficients) (state_in b.watch) rs ws u fine rs' ws' row moved b.program.sound out q e watch)

      pub stopped_on : (f : RunFault) (e : CallFault) → e ≡ told f → Err f ≡ stepped z (graph b) ws' (tried u) → FeedsOn v (Err e) rs' ws' (state_in b.watch)
      stopped_on f e is q =
          subst (λ x. FeedsOn x (Err e) rs' ws' (state_in b.watch)) same
          (subst (λ x. FeedsOn u (Err x) rs' ws' (state_in b.watch)) (sym is)
          (stopped_is (values m r o b) (meaning r o b.values.setting) (graph b) (limits_in b.watch) (vec_items b.program.coefficients) (state_in b.watch) rs ws u fine rs' ws' row moved f q))
