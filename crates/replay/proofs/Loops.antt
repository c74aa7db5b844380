-- The log grows by one entry a call.
use Rattle.std.proofs.Common.{◌≡◌, ℕ, zero, suc, ◌+◌, ◌<◌, ◌⊎◌, List, [], ◌∷◌, ◌++◌, map, length, get_or, take, drop, ℤ, Some, vec_items, Option, Result, sym, refl, ap, ◌∙◌, subst, inl, inr, arith}
use Rattle.std.proofs.lemmas.List.{take-append-drop, length-append, length-map}
use Rattle.arithmetic.specs.Rounding.{RoundingRule}
use Rattle.arithmetic.specs.Overflow.{OverflowRule}
use Rattle.arithmetic.specs.Settings.{FixedArithmetic, meaning}
use Rattle.kinds.specs.Arithmetics.{Arithmetic}
use Rattle.kinds.specs.Kinds.{KindModel, arithmetic}
use Rattle.wiring.specs.Graphs.{Graph, graph_of}
use Rattle.channel.specs.declared.channel.Channel.{Channel as Running}
use Rattle.channel.specs.declared.fault.CallFault.{CallFault}
use Rattle.channel.specs.declared.state.Limits.{Limits}
use Rattle.channel.specs.Channels.{Call, Channel, Answer, answer, leaves, after}
use Rattle.channel.specs.Running.{limits_in, registers_in, graph, holding, Same, values, answered_to, left_by}
use Rattle.replay.specs.declared.log.Call.{Call as Listed}
use Rattle.replay.specs.declared.log.Told.{Told}
use Rattle.replay.specs.declared.log.Told.TheVariants.{Opened}
use Rattle.replay.specs.declared.log.Entry.{Entry}
use Rattle.replay.specs.Log.{place, lent, then, earlier, Shows, Tells, Logged}
use Rattle.replay.specs.Replaying.{RowShows, Works, Started, Logs}
use Rattle.replay.proofs.Along.{some_is}

-- ---- places
push_place : {A : Type 0} (xs : List A) (y : A) (i : ℕ) (x : A) → place (xs ++ y ∷ []) i ≡ Some x → (place xs i ≡ Some x) ⊎ ((i ≡ length xs) × (x ≡ y))
push_place [] y zero x e = inr (refl, cc)
push_place [] y (suc i) x e = absurd (let z : ◌≡◌ {A = ℕ} 0 1 = cc in omega arith)
push_place (z ∷ xs) y zero x e = inl e
push_place (z ∷ xs) y (suc i) x e = go (push_place xs y i x e)
  where
    go : ((place xs i ≡ Some x) ⊎ ((i ≡ length xs) × (x ≡ y))) → (place xs i ≡ Some x) ⊎ ((suc i ≡ suc (length xs)) × (x ≡ y))
    go (inl p) = inl p
    go (inr p) = inr (ap suc p.0, p.1)

pub place_get_or : {A : Type 0} (xs : List A) (i : ℕ) (d : A) → i < length xs → place xs i ≡ Some (get_or xs i d)
place_get_or [] i d h = absurd (omega arith)
place_get_or (x ∷ xs) zero d h = refl
place_get_or (x ∷ xs) (suc i) d h = place_get_or xs i d (omega arith)

pub place_map : {A B : Type 0} (f : A → B) (xs : List A) (i : ℕ) (x : A) → place xs i ≡ Some x → place (map f xs) i ≡ Some (f x)
place_map f [] i x e = absurd (let z : ◌≡◌ {A = ℕ} 0 1 = cc in omega arith)
place_map f (y ∷ xs) zero x e = let q : y ≡ x = cc in ap (λ z. Some (f z)) q
place_map f (y ∷ xs) (suc i) x e = place_map f xs i x e

-- ---- the log after the first n calls
pub record Partly {V : Type 0} (k : Arithmetic V) (s : FixedArithmetic) (g : Graph) (cs : List ℤ) (limits : Option Limits) (calls : List Call) (log : List (Entry V)) (n : ℕ) : Type 0 where
  pub entries : length log ≡ n + 1
  pub opens : (e : Entry V) → place log 0 ≡ Some e → e.told ≡ Opened
  pub shows : (i : ℕ) (e : Entry V) → place log i ≡ Some e → Shows (after k s g limits cs (earlier calls i)) e
  pub tells : (i : ℕ) (c : Call) (e : Entry V) → place calls i ≡ Some c → place log (suc i) ≡ Some e → Tells (answer k s g limits (after k s g limits cs (earlier calls i)) c) e.told

module _ {V : Type 0} (k : Arithmetic V) (s : FixedArithmetic) (g : Graph) (cs : List ℤ) (limits : Option Limits) (calls : List Call) where
  pub one_entry : (log : List (Entry V)) (e : Entry V) → log ≡ [] ++ e ∷ [] → Shows (after k s g limits cs []) e → e.told ≡ Opened → Partly k s g cs limits calls log 0
  one_entry log e q sh op = subst (λ l. Partly k s g cs limits calls l 0) (sym q) (record {
    entries = refl;
    opens = λ x p. ap (λ (z : Entry V). z.told) (sym (some_is _ _ p)) ∙ op;
    shows = first_shown;
    tells = λ i c x p z. absurd (let w : ◌≡◌ {A = ℕ} 0 1 = cc in omega arith);
  })
    where
      first_shown : (i : ℕ) (x : Entry V) → place (e ∷ []) i ≡ Some x → Shows (after k s g limits cs (earlier calls i)) x
      first_shown zero x p = subst (Shows (after k s g limits cs [])) (some_is _ _ p) sh
      first_shown (suc i) x p = absurd (let w : ◌≡◌ {A = ℕ} 0 1 = cc in omega arith)

  pub more_entries : (log log' : List (Entry V)) (n : ℕ) (c : Call) (e : Entry V) → Partly k s g cs limits calls log n → log' ≡ log ++ e ∷ [] → place calls n ≡ Some c
      → Shows (after k s g limits cs (earlier calls (suc n))) e → Tells (answer k s g limits (after k s g limits cs (earlier calls n)) c) e.told → Partly k s g cs limits calls log' (n + 1)
  more_entries log log' n c e p q at sh te = subst (λ l. Partly k s g cs limits calls l (n + 1)) (sym q) (record {
    entries = let a = length-append log (e ∷ []) in let b = p.entries in omega arith;
    opens = λ x z. opens x (push_place log e 0 x z);
    shows = λ i x z. shows i x (push_place log e i x z);
    tells = λ i d x y z. tells i d x y (push_place log e (suc i) x z);
  })
    where
      opens : (x : Entry V) → ((place log 0 ≡ Some x) ⊎ ((0 ≡ length log) × (x ≡ e))) → x.told ≡ Opened
      opens x (inl z) = p.opens x z
      opens x (inr z) = absurd (let a = p.entries in let b = z.0 in omega arith)

      shows : (i : ℕ) (x : Entry V) → ((place log i ≡ Some x) ⊎ ((i ≡ length log) × (x ≡ e))) → Shows (after k s g limits cs (earlier calls i)) x
      shows i x (inl z) = p.shows i x z
      shows i x (inr z) =
          let a = p.entries in
          let b = z.0 in
          let j : suc n ≡ i = omega arith in
          subst (λ y. Shows (after k s g limits cs (earlier calls i)) y) (sym z.1) (subst (λ y. Shows (after k s g limits cs (earlier calls y)) e) j sh)

      tells : (i : ℕ) (d : Call) (x : Entry V) → place calls i ≡ Some d → ((place log (suc i) ≡ Some x) ⊎ ((suc i ≡ length log) × (x ≡ e))) → Tells (answer k s g limits (after k s g limits cs (earlier calls i)) d) x.told
      tells i d x y (inl z) = p.tells i d x y z
      tells i d x y (inr z) =
          let a = p.entries in
          let b = z.0 in
          let j : n ≡ i = omega arith in
          let f : c ≡ d = some_is _ _ (sym at ∙ ap (place calls) j ∙ y) in
          subst (λ w. Tells (answer k s g limits (after k s g limits cs (earlier calls i)) d) w.told) (sym z.1)
          (subst (λ w. Tells (answer k s g limits (after k s g limits cs (earlier calls i)) w) e.told) f (subst (λ w. Tells (answer k s g limits (after k s g limits cs (earlier calls w)) c) e.told) j te))

  pub all_entries : (log : List (Entry V)) (n : ℕ) → n ≡ length calls → Partly k s g cs limits calls log n → Logged k s g cs limits calls log
  all_entries log n q p = record { entries = let a = p.entries in omega arith; opens = p.opens; shows = p.shows; tells = p.tells }

  pub after_more : (n : ℕ) (c : Call) → place calls n ≡ Some c → leaves k s g limits (after k s g limits cs (earlier calls n)) c (answer k s g limits (after k s g limits cs (earlier calls n)) c) ≡ after k s g limits cs (earlier calls (suc n))
  unfolding after
  after_more n c e = ap (λ x. after k s g limits cs (then x (earlier calls n))) (sym e)

-- ---- the loop
module _ {K R O V : Type 0} (m : K → FixedArithmetic → KindModel V) (r : R → RoundingRule) (o : O → OverflowRule) (first : Running K R O) (first_row : List V) (listed : List (Listed V)) where
  abbrev calls : List Call
  calls = map (lent (length first_row)) listed

  abbrev held : List Call → Channel V
  held h = after (values m r o first) (meaning r o first.values.setting) (graph first) (limits_in first.watch) (vec_items first.program.coefficients) h

  -- after the first n calls: the channel, the row and the log
  pub record Follows (c : Running K R O) (row : List V) (log : List (Entry V)) (n : ℕ) : Type 0 where
    pub same : Same first c
    pub long : length row ≡ length first_row
    pub rest : drop (registers_in first) row ≡ drop (registers_in first) first_row
    pub holds : holding c row ≡ held (earlier calls n)
    pub partly : Partly (values m r o first) (meaning r o first.values.setting) (graph first) (vec_items first.program.coefficients) (limits_in first.watch) calls log n

  pub follows_none : Started m r o first first_row → (log : List (Entry V)) (e : Entry V) → log ≡ [] ++ e ∷ [] → Shows (holding first first_row) e → e.told ≡ Opened → Follows first first_row log 0
  follows_none st log e q sh op = record {
    same = record { kind = refl; setting = refl; wiring = refl; limits = refl };
    long = refl;
    rest = refl;
    holds = st;
    partly = one_entry _ _ _ _ _ calls log e q (subst (λ z. Shows z e) st sh) op;
  }

  -- what a call answers and leaves is the same of the first channel's parts
  module _ (c c' : Running K R O) (row row' : List V) (same : Same first c) (ch : Channel V) (holds : holding c row ≡ ch) (call : Call) where
    abbrev says : Result (Answer V) CallFault
    says = answer (values m r o first) (meaning r o first.values.setting) (graph first) (limits_in first.watch) ch call

    says_is : answered_to m r o c row call ≡ says
    says_is i = answer (arithmetic m r o (same.kind i) (same.setting i)) (meaning r o (same.setting i)) (graph_of (same.wiring i)) (same.limits i) (holds i) call

    leaves_is : left_by m r o c row call ≡ leaves (values m r o first) (meaning r o first.values.setting) (graph first) (limits_in first.watch) ch call says
    leaves_is i = leaves (arithmetic m r o (same.kind i) (same.setting i)) (meaning r o (same.setting i)) (graph_of (same.wiring i)) (same.limits i) (holds i) call (says_is i)

  same_on : (c c' : Running K R O) → Same first c → Same c c' → Same first c'
  same_on c c' a b = record { kind = b.kind ∙ a.kind; setting = b.setting ∙ a.setting; wiring = b.wiring ∙ a.wiring; limits = b.limits ∙ a.limits }

  pub follows_more : (c c' : Running K R O) (row row' : List V) (log log' : List (Entry V)) (n : ℕ) (call : Listed V) (t : Told V) (e : Entry V) → Follows c row log n → place listed n ≡ Some call
      → Works m r o c row (lent (length row) call) c' row' t → Shows (holding c' row') e → e.told ≡ t → log' ≡ log ++ e ∷ [] → Follows c' row' log' (n + 1)
  follows_more c c' row row' log log' n call t e f at w sh te q =
      let d = lent (length first_row) call in
      let at' : place calls n ≡ Some d = place_map (lent (length first_row)) listed n call at in
      let w' : Works m r o c row d c' row' t = subst (λ x. Works m r o c row (lent x call) c' row' t) f.long w in
      let next : holding c' row' ≡ held (earlier calls (suc n)) = w'.holds ∙ leaves_is c c' row row' f.same (held (earlier calls n)) f.holds d ∙ after_more _ _ _ _ _ calls n d at' in
      record {
        same = same_on c c' f.same w'.same;
        long = w'.long ∙ f.long;
        rest = subst (λ x. drop x row' ≡ drop x row) (ap (λ x. length (vec_items x.sources)) f.same.wiring) w'.rest ∙ f.rest;
        holds = subst (λ x. holding c' row' ≡ held (earlier calls x)) (one_more n) next;
        partly = more_entries _ _ _ _ _ calls log log' n d e f.partly q at' (subst (λ z. Shows z e) next sh)
            (subst (λ z. Tells z e.told) (says_is c c' row row' f.same (held (earlier calls n)) f.holds d) (subst (λ z. Tells (answered_to m r o c row d) z) (sym te) w'.tells));
      }
    where
      one_more : (n : ℕ) → suc n ≡ n + 1
      one_more n = omega arith

  pub follows_all : (c : Running K R O) (row : List V) (log : List (Entry V)) (n : ℕ) → Follows c row log n → n ≡ length listed → Logs m r o first (length first_row) listed log
  follows_all c row log n f q = all_entries _ _ _ _ _ calls log n (q ∙ sym (length-map listed (lent (length first_row)))) f.partly

  pub row_shows : (c : Running K R O) (row : List V) (log : List (Entry V)) (n : ℕ) → Follows c row log n → n ≡ length listed → RowShows (registers_in first) (length listed) log first_row row
  row_shows c row log n f q e at =
      let front : take (registers_in first) row ≡ vec_items e.registers =
      ap (λ x. take (length (vec_items x.sources)) row) (sym f.same.wiring) ∙ ap (λ (x : Channel V). x.registers) f.holds ∙ sym (f.partly.shows n e (ap (place log) q ∙ at)).registers in
      sym (take-append-drop (registers_in first) row) ∙ (λ i. front i ++ f.rest i)
