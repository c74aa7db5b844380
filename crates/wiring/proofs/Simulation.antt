-- One simulation lemma: let R relate the values of an arithmetic to pairs of values of two others. If an operation that the first takes on related
-- operands is taken by both others, with related results, then a run that the first takes is taken by both others, and every node, the output and
-- the registers are related. The last arithmetic has a coefficient list of its own, related place by place to that of the first two.
use Rattle.std.proofs.Common.{◌≡◌, ℕ, List, [], ◌∷◌, ◌++◌, length, ℤ, pos, Ok, Err, Result, refl, arith}
use Rattle.kinds.specs.declared.refusal.Refusal.{Refusal}
use Rattle.kinds.specs.Arithmetics.{Arithmetic}
use Rattle.kinds.specs.Kinds.{Goes}
use Rattle.wiring.specs.declared.graph.Node.{Node}
use Rattle.wiring.specs.declared.graph.Node.TheVariants.{Input, Zero, Register, Scale, Sum, Difference}
use Rattle.wiring.specs.Lists.{Each₂, Each₃, none₃}
use Rattle.wiring.specs.Graphs.{Graph}
use Rattle.wiring.specs.Runs.{onward, at_node, node_value, work, Worked, taken, run}
use Rattle.wiring.specs.Covering.{Related}
use Rattle.wiring.proofs.Places.{each₂_at, each₃_at, each₃_push, each₃_taken}

pub only : {A E : Type 0} (a b : A) → ◌≡◌ {A = Result A E} (Ok a) (Ok b) → a ≡ b
only a b e = cc

pub onward_out : {A B E : Type 0} (o : Result A E) (f : A → Result B E) (b : B) → onward o f ≡ Ok b → (a : A) × (o ≡ Ok a) × (f a ≡ Ok b)
onward_out (Ok a) f b e = (a, refl, e)
onward_out (Err x) f b e = absurd (let z : ◌≡◌ {A = ℕ} 0 1 = cc in omega arith)

pub onward_in : {A B E : Type 0} (o : Result A E) (f : A → Result B E) (a : A) (b : B) → o ≡ Ok a → f a ≡ Ok b → onward o f ≡ Ok b
onward_in o f a b e g = rw e g

node_out : {V : Type 0} (p : ℕ) (x : Result V Refusal) (v : V) → at_node p x ≡ Ok v → x ≡ Ok v
node_out p (Ok a) v e = cc
node_out p (Err n) v e = absurd (let z : ◌≡◌ {A = ℕ} 0 1 = cc in omega arith)

node_in : {V : Type 0} (p : ℕ) (x : Result V Refusal) (v : V) → x ≡ Ok v → at_node p x ≡ Ok v
node_in p x v e = rw e

-- what is asked of the operations; P relates the coefficients of the first two to those of the last
pub record Simulates {A B C : Type 0} (k : Arithmetic A) (f : Arithmetic B) (g : Arithmetic C) (R : A → B → C → Type 0) (P : ℤ → ℤ → Type 0) (ua ub uc : ℤ) : Type 0 where
  pub of_sample : (a : A) → k.sample ua ≡ Ok a → Goes R a (f.sample ub) (g.sample uc)
  pub of_zero : R k.zero f.zero g.zero
  pub of_scale : (c d : ℤ) → P c d → (a : A) (b : B) (x : C) → R a b x → (r : A) → k.scale c a ≡ Ok r → Goes R r (f.scale c b) (g.scale d x)
  pub of_sum : (a a' : A) (b b' : B) (x x' : C) → R a b x → R a' b' x' → (r : A) → k.sum a a' ≡ Ok r → Goes R r (f.sum b b') (g.sum x x')
  pub of_difference : (a a' : A) (b b' : B) (x x' : C) → R a b x → R a' b' x' → (r : A) → k.difference a a' ≡ Ok r → Goes R r (f.difference b b') (g.difference x x')

module _ {A B C : Type 0} (k : Arithmetic A) (f : Arithmetic B) (g : Arithmetic C) (R : A → B → C → Type 0) (P : ℤ → ℤ → Type 0) (ua ub uc : ℤ)
    (laws : Simulates k f g R P ua ub uc) (cs ds : List ℤ) (lists : Each₂ P cs ds) (none : P (pos 0) (pos 0))
    (rs : List A) (bs : List B) (xs : List C) (old : Each₃ R rs bs xs) where
  held : (a v : A) (b : B) (x : C) → R a b x → ◌≡◌ {A = Result A Refusal} (Ok a) (Ok v) → Goes {E = Refusal} R v (Ok b) (Ok x)
  held a v b x h e = record { left = b; right = x; left_is = refl; right_is = refl; related = rw (only _ _ e) at h }

  node_goes : (vs : List A) (ws : List B) (ys : List C) → Each₃ R vs ws ys → (n : Node) (v : A) → node_value k cs rs ua vs n ≡ Ok v
      → Goes R v (node_value f cs bs ub ws n) (node_value g ds xs uc ys n)
  node_goes vs ws ys h Input = laws.of_sample
  node_goes vs ws ys h Zero = λ v e. held _ v _ _ laws.of_zero e
  node_goes vs ws ys h (Register r) = λ v e. held _ v _ _ (each₃_at old laws.of_zero r) e
  node_goes vs ws ys h (Scale p c) = laws.of_scale _ _ (each₂_at lists none c) _ _ _ (each₃_at h laws.of_zero p)
  node_goes vs ws ys h (Sum p q) = laws.of_sum _ _ _ _ _ _ (each₃_at h laws.of_zero p) (each₃_at h laws.of_zero q)
  node_goes vs ws ys h (Difference p q) = laws.of_difference _ _ _ _ _ _ (each₃_at h laws.of_zero p) (each₃_at h laws.of_zero q)

  work_goes : (ns : List Node) (vs : List A) (ws : List B) (ys : List C) → Each₃ R vs ws ys → (r : List A) → work k cs rs ua vs ns ≡ Ok r
      → Goes (Each₃ R) r (work f cs bs ub ws ns) (work g ds xs uc ys ns)
  unfolding work
  work_goes [] vs ws ys h r e = record { left = ws; right = ys; left_is = refl; right_is = refl; related = rw (only _ _ e) at h }
  work_goes (n ∷ ns) vs ws ys h r e =
      let t = onward_out (at_node (length vs) (node_value k cs rs ua vs n)) (λ v. work k cs rs ua (vs ++ (v ∷ [])) ns) r e in
      let m = node_goes vs ws ys h n t.0 (node_out (length vs) (node_value k cs rs ua vs n) t.0 t.1) in
      let i = work_goes ns (vs ++ (t.0 ∷ [])) (ws ++ (m.left ∷ [])) (ys ++ (m.right ∷ [])) (each₃_push h m.related) r t.2 in
      record {
        left = i.left;
        right = i.right;
        left_is = onward_in (at_node (length ws) (node_value f cs bs ub ws n)) (λ v. work f cs bs ub (ws ++ (v ∷ [])) ns) m.left i.left (node_in (length ws) (node_value f cs bs ub ws n) m.left m.left_is) i.left_is;
        right_is = onward_in (at_node (length ys) (node_value g ds xs uc ys n)) (λ v. work g ds xs uc (ys ++ (v ∷ [])) ns) m.right i.right (node_in (length ys) (node_value g ds xs uc ys n) m.right m.right_is) i.right_is;
        related = i.related;
      }

  pub simulation : (w : Graph) (r : Worked A) → run k w cs rs ua ≡ Ok r → Goes (Related R) r (run f w cs bs ub) (run g w ds xs uc)
  unfolding run
  simulation w r e =
      let t = onward_out (work k cs rs ua [] w.nodes) (λ vs. Ok (taken w k.zero vs)) r e in
      let i = work_goes w.nodes [] [] [] none₃ t.0 t.1 in
      let c : Related R (taken w k.zero t.0) (taken w f.zero i.left) (taken w g.zero i.right) = record {
        values = i.related;
        output = each₃_at i.related laws.of_zero w.output;
        registers = each₃_taken i.related laws.of_zero w.sources;
      } in
      record {
        left = taken w f.zero i.left;
        right = taken w g.zero i.right;
        left_is = onward_in (work f cs bs ub [] w.nodes) (λ vs. Ok (taken w f.zero vs)) i.left (taken w f.zero i.left) i.left_is refl;
        right_is = onward_in (work g ds xs uc [] w.nodes) (λ vs. Ok (taken w g.zero vs)) i.right (taken w g.zero i.right) i.right_is refl;
        related = rw (only _ _ t.2) at c;
      }
