-- The simulation lemma with one arithmetic beside the first, and its uses for rounds: a smaller box, the peaks alone, and how large peaks get.
use Rattle.std.proofs.Common.{◌≡◌, ℕ, ◌+◌, ◌*◌, ◌≤◌, cond, List, map, ℤ, pos, nat_abs, Ok, Err, Result, refl, ap, ◌∙◌, mul-le-mul_left, arith}
use Rattle.arithmetic.specs.Settings.{FixedArithmetic, Lawful, fraction}
use Rattle.kinds.specs.declared.refusal.Refusal.{Refusal}
use Rattle.kinds.specs.declared.refusal.Refusal.TheVariants.{Peak}
use Rattle.kinds.specs.declared.values.Bound.{Bound}
use Rattle.kinds.specs.Arithmetics.{Arithmetic}
use Rattle.kinds.specs.Kinds.{Goes}
use Rattle.kinds.specs.Bounds.{bound_of, bound_arithmetic, peak_limit, fitting, scaled_peak, scaled_ceiling}
use Rattle.kinds.specs.Facts.{leb_yes, up_part_rises, fraction_least, fraction_most}
use Rattle.kinds.specs.Parts.{fitting_is, fits, ceiling_is}
use Rattle.wiring.specs.Graphs.{Graph}
use Rattle.wiring.specs.Lists.{Each₂, none₂, more₂, Each₃, none₃, more₃}
use Rattle.wiring.specs.Runs.{Worked, run}
use Rattle.wiring.proofs.Simulation.{Simulates, simulation}
use Rattle.sheet.specs.Rounds.{fitting_peak, peak_arithmetic}
use Rattle.sheet.specs.Sheets.{Below}
use Rattle.sheet.proofs.Places.{each_refl}

-- an arithmetic with one value, which takes everything
abbrev pub point : Arithmetic (Unit {0})
point = record { sample = λ u. Ok tt; zero = tt; scale = λ c v. Ok tt; sum = λ v w. Ok tt; difference = λ v w. Ok tt }

abbrev pub aside : {A B : Type 0} → (A → B → Type 0) → A → B → Unit {0} → Type 0
aside R a b _ = R a b

abbrev pub points : {A : Type 0} → List A → List (Unit {0})
points xs = map (λ _. tt) xs

each_aside : {A B : Type 0} {R : A → B → Type 0} {xs : List A} {ys : List B} → Each₂ R xs ys → Each₃ (aside R) xs ys (points xs)
each_aside none₂ = none₃
each_aside (more₂ h hs) = more₃ h (each_aside hs)

each_alone : {A B : Type 0} {R : A → B → Type 0} {xs : List A} {ys : List B} {zs : List (Unit {0})} → Each₃ (aside R) xs ys zs → Each₂ R xs ys
each_alone none₃ = none₂
each_alone (more₃ h hs) = more₂ h (each_alone hs)

-- x is taken, and a is related to what it comes to
pub record Goes₂ {A B E : Type 0} (R : A → B → Type 0) (a : A) (x : Result B E) : Type 0 where
  pub left : B
  pub left_is : x ≡ Ok left
  pub related : R a left

-- every node's value, the output and every register
pub record Related₂ {A B : Type 0} (R : A → B → Type 0) (a : Worked A) (b : Worked B) : Type 0 where
  pub values : Each₂ R a.values b.values
  pub output : R a.output b.output
  pub registers : Each₂ R a.registers b.registers

-- what is asked of the operations
pub record Simulates₂ {A B : Type 0} (k : Arithmetic A) (f : Arithmetic B) (R : A → B → Type 0) (ua ub : ℤ) : Type 0 where
  pub of_sample : (a : A) → k.sample ua ≡ Ok a → Goes₂ R a (f.sample ub)
  pub of_zero : R k.zero f.zero
  pub of_scale : (c : ℤ) (a : A) (b : B) → R a b → (r : A) → k.scale c a ≡ Ok r → Goes₂ R r (f.scale c b)
  pub of_sum : (a a' : A) (b b' : B) → R a b → R a' b' → (r : A) → k.sum a a' ≡ Ok r → Goes₂ R r (f.sum b b')
  pub of_difference : (a a' : A) (b b' : B) → R a b → R a' b' → (r : A) → k.difference a a' ≡ Ok r → Goes₂ R r (f.difference b b')

beside : {A B E : Type 0} {R : A → B → Type 0} {a : A} {x : Result B E} → Goes₂ R a x → Goes (aside R) a x (Ok tt)
beside g = record { left = g.left; right = tt; left_is = g.left_is; right_is = refl; related = g.related }

module _ {A B : Type 0} (k : Arithmetic A) (f : Arithmetic B) (R : A → B → Type 0) (ua ub : ℤ) (laws : Simulates₂ k f R ua ub)
    (g : Graph) (cs : List ℤ) (rs : List A) (bs : List B) (old : Each₂ R rs bs) where
  wide : Simulates k f point (aside R) ◌≡◌ ua ub (pos 0)
  wide = record {
    of_sample = λ a e. beside (laws.of_sample a e);
    of_zero = laws.of_zero;
    of_scale = λ c d p a b x h r e. beside (laws.of_scale c a b h r e);
    of_sum = λ a a' b b' x x' h h' r e. beside (laws.of_sum a a' b b' h h' r e);
    of_difference = λ a a' b b' x x' h h' r e. beside (laws.of_difference a a' b b' h h' r e);
  }

  pub simulation₂ : (r : Worked A) → run k g cs rs ua ≡ Ok r → Goes₂ (Related₂ R) r (run f g cs bs ub)
  simulation₂ r e =
      let t = simulation k f point (aside R) ◌≡◌ ua ub (pos 0) wide cs cs (each_refl (λ c. refl) cs) refl rs bs (points rs) (each_aside old) g r e in
      record {
        left = t.left;
        left_is = t.left_is;
        related = record { values = each_alone t.related.values; output = t.related.output; registers = each_alone t.related.registers };
      }

-- ---- bounds, and bounds from a smaller box with a smaller input
abbrev pub Larger : Bound → Bound → Type 0
Larger b a = Below a b

-- a bound and its peak alone
abbrev pub HasPeak : Bound → ℕ → Type 0
HasPeak b p = b.peak ≡ p

module _ (s : FixedArithmetic) (law : Lawful s) where
  peak_rises : (c : ℤ) (p q : ℕ) → p ≤ q → scaled_peak s c p ≤ scaled_peak s c q
  peak_rises c p q h = law.rounding.reach_rises (fraction s) (nat_abs c * p) (nat_abs c * q) (fraction_least s) (fraction_most s) (mul-le-mul_left (nat_abs c) h)

  ceiling_rises : (c : ℤ) (m n : ℕ) → m ≤ n → scaled_ceiling s c m ≤ scaled_ceiling s c n
  ceiling_rises c m n h = let t = up_part_rises (nat_abs c * m) (nat_abs c * n) (fraction s) (mul-le-mul_left (nat_abs c) h) in omega arith

  lower_lands : (p m q n : ℕ) (r : Bound) → q ≤ p → n ≤ m → fitting s p m ≡ Ok r → Goes₂ Larger r (fitting s q n)
  lower_lands p m q n r h k e =
      let t = fitting_is s p m r e in
      let a = t.0 in let b = t.1 in let d = t.2 in let f = t.3 in
      let c = ceiling_is n (omega arith) in
      record { left = bound_of q n; left_is = fits s q n (omega arith) (omega arith); related = record { peak = omega arith; ceiling = omega arith } }

  pub box_simulates : (X Y : ℕ) → Y ≤ X → Simulates₂ (bound_arithmetic s) (bound_arithmetic s) Larger (pos X) (pos Y)
  box_simulates X Y h = record {
    of_sample = λ r e. lower_lands X 0 Y 0 r h (omega arith) e;
    of_zero = record { peak = omega arith; ceiling = omega arith };
    of_scale = λ c a b k r e. lower_lands _ _ _ _ r (peak_rises c b.peak a.peak k.peak) (ceiling_rises c b.ceiling a.ceiling k.ceiling) e;
    of_sum = λ a a' b b' k k' r e. sums a a' b b' k k' r e;
    of_difference = λ a a' b b' k k' r e. sums a a' b b' k k' r e;
  }
    where
      sums : (a a' b b' : Bound) → Larger a b → Larger a' b' → (r : Bound) → fitting s (a.peak + a'.peak) (a.ceiling + a'.ceiling) ≡ Ok r
          → Goes₂ Larger r (fitting s (b.peak + b'.peak) (b.ceiling + b'.ceiling))
      sums a a' b b' k k' r e = let p = k.peak in let q = k'.peak in let m = k.ceiling in let n = k'.ceiling in lower_lands _ _ _ _ r (omega arith) (omega arith) e

  -- ---- bounds, and their peaks alone
  peak_lands : (p m q : ℕ) (r : Bound) → p ≡ q → fitting s p m ≡ Ok r → Goes₂ HasPeak r (fitting_peak s q)
  peak_lands p m q r h e =
      let t = fitting_is s p m r e in
      let a = t.0 in let d = t.2 in
      record { left = q; left_is = ap (λ b. cond b (Ok q) (Err Peak)) (leb_yes q (peak_limit s) (omega arith)); related = d ∙ h }

  pub peak_simulates : (u : ℤ) → Simulates₂ (bound_arithmetic s) (peak_arithmetic s) HasPeak u u
  peak_simulates u = record {
    of_sample = λ r e. peak_lands (nat_abs u) 0 (nat_abs u) r refl e;
    of_zero = refl;
    of_scale = λ c a b h r e. peak_lands (scaled_peak s c a.peak) (scaled_ceiling s c a.ceiling) (scaled_peak s c b) r (ap (scaled_peak s c) h) e;
    of_sum = λ a a' b b' h h' r e. peak_lands (a.peak + a'.peak) (a.ceiling + a'.ceiling) (b + b') r (λ i. h i + h' i) e;
    of_difference = λ a a' b b' h h' r e. peak_lands (a.peak + a'.peak) (a.ceiling + a'.ceiling) (b + b') r (λ i. h i + h' i) e;
  }

  -- ---- peaks stay within the largest word
  abbrev pub Small : Bound → Unit {0} → Type 0
  Small b _ = b.peak ≤ peak_limit s

  small_lands : (p m : ℕ) (r : Bound) → fitting s p m ≡ Ok r → Goes₂ {E = Refusal} Small r (Ok tt)
  small_lands p m r e = let t = fitting_is s p m r e in let a = t.0 in let b = t.2 in record { left = tt; left_is = refl; related = omega arith }

  pub small_simulates : (u : ℤ) → Simulates₂ (bound_arithmetic s) point Small u u
  small_simulates u = record {
    of_sample = λ r e. small_lands (nat_abs u) 0 r e;
    of_zero = omega arith;
    of_scale = λ c a b h r e. small_lands (scaled_peak s c a.peak) (scaled_ceiling s c a.ceiling) r e;
    of_sum = λ a a' b b' h h' r e. small_lands (a.peak + a'.peak) (a.ceiling + a'.ceiling) r e;
    of_difference = λ a a' b b' h h' r e. small_lands (a.peak + a'.peak) (a.ceiling + a'.ceiling) r e;
  }
