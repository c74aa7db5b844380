-- Rounds from zero come to the least closed box, or show that there is none; rounds with input 0 from a closed box lower its peaks.
use Rattle.std.proofs.Common.{◌≡◌, ℕ, zero, suc, ◌+◌, ◌-◌, ◌*◌, ◌^◌, ◌<◌, ◌≤◌, List, [], ◌∷◌, map, length, get_or, ℤ, pos, Ok, Err, Result, sym, refl, ap, ◌∙◌, subst, ⊎_elim, add-zero, arith, pow_mono}
use Rattle.std.proofs.lemmas.Nat.{mul-le}
use Rattle.std.proofs.lemmas.List.{length-map, get_or-map}
use Rattle.arithmetic.specs.Settings.{FixedArithmetic, Lawful, inner_bits}
use Rattle.kinds.specs.declared.refusal.Refusal.{Refusal}
use Rattle.kinds.specs.declared.values.Bound.{Bound}
use Rattle.kinds.specs.Bounds.{bound_arithmetic, peak_limit}
use Rattle.wiring.specs.declared.faults.RunFault.TheVariants.{Node as AtNode}
use Rattle.wiring.specs.Graphs.{Graph}
use Rattle.wiring.specs.Lists.{Each₂, none₂, more₂, All, all_none, all_more}
use Rattle.wiring.specs.Runs.{Worked, run, work, taken, onward}
use Rattle.wiring.proofs.Simulation.{only, onward_out}
use Rattle.sheet.specs.Rounds.{round, nth_box, new_registers, quiet_round, peak_arithmetic}
use Rattle.sheet.specs.Sheets.{Below, Closed, Falls, rests, lowers, Nowhere}
use Rattle.sheet.specs.Searching.{none, peaks_of, Exceeds, Raised, Lowered, NotLowered, Least}
use Rattle.sheet.proofs.Places.{each_length, each_refl, each_flip, each_then, each_map, each_mapped, each_map_self, constant_below, total, total_less, total_within}
use Rattle.sheet.proofs.Simulations.{Goes₂, Related₂, Larger, HasPeak, Small, point, simulation₂, box_simulates, peak_simulates, small_simulates}

ok_err : {A E : Type 0} {r : Result A E} {x : A} {y : E} → r ≡ Ok x → r ≡ Err y → ⊥
ok_err p q = let z : ◌≡◌ {A = ℕ} 0 1 = cc in omega arith

ok_same : {A E : Type 0} {r : Result A E} {x y : A} → r ≡ Ok x → r ≡ Ok y → x ≡ y
ok_same p q = cc

registers_out : {V E : Type 0} (x : Result (Worked V) E) (rs : List V) → new_registers x ≡ Ok rs → (r : Worked V) × (x ≡ Ok r) × (r.registers ≡ rs)
registers_out (Ok r) rs e = (r, refl, only _ _ e)
registers_out (Err f) rs e = absurd (let z : ◌≡◌ {A = ℕ} 0 1 = cc in omega arith)

-- ---- Below
pub below_refl : (a : Bound) → Below a a
below_refl a = record { peak = omega arith; ceiling = omega arith }

pub below_trans : (a b c : Bound) → Below a b → Below b c → Below a c
below_trans a b c h k = let p = h.peak in let q = k.peak in let m = h.ceiling in let n = k.ceiling in record { peak = omega arith; ceiling = omega arith }

below_then : {xs ys zs : List Bound} → Each₂ Below xs ys → Each₂ Below ys zs → Each₂ Below xs zs
below_then = each_then below_trans

-- a run makes as many registers as there are sources
pub registers_length : {V : Type 0} (k : _) (g : Graph) (cs : List ℤ) (rs : List V) (u : ℤ) (r : Worked V) → run k g cs rs u ≡ Ok r → length r.registers ≡ length g.sources
unfolding run
registers_length k g cs rs u r e =
    let t = onward_out (work k cs rs u [] g.nodes) (λ vs. Ok (taken g k.zero vs)) r e in
    let q = only _ _ t.2 in
    ap (λ x. length x.registers) (sym q) ∙ length-map g.sources (λ s. get_or t.0 s k.zero)

-- the weight of a bound: what a raise brings nearer to its limit
abbrev pub weight : Bound → ℕ
weight b = b.peak + b.ceiling

abbrev pub weight_limit : FixedArithmetic → ℕ
weight_limit s = peak_limit s + 2 ^ 38

abbrev pub weights : List Bound → List ℕ
weights box = map weight box

below_weight : (a b : Bound) → Below a b → weight a ≤ weight b
below_weight a b h = let p = h.peak in let q = h.ceiling in omega arith

exceeds_weight : (a b : Bound) → Below a b → Exceeds b a → weight a < weight b
exceeds_weight a b h x = let p = h.peak in let q = h.ceiling in ⊎_elim (λ t. omega arith) (λ t. omega arith) x

below_at : {xs ys : List Bound} → Each₂ Below xs ys → (i : ℕ) → Below (get_or xs i none) (get_or ys i none)
below_at none₂ i = below_refl none
below_at (more₂ h hs) zero = h
below_at (more₂ h hs) (suc i) = below_at hs i

abbrev pub SmallBox : FixedArithmetic → List Bound → Type 0
SmallBox s box = All (λ b. b.peak ≤ peak_limit s) box

small_points : (s : FixedArithmetic) (law : Lawful s) (box : List Bound) → SmallBox s box → Each₂ (Small s law) box (map (λ _. tt) box)
small_points s law [] all_none = none₂
small_points s law (b ∷ bs) (all_more h hs) = more₂ h (small_points s law bs hs)

points_small : (s : FixedArithmetic) (law : Lawful s) {box : List Bound} {ps : List (Unit {0})} → Each₂ (Small s law) box ps → SmallBox s box
points_small s law none₂ = all_none
points_small s law (more₂ h hs) = all_more h (points_small s law hs)

small_weights : (s : FixedArithmetic) (box : List Bound) → SmallBox s box → All (λ n. n ≤ weight_limit s) (weights box)
small_weights s [] all_none = all_none
small_weights s (b ∷ bs) (all_more h hs) = let k = b.small in all_more (omega arith) (small_weights s bs hs)

small_peaks : (s : FixedArithmetic) (box : List Bound) → SmallBox s box → All (λ n. n ≤ peak_limit s) (peaks_of box)
small_peaks s [] all_none = all_none
small_peaks s (b ∷ bs) (all_more h hs) = all_more h (small_peaks s bs hs)

-- at most 2^23 for each of 16 registers
pub peaks_few : (s : FixedArithmetic) (box : List Bound) → SmallBox s box → length box ≤ 16 → total (peaks_of box) ≤ 2 ^ 27
peaks_few s box h few =
    let sound = s.format.sound in
    let p : 2 ^ (inner_bits s - 1) ≤ 2 ^ 23 = pow_mono {j = 23} (omega arith) in
    let t = total_within (peak_limit s) (small_peaks s box h) in
    let l = length-map box (λ (b : Bound). b.peak) in
    let m = mul-le (peak_limit s) (length (peaks_of box)) (2 ^ 23) 16 (omega arith) (omega arith) in
    omega arith

zeros_small : (s : FixedArithmetic) (ss : List ℕ) → SmallBox s (map (λ _. none) ss)
zeros_small s [] = all_none
zeros_small s (x ∷ ss) = all_more (omega arith) (zeros_small s ss)

-- how far a box is from the limits
abbrev pub distance : FixedArithmetic → Graph → List Bound → ℕ
distance s g box = weight_limit s * length g.sources - total (weights box)

module _ (s : FixedArithmetic) (g : Graph) (cs : List ℤ) where
  -- a box met in rounds from zero
  pub record Met (X : ℕ) (box : List Bound) : Type 0 where
    pub small : SmallBox s box
    pub long : length box ≡ length g.sources
    pub rising : (r : Worked Bound) → round s g cs X box ≡ Ok r → Each₂ Below box r.registers
    pub least : (other : List Bound) → Closed s g cs X other → Each₂ Below box other
    pub after : (n : ℕ) × (nth_box s g cs X n ≡ Ok box)

  -- n rounds each lowered an entry of the first box, and came to this one
  abbrev pub Sunk : List Bound → ℕ → List Bound → Type 0
  Sunk first n box = ((m : ℕ) (band : List ℕ) (top : ℕ) → Falls s g cs (peaks_of box) m band top → Falls s g cs (peaks_of first) (n + m) band top)
      × (n + total (peaks_of box) ≤ total (peaks_of first))

module _ (s : FixedArithmetic) (law : Lawful s) (g : Graph) (cs : List ℤ) where
  -- a round from a smaller box with a smaller input is taken where the larger is, and comes to less
  pub rises : (X Y : ℕ) → Y ≤ X → (a b : List Bound) → Each₂ Below a b → (r : Worked Bound) → round s g cs X b ≡ Ok r → Goes₂ (Related₂ Larger) r (round s g cs Y a)
  rises X Y h a b k r e = simulation₂ (bound_arithmetic s) (bound_arithmetic s) Larger (pos X) (pos Y) (box_simulates s law X Y h) g cs b a (each_flip k) r e

  closed_long : (X : ℕ) (box : List Bound) → Closed s g cs X box → length box ≡ length g.sources
  closed_long X box c = sym (each_length c.within) ∙ registers_length (bound_arithmetic s) g cs box (pos X) c.made c.is_taken

  round_small : (X : ℕ) (box : List Bound) (r : Worked Bound) → SmallBox s box → round s g cs X box ≡ Ok r → SmallBox s r.registers
  round_small X box r h e = points_small s law (simulation₂ (bound_arithmetic s) point (Small s law) (pos X) (pos X) (small_simulates s law (pos X)) g cs box _ (small_points s law box h) r e).related.registers

  pub met_zero : (X : ℕ) → Met s g cs X (map (λ _. none) g.sources)
  unfolding nth_box
  met_zero X = record {
    small = zeros_small s g.sources;
    long = length-map g.sources (λ _. none);
    rising = λ r e. constant_below none above g.sources r.registers (registers_length (bound_arithmetic s) g cs _ (pos X) r e);
    least = λ other c. constant_below none above g.sources other (closed_long X other c);
    after = (0, refl);
  }
    where
      above : (b : Bound) → Below none b
      above b = record { peak = omega arith; ceiling = omega arith }

  pub met_more : (X : ℕ) (box : List Bound) (r : Worked Bound) → Met s g cs X box → round s g cs X box ≡ Ok r → Met s g cs X r.registers
  unfolding nth_box
  met_more X box r m e = record {
    small = round_small X box r m.small e;
    long = registers_length (bound_arithmetic s) g cs box (pos X) r e;
    rising = λ q f.
        let t = rises X X (omega arith) box r.registers (m.rising r e) q f in
        subst (λ (w : Worked Bound). Each₂ Below w.registers q.registers) (ok_same t.left_is e) (each_flip t.related.registers);
    least = λ other c.
        let t = rises X X (omega arith) box other (m.least other c) c.made c.is_taken in
        below_then (subst (λ (w : Worked Bound). Each₂ Below w.registers c.made.registers) (ok_same t.left_is e) (each_flip t.related.registers)) c.within;
    after = (suc m.after.0, ap (λ o. onward o (λ b. new_registers (round s g cs X b))) m.after.1 ∙ ap new_registers e);
  }

  -- every box met in rounds from zero has peaks within the largest word
  pub nth_small : (X n : ℕ) (box : List Bound) → nth_box s g cs X n ≡ Ok box → SmallBox s box
  unfolding nth_box
  nth_small X zero box e = subst (SmallBox s) (only _ _ e) (zeros_small s g.sources)
  nth_small X (suc n) box e =
      let t = onward_out (nth_box s g cs X n) (λ b. new_registers (round s g cs X b)) box e in
      let r = registers_out (round s g cs X t.0) box t.2 in
      subst (SmallBox s) r.2 (round_small X t.0 r.0 (nth_small X n t.0 t.1) r.1)

  pub met_closed : (X : ℕ) (box : List Bound) (r : Worked Bound) (output : Bound) → Met s g cs X box → round s g cs X box ≡ Ok r → Each₂ Below r.registers box → output ≡ r.output → Least s g cs X box output
  met_closed X box r output m e h o = record { closed = record { made = r; is_taken = e; within = h }; least = m.least; met = m.after; output_is = o }

  pub met_refused : (X : ℕ) (box : List Bound) (k : ℕ) (x : Refusal) → Met s g cs X box → round s g cs X box ≡ Err (AtNode k x) → Nowhere s g cs X k x
  unfolding nth_box
  met_refused X box k x m e = record {
    none = λ other c. let t = rises X X (omega arith) box other (m.least other c) c.made c.is_taken in ok_err t.left_is e;
    first_met = (suc m.after.0, ap (λ o. onward o (λ b. new_registers (round s g cs X b))) m.after.1 ∙ ap new_registers e);
  }

  -- a round that raises an entry brings the box nearer to them
  pub nearer : (X : ℕ) (box : List Bound) (r : Worked Bound) → Met s g cs X box → round s g cs X box ≡ Ok r → Raised box r.registers → distance s g r.registers < distance s g box
  nearer X box r m e up =
      let up_there = m.rising r e in
      let i = up.0 in
      let at_old : get_or (weights box) i 0 ≡ weight (get_or box i none) = get_or-map weight box i none 0 up.1 in
      let at_new : get_or (weights r.registers) i 0 ≡ weight (get_or r.registers i none) = get_or-map weight r.registers i none 0 (subst (λ n. i < n) (each_length up_there) up.1) in
      let heavier : weight (get_or box i none) < weight (get_or r.registers i none) = exceeds_weight _ _ (below_at up_there i) up.2 in
      let long : length (weights box) ≡ length box = length-map box weight in
      let in_box : i < length box = up.1 in
      let more = total_less (each_map weight weight below_weight up_there) i (omega arith) (omega arith) in
      let next = met_more X box r m e in
      let room = total_within (weight_limit s) (small_weights s r.registers next.small) in
      let same : length (weights r.registers) ≡ length g.sources = length-map r.registers weight ∙ next.long in
      let area = ap (λ n. weight_limit s * n) same in
      omega arith

  -- ---- rounds with input 0
  -- a box that is closed for X is closed for 0
  pub quiet_closed : (X : ℕ) (box : List Bound) → Closed s g cs X box → Closed s g cs 0 box
  quiet_closed X box c =
      let t = rises X 0 (omega arith) box box (each_refl below_refl box) c.made c.is_taken in
      record { made = t.left; is_taken = t.left_is; within = below_then (each_flip t.related.registers) c.within }

  -- and so is the box that a round with input 0 makes of it
  pub closed_more : (box : List Bound) (r : Worked Bound) → Closed s g cs 0 box → round s g cs 0 box ≡ Ok r → Closed s g cs 0 r.registers
  closed_more box r c e =
      let same : c.made ≡ r = ok_same c.is_taken e in
      let down : Each₂ Below r.registers box = subst (λ (w : Worked Bound). Each₂ Below w.registers box) same c.within in
      let t = rises 0 0 (omega arith) r.registers box down r e in
      record { made = t.left; is_taken = t.left_is; within = each_flip t.related.registers }

  -- the peaks of a round are those of the round of peaks
  pub peaks_go : (box : List Bound) (r : Worked Bound) → round s g cs 0 box ≡ Ok r → (q : Worked ℕ) × (quiet_round s g cs (peaks_of box) ≡ Ok q) × (peaks_of r.registers ≡ q.registers) × (r.output.peak ≡ q.output)
  peaks_go box r e =
      let t = simulation₂ (bound_arithmetic s) (peak_arithmetic s) HasPeak (pos 0) (pos 0) (peak_simulates s law (pos 0)) g cs box (peaks_of box) (each_map_self (λ (b : Bound). b.peak) box) r e in
      (t.left, t.left_is, each_mapped (λ (b : Bound). b.peak) (λ a b e. e) t.related.registers, t.related.output)

  pub sunk_none : (box : List Bound) → Sunk s g cs box 0 box
  sunk_none box = ((λ m band top f. let e : m ≡ 0 + m = omega arith in subst (λ z. Falls s g cs (peaks_of box) z band top) e f), omega arith)

  pub sinks : (box : List Bound) (r : Worked Bound) → Closed s g cs 0 box → round s g cs 0 box ≡ Ok r → Lowered box r.registers → total (peaks_of r.registers) < total (peaks_of box)
  sinks box r c e low =
      let same : c.made ≡ r = ok_same c.is_taken e in
      let down : Each₂ Below r.registers box = subst (λ (w : Worked Bound). Each₂ Below w.registers box) same c.within in
      let i = low.0 in
      let there : i < length r.registers = subst (λ n. i < n) (sym (each_length down)) low.1 in
      let at_old : get_or (peaks_of box) i 0 ≡ (get_or box i none).peak = get_or-map (λ (b : Bound). b.peak) box i none 0 low.1 in
      let at_new : get_or (peaks_of r.registers) i 0 ≡ (get_or r.registers i none).peak = get_or-map (λ (b : Bound). b.peak) r.registers i none 0 there in
      let less = low.2 in
      let long : length (peaks_of r.registers) ≡ length r.registers = length-map r.registers (λ (b : Bound). b.peak) in
      total_less (each_map (λ (b : Bound). b.peak) (λ (b : Bound). b.peak) (λ a b h. h.peak) down) i (omega arith) (omega arith)

  pub sunk_more : (first box : List Bound) (n : ℕ) (r : Worked Bound) → Sunk s g cs first n box → Closed s g cs 0 box → round s g cs 0 box ≡ Ok r → Lowered box r.registers → Sunk s g cs first (n + 1) r.registers
  sunk_more first box n r k c e low =
      let q = peaks_go box r e in
      let i = low.0 in
      let same : c.made ≡ r = ok_same c.is_taken e in
      let down : Each₂ Below r.registers box = subst (λ (w : Worked Bound). Each₂ Below w.registers box) same c.within in
      let there : i < length r.registers = subst (λ n. i < n) (sym (each_length down)) low.1 in
      let at_old : get_or (peaks_of box) i 0 ≡ (get_or box i none).peak = get_or-map (λ (b : Bound). b.peak) box i none 0 low.1 in
      let at_new : get_or q.0.registers i 0 ≡ (get_or r.registers i none).peak = ap (λ l. get_or l i 0) (sym q.2) ∙ get_or-map (λ (b : Bound). b.peak) r.registers i none 0 there in
      let less = low.2 in
      let shrinks = sinks box r c e low in
      let so_far = k.1 in (
        (λ m band top f.
            let step : Falls s g cs (peaks_of box) (suc m) band top = lowers q.0 q.1 i (omega arith) (subst (λ l. Falls s g cs l m band top) q.2 f) in
            let count : n + suc m ≡ n + 1 + m = omega arith in
            subst (λ z. Falls s g cs (peaks_of first) z band top) count (k.0 (suc m) band top step)),
        omega arith,
      )

  pub sunk_all : (first box : List Bound) (n : ℕ) (r : Worked Bound) (top : ℕ) → Sunk s g cs first n box → round s g cs 0 box ≡ Ok r → Each₂ NotLowered box r.registers → top ≡ r.output.peak → Falls s g cs (peaks_of first) n (peaks_of box) top
  sunk_all first box n r top k e h o =
      let q = peaks_go box r e in
      let still : Each₂ ◌≤◌ (peaks_of box) q.0.registers = subst (λ l. Each₂ ◌≤◌ (peaks_of box) l) q.2 (each_map (λ (b : Bound). b.peak) (λ (b : Bound). b.peak) (λ a b t. t) h) in
      let rest : Falls s g cs (peaks_of box) 0 (peaks_of box) q.0.output = rests q.0 q.1 still in
      let done = subst (λ t. Falls s g cs (peaks_of first) (n + 0) (peaks_of box) t) (sym (o ∙ q.3)) (k.0 0 (peaks_of box) q.0.output rest) in
      subst (λ z. Falls s g cs (peaks_of first) z (peaks_of box) top) (add-zero n) done
