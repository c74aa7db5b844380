-- What the check of a program gives.
use Rattle.std.proofs.Common.{◌≡◌, ℕ, zero, suc, ◌+◌, ◌-◌, ◌^◌, ◌<◌, ◌≤◌, Bool, true, false, not, ◌&&◌, T, eqb, ltb, List, [], ◌∷◌, length, get_or, ℤ, pos, nat_abs, is_some, Some, None, Option, refl, ap, ◌∙◌, arith, pow_mono, ltb-true, eqb-true, le-leb, leb-true}
use borrow.Author.Differences.{ints}
use lib.Signed.{le_z_yes, lt_z_yes}
use Rattle.std.specs.Option.{option_map}
use Rattle.arithmetic.specs.declared.format.Format.{Format}
use Rattle.arithmetic.specs.Words.{inside, Inside}
use Rattle.arithmetic.specs.Formats.{width}
use Rattle.wiring.specs.declared.graph.Node.TheVariants.{Input}
use Rattle.wiring.specs.declared.faults.WiringFault.TheVariants.{NoOutput}
use Rattle.wiring.specs.declared.faults.ProgramFault.TheVariants.{Wiring, OtherLength}
use Rattle.wiring.specs.Lists.{All, all_none, all_more}
use Rattle.wiring.specs.Graphs.{Graph}
use Rattle.wiring.specs.Checks.{unless, first, scan, register_limit, counts_fault, node_fault, nodes_fault, source_fault, sources_fault, naming_fault, wiring_fault}
use Rattle.wiring.specs.Programs.{word_fault, words_fault, list_fault, program_fault, all_small, sound}

pub first_none : {F : Type 0} (a b : Option F) → first a b ≡ None → (a ≡ None) × (b ≡ None)
first_none (Some f) b e = absurd (let z : ◌≡◌ {A = ℕ} 0 1 = cc in omega arith)
first_none None b e = (refl, e)

pub unless_none : {F : Type 0} (t : Bool) (f : F) → unless t f ≡ None → t ≡ true
unless_none true f e = refl
unless_none false f e = absurd (let z : ◌≡◌ {A = ℕ} 0 1 = cc in omega arith)

pub mapped_none : {A B : Type 0} (f : A → B) (o : Option A) → option_map f o ≡ None → o ≡ None
mapped_none f None e = refl
mapped_none f (Some a) e = absurd (let z : ◌≡◌ {A = ℕ} 0 1 = cc in omega arith)

pub and_out : (a b : Bool) → (a && b) ≡ true → (a ≡ true) × (b ≡ true)
and_out true b e = (refl, e)
and_out false b e = absurd (let z : ◌≡◌ {A = ℕ} 0 1 = cc in omega arith)

pub and_in : (a b : Bool) → a ≡ true → b ≡ true → (a && b) ≡ true
and_in a b p q = rw (p, q)

not_some : {F : Type 0} (o : Option F) → o ≡ None → not (is_some o) ≡ true
not_some o e = rw e

some_not : {F : Type 0} (o : Option F) → not (is_some o) ≡ true → o ≡ None
some_not None e = refl
some_not (Some f) e = absurd (let z : ◌≡◌ {A = ℕ} 0 1 = cc in omega arith)

-- no entry has a fault
pub scan_none : {A F : Type 0} (fault : ℕ → A → Option F) (i : ℕ) (xs : List A) → scan fault i xs ≡ None → (k j : ℕ) (d : A) → j ≡ i + k → k < length xs → fault j (get_or xs k d) ≡ None
scan_none fault i [] e k j d q h = absurd (omega arith)
scan_none fault i (x ∷ xs) e zero j d q h = let p : j ≡ i = omega arith in rw p (first_none (fault i x) (scan fault (suc i) xs) e).0
scan_none fault i (x ∷ xs) e (suc k) j d q h = scan_none fault (suc i) xs (first_none (fault i x) (scan fault (suc i) xs) e).1 k j d (omega arith) (omega arith)

-- ---- words
of_true : (b : Bool) → b ≡ true → T b
of_true b e = rw e tt

pub inside_out : (w : ℕ) (z : ℤ) → inside w z ≡ true → Inside w z
inside_out w z e = let t = and_out _ _ e in record { low = le_z_yes (of_true _ t.0); high = lt_z_yes (of_true _ t.1) }

pub inside_small : (w : ℕ) (z : ℤ) → w ≤ 24 → Inside w z → nat_abs z ≤ 2 ^ 23
inside_small w z h i = let p : 2 ^ (w - 1) ≤ 2 ^ 23 = pow_mono {j = 23} (omega arith) in omega (arith, ints, i.low, i.high)

pub words_inside : (w i : ℕ) (cs : List ℤ) → scan (word_fault w) i cs ≡ None → All (Inside w) cs
words_inside w i [] e = all_none
words_inside w i (c ∷ cs) e = let t = first_none _ _ e in all_more (inside_out w c (unless_none _ _ t.0)) (words_inside w (suc i) cs t.1)

words_small : (w : ℕ) (cs : List ℤ) → w ≤ 24 → All (Inside w) cs → all_small cs ≡ true
words_small w [] h all_none = refl
words_small w (c ∷ cs) h (all_more i is) = and_in _ _ (le-leb _ _ (inside_small w c h i)) (words_small w cs h is)

-- ---- programs
pub program_words : (f : Format) (g : Graph) (cs : List ℤ) → program_fault f g cs ≡ None → All (Inside (width f)) cs
program_words f g cs e = words_inside (width f) 0 cs (first_none _ _ (first_none (option_map Wiring (wiring_fault g)) _ e).1).1

pub no_program_fault : (f : Format) (g : Graph) (cs : List ℤ) → wiring_fault g ≡ None → list_fault (width f) g.coefficients cs ≡ None → program_fault f g cs ≡ None
no_program_fault f g cs a b = ap (λ o. first (option_map Wiring o) (list_fault (width f) g.coefficients cs)) a ∙ b

pub program_sound : (f : Format) (g : Graph) (cs : List ℤ) → program_fault f g cs ≡ None → sound g cs ≡ true
program_sound f g cs e =
    let t = first_none (option_map Wiring (wiring_fault g)) (list_fault (width f) g.coefficients cs) e in
    let n = first_none (counts_fault g) (naming_fault g) (mapped_none Wiring _ t.0) in
    let l = first_none (unless (eqb (length cs) g.coefficients) OtherLength) (words_fault (width f) cs) t.1 in
    and_in _ _ (not_some _ n.1) (and_in _ _ (unless_none _ _ l.0) (words_small (width f) cs f.sound.3 (program_words f g cs e)))

-- a wiring that passes its check has at most 16 registers
pub few_registers : (g : Graph) → wiring_fault g ≡ None → length g.sources ≤ register_limit
few_registers g h =
    let a = first_none (counts_fault g) (naming_fault g) h in
    let b = first_none _ _ a.0 in
    let d = first_none _ _ b.1 in
    leb-true (length g.sources) register_limit (unless_none _ _ d.0)

-- another list that passes the check keeps what every program keeps
pub relisted : (f : Format) (g : Graph) (old cs : List ℤ) → sound g old ≡ true → list_fault (width f) g.coefficients cs ≡ None → sound g cs ≡ true
relisted f g old cs s e =
    let l = first_none (unless (eqb (length cs) g.coefficients) OtherLength) (words_fault (width f) cs) e in
    and_in _ _ (and_out _ _ s).0 (and_in _ _ (unless_none _ _ l.0) (words_small (width f) cs f.sound.3 (words_inside (width f) 0 cs l.1)))

module _ (g : Graph) (cs : List ℤ) (e : sound g cs ≡ true) where
  named : naming_fault g ≡ None
  named = some_not _ (and_out _ _ e).0

  listed : (eqb (length cs) g.coefficients && all_small cs) ≡ true
  listed = (and_out _ _ e).1

  ends : first (unless (ltb g.output (length g.nodes)) NoOutput) (sources_fault (length g.nodes) g.sources) ≡ None
  ends = (first_none (nodes_fault (length g.sources) g.coefficients g.nodes) _ named).1

  -- node k names only what is there
  pub sound_node : (k : ℕ) → k < length g.nodes → node_fault (length g.sources) g.coefficients k (get_or g.nodes k Input) ≡ None
  sound_node k h = scan_none (node_fault (length g.sources) g.coefficients) 0 g.nodes (first_none (nodes_fault (length g.sources) g.coefficients g.nodes) _ named).0 k k Input (omega arith) h

  pub sound_output : g.output < length g.nodes
  sound_output = ltb-true _ _ (unless_none _ _ (first_none (unless (ltb g.output (length g.nodes)) NoOutput) _ ends).0)

  pub sound_source : (r : ℕ) → r < length g.sources → get_or g.sources r 0 < length g.nodes
  sound_source r h = ltb-true _ _ (unless_none _ _ (scan_none (source_fault (length g.nodes)) 0 g.sources (first_none (unless (ltb g.output (length g.nodes)) NoOutput) _ ends).1 r r 0 (omega arith) h))

  pub sound_count : length cs ≡ g.coefficients
  sound_count = eqb-true _ _ (and_out _ _ listed).0

  pub sound_small : (i : ℕ) → nat_abs (get_or cs i (pos 0)) ≤ 2 ^ 23
  sound_small = small_at cs (and_out _ _ listed).1
    where
      small_at : (cs : List ℤ) → all_small cs ≡ true → (i : ℕ) → nat_abs (get_or cs i (pos 0)) ≤ 2 ^ 23
      small_at [] e i = omega arith
      small_at (c ∷ cs) e zero = leb-true _ _ (and_out _ _ e).0
      small_at (c ∷ cs) e (suc i) = small_at cs (and_out _ _ e).1 i
