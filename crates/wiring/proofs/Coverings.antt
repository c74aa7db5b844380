-- The first use of the simulation: a kind of value against the fixed and the exact run.
use Rattle.std.proofs.Common.{◌≡◌, ℕ, ◌-◌, ℤ, pos, Ok, Result, refl, subst, arith, pow_pos}
use borrow.Author.Differences.{ints}
use Rattle.arithmetic.specs.Words.{Inside}
use Rattle.arithmetic.specs.Settings.{FixedArithmetic, Lawful, WordOf, bits, inner_bits}
use Rattle.exact.specs.Numbers.{Exact, whole}
use Rattle.kinds.specs.declared.refusal.Refusal.{Refusal}
use Rattle.kinds.specs.Arithmetics.{stored, fixed, exact}
use Rattle.kinds.specs.Kinds.{KindModel, LawfulKind, Goes}
use Rattle.kinds.specs.Parts.{stored_is}
use Rattle.wiring.specs.Covering.{CoversWord, RunCovers}
use Rattle.wiring.proofs.Places.{each₂_with}
use Rattle.wiring.proofs.Simulation.{Simulates, simulation}

pub zero_inside : (w : ℕ) → Inside w (pos 0)
zero_inside w = let p = pow_pos (w - 1) in record { low = omega (arith, ints); high = omega (arith, ints) }

-- a coefficient that is a word, and its equal
abbrev pub WordPair : FixedArithmetic → ℤ → ℤ → Type 0
WordPair s c d = WordOf s c × (c ≡ d)

module _ {V : Type 0} (s : FixedArithmetic) (lawful : Lawful s) (m : KindModel V) (laws : LawfulKind s m) where
  -- what the overflow rule stores is a word
  in_range : (raw : ℤ) (v : V) (y : Result Exact Refusal) → Goes m.covers v (stored s raw) y → Goes (CoversWord s m) v (stored s raw) y
  in_range raw v y g = record {
    left = g.left;
    right = g.right;
    left_is = g.left_is;
    right_is = g.right_is;
    related = (g.related, lawful.overflow.answers_words (inner_bits s) raw g.left s.format.sound.2 (stored_is _ _ g.left_is));
  }

  scale_goes : (c d : ℤ) → WordPair s c d → (v : V) (w : ℤ) (x : Exact) → CoversWord s m v w x → (r : V) → m.ops.scale c v ≡ Ok r
      → Goes (CoversWord s m) r ((fixed s).scale c w) ((exact s).scale d x)
  scale_goes c d p v w x h r e = subst (λ n. Goes (CoversWord s m) r ((fixed s).scale c w) ((exact s).scale n x)) p.1 (in_range _ _ _ (laws.scale_covers c p.0 v w x h.1 h.0 r e))

  pub kind_simulates : (u : ℤ) → WordOf s u → Simulates m.ops (fixed s) (exact s) (CoversWord s m) (WordPair s) u u u
  kind_simulates u i = record {
    of_sample = λ a e. record { left = u; right = whole u; left_is = refl; right_is = refl; related = (laws.sample_covers u i a e, i) };
    of_zero = (laws.zero_covers, zero_inside (bits s));
    of_scale = scale_goes;
    of_sum = λ a a' b b' x x' h h' r e. in_range _ _ _ (laws.sum_covers a a' b b' x x' h.1 h'.1 h.0 h'.0 r e);
    of_difference = λ a a' b b' x x' h h' r e. in_range _ _ _ (laws.difference_covers a a' b b' x x' h.1 h'.1 h.0 h'.0 r e);
  }

  pub run_covers : RunCovers s m
  run_covers g cs ds good same rs fs xs rows u i r e =
      simulation m.ops (fixed s) (exact s) (CoversWord s m) (WordPair s) u u u (kind_simulates u i) cs ds (each₂_with good same) (zero_inside (bits s), refl) rs fs xs rows g r e
