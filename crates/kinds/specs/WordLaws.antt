-- The word kind keeps its laws.
use Rattle.std.specs.Prelude.{◌≡◌, ℕ, ℤ, pos, ◌*ℤ◌, Ok, Err, Result, refl}
use Rattle.std.proofs.Common.{sym, ap, ap₂, ◌∙◌, arith}
use Rattle.arithmetic.specs.Settings.{FixedArithmetic, Lawful}
use Rattle.exact.specs.Numbers.{Exact}
use Rattle.kinds.specs.declared.refusal.Refusal.{Refusal}
use Rattle.kinds.specs.declared.values.Word.{Word}
use Rattle.kinds.specs.Arithmetics.{stored, rounded, fixed}
use Rattle.kinds.specs.Kinds.{Goes, Taken, LawfulKind}
use Rattle.kinds.specs.Words.{word_of, as_word, word_kind}
use Rattle.kinds.specs.Facts.{only}
use Rattle.kinds.specs.BoundLaws.{fitted_stored, scaled_within, zero_fits, zero_scale_fits}

-- a word that is taken is what the fixed run comes to
pub as_word_is : (o : Result ℤ Refusal) (r : Word) → as_word o ≡ Ok r → o ≡ Ok r.word
as_word_is (Ok z) r e = ap (λ (v : Word). Ok v.word) (only (word_of z) r e)
as_word_is (Err x) r e = absurd (let z : ◌≡◌ {A = ℕ} 0 1 = cc in omega arith)

-- a fixed operation that is taken at the same words, with any exact number
word_goes : (o o' : Result ℤ Refusal) (x : Exact) → o ≡ o' → (r : Word) → as_word o ≡ Ok r → Goes (λ (v : Word) w x. v.word ≡ w) r o' (Ok x)
word_goes o o' x q r e = record { left = r.word; right = x; left_is = sym q ∙ as_word_is o r e; right_is = refl; related = refl }

module _ (s : FixedArithmetic) (law : Lawful s) where
  -- 0 is stored as it is, and so is a product of 0
  pub zero_stored : stored s (pos 0) ≡ Ok (pos 0)
  zero_stored = let t = zero_fits s in fitted_stored s law (pos 0) 0 0 t.0 (omega arith) t.1

  pub zero_scaled : (c : ℤ) → Taken (stored s (rounded s (c *ℤ pos 0)))
  zero_scaled c =
      let t = zero_scale_fits s law c in
      (rounded s (c *ℤ pos 0), fitted_stored s law _ _ _ t.0 (scaled_within s law c (pos 0) 0 (omega arith)) t.1)

  pub word_lawful : LawfulKind s (word_kind s)
  word_lawful = record {
    sample_covers = λ u i v e. ap (λ (v : Word). v.word) (sym (only (word_of u) v e));
    zero_covers = refl;
    scale_covers = λ c i v w x j h. word_goes _ _ _ (ap ((fixed s).scale c) h);
    sum_covers = λ v v' w w' x x' i i' h h'. word_goes _ _ _ (ap₂ (fixed s).sum h h');
    difference_covers = λ v v' w w' x x' i i' h h'. word_goes _ _ _ (ap₂ (fixed s).difference h h');
    sample_taken = (word_of (pos 0), refl);
    scale_taken = λ c i. let t = zero_scaled c in (word_of t.0, ap as_word t.1);
    sum_taken = (word_of (pos 0), ap as_word zero_stored);
    difference_taken = (word_of (pos 0), ap as_word zero_stored);
  }
