-- Decision tables, taken apart and put together. Assumes nothing.
use Rattle.std.proofs.Common.{◌≡◌, ℕ, Bool, true, false, cond, List, [], ◌∷◌, ◌++◌, Some, None, Option, Ok, Err, Result, MatchResult, sym, refl, ap, ◌∙◌, arith, subst}
use Rattle.std.proofs.lemmas.Bool.{false≢true}
use Rattle.std.specs.Result.{is_ok}
use Rattle.materials.specs.declared.refusal.RecordFault.{RecordFault}
use Rattle.materials.specs.declared.refusal.Refusal.{Refusal}
use Rattle.materials.specs.declared.refusal.Refusal.TheVariants.{InRecord}
use Rattle.materials.specs.Refusals.{first, or_else, Checks}
use Rattle.materials.specs.Files.{numbered}

pub some_none : {X : Type 0} (x : X) → Some x ≡ None → ⊥
some_none x h = let z : ◌≡◌ {A = ℕ} 0 1 = cc in omega arith

pub cond_none : {X : Type 0} (b : Bool) (x : Option X) (e : X) → cond b x (Some e) ≡ None → (b ≡ true) × (x ≡ None)
cond_none true x e h = (refl, h)
cond_none false x e h = absurd (some_none e h)

pub or_else_none : {X : Type 0} (o q : Option X) → or_else o q ≡ None → (o ≡ None) × (q ≡ None)
or_else_none (Some x) q h = absurd (some_none x h)
or_else_none None q h = (refl, h)

pub numbered_none : (n : ℕ) (o : Option RecordFault) (q : Option Refusal) → numbered n o q ≡ None → (o ≡ None) × (q ≡ None)
numbered_none n (Some e) q h = absurd (some_none (InRecord n e) h)
numbered_none n None q h = (refl, h)

-- a fault that is passed on with the number of its record, and a check that passes
pub with_number : {X : Type 0} (o : Option RecordFault) (n : ℕ) (d : Refusal) (r : Result X RecordFault) → Checks o r → MatchResult r (λ x. ◌≡◌ {A = Result X Refusal} (Err d) (Ok x)) (λ e. d ≡ InRecord n e) → (e : RecordFault) × (o ≡ Some e) × (d ≡ InRecord n e)
with_number o n d (Ok x) h m = absurd (false≢true (ap is_ok m))
with_number o n d (Err e) h m = (e, h, m)

pub without_fault : {X : Type 0} (P : X → Type 0) (o : Option RecordFault) (r : Result X RecordFault) → Checks o r → MatchResult r P (λ e. ⊥) → o ≡ None
without_fault P o (Ok x) h m = h
without_fault P o (Err e) h m = absurd m

-- the same of an answer that says more where it is good
pub refused_good : {X : Type 0} (P : X → Type 0) (o : Option RecordFault) (n : ℕ) (d : Refusal) (r : Result X RecordFault) → MatchResult r P (λ e. o ≡ Some e) → MatchResult r (λ x. ◌≡◌ {A = Result X Refusal} (Err d) (Ok x)) (λ e. d ≡ InRecord n e) → (e : RecordFault) × (o ≡ Some e) × (d ≡ InRecord n e)
refused_good P o n d (Ok x) h m = absurd (false≢true (ap is_ok m))
refused_good P o n d (Err e) h m = (e, h, m)

pub taken_good : {X : Type 0} (P : X → Type 0) (Q : RecordFault → Type 0) (r : Result X RecordFault) (g : X) → MatchResult r P Q → MatchResult r (λ x. ◌≡◌ {A = Result X Refusal} (Ok g) (Ok x)) (λ e. ⊥) → P g
taken_good P Q (Ok x) g h m = let e : x ≡ g = cc in subst P e h
taken_good P Q (Err e) g h m = absurd m

module _ {X : Type 0} where
  -- two tables, one after the other
  pub first_both : (xs ys : List (Bool × X)) → first (xs ++ ys) ≡ or_else (first xs) (first ys)
  first_both [] ys = refl
  first_both (x ∷ xs) ys = elim x.0 as (λ b. cond b (first (xs ++ ys)) (Some x.1) ≡ or_else (cond b (first xs) (Some x.1)) (first ys)) [ true ↦ first_both xs ys | false ↦ refl ]

  -- past the first table the second decides
  pub passes : (xs ys : List (Bool × X)) → first xs ≡ None → first (xs ++ ys) ≡ first ys
  passes xs ys h = first_both xs ys ∙ ap (λ o. or_else o (first ys)) h

  -- what the first table tells is told
  pub stops : (xs ys : List (Bool × X)) (e : X) → first xs ≡ Some e → first (xs ++ ys) ≡ Some e
  stops xs ys e h = first_both xs ys ∙ ap (λ o. or_else o (first ys)) h

  pub both_none : (xs ys : List (Bool × X)) → first (xs ++ ys) ≡ None → (first xs ≡ None) × (first ys ≡ None)
  both_none xs ys h = or_else_none (first xs) (first ys) (sym (first_both xs ys) ∙ h)
