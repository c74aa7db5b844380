-- The word kind: a bare word, which covers its own word with every exact number.
use Rattle.std.specs.Prelude.{◌≡◌, ℤ, pos, Ok, Err, Result}
use Rattle.arithmetic.specs.Settings.{FixedArithmetic}
use Rattle.kinds.specs.declared.refusal.Refusal.{Refusal}
use Rattle.kinds.specs.declared.values.Word.{Word}
use Rattle.kinds.specs.Arithmetics.{Arithmetic, fixed}
use Rattle.kinds.specs.Kinds.{KindModel}

abbrev pub word_of : ℤ → Word
word_of z = record { word = z }

abbrev pub as_word : Result ℤ Refusal → Result Word Refusal
as_word (Ok z) = Ok (word_of z)
as_word (Err e) = Err e

-- the operations of the fixed run: refused exactly where the overflow rule stops
abbrev pub word_arithmetic : FixedArithmetic → Arithmetic Word
word_arithmetic s = record {
  sample = λ u. Ok (word_of u);
  zero = word_of (pos 0);
  scale = λ c v. as_word ((fixed s).scale c v.word);
  sum = λ v w. as_word ((fixed s).sum v.word w.word);
  difference = λ v w. as_word ((fixed s).difference v.word w.word);
}

abbrev pub word_kind : FixedArithmetic → KindModel Word
word_kind s = record { ops = word_arithmetic s; covers = λ v w x. v.word ≡ w }
