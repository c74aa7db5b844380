-- The enclosed kind: a word with a low end and a high end, in ticks (1/4096 of a step) from the word, between which the exact number lies.
use Rattle.std.specs.Prelude.{◌≡◌, ◌-◌, ◌^◌, ◌≤◌, cond, ◌&&◌, ℤ, pos, negsuc, ◌+ℤ◌, ◌-ℤ◌, ◌*ℤ◌, Ok, Err, Result, nat_le, unsigned_abs}
use Rattle.std.proofs.Common.{arith}
use Rattle.std.specs.Int.{int_max, int_min}
use Rattle.std.proofs.lemmas.Int.{clamps, ints}
use Rattle.arithmetic.specs.Rounding.{remainder}
use Rattle.arithmetic.specs.Settings.{FixedArithmetic, fraction}
use Rattle.exact.specs.Numbers.{Exact}
use Rattle.exact.specs.Enclosures.{Encloses, moved, scale_low, scale_high}
use Rattle.kinds.specs.declared.refusal.Refusal.{Refusal}
use Rattle.kinds.specs.declared.refusal.Refusal.TheVariants.{End}
use Rattle.kinds.specs.declared.values.Enclosed.{Enclosed}
use Rattle.kinds.specs.Arithmetics.{Arithmetic, stored, rounded}
use Rattle.kinds.specs.Kinds.{KindModel}

-- an end brought within 2^38 either side; `ended` asks for it only where it lies there already
abbrev pub clip : ℤ → ℤ
clip z = int_max (negsuc (2 ^ 38 - 1)) (int_min z (pos (2 ^ 38)))

pub clip_near : (z : ℤ) → unsigned_abs (clip z) ≤ 2 ^ 38
clip_near z = omega (arith, ints, clamps)

abbrev pub enclosed_of : ℤ → ℤ → ℤ → Enclosed
enclosed_of w d e = record { word = w; low = clip d; high = clip e; near = (clip_near d, clip_near e) }

-- the word w with the ends d and e, refused where an end lies beyond 2^38 either side
abbrev pub ended : ℤ → ℤ → ℤ → Result Enclosed Refusal
ended w d e = cond (nat_le (unsigned_abs d) (2 ^ 38) && nat_le (unsigned_abs e) (2 ^ 38)) (Ok (enclosed_of w d e)) (Err End)

-- what the overflow rule stores for raw, with the ends moved by 4096 × (raw - stored)
abbrev pub ended_at : ℤ → ℤ → ℤ → Result ℤ Refusal → Result Enclosed Refusal
ended_at raw d e (Ok z) = ended z (d +ℤ moved raw z) (e +ℤ moved raw z)
ended_at raw d e (Err x) = Err x

abbrev pub kept : FixedArithmetic → ℤ → ℤ → ℤ → Result Enclosed Refusal
kept s raw d e = ended_at raw d e (stored s raw)

-- c times the word is rounded to q with the remainder r; the ends are the smaller and the larger of c × low and c × high, plus 4096 × r,
-- over 2^l, the low end down and the high end up
abbrev pub enclosed_scale : FixedArithmetic → ℤ → Enclosed → Result Enclosed Refusal
enclosed_scale s c v =
    let q = rounded s (c *ℤ v.word) in
    let r = remainder (fraction s) (c *ℤ v.word) q in
    kept s q (scale_low c (fraction s) r v.low v.high) (scale_high c (fraction s) r v.low v.high)

abbrev pub enclosed_arithmetic : FixedArithmetic → Arithmetic Enclosed
enclosed_arithmetic s = record {
  sample = λ u. Ok (enclosed_of u (pos 0) (pos 0));
  zero = enclosed_of (pos 0) (pos 0) (pos 0);
  scale = enclosed_scale s;
  sum = λ v w. kept s (v.word +ℤ w.word) (v.low +ℤ w.low) (v.high +ℤ w.high);
  difference = λ v w. kept s (v.word -ℤ w.word) (v.low -ℤ w.high) (v.high -ℤ w.low);
}

-- its own word, with each exact number from word + low to word + high
pub record EnclosedCovers (v : Enclosed) (w : ℤ) (x : Exact) : Type 0 where
  pub word : v.word ≡ w
  pub between : Encloses w v.low v.high x

abbrev pub enclosed_kind : FixedArithmetic → KindModel Enclosed
enclosed_kind s = record { ops = enclosed_arithmetic s; covers = EnclosedCovers }
