-- Every rule keeps its laws.
use Rattle.std.proofs.Common.{◌≡◌, ap, subst, arith, rules}
use Rattle.std.specs.Prelude.{◌+◌, ◌-◌, ◌^◌, pos, ◌+ℤ◌, Some, refl}
use Rattle.std.proofs.Math.Nat.{div-eq_of_lt, zero-div}
use Rattle.std.proofs.lemmas.Nat.{pow_pos}
use Rattle.arithmetic.specs.Words.{Inside}
use Rattle.arithmetic.specs.Rounding.{LawfulRounding, floor, nearest, toward_zero}
use Rattle.arithmetic.specs.Overflow.{LawfulOverflow, wrapped, wrap, saturate, stop}
use Rattle.arithmetic.specs.Divisions.{twice_half, floor_near, floor_reach, nearest_near, nearest_reach, zero_near, zero_reach, quotient_rises}
use Rattle.arithmetic.specs.Turns.{wrapped_same, wrapped_word, word_out}

pub floor_lawful : LawfulRounding floor
floor_lawful = record {
  remainder_small = λ l p s f. omega (arith, floor_near (2 ^ l) p (pow_pos l));
  share_small = omega arith;
  quotient_reached = λ l m p s f k. floor_reach (2 ^ l) m p (pow_pos l) k;
  reach_rises = λ l m n s f k. quotient_rises (m + (2 ^ l - 1)) (n + (2 ^ l - 1)) (2 ^ l) (pow_pos l) (omega arith);
  reach_zero = λ l s f. div-eq_of_lt (omega (arith, pow_pos l));
}

pub nearest_lawful : LawfulRounding nearest
nearest_lawful = record {
  remainder_small = λ l p s f. rw (twice_half l s) (omega (arith, nearest_near (2 ^ (l - 1)) p (pow_pos (l - 1))));
  share_small = omega arith;
  quotient_reached = λ l m p s f k. rw (twice_half l s) (nearest_reach (2 ^ (l - 1)) m p (p +ℤ pos (2 ^ (l - 1))) (pow_pos (l - 1)) k refl);
  reach_rises = λ l m n s f k. quotient_rises (m + 2 ^ (l - 1)) (n + 2 ^ (l - 1)) (2 ^ l) (pow_pos l) (omega arith);
  reach_zero = λ l s f. div-eq_of_lt (omega (arith, twice_half l s, pow_pos (l - 1)));
}

pub toward_zero_lawful : LawfulRounding toward_zero
toward_zero_lawful = record {
  remainder_small = λ l p s f. omega (arith, zero_near (2 ^ l) p (pow_pos l));
  share_small = omega arith;
  quotient_reached = λ l m p s f k. zero_reach (2 ^ l) m p (pow_pos l) k;
  reach_rises = λ l m n s f k. quotient_rises m n (2 ^ l) (pow_pos l) k;
  reach_zero = λ l s f. zero-div (2 ^ l);
}

pub wrap_lawful : LawfulOverflow wrap
wrap_lawful = record {
  answers_words = λ w raw z h e. word_out (Inside w) (wrapped w raw) z e (wrapped_word w raw (omega arith));
  keeps_words = λ w raw h i. ap Some (wrapped_same w raw (omega arith) i);
}

pub saturate_lawful : LawfulOverflow saturate
saturate_lawful = search rules

pub stop_lawful : LawfulOverflow stop
stop_lawful = search rules
