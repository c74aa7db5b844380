-- Division of a whole number by n, or by twice h: what each rounding rule leaves over, and how large its quotients are.
use Rattle.std.specs.Prelude.{◌≡◌, ℕ, zero, suc, ◌+◌, ◌-◌, ◌*◌, ◌/◌, ◌%◌, ◌^◌, ◌<◌, ◌≤◌, min, ℤ, pos, negsuc, ◌+ℤ◌, ◌-ℤ◌, ◌*ℤ◌, neg_ℤ, ◌≤ℤ◌, ◌<ℤ◌, int_div, int_rem, unsigned_abs}
use Rattle.std.proofs.Common.{sym, ap, ◌∙◌, mod-lt, arith}
use Rattle.std.proofs.Math.Nat.{div-add-mod, add-div_right}
use Rattle.std.proofs.lemmas.Int.{ints}
use Rattle.std.specs.Int.Signed.{shr_z}
use Rattle.std.proofs.lemmas.Nat.{pow_pos, le-div, div-mul-add, shr-shr}
use Rattle.arithmetic.specs.Rounding.{remainder, divided, floor, nearest}

-- 2^l is twice 2^(l-1)
pub twice_half : (l : ℕ) → 1 ≤ l → 2 ^ l ≡ 2 * 2 ^ (l - 1)
twice_half l h = let e : l ≡ suc (l - 1) = omega arith in ap (λ n. 2 ^ n) e ∙ omega arith

-- a larger number has no smaller quotient
pub quotient_rises : (a b n : ℕ) → 0 < n → a ≤ b → a / n ≤ b / n
quotient_rises a b n h le = le-div (a / n) b n h (omega arith)

-- ---- down

-- what a division down leaves over is at least 0 and below the divisor
pub floor_rest : (n : ℕ) (z : ℤ) → 0 < n → (r : ℕ) × (r < n) × (z ≡ (pos n *ℤ shr_z z n) +ℤ pos r)
floor_rest n (pos a) h =
    let d : n * (a / n) + a % n ≡ a = div-add-mod a n in
    (a % n, mod-lt a h, omega (arith, ints))
floor_rest n (negsuc a) h =
    let d : n * (a / n) + a % n ≡ a = div-add-mod a n in
    let m : a % n < n = mod-lt a h in
    (n - 1 - a % n, omega arith, omega (arith, ints))

-- and the quotient is the one number that leaves over so little
pub floor_unique : (n r : ℕ) (z q : ℤ) → r < n → z ≡ (pos n *ℤ q) +ℤ pos r → shr_z z n ≡ q
floor_unique n r (pos a) (pos b) h e =
    let k : a ≡ b * n + r = omega (arith, ints) in
    ap pos (ap (λ x. x / n) k ∙ div-mul-add b n r h)
floor_unique n r (pos a) (negsuc b) h e = absurd (omega (arith, ints))
floor_unique n r (negsuc a) (pos b) h e = absurd (omega (arith, ints))
floor_unique n r (negsuc a) (negsuc b) h e =
    let k : a ≡ b * n + (n - 1 - r) = omega (arith, ints) in
    ap negsuc (ap (λ x. x / n) k ∙ div-mul-add b n (n - 1 - r) (omega arith))

-- so a quotient down errs by at most the divisor
pub floor_near : (n : ℕ) (p : ℤ) → 0 < n → unsigned_abs (p -ℤ (pos n *ℤ shr_z p n)) ≤ n
floor_near n p h = let r = floor_rest n p h in omega (arith, ints, r.1, r.2)

-- and is no larger than the quotient up of the magnitude
pub floor_reach : (n m : ℕ) (p : ℤ) → 0 < n → unsigned_abs p ≤ m → unsigned_abs (shr_z p n) ≤ (m + (n - 1)) / n
floor_reach n m (pos a) h k = quotient_rises a (m + (n - 1)) n h (omega (arith, ints))
floor_reach n m (negsuc a) h k =
    let d : n * (a / n) + a % n ≡ a = div-add-mod a n in
    le-div (suc (a / n)) (m + (n - 1)) n h (omega (arith, ints))

-- ---- to the nearest, halves up

-- a quotient to the nearest errs by at most half the divisor
pub nearest_near : (h : ℕ) (p : ℤ) → 0 < h → 2 * unsigned_abs (p -ℤ (pos (2 * h) *ℤ shr_z (p +ℤ pos h) (2 * h))) ≤ 2 * h
nearest_near h p k = let r = floor_rest (2 * h) (p +ℤ pos h) (omega arith) in omega (arith, ints, r.1, r.2)

-- and is no larger than that of the magnitude
pub nearest_reach : (h m : ℕ) (p z : ℤ) → 0 < h → unsigned_abs p ≤ m → z ≡ p +ℤ pos h → unsigned_abs (shr_z z (2 * h)) ≤ (m + h) / (2 * h)
nearest_reach h m p (pos a) k n e = quotient_rises a (m + h) (2 * h) (omega arith) (omega (arith, ints))
nearest_reach h m p (negsuc a) k n e =
    let d : 2 * h * (a / (2 * h)) + a % (2 * h) ≡ a = div-add-mod a (2 * h) in
    le-div (suc (a / (2 * h))) (m + h) (2 * h) (omega arith) (omega (arith, ints))

-- one more in the quotient takes one divisor more
pub one_more : (n : ℕ) (q : ℤ) → pos n *ℤ (q +ℤ pos 1) ≡ (pos n *ℤ q) +ℤ pos n
one_more n (pos a) = omega (arith, ints)
one_more n (negsuc zero) = omega (arith, ints)
one_more n (negsuc (suc a)) =
    let s : negsuc (suc a) +ℤ pos 1 ≡ negsuc a = omega (arith, ints) in
    ap (λ x. pos n *ℤ x) s ∙ omega (arith, ints)

-- the quotient down serves where less than a half is left over, else one more
module _ (h : ℕ) (p : ℤ) (some : 0 < h) where
  abbrev below : ℤ
  below = shr_z p (2 * h)

  pub nearest_down : (p -ℤ (pos (2 * h) *ℤ below)) <ℤ pos h → shr_z (p +ℤ pos h) (2 * h) ≡ below
  nearest_down k =
      let r = floor_rest (2 * h) p (omega arith) in
      floor_unique (2 * h) (r.0 + h) (p +ℤ pos h) below (omega (arith, ints, r.2)) (omega (arith, ints, r.2))

  pub nearest_up : pos h ≤ℤ (p -ℤ (pos (2 * h) *ℤ below)) → shr_z (p +ℤ pos h) (2 * h) ≡ below +ℤ pos 1
  nearest_up k =
      let r = floor_rest (2 * h) p (omega arith) in
      floor_unique (2 * h) (r.0 - h) (p +ℤ pos h) (below +ℤ pos 1) (omega (arith, ints, r.1)) (omega (arith, ints, r.2, one_more (2 * h) below))

-- the same of both answers of a division by 2^l, from those of the division down
module _ (l : ℕ) (p : ℤ) (some : 1 ≤ l) where
  abbrev rest : ℤ
  rest = (divided floor l p).1

  pub divided_down : (rest +ℤ rest) <ℤ pos (2 ^ l) → divided nearest l p ≡ divided floor l p
  divided_down k =
      let d = twice_half l some in
      let q : shr_z (p +ℤ pos (2 ^ (l - 1))) (2 ^ l) ≡ shr_z p (2 ^ l) = rw d (nearest_down (2 ^ (l - 1)) p (pow_pos (l - 1)) (rw (← d) (omega (arith, ints)))) in
      ap (λ x. (x, remainder l p x)) q

  pub divided_up : pos (2 ^ l) ≤ℤ (rest +ℤ rest) → divided nearest l p ≡ ((divided floor l p).0 +ℤ pos 1, rest -ℤ pos (2 ^ l))
  divided_up k =
      let d = twice_half l some in
      let q : shr_z (p +ℤ pos (2 ^ (l - 1))) (2 ^ l) ≡ shr_z p (2 ^ l) +ℤ pos 1 = rw d (nearest_up (2 ^ (l - 1)) p (pow_pos (l - 1)) (rw (← d) (omega (arith, ints)))) in
      let r : remainder l p (shr_z p (2 ^ l) +ℤ pos 1) ≡ rest -ℤ pos (2 ^ l) = omega (arith, ints, one_more (2 ^ l) (shr_z p (2 ^ l))) in
      let a : divided nearest l p ≡ (shr_z p (2 ^ l) +ℤ pos 1, remainder l p (shr_z p (2 ^ l) +ℤ pos 1)) = ap (λ x. (x, remainder l p x)) q in
      a ∙ ap (λ y. (shr_z p (2 ^ l) +ℤ pos 1, y)) r

-- ---- up

-- a quotient up is the quotient down, and one where anything is left over
pub up_quotient : (m n : ℕ) → 0 < n → m / n + min 1 (m % n) ≡ (m + (n - 1)) / n
up_quotient m n h =
    let d : n * (m / n) + m % n ≡ m = div-add-mod m n in
    let b : m % n < n = mod-lt m h in
    up_from m n (m / n) (m % n) b d
  where
    up_from : (m n q r : ℕ) → r < n → n * q + r ≡ m → q + min 1 r ≡ (m + (n - 1)) / n
    up_from m n q zero b d =
        let e : m + (n - 1) ≡ q * n + (n - 1) = omega arith in
        omega (arith, ap (λ x. x / n) e ∙ div-mul-add q n (n - 1) (omega arith))
    up_from m n q (suc r) b d =
        let e : m + (n - 1) ≡ suc q * n + r = omega arith in
        omega (arith, ap (λ x. x / n) e ∙ div-mul-add (suc q) n r (omega arith))

-- halves counted and halved up make whole ones to the nearest
pub halved_up : (l m : ℕ) → 1 ≤ l → (m / 2 ^ (l - 1)) / 2 + min 1 ((m / 2 ^ (l - 1)) % 2) ≡ (m + 2 ^ (l - 1)) / 2 ^ l
halved_up l m some =
    let e : l - 1 + 1 ≡ l = omega arith in
    up_quotient (m / 2 ^ (l - 1)) 2 (omega arith)
    ∙ ap (λ x. x / 2) (sym (add-div_right m (pow_pos (l - 1))))
    ∙ shr-shr (m + 2 ^ (l - 1)) (l - 1) 1
    ∙ ap (λ n. (m + 2 ^ (l - 1)) / 2 ^ n) e

-- ---- toward zero

-- of -(a + 1) = -(n × q) - r
negative_rest : (n a q r : ℕ) → n * q + r ≡ suc a → neg_ℤ (pos r) ≡ negsuc a -ℤ (pos n *ℤ neg_ℤ (pos q))
negative_rest n a zero r e = omega (arith, ints)
negative_rest n a (suc q) r e = omega (arith, ints)

-- the remainder with the dividend's sign is what the quotient toward zero leaves over
pub zero_rest : (n : ℕ) (p : ℤ) → int_rem p (pos n) ≡ p -ℤ (pos n *ℤ int_div p (pos n))
zero_rest n (pos a) = let d : n * (a / n) + a % n ≡ a = div-add-mod a n in omega (arith, ints)
zero_rest n (negsuc a) = negative_rest n a (suc a / n) (suc a % n) (div-add-mod (suc a) n)

-- below 0 it is the quotient up
pub zero_up : (n : ℕ) (p : ℤ) → 0 < n → p <ℤ pos 0 → shr_z (p +ℤ (pos n -ℤ pos 1)) n ≡ int_div p (pos n)
zero_up n (pos a) some h = absurd (omega (arith, ints))
zero_up n (negsuc a) some h =
    let r = negative_rest n a (suc a / n) (suc a % n) (div-add-mod (suc a) n) in
    let m : suc a % n < n = mod-lt (suc a) some in
    floor_unique n (n - 1 - suc a % n) (negsuc a +ℤ (pos n -ℤ pos 1)) (neg_ℤ (pos (suc a / n))) (omega arith) (omega (arith, ints, r))

-- and what is left over is small
rest_small : (n : ℕ) (p : ℤ) → 0 < n → unsigned_abs (int_rem p (pos n)) ≤ n
rest_small n (pos a) h = omega (arith, mod-lt a h)
rest_small n (negsuc a) h = omega (arith, ints, mod-lt (suc a) h)

-- so a quotient toward zero errs by at most the divisor
pub zero_near : (n : ℕ) (p : ℤ) → 0 < n → unsigned_abs (p -ℤ (pos n *ℤ int_div p (pos n))) ≤ n
zero_near n p h = omega (arith, ap unsigned_abs (zero_rest n p), rest_small n p h)

-- and is no larger than the quotient down of the magnitude
pub zero_reach : (n m : ℕ) (p : ℤ) → 0 < n → unsigned_abs p ≤ m → unsigned_abs (int_div p (pos n)) ≤ m / n
zero_reach n m (pos a) h k = quotient_rises a m n h (omega (arith, ints))
zero_reach n m (negsuc a) h k = omega (arith, ints, quotient_rises (suc a) m n h (omega (arith, ints)))
