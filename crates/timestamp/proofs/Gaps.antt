-- Whole numbers as differences of two natural ones. Assumes nothing.
use Rattle.std.proofs.Common.{◌≡◌, ℕ, zero, suc, ◌+◌, ◌-◌, ◌*◌, ◌<◌, ℤ, pos, negsuc, ◌+ℤ◌, ◌-ℤ◌, ◌*ℤ◌, neg_ℤ, sym, refl, ap, ◌∙◌, add-mul, arith, le-ltb, lt-ltb}
use native.Mathlib.Decide.{dec_lt}
use lib.IntN.{sub_ℕ, +ℤ_assoc, +ℤ_comm, neg_ℤ-+ℤ, neg_ℤ-neg_ℤ}

-- a less b
abbrev pub gap : ℕ → ℕ → ℤ
gap a b = pos a -ℤ pos b

gap_is : (a b : ℕ) → gap a b ≡ sub_ℕ a b
gap_is a zero = let z : a + 0 ≡ a = omega arith in let w : a ≡ a - 0 = omega arith in rw (le-ltb a 0 (omega arith)) (ap pos (z ∙ w))
gap_is a (suc b) = refl

-- from 0 on, and below 0
pub gap-ahead : (a b n : ℕ) → a ≡ b + n → gap a b ≡ pos n
gap-ahead a b n e = gap_is a b ∙ (let z : a - b ≡ n = omega arith in rw (le-ltb a b (omega arith)) (ap pos z))

pub gap-behind : (a b n : ℕ) → b ≡ a + suc n → gap a b ≡ negsuc n
gap-behind a b n e = gap_is a b ∙ (let z : b - suc a ≡ n = omega arith in rw (lt-ltb a b (omega arith)) (ap negsuc z))

-- two of them are the same where their sums crosswise are
pub same_gap : (a b c d : ℕ) → a + d ≡ c + b → gap a b ≡ gap c d
same_gap a b c d e = go (dec_lt a b)
  where
    go : Dec (a < b) → gap a b ≡ gap c d
    go (yes h) = gap-behind a b (b - suc a) (omega arith) ∙ sym (gap-behind c d (b - suc a) (omega arith))
    go (no h) = gap-ahead a b (a - b) (omega arith) ∙ sym (gap-ahead c d (a - b) (omega arith))

-- four summands, the middle ones exchanged
exchanged : (a b c d : ℤ) → (a +ℤ b) +ℤ (c +ℤ d) ≡ (a +ℤ c) +ℤ (b +ℤ d)
exchanged a b c d =
    +ℤ_assoc a b (c +ℤ d)
    ∙ ap (λ (z : ℤ). a +ℤ z) (sym (+ℤ_assoc b c d) ∙ ap (λ (z : ℤ). z +ℤ d) (+ℤ_comm b c) ∙ +ℤ_assoc c b d)
    ∙ sym (+ℤ_assoc a c (b +ℤ d))

-- their sum
pub gap-plus : (a b c d : ℕ) → gap a b +ℤ gap c d ≡ gap (a + c) (b + d)
gap-plus a b c d = exchanged (pos a) (neg_ℤ (pos b)) (pos c) (neg_ℤ (pos d)) ∙ ap (λ (z : ℤ). pos (a + c) +ℤ z) (sym (neg_ℤ-+ℤ (pos b) (pos d)))

-- the other way round
pub gap-turned : (a b : ℕ) → neg_ℤ (gap a b) ≡ gap b a
gap-turned a b = neg_ℤ-+ℤ (pos a) (neg_ℤ (pos b)) ∙ ap (λ (z : ℤ). neg_ℤ (pos a) +ℤ z) (neg_ℤ-neg_ℤ (pos b)) ∙ +ℤ_comm (neg_ℤ (pos a)) (pos b)

-- their difference
pub gap-minus : (a b c d : ℕ) → gap a b -ℤ gap c d ≡ gap (a + d) (b + c)
gap-minus a b c d = ap (λ (z : ℤ). gap a b +ℤ z) (gap-turned c d) ∙ gap-plus a b d c

-- a natural number
pub gap-whole : (n : ℕ) → pos n ≡ gap n 0
gap-whole n = sym (gap-ahead n 0 n (omega arith))

-- below 0 or 0
pub gap-none : (n : ℕ) → neg_ℤ (pos n) ≡ gap 0 n
gap-none n = ap neg_ℤ (gap-whole n) ∙ gap-turned n 0

-- so many times a natural number
pub gap-times : (a b m : ℕ) → gap a b *ℤ pos m ≡ gap (a * m) (b * m)
gap-times a b m = go (dec_lt a b)
  where
    go : Dec (a < b) → gap a b *ℤ pos m ≡ gap (a * m) (b * m)
    go (yes h) =
        let n = b - suc a in
        let e : b ≡ a + suc n = omega arith in
        let times : b * m ≡ a * m + suc n * m = ap (λ (k : ℕ). k * m) e ∙ add-mul a (suc n) m in
        ap (λ (z : ℤ). z *ℤ pos m) (gap-behind a b n e) ∙ gap-none (suc n * m) ∙ same_gap 0 (suc n * m) (a * m) (b * m) (omega (arith, times))
    go (no h) =
        let n = a - b in
        let e : a ≡ b + n = omega arith in
        let times : a * m ≡ b * m + n * m = ap (λ (k : ℕ). k * m) e ∙ add-mul b n m in
        ap (λ (z : ℤ). z *ℤ pos m) (gap-ahead a b n e) ∙ sym (gap-ahead (a * m) (b * m) (n * m) times)
