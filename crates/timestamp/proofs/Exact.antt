-- What is given is the exact difference: so many units of 2^-64 second as the first has more than the second, and no other seconds and fraction
-- are. It is refused exactly where no seconds of 64 signed bits do. Rests on `Gaps`.
use Rattle.std.proofs.Common.{◌≡◌, ℕ, suc, ◌+◌, ◌-◌, ◌*◌, ◌%◌, ◌^◌, ◌<◌, Bool, true, false, cond, ltb, ℤ, pos, negsuc, ◌+ℤ◌, ◌-ℤ◌, ◌*ℤ◌, sym, refl, ap, ◌∙◌, arith, le-ltb, lt-ltb}
use native.Mathlib.Decide.{dec_lt}
use Rattle.descriptor.specs.Answers.{accepted}
use Rattle.timestamp.specs.Difference.{Time, units_of, less, is_signed, too_far, given}
use Rattle.timestamp.proofs.Gaps.{gap, same_gap, gap-ahead, gap-behind, gap-plus, gap-minus, gap-whole, gap-times}

-- every whole number is a gap
record AsGap (k : ℤ) : Type 0 where
  upper : ℕ
  lower : ℕ
  is : k ≡ gap upper lower

as-gap : (k : ℤ) → AsGap k
as-gap (pos n) = record { upper = n; lower = 0; is = gap-whole n }
as-gap (negsuc n) = record { upper = 0; lower = suc n; is = sym (gap-behind 0 (suc n) n (omega arith)) }

-- gaps that are the same have the same sums crosswise
pub gap-sums : (a b c d : ℕ) → gap a b ≡ gap c d → a + d ≡ c + b
gap-sums a b c d e = go (dec_lt a b) (dec_lt c d)
  where
    go : Dec (a < b) → Dec (c < d) → a + d ≡ c + b
    go (yes h) (yes k) =
        let z : negsuc (b - suc a) ≡ negsuc (d - suc c) = sym (gap-behind a b (b - suc a) (omega arith)) ∙ e ∙ gap-behind c d (d - suc c) (omega arith) in
        let same : b - suc a ≡ d - suc c = cc in
        omega arith
    go (yes h) (no k) =
        let z : negsuc (b - suc a) ≡ pos (c - d) = sym (gap-behind a b (b - suc a) (omega arith)) ∙ e ∙ gap-ahead c d (c - d) (omega arith) in
        absurd (let w : ◌≡◌ {A = ℕ} 0 1 = cc in omega arith)
    go (no h) (yes k) =
        let z : pos (a - b) ≡ negsuc (d - suc c) = sym (gap-ahead a b (a - b) (omega arith)) ∙ e ∙ gap-behind c d (d - suc c) (omega arith) in
        absurd (let w : ◌≡◌ {A = ℕ} 0 1 = cc in omega arith)
    go (no h) (no k) =
        let z : pos (a - b) ≡ pos (c - d) = sym (gap-ahead a b (a - b) (omega arith)) ∙ e ∙ gap-ahead c d (c - d) (omega arith) in
        let same : a - b ≡ c - d = cc in
        omega arith

-- the units of seconds that are a gap, and a fraction
units : (k : ℤ) (a b f : ℕ) → k ≡ gap a b → k *ℤ pos (2 ^ 64) +ℤ pos f ≡ gap (a * 2 ^ 64 + f) (b * 2 ^ 64 + 0)
units k a b f e =
    ap (λ (z : ℤ). z *ℤ pos (2 ^ 64) +ℤ pos f) e
    ∙ (λ i. gap-times a b (2 ^ 64) i +ℤ gap-whole f i)
    ∙ gap-plus (a * 2 ^ 64) (b * 2 ^ 64) f 0

-- what is borrowed makes up for the fraction
borrow-right : (f g : ℕ) → f < 2 ^ 64 → g < 2 ^ 64 → (f + 2 ^ 64 - g) % 2 ^ 64 + g ≡ f + cond (ltb f g) 1 0 * 2 ^ 64
borrow-right f g h k = go (dec_lt f g)
  where
    go : Dec (f < g) → (f + 2 ^ 64 - g) % 2 ^ 64 + g ≡ f + cond (ltb f g) 1 0 * 2 ^ 64
    go (yes l) = rw (lt-ltb f g l) (omega arith)
    go (no l) = rw (le-ltb f g (omega arith)) (omega arith)

-- "exact": the units of the difference are those of the first less those of the second, and its fraction is below one second
pub exact : (x y : Time) → x.fraction < 2 ^ 64 → y.fraction < 2 ^ 64
    → (units_of (less x y) ≡ units_of x -ℤ units_of y) × ((less x y).fraction < 2 ^ 64)
exact x y h k =
    let p = as-gap x.seconds in
    let q = as-gap y.seconds in
    let a = p.upper in
    let b = p.lower in
    let c = q.upper in
    let d = q.lower in
    let f = (less x y).fraction in
    let n : ℕ = cond (ltb x.fraction y.fraction) 1 0 in
    let seconds : (less x y).seconds ≡ gap (a + d + 0) (b + c + n) =
    (λ i. p.is i -ℤ q.is i -ℤ gap-whole n i)
    ∙ ap (λ (z : ℤ). z -ℤ gap n 0) (gap-minus a b c d)
    ∙ gap-minus (a + d) (b + c) n 0 in
    let sums : (a + d + 0) * 2 ^ 64 + f + (b * 2 ^ 64 + 0 + (c * 2 ^ 64 + y.fraction)) ≡ a * 2 ^ 64 + x.fraction + (d * 2 ^ 64 + 0) + ((b + c + n) * 2 ^ 64 + 0) =
    omega (arith, borrow-right x.fraction y.fraction h k) in (
      units (less x y).seconds (a + d + 0) (b + c + n) f seconds
          ∙ same_gap ((a + d + 0) * 2 ^ 64 + f) ((b + c + n) * 2 ^ 64 + 0) (a * 2 ^ 64 + x.fraction + (d * 2 ^ 64 + 0)) (b * 2 ^ 64 + 0 + (c * 2 ^ 64 + y.fraction)) sums
          ∙ sym ((λ i. units x.seconds a b x.fraction p.is i -ℤ units y.seconds c d y.fraction q.is i)
          ∙ gap-minus (a * 2 ^ 64 + x.fraction) (b * 2 ^ 64 + 0) (c * 2 ^ 64 + y.fraction) (d * 2 ^ 64 + 0)),
      omega arith,
    )

-- no other seconds and fraction have as many units
pub alone : (j k : ℤ) (f g : ℕ) → f < 2 ^ 64 → g < 2 ^ 64 → j *ℤ pos (2 ^ 64) +ℤ pos f ≡ k *ℤ pos (2 ^ 64) +ℤ pos g → (j ≡ k) × (f ≡ g)
alone j k f g h l e =
    let p = as-gap j in
    let q = as-gap k in
    let sums : p.upper * 2 ^ 64 + f + (q.lower * 2 ^ 64 + 0) ≡ q.upper * 2 ^ 64 + g + (p.lower * 2 ^ 64 + 0) =
    gap-sums (p.upper * 2 ^ 64 + f) (p.lower * 2 ^ 64 + 0) (q.upper * 2 ^ 64 + g) (q.lower * 2 ^ 64 + 0) (sym (units j p.upper p.lower f p.is) ∙ e ∙ units k q.upper q.lower g q.is) in
    (p.is ∙ same_gap p.upper p.lower q.upper q.lower (omega (arith, sums)) ∙ sym q.is, omega (arith, sums))

-- seconds of 64 signed bits and a fraction of one that are the first time less the second
pub record Is (x y : Time) (k : ℤ) (f : ℕ) : Type 0 where
  pub signed : is_signed k ≡ true
  pub below : f < 2 ^ 64
  pub units : k *ℤ pos (2 ^ 64) +ℤ pos f ≡ units_of x -ℤ units_of y

module _ (x y : Time) (h : x.fraction < 2 ^ 64) (l : y.fraction < 2 ^ 64) where
  -- where some are, they are given
  pub given_so : (k : ℤ) (f : ℕ) → Is x y k f → given (less x y) ≡ record { answer = accepted 0; seconds = k; fraction = f }
  given_so k f is =
      let same = alone (less x y).seconds k (less x y).fraction f (exact x y h l).1 is.below ((exact x y h l).0 ∙ sym is.units) in
      (λ i. given (record { seconds = same.0 i; fraction = same.1 i })) ∙ rw is.signed

  -- what is given without a refusal is the difference
  pub given_is : (given (less x y)).answer.number ≡ 0 → Is x y (given (less x y)).seconds (given (less x y)).fraction
  given_is e = go (is_signed (less x y).seconds) refl
    where
      go : (b : Bool) → is_signed (less x y).seconds ≡ b → Is x y (given (less x y)).seconds (given (less x y)).fraction
      go true s = rw s (record { signed = s; below = (exact x y h l).1; units = (exact x y h l).0 })
      go false s = absurd (let z : ◌≡◌ {A = ℕ} 32 0 = (rw s at e) in omega arith)

  -- where it is refused with 32 there are none
  pub refused_none : given (less x y) ≡ too_far → (k : ℤ) (f : ℕ) → Is x y k f → ⊥
  refused_none e k f is = let z : ◌≡◌ {A = ℕ} 0 32 = ap (λ r. r.answer.number) (sym (given_so k f is) ∙ e) in omega arith
