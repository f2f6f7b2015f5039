-- A scalar is one number of 1, 2, 4, 8 or 16 bytes, or two: a test that is computed over the table of widths, and the rules that it gives
-- at every code. Rests on the table of widths, past which there is none.
use mathlib.Core.Path.{◌≡◌, refl, sym, ap, subst, ◌∙◌}
use mathlib.Core.Bool.{Bool, true, false, cond, ◌&&◌, ◌||◌}
use mathlib.Core.List.{List}
use Prim.Native.Nat.{ℕ, ◌+◌, ◌*◌, ◌/◌, ◌≤◌, ◌<◌}
use native.Mathlib.Nat.{mul_assoc, mul-le-mul_left}
use native.Mathlib.Decide.{dec_lt}
use native.Mathlib.Omega.{arith}
use borrow.Author.Tests.{eqb-true, ne_eqb}
use lib.Dec.{eqb}
use Rattle.descriptor.specs.Codes.{is_complex}
use Rattle.descriptor.specs.Width.{width_of}
use Rattle.descriptor.proofs.Sizes.{and-true}
use Rattle.descriptor.proofs.Widths.{passes, each, none-past}
use Rattle.byte_order.specs.inner.Turning.{turned_at, turned_run, NumberWide}
use Rattle.byte_order.specs.Reversal.{number_count, number_width}

-- a number's width is one of five
one_of : ℕ → Bool
one_of w = eqb w 8 || (eqb w 4 || (eqb w 2 || (eqb w 16 || eqb w 1)))

-- the numbers of a code take its width, and each is of one of the five where there is any
test : ℕ → Bool
test c = eqb (number_count c * number_width c) (width_of c) && (eqb (width_of c) 0 || one_of (number_width c))

all_pass : passes test 34 ≡ true
unfolding passes test one_of width_of number_width number_count
all_pass = refl

one-of : (w : ℕ) → one_of w ≡ true → NumberWide w
unfolding one_of
one-of w e = record { else = λ a b c d. eqb-true w 1 (simp (ne_eqb w 8 a, ne_eqb w 4 b, ne_eqb w 2 c, ne_eqb w 16 d) at e) }

module _ (c : ℕ) (h : c < 34) where
  parts : (eqb (number_count c * number_width c) (width_of c) ≡ true) × ((eqb (width_of c) 0 || one_of (number_width c)) ≡ true)
  unfolding test
  parts = and-true _ _ (each test 34 all_pass c h)

-- the numbers of a scalar are all of it
pub numbers-all : (c : ℕ) → number_count c * number_width c ≡ width_of c
unfolding number_width number_count
numbers-all c = go (dec_lt c 34)
  where
    past : (b : Bool) → width_of c ≡ 0 → cond b 2 1 * cond b (width_of c / 2) (width_of c) ≡ width_of c
    past true e = omega arith
    past false e = omega arith

    go : Dec (c < 34) → number_count c * number_width c ≡ width_of c
    go (yes h) = eqb-true _ _ (parts c h).0
    go (no h) = past (is_complex c) (none-past c (omega arith))

-- each is of one of the widths that are turned
pub number-wide : (c : ℕ) → 0 < width_of c → NumberWide (number_width c)
number-wide c some = go (dec_lt c 34)
  where
    go : Dec (c < 34) → NumberWide (number_width c)
    go (yes h) = one-of (number_width c) (simp (ne_eqb (width_of c) 0 (omega arith)) at (parts c h).1)
    go (no h) = absurd (omega (arith, none-past c (omega arith)))

-- a number's width by the range that it is in
module _ (w : ℕ) (wide : NumberWide w) where
  least : (v : ℕ) → 1 < v → v ≤ w → (v < w → w ≡ 1) → w ≡ v
  least v more low above = go (dec_lt v w)
    where
      go : Dec (v < w) → w ≡ v
      go (yes h) = absurd (omega (arith, above h))
      go (no h) = omega arith

  pub wide-1 : w < 2 → w ≡ 1
  wide-1 high = wide.else (λ e. omega arith) (λ e. omega arith) (λ e. omega arith) (λ e. omega arith)

  pub wide-2 : 2 ≤ w → w < 4 → w ≡ 2
  wide-2 low high = least 2 (omega arith) low (λ h. wide.else (λ e. omega arith) (λ e. omega arith) (λ e. omega arith) (λ e. omega arith))

  pub wide-4 : 4 ≤ w → w < 8 → w ≡ 4
  wide-4 low high = least 4 (omega arith) low (λ h. wide.else (λ e. omega arith) (λ e. omega arith) (λ e. omega arith) (λ e. omega arith))

  pub wide-8 : 8 ≤ w → w < 16 → w ≡ 8
  wide-8 low high = least 8 (omega arith) low (λ h. wide.else (λ e. omega arith) (λ e. omega arith) (λ e. omega arith) (λ e. omega arith))

  pub wide-16 : 16 ≤ w → w ≡ 16
  wide-16 low = least 16 (omega arith) low (λ h. wide.else (λ e. omega arith) (λ e. omega arith) (λ e. omega arith) (λ e. omega arith))

-- n scalars of w bytes each, where they are two halves
pub record Halved (c w n : ℕ) : Type 0 where
  pub wide : NumberWide (w / 2)
  pub fewer : n * 2 ≤ n * w
  pub size : n * 2 * (w / 2) ≡ n * w
  pub width : w / 2 ≡ number_width c
  pub count : n * 2 ≡ n * number_count c

pub complex-halved : {c w : ℕ} (n : ℕ) → (w ≡ width_of c) × (0 < w) → true ≡ is_complex c → Halved c w n
unfolding number_width number_count
complex-halved {c} {w} n (e, some) complex =
    let width : w / 2 ≡ number_width c = ap (λ (k : ℕ). k / 2) e ∙ sym (simp (← complex)) in
    let two : number_count c ≡ 2 = simp (← complex) in
    let all : 2 * (w / 2) ≡ w = ap (λ (k : ℕ). 2 * k) width ∙ ap (λ (k : ℕ). k * number_width c) (sym two) ∙ numbers-all c ∙ sym e in
    record {
      wide = subst NumberWide (sym width) (number-wide c (omega arith));
      fewer = mul-le-mul_left n (omega arith);
      size = mul_assoc n 2 (w / 2) ∙ ap (λ (k : ℕ). n * k) all;
      width = width;
      count = ap (λ (k : ℕ). n * k) (sym two);
    }

-- and where they are one number
pub record Whole (c w n : ℕ) : Type 0 where
  pub wide : NumberWide w
  pub width : w ≡ number_width c
  pub count : n ≡ n * number_count c

pub real-whole : {c w : ℕ} (n : ℕ) → (w ≡ width_of c) × (0 < w) → false ≡ is_complex c → Whole c w n
unfolding number_width number_count
real-whole {c} {w} n (e, some) real =
    let width : w ≡ number_width c = e ∙ sym (simp (← real)) in
    let one : number_count c ≡ 1 = simp (← real) in
    record {
      wide = subst NumberWide (sym width) (number-wide c (omega arith));
      width = width;
      count = (let z : n ≡ n * 1 = omega arith in z) ∙ ap (λ (k : ℕ). n * k) (sym one);
    }

-- the numbers of one scalar are a run
module _ {c w : ℕ} (s out : List ℕ) (at : ℕ) where
  pub halves_run : Halved c w 1 → turned_at (w / 2) s (at + w / 2) (turned_at (w / 2) s at out) ≡ turned_run (number_width c) s (number_count c) at out
  unfolding turned_run
  halves_run all =
      let two : 2 ≡ number_count c = omega (arith, all.count) in
      λ i. turned_run (all.width i) s (two i) at out

  pub whole_run : Whole c w 1 → turned_at w s at out ≡ turned_run (number_width c) s (number_count c) at out
  unfolding turned_run
  whole_run all =
      let one : 1 ≡ number_count c = omega (arith, all.count) in
      λ i. turned_run (all.width i) s (one i) at out
