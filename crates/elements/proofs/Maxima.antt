-- The largest of numbers that stand equally far apart, over their width: one number more, and that none is larger; so where the largest is
-- below a limit, each is. Rests on the definition alone.
use mathlib.Core.Path.{◌≡◌, refl, ap, subst}
use mathlib.Core.List.{List}
use Prim.Native.Nat.{ℕ, zero, suc, ◌+◌, ◌-◌, ◌*◌, ◌<◌, ◌≤◌, max}
use native.Mathlib.Nat.{add-mul, mul-le-mul_right, le-max_left, le-max_right}
use native.Mathlib.Decide.{dec_lt}
use native.Mathlib.Numerals.{add-one}
use native.Mathlib.Omega.{arith}
use mathlib.Core.Bool.{true, false}
use Rattle.std.specs.Ordering.{nat_cmp, partial_lt}
use Rattle.std.specs.Prelude.{Option, Some}
use Rattle.std.proofs.lemmas.Bool.Decides.{nat_tests}
use Rattle.std.specs.declared.cmp.Ordering.{Ordering}
use Rattle.flattened.specs.Order.{Order, number_at}
use Rattle.elements.specs.inner.Largest.{largest, EachLow}

-- the first k of n numbers of w bytes lie inside what n take, and so do the j after them
pub fewer-within : (w at end k n : ℕ) → k ≤ n → at + n * w ≤ end → at + k * w ≤ end
fewer-within w at end k n h room = omega (arith, mul-le-mul_right {m = k} {n = n} w h)

pub more_within : (w at end k j n : ℕ) → k + j ≤ n → at + n * w ≤ end → at + k * w + j * w ≤ end
more_within w at end k j n h room = omega (arith, add-mul k j w, fewer-within w at end (k + j) n h room)

-- of n numbers of w bytes that lie `step` apart: the k-th, and the j after the first k
pub apart-here : (w step at end k n : ℕ) → k < n → at + n * step + w ≤ end + step → at + k * step + w ≤ end
apart-here w step at end k n h room = omega (arith, more_within step at (at + n * step) k 1 n (omega arith) (omega arith))

pub apart_more : (w step at end k j n : ℕ) → k + j ≤ n → at + n * step + w ≤ end + step → at + k * step + j * step + w ≤ end + step
apart_more w step at end k j n h room = omega (arith, more_within step at (at + n * step) k j n h (omega arith))

-- a value that the other is more than, and one that it is not, where they are ordered as their numbers are
module _ {A : Type 0} (value : A → ℕ) (cmp : A → A → Option Ordering) (ordered : (x y : A) → cmp x y ≡ Some (nat_cmp (value x) (value y))) (a b : A) where
  pub larger : true ≡ partial_lt cmp a b → value b ≡ max (value a) (value b)
  larger e = let less = rw (ordered a b) at e in grind (arith, nat_tests)

  pub not-larger : false ≡ partial_lt cmp a b → value a ≡ max (value a) (value b)
  not-larger e = let less = rw (ordered a b) at e in grind (arith, nat_tests)

module _ (o : Order) (s : List ℕ) (w step at : ℕ) where
  -- one number more
  pub largest-more : (n : ℕ) → largest o s w step at (n + 1) ≡ max (largest o s w step at n) (number_at o s (at + n * step) w)
  unfolding largest
  largest-more n = rw (add-one n) refl

  -- none is larger
  pub largest-most : (n i : ℕ) → i < n → number_at o s (at + i * step) w ≤ largest o s w step at n
  unfolding largest
  largest-most zero i h = absurd (omega arith)
  largest-most (suc n) i h = go (dec_lt i n) (largest-most n i)
    where
      most : ℕ
      most = largest o s w step at n

      last : ℕ
      last = number_at o s (at + n * step) w

      go : Dec (i < n) → (i < n → number_at o s (at + i * step) w ≤ most) → number_at o s (at + i * step) w ≤ max most last
      go (yes l) before = omega (arith, before l, le-max_left most last)
      go (no l) before =
          let here : i ≡ n = omega arith in
          let same : number_at o s (at + i * step) w ≡ last = ap (λ (j : ℕ). number_at o s (at + j * step) w) here in
          omega (arith, le-max_right most last)

-- numbers whose largest is below a limit are each below it
pub each-low : (limit : ℕ) (o : Order) (s : List ℕ) (w step at n : ℕ) → largest o s w step at n < limit → EachLow limit o s w step at n
each-low limit o s w step at n low i h = omega (arith, largest-most o s w step at n i h)

-- and so are those of two rows, one after the other
pub low-more : (limit : ℕ) (o : Order) (s : List ℕ) (w step at m n : ℕ) → EachLow limit o s w step at m
    → EachLow limit o s w step (at + m * step) n → EachLow limit o s w step at (m + n)
low-more limit o s w step at m n front back i h = go (dec_lt i m)
  where
    go : Dec (i < m) → number_at o s (at + i * step) w < limit
    go (yes l) = front i l
    go (no l) =
        let place : at + m * step + (i - m) * step ≡ at + i * step =
        omega (arith, add-mul m (i - m) step, ap (λ (j : ℕ). j * step) (let e : m + (i - m) ≡ i = omega arith in e)) in
        subst (λ (a : ℕ). number_at o s a w < limit) place (back (i - m) (omega arith))
