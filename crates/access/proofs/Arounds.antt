-- Values with one string in a row, in accepted data: each ends past its bytes, its length word and its characters. Rests on the law of
-- extents.
use mathlib.Core.Path.{◌≡◌, refl, ap, ◌∙◌}
use mathlib.Core.Bool.{Bool}
use mathlib.Core.List.{List}
use Prim.Native.Nat.{ℕ, zero, suc, ◌+◌, ◌-◌, ◌<◌, ◌≤◌}
use native.Mathlib.Nat.{zero-add, suc-add}
use native.Mathlib.Numerals.{add-one}
use native.Mathlib.Omega.{arith}
use lib.ListN.{length}
use Rattle.descriptor.specs.Tree.{Tree}
use Rattle.descriptor.proofs.Outcomes.{Holds, found, holds-and_then}
use Rattle.flattened.specs.Order.{big, number_at}
use Rattle.flattened.specs.Walk.{repeat, walk}
use Rattle.flattened.specs.inner.Extent.{extent_of}
use Rattle.flattened.specs.inner.Columns.{beyond, place_of}
use Rattle.flattened.specs.declared.extent.Extent.TheVariants.{Around}
use Rattle.flattened.proofs.Extents.{walk-crosses}
use Rattle.access.specs.inner.Past.{around_end}

module _ (before after : ℕ) (s : List ℕ) where
  -- where one ends
  abbrev one : ℕ → ℕ
  one at = at + before + 4 + number_at big s (at + before) 4 + after

  -- the one after n values
  after_more : (at n : ℕ) → around_end before after s at (suc n) ≡ one (around_end before after s at n)
  unfolding place_of beyond
  after_more at n = refl

  -- the first and then n more
  first_more : (at n : ℕ) → around_end before after s (one at) n ≡ around_end before after s at (suc n)
  unfolding place_of beyond
  first_more at zero = refl
  first_more at (suc n) = ap one (first_more at n)

  -- more of them end no earlier
  no-earlier : (at n m : ℕ) → around_end before after s at n ≤ around_end before after s at (m + n)
  no-earlier at n zero = omega (arith, ap (around_end before after s at) (zero-add n))
  no-earlier at n (suc m) = omega (arith, no-earlier at n m, after_more at (m + n), ap (around_end before after s at) (suc-add m n))

  -- where n values that are read end
  pub run-stops : (t : Tree) (k : ℕ) (j : Bool) → extent_of t ≡ Around before after k j → (n at : ℕ)
      → Holds (λ q ts. q ≡ around_end before after s at n) (repeat (λ a. walk big t s a) n at)
  unfolding repeat place_of
  run-stops t k j known zero at = found refl
  run-stops t k j known (suc n) at =
      holds-and_then (walk-crosses s t before after k j known big at).stops (λ q ts e.
      holds-and_then (run-stops t k j known n q) (λ r us f.
      found (f ∙ ap (λ (a : ℕ). around_end before after s a n) e ∙ first_more at n)))

  -- where all n values from `start` on end in the data, so does value i
  pub around_room : (start n i : ℕ) → i < n → around_end before after s start n ≤ length s → one (around_end before after s start i) ≤ length s
  around_room start n i more inside =
      let rest : n - suc i + suc i ≡ n = omega arith in
      omega (arith, inside, after_more start i, no-earlier start (suc i) (n - suc i), ap (around_end before after s start) rest)

  -- none, and one more
  pub around_none : (start : ℕ) → around_end before after s start 0 ≡ start
  unfolding place_of
  around_none start = refl

  pub around_more : (start i : ℕ) → around_end before after s start (i + 1) ≡ one (around_end before after s start i)
  around_more start i = ap (around_end before after s start) (add-one i) ∙ after_more start i

pub ruleset around_laws = (around_room, around_none, around_more)
