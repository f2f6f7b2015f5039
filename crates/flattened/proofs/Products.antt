-- What the loop over an array's size words keeps: the sizes that are left fit where all do, and the capped product so far times theirs
-- is the capped product of all. Rests on the definitions of the size words.
use mathlib.Core.Path.{◌≡◌, refl, sym, ap, ap₂, ◌∙◌}
use mathlib.Core.Bool.{true, false}
use mathlib.Core.List.{List, ◌∷◌}
use Prim.Native.Nat.{ℕ, zero, suc, ◌+◌, ◌-◌, ◌*◌, ◌<◌, ◌≤◌, min}
use Rattle.std.specs.Prelude.{Ok, Err}
use Rattle.descriptor.specs.inner.Steps.{refusal_at}
use native.Mathlib.Nat.{sub-zero, mul-zero, mul-suc, mul_assoc, mul-one, one-mul, min-eq_left, min-eq_right}
use native.Mathlib.Decide.{dec_le}
use native.Mathlib.Omega.{arith}
use borrow.Author.Tests.{le-leb, lt-leb, lt-ltb, le-ltb}
use lib.ListN.{length}
use Rattle.descriptor.specs.Limits.{length_limit}
use Rattle.flattened.specs.Order.{Order, number_at}
use Rattle.flattened.specs.Walk.{sizes_at, sizes_fit, product, array_at}
use Rattle.flattened.specs.inner.Cursor.{cursor}
use Rattle.flattened.specs.inner.Sizes.{sizes_of, element_cap, capped_sizes}
use Rattle.flattened.specs.declared.cursor.Cursor.{Cursor}

-- a product of a number that was cut, cut again, is that of the number
cap-mul : (a b : ℕ) → min (min a element_cap * b) element_cap ≡ min (a * b) element_cap
cap-mul a zero = rw (mul-zero (min a element_cap), mul-zero a) refl
cap-mul a (suc k) = go (dec_le a element_cap)
  where
    go : Dec (a ≤ element_cap) → min (min a element_cap * suc k) element_cap ≡ min (a * suc k) element_cap
    go (yes h) = rw (min-eq_left h) refl
    go (no h) =
        let over : element_cap ≤ a = omega arith in
        rw (min-eq_right over) (omega (arith, mul-suc a k))

module _ (o : Order) (s : List ℕ) (dims at : ℕ) where
  -- i of the sizes have been read, and n is their capped product
  pub record SizesLoop (n i : ℕ) : Type 0 where
    pub most : i ≤ dims
    pub small : n ≤ element_cap
    pub fit : sizes_fit (sizes_at o s dims at) ≡ sizes_fit (sizes_at o s (dims - i) (at + 4 * i))
    pub count : min (product (sizes_at o s dims at)) element_cap ≡ min (n * product (sizes_at o s (dims - i) (at + 4 * i))) element_cap

  pub sizes_begin : SizesLoop 1 0
  sizes_begin =
      let here : at ≡ at + 4 * 0 = omega arith in
      let all : sizes_at o s dims at ≡ sizes_at o s (dims - 0) (at + 4 * 0) = ap₂ (λ (k p : ℕ). sizes_at o s k p) (sym (sub-zero dims)) here in
      record {
        most = omega arith;
        small = omega arith;
        fit = ap sizes_fit all;
        count = ap (λ (x : List ℕ). min (product x) element_cap) all ∙ ap (λ (k : ℕ). min k element_cap) (sym (one-mul _));
      }

  module _ (n i : ℕ) (loop : SizesLoop n i) where
    size : ℕ
    size = number_at o s (at + 4 * i) 4

    module _ (more : i < dims) where
      -- the next size, and those after it
      next-sizes : sizes_at o s (dims - i) (at + 4 * i) ≡ size ∷ sizes_at o s (dims - (i + 1)) (at + 4 * (i + 1))
      unfolding sizes_at size
      next-sizes =
          let left : dims - i ≡ suc (dims - (i + 1)) = omega arith in
          let next : at + 4 * i + 4 ≡ at + 4 * (i + 1) = omega arith in
          ap (λ (k : ℕ). sizes_at o s k (at + 4 * i)) left
          ∙ ap (λ (p : ℕ). number_at o s (at + 4 * i) 4 ∷ sizes_at o s (dims - (i + 1)) p) next

      -- it is carried
      pub sizes-next : number_at o s (at + 4 * i) 4 < length_limit → (m : ℕ) → m ≡ min (n * number_at o s (at + 4 * i) 4) element_cap
          → SizesLoop m (i + 1)
      unfolding sizes_fit product size
      sizes-next low m e = record {
        most = omega arith;
        small = omega arith;
        fit = loop.fit ∙ ap sizes_fit next-sizes ∙ rw (lt-ltb size length_limit low) refl;
        count =
            loop.count
            ∙ ap (λ (x : List ℕ). min (n * product x) element_cap) next-sizes
            ∙ ap (λ (k : ℕ). min k element_cap) (sym (mul_assoc n size rest))
            ∙ sym (cap-mul (n * size) rest)
            ∙ ap (λ (k : ℕ). min (k * rest) element_cap) (sym e);
      }
        where
          rest : ℕ
          rest = product (sizes_at o s (dims - (i + 1)) (at + 4 * (i + 1)))

      -- it is not
      pub sizes-over : at + 4 * dims ≤ length s → length_limit ≤ number_at o s (at + 4 * i) 4 → Err (refusal_at 22 at) ≡ capped_sizes (array_at o s dims at)
      unfolding array_at capped_sizes sizes_fit size
      sizes-over room high =
          let over : sizes_fit (sizes_at o s dims at) ≡ false =
          loop.fit ∙ ap sizes_fit next-sizes ∙ rw (le-ltb size length_limit high) refl in
          simp (le-leb (at + 4 * dims) (length s) room, over)

    -- no size is left
    pub sizes-done : at + 4 * dims ≤ length s → dims ≤ i → (c : Cursor) → c ≡ cursor (at + 4 * dims) → Ok (sizes_of n c) ≡ capped_sizes (array_at o s dims at)
    unfolding array_at capped_sizes sizes_fit sizes_at product
    sizes-done room h c e =
        let none : dims - i ≡ 0 = omega arith in
        let fits : sizes_fit (sizes_at o s dims at) ≡ true = loop.fit ∙ ap (λ (k : ℕ). sizes_fit (sizes_at o s k (at + 4 * i))) none in
        let all : min (product (sizes_at o s dims at)) element_cap ≡ n =
        loop.count
        ∙ ap (λ (k : ℕ). min (n * product (sizes_at o s k (at + 4 * i))) element_cap) none
        ∙ ap (λ (k : ℕ). min k element_cap) (mul-one n)
        ∙ min-eq_left loop.small in
        ap₂ (λ (k : ℕ) (x : Cursor). Ok (sizes_of k x)) (sym all) e ∙ simp (le-leb (at + 4 * dims) (length s) room, fits)

  -- a size word is missing
  pub sizes-cut : length s < at + 4 * dims → Err (refusal_at 21 at) ≡ capped_sizes (array_at o s dims at)
  unfolding array_at capped_sizes
  sizes-cut h = simp (lt-leb (at + 4 * dims) (length s) h)
