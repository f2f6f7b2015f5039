-- Types whose values all take the same bytes: the walk of one reads its numbers in order and nothing else, so that n of them in a row are
-- turned as elements of these numbers. Over the type. Rests on the laws of tokens, of elements and of such types.
use mathlib.Core.Path.{◌≡◌, refl, sym, ap₂, ◌∙◌}
use mathlib.Core.Bool.{Bool, true}
use mathlib.Core.List.{List}
use Prim.Native.Nat.{ℕ, zero, suc, ◌+◌, ◌*◌, ◌<◌, ◌≤◌}
use native.Mathlib.Nat.{add-zero, suc-mul}
use native.Mathlib.Omega.{arith}
use borrow.Author.Tests.{leb-true}
use lib.Dec.{leb, ltb}
use lib.ListN.{length}
use Rattle.descriptor.specs.Outcome.{Outcome, refused, read}
use Rattle.descriptor.specs.Tree.{empty, items, pairs, text, dimensions, members, subtype, Tree, node, Forest, nil, cons}
use Rattle.descriptor.specs.Width.{width_of}
use Rattle.descriptor.specs.inner.Standing.{is_read, next_of}
use Rattle.descriptor.proofs.Outcomes.{Holds, found, holds_read, holds-require, holds-and_then}
use Rattle.descriptor.proofs.Steps.{impossible}
use Rattle.flattened.specs.Order.{Order, number_at}
use Rattle.flattened.specs.Token.{Token}
use Rattle.flattened.specs.Walk.{scalar_at, repeat, walk_fields, walk, walk_all}
use Rattle.flattened.specs.inner.Extent.{extent_fields, extent_of, extent_all}
use Rattle.byte_order.specs.Reversal.{number_count, number_width}
use Rattle.turning.specs.inner.Tokens.{turned_tokens, tokens_of, Turnable, Turned}
use Rattle.columns.specs.inner.Columns.{copies, numbers_fields, numbers_in, numbers_all, total, turned_numbers, turned_elements, Laid, Even}
use Rattle.turning.proofs.Tokens.{scalar-token, tokens_append}
use Rattle.turning.proofs.Remaining.{remains-all, first-turnable, remains-next, remains-last}
use Rattle.columns.proofs.EvenTypes.{is_fixed, joint-fixed, scalar-total, even-fixed, even-total}
use Rattle.columns.proofs.Elements.{total-append, numbers-append, numbers-run}

-- what a walk from `at` to q reads: numbers of these widths, and nothing else
pub record Numbered (s : List ℕ) (ws : List ℕ) (at q : ℕ) (ts : List Token) : Type 0 where
  pub ends : q ≡ at + total ws
  pub inside : q ≤ length s
  pub turned : (out : List ℕ) → turned_tokens s ts out ≡ turned_numbers ws s at out

module _ (s : List ℕ) where
  -- a scalar
  scalar-numbered : (c at : ℕ) (fits : Bool)
      → Holds (λ q ts. Numbered s (copies (number_count c) (number_width c)) at q ts) (scalar_at c s at fits)
  unfolding scalar_at
  scalar-numbered c at fits =
      holds-require (leb (at + width_of c) (length s)) _ _ (λ room.
      holds-require fits _ _ (λ _.
      found (record {
        ends = omega (arith, scalar-total c);
        inside = leb-true _ _ room;
        turned = λ out. scalar-token s c at out (leb-true _ _ room) ∙ sym (numbers-run s (number_count c) (number_width c) at out);
      })))

  mutual
    unfolding is_fixed extent_of extent_fields numbers_in numbers_fields total turned_numbers turned_tokens walk walk_fields

    type-numbered : (t : Tree) → is_fixed (extent_of t) ≡ true → (o : Order) (at : ℕ) → at ≤ length s
        → Holds (λ q ts. Numbered s (numbers_in t) at q ts) (walk o t s at)
    type-numbered (node c empty f m) e o at h = scalar-numbered c at true
    type-numbered (node c (items xs) f m) e o at h = scalar-numbered c at (ltb (number_at o s at (width_of c)) (length xs))
    type-numbered (node c (pairs ps) f m) e o at h = scalar-numbered c at true
    type-numbered (node c text f m) e o at h = impossible e
    type-numbered (node c (dimensions k) f m) e o at h = impossible e
    type-numbered (node c (members k) f m) e o at h = row-numbered f e o at h
    type-numbered (node c subtype f m) e o at h = row-numbered f e o at h

    row-numbered : (f : Forest) → is_fixed (extent_all f) ≡ true → (o : Order) (at : ℕ) → at ≤ length s
        → Holds (λ q ts. Numbered s (numbers_all f) at q ts) (walk_all o f s at)
    row-numbered nil e o at h = found (record { ends = sym (add-zero at); inside = h; turned = λ out. refl })
    row-numbered (cons t f) e o at h =
        let parts = joint-fixed (extent_of t) (extent_all f) e in
        holds-and_then (type-numbered t parts.0 o at h) (λ q ts first.
        holds-and_then (row-numbered f parts.1.0 o q first.inside) (λ r us rest.
        found (record {
          ends = omega (arith, first.ends, rest.ends, total-append (numbers_in t) (numbers_all f));
          inside = rest.inside;
          turned = λ out.
              tokens_append s ts us out
              ∙ rest.turned (turned_tokens s ts out)
              ∙ ap₂ (λ (p : ℕ) (x : List ℕ). turned_numbers (numbers_all f) s p x) first.ends (first.turned out)
              ∙ sym (numbers-append s (numbers_in t) (numbers_all f) at out);
        })))

-- what was read
list_read : (o : Outcome (List Token)) → is_read o ≡ true → o ≡ read (next_of o) (tokens_of o)
unfolding is_read next_of tokens_of
list_read (refused number place) e = impossible e
list_read (read next ts) e = refl

-- values of a type that each take `step` bytes
module _ (t : Tree) (step : ℕ) (even : Even t step) where
  module _ (o : Order) (s : List ℕ) where
    abbrev value : ℕ → Outcome (List Token)
    value a = walk o t s a

    one-turned : (at : ℕ) (out : List ℕ) → Turnable (value at) s out at → Turned (value at) s out (turned_numbers (numbers_in t) s at out) (at + step)
    one-turned at out ready =
        let it = holds_read (list_read (value at) ready.reads) (type-numbered s t (even-fixed t step even) o at ready.here.inside) in
        let there : at + step ≡ next_of (value at) = omega (arith, it.ends, even-total t step even) in
        record { place = there; inside = omega (arith, it.inside); bytes = sym (it.turned out) }

    pub even-turned : (n at : ℕ) (out : List ℕ) → Turnable (repeat value n at) s out at
        → Turned (repeat value n at) s out (turned_elements (numbers_in t) s step n at out) (at + n * step)
    unfolding repeat turned_elements next_of tokens_of turned_tokens
    even-turned zero at out ready =
        let here : at + 0 * step ≡ at = omega arith in
        record { place = here; inside = omega (arith, ready.here.inside); bytes = refl }
    even-turned (suc n) at out ready =
        let rest : ℕ → Outcome (List Token) = λ a. repeat value n a in
        let first = one-turned at out (first-turnable (value at) rest s out at ready) in
        let after : List ℕ = turned_numbers (numbers_in t) s at out in
        let left = remains-next (repeat value (suc n) at) s out out at (value at) rest after (at + step) (remains-all (repeat value (suc n) at) s out at ready) first in
        let last = remains-last (repeat value (suc n) at) s out after (at + step) (repeat value n (at + step)) _ _ left (even-turned n (at + step) after left.ready) in
        let there : at + suc n * step ≡ at + step + n * step = omega (arith, suc-mul n step) in
        rw there last

    pub even-laid : (n at : ℕ) (out : List ℕ) → 0 < n → Turnable (repeat value n at) s out at → Laid s out at step n
    even-laid n at out some ready = record { some = some; inside = (even-turned n at out ready).inside; room = ready.here.room }

    pub even-done : (n at : ℕ) (out after : List ℕ) → Turnable (repeat value n at) s out at → after ≡ turned_elements (numbers_in t) s step n at out
        → Turned (repeat value n at) s out after (at + n * step)
    even-done n at out after ready e =
        let all = even-turned n at out ready in
        record { place = all.place; inside = all.inside; bytes = e ∙ all.bytes }
