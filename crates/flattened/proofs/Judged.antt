-- A scalar is walked by its rule: its number is read in the byte order, and refused where the rule does not keep it.
-- Rests on the definitions of the walk.
use mathlib.Core.Path.{◌≡◌, refl, ap}
use mathlib.Core.Bool.{true, false}
use mathlib.Core.List.{List}
use Prim.Native.Nat.{ℕ, ◌+◌, ◌≤◌, ◌<◌}
use native.Mathlib.Nat.{add-zero}
use native.Mathlib.Omega.{arith}
use borrow.Author.Tests.{le-leb, lt-leb}
use lib.ListN.{length, get_or}
use Rattle.number.specs.Endian.{be, le}
use Rattle.descriptor.specs.Tree.{Fields, empty, items, pairs, text, dimensions, members, subtype}
use Rattle.descriptor.specs.Outcome.{Outcome}
use Rattle.descriptor.specs.Width.{width_of}
use Rattle.flattened.specs.Order.{Order, big, little, number_at}
use Rattle.flattened.specs.Token.{Token, scalar}
use Rattle.flattened.specs.Walk.{single, scalar_at, walk_fields}
use Rattle.flattened.specs.inner.Extent.{is_scalar, limit_of, keeps}
use Rattle.std.specs.Prelude.{Option}

-- one byte is the same number in either order
pub byte-number : (o : Order) (s : List ℕ) (at : ℕ) → number_at o s at 1 ≡ get_or s at 0
unfolding number_at be le
byte-number big s at = let z : get_or s (at + 0) 0 ≡ get_or s at 0 = ap (λ (k : ℕ). get_or s k 0) (add-zero at) in omega arith
byte-number little s at = omega arith

module _ (o : Order) (c : ℕ) (s : List ℕ) (at : ℕ) where
  -- a scalar under a rule
  abbrev pub ruled_at : Option ℕ → Outcome (List Token)
  ruled_at r = scalar_at c s at (keeps r (number_at o s at (width_of c)))

  -- the walk of a scalar
  pub scalar-ruled : (b : Fields) (inside : ℕ → Outcome (List Token)) → is_scalar b ≡ true → walk_fields o c b inside s at ≡ ruled_at (limit_of b)
  unfolding walk_fields limit_of keeps is_scalar
  scalar-ruled empty inside e = refl
  scalar-ruled (items xs) inside e = refl
  scalar-ruled (pairs ps) inside e = refl
  scalar-ruled text inside e = cc
  scalar-ruled (dimensions k) inside e = cc
  scalar-ruled (members k) inside e = cc
  scalar-ruled subtype inside e = cc

  -- where it is cut, where it is refused, and where it is read
  pub ruled-cut : (r : Option ℕ) → length s < at + width_of c → ruled_at r ≡ Outcome.refused 21 at
  unfolding scalar_at
  ruled-cut r h = simp (lt-leb (at + width_of c) (length s) h)

  pub ruled-refused : (r : Option ℕ) → at + width_of c ≤ length s → keeps r (number_at o s at (width_of c)) ≡ false → ruled_at r ≡ Outcome.refused 23 at
  unfolding scalar_at
  ruled-refused r h e = simp (le-leb (at + width_of c) (length s) h, e)

  pub ruled-read : (r : Option ℕ) → at + width_of c ≤ length s → keeps r (number_at o s at (width_of c)) ≡ true
      → ruled_at r ≡ single (scalar c) at (at + width_of c)
  unfolding scalar_at
  ruled-read r h e = simp (le-leb (at + width_of c) (length s) h, e)
