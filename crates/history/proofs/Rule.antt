-- Document 02, CR 4, "Bodies follow the contents with no gap": what that rule comes to. All else about the places of bodies rests on these laws of it.
-- The public entries are all four. Rests on the definition alone.
use mathlib.Core.Path.{◌≡◌, refl}
use mathlib.Core.Bool.{true}
use Prim.Native.Nat.{ℕ, ◌≤◌}
use native.Mathlib.Omega.{arith}
use borrow.Author.Tests.{eqb-true, eq-eqb}
use Rattle.store.specs.Layout.{follows}

-- a body may start where the one before it ended
pub follows-self : (at : ℕ) → follows at at ≡ true
follows-self at = eq-eqb at at refl

-- and none starts before that
pub follows-le : (at start : ℕ) → follows at start ≡ true → at ≤ start
follows-le at start e = let same : at ≡ start = eqb-true at start e in omega arith

-- none starts after it either
pub follows_is : (at start : ℕ) → follows at start ≡ true → at ≡ start
follows_is at start e = eqb-true at start e
