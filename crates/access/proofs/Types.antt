-- The types that a step meets: with more of the depth left, and the one type inside an array. Rests on what types are made of.
use mathlib.Core.Path.{◌≡◌, ap, ◌∙◌}
use mathlib.Core.List.{List}
use Prim.Native.Nat.{ℕ, ◌+◌, ◌≤◌}
use native.Mathlib.Omega.{arith}
use Rattle.descriptor.specs.Header.{size_in}
use Rattle.descriptor.specs.Limits.{depth_limit}
use Rattle.descriptor.specs.Tree.{Forest, nil, cons}
use Rattle.descriptor.specs.inner.Standing.{forest_of}
use Rattle.descriptor.proofs.Standing.{row-none}
use Rattle.flattened.specs.inner.Types.{type_at, types_at, TypeStands, RowStands}
use Rattle.flattened.proofs.Types.{row-turn}

-- a type goes no deeper than the limit
pub deeper : {d : List ℕ} {p left : ℕ} → TypeStands d p left → left ≤ depth_limit → TypeStands d p depth_limit
deeper type h = record { here = type.here; low = omega (arith, type.low) }

-- no types
pub no-types : (d : List ℕ) (p : ℕ) → types_at d 0 p ≡ nil
unfolding forest_of
no-types d p = ap forest_of (row-none d p)

-- one type in a row
pub only-type : (d : List ℕ) (p left : ℕ) → RowStands d 1 p left → TypeStands d p left × (types_at d 1 p ≡ cons (type_at d p) nil)
only-type d p left row =
    let turn = row-turn d 0 p left row in
    (turn.first, turn.types ∙ ap (λ (f : Forest). cons (type_at d p) f) (no-types d (p + size_in d p)))
