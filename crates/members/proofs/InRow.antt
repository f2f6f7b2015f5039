-- Descriptors that stand in a row, by number. Rests on flattened's laws of types in a row.
use mathlib.Core.Path.{◌≡◌, sym, ap, subst, ◌∙◌}
use mathlib.Core.List.{List}
use Prim.Native.Nat.{ℕ, zero, suc, ◌+◌, ◌-◌, ◌≤◌, ◌<◌}
use native.Mathlib.Nat.{sub-zero}
use native.Mathlib.Numerals.{add-one}
use native.Mathlib.Omega.{arith}
use Rattle.descriptor.specs.Header.{size_in}
use Rattle.descriptor.specs.Tree.{nil, cons, forest_size, tree_size}
use Rattle.descriptor.specs.inner.Standing.{standing_row, next_of, forest_of}
use Rattle.descriptor.proofs.Bodies.{header-room}
use Rattle.descriptor.proofs.Standing.{row-none, row_ends}
use Rattle.flattened.specs.inner.Types.{types_at, RowStands}
use Rattle.flattened.proofs.Types.{row_read-is, RowTurn, row-turn}
use Rattle.members.specs.inner.Members.{place_from, type_from}

-- where they end: their sizes after the first's start
pub row_next : (d : List ℕ) (k p left : ℕ) → RowStands d k p left → next_of (standing_row d k p) ≡ p + forest_size (types_at d k p)
row_next d k p left row = (row_ends d k p _ _ row.from (row_read-is (standing_row d k p) row.are)).0.at

-- none
pub no-types : (d : List ℕ) (k p : ℕ) → k ≡ 0 → types_at d k p ≡ nil
unfolding forest_of
no-types d k p e = ap (λ (n : ℕ). types_at d n p) e ∙ ap forest_of (row-none d p)

-- the next one stands after this one
pub place-more : (d : List ℕ) (p i : ℕ) → place_from d p (i + 1) ≡ place_from d p i + size_in d (place_from d p i)
unfolding place_from
place-more d p i = ap (place_from d p) (add-one i)

module _ (d : List ℕ) (k p left : ℕ) (row : RowStands d k p left) where
  -- descriptor i of the k, and those after it
  pub row_at : (i : ℕ) → i ≤ k → RowStands d (k - i) (place_from d p i) left
  unfolding place_from
  row_at zero h = subst (λ (n : ℕ). RowStands d n p left) (sym (sub-zero k)) row
  row_at (suc i) h =
      (row-turn d (k - suc i) (place_from d p i) left
      (subst (λ (n : ℕ). RowStands d n (place_from d p i) left) (let e : k - i ≡ suc (k - suc i) = omega arith in e) (row_at i (omega arith)))).rest

  module _ (i : ℕ) (more : i < k) where
    one_less : k - i ≡ suc (k - (i + 1))
    one_less = omega arith

    pub turn_at : RowTurn d (k - (i + 1)) (place_from d p i) left
    turn_at = row-turn d (k - (i + 1)) (place_from d p i) left (subst (λ (n : ℕ). RowStands d n (place_from d p i) left) one_less (row_at i (omega arith)))

    -- the first of those from i on, and the others
    pub types-at : types_at d (k - i) (place_from d p i) ≡ cons (type_from d p i) (types_at d (k - (i + 1)) (place_from d p (i + 1)))
    types-at =
        ap (λ (n : ℕ). types_at d n (place_from d p i)) one_less
        ∙ turn_at.types
        ∙ ap (λ (q : ℕ). cons (type_from d p i) (types_at d (k - (i + 1)) q)) (sym (place-more d p i))

  -- the sizes of those from i on are left
  sizes-left : (i : ℕ) → i ≤ k → p + forest_size (types_at d k p) ≡ place_from d p i + forest_size (types_at d (k - i) (place_from d p i))
  unfolding place_from forest_size
  sizes-left zero h = ap (λ (n : ℕ). p + forest_size (types_at d n p)) (sym (sub-zero k))
  sizes-left (suc i) h =
      let q : ℕ = place_from d p i + size_in d (place_from d p i) in
      let turn = turn_at i (omega arith) in
      let types : forest_size (types_at d (k - i) (place_from d p i)) ≡ tree_size (type_from d p i) + forest_size (types_at d (k - (i + 1)) q) =
      ap forest_size (ap (λ (n : ℕ). types_at d n (place_from d p i)) (one_less i (omega arith)) ∙ turn.types) in
      let others : forest_size (types_at d (k - (i + 1)) q) ≡ forest_size (types_at d (k - suc i) q) =
      ap (λ (n : ℕ). forest_size (types_at d n q)) (let e : k - (i + 1) ≡ k - suc i = omega arith in e) in
      omega (arith, sizes-left i (omega arith), types, others, turn.size)

  -- they end after the last of them
  pub row_last : next_of (standing_row d k p) ≡ place_from d p k
  unfolding forest_size
  row_last =
      let none : forest_size (types_at d (k - k) (place_from d p k)) ≡ 0 = ap forest_size (no-types d (k - k) (place_from d p k) (omega arith)) in
      omega (arith, row_next d k p left row, sizes-left k (omega arith), none)

-- what the end of a row finds its answers with
pub ruleset row_laws = (header-room, turn_at, place-more, row_last)
