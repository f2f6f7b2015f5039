-- A tree has as many rows as descriptors. Rests on the definitions of the table alone.
use mathlib.Core.Path.{◌≡◌, refl, ap, ap₂, ◌∙◌}
use Prim.Native.Nat.{ℕ, suc, ◌+◌}
use lib.ListN.{length, length-append}
use Rattle.descriptor.specs.Tree.{Tree, node, Forest, nil, cons, tree_size, inside_at, row_count, forest_rows}
use Rattle.descriptor.specs.Table.{rows_of, forest_rows_of}

mutual
  unfolding rows_of row_count

  -- a tree
  pub rows-length : (t : Tree) (p depth : ℕ) → length (rows_of p depth t) ≡ row_count t
  rows-length (node c b f m) p depth = ap suc (forest-rows-length f (inside_at p b) (depth + 1))

  -- descriptors in a row
  pub forest-rows-length : (f : Forest) (p depth : ℕ) → length (forest_rows_of p depth f) ≡ forest_rows f
  forest-rows-length nil p depth = refl
  forest-rows-length (cons t f) p depth =
      length-append (rows_of p depth t) (forest_rows_of (p + tree_size t) depth f)
      ∙ ap₂ (λ (i j : ℕ). i + j) (rows-length t p depth) (forest-rows-length f (p + tree_size t) depth)
