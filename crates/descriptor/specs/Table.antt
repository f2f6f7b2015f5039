-- The descriptor table: "256 rows in order of first byte, and rows not used are zero". The rows are the tree's, parent before child.
use Rattle.std.specs.Prelude.{List, [], ◌∷◌, ◌++◌, ℕ, ◌+◌, ◌-◌, length, replicate}
use Rattle.descriptor.specs.Limits.{row_limit}
use Rattle.descriptor.specs.Tree.{Name, unnamed, named, Tree, node, Forest, nil, cons, count_of, tree_size, inside_at, forest_size}
use Rattle.descriptor.specs.declared.answer.Row.{Row}

-- "name place (0 where there is none) .. The place is that of the first character; for an empty name, the byte after its length byte."
-- A name's length byte stands at `at`.
unfoldable pub place_of_name : ℕ → Name → ℕ
place_of_name at unnamed = 0
place_of_name at (named x) = at + 1

unfoldable pub length_of_name : Name → ℕ
length_of_name unnamed = 0
length_of_name (named x) = length x

-- "A row is: low code byte, start, size, depth, count .., name place .., name length."
unfoldable pub row_of : ℕ → ℕ → Tree → Row
row_of p depth (node c b f m) = record {
  code = c;
  start = p;
  size = tree_size (node c b f m);
  depth = depth;
  count = count_of b;
  name_place = place_of_name (inside_at p b + forest_size f) m;
  name_length = length_of_name m;
}

unfoldable mutual
  -- the rows of the tree that stands at p
  pub rows_of : ℕ → ℕ → Tree → List Row
  rows_of p depth (node c b f m) = row_of p depth (node c b f m) ∷ forest_rows_of (inside_at p b) (depth + 1) f

  -- the rows of descriptors in a row, the first at p
  pub forest_rows_of : ℕ → ℕ → Forest → List Row
  forest_rows_of p depth nil = []
  forest_rows_of p depth (cons t f) = rows_of p depth t ++ forest_rows_of (p + tree_size t) depth f

abbrev pub zero_row : Row
zero_row = record { code = 0; start = 0; size = 0; depth = 0; count = 0; name_place = 0; name_length = 0 }

-- "256 rows in order of first byte, and rows not used are zero"
unfoldable pub table_of : List Row → List Row
table_of rs = rs ++ replicate (row_limit - length rs) zero_row
