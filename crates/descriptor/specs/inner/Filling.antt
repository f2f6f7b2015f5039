-- How the table of accepted bytes is filled: what the filling needs, and what the table is then.
use Rattle.std.specs.Prelude.{◌≡◌, true, cond, List, ℕ, ◌+◌, ◌-◌, ◌^◌, ◌≤◌, ◌<◌, length, get_or, replicate, eqb}
use Rattle.std.proofs.lemmas.List.Edits.{sets}
use Rattle.descriptor.specs.Limits.{row_limit, depth_limit, count_limit}
use Rattle.descriptor.specs.Tree.{Forest, forest_height, forest_rows}
use Rattle.descriptor.specs.Table.{forest_rows_of, zero_row}
use Rattle.descriptor.specs.inner.Standing.{standing_row, is_read, next_of, forest_of}
use Rattle.descriptor.specs.declared.answer.Row.{Row}

-- the row of a descriptor by its header, its count, and where what is left for a name starts
unfoldable pub row_read : List ℕ → ℕ → ℕ → ℕ → ℕ → ℕ → ℕ → Row
row_read s depth p code size count at = record {
  code = code;
  start = p;
  size = size;
  depth = depth;
  count = count;
  name_place = cond (eqb at (p + size)) 0 (at + 1);
  name_length = cond (eqb at (p + size)) 0 (get_or s at 0);
}

-- every number of the row fits its field of 16 bits
pub record RowPre (s : List ℕ) (depth p size count at : ℕ) : Type 0 where
  pub inside : p + size ≤ length s
  pub small : length s < 2 ^ 16
  pub name : at ≤ p + size
  pub shallow : depth ≤ depth_limit
  pub counted : count ≤ count_limit

-- the table so far: its rows, how many are filled, and where the next descriptor stands
pub record Table : Type 0 where
  pub rows : List Row
  pub n : ℕ
  pub at : ℕ

-- a zero row repeated
unfoldable pub zero_rows : List Row
zero_rows = replicate row_limit zero_row

-- rows of which none is filled yet, at the first byte
abbrev pub unfilled : List Row → Table
unfilled rows = record { rows = rows; n = 0; at = 0 }

-- the zero table so
abbrev pub empty_table : Table
empty_table = unfilled zero_rows

-- the k descriptors that stand where the table goes on
abbrev pub ahead : List ℕ → ℕ → Table → Forest
ahead s k t = forest_of (standing_row s k t.at)

-- k descriptors stand there, and the table has room for their rows
pub record TablePre (s : List ℕ) (left k : ℕ) (t : Table) : Type 0 where
  pub stands : is_read (standing_row s k t.at) ≡ true
  pub from : t.at ≤ length s
  pub small : length s < 2 ^ 16
  pub deep : left ≤ depth_limit
  pub low : forest_height (ahead s k t) ≤ left
  pub room : t.n + forest_rows (ahead s k t) ≤ row_limit

-- the table with their rows after those before
unfoldable pub filled : List ℕ → ℕ → ℕ → Table → Table
filled s left k t = record {
  rows = sets t.rows t.n (forest_rows_of t.at (depth_limit + 1 - left) (ahead s k t));
  n = t.n + forest_rows (ahead s k t);
  at = next_of (standing_row s k t.at);
}
