-- The numbers of types whose values all take the same bytes, in the order in which they stand; and those of an array's elements, turned
-- element by element or column by column: the numbers at one place of every element, then those at the next.
use Rattle.std.specs.Prelude.{◌≡◌, Bool, cond, List, [], ◌∷◌, ◌++◌, ℕ, zero, suc, ◌+◌, ◌*◌, ◌<◌, ◌≤◌, eqb, length}
use Rattle.descriptor.specs.Tree.{Fields, empty, items, pairs, text, dimensions, members, subtype, Tree, node, Forest, nil, cons}
use Rattle.flattened.specs.inner.Extent.{extent_of}
use Rattle.flattened.specs.declared.extent.Extent.TheVariants.{Fixed}
use Rattle.columns.specs.declared.even.Common.{Common}
use Rattle.columns.specs.declared.even.Common.TheVariants.{Free, Width, Mixed}
use Rattle.byte_order.specs.Reversal.{number_count, number_width}
use Rattle.byte_order.specs.inner.Turning.{turned_at}

-- k numbers of w bytes
unfoldable pub copies : ℕ → ℕ → List ℕ
copies zero w = []
copies (suc k) w = w ∷ copies k w

-- the widths of a type's numbers, by its code and fields; `inside` are those of the descriptors in it
unfoldable pub numbers_fields : ℕ → Fields → List ℕ → List ℕ
numbers_fields c empty inside = copies (number_count c) (number_width c)
numbers_fields c (items xs) inside = copies (number_count c) (number_width c)
numbers_fields c (pairs ps) inside = copies (number_count c) (number_width c)
numbers_fields c text inside = []
numbers_fields c (dimensions k) inside = []
numbers_fields c (members k) inside = inside
numbers_fields c subtype inside = inside

unfoldable mutual
  pub numbers_in : Tree → List ℕ
  numbers_in (node c b f m) = numbers_fields c b (numbers_all f)

  pub numbers_all : Forest → List ℕ
  numbers_all nil = []
  numbers_all (cons t f) = numbers_in t ++ numbers_all f

-- the bytes that they take
unfoldable pub total : List ℕ → ℕ
total [] = 0
total (w ∷ ws) = w + total ws

-- the width of numbers of the width `before` and one of w bytes
abbrev pub joined_width : Common → ℕ → Common
joined_width Free w = Width w
joined_width (Width v) w = cond (eqb v w) (Width w) Mixed
joined_width Mixed w = Mixed

-- the width that all of them have in common, after others of the width `before`
unfoldable pub common_width : Common → List ℕ → Common
common_width before [] = before
common_width before (w ∷ ws) = common_width (joined_width before w) ws

-- numbers of these widths, the first at `at`
unfoldable pub turned_numbers : List ℕ → List ℕ → ℕ → List ℕ → List ℕ
turned_numbers [] s at out = out
turned_numbers (w ∷ ws) s at out = turned_numbers ws s (at + w) (turned_at w s at out)

-- n elements of such numbers, each `step` bytes past the one before
unfoldable pub turned_elements : List ℕ → List ℕ → ℕ → ℕ → ℕ → List ℕ → List ℕ
turned_elements ws s step zero at out = out
turned_elements ws s step (suc n) at out = turned_elements ws s step n (at + step) (turned_numbers ws s at out)

-- n numbers of w bytes each, each `step` bytes past the one before
unfoldable pub turned_column : ℕ → List ℕ → ℕ → ℕ → ℕ → List ℕ → List ℕ
turned_column w s step zero at out = out
turned_column w s step (suc n) at out = turned_column w s step n (at + step) (turned_at w s at out)

-- n elements, column by column
unfoldable pub turned_columns : List ℕ → List ℕ → ℕ → ℕ → ℕ → List ℕ → List ℕ
turned_columns [] s step n at out = out
turned_columns (w ∷ ws) s step n at out = turned_columns ws s step n (at + w) (turned_column w s step n at out)

-- the data goes on up to `stop`, and n - 1 times `step` bytes further; the output has room for all of it
pub record Spread (s out : List ℕ) (stop step n : ℕ) : Type 0 where
  pub inside : stop + n * step ≤ length s + step
  pub near : step ≤ length s
  pub room : length s ≤ length out

-- n elements of `step` bytes each, at least one, from `from` on; the output has room for all of the data
pub record Laid (s out : List ℕ) (from step n : ℕ) : Type 0 where
  pub some : 0 < n
  pub inside : from + n * step ≤ length s
  pub room : length s ≤ length out

-- every value of the type takes w bytes
pub record Even (t : Tree) (w : ℕ) : Type 0 where
  pub tokens : ℕ
  pub judged : Bool
  pub is : Fixed w tokens judged ≡ extent_of t

-- each of n values of the type takes `step` bytes, and there is at least one
pub record Stepped (t : Tree) (n step : ℕ) : Type 0 where
  pub even : Even t step
  pub some : 0 < n

-- columns are turned, and the next one starts at `next`
pub record ColumnsTurned (ws s : List ℕ) (step n at : ℕ) (before after : List ℕ) (next : ℕ) : Type 0 where
  pub place : next ≡ at + total ws
  pub bytes : after ≡ turned_columns ws s step n at before
