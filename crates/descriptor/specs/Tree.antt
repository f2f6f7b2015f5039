-- What a descriptor says, without its places and its reserved bytes: a tree. Sizes and counts are the tree's own.
use Rattle.std.specs.Prelude.{List, [], ◌∷◌, ℕ, suc, ◌+◌, ◌*◌, ◌%◌, max, length}
use Rattle.descriptor.specs.Header.{header_size, body_at}

-- "What is left is either nothing, or one Pascal string": none, or the characters, of which there may be none
pub data Name : Type 0 where
  unnamed : Name
  named : List ℕ → Name

-- "each pair is a 16-bit base index 0 to 8 and a signed 16-bit exponent", the exponent by its bits
pub record Pair : Type 0 where
  pub base : ℕ
  pub exponent : ℕ

-- what a body says before the descriptors that stand in it
pub data Fields : Type 0 where
  -- codes 01 to 0E and 21: "no body"
  empty : Fields
  -- codes 15 to 17: an enumeration's items
  items : List (List ℕ) → Fields
  -- codes 19 to 1E: a physical quantity's unit pairs
  pairs : List Pair → Fields
  -- code 30: a string's length word
  text : Fields
  -- code 40: an array's number of dimensions; its element stands after it
  dimensions : ℕ → Fields
  -- code 50: a cluster's number of members, which stand after it
  members : ℕ → Fields
  -- code 54: a time stamp's subtype word; its one part stands after it
  subtype : Fields

mutual
  -- a descriptor: its low code byte, its fields, the descriptors in it, its name
  pub data Tree : Type 0 where
    node : ℕ → Fields → Forest → Name → Tree

  -- descriptors in a row
  pub data Forest : Type 0 where
    nil : Forest
    cons : Tree → Forest → Forest

-- how many descriptors stand in the body: "one element descriptor", "the member descriptors"
unfoldable pub child_count : Fields → ℕ
child_count empty = 0
child_count (items xs) = 0
child_count (pairs ps) = 0
child_count text = 0
child_count (dimensions d) = 1
child_count (members k) = k
child_count subtype = 1

-- a row's count: "items, pairs, dimensions or members, else 0"
unfoldable pub count_of : Fields → ℕ
count_of empty = 0
count_of (items xs) = length xs
count_of (pairs ps) = length ps
count_of text = 0
count_of (dimensions d) = d
count_of (members k) = k
count_of subtype = 0

-- the bytes of Pascal strings, packed
unfoldable pub items_size : List (List ℕ) → ℕ
items_size [] = 0
items_size (x ∷ xs) = suc (length x) + items_size xs

-- the bytes of a body's fields
unfoldable pub fields_size : Fields → ℕ
fields_size empty = 0
fields_size (items xs) = 2 + (items_size xs + items_size xs % 2)
fields_size (pairs ps) = 2 + 4 * length ps
fields_size text = 4
fields_size (dimensions d) = 2 + 4 * d
fields_size (members k) = 2
fields_size subtype = 2

-- where the descriptors in the body of the descriptor at p start: after its fields
abbrev pub inside_at : ℕ → Fields → ℕ
inside_at p b = body_at p + fields_size b

-- "one Pascal string with one zero byte after it where needed to make the size even"
unfoldable pub name_size : Name → ℕ
name_size unnamed = 0
name_size (named x) = suc (length x) + suc (length x) % 2

unfoldable mutual
  -- "a 16-bit size that counts itself": the two words, the body and the name
  pub tree_size : Tree → ℕ
  tree_size (node c b f m) = header_size + fields_size b + forest_size f + name_size m

  pub forest_size : Forest → ℕ
  forest_size nil = 0
  forest_size (cons t f) = tree_size t + forest_size f

unfoldable pub forest_length : Forest → ℕ
forest_length nil = 0
forest_length (cons t f) = suc (forest_length f)

unfoldable mutual
  -- how many descriptors the tree has, itself included: the rows of its table
  pub row_count : Tree → ℕ
  row_count (node c b f m) = suc (forest_rows f)

  pub forest_rows : Forest → ℕ
  forest_rows nil = 0
  forest_rows (cons t f) = row_count t + forest_rows f

unfoldable mutual
  -- how deep the tree goes, "the top being depth 1"
  pub height : Tree → ℕ
  height (node c b f m) = suc (forest_height f)

  pub forest_height : Forest → ℕ
  forest_height nil = 0
  forest_height (cons t f) = max (height t) (forest_height f)
