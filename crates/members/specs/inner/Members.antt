-- The descriptors that stand in a row, by number: where each stands, and where its name does; and the columns in which the code keeps these.
use Rattle.std.specs.Prelude.{◌≡◌, List, ℕ, zero, suc, ◌+◌, ◌≤◌, ◌<◌, length, get_or}
use Rattle.descriptor.specs.Limits.{descriptor_limit, row_limit, depth_limit}
use Rattle.descriptor.specs.Header.{size_in}
use Rattle.descriptor.specs.Tree.{Tree}
use Rattle.descriptor.specs.Table.{row_of}
use Rattle.descriptor.specs.inner.Standing.{inside_of, Stands}
use Rattle.descriptor.specs.declared.answer.Row.{Row}
use Rattle.flattened.specs.inner.Types.{type_at, RowStands}

-- a descriptor stands at p, in bytes that are no longer than is carried
pub record Inner (d : List ℕ) (p : ℕ) : Type 0 where
  pub here : Stands d p
  pub short : length d ≤ descriptor_limit

-- k descriptors stand in a row from p on, no more than a table has rows, in bytes that are no longer than is carried
pub record Members (d : List ℕ) (k p : ℕ) : Type 0 where
  pub row : RowStands d k p depth_limit
  pub few : k ≤ row_limit
  pub short : length d ≤ descriptor_limit

-- where the members of a descriptor that is a cluster start
abbrev pub top_at : List ℕ → ℕ
top_at d = (inside_of d 0).at

-- how many members it has then
abbrev pub top_count : List ℕ → ℕ
top_count d = (inside_of d 0).children

-- where descriptor i of those that stand in a row from p on stands
unfoldable pub place_from : List ℕ → ℕ → ℕ → ℕ
place_from d p zero = p
place_from d p (suc i) = place_from d p i + size_in d (place_from d p i)

-- its type
abbrev pub type_from : List ℕ → ℕ → ℕ → Tree
type_from d p i = type_at d (place_from d p i)

-- its row, that of a member
abbrev pub row_from : List ℕ → ℕ → ℕ → Row
row_from d p i = row_of (place_from d p i) 2 (type_from d p i)

-- the place of its name, 0 where it has none
unfoldable pub name_from : List ℕ → ℕ → ℕ → ℕ
name_from d p i = (row_from d p i).name_place

-- the first k entries of the column are f's
pub record Column (f : ℕ → ℕ) (k : ℕ) (column : List ℕ) : Type 0 where
  pub at : (i : ℕ) → i < k → get_or column i 0 ≡ f i

-- d is a cluster of k members, and the columns have their places and their names'
pub record Listed (d : List ℕ) (k : ℕ) (places names : List ℕ) : Type 0 where
  pub members : Members d k (top_at d)
  pub standing : Column (place_from d (top_at d)) k places
  pub naming : Column (name_from d (top_at d)) k names
