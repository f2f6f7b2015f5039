-- The types that stand in an accepted descriptor's bytes, which the walk goes by, and what it needs of them and of the data.
-- "Every type needs at least one byte, so the walk ends."
use Rattle.std.specs.Prelude.{◌≡◌, true, List, ℕ, ◌≤◌, ◌<◌, length}
use Rattle.descriptor.specs.Limits.{data_limit}
use Rattle.descriptor.specs.Codes.{Kind}
use Rattle.descriptor.specs.Codes as codes
use Rattle.descriptor.specs.Outcome.{Outcome, refused, read}
use Rattle.descriptor.specs.inner.Promises.{addressable}
use Rattle.descriptor.specs.inner.Standing.{standing, standing_row, is_read, forest_of, Stands}
use Rattle.descriptor.specs.Tree.{unnamed, Fields, empty, items, pairs, text, dimensions, members, subtype, Tree, node, Forest, nil, cons, forest_length, height, forest_height}
use Rattle.descriptor.specs.Width.{width_of}

-- the descriptor that was read
unfoldable pub type_of : Outcome Tree → Tree
type_of (refused number place) = node 0 empty nil unnamed
type_of (read at t) = t

-- the type that stands at p
abbrev pub type_at : List ℕ → ℕ → Tree
type_at d p = type_of (standing d p)

-- the k types that stand in a row from p on
abbrev pub types_at : List ℕ → ℕ → ℕ → Forest
types_at d k p = forest_of (standing_row d k p)

-- a type stands at p, and goes no deeper than `left`
pub record TypeStands (d : List ℕ) (p left : ℕ) : Type 0 where
  pub here : Stands d p
  pub low : height (type_at d p) ≤ left

-- k types stand in a row from p on, and go no deeper than `left`
pub record RowStands (d : List ℕ) (k p left : ℕ) : Type 0 where
  pub are : is_read (standing_row d k p) ≡ true
  pub from : p ≤ length d
  pub small : length d < addressable
  pub low : forest_height (types_at d k p) ≤ left

-- the data is of a length that is carried, and `at` lies in it
pub record DataAt (s : List ℕ) (at : ℕ) : Type 0 where
  pub inside : at ≤ length s
  pub short : length s ≤ data_limit

-- the kind of code that has these fields
unfoldable pub fields_kind : Fields → Kind
fields_kind empty = codes.plain
fields_kind (items xs) = codes.enumeration
fields_kind (pairs ps) = codes.quantity
fields_kind text = codes.string
fields_kind (dimensions k) = codes.array
fields_kind (members k) = codes.cluster
fields_kind subtype = codes.stamp

-- a scalar has a width, an array dimensions and an element, a cluster members, a time stamp its part: every token takes at least one byte
unfoldable pub SolidFields : ℕ → Fields → Forest → Type 0
SolidFields c empty f = 0 < width_of c
SolidFields c (items xs) f = 0 < width_of c
SolidFields c (pairs ps) f = 0 < width_of c
SolidFields c text f = Unit {0}
SolidFields c (dimensions k) f = (1 ≤ k) × (1 ≤ forest_length f)
SolidFields c (members k) f = 1 ≤ forest_length f
SolidFields c subtype f = 1 ≤ forest_length f

unfoldable mutual
  pub Solid : Tree → Type 0
  Solid (node c b f m) = SolidFields c b f × AllSolid f

  pub AllSolid : Forest → Type 0
  AllSolid nil = Unit {0}
  AllSolid (cons t f) = Solid t × AllSolid f
