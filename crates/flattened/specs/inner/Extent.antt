-- What a type takes in data where no value of it takes more or less, or only one string does; and how the numbers of a scalar are judged.
use Rattle.std.specs.Prelude.{Bool, true, false, ◌||◌, ℕ, ◌+◌, ltb, length, Option, Some, None, is_some}
use Rattle.descriptor.specs.Tree.{Fields, empty, items, pairs, text, dimensions, members, subtype, Tree, node, Forest, nil, cons}
use Rattle.descriptor.specs.Width.{width_of}
use Rattle.flattened.specs.declared.extent.Extent.{Extent}
use Rattle.flattened.specs.declared.extent.Extent.TheVariants.{Varies, Fixed, Around}

-- whether a type of these fields is one number or flag
unfoldable pub is_scalar : Fields → Bool
is_scalar empty = true
is_scalar (items xs) = true
is_scalar (pairs ps) = true
is_scalar text = false
is_scalar (dimensions k) = false
is_scalar (members k) = false
is_scalar subtype = false

-- "An enumeration's number is below its item count (H)."
unfoldable pub limit_of : Fields → Option ℕ
limit_of empty = None
limit_of (items xs) = Some (length xs)
limit_of (pairs ps) = None
limit_of text = None
limit_of (dimensions k) = None
limit_of (members k) = None
limit_of subtype = None

unfoldable pub type_limit : Tree → Option ℕ
type_limit (node c b f m) = limit_of b

-- whether the number v is below it
unfoldable pub keeps : Option ℕ → ℕ → Bool
keeps None v = true
keeps (Some limit) v = ltb v limit

-- one extent and then another: one string at most
unfoldable pub joint : Extent → Extent → Extent
joint Varies y = Varies
joint (Fixed w k j) Varies = Varies
joint (Fixed w k j) (Fixed v n i) = Fixed (w + v) (k + n) (j || i)
joint (Fixed w k j) (Around b a n i) = Around (w + b) a (k + n) (j || i)
joint (Around b a n i) Varies = Varies
joint (Around b a n i) (Fixed w k j) = Around b (a + w) (n + k) (i || j)
joint (Around b a n i) (Around c e m j) = Varies

-- the bytes that no value takes less than, a string's length word among them
unfoldable pub least : Extent → ℕ
least Varies = 0
least (Fixed w k j) = w
least (Around b a k j) = b + 4 + a

-- and its tokens, no more than those bytes
unfoldable pub tokens_in : Extent → ℕ
tokens_in Varies = 0
tokens_in (Fixed w k j) = k
tokens_in (Around b a k j) = k

-- by a type's code and fields; `inside` is the extent of the descriptors in it
unfoldable pub extent_fields : ℕ → Fields → Extent → Extent
extent_fields c empty inside = Fixed (width_of c) 1 (is_some (limit_of empty))
extent_fields c (items xs) inside = Fixed (width_of c) 1 (is_some (limit_of (items xs)))
extent_fields c (pairs ps) inside = Fixed (width_of c) 1 (is_some (limit_of (pairs ps)))
extent_fields c text inside = Around 0 0 1 false
extent_fields c (dimensions k) inside = Varies
extent_fields c (members k) inside = inside
extent_fields c subtype inside = inside

unfoldable mutual
  pub extent_of : Tree → Extent
  extent_of (node c b f m) = extent_fields c b (extent_all f)

  pub extent_all : Forest → Extent
  extent_all nil = Fixed 0 0 false
  extent_all (cons t f) = joint (extent_of t) (extent_all f)
