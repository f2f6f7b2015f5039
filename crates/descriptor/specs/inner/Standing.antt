-- A descriptor that stands inside accepted bytes, read by itself with the widest settings: the whole depth left, no array around it,
-- no rows before it, and the end of the bytes as its parent's end.
use Rattle.std.specs.Prelude.{◌≡◌, Bool, true, false, List, ℕ, ◌+◌, ◌<◌, length}
use Rattle.descriptor.specs.Limits.{depth_limit}
use Rattle.descriptor.specs.Header.{body_at}
use Rattle.descriptor.specs.Tree.{Fields, empty, items, pairs, text, dimensions, members, subtype, Tree, node, Forest, nil, count_of, child_count, inside_at}
use Rattle.descriptor.specs.Outcome.{Outcome, refused, read}
use Rattle.descriptor.specs.Check.{members_at, tree_at}
use Rattle.descriptor.specs.inner.Promises.{addressable}
use Rattle.descriptor.specs.declared.inside.Inside.{Inside}

-- the descriptor that stands at p
unfoldable pub standing : List ℕ → ℕ → Outcome Tree
standing s p = tree_at depth_limit s false (length s) p 0

-- k descriptors in a row from p on
unfoldable pub standing_row : List ℕ → ℕ → ℕ → Outcome Forest
standing_row s k p = members_at (λ q m. standing s q) k p 0

-- something was read
unfoldable pub is_read : {A : Type 0} → Outcome A → Bool
is_read (refused number place) = false
is_read (read at x) = true

-- the next byte, 0 where nothing was read
unfoldable pub next_of : {A : Type 0} → Outcome A → ℕ
next_of (refused number place) = 0
next_of (read at x) = at

-- the descriptors that were read, none where they were refused
unfoldable pub forest_of : Outcome Forest → Forest
forest_of (refused number place) = nil
forest_of (read at f) = f

-- the fields of the descriptor that was read, none where it was refused
unfoldable pub fields_of : Outcome Tree → Fields
fields_of (refused number place) = empty
fields_of (read at (node c b f m)) = b

-- where what stands in the body of the descriptor at p starts, after its words: an enumeration's items, or the descriptors inside
unfoldable pub contents_start : ℕ → Fields → ℕ
contents_start p empty = inside_at p empty
contents_start p (items xs) = body_at p + 2
contents_start p (pairs ps) = inside_at p (pairs ps)
contents_start p text = inside_at p text
contents_start p (dimensions k) = inside_at p (dimensions k)
contents_start p (members k) = inside_at p (members k)
contents_start p subtype = inside_at p subtype

-- nothing inside, and nothing counted
abbrev pub leaf_inside : ℕ → Inside
leaf_inside at = record { at = at; count = 0; children = 0 }

-- what an accepted descriptor at p has in its body
unfoldable pub inside_of : List ℕ → ℕ → Inside
inside_of s p =
    record { at = contents_start p (fields_of (standing s p)); count = count_of (fields_of (standing s p)); children = child_count (fields_of (standing s p)) }

-- the same, with the first byte after its fields
unfoldable pub shape_of : List ℕ → ℕ → Inside
shape_of s p = record { at = inside_at p (fields_of (standing s p)); count = count_of (fields_of (standing s p)); children = child_count (fields_of (standing s p)) }

-- a descriptor stands at p
pub record Stands (s : List ℕ) (p : ℕ) : Type 0 where
  pub is : is_read (standing s p) ≡ true
  pub small : length s < addressable
