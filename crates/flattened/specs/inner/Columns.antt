-- The judged numbers of a type's values: where each stands, by the extents of what goes before it, and that it keeps its rule. And the
-- elements of an array one after another, by their extent.
use Rattle.std.specs.Prelude.{◌≡◌, Bool, true, List, ℕ, zero, suc, ◌+◌, ◌*◌, ◌≤◌, ◌<◌, length, Option, Some, None}
use Rattle.descriptor.specs.Tree.{Fields, empty, items, pairs, text, dimensions, members, subtype, Tree, node, Forest, nil, cons}
use Rattle.descriptor.specs.Width.{width_of}
use Rattle.flattened.specs.Order.{Order, number_at}
use Rattle.flattened.specs.inner.Extent.{limit_of, keeps, least, tokens_in, extent_of}
use Rattle.flattened.specs.declared.cursor.Cursor.{Cursor}
use Rattle.flattened.specs.declared.extent.Extent.{Extent}
use Rattle.flattened.specs.declared.extent.Extent.TheVariants.{Varies, Fixed, Around}

-- an extent that does not vary, but for one string
unfoldable pub Definite : Extent → Type 0
Definite Varies = ⊥
Definite (Fixed w k j) = Unit {0}
Definite (Around b a k j) = Unit {0}

-- whether any number in it is judged
unfoldable pub judged_in : Extent → Bool
judged_in Varies = true
judged_in (Fixed w k j) = j
judged_in (Around b a k j) = j

-- no more bytes and tokens than the descriptors before p say
pub record Ahead (x : Extent) (p : ℕ) : Type 0 where
  pub bytes : least x ≤ 8 * p
  pub tokens : tokens_in x ≤ 8 * p

-- where the cursor arrives, if it does not leave the data
unfoldable pub ArrivesAt : List ℕ → ℕ → Option Cursor → Type 0
ArrivesAt s q None = Unit {0}
ArrivesAt s q (Some c) = (c.at ≡ q) × (c.at ≤ length s)

module _ (o : Order) (s : List ℕ) where
  -- the place past a value of the extent at `at`
  unfoldable pub beyond : Extent → ℕ → ℕ
  beyond Varies at = at
  beyond (Fixed w k j) at = at + w
  beyond (Around b a k j) at = at + b + 4 + number_at o s (at + b) 4 + a

  -- the cursor past so many bytes, a string and so many bytes
  abbrev pub Across : ℕ → ℕ → ℕ → Option Cursor → Type 0
  Across before after at r = ArrivesAt s (at + before + 4 + number_at o s (at + before) 4 + after) r

  -- the place of the i-th value of the extent in a row, the first at `at`
  unfoldable pub place_of : Extent → ℕ → ℕ → ℕ
  place_of x at zero = at
  place_of x at (suc i) = beyond x (place_of x at i)

  -- a scalar's number keeps its rule; `inside` says so of the descriptors in a cluster
  unfoldable pub KeptFields : ℕ → Fields → ℕ → Type 0 → Type 0
  KeptFields c empty at inside = keeps (limit_of empty) (number_at o s at (width_of c)) ≡ true
  KeptFields c (items xs) at inside = keeps (limit_of (items xs)) (number_at o s at (width_of c)) ≡ true
  KeptFields c (pairs ps) at inside = keeps (limit_of (pairs ps)) (number_at o s at (width_of c)) ≡ true
  KeptFields c text at inside = Unit {0}
  KeptFields c (dimensions k) at inside = Unit {0}
  KeptFields c (members k) at inside = inside
  KeptFields c subtype at inside = inside

  unfoldable mutual
    -- each judged number of the type's value at `at` keeps its rule
    pub Kept : Tree → ℕ → Type 0
    Kept (node c b f m) at = KeptFields c b at (KeptAll f at)

    -- of the values of types in a row
    pub KeptAll : Forest → ℕ → Type 0
    KeptAll nil at = Unit {0}
    KeptAll (cons t f) at = Kept t at × KeptAll f (beyond (extent_of t) at)

  -- in each of n elements of the extent `whole`, the first at `at`: the number of w bytes past `front` is below a limit
  abbrev pub EachBelow : Extent → Extent → ℕ → ℕ → ℕ → ℕ → Type 0
  EachBelow front whole at w limit n = (i : ℕ) → i < n → number_at o s (beyond front (place_of whole at i)) w < limit

  -- the type's value past `front` keeps its rules
  abbrev pub EachKept : Tree → Extent → Extent → ℕ → ℕ → Type 0
  EachKept t front whole at n = (i : ℕ) → i < n → Kept t (beyond front (place_of whole at i))

  -- and so do the values of types in a row
  abbrev pub EachKeptAll : Forest → Extent → Extent → ℕ → ℕ → Type 0
  EachKeptAll f front whole at n = (i : ℕ) → i < n → KeptAll f (beyond front (place_of whole at i))

  -- the element itself does
  abbrev pub EachKeptHere : Tree → Extent → ℕ → ℕ → Type 0
  EachKeptHere t whole at n = (i : ℕ) → i < n → Kept t (place_of whole at i)
