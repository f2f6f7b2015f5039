-- Where data is refused, apart from the walk: "In data: 20, then piece by piece 21, 22, 23, .. then 25; all size words of an array, or the length word of
-- a string, must be present (21) before 22 is judged; a string's characters are looked for after that (21)." Whole pieces stand up to the place, as
-- values and their bytes; what is wrong with the piece that starts there is said by its bytes. One text for both orders: "its refusals are those of the
-- walk with these words read reversed".
use mathlib.Core.List.{List, ◌++◌, foldr}
use Rattle.std.specs.Prelude.{◌≡◌, ℕ, ◌+◌, ◌*◌, ◌≤◌, ◌<◌, length}
use Rattle.descriptor.specs.Tree.{Name, Pair, Fields, empty, items, pairs, text, dimensions, members, subtype, Tree, node, Forest, nil, cons}
use Rattle.descriptor.specs.Limits.{data_limit, length_limit}
use Rattle.descriptor.specs.Width.{width_of}
use Rattle.flattened.specs.Order.{Order, number_at}
use Rattle.values.specs.Value.{Value, Values, none, also, count, AllBelow, Fits, AllFit, in_order, flatten, flatten_elements, flatten_members, Here}

-- of a cluster's members f the first ones have the values vs, and the next is of the type u
pub data Ahead : Forest → Values → Tree → Type 0 where
  first : {u : Tree} {f : Forest} → Ahead (cons u f) none u
  after : {t u : Tree} {f : Forest} {v : Value} {vs : Values} → Fits t v → Ahead f vs u → Ahead (cons t f) (also v vs) u

-- In a value of the type t that starts at `at`, whole pieces stand up to p, and there a value of the type u is to start.
pub data Due (o : Order) (s : List ℕ) : Tree → ℕ → Tree → ℕ → Type 0 where
  -- at its own start
  start : {t : Tree} {at : ℕ} → Due o s t at t at
  -- in an array: its sizes stand, each below 2^31, and some of its elements, not yet as many as there are to be
  element : {c k at p : ℕ} {e u : Tree} {m : Name} (ns : List ℕ) {vs : Values} → length ns ≡ k → AllBelow length_limit ns → AllFit e vs
      → count vs < foldr ◌*◌ 1 ns → Here s at (in_order o 4 ns ++ flatten_elements o (cons e nil) vs)
      → Due o s e (at + length (in_order o 4 ns ++ flatten_elements o (cons e nil) vs)) u p → Due o s (node c (dimensions k) (cons e nil) m) at u p
  -- in a cluster: the members before it stand
  member : {c k at p : ℕ} {f : Forest} {t u : Tree} {m : Name} {vs : Values} → Ahead f vs t → Here s at (flatten_members o f vs)
      → Due o s t (at + length (flatten_members o f vs)) u p → Due o s (node c (members k) f m) at u p
  -- in a time stamp: document 02, CR 1, "its data is that cluster's data"
  part : {c at p : ℕ} {f : Forest} {t u : Tree} {m : Name} {vs : Values} → Ahead f vs t → Here s at (flatten_members o f vs)
      → Due o s t (at + length (flatten_members o f vs)) u p → Due o s (node c subtype f m) at u p

-- the fields of a type whose value is "one scalar"
pub data Single : Fields → Type 0 where
  plain : Single empty
  enumeration : {xs : List (List ℕ)} → Single (items xs)
  quantity : {ps : List Pair} → Single (pairs ps)

-- the piece that starts at p, of a value of the type u, is refused with this number
pub data Faulty (o : Order) (s : List ℕ) (p : ℕ) : Tree → ℕ → Type 0 where
  -- "21: data ends inside a piece": a scalar; the size words; the length word; the characters, once the length is right
  number_cut : {c : ℕ} {b : Fields} {f : Forest} {m : Name} → Single b → length s < p + width_of c → Faulty o s p (node c b f m) 21
  sizes-cut : {c k : ℕ} {f : Forest} {m : Name} → length s < p + 4 * k → Faulty o s p (node c (dimensions k) f m) 21
  length_cut : {c : ℕ} {f : Forest} {m : Name} → length s < p + 4 → Faulty o s p (node c text f m) 21
  characters-cut : {c : ℕ} {f : Forest} {m : Name} → p + 4 ≤ length s → number_at o s p 4 < length_limit → length s < p + 4 + number_at o s p 4
      → Faulty o s p (node c text f m) 21
  -- "22: a length or size of 2^31 or more", where all the words are there
  size-large : {c k : ℕ} {f : Forest} {m : Name} → p + 4 * k ≤ length s → (i : ℕ) → i < k → length_limit ≤ number_at o s (p + 4 * i) 4
      → Faulty o s p (node c (dimensions k) f m) 22
  length-large : {c : ℕ} {f : Forest} {m : Name} → p + 4 ≤ length s → length_limit ≤ number_at o s p 4 → Faulty o s p (node c text f m) 22
  -- "23: enumeration too high", where the number is whole
  item-high : {c : ℕ} {xs : List (List ℕ)} {f : Forest} {m : Name} → p + width_of c ≤ length s → length xs ≤ number_at o s p (width_of c)
      → Faulty o s p (node c (items xs) f m) 23

-- the bytes s are refused as data of the type t, with this number and place
pub data Refused (o : Order) (t : Tree) (s : List ℕ) : ℕ → ℕ → Type 0 where
  -- "20: data over 65,536 bytes"
  long : data_limit < length s → Refused o t s 20 0
  -- 21 to 23, "piece start"
  piece : {u : Tree} {number place : ℕ} → length s ≤ data_limit → Due o s t 0 u place → Faulty o s place u number → Refused o t s number place
  -- "25: bytes left over", place the "first of them": a whole value stands, and bytes after it
  left : {v : Value} → length s ≤ data_limit → Fits t v → Here s 0 (flatten o t v) → length (flatten o t v) < length s
      → Refused o t s 25 (length (flatten o t v))
