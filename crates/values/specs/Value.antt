-- What data is, from document 01, "How data is walked", apart from the walk: values, which of them a type has, and their bytes.
use Rattle.std.specs.Prelude.{◌≡◌, ℕ, suc, ◌+◌, ◌*◌, ◌^◌, ◌≤◌, ◌<◌, length}
use mathlib.Core.List.{List, [], ◌∷◌, ◌++◌, foldr}
use Rattle.std.proofs.Math.Seq.{slice}
use Rattle.number.specs.Endian.{be_bytes, le_bytes}
use Rattle.descriptor.specs.Tree.{Name, Pair, empty, items, pairs, text, dimensions, members, subtype, Tree, node, Forest, nil, cons}
use Rattle.descriptor.specs.Limits.{length_limit}
use Rattle.descriptor.specs.Encoding.{Bytes}
use Rattle.flattened.specs.Order.{Order, big, little}
use Rattle.byte_order.specs.Reversal.{number_count, number_width}

mutual
  pub data Value : Type 0 where
    -- a scalar: its number, or the two halves of a complex number, in their order
    numbers : List ℕ → Value
    -- a string's characters
    characters : List ℕ → Value
    -- an array's sizes, one for each dimension, and its elements, "last dimension fastest"
    elements : List ℕ → Values → Value
    -- a cluster's members, or a time stamp's one part
    parts : Values → Value

  -- values in a row
  pub data Values : Type 0 where
    none : Values
    also : Value → Values → Values

-- how many values stand in a row
unfoldable pub count : Values → ℕ
count none = 0
count (also v vs) = suc (count vs)

-- each number of the list is below the limit
unfoldable pub AllBelow : ℕ → List ℕ → Type 0
AllBelow limit [] = Unit {0}
AllBelow limit (n ∷ ns) = (n < limit) × AllBelow limit ns

-- the numbers of a scalar of the code c: any that their bytes can say, a Boolean's too (document 02, CR 2)
pub record Scalar (c : ℕ) (ns : List ℕ) : Type 0 where
  pub many : length ns ≡ number_count c
  pub below : AllBelow (256 ^ number_width c) ns

mutual
  -- v is a value of the type t
  pub data Fits : Tree → Value → Type 0 where
    -- codes 01 to 0E and 21
    plain : {c : ℕ} {f : Forest} {m : Name} {ns : List ℕ} → Scalar c ns → Fits (node c empty f m) (numbers ns)
    -- "An enumeration's number is below its item count (H)."
    enumeration : {c : ℕ} {xs : List (List ℕ)} {f : Forest} {m : Name} {n : ℕ} → Scalar c (n ∷ []) → n < length xs
        → Fits (node c (items xs) f m) (numbers (n ∷ []))
    -- codes 19 to 1E
    quantity : {c : ℕ} {ps : List Pair} {f : Forest} {m : Name} {ns : List ℕ} → Scalar c ns → Fits (node c (pairs ps) f m) (numbers ns)
    -- "A string is a 32-bit length and its characters. .. Lengths and sizes are below 2^31."
    string : {c : ℕ} {f : Forest} {m : Name} {x : List ℕ} → Bytes x → length x < length_limit → Fits (node c text f m) (characters x)
    -- "An array is one 32-bit size for each dimension, then the elements": as many as the product of the sizes
    array : {c k : ℕ} {e : Tree} {m : Name} {ns : List ℕ} {vs : Values} → length ns ≡ k → AllBelow length_limit ns → count vs ≡ foldr ◌*◌ 1 ns
        → AllFit e vs → Fits (node c (dimensions k) (cons e nil) m) (elements ns vs)
    -- "A cluster is its members in order."
    cluster : {c k : ℕ} {f : Forest} {m : Name} {vs : Values} → EachFits f vs → Fits (node c (members k) f m) (parts vs)
    -- document 02, CR 1: "Its one part .. is that cluster, and its data is that cluster's data."
    stamp : {c : ℕ} {f : Forest} {m : Name} {vs : Values} → EachFits f vs → Fits (node c subtype f m) (parts vs)

  -- every value in the row is of the one type: an array's elements
  pub data AllFit : Tree → Values → Type 0 where
    without : {e : Tree} → AllFit e none
    element : {e : Tree} {v : Value} {vs : Values} → Fits e v → AllFit e vs → AllFit e (also v vs)

  -- each value in the row is of the type at its place: a cluster's members
  pub data EachFits : Forest → Values → Type 0 where
    done : EachFits nil none
    member : {t : Tree} {f : Forest} {v : Value} {vs : Values} → Fits t v → EachFits f vs → EachFits (cons t f) (also v vs)

-- the other of the two orders
unfoldable pub other : Order → Order
other big = little
other little = big

-- "All big-endian", or "with the bytes of each number reversed in place": a number of w bytes
unfoldable pub ordered : Order → ℕ → ℕ → List ℕ
ordered big w n = be_bytes w n
ordered little w n = le_bytes w n

-- numbers of w bytes each, one after the other
unfoldable pub in_order : Order → ℕ → List ℕ → List ℕ
in_order o w [] = []
in_order o w (n ∷ ns) = ordered o w n ++ in_order o w ns

unfoldable mutual
  -- the bytes of a value of the type t
  pub flatten : Order → Tree → Value → List ℕ
  -- "each integer, enumeration, real number, half of a complex number"
  flatten o (node c b f m) (numbers ns) = in_order o (number_width c) ns
  -- "A string is a 32-bit length and its characters."
  flatten o t (characters x) = ordered o 4 (length x) ++ x
  -- "An array is one 32-bit size for each dimension, then the elements, last dimension fastest."
  flatten o (node c b f m) (elements ns vs) = in_order o 4 ns ++ flatten_elements o f vs
  -- "A cluster is its members in order."
  flatten o (node c b f m) (parts vs) = flatten_members o f vs

  -- the elements of an array, whose one type is the first of the row
  pub flatten_elements : Order → Forest → Values → List ℕ
  flatten_elements o f none = []
  flatten_elements o nil (also v vs) = []
  flatten_elements o (cons e f) (also v vs) = flatten o e v ++ flatten_elements o (cons e f) vs

  -- the members of a cluster
  pub flatten_members : Order → Forest → Values → List ℕ
  flatten_members o f none = []
  flatten_members o nil (also v vs) = []
  flatten_members o (cons t f) (also v vs) = flatten o t v ++ flatten_members o f vs

-- x stands in s from p on
pub record Here (s : List ℕ) (p : ℕ) (x : List ℕ) : Type 0 where
  pub within : p + length x ≤ length s
  pub bytes : slice p (p + length x) s ≡ x

-- s is data of the type t in the order o: a value's bytes
pub record Data (o : Order) (t : Tree) (s : List ℕ) : Type 0 where
  pub value : Value
  pub fits : Fits t value
  pub bytes : s ≡ flatten o t value
