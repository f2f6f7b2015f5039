-- The bytes of a tree, from document 01, "How a descriptor is built"; and the trees that are within its limits.
use Rattle.std.specs.Prelude.{◌≡◌, Bool, true, false, ◌&&◌, List, [], ◌∷◌, ◌++◌, ℕ, suc, ◌+◌, ◌*◌, ◌%◌, ◌≤◌, ◌<◌, length, replicate}
use Rattle.number.specs.Endian.{be_bytes}
use Rattle.descriptor.specs.Limits.{descriptor_limit, row_limit, depth_limit, dimension_limit, pair_limit, base_limit, count_limit}
use Rattle.descriptor.specs.Codes.{Kind, plain, enumeration, quantity, string, array, cluster, stamp, kind_of, is_array, is_stamp}
use Rattle.descriptor.specs.Tree.{Name, unnamed, named, Pair, Fields, empty, items, pairs, text, dimensions, members, subtype, Tree, node, Forest, nil, cons, child_count, items_size, tree_size, inside_at, forest_length, row_count, height}
use Rattle.descriptor.specs.Stamp.{stamp_subtype, stamp_inside}

-- "All words are big-endian": a 16-bit word
abbrev pub word : ℕ → List ℕ
word n = be_bytes 2 n

-- a Pascal string: its length in one byte, then its characters
abbrev pub pascal : List ℕ → List ℕ
pascal x = length x ∷ x

-- "that many Pascal strings packed"
unfoldable pub packed : List (List ℕ) → List ℕ
packed [] = []
packed (x ∷ xs) = pascal x ++ packed xs

-- "each pair is a 16-bit base index .. and a signed 16-bit exponent"
unfoldable pub pair_bytes : List Pair → List ℕ
pair_bytes [] = []
pair_bytes (p ∷ ps) = word p.base ++ (word p.exponent ++ pair_bytes ps)

-- "one zero byte" after n bytes where n is odd
abbrev pub fill : ℕ → List ℕ
fill n = replicate (n % 2) 0

-- the bytes of a body before the descriptors that stand in it
unfoldable pub field_bytes : Fields → List ℕ
-- "Codes 01 to 0E and 21: no body."
field_bytes empty = []
-- "15 to 17: a 16-bit item count, that many Pascal strings packed, then one zero byte if the length so far is odd"
field_bytes (items xs) = word (length xs) ++ (packed xs ++ fill (items_size xs))
-- "19 to 1E: a 16-bit pair count; each pair .."
field_bytes (pairs ps) = word (length ps) ++ pair_bytes ps
-- "30: the word FFFFFFFF."
field_bytes text = replicate 4 255
-- "40: a 16-bit dimension count, FFFFFFFF for each dimension, one element descriptor."
field_bytes (dimensions d) = word d ++ replicate (4 * d) 255
-- "50: a 16-bit member count, then the member descriptors."
field_bytes (members k) = word k
-- document 02, CR 1: "subtype word 6"
field_bytes subtype = word stamp_subtype

-- "What is left is either nothing, or one Pascal string with one zero byte after it where needed to make the size even."
unfoldable pub name_bytes : Name → List ℕ
name_bytes unnamed = []
name_bytes (named x) = pascal x ++ fill (suc (length x))

unfoldable mutual
  -- The bytes of the tree that stands at p, where the reserved byte of the descriptor that starts at q is r q:
  -- "A descriptor is a 16-bit size that counts itself, a 16-bit code whose high byte is reserved, a body, then perhaps a name."
  pub encode_with : (ℕ → ℕ) → ℕ → Tree → List ℕ
  encode_with r p (node c b f m) =
      word (tree_size (node c b f m)) ++ (r p ∷ c ∷ (field_bytes b ++ (forest_with r (inside_at p b) f ++ name_bytes m)))

  -- descriptors in a row, the first at p
  pub forest_with : (ℕ → ℕ) → ℕ → Forest → List ℕ
  forest_with r p nil = []
  forest_with r p (cons t f) = encode_with r p t ++ forest_with r (p + tree_size t) f

-- "The normal form is the same descriptor with every reserved byte zero"
abbrev pub encode : Tree → List ℕ
encode t = encode_with (λ _. 0) 0 t

-- d is t's encoding but for the reserved bytes, which may hold anything
pub record Spells (t : Tree) (d : List ℕ) : Type 0 where
  pub reserved : ℕ → ℕ
  pub bytes : d ≡ encode_with reserved 0 t

-- each number of the list is a byte
unfoldable pub Bytes : List ℕ → Type 0
Bytes [] = Unit {0}
Bytes (x ∷ xs) = (x < 256) × Bytes xs

-- a Pascal string's characters: bytes, at most 255 of them
pub record Chars (x : List ℕ) : Type 0 where
  pub bytes : Bytes x
  pub most : length x ≤ 255

unfoldable pub AllChars : List (List ℕ) → Type 0
AllChars [] = Unit {0}
AllChars (x ∷ xs) = Chars x × AllChars xs

-- "a 16-bit base index 0 to 8 and a signed 16-bit exponent"
unfoldable pub AllPairs : List Pair → Type 0
AllPairs [] = Unit {0}
AllPairs (p ∷ ps) = ((p.base ≤ base_limit) × (p.exponent < 65536)) × AllPairs ps

unfoldable pub NameFits : Name → Type 0
NameFits unnamed = Unit {0}
NameFits (named x) = Chars x

-- from 1 to `most`
pub record Counted (k most : ℕ) : Type 0 where
  pub least : 1 ≤ k
  pub within : k ≤ most

-- the fields are those of the code's kind, and each count is within its limits
unfoldable pub FieldsFit : Kind → Fields → Type 0
FieldsFit k empty = k ≡ plain
FieldsFit k (items xs) = (k ≡ enumeration) × (Counted (length xs) count_limit × AllChars xs)
FieldsFit k (pairs ps) = (k ≡ quantity) × (Counted (length ps) pair_limit × AllPairs ps)
FieldsFit k text = k ≡ string
FieldsFit k (dimensions d) = (k ≡ array) × Counted d dimension_limit
FieldsFit k (members j) = (k ≡ cluster) × Counted j count_limit
FieldsFit k subtype = k ≡ stamp

-- a descriptor of these parts is as "How a descriptor is built" has it; `Inside` says so of the descriptors in it
pub record NodeFits (in_array : Bool) (c : ℕ) (b : Fields) (f : Forest) (m : Name) (Inside : Type 0) : Type 0 where
  pub code : c < 256
  -- "The element is not an array."
  pub element : (in_array && is_array (kind_of c)) ≡ false
  pub fields : FieldsFit (kind_of c) b
  pub children : forest_length f ≡ child_count b
  -- document 02, CR 1: "after it stands one unnamed cluster of four unnamed integers, codes 03, 03, 07, 07"
  pub stamped : is_stamp (kind_of c) ≡ true → f ≡ stamp_inside
  pub inside : Inside
  pub name : NameFits m

unfoldable mutual
  -- `in_array` says whether the tree is an array's element
  pub WellFormed : Bool → Tree → Type 0
  WellFormed in_array (node c b f m) = NodeFits in_array c b f m (AllWellFormed (is_array (kind_of c)) f)

  pub AllWellFormed : Bool → Forest → Type 0
  AllWellFormed in_array nil = Unit {0}
  AllWellFormed in_array (cons t f) = WellFormed in_array t × AllWellFormed in_array f

-- "H limits: descriptor 4,096 bytes; 256 rows; depth 8", and those of the parts
pub record WithinLimits (t : Tree) : Type 0 where
  pub formed : WellFormed false t
  pub bytes : tree_size t ≤ descriptor_limit
  pub rows : row_count t ≤ row_limit
  pub depth : height t ≤ depth_limit
