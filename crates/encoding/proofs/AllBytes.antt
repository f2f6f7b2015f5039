-- The encoding of a well-formed tree consists of bytes. Rests on the laws of lists of bytes.
use mathlib.Core.Bool.{Bool, false}
use mathlib.Core.List.{List, [], ◌∷◌, ◌++◌}
use Prim.Native.Nat.{ℕ, suc, ◌+◌, ◌*◌, ◌%◌, ◌<◌}
use native.Mathlib.Omega.{arith}
use lib.ListN.{length, replicate}
use Rattle.descriptor.specs.Codes.{Kind, kind_of, is_array}
use Rattle.descriptor.specs.Tree.{Name, unnamed, named, Pair, Fields, empty, items, pairs, text, dimensions, members, subtype, Tree, node, Forest, nil, cons, items_size, inside_at, tree_size}
use Rattle.descriptor.specs.Encoding.{word, packed, pair_bytes, fill, field_bytes, name_bytes, encode_with, forest_with, encode, Bytes, AllChars, NameFits, FieldsFit, WellFormed, AllWellFormed, WithinLimits}
use Rattle.descriptor.specs.Stamp.{stamp_subtype}
use Rattle.encoding.proofs.Slices.{bytes-append, bytes-replicate, bytes-be_bytes}

-- packed Pascal strings are bytes
packed-bytes : (xs : List (List ℕ)) → AllChars xs → Bytes (packed xs)
unfolding packed AllChars Bytes
packed-bytes [] h = tt
packed-bytes (x ∷ xs) h = (omega (arith, h.0.most), bytes-append x (packed xs) h.0.bytes (packed-bytes xs h.1))

-- and so are unit pairs
pairs-bytes : (ps : List Pair) → Bytes (pair_bytes ps)
unfolding pair_bytes Bytes
pairs-bytes [] = tt
pairs-bytes (p ∷ ps) =
    bytes-append (word p.base) (word p.exponent ++ pair_bytes ps) (bytes-be_bytes 2 p.base)
    (bytes-append (word p.exponent) (pair_bytes ps) (bytes-be_bytes 2 p.exponent) (pairs-bytes ps))

-- the fields of a body
fields-bytes : (k : Kind) (b : Fields) → FieldsFit k b → Bytes (field_bytes b)
unfolding field_bytes FieldsFit Bytes
fields-bytes k empty h = tt
fields-bytes k (items xs) h =
    bytes-append (word (length xs)) (packed xs ++ fill (items_size xs)) (bytes-be_bytes 2 (length xs))
    (bytes-append (packed xs) (fill (items_size xs)) (packed-bytes xs h.1.1) (bytes-replicate (items_size xs % 2) 0 (omega arith)))
fields-bytes k (pairs ps) h = bytes-append (word (length ps)) (pair_bytes ps) (bytes-be_bytes 2 (length ps)) (pairs-bytes ps)
fields-bytes k text h = bytes-replicate 4 255 (omega arith)
fields-bytes k (dimensions d) h = bytes-append (word d) (replicate (4 * d) 255) (bytes-be_bytes 2 d) (bytes-replicate (4 * d) 255 (omega arith))
fields-bytes k (members j) h = bytes-be_bytes 2 j
fields-bytes k subtype h = bytes-be_bytes 2 stamp_subtype

-- a name
name-bytes : (m : Name) → NameFits m → Bytes (name_bytes m)
unfolding name_bytes NameFits Bytes
name-bytes unnamed h = tt
name-bytes (named x) h =
    (omega (arith, h.most), bytes-append x (fill (suc (length x))) h.bytes (bytes-replicate (suc (length x) % 2) 0 (omega arith)))

module _ (r : ℕ → ℕ) (reserved : (k : ℕ) → r k < 256) where
  mutual
    unfolding encode_with WellFormed Bytes

    -- a tree's encoding is bytes where its reserved bytes are
    pub tree-bytes : (t : Tree) (a : Bool) (p : ℕ) → WellFormed a t → Bytes (encode_with r p t)
    tree-bytes (node c b f m) a p h =
        bytes-append (word (tree_size (node c b f m))) (r p ∷ c ∷ (field_bytes b ++ (forest_with r (inside_at p b) f ++ name_bytes m)))
        (bytes-be_bytes 2 (tree_size (node c b f m))) (
          reserved p,
          (
            h.code,
            bytes-append (field_bytes b) (forest_with r (inside_at p b) f ++ name_bytes m) (fields-bytes (kind_of c) b h.fields)
                (bytes-append (forest_with r (inside_at p b) f) (name_bytes m) (forest-bytes f (is_array (kind_of c)) (inside_at p b) h.inside)
                (name-bytes m h.name)),
          ),
        )

    -- and so is that of descriptors in a row
    forest-bytes : (f : Forest) (a : Bool) (p : ℕ) → AllWellFormed a f → Bytes (forest_with r p f)
    forest-bytes nil a p h = tt
    forest-bytes (cons t f) a p h =
        bytes-append (encode_with r p t) (forest_with r (p + tree_size t) f) (tree-bytes t a p h.0) (forest-bytes f a (p + tree_size t) h.1)

-- a normal form is bytes
pub encode-bytes : (t : Tree) → WithinLimits t → Bytes (encode t)
encode-bytes t within = tree-bytes (λ _. 0) (λ _. omega arith) t false 0 within.formed
