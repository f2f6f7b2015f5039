-- Document 01, "Checked by hand": P9, P10 and two more by their values, computed from the definitions.
-- The bytes stand in decimal, with document 01's hexadecimal beside them.
use mathlib.Core.Path.{◌≡◌, refl}
use mathlib.Core.List.{[], ◌∷◌}
use Prim.Native.Nat.{ℕ}
use native.Mathlib.Omega.{arith}
use lib.IntN.{negsuc}
use lib.ListN.{length}
use Rattle.number.specs.Endian.{be, be_bytes, le_bytes}
use Rattle.number.specs.Signed.{signed}
use Rattle.descriptor.specs.Tree.{unnamed, empty, dimensions, members, Tree, node, nil, cons, fields_size, name_size, tree_size}
use Rattle.descriptor.specs.Encoding.{field_bytes, name_bytes, encode_with, encode}
use Rattle.descriptor.specs.Outcome.{refused}
use Rattle.descriptor.specs.Width.{width_of}
use Rattle.flattened.specs.Order.{big, little, number_at}
use Rattle.flattened.specs.Walk.{scalar_at, sizes_at, sizes_fit, product, array_at, repeat, walk_fields, walk, walked}
use Rattle.values.specs.Value.{Value, numbers, elements, parts, none, also, count, AllBelow, Fits, plain, array, cluster, without, done, member, ordered, in_order, flatten, Data}
use Rattle.byte_order.specs.Reversal.{number_count, number_width}
use Rattle.values.specs.Pieces.{pieces_at, pieces}
use Rattle.values.proofs.Accepted.{refused_none}

-- a scalar with no name
abbrev unnamed_scalar : ℕ → Tree
unnamed_scalar c = node c empty nil unnamed

-- P5's tree, and the value of P9's data: -2 by its bits, and 1
abbrev pair_type : Tree
pair_type = node 80 (members 2) (cons (unnamed_scalar 2) (cons (unnamed_scalar 7) nil)) unnamed

abbrev pair : Value
pair = parts (also (numbers (65534 ∷ [])) (also (numbers (1 ∷ [])) none))

-- P4's tree, and the value of P10's first data: an array of no doubles
abbrev doubles : Tree
doubles = node 64 (dimensions 1) (cons (unnamed_scalar 10) nil) unnamed

abbrev no_doubles : Value
no_doubles = elements (0 ∷ []) none

pub pair_fits : Fits pair_type pair
unfolding number_count number_width AllBelow width_of
pair_fits =
    cluster
    (member (plain {c = 2} {ns = 65534 ∷ []} (record { many = refl; below = (omega arith, tt) }))
    (member (plain {c = 7} {ns = 1 ∷ []} (record { many = refl; below = (omega arith, tt) })) done))

pub none-fits : Fits doubles no_doubles
unfolding AllBelow count
none-fits = array {ns = 0 ∷ []} refl (omega arith, tt) refl without

-- "Sizes 7FFFFFFF then 0 in a two-dimensional array: no elements, accepted."
abbrev plane : Tree
plane = node 64 (dimensions 2) (cons (unnamed_scalar 10) nil) unnamed

pub plane-fits : Fits plane (elements (2147483647 ∷ 0 ∷ []) none)
unfolding AllBelow count
plane-fits = array {ns = 2147483647 ∷ 0 ∷ []} refl (omega arith, (omega arith, tt)) refl without

pub cases : (encode pair_type ≡ 0 ∷ 14 ∷ 0 ∷ 80 ∷ 0 ∷ 2 ∷ 0 ∷ 4 ∷ 0 ∷ 2 ∷ 0 ∷ 4 ∷ 0 ∷ 7 ∷ [])
    -- P9 under P5, FFFE 0000 0001: two pieces, -2 and 1; little-endian FEFF 0100 0000
    × (flatten big pair_type pair ≡ 255 ∷ 254 ∷ 0 ∷ 0 ∷ 0 ∷ 1 ∷ [])
    × (flatten little pair_type pair ≡ 254 ∷ 255 ∷ 1 ∷ 0 ∷ 0 ∷ 0 ∷ [])
    × (length (pieces pair_type pair) ≡ 2)
    × (signed 2 65534 ≡ negsuc 1)
    × (encode doubles ≡ 0 ∷ 14 ∷ 0 ∷ 64 ∷ 0 ∷ 1 ∷ 255 ∷ 255 ∷ 255 ∷ 255 ∷ 0 ∷ 4 ∷ 0 ∷ 10 ∷ [])
    -- P10 under P4, 0000 0000: one piece
    × (flatten big doubles no_doubles ≡ 0 ∷ 0 ∷ 0 ∷ 0 ∷ [])
    × (length (pieces doubles no_doubles) ≡ 1)
    -- 0000 0001: 21 at 4; 8000 0000: 22 at 0
    × (walked big doubles (0 ∷ 0 ∷ 0 ∷ 1 ∷ []) ≡ refused 21 4)
    × (walked big doubles (128 ∷ 0 ∷ 0 ∷ 0 ∷ []) ≡ refused 22 0)
    -- 7FFF FFFF 0000 0000
    × (flatten big plane (elements (2147483647 ∷ 0 ∷ []) none) ≡ 127 ∷ 255 ∷ 255 ∷ 255 ∷ 0 ∷ 0 ∷ 0 ∷ 0 ∷ [])
    -- a complex number is not reversed "as one run of bytes": 0000 0001 0000 0002, little-endian 0100 0000 0200 0000
    × (flatten big (unnamed_scalar 12) (numbers (1 ∷ 2 ∷ [])) ≡ 0 ∷ 0 ∷ 0 ∷ 1 ∷ 0 ∷ 0 ∷ 0 ∷ 2 ∷ [])
    × (flatten little (unnamed_scalar 12) (numbers (1 ∷ 2 ∷ [])) ≡ 1 ∷ 0 ∷ 0 ∷ 0 ∷ 2 ∷ 0 ∷ 0 ∷ 0 ∷ [])
unfolding be be_bytes le_bytes signed fields_size name_size tree_size field_bytes name_bytes encode_with width_of number_at scalar_at sizes_at sizes_fit product array_at repeat walk_fields walk walked number_width ordered in_order flatten pieces_at
cases = (refl, refl, refl, refl, refl, refl, refl, refl, refl, refl, refl, refl, refl)

-- so neither 0000 0001 nor 8000 0000 is any value's bytes
pub cut-none : Data big doubles (0 ∷ 0 ∷ 0 ∷ 1 ∷ []) → ⊥
cut-none = refused_none big doubles (0 ∷ 0 ∷ 0 ∷ 1 ∷ []) 21 4 cases.8 (omega arith)

pub large-none : Data big doubles (128 ∷ 0 ∷ 0 ∷ 0 ∷ []) → ⊥
large-none = refused_none big doubles (128 ∷ 0 ∷ 0 ∷ 0 ∷ []) 22 0 cases.9 (omega arith)
