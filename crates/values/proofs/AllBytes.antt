-- The bytes of a value are bytes. Rests on the laws of lists of bytes.
use mathlib.Core.List.{List, [], ◌∷◌}
use Prim.Native.Nat.{ℕ, zero, suc, ◌/◌}
use native.Mathlib.Omega.{arith}
use lib.ListN.{length}
use Rattle.number.specs.Endian.{le_bytes}
use Rattle.descriptor.specs.Tree.{Tree, Forest, nil, cons}
use Rattle.descriptor.specs.Encoding.{Bytes}
use Rattle.encoding.proofs.Slices.{bytes-append, bytes-be_bytes}
use Rattle.flattened.specs.Order.{Order, big, little}
use Rattle.values.specs.Value.{Value, Values, Fits, plain, enumeration, quantity, string, array, cluster, stamp, AllFit, without, element, EachFits, done, member, ordered, in_order, flatten, flatten_elements, flatten_members}
use Rattle.byte_order.specs.Reversal.{number_width}

-- a number's, least significant byte first
bytes-le_bytes : (w n : ℕ) → Bytes (le_bytes w n)
unfolding Bytes le_bytes
bytes-le_bytes zero n = tt
bytes-le_bytes (suc w) n = (omega arith, bytes-le_bytes w (n / 256))

-- in either order
bytes-ordered : (o : Order) (w n : ℕ) → Bytes (ordered o w n)
unfolding ordered
bytes-ordered big w n = bytes-be_bytes w n
bytes-ordered little w n = bytes-le_bytes w n

-- numbers in a row
bytes-in_order : (o : Order) (w : ℕ) (ns : List ℕ) → Bytes (in_order o w ns)
unfolding in_order Bytes
bytes-in_order o w [] = tt
bytes-in_order o w (n ∷ ns) = bytes-append (ordered o w n) (in_order o w ns) (bytes-ordered o w n) (bytes-in_order o w ns)

module _ (o : Order) where
  mutual
    unfolding flatten Bytes

    -- a value's
    pub value-bytes : {t : Tree} {v : Value} → Fits t v → Bytes (flatten o t v)
    value-bytes (plain {c = c} {ns = ns} h) = bytes-in_order o (number_width c) ns
    value-bytes (enumeration {c = c} {n = n} h l) = bytes-in_order o (number_width c) (n ∷ [])
    value-bytes (quantity {c = c} {ns = ns} h) = bytes-in_order o (number_width c) ns
    value-bytes (string {x = x} b h) = bytes-append (ordered o 4 (length x)) x (bytes-ordered o 4 (length x)) b
    value-bytes (array {e = t} {ns = ns} {vs = vs} l b n h) =
        bytes-append (in_order o 4 ns) (flatten_elements o (cons t nil) vs) (bytes-in_order o 4 ns) (elements-bytes h)
    value-bytes (cluster h) = members-bytes h
    value-bytes (stamp h) = members-bytes h

    -- an array's elements'
    elements-bytes : {t : Tree} {vs : Values} → AllFit t vs → Bytes (flatten_elements o (cons t nil) vs)
    elements-bytes without = tt
    elements-bytes (element {e = t} {v = v} {vs = vs} h hs) =
        bytes-append (flatten o t v) (flatten_elements o (cons t nil) vs) (value-bytes h) (elements-bytes hs)

    -- a cluster's members'
    members-bytes : {f : Forest} {vs : Values} → EachFits f vs → Bytes (flatten_members o f vs)
    members-bytes done = tt
    members-bytes (member {t = t} {f = f} {v = v} {vs = vs} h hs) =
        bytes-append (flatten o t v) (flatten_members o f vs) (value-bytes h) (members-bytes hs)
