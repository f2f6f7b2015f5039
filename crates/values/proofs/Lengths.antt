-- A value takes as many bytes in one order as in the other. Rests on the lengths of numbers in a row.
use mathlib.Core.Path.{◌≡◌, refl, sym, ◌∙◌}
use mathlib.Core.List.{List, [], ◌∷◌, ◌++◌}
use Prim.Native.Nat.{ℕ}
use native.Mathlib.Omega.{arith}
use lib.ListN.{length, length-append}
use Rattle.descriptor.specs.Tree.{Tree, Forest, nil, cons}
use Rattle.flattened.specs.Order.{Order}
use Rattle.values.specs.Value.{Value, Values, Fits, plain, enumeration, quantity, string, array, cluster, stamp, AllFit, without, element, EachFits, done, member, ordered, in_order, flatten, flatten_elements, flatten_members}
use Rattle.byte_order.specs.Reversal.{number_width}
use Rattle.values.proofs.Numbers.{length-ordered, length-in_order}

-- lists of one length, one after the other
append-length : (x y u v : List ℕ) → length x ≡ length u → length y ≡ length v → length (x ++ y) ≡ length (u ++ v)
append-length x y u v h k = omega (arith, length-append x y, length-append u v)

module _ (o p : Order) where
  -- numbers in a row
  numbers-length : (w : ℕ) (ns : List ℕ) → length (in_order o w ns) ≡ length (in_order p w ns)
  numbers-length w ns = length-in_order o w ns ∙ sym (length-in_order p w ns)

  mutual
    unfolding flatten

    -- a value
    pub value-length : {t : Tree} {v : Value} → Fits t v → length (flatten o t v) ≡ length (flatten p t v)
    value-length (plain {c = c} {ns = ns} h) = numbers-length (number_width c) ns
    value-length (enumeration {c = c} {n = n} h l) = numbers-length (number_width c) (n ∷ [])
    value-length (quantity {c = c} {ns = ns} h) = numbers-length (number_width c) ns
    value-length (string {x = x} b h) =
        append-length (ordered o 4 (length x)) x (ordered p 4 (length x)) x (length-ordered o 4 (length x) ∙ sym (length-ordered p 4 (length x))) refl
    value-length (array {e = t} {ns = ns} {vs = vs} l b n h) =
        append-length (in_order o 4 ns) (flatten_elements o (cons t nil) vs) (in_order p 4 ns) (flatten_elements p (cons t nil) vs) (numbers-length 4 ns)
        (elements-length h)
    value-length (cluster h) = members-length h
    value-length (stamp h) = members-length h

    -- an array's elements
    elements-length : {t : Tree} {vs : Values} → AllFit t vs → length (flatten_elements o (cons t nil) vs) ≡ length (flatten_elements p (cons t nil) vs)
    elements-length without = refl
    elements-length (element {e = t} {v = v} {vs = vs} h hs) =
        append-length (flatten o t v) (flatten_elements o (cons t nil) vs) (flatten p t v) (flatten_elements p (cons t nil) vs) (value-length h)
        (elements-length hs)

    -- a cluster's members
    members-length : {f : Forest} {vs : Values} → EachFits f vs → length (flatten_members o f vs) ≡ length (flatten_members p f vs)
    members-length done = refl
    members-length (member {t = t} {f = f} {v = v} {vs = vs} h hs) =
        append-length (flatten o t v) (flatten_members o f vs) (flatten p t v) (flatten_members p f vs) (value-length h) (members-length hs)
