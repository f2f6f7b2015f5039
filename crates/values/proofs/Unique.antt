-- No bytes are those of two values of one type, whatever stands after them. Rests on the laws of numbers in a row.
use mathlib.Core.Path.{◌≡◌, refl, sym, ap, ap₂, ◌∙◌}
use mathlib.Core.List.{List, [], ◌∷◌, ◌++◌, foldr, append_assoc}
use Prim.Native.Nat.{ℕ, ◌*◌, ◌^◌, ◌<◌}
use native.Mathlib.Omega.{arith}
use lib.ListN.{length}
use Rattle.descriptor.specs.Tree.{Tree, Forest, nil, cons}
use Rattle.encoding.proofs.Slices.{append-apart}
use Rattle.flattened.specs.Order.{Order}
use Rattle.values.specs.Value.{Value, numbers, characters, elements, parts, Values, also, count, AllBelow, Scalar, Fits, plain, enumeration, quantity, string, array, cluster, stamp, AllFit, without, element, EachFits, done, member, ordered, in_order, flatten, flatten_elements, flatten_members}
use Rattle.byte_order.specs.Reversal.{number_width}
use Rattle.values.proofs.Numbers.{length-ordered, ordered-apart, in_order-apart, below_less}

module _ (o : Order) where
  -- a scalar's numbers
  scalars-apart : (c : ℕ) (ns ks x y : List ℕ) → Scalar c ns → Scalar c ks → in_order o (number_width c) ns ++ x ≡ in_order o (number_width c) ks ++ y
      → (numbers ns ≡ numbers ks) × (x ≡ y)
  scalars-apart c ns ks x y h k e =
      let r = in_order-apart o (number_width c) ns ks x y (h.many ∙ sym k.many) h.below k.below e in
      (ap numbers r.0, r.1)

  -- a string's characters
  texts-apart : (u v x y : List ℕ) → length u < 2 ^ 31 → length v < 2 ^ 31
      → ordered o 4 (length u) ++ u ++ x ≡ ordered o 4 (length v) ++ v ++ y → (characters u ≡ characters v) × (x ≡ y)
  texts-apart u v x y h k e =
      let word = append-apart (ordered o 4 (length u)) (ordered o 4 (length v)) (u ++ x) (v ++ y)
      (length-ordered o 4 (length u) ∙ sym (length-ordered o 4 (length v)))
      (sym (append_assoc (ordered o 4 (length u)) u x) ∙ e ∙ append_assoc (ordered o 4 (length v)) v y) in
      let long : length u ≡ length v = ordered-apart o 4 (length u) (length v) (omega arith) (omega arith) word.0 in
      let r = append-apart u v x y long word.1 in
      (ap characters r.0, r.1)

  -- an array's sizes, and what stands after them
  sizes-apart : (ns ks x y : List ℕ) → length ns ≡ length ks → AllBelow (2 ^ 31) ns → AllBelow (2 ^ 31) ks → in_order o 4 ns ++ x ≡ in_order o 4 ks ++ y
      → (ns ≡ ks) × (x ≡ y)
  sizes-apart ns ks x y l h k e =
      in_order-apart o 4 ns ks x y l (below_less (2 ^ 31) (256 ^ 4) ns (omega arith) h) (below_less (2 ^ 31) (256 ^ 4) ks (omega arith) k) e

  mutual
    unfolding flatten count

    -- a value
    pub values-apart : {t : Tree} {v w : Value} → Fits t v → Fits t w → (x y : List ℕ) → flatten o t v ++ x ≡ flatten o t w ++ y → (v ≡ w) × (x ≡ y)
    values-apart (plain {c = c} {ns = ns} h) (plain {ns = ks} k) x y e = scalars-apart c ns ks x y h k e
    values-apart (enumeration {c = c} {n = n} h a) (enumeration {n = j} k b) x y e = scalars-apart c (n ∷ []) (j ∷ []) x y h k e
    values-apart (quantity {c = c} {ns = ns} h) (quantity {ns = ks} k) x y e = scalars-apart c ns ks x y h k e
    values-apart (string {x = u} b h) (string {x = v} d k) x y e = texts-apart u v x y h k e
    values-apart (array {e = t} {ns = ns} {vs = vs} l b n h) (array {ns = ks} {vs = ws} m d j k) x y e =
        let r = sizes-apart ns ks (flatten_elements o (cons t nil) vs ++ x) (flatten_elements o (cons t nil) ws ++ y) (l ∙ sym m) b d
        (sym (append_assoc (in_order o 4 ns) (flatten_elements o (cons t nil) vs) x) ∙ e ∙ append_assoc (in_order o 4 ks) (flatten_elements o (cons t nil) ws) y) in
        let i = elements-apart h k x y (n ∙ ap (foldr ◌*◌ 1) r.0 ∙ sym j) r.1 in
        (ap₂ elements r.0 i.0, i.1)
    values-apart (cluster h) (cluster k) x y e =
        let r = members-apart h k x y e in
        (ap parts r.0, r.1)
    values-apart (stamp h) (stamp k) x y e =
        let r = members-apart h k x y e in
        (ap parts r.0, r.1)

    -- an array's elements, as many in one as in the other
    elements-apart : {t : Tree} {vs ws : Values} → AllFit t vs → AllFit t ws → (x y : List ℕ) → count vs ≡ count ws
        → flatten_elements o (cons t nil) vs ++ x ≡ flatten_elements o (cons t nil) ws ++ y → (vs ≡ ws) × (x ≡ y)
    elements-apart without without x y n e = (refl, e)
    elements-apart without (element k ks) x y n e = absurd (omega arith)
    elements-apart (element h hs) without x y n e = absurd (omega arith)
    elements-apart (element {e = t} {v = v} {vs = vs} h hs) (element {v = w} {vs = ws} k ks) x y n e =
        let r = values-apart h k (flatten_elements o (cons t nil) vs ++ x) (flatten_elements o (cons t nil) ws ++ y)
        (sym (append_assoc (flatten o t v) (flatten_elements o (cons t nil) vs) x) ∙ e ∙ append_assoc (flatten o t w) (flatten_elements o (cons t nil) ws) y) in
        let i = elements-apart hs ks x y (omega arith) r.1 in
        (ap₂ also r.0 i.0, i.1)

    -- a cluster's members
    members-apart : {f : Forest} {vs ws : Values} → EachFits f vs → EachFits f ws → (x y : List ℕ)
        → flatten_members o f vs ++ x ≡ flatten_members o f ws ++ y → (vs ≡ ws) × (x ≡ y)
    members-apart done done x y e = (refl, e)
    members-apart (member {t = t} {f = f} {v = v} {vs = vs} h hs) (member {v = w} {vs = ws} k ks) x y e =
        let r = values-apart h k (flatten_members o f vs ++ x) (flatten_members o f ws ++ y)
        (sym (append_assoc (flatten o t v) (flatten_members o f vs) x) ∙ e ∙ append_assoc (flatten o t w) (flatten_members o f ws) y) in
        let i = members-apart hs ks x y r.1 in
        (ap₂ also r.0 i.0, i.1)
