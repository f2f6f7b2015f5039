-- What is walked is a value's bytes: wherever the walk of a well-formed type ends, the bytes that it went over are those of a value of the
-- type. Rests on the laws of numbers in a row and of bytes at a place.
use mathlib.Core.Path.{◌≡◌, refl, sym, ap, ◌∙◌}
use mathlib.Core.Bool.{Bool, true}
use mathlib.Core.List.{List, [], ◌∷◌, append-nil}
use Prim.Native.Nat.{ℕ, zero, suc, ◌+◌, ◌*◌, ◌≤◌, ◌<◌}
use native.Mathlib.Omega.{arith}
use borrow.Author.Tests.{leb-true, ltb-true}
use lib.Dec.{leb, ltb}
use lib.ListN.{length, length-append}
use lib.Seq.{slice, length-slice}
use Rattle.descriptor.specs.Codes.{Kind, kind_of, is_array}
use Rattle.descriptor.specs.Tree.{Name, Fields, empty, items, pairs, text, dimensions, members, subtype, Tree, node, Forest, nil, cons, child_count, forest_length}
use Rattle.descriptor.specs.Encoding.{Bytes, FieldsFit, WellFormed, AllWellFormed}
use Rattle.descriptor.proofs.Outcomes.{Holds, found, holds-require, holds-and_then, holds-weaken}
use Rattle.descriptor.proofs.Sizes.{and-true}
use Rattle.encoding.proofs.Slices.{bytes-slice}
use Rattle.descriptor.specs.Width.{width_of}
use Rattle.flattened.specs.Order.{Order, number_at}
use Rattle.descriptor.specs.Limits.{length_limit}
use Rattle.flattened.specs.Walk.{scalar_at, text_at, sizes_at, sizes_fit, product, array_at, repeat, walk_fields, walk, walk_all}
use Rattle.values.specs.Value.{Value, numbers, characters, elements, parts, Values, none, also, count, AllBelow, Scalar, Fits, plain, enumeration, quantity, string, array, cluster, stamp, AllFit, without, element, EachFits, done, member, ordered, in_order, flatten, flatten_elements, flatten_members, Here}
use Rattle.byte_order.specs.Reversal.{number_count, number_width}
use Rattle.values.proofs.Places.{here-by, here-none, here-then}
use Rattle.values.proofs.Numbers.{length-ordered, number-stands, numbers_at, length-numbers_at, length-in_order, numbers-stand}
use Rattle.values.proofs.Scalars.{scalar_numbers, fill-width, scalar-length, scalar-there, enumeration-number}
use Rattle.values.proofs.Complete.{sizes-numbers, sizes-product}

-- the bytes of a value of the type t stand in s from p to q
pub record Stands (o : Order) (s : List ℕ) (t : Tree) (p q : ℕ) : Type 0 where
  pub value : Value
  pub fits : Fits t value
  pub here : Here s p (flatten o t value)
  pub end : q ≡ p + length (flatten o t value)

-- those of a cluster's members
record MembersStand (o : Order) (s : List ℕ) (f : Forest) (p q : ℕ) : Type 0 where
  values : Values
  fits : EachFits f values
  here : Here s p (flatten_members o f values)
  end : q ≡ p + length (flatten_members o f values)

-- those of an array's n elements
record ElementsStand (o : Order) (s : List ℕ) (e : Tree) (n p q : ℕ) : Type 0 where
  values : Values
  fits : AllFit e values
  many : count values ≡ n
  here : Here s p (flatten_elements o (cons e nil) values)
  end : q ≡ p + length (flatten_elements o (cons e nil) values)

-- sizes that pass their test
pub sizes-below : (ns : List ℕ) → sizes_fit ns ≡ true → AllBelow length_limit ns
unfolding sizes_fit AllBelow
sizes-below [] e = tt
sizes-below (n ∷ ns) e =
    let both = and-true (ltb n length_limit) (sizes_fit ns) e in
    (ltb-true n length_limit both.0, sizes-below ns both.1)

-- one member
lone : {e : Tree} {vs : Values} → EachFits (cons e nil) vs → (v : Value) × Fits e v × (vs ≡ also v none)
lone (member {v = v} h done) = (v, h, refl)

module _ (o : Order) (s : List ℕ) (b : Bytes s) where
  -- a scalar's numbers
  scalar-stands : (c p : ℕ) → p + width_of c ≤ length s → Here s p (in_order o (number_width c) (scalar_numbers o s c p))
  scalar-stands c p h = numbers-stand s b o (number_width c) (number_count c) p (omega (arith, fill-width c))

  scalar-end : (c p : ℕ) → p + width_of c ≡ p + length (in_order o (number_width c) (scalar_numbers o s c p))
  scalar-end c p = omega (arith, scalar-length o c (scalar_numbers o s c p) (length-numbers_at o s (number_width c) (number_count c) p))

  -- a scalar of a type that takes any
  plain-stands : (t : Tree) (c p : ℕ) → ((ns : List ℕ) → Scalar c ns → Fits t (numbers ns)) → ((ns : List ℕ) → flatten o t (numbers ns) ≡ in_order o (number_width c) ns)
      → Holds (λ q ts. Stands o s t p q) (scalar_at c s p true)
  unfolding scalar_at
  plain-stands t c p fits bytes =
      let ns : List ℕ = scalar_numbers o s c p in
      holds-require (leb (p + width_of c) (length s)) _ _ (λ room.
      found (record {
        value = numbers ns;
        fits = fits ns (scalar-there o s b p c);
        here = rw bytes (scalar-stands c p (leb-true _ _ room));
        end = rw bytes (scalar-end c p);
      }))

  -- an enumeration's number
  item-stands : (c : ℕ) (xs : List (List ℕ)) (f : Forest) (m : Name) (p : ℕ) → c < 256 → kind_of c ≡ Kind.enumeration
      → Holds (λ q ts. Stands o s (node c (items xs) f m) p q) (scalar_at c s p (ltb (number_at o s p (width_of c)) (length xs)))
  unfolding scalar_at flatten
  item-stands c xs f m p h k =
      let n : ℕ = number_at o s p (width_of c) in
      let one : scalar_numbers o s c p ≡ n ∷ [] = enumeration-number c h k o s p in
      holds-require (leb (p + width_of c) (length s)) _ _ (λ room.
      holds-require (ltb n (length xs)) _ _ (λ small.
      found (record {
        value = numbers (n ∷ []);
        fits = enumeration (rw one at (scalar-there o s b p c)) (ltb-true n (length xs) small);
        here = rw one at (scalar-stands c p (leb-true _ _ room));
        end = rw one at (scalar-end c p);
      })))

  -- a string
  text-stands : (c : ℕ) (f : Forest) (m : Name) (p : ℕ) → Holds (λ q ts. Stands o s (node c text f m) p q) (text_at o s p)
  unfolding text_at flatten
  text-stands c f m p =
      let n : ℕ = number_at o s p 4 in
      let x : List ℕ = slice (p + 4) (p + 4 + n) s in
      holds-require (leb (p + 4) (length s)) _ _ (λ word.
      holds-require (ltb n length_limit) _ _ (λ small.
      holds-require (leb (p + 4 + n) (length s)) _ _ (λ room.
      let far : p + 4 + n ≤ length s = leb-true _ _ room in
      let long : length x ≡ n = omega (arith, length-slice (p + 4) (p + 4 + n) s far) in
      let first : Here s p (ordered o 4 (length x)) = rw long (number-stands s b o p 4 (omega arith)) in
      found (record {
        value = characters x;
        fits = string (bytes-slice (p + 4) (p + 4 + n) s b) (omega (arith, ltb-true n length_limit small));
        here =
            here-then s p (p + 4) (ordered o 4 (length x)) x first (omega (arith, length-ordered o 4 (length x)))
            (here-by s (p + 4) (p + 4 + n) x (omega arith) far refl);
        end = omega (arith, length-append (ordered o 4 (length x)) x, length-ordered o 4 (length x));
      }))))

  -- an array's elements, n of them
  elements-stand : (e : Tree) → ((p : ℕ) → p ≤ length s → Holds (λ q ts. MembersStand o s (cons e nil) p q) (walk_all o (cons e nil) s p))
      → (n p : ℕ) → p ≤ length s → Holds (λ q ts. ElementsStand o s e n p q) (repeat (λ k. walk_all o (cons e nil) s k) n p)
  unfolding repeat flatten count
  elements-stand e inside zero p h =
      found (record { values = none; fits = without; many = refl; here = here-none s p h; end = omega arith })
  elements-stand e inside (suc n) p h =
      holds-and_then (inside p h) (λ next ts i.
      let one = lone i.fits in
      let v : Value = one.0 in
      let same : flatten_members o (cons e nil) i.values ≡ flatten o e v =
      ap (flatten_members o (cons e nil)) one.2 ∙ append-nil (flatten o e v) in
      let here : Here s p (flatten o e v) = rw same at i.here in
      let end : next ≡ p + length (flatten o e v) = rw same at i.end in
      holds-and_then (elements-stand e inside n next (omega (arith, here.within))) (λ last us r.
      found (record {
        values = also v r.values;
        fits = element one.1 r.fits;
        many = ap suc r.many;
        here = here-then s p next (flatten o e v) (flatten_elements o (cons e nil) r.values) here end r.here;
        end = omega (arith, length-append (flatten o e v) (flatten_elements o (cons e nil) r.values), r.end);
      })))

  -- an array
  array-stands : (c k : ℕ) (f : Forest) (m : Name) → forest_length f ≡ 1
      → ((p : ℕ) → p ≤ length s → Holds (λ q ts. MembersStand o s f p q) (walk_all o f s p))
      → (p : ℕ) → Holds (λ q ts. Stands o s (node c (dimensions k) f m) p q) (walk_fields o c (dimensions k) (λ j. walk_all o f s j) s p)
  unfolding walk_fields array_at flatten forest_length
  array-stands c k nil m l inside p = absurd (omega arith)
  array-stands c k (cons e (cons t f)) m l inside p = absurd (omega arith)
  array-stands c k (cons e nil) m l inside p =
      let ns : List ℕ = sizes_at o s k p in
      holds-and_then {P = λ next n. (p + 4 * k ≤ length s) × (sizes_fit ns ≡ true) × (next ≡ p + 4 * k) × (n ≡ product ns)}
      (holds-require (leb (p + 4 * k) (length s)) _ _ (λ room.
      holds-require (sizes_fit ns) _ _ (λ small. found (leb-true _ _ room, small, refl, refl)))) (λ next n i.
      let far : p + 4 * k ≤ length s = i.0 in
      let at : next ≡ p + 4 * k = i.2 in
      let same : ns ≡ numbers_at o s 4 k p = sizes-numbers o s k p in
      let many : length ns ≡ k = ap length same ∙ length-numbers_at o s 4 k p in
      let word : Here s p (in_order o 4 ns) = rw same (numbers-stand s b o 4 k p (omega arith)) in
      let long : length (in_order o 4 ns) ≡ length ns * 4 = length-in_order o 4 ns in
      holds-and_then (elements-stand e inside n next (omega arith)) (λ last ts r.
      found (record {
        value = elements ns r.values;
        fits = array many (sizes-below ns i.1) (r.many ∙ i.3 ∙ sym (sizes-product ns)) r.fits;
        here = here-then s p next (in_order o 4 ns) (flatten_elements o (cons e nil) r.values) word (omega arith) r.here;
        end = omega (arith, length-append (in_order o 4 ns) (flatten_elements o (cons e nil) r.values), r.end);
      })))

  -- the fields of a type whose children are walked as they stand
  fields-stand : (c : ℕ) (fs : Fields) (f : Forest) (m : Name) → c < 256 → FieldsFit (kind_of c) fs → forest_length f ≡ child_count fs
      → ((p : ℕ) → p ≤ length s → Holds (λ q ts. MembersStand o s f p q) (walk_all o f s p))
      → (p : ℕ) → p ≤ length s → Holds (λ q ts. Stands o s (node c fs f m) p q) (walk_fields o c fs (λ k. walk_all o f s k) s p)
  unfolding walk_fields flatten FieldsFit child_count
  fields-stand c empty f m i k l inside p h = plain-stands (node c empty f m) c p (λ ns j. plain j) (λ ns. refl)
  fields-stand c (items xs) f m i k l inside p h = item-stands c xs f m p i k.0
  fields-stand c (pairs ps) f m i k l inside p h = plain-stands (node c (pairs ps) f m) c p (λ ns j. quantity j) (λ ns. refl)
  fields-stand c text f m i k l inside p h = text-stands c f m p
  fields-stand c (dimensions d) f m i k l inside p h = array-stands c d f m l inside p
  fields-stand c (members j) f m i k l inside p h =
      holds-weaken (inside p h) (λ q ts r. record { value = parts r.values; fits = cluster r.fits; here = r.here; end = r.end })
  fields-stand c subtype f m i k l inside p h =
      holds-weaken (inside p h) (λ q ts r. record { value = parts r.values; fits = stamp r.fits; here = r.here; end = r.end })

  mutual
    unfolding walk flatten WellFormed

    -- a value
    pub value-stands : (t : Tree) (a : Bool) → WellFormed a t → (p : ℕ) → p ≤ length s → Holds (λ q ts. Stands o s t p q) (walk o t s p)
    value-stands (node c fs f m) a w p h =
        fields-stand c fs f m w.code w.fields w.children (λ k l. members-stand f (is_array (kind_of c)) w.inside k l) p h

    -- a cluster's members
    members-stand : (f : Forest) (a : Bool) → AllWellFormed a f → (p : ℕ) → p ≤ length s → Holds (λ q ts. MembersStand o s f p q) (walk_all o f s p)
    members-stand nil a w p h = found (record { values = none; fits = done; here = here-none s p h; end = omega arith })
    members-stand (cons t f) a w p h =
        holds-and_then (value-stands t a w.0 p h) (λ next ts i.
        holds-and_then (members-stand f a w.1 next (omega (arith, i.here.within, i.end))) (λ last us r.
        found (record {
          values = also i.value r.values;
          fits = member i.fits r.fits;
          here = here-then s p next (flatten o t i.value) (flatten_members o f r.values) i.here i.end r.here;
          end = omega (arith, length-append (flatten o t i.value) (flatten_members o f r.values), i.end, r.end);
        })))
