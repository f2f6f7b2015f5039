-- What is a value's is walked: its bytes are walked to their end, the tokens are its pieces, and their numbers reversed are its bytes in
-- the other order. The bytes may stand at any place of a longer list. Rests on the laws of numbers in a row and of bytes at a place.
use mathlib.Core.Path.{◌≡◌, refl, sym, ap, ap₂, ◌∙◌}
use mathlib.Core.Bool.{Bool, true}
use mathlib.Core.List.{List, [], ◌∷◌, ◌++◌, foldr, append_assoc, append-nil}
use Prim.Native.Nat.{ℕ, zero, suc, ◌+◌, ◌*◌, ◌^◌, ◌<◌}
use native.Mathlib.Omega.{arith}
use borrow.Author.Tests.{lt-ltb, le-leb}
use lib.Dec.{ltb}
use lib.ListN.{length, length-append}
use Rattle.descriptor.specs.Tree.{dimensions, Tree, Forest, nil, cons}
use Rattle.descriptor.specs.Outcome.{Outcome, read, and_then, require}
use Rattle.descriptor.proofs.Sizes.{both_true}
use Rattle.encoding.proofs.Complete.{pass, onward}
use Rattle.descriptor.specs.Width.{width_of}
use Rattle.flattened.specs.Order.{Order, big, number_at}
use Rattle.flattened.specs.Token.{TokenKind, scalar, string, sizes, Token, token_bytes}
use Rattle.descriptor.specs.Limits.{length_limit}
use Rattle.flattened.specs.Walk.{token, single, scalar_at, text_at, sizes_at, sizes_fit, product, array_at, follow, repeat, walk_fields, walk, walk_all}
use Rattle.byte_order.specs.Reversal.{reverse_each, reverse_token, reversed, number_width}
use Rattle.values.specs.Value.{Value, Values, count, AllBelow, Scalar, Fits, plain, enumeration, quantity, array, cluster, stamp, AllFit, without, element, EachFits, done, member, other, ordered, in_order, flatten, flatten_elements, flatten_members, Here}
use Rattle.values.specs.Pieces.{pieces_at, element_pieces, member_pieces}
use Rattle.values.proofs.Places.{here-up-to, here-first, here-second}
use Rattle.values.proofs.Numbers.{length-ordered, number_read, length-in_order, numbers_at, numbers-read, first-reversed, in_order-reversed, below_less}
use Rattle.values.proofs.Scalars.{lone-width, scalar-length}
use Rattle.values.proofs.Lengths.{value-length}

-- the outcome r is a walk of s up to q with the tokens ts, whose numbers reversed are x
pub record Walks (s : List ℕ) (q : ℕ) (ts : List Token) (x : List ℕ) (r : Outcome (List Token)) : Type 0 where
  pub walks : r ≡ read q ts
  pub turns : reversed s ts ≡ x

-- the tokens of two parts
reversed-append : (s : List ℕ) (ts us : List Token) → reversed s (ts ++ us) ≡ reversed s ts ++ reversed s us
unfolding reversed
reversed-append s [] us = refl
reversed-append s (t ∷ ts) us =
    ap (λ (x : List ℕ). reverse_token t.kind (token_bytes s t) ++ x) (reversed-append s ts us)
    ∙ sym (append_assoc (reverse_token t.kind (token_bytes s t)) (reversed s ts) (reversed s us))

-- one part and the next
walks-then : {s : List ℕ} {q z : ℕ} {ts us : List Token} {x y : List ℕ} {r : Outcome (List Token)} (next : ℕ → Outcome (List Token)) → Walks s q ts x r
    → Walks s z us y (next q) → Walks s z (ts ++ us) (x ++ y) (follow r next)
walks-then {s} {ts = ts} {us} next a b = record {
  walks = onward _ a.walks (onward _ b.walks refl);
  turns = reversed-append s ts us ∙ ap₂ (λ (u v : List ℕ). u ++ v) a.turns b.turns;
}

-- nothing
walks-none : (s : List ℕ) (p : ℕ) → Walks s p [] [] (read p [])
unfolding reversed
walks-none s p = record { walks = refl; turns = refl }

-- one token, whose bytes x are y when reversed
walks-single : (s : List ℕ) (k : TokenKind) (p q : ℕ) (x y : List ℕ) → Here s p x → q ≡ p + length x → reverse_token k x ≡ y
    → Walks s q (token k p q ∷ []) y (single k p q)
unfolding reversed
walks-single s k p q x y h e t =
    record { walks = refl; turns = append-nil _ ∙ ap (reverse_token k) (here-up-to s p q x h e) ∙ t }

-- a test that holds is passed
walks-require : {s : List ℕ} {q : ℕ} {ts : List Token} {y : List ℕ} {b : Bool} (number place : ℕ) {r : Outcome (List Token)} → b ≡ true
    → Walks s q ts y r → Walks s q ts y (require b number place r)
walks-require number place e w = record { walks = pass number place e w.walks; turns = w.turns }

-- the same place, tokens and bytes, by other names
walks-as : {s : List ℕ} {q z : ℕ} {ts us : List Token} {x y : List ℕ} {r : Outcome (List Token)} → q ≡ z → ts ≡ us → x ≡ y → Walks s q ts x r
    → Walks s z us y r
walks-as {s} e f g w =
    record { walks = w.walks ∙ ap₂ (λ (k : ℕ) (l : List Token). read k l) e f; turns = ap (reversed s) (sym f) ∙ w.turns ∙ g }

module _ (o : Order) (s : List ℕ) where
  -- a scalar that passes its test
  scalar-walks : (c p : ℕ) (ns : List ℕ) (fits : Bool) → Scalar c ns → Here s p (in_order o (number_width c) ns) → fits ≡ true
      → Walks s (p + length (in_order o (number_width c) ns)) (token (scalar c) p (p + width_of c) ∷ []) (in_order (other o) (number_width c) ns)
      (scalar_at c s p fits)
  unfolding scalar_at reverse_token
  scalar-walks c p ns fits h e t =
      let w : ℕ = number_width c in
      let x : List ℕ = in_order o w ns in
      let end : p + width_of c ≡ p + length x = omega (arith, scalar-length o c ns h.many) in
      let turn : reverse_token (scalar c) x ≡ in_order (other o) w ns =
      ap₂ (λ (k : ℕ) (l : List ℕ). reverse_each w k l) (sym h.many) (sym (append-nil x))
      ∙ in_order-reversed o w ns []
      ∙ append-nil _ in
      walks-as end refl refl
      (walks-require 21 p (le-leb (p + width_of c) (length s) (omega (arith, e.within)))
      (walks-require 23 p t (walks-single s (scalar c) p (p + width_of c) x (in_order (other o) w ns) e end turn)))

  -- a scalar of any code but an enumeration's
  plain-walks : (c p : ℕ) (ns : List ℕ) → Scalar c ns → Here s p (in_order o (number_width c) ns)
      → Walks s (p + length (in_order o (number_width c) ns)) (token (scalar c) p (p + width_of c) ∷ []) (in_order (other o) (number_width c) ns) (scalar_at c s p true)
  plain-walks c p ns h e = scalar-walks c p ns true h e refl

  -- an enumeration's number
  item-walks : (c p n k : ℕ) → Scalar c (n ∷ []) → n < k → Here s p (in_order o (number_width c) (n ∷ []))
      → Walks s (p + length (in_order o (number_width c) (n ∷ []))) (token (scalar c) p (p + width_of c) ∷ []) (in_order (other o) (number_width c) (n ∷ []))
      (scalar_at c s p (ltb (number_at o s p (width_of c)) k))
  unfolding in_order AllBelow
  item-walks c p n k h l e =
      let one : number_at o s p (number_width c) ≡ n =
      number_read o s p (number_width c) n h.below.0 (here-first s p (ordered o (number_width c) n) [] e) in
      let same : number_at o s p (width_of c) ≡ n = ap (λ (w : ℕ). number_at o s p w) (sym (lone-width c h.many)) ∙ one in
      scalar-walks c p (n ∷ []) _ h e (lt-ltb (number_at o s p (width_of c)) k (omega arith))

  -- a string
  text-walks : (p : ℕ) (x : List ℕ) → length x < length_limit → Here s p (ordered o 4 (length x) ++ x)
      → Walks s (p + length (ordered o 4 (length x) ++ x)) (token string p (p + 4 + length x) ∷ []) (ordered (other o) 4 (length x) ++ x) (text_at o s p)
  unfolding text_at reverse_token reverse_each
  text-walks p x h e =
      let word : List ℕ = ordered o 4 (length x) in
      let n : ℕ = number_at o s p 4 in
      let one : n ≡ length x = number_read o s p 4 (length x) (omega arith) (here-first s p word x e) in
      let end : p + 4 + n ≡ p + length (word ++ x) = omega (arith, length-append word x, length-ordered o 4 (length x)) in
      walks-as end (ap (λ (k : ℕ). token string p (p + 4 + k) ∷ []) one) refl
      (walks-require 21 p (le-leb (p + 4) (length s) (omega (arith, e.within)))
      (walks-require 22 p (lt-ltb n length_limit (omega arith))
      (walks-require 21 p (le-leb (p + 4 + n) (length s) (omega (arith, e.within)))
      (walks-single s string p (p + 4 + n) (word ++ x) (ordered (other o) 4 (length x) ++ x) e end (first-reversed o 4 (length x) 0 x)))))

-- sizes below the limit pass their test
sizes-fit : (ns : List ℕ) → AllBelow length_limit ns → sizes_fit ns ≡ true
unfolding sizes_fit AllBelow
sizes-fit [] h = refl
sizes-fit (n ∷ ns) h = both_true (lt-ltb n length_limit h.0) (sizes-fit ns h.1)

-- size words are numbers of four bytes
pub sizes-numbers : (o : Order) (s : List ℕ) (k p : ℕ) → sizes_at o s k p ≡ numbers_at o s 4 k p
unfolding sizes_at numbers_at
sizes-numbers o s zero p = refl
sizes-numbers o s (suc k) p = ap (λ (l : List ℕ). number_at o s p 4 ∷ l) (sizes-numbers o s k (p + 4))

-- the walk's number of elements is the product of the sizes
pub sizes-product : (ns : List ℕ) → foldr ◌*◌ 1 ns ≡ product ns
unfolding product
sizes-product [] = refl
sizes-product (n ∷ ns) = ap (λ (k : ℕ). n * k) (sizes-product ns)

-- an array's size words
pub sizes-walk : (o : Order) (s : List ℕ) (k p : ℕ) (ns : List ℕ) → length ns ≡ k → AllBelow length_limit ns → Here s p (in_order o 4 ns)
    → array_at o s k p ≡ read (p + 4 * k) (product ns)
unfolding array_at
sizes-walk o s k p ns l b h =
    let long : length (in_order o 4 ns) ≡ length ns * 4 = length-in_order o 4 ns in
    let same : sizes_at o s k p ≡ ns =
    sizes-numbers o s k p ∙ ap (λ (j : ℕ). numbers_at o s 4 j p) (sym l) ∙ numbers-read o s 4 p ns (below_less length_limit (256 ^ 4) ns (omega arith) b) h in
    pass _ _ (le-leb (p + 4 * k) (length s) (omega (arith, h.within)))
    (pass _ _ (ap sizes_fit same ∙ sizes-fit ns b) (ap (λ (l : List ℕ). read (p + 4 * k) (product l)) same))

-- an array, whose elements are walked by `inside` from where the size words end
array-walks : (o : Order) (s : List ℕ) (inside : ℕ → Outcome (List Token)) (c k p q : ℕ) (ns : List ℕ) (ts : List Token) (y : List ℕ) → length ns ≡ k
    → AllBelow length_limit ns → Here s p (in_order o 4 ns) → Walks s q ts y (repeat inside (product ns) (p + 4 * length ns))
    → Walks s q (token (sizes (length ns)) p (p + 4 * length ns) ∷ ts) (in_order (other o) 4 ns ++ y) (walk_fields o c (dimensions k) inside s p)
unfolding walk_fields reversed reverse_token
array-walks o s inside c k p q ns ts y l b h w =
    let next : p + 4 * length ns ≡ p + length (in_order o 4 ns) = omega (arith, length-in_order o 4 ns) in
    let word : token_bytes s (token (sizes (length ns)) p (p + 4 * length ns)) ≡ in_order o 4 ns = here-up-to s p _ (in_order o 4 ns) h next in
    record {
      walks =
          onward _ (sizes-walk o s k p ns l b h)
          (ap
          (λ (j : ℕ). and_then (repeat inside (product ns) (p + 4 * j)) (λ last us. read last (token (sizes j) p (p + 4 * j) ∷ us))) (sym l)
          ∙ onward _ w.walks refl);
      turns =
          ap₂ (λ (u v : List ℕ). u ++ v)
          (ap (reverse_each 4 (length ns)) (word ∙ sym (append-nil (in_order o 4 ns)))
          ∙ in_order-reversed o 4 ns []
          ∙ append-nil (in_order (other o) 4 ns))
          w.turns;
    }

module _ (o : Order) (s : List ℕ) where
  mutual
    unfolding walk walk_fields repeat flatten count pieces_at

    -- a value
    pub value-walks : {t : Tree} {v : Value} → Fits t v → (p : ℕ) → Here s p (flatten o t v)
        → Walks s (p + length (flatten o t v)) (pieces_at p t v) (flatten (other o) t v) (walk o t s p)
    value-walks (plain {c = c} {ns = ns} h) p e = plain-walks o s c p ns h e
    value-walks (enumeration {c = c} {xs = xs} {n = n} h l) p e = item-walks o s c p n (length xs) h l e
    value-walks (quantity {c = c} {ns = ns} h) p e = plain-walks o s c p ns h e
    value-walks (Fits.string {x = x} b h) p e = text-walks o s p x h e
    value-walks (array {c = c} {k = k} {e = t} {ns = ns} {vs = vs} l b n h) p e =
        let x : List ℕ = in_order o 4 ns in
        let y : List ℕ = flatten_elements o (cons t nil) vs in
        let next : p + length x ≡ p + 4 * length ns = omega (arith, length-in_order o 4 ns) in
        let end : p + 4 * length ns + length y ≡ p + length (x ++ y) = omega (arith, length-append x y) in
        let w = elements-walk h (p + 4 * length ns) (rw next at (here-second s p x y e)) in
        walks-as end refl refl
        (array-walks o s (λ q. walk_all o (cons t nil) s q) c k p (p + 4 * length ns + length y) ns (element_pieces (p + 4 * length ns) (cons t nil) vs)
        (flatten_elements (other o) (cons t nil) vs) l b (here-first s p x y e)
        (record { walks = ap (λ (j : ℕ). repeat (λ q. walk_all o (cons t nil) s q) j (p + 4 * length ns)) (sym (n ∙ sizes-product ns)) ∙ w.walks; turns = w.turns }))
    value-walks (cluster h) p e = members-walk h p e
    value-walks (stamp h) p e = members-walk h p e

    -- an array's elements
    pub elements-walk : {t : Tree} {vs : Values} → AllFit t vs → (p : ℕ) → Here s p (flatten_elements o (cons t nil) vs)
        → Walks s (p + length (flatten_elements o (cons t nil) vs)) (element_pieces p (cons t nil) vs) (flatten_elements (other o) (cons t nil) vs)
        (repeat (λ q. walk_all o (cons t nil) s q) (count vs) p)
    elements-walk without p e = walks-as (let z : p ≡ p + 0 = omega arith in z) refl refl (walks-none s p)
    elements-walk (element {e = t} {v = v} {vs = vs} h hs) p e =
        let x : List ℕ = flatten o t v in
        let y : List ℕ = flatten_elements o (cons t nil) vs in
        let end : p + length x + length y ≡ p + length (x ++ y) = omega (arith, length-append x y) in
        let next : p + length x ≡ p + length (flatten big t v) = ap (λ (k : ℕ). p + k) (value-length o big h) in
        let one = walks-then (λ q. read q []) (value-walks h p (here-first s p x y e)) (walks-none s (p + length x)) in
        let rest = elements-walk hs (p + length x) (here-second s p x y e) in
        walks-as end
        (ap₂ (λ (u w : List Token). u ++ w) (append-nil (pieces_at p t v)) (ap (λ (k : ℕ). element_pieces k (cons t nil) vs) next))
        (ap (λ (u : List ℕ). u ++ flatten_elements (other o) (cons t nil) vs) (append-nil (flatten (other o) t v)))
        (walks-then (λ q. repeat (λ k. walk_all o (cons t nil) s k) (count vs) q) one rest)

    -- a cluster's members
    members-walk : {f : Forest} {vs : Values} → EachFits f vs → (p : ℕ) → Here s p (flatten_members o f vs)
        → Walks s (p + length (flatten_members o f vs)) (member_pieces p f vs) (flatten_members (other o) f vs) (walk_all o f s p)
    members-walk done p e = walks-as (let z : p ≡ p + 0 = omega arith in z) refl refl (walks-none s p)
    members-walk (member {t = t} {f = f} {v = v} {vs = vs} h hs) p e =
        let x : List ℕ = flatten o t v in
        let y : List ℕ = flatten_members o f vs in
        let end : p + length x + length y ≡ p + length (x ++ y) = omega (arith, length-append x y) in
        let next : p + length x ≡ p + length (flatten big t v) = ap (λ (k : ℕ). p + k) (value-length o big h) in
        let one = value-walks h p (here-first s p x y e) in
        let rest = members-walk hs (p + length x) (here-second s p x y e) in
        walks-as end (ap (λ (k : ℕ). pieces_at p t v ++ member_pieces k f vs) next) refl (walks-then (λ q. walk_all o f s q) one rest)
