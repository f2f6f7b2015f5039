-- "Each piece starts exactly where the one before it ended": the tokens that a walk reads are a chain from its start to its end, in either
-- byte order. Rests on the definitions of the walk, and on types whose every token takes a byte.
use mathlib.Core.Path.{refl}
use mathlib.Core.Bool.{Bool, true}
use mathlib.Core.List.{List, ◌++◌}
use Prim.Native.Nat.{ℕ, zero, suc, ◌+◌, ◌<◌, ◌≤◌}
use native.Mathlib.Omega.{arith}
use borrow.Author.Tests.{leb-true}
use lib.Dec.{leb, ltb}
use lib.ListN.{length}
use Rattle.descriptor.specs.Limits.{length_limit}
use Rattle.descriptor.specs.Outcome.{Outcome}
use Rattle.descriptor.specs.Tree.{Fields, empty, items, pairs, text, dimensions, members, subtype, Tree, node, Forest, nil, cons}
use Rattle.descriptor.specs.Width.{width_of}
use Rattle.descriptor.proofs.Outcomes.{Holds, found, holds-require, holds-and_then}
use Rattle.flattened.specs.Order.{Order, number_at}
use Rattle.flattened.specs.Token.{Token, Chain, done, link}
use Rattle.flattened.specs.Walk.{scalar_at, text_at, follow, repeat, walk_fields, walk, walk_all}
use Rattle.flattened.specs.inner.Types.{SolidFields, Solid, AllSolid}
use Rattle.flattened.proofs.Forward.{sizes-end}

-- a chain ends no earlier than it starts
pub chain-order : {a b : ℕ} {ts : List Token} → Chain a ts b → a ≤ b
chain-order done = omega arith
chain-order (link e h c) = omega (arith, chain-order c)

-- one chain after another
pub chain-append : {a b c : ℕ} {ts us : List Token} → Chain a ts b → Chain b us c → Chain a (ts ++ us) c
chain-append done d = d
chain-append (link e h c) d = link e h (chain-append c d)

-- from `at` up to q, in the data
pub record Chained (s : List ℕ) (at q : ℕ) (ts : List Token) : Type 0 where
  pub chain : Chain at ts q
  pub inside : q ≤ length s

module _ (s : List ℕ) where
  -- one part and the next
  chain-follow : {at : ℕ} {o : Outcome (List Token)} (g : ℕ → Outcome (List Token)) → Holds (λ q ts. Chained s at q ts) o
      → ((q : ℕ) → q ≤ length s → Holds (λ r us. Chained s q r us) (g q)) → Holds (λ r us. Chained s at r us) (follow o g)
  chain-follow g h k =
      holds-and_then h (λ q ts e. holds-and_then (k q e.inside) (λ r us f. found (record { chain = chain-append e.chain f.chain; inside = f.inside })))

  -- a scalar that has a width
  scalar-chain : (c at : ℕ) (fits : Bool) → 0 < width_of c → Holds (λ q ts. Chained s at q ts) (scalar_at c s at fits)
  unfolding scalar_at
  scalar-chain c at fits some =
      holds-require (leb (at + width_of c) (length s)) _ _ (λ room.
      holds-require fits _ _ (λ _. found (record { chain = link refl (omega arith) done; inside = leb-true _ _ room })))

  -- a string
  text-chain : (o : Order) (at : ℕ) → Holds (λ q ts. Chained s at q ts) (text_at o s at)
  unfolding text_at
  text-chain o at =
      holds-require (leb (at + 4) (length s)) _ _ (λ _.
      holds-require (ltb (number_at o s at 4) length_limit) _ _ (λ _.
      holds-require (leb (at + 4 + number_at o s at 4) (length s)) _ _ (λ room.
      found (record { chain = link refl (omega arith) done; inside = leb-true _ _ room }))))

  -- parts in a row
  repeat-chain : (f : ℕ → Outcome (List Token)) → ((a : ℕ) → a ≤ length s → Holds (λ q ts. Chained s a q ts) (f a)) → (n at : ℕ) → at ≤ length s
      → Holds (λ q ts. Chained s at q ts) (repeat f n at)
  unfolding repeat
  repeat-chain f each zero at h = found (record { chain = done; inside = h })
  repeat-chain f each (suc n) at h = chain-follow (λ a. repeat f n a) (each at h) (λ q l. repeat-chain f each n q l)

  -- a type's fields, where what stands inside is walked by `inside`
  fields-chain : (o : Order) (c : ℕ) (b : Fields) (f : Forest) (inside : ℕ → Outcome (List Token)) → SolidFields c b f
      → ((a : ℕ) → a ≤ length s → Holds (λ q ts. Chained s a q ts) (inside a)) → (at : ℕ) → at ≤ length s
      → Holds (λ q ts. Chained s at q ts) (walk_fields o c b inside s at)
  unfolding walk_fields SolidFields
  fields-chain o c empty f inside some each at h = scalar-chain c at true some
  fields-chain o c (items xs) f inside some each at h = scalar-chain c at (ltb (number_at o s at (width_of c)) (length xs)) some
  fields-chain o c (pairs ps) f inside some each at h = scalar-chain c at true some
  fields-chain o c text f inside some each at h = text-chain o at
  fields-chain o c (dimensions k) f inside some each at h =
      holds-and_then (sizes-end s o k at) (λ next n e.
      holds-and_then (repeat-chain inside each n next e.1) (λ last ts r.
      found (record { chain = link refl (omega (arith, some.0, e.0)) r.chain; inside = r.inside })))
  fields-chain o c (members k) f inside some each at h = each at h
  fields-chain o c subtype f inside some each at h = each at h

  mutual
    unfolding walk Solid

    -- a type
    pub walk-chain : (t : Tree) → Solid t → (o : Order) (at : ℕ) → at ≤ length s → Holds (λ q ts. Chained s at q ts) (walk o t s at)
    walk-chain (node c b f m) solid o at h =
        fields-chain o c b f (λ p. walk_all o f s p) solid.0 (λ a l. all-chain f solid.1 o a l) at h

    -- types in a row
    all-chain : (f : Forest) → AllSolid f → (o : Order) (at : ℕ) → at ≤ length s → Holds (λ q ts. Chained s at q ts) (walk_all o f s at)
    all-chain nil solid o at h = found (record { chain = done; inside = h })
    all-chain (cons t f) solid o at h =
        chain-follow (λ next. walk_all o f s next) (walk-chain t solid.0 o at h) (λ q l. all-chain f solid.1 o q l)
