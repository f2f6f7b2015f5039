-- "Each piece starts exactly where the one before it ended .. Every type needs at least one byte": a walk that reads ends within the data,
-- and not before its start has been passed by as many bytes as it read tokens. Rests on the definitions of the walk.
use mathlib.Core.Path.{◌≡◌, refl}
use mathlib.Core.Bool.{Bool, true}
use mathlib.Core.List.{List}
use Prim.Native.Nat.{ℕ, zero, suc, ◌+◌, ◌*◌, ◌<◌, ◌≤◌}
use native.Mathlib.Omega.{arith}
use borrow.Author.Tests.{leb-true}
use lib.Dec.{leb, ltb}
use lib.ListN.{length, length-append}
use Rattle.descriptor.specs.Tree.{Fields, empty, items, pairs, text, dimensions, members, subtype, Tree, node, Forest, nil, cons, forest_length}
use Rattle.descriptor.specs.Outcome.{Outcome}
use Rattle.descriptor.proofs.Outcomes.{Holds, found, holds-require, holds-and_then, holds-weaken}
use Rattle.descriptor.specs.Width.{width_of}
use Rattle.descriptor.specs.Limits.{length_limit}
use Rattle.flattened.specs.Order.{Order, number_at}
use Rattle.flattened.specs.Token.{Token}
use Rattle.flattened.specs.Walk.{scalar_at, text_at, sizes_at, sizes_fit, array_at, follow, repeat, walk_fields, walk, walk_all}
use Rattle.flattened.specs.inner.Types.{SolidFields, Solid, AllSolid}

-- from `at` up to q, with at least `least` tokens, each of a byte or more
pub record Forward (s : List ℕ) (least at q : ℕ) (ts : List Token) : Type 0 where
  pub many : least ≤ length ts
  pub tokens : at + length ts ≤ q
  pub inside : q ≤ length s

module _ (s : List ℕ) where
  -- one part and the next
  forward-follow : {a b at : ℕ} {o : Outcome (List Token)} (g : ℕ → Outcome (List Token)) → Holds (λ q ts. Forward s a at q ts) o
      → ((q : ℕ) → q ≤ length s → Holds (λ r us. Forward s b q r us) (g q)) → Holds (λ r us. Forward s (a + b) at r us) (follow o g)
  forward-follow g h k =
      holds-and_then h (λ q ts e.
      holds-and_then (k q e.inside) (λ r us f.
      found (record {
        many = omega (arith, length-append ts us, e.many, f.many);
        tokens = omega (arith, length-append ts us, e.tokens, f.tokens);
        inside = f.inside;
      })))

  -- where so many tokens are read, so are fewer
  forward-least : {a b at : ℕ} {o : Outcome (List Token)} → b ≤ a → Holds (λ q ts. Forward s a at q ts) o → Holds (λ q ts. Forward s b at q ts) o
  forward-least l h = holds-weaken h (λ q ts e. record { many = omega (arith, e.many); tokens = e.tokens; inside = e.inside })

  -- a scalar that has a width
  scalar-forward : (c at : ℕ) (fits : Bool) → 0 < width_of c → Holds (λ q ts. Forward s 1 at q ts) (scalar_at c s at fits)
  unfolding scalar_at
  scalar-forward c at fits some =
      holds-require (leb (at + width_of c) (length s)) _ _ (λ room.
      holds-require fits _ _ (λ _. found (record { many = omega arith; tokens = omega arith; inside = leb-true _ _ room })))

  -- a string
  text-forward : (o : Order) (at : ℕ) → Holds (λ q ts. Forward s 1 at q ts) (text_at o s at)
  unfolding text_at
  text-forward o at =
      holds-require (leb (at + 4) (length s)) _ _ (λ _.
      holds-require (ltb (number_at o s at 4) length_limit) _ _ (λ _.
      holds-require (leb (at + 4 + number_at o s at 4) (length s)) _ _ (λ room.
      found (record { many = omega arith; tokens = omega arith; inside = leb-true _ _ room }))))

  -- size words
  pub sizes-end : (o : Order) (k at : ℕ) → Holds (λ q n. (q ≡ at + 4 * k) × (q ≤ length s)) (array_at o s k at)
  unfolding array_at
  sizes-end o k at =
      holds-require (leb (at + 4 * k) (length s)) _ _ (λ room.
      holds-require (sizes_fit (sizes_at o s k at)) _ _ (λ _. found (refl, leb-true _ _ room)))

  -- parts in a row
  pub repeat-forward : (least : ℕ) (f : ℕ → Outcome (List Token)) → ((a : ℕ) → a ≤ length s → Holds (λ q ts. Forward s least a q ts) (f a))
      → (n at : ℕ) → at ≤ length s → Holds (λ q ts. Forward s 0 at q ts) (repeat f n at)
  unfolding repeat
  repeat-forward least f each zero at h = found (record { many = omega arith; tokens = omega arith; inside = h })
  repeat-forward least f each (suc n) at h =
      forward-least (omega arith) (forward-follow (λ a. repeat f n a) (each at h) (λ q l. repeat-forward least f each n q l))

  -- a type's fields, where what stands inside is walked by `inside`
  fields-forward : (o : Order) (c : ℕ) (b : Fields) (f : Forest) (inside : ℕ → Outcome (List Token)) → SolidFields c b f
      → ((a : ℕ) → a ≤ length s → Holds (λ q ts. Forward s (forest_length f) a q ts) (inside a)) → (at : ℕ) → at ≤ length s
      → Holds (λ q ts. Forward s 1 at q ts) (walk_fields o c b inside s at)
  unfolding walk_fields SolidFields
  fields-forward o c empty f inside some each at h = scalar-forward c at true some
  fields-forward o c (items xs) f inside some each at h = scalar-forward c at (ltb (number_at o s at (width_of c)) (length xs)) some
  fields-forward o c (pairs ps) f inside some each at h = scalar-forward c at true some
  fields-forward o c text f inside some each at h = text-forward o at
  fields-forward o c (dimensions k) f inside some each at h =
      holds-and_then (sizes-end o k at) (λ next n e.
      holds-and_then (repeat-forward (forest_length f) inside each n next e.1) (λ last ts r.
      found (record { many = omega arith; tokens = omega (arith, r.tokens, some.0); inside = r.inside })))
  fields-forward o c (members k) f inside some each at h =
      forward-least some (each at h)
  fields-forward o c subtype f inside some each at h =
      forward-least some (each at h)

  mutual
    unfolding walk Solid forest_length

    -- a type
    pub walk-forward : (t : Tree) → Solid t → (o : Order) (at : ℕ) → at ≤ length s → Holds (λ q ts. Forward s 1 at q ts) (walk o t s at)
    walk-forward (node c b f m) solid o at h =
        fields-forward o c b f (λ p. walk_all o f s p) solid.0 (λ a l. all-forward f solid.1 o a l) at h

    -- types in a row
    pub all-forward : (f : Forest) → AllSolid f → (o : Order) (at : ℕ) → at ≤ length s
        → Holds (λ q ts. Forward s (forest_length f) at q ts) (walk_all o f s at)
    all-forward nil solid o at h = found (record { many = omega arith; tokens = omega arith; inside = h })
    all-forward (cons t f) solid o at h =
        forward-least (omega arith)
        (forward-follow (λ next. walk_all o f s next) (walk-forward t solid.0 o at h) (λ q l. all-forward f solid.1 o q l))
