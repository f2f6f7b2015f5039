-- What a refusal of data says: its number is one of 20 to 23, or 25, never 0, so that 0 means accepted; and its place lies in the data or right
-- after it, where the walk starts there. Rests on the definitions of the walk alone.
use mathlib.Core.Path.{◌≡◌, refl, subst}
use mathlib.Core.Bool.{Bool, true, false, ◌||◌}
use mathlib.Core.List.{List}
use Prim.Native.Nat.{ℕ, zero, suc, ◌+◌, ◌*◌, ◌<◌, ◌≤◌}
use native.Mathlib.Omega.{arith}
use borrow.Author.Tests.{leb-true}
use lib.Dec.{leb, ltb, eqb}
use lib.ListN.{length}
use Rattle.descriptor.specs.Limits.{data_limit, length_limit}
use Rattle.descriptor.specs.Codes.{between}
use Rattle.descriptor.specs.Width.{width_of}
use Rattle.descriptor.specs.Tree.{Fields, empty, items, pairs, text, dimensions, members, subtype, Tree, node, Forest, nil, cons}
use Rattle.descriptor.specs.Outcome.{Outcome, refused, read, and_then, require}
use Rattle.descriptor.proofs.Steps.{impossible}
use Rattle.flattened.specs.Order.{Order, number_at}
use Rattle.flattened.specs.Token.{Token}
use Rattle.flattened.specs.Walk.{scalar_at, text_at, sizes_at, sizes_fit, array_at, follow, repeat, walk_fields, walk, walk_all, walked}

-- a number of data's refusals
abbrev pub of_data : ℕ → Bool
of_data number = between 20 23 number || eqb number 25

-- none of them is 0
of-data-some : (number : ℕ) → of_data number ≡ true → 0 < number
of-data-some zero e = impossible e
of-data-some (suc number) e = omega arith

module _ (s : List ℕ) where
  -- what is read ends in the data; a refusal has a number and a place in it
  data Kept {A : Type 0} : Outcome A → Type 0 where
    reading : {q : ℕ} {x : A} → q ≤ length s → Kept (read q x)
    refusing : {number place : ℕ} → of_data number ≡ true → place ≤ length s → Kept (refused number place)

  -- what follows a test may rest on it
  kept-require : {A : Type 0} (b : Bool) (number place : ℕ) {o : Outcome A} → of_data number ≡ true → place ≤ length s → (b ≡ true → Kept o)
      → Kept (require b number place o)
  kept-require true number place n l k = k refl
  kept-require false number place n l k = refusing n l

  -- what follows a reading
  kept-and_then : {A B : Type 0} {o : Outcome A} {next : ℕ → A → Outcome B} → Kept o → ((q : ℕ) (x : A) → q ≤ length s → Kept (next q x))
      → Kept (and_then o next)
  kept-and_then (reading l) f = f _ _ l
  kept-and_then (refusing n l) f = refusing n l

  -- one part and the next
  kept-follow : {o : Outcome (List Token)} {next : ℕ → Outcome (List Token)} → Kept o → ((q : ℕ) → q ≤ length s → Kept (next q)) → Kept (follow o next)
  kept-follow k f = kept-and_then k (λ q ts l. kept-and_then (f q l) (λ r us m. reading m))

  -- a scalar
  scalar-kept : (c p : ℕ) (fits : Bool) → p ≤ length s → Kept (scalar_at c s p fits)
  unfolding scalar_at
  scalar-kept c p fits l =
      kept-require (leb (p + width_of c) (length s)) 21 p refl l (λ room. kept-require fits 23 p refl l (λ _. reading (leb-true _ _ room)))

  -- parts in a row
  repeat-kept : (f : ℕ → Outcome (List Token)) → ((p : ℕ) → p ≤ length s → Kept (f p)) → (n p : ℕ) → p ≤ length s → Kept (repeat f n p)
  unfolding repeat
  repeat-kept f h zero p l = reading l
  repeat-kept f h (suc n) p l = kept-follow (h p l) (λ q m. repeat-kept f h n q m)

  -- a type's fields
  fields-kept : (o : Order) (c : ℕ) (fs : Fields) (inside : ℕ → Outcome (List Token)) → ((p : ℕ) → p ≤ length s → Kept (inside p)) → (p : ℕ)
      → p ≤ length s → Kept (walk_fields o c fs inside s p)
  unfolding walk_fields text_at array_at
  fields-kept o c empty inside h p l = scalar-kept c p true l
  fields-kept o c (items xs) inside h p l = scalar-kept c p (ltb (number_at o s p (width_of c)) (length xs)) l
  fields-kept o c (pairs ps) inside h p l = scalar-kept c p true l
  fields-kept o c text inside h p l =
      kept-require (leb (p + 4) (length s)) 21 p refl l (λ _.
      kept-require (ltb (number_at o s p 4) length_limit) 22 p refl l (λ _.
      kept-require (leb (p + 4 + number_at o s p 4) (length s)) 21 p refl l (λ room. reading (leb-true _ _ room))))
  fields-kept o c (dimensions k) inside h p l =
      kept-and_then
      (kept-require (leb (p + 4 * k) (length s)) 21 p refl l (λ room.
      kept-require (sizes_fit (sizes_at o s k p)) 22 p refl l (λ _. reading (leb-true _ _ room))))
      (λ q n m. kept-and_then (repeat-kept inside h n q m) (λ r ts e. reading e))
  fields-kept o c (members k) inside h p l = h p l
  fields-kept o c subtype inside h p l = h p l

  mutual
    unfolding walk

    -- a type
    walk_kept : (t : Tree) (o : Order) (p : ℕ) → p ≤ length s → Kept (walk o t s p)
    walk_kept (node c fs f m) o p l = fields-kept o c fs (λ q. walk_all o f s q) (λ q e. all-kept f o q e) p l

    -- types in a row
    all-kept : (f : Forest) (o : Order) (p : ℕ) → p ≤ length s → Kept (walk_all o f s p)
    all-kept nil o p l = reading l
    all-kept (cons t f) o p l = kept-follow (walk_kept t o p l) (λ q e. all-kept f o q e)

  -- of a refusal, its number and its place
  kept-refused : {A : Type 0} {number place : ℕ} → Kept {A = A} (refused number place) → (of_data number ≡ true) × (place ≤ length s)
  kept-refused (refusing n l) = (n, l)

  -- a walk's refusal has its place in the data
  pub walk-place : (o : Order) (t : Tree) (p number place : ℕ) → p ≤ length s → walk o t s p ≡ refused number place → place ≤ length s
  walk-place o t p number place l e = (kept-refused (subst (λ (r : Outcome (List Token)). Kept r) e (walk_kept t o p l))).1

  -- a refusal's number is one of data's
  pub refused-of-data : (o : Order) (t : Tree) (number place : ℕ) → walked o t s ≡ refused number place → of_data number ≡ true
  unfolding walked
  refused-of-data o t number place e = (kept-refused (subst (λ (r : Outcome (List Token)). Kept r) e all)).0
    where
      all : Kept (walked o t s)
      all =
          kept-require (leb (length s) data_limit) 20 0 refl (omega arith) (λ _.
          kept-and_then (walk_kept t o 0 (omega arith)) (λ q ts l. kept-require (eqb q (length s)) 25 q refl l (λ _. reading l)))

  -- so it is above 0
  pub refused-number : (o : Order) (t : Tree) (number place : ℕ) → walked o t s ≡ refused number place → 0 < number
  refused-number o t number place e = of-data-some number (refused-of-data o t number place e)
