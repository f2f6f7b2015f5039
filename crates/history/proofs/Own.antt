-- Document 02, CR 4, "then the record's own": the refusals of reading a record's identifier are the descriptor's, 1 to 12 with input 1, the data's, 20
-- to 23 and 25 with input 3, 41 with input 1 where the top is no cluster, and 42 to 44 with input 2 for the member "blank", from 41 on all with place 0.
-- The shape is never refused.
-- The public entry is store_add; a check takes each of them for a bad entry. Rests on the numbers of a record's refusals, and on the shape.
use mathlib.Core.Path.{◌≡◌, refl, subst}
use mathlib.Core.Logic.{◌≢◌}
use mathlib.Core.Bool.{true}
use mathlib.Core.List.{List, [], ◌∷◌}
use Prim.Native.Nat.{ℕ, ◌≤◌}
use native.Mathlib.Omega.{arith}
use borrow.Author.Tests.{leb-true}
use lib.Dec.{leb}
use Rattle.number.specs.Endian.{be}
use Rattle.descriptor.specs.Codes.{between}
use Rattle.descriptor.specs.Tree.{empty, items, pairs, text, dimensions, members, subtype, Tree, node, inside_at}
use Rattle.descriptor.specs.Outcome.{read, Verdict, denied, granted, settle}
use Rattle.descriptor.specs.Check.{checked}
use Rattle.descriptor.proofs.Outcomes.{holds_read, judge-so, Refuses, accepted as reading, refusing, refuses-so, refuses-require, refuses-and}
use Rattle.descriptor.proofs.Sizes.{and-true}
use Rattle.descriptor.proofs.Places.{refused-range}
use Rattle.canonical.specs.Equality.{same_tree}
use Rattle.flattened.specs.Order.{big}
use Rattle.flattened.specs.Token.{Token}
use Rattle.flattened.specs.Walk.{walk_fields, walk, walked}
use Rattle.resolution.specs.Record.{Member, writer_fields, writer_members, member_found, member_bytes, joined_bytes, record_bytes}
use Rattle.demands.proofs.Numbers.{Numbers, numbers, OneOf, here, further, only, of_descriptor, of_walk, walk-one, writer-numbers, joined_numbers}
use Rattle.demands.proofs.Members.{members-listed}
use Rattle.demands.proofs.Resolved.{walked-walk}
use Rattle.store.specs.Book.{shape, identified}
use Rattle.history.proofs.Shape.{shape_members, shape-read, shape-members}

-- the numbers of the record's own refusals, and others
abbrev pub of_own : List Numbers → List Numbers
of_own ns = of_descriptor 1 ∷ of_walk (numbers 41 41 1 ∷ numbers 42 44 2 ∷ ns)

-- a verdict that is a refusal only with one of these, and from 41 on only with place 0
data Denies {A : Type 0} (ns : List Numbers) : Verdict A → Type 0 where
  granting : {x : A} → Denies ns (granted x)
  denying : {number input place : ℕ} → OneOf ns number input → (41 ≤ number → place ≡ 0) → Denies ns (denied number input place)

-- what lies between two numbers
least : (low high n : ℕ) → between low high n ≡ true → low ≤ n
least low high n h = leb-true low n (and-true (leb low n) (leb n high) h).0

most : (low high n : ℕ) → between low high n ≡ true → n ≤ high
most low high n h = leb-true n high (and-true (leb low n) (leb n high) h).1

-- the data's numbers are below 41
walk-below : {n i : ℕ} → OneOf (of_walk []) n i → n ≤ 25
walk-below {n} (here h) = let few : n ≤ 23 = most 20 23 n h in omega arith
walk-below {n} (further (here h)) = most 25 25 n h
walk-below (further (further h)) = elim h [ ]

-- 41, "rig's top is no cluster", has place 0
writer-place : (t : Tree) (s : List ℕ) (q : ℕ) (ts : List Token) → walk big t s 0 ≡ read q ts → Refuses (λ number place. place ≡ 0) (writer_members t s)
unfolding writer_fields walk walk_fields
writer-place (node c empty f m) s q ts e = refusing refl
writer-place (node c (items xs) f m) s q ts e = refusing refl
writer-place (node c (pairs ps) f m) s q ts e = refusing refl
writer-place (node c text f m) s q ts e = refusing refl
writer-place (node c (dimensions k) f m) s q ts e = refusing refl
writer-place (node c (members k) f m) s q ts e = rw (holds_read e (members-listed s f (inside_at 0 (members k)) 0)).1 reading
writer-place (node c subtype f m) s q ts e = refusing refl

-- "42, 43, 44 .. reader's member" have its number
found-place : (j : ℕ) (t : Tree) (ms : List Member) → Refuses (λ number place. place ≡ j) (member_found j t ms)
unfolding member_found
found-place j t [] = refusing refl
found-place j t (m ∷ []) = refuses-require (same_tree t m.type) 44 j (λ _. refl) (λ _. reading)
found-place j t (m ∷ n ∷ ms) = refusing refl

-- which is 0 for the shape's only one
shape-place : (s : List ℕ) (ms : List Member) → Refuses (λ number place. place ≡ 0) (joined_bytes 0 shape_members s ms)
unfolding joined_bytes member_bytes
shape-place s ms = refuses-and (refuses-and (found-place 0 _ _) (λ _ _. reading)) (λ _ _. reading)

module _ {ns : List Numbers} where
  record-denies : (d x : List ℕ) → Denies (of_own ns) (record_bytes d shape x)
  unfolding record_bytes
  record-denies d x =
      judge-so P denied 1 (checked d) (λ _. _)
      (λ n p e. let range = refused-range d n p e in denying (here range) (λ h. absurd (omega (arith, most 1 12 n range)))) (λ _ t _.
      rw shape-read
      (judge-so P denied 3 (walked big t x) (λ _. _)
      (λ n p e. denying (further (walk-one big t x n p e)) (λ h. absurd (omega (arith, walk-below (walk-one big t x n p e))))) (λ q ts walks.
      rw shape-members
      (judge-so P denied 1 (writer_members t x) (λ _. _)
      (λ n p e.
      let walk-read = (holds_read walks (walked-walk t x)).1 in
      denying (past (only (refuses-so e (writer-numbers t x q ts walk-read)))) (λ _. refuses-so e (writer-place t x q ts walk-read))) (λ _ ms _.
      judge-so P denied 2 (joined_bytes 0 shape_members x ms) granted
      (λ n p e. denying (past (further (here (refuses-so e (joined_numbers shape_members 0 x ms))))) (λ _. refuses-so e (shape-place x ms))) (λ _ xs _. granting))))))
    where
      P : Verdict (List ℕ) → Type 0
      P v = Denies (of_own ns) v

      -- past the numbers of the descriptor and of the data
      past : {ms : List Numbers} {number input : ℕ} → OneOf ms number input → OneOf (of_descriptor 1 ∷ of_walk ms) number input
      past i = further (further (further i))

  identified-denies : (d x : List ℕ) → Denies (of_own ns) (identified d x)
  unfolding identified
  identified-denies d x = of (record-denies d x)
    where
      of : {v : Verdict (List ℕ)} → Denies (of_own ns) v → Denies (of_own ns) (settle denied (λ bytes. granted (be bytes 0 4)) v)
      of granting = granting
      of (denying i p) = denying i p

  denies-so : (d x : List ℕ) (number input place : ℕ) → identified d x ≡ denied number input place
      → OneOf (of_own ns) number input × (41 ≤ number → place ≡ 0)
  denies-so d x number input place e = of (subst (λ (v : Verdict ℕ). Denies (of_own ns) v) e (identified-denies d x))
    where
      of : {n i p : ℕ} → Denies {A = ℕ} (of_own ns) (denied n i p) → OneOf (of_own ns) n i × (41 ≤ n → p ≡ 0)
      of (denying i p) = (i, p)

  -- "then the record's own": which numbers these are, and with which input
  pub own-numbers : (d x : List ℕ) (number input place : ℕ) → identified d x ≡ denied number input place → OneOf (of_own ns) number input
  own-numbers d x number input place e = (denies-so d x number input place e).0

-- a refusal of reading an identifier
module _ (d x : List ℕ) (number input place : ℕ) (e : identified d x ≡ denied number input place) where
  -- its number is not 0
  pub own-some : number ≢ 0
  own-some zero = of (own-numbers {ns = []} d x number input place e) zero
    where
      above : (low high n : ℕ) → between low high n ≡ true → 1 ≤ low → n ≢ 0
      above low high n h some z = omega (arith, least low high n h)

      of : {n i : ℕ} → OneOf (of_own []) n i → n ≢ 0
      of {n} (here h) = above 1 12 n h (omega arith)
      of {n} (further (here h)) = above 20 23 n h (omega arith)
      of {n} (further (further (here h))) = above 25 25 n h (omega arith)
      of {n} (further (further (further (here h)))) = above 41 41 n h (omega arith)
      of {n} (further (further (further (further (here h))))) = above 42 44 n h (omega arith)
      of (further (further (further (further (further h))))) = elim h [ ]

  -- "41 .. 0": input 1, place 0
  pub own-41 : number ≡ 41 → (input ≡ 1) × (place ≡ 0)
  own-41 h =
      let y = denies-so {ns = []} d x number input place e in (of y.0 h, y.1 (omega arith))
    where
      of : {n i : ℕ} → OneOf (of_own []) n i → n ≡ 41 → i ≡ 1
      of {n} (here h) g = absurd (omega (arith, most 1 12 n h))
      of {n} (further (here h)) g = absurd (omega (arith, most 20 23 n h))
      of {n} (further (further (here h))) g = absurd (omega (arith, most 25 25 n h))
      of {n} (further (further (further (here h)))) g = refl
      of {n} (further (further (further (further (here h))))) g = absurd (omega (arith, least 42 44 n h))
      of (further (further (further (further (further h))))) g = elim h [ ]

  -- "42, 43, 44 .. reader's member", of which the shape has one: input 2, place 0; none is higher
  pub own-member : 42 ≤ number → (number ≤ 44) × (input ≡ 2) × (place ≡ 0)
  own-member h =
      let y = denies-so {ns = []} d x number input place e in
      let member = of y.0 h in
      (member.0, member.1, y.1 (omega arith))
    where
      of : {n i : ℕ} → OneOf (of_own []) n i → 42 ≤ n → (n ≤ 44) × (i ≡ 2)
      of {n} (here h) g = absurd (omega (arith, most 1 12 n h))
      of {n} (further (here h)) g = absurd (omega (arith, most 20 23 n h))
      of {n} (further (further (here h))) g = absurd (omega (arith, most 25 25 n h))
      of {n} (further (further (further (here h)))) g = absurd (omega (arith, most 41 41 n h))
      of {n} (further (further (further (further (here h))))) g = (most 42 44 n h, refl)
      of (further (further (further (further (further h))))) g = elim h [ ]
