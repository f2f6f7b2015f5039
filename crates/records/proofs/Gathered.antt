-- The members of a cluster whose data was walked: each with its row, its type, and where its bytes start and stop. Rests on the laws of
-- types in a row, and on where walks end.
use mathlib.Core.Path.{◌≡◌, refl, sym, ap, subst, ◌∙◌}
use mathlib.Core.List.{List, [], ◌∷◌}
use Prim.Native.Nat.{ℕ, zero, suc, ◌+◌, ◌-◌, ◌≤◌, ◌<◌}
use native.Mathlib.Nat.{sub-zero}
use native.Mathlib.Numerals.{add-one}
use native.Mathlib.Omega.{arith}
use lib.ListN.{length}
use Rattle.descriptor.specs.Header.{size_in}
use Rattle.descriptor.specs.Outcome.{Outcome, read, and_then}
use Rattle.descriptor.specs.Table.{row_of}
use Rattle.descriptor.specs.Tree.{Tree, Forest, tree_size}
use Rattle.descriptor.specs.inner.Standing.{next_of}
use Rattle.descriptor.proofs.Outcomes.{Holds, found, holds_read, holds-and_then, holds-self}
use Rattle.flattened.specs.Order.{big}
use Rattle.flattened.specs.Token.{Token}
use Rattle.flattened.specs.Walk.{follow, walk, walk_all}
use Rattle.flattened.specs.inner.Types.{type_at, types_at, RowStands}
use Rattle.flattened.proofs.Forward.{walk-forward}
use Rattle.flattened.proofs.Types.{RowTurn, row-turn, type-solid}
use Rattle.members.specs.inner.Members.{place_from, type_from}
use Rattle.members.proofs.InRow.{no-types, types-at, turn_at}
use Rattle.resolution.specs.Record.{Member, members_from}
use Rattle.resolution.specs.inner.Data.{data_from, member_from, members_for}
use Rattle.resolution.proofs.Walking.{data-more}

module _ (d : List ℕ) (p : ℕ) (s : List ℕ) (left : ℕ) where
  -- the members from number i on, where their data was walked
  pub gather : (n i : ℕ) → RowStands d n (place_from d p i) left
      → Holds (λ q ts. members_from (types_at d n (place_from d p i)) (place_from d p i) s (data_from d p s i) ≡ read q (members_for d p s i n))
      (walk_all big (types_at d n (place_from d p i)) s (data_from d p s i))
  unfolding members_from members_for walk_all place_from data_from next_of
  gather zero i row =
      subst (λ (f : Forest). Holds (λ q ts. members_from f (place_from d p i) s (data_from d p s i) ≡ read q []) (walk_all big f s (data_from d p s i)))
      (sym (no-types d 0 (place_from d p i) refl)) (found refl)
  gather (suc n) i row =
      let place : ℕ = place_from d p i in
      let at : ℕ = data_from d p s i in
      let t : Tree = type_at d place in
      let turn : RowTurn d n place left = row-turn d n place left row in
      let others : Forest = types_at d n (place + size_in d place) in
      let rest : List Member = members_for d p s (suc i) n in
      subst (λ (f : Forest). Holds (λ q ts. members_from f place s at ≡ read q (member_from d p s i ∷ rest)) (walk_all big f s at)) (sym turn.types)
      (holds-and_then (holds-self (walk big t s at)) (λ q ts e.
      let next : data_from d p s (suc i) ≡ q = ap next_of e in
      holds-and_then
      (subst (λ (a : ℕ). Holds (λ r us. members_from others (place + size_in d place) s a ≡ read r rest) (walk_all big others s a)) next (gather n (suc i) turn.rest))
      (λ r us f.
      found (ap (λ (o : Outcome (List Token)). and_then o (λ stop _. and_then (members_from others (place + tree_size t) s stop)
      (λ last ms. read last (record { row = row_of place 2 t; type = t; start = at; stop = stop } ∷ ms)))) e
      ∙ ap (λ (k : ℕ). and_then (members_from others (place + k) s q) (λ last ms. read last (record { row = row_of place 2 t; type = t; start = at; stop = q } ∷ ms))) turn.size
      ∙ ap (λ (o : Outcome (List Member)). and_then o (λ last ms. read last (record { row = row_of place 2 t; type = t; start = at; stop = q } ∷ ms))) f
      ∙ ap (λ (k : ℕ). read r (record { row = row_of place 2 t; type = t; start = at; stop = k } ∷ rest)) (sym next)))))

-- one walk and the next, where both were read
record Both (o : Outcome (List Token)) (g : ℕ → Outcome (List Token)) (q : ℕ) : Type 0 where
  mid : ℕ
  front : List Token
  back : List Token
  one : o ≡ read mid front
  two : g mid ≡ read q back

both : (o : Outcome (List Token)) (g : ℕ → Outcome (List Token)) → Holds (λ q ts. Both o g q) (follow o g)
both o g =
    holds-and_then (holds-self o) (λ a ts e.
    holds-and_then (holds-self (g a)) (λ q us f. found (record { mid = a; front = ts; back = us; one = e; two = f })))

module _ (d : List ℕ) (k p : ℕ) (s : List ℕ) (left end : ℕ) (tokens : List Token) (row : RowStands d k p left)
    (walks : walk_all big (types_at d k p) s 0 ≡ read end tokens) where
  -- the data from member m on was walked, and starts in the data
  record From (m : ℕ) : Type 0 where
    here : List Token
    eq : walk_all big (types_at d (k - m) (place_from d p m)) s (data_from d p s m) ≡ read end here
    inside : data_from d p s m ≤ length s

  module _ (m : ℕ) (more : m < k) (f : From m) where
    parts : Both (walk big (type_from d p m) s (data_from d p s m)) (λ a. walk_all big (types_at d (k - (m + 1)) (place_from d p (m + 1))) s a) end
    unfolding walk_all
    parts = holds_read (ap (λ (g : Forest). walk_all big g s (data_from d p s m)) (sym (types-at d k p left row m more)) ∙ f.eq)
        (both (walk big (type_from d p m) s (data_from d p s m)) (λ a. walk_all big (types_at d (k - (m + 1)) (place_from d p (m + 1))) s a))

    next-is : data_from d p s (m + 1) ≡ parts.mid
    unfolding next_of
    next-is = data-more d p s m ∙ ap next_of parts.one

    from_next : (data_from d p s m ≤ data_from d p s (m + 1)) × (data_from d p s (m + 1) ≤ length s)
    from_next =
        let ends = holds_read parts.one (walk-forward s (type_from d p m) (type-solid d (place_from d p m) left (turn_at d k p left row m more).first) big (data_from d p s m) f.inside) in
        (omega (arith, next-is, ends.tokens), omega (arith, next-is, ends.inside))

  from : (m : ℕ) → m ≤ k → From m
  unfolding place_from data_from
  from zero h = record { here = tokens; eq = ap (λ (n : ℕ). walk_all big (types_at d n p) s 0) (sub-zero k) ∙ walks; inside = omega arith }
  from (suc m) h =
      let f = from m (omega arith) in
      let more : m < k = omega arith in
      let b = parts m more f in
      subst (λ (n : ℕ). From n) (add-one m)
      (record { here = b.back; eq = ap (λ (a : ℕ). walk_all big (types_at d (k - (m + 1)) (place_from d p (m + 1))) s a) (next-is m more f) ∙ b.two; inside = (from_next m more f).1 })

  -- each member's data was walked
  pub data-walked : (m : ℕ) → m < k → (ts : List Token) × (walk big (type_from d p m) s (data_from d p s m) ≡ read (data_from d p s (m + 1)) ts)
  data-walked m h =
      let b = parts m h (from m (omega arith)) in
      (b.front, b.one ∙ ap (λ (q : ℕ). read q b.front) (sym (next-is m h (from m (omega arith)))))

  -- it starts in the data, not after the next one's
  pub data-inside : (m : ℕ) → m ≤ k → data_from d p s m ≤ length s
  data-inside m h = (from m h).inside

  pub data-order : (m : ℕ) → m < k → data_from d p s m ≤ data_from d p s (m + 1)
  data-order m h = (from_next m h (from m (omega arith))).0

  -- the members are read
  pub gathered : members_from (types_at d k p) p s 0 ≡ read end (members_for d p s 0 k)
  unfolding place_from data_from
  gathered = holds_read walks (gather d p s left k 0 row)
