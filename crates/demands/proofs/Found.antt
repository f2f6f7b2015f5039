-- Whose row the search for a name finds: that of the one rig's member with that name, as the rig's own table has it.
-- The search stands in the record in a reader's shape. Rests on the definitions of the search and of the table.
use mathlib.Core.Path.{◌≡◌, refl, sym, ap, subst, ◌∙◌}
use mathlib.Core.Logic.{◌⊎◌, ⊎_elim, inl, inr}
use mathlib.Core.Bool.{Bool, true, false, cond}
use mathlib.Core.List.{List, [], ◌∷◌, ◌++◌}
use Prim.Native.Nat.{ℕ, ◌+◌}
use native.Mathlib.Omega.{arith}
use Rattle.descriptor.specs.Tree.{Name, members, Tree, node, Forest, nil, cons, inside_at, tree_size}
use Rattle.descriptor.specs.Outcome.{read}
use Rattle.descriptor.specs.Table.{row_of, rows_of, forest_rows_of}
use Rattle.descriptor.specs.Answers.{descriptor_check}
use Rattle.descriptor.specs.declared.answer.Row.{Row}
use Rattle.descriptor.proofs.Outcomes.{Holds, found, holds_read, holds-and_then, holds-self}
use Rattle.flattened.specs.Order.{big}
use Rattle.flattened.specs.Walk.{walk}
use Rattle.resolution.specs.Record.{Member, members_from, matches, namesakes, searched}
use Rattle.resolution.specs.declared.Search.TheVariants.{Found}
use Rattle.demands.proofs.Accepted.{Described, described-read}

-- x stands in a list
unfoldable pub Among : {A : Type 0} → A → List A → Type 0
Among x [] = ⊥
Among x (y ∷ ys) = (x ≡ y) ⊎ Among x ys

-- in the second of two lists
in-second : {A : Type 0} (x : A) (xs ys : List A) → Among x ys → Among x (xs ++ ys)
unfolding Among
in-second x [] ys h = h
in-second x (y ∷ xs) ys h = inr (in-second x xs ys h)

-- a descriptor's row is the first of its rows
own_row : (t : Tree) (p depth : ℕ) (more : List Row) → Among (row_of p depth t) (rows_of p depth t ++ more)
unfolding rows_of Among
own_row (node c b f m) p depth more = inl refl

-- every member's row is one of the table's
tabulated : (f : Forest) (place : ℕ) (s : List ℕ) (at : ℕ)
    → Holds (λ q ms. (m : Member) → Among m ms → Among m.row (forest_rows_of place 2 f)) (members_from f place s at)
unfolding members_from rows_of Among
tabulated nil place s at = found (λ m h. absurd h)
tabulated (cons t f) place s at =
    holds-and_then (holds-self (walk big t s at)) (λ next ts _.
    holds-and_then (tabulated f (place + tree_size t) s next) (λ last ms rest.
    found (λ m h.
    ⊎_elim
    (λ e.
    subst (λ (y : Row). Among y (rows_of place 2 t ++ forest_rows_of (place + tree_size t) 2 f)) (sym (ap (λ (y : Member). y.row) e))
    (own_row t place 2 (forest_rows_of (place + tree_size t) 2 f)))
    (λ l. in-second m.row (rows_of place 2 t) (forest_rows_of (place + tree_size t) 2 f) (rest m l)) h)))

-- a namesake is a member with the name
namesake : (t : Tree) (ms : List Member) (m : Member) → Among m (namesakes t ms) → Among m ms × (matches t m.type ≡ true)
unfolding namesakes Among
namesake t [] m h = absurd h
namesake t (n ∷ ms) m h = go (matches t n.type) refl h (namesake t ms m)
  where
    go : (b : Bool) → matches t n.type ≡ b → Among m (cond b (n ∷ namesakes t ms) (namesakes t ms))
        → (Among m (namesakes t ms) → Among m ms × (matches t m.type ≡ true)) → Among m (n ∷ ms) × (matches t m.type ≡ true)
    go true e h later =
        ⊎_elim (λ q. (inl q, ap (λ (y : Member). matches t y.type) q ∙ e)) (λ l. let r = later l in (inr r.0, r.1)) h
    go false e h later = let r = later h in (inr r.0, r.1)

-- a row that is found is its one namesake's
only : (ms : List Member) (r : Row) → searched ms ≡ Found r → (m : Member) × (Among m ms × (r ≡ m.row))
unfolding searched Among
only [] r e = absurd (let z : ◌≡◌ {A = ℕ} 0 1 = cc in omega arith)
only (m ∷ []) r e = (m, (inl refl, (cc)))
only (m ∷ n ∷ ms) r e = absurd (let z : ◌≡◌ {A = ℕ} 0 1 = cc in omega arith)

-- The rig's descriptor w is a cluster, and its members in the data s are listed: the row that a search for the name of the reader's member
-- t finds is that of a member with that name, and stands in the rig's table.
module _ (w s : List ℕ) (x : Described w) (c k q : ℕ) (f : Forest) (n : Name) (is : x.tree ≡ node c (members k) f n) (ms : List Member)
    (listed : members_from f (inside_at 0 (members k)) s 0 ≡ read q ms) where
  pub record Whose (t : Tree) (r : Row) : Type 0 where
    pub member : Member
    pub among : Among member ms
    pub name : matches t member.type ≡ true
    pub row : r ≡ member.row
    pub tabled : Among r (descriptor_check w).rows

  rows_are : (descriptor_check w).rows ≡ rows_of 0 1 (node c (members k) f n)
  unfolding descriptor_check
  rows_are = rw (described-read w x) (ap (λ (u : Tree). rows_of 0 1 u) is)

  pub found-row : (t : Tree) (r : Row) → searched (namesakes t ms) ≡ Found r → Whose t r
  unfolding rows_of Among
  found-row t r e =
      let one = only (namesakes t ms) r e in
      let here-is = namesake t ms one.0 one.1.0 in
      let stands : Among one.0.row (forest_rows_of (inside_at 0 (members k)) 2 f) =
      holds_read listed (tabulated f (inside_at 0 (members k)) s 0) one.0 here-is.0 in
      record {
        member = one.0;
        among = here-is.0;
        name = here-is.1;
        row = one.1.1;
        tabled =
            subst (λ (y : Row). Among y (descriptor_check w).rows) (sym one.1.1)
            (subst (λ (rows : List Row). Among one.0.row rows) (sym rows_are) (inr stands));
      }
