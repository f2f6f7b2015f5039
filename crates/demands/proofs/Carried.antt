-- What a reader gets is the flattening of values: for each of its members, the value that the rig's data has for the one member of that name and
-- equal type. All of it is apart from the walk but for `Gets`, which it is about.
-- The public entry whose contract uses these definitions is read_record. Rests on the laws of values and of demand 3.
use mathlib.Core.Path.{◌≡◌, refl, sym, ap, subst, ◌∙◌}
use mathlib.Core.List.{List, ◌++◌}
use Prim.Native.Nat.{ℕ, ◌+◌}
use native.Mathlib.Omega.{arith}
use lib.ListN.{length}
use Rattle.descriptor.specs.Tree.{Tree, node, Forest, nil, cons, members}
use Rattle.descriptor.proofs.Outcomes.{holds_read}
use Rattle.flattened.specs.Order.{big}
use Rattle.flattened.specs.Token.{Token, joined}
use Rattle.values.specs.Value.{Value, numbers, characters, parts, elements, Values, none, also, Fits, cluster, EachFits, done, member, flatten, flatten_members, Data, Here}
use Rattle.values.proofs.Places.{here-whole, here-first, here-second, here-up-to}
use Rattle.values.proofs.Complete.{value-walks}
use Rattle.demands.proofs.Shape.{Rig, FoundOnce, Gives, first, after, Gets, nothing, more}
use Rattle.demands.proofs.Pieces.{goes-walk}
use Rattle.demands.proofs.Members.{same_end}

-- the member t of a cluster's members has the value v
pub data HasValue (t : Tree) (v : Value) : Forest → Values → Type 0 where
  here : {f : Forest} {vs : Values} → HasValue t v (cons t f) (also v vs)
  further : {u : Tree} {w : Value} {f : Forest} {vs : Values} → HasValue t v f vs → HasValue t v (cons u f) (also w vs)

-- for each of the reader's members in order, the value of the one rig member of that name and equal type: the rig's members are f, their
-- values vs
pub data Carries (f : Forest) (vs : Values) : Forest → Values → Type 0 where
  without : Carries f vs nil none
  with : {t : Tree} {v : Value} {g : Forest} {us : Values} → FoundOnce t f → HasValue t v f vs → Carries f vs g us
      → Carries f vs (cons t g) (also v us)

module _ (s : List ℕ) where
  -- a member's tokens are over the bytes of its value
  record Holding (t : Tree) (ts : List Token) (f : Forest) (vs : Values) : Type 0 where
    value : Value
    fits : Fits t value
    has : HasValue t value f vs
    bytes : joined s ts ≡ flatten big t value

  gives-holding : {t : Tree} {ts : List Token} {f : Forest} {at : ℕ} → Gives s t ts f at → (vs : Values) → EachFits f vs → Here s at (flatten_members big f vs)
      → Holding t ts f vs
  unfolding flatten
  gives-holding (first e) none g h = elim g [ ]
  gives-holding (first {f = f} {at = at} {stop = stop} e) (also v vs) (member g gs) h =
      let x : List ℕ = flatten big _ v in
      let there = here-first s at x (flatten_members big f vs) h in
      let end : stop ≡ at + length x = same_end (value-walks big s g at there).walks e in
      let over = holds_read e (goes-walk s big _ at (omega (arith, there.within))) in
      record { value = v; fits = g; has = here; bytes = over.bytes ∙ here-up-to s at stop x there end }
  gives-holding (after e rest) none g h = elim g [ ]
  gives-holding (after {t = u} {f = f} {at = at} {next = q} e rest) (also v vs) (member g gs) h =
      let x : List ℕ = flatten big u v in
      let there = here-first s at x (flatten_members big f vs) h in
      let end : q ≡ at + length x = same_end (value-walks big s g at there).walks e in
      let held = gives-holding rest vs gs (subst (λ (p : ℕ). Here s p (flatten_members big f vs)) (sym end) (here-second s at x (flatten_members big f vs) h)) in
      record { value = held.value; fits = held.fits; has = further held.has; bytes = held.bytes }

  -- the values of what a reader gets
  pub record Carried (f : Forest) (vs : Values) (g : Forest) (xs : List ℕ) : Type 0 where
    pub values : Values
    pub carries : Carries f vs g values
    pub fits : EachFits g values
    pub bytes : xs ≡ flatten_members big g values

  gets-carried : {f g : Forest} {xs : List ℕ} → Gets s f g xs → (vs : Values) → EachFits f vs → Here s 0 (flatten_members big f vs) → Carried f vs g xs
  unfolding flatten
  gets-carried nothing vs fits h = record { values = none; carries = without; fits = done; bytes = refl }
  gets-carried (more {t = t} {xs = xs} once gives rest) vs fits h =
      let held = gives-holding gives vs fits h in
      let others = gets-carried rest vs fits h in
      record {
        values = also held.value others.values;
        carries = with once held.has others.carries;
        fits = member held.fits others.fits;
        bytes = ap (λ (y : List ℕ). y ++ xs) held.bytes ∙ ap (λ (y : List ℕ). flatten big t held.value ++ y) others.bytes;
      }

-- a rig record whose data is that of the members' values vs
pub gets-values : (w s : List ℕ) (f : Forest) (rig : Rig w s f) (vs : Values) → EachFits f vs → s ≡ flatten_members big f vs
    → (g : Forest) (xs : List ℕ) → Gets s f g xs → Carried s f vs g xs
gets-values w s f rig vs fits e g xs x = gets-carried s x vs fits (subst (λ (y : List ℕ). Here s 0 y) e (here-whole s))

-- every rig record's data is such
pub rig-values : (w s : List ℕ) (f : Forest) (rig : Rig w s f) → Data big rig.cluster.described.tree s
    → (vs : Values) × EachFits f vs × (s ≡ flatten_members big f vs)
unfolding flatten
rig-values w s f rig y = of rig.cluster.described.tree rig.cluster.top y.value y.fits y.bytes
  where
    of : (t : Tree) → t ≡ node rig.cluster.code (members rig.cluster.count) f rig.cluster.name → (v : Value) → Fits t v → s ≡ flatten big t v
        → (vs : Values) × EachFits f vs × (s ≡ flatten_members big f vs)
    of t top v fits bytes = taken v (subst (λ (u : Tree). Fits u v) top fits) (bytes ∙ ap (λ (u : Tree). flatten big u v) top)
      where
        taken : (v : Value) → Fits (node rig.cluster.code (members rig.cluster.count) f rig.cluster.name) v
            → s ≡ flatten big (node rig.cluster.code (members rig.cluster.count) f rig.cluster.name) v
            → (vs : Values) × EachFits f vs × (s ≡ flatten_members big f vs)
        taken (numbers ns) g e = elim g [ ]
        taken (characters cs) g e = elim g [ ]
        taken (elements ns vs) g e = elim g [ ]
        taken (parts vs) (cluster gs) e = (vs, gs, e)
