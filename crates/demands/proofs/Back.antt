-- A reader whose members are the rig's own, with distinct, non-empty names, is given the data back whole; by demand 2 such is every reader whose
-- descriptor equals the rig's. The public entry whose contract uses these definitions is read_record. Rests on demand 3's theorems.
use mathlib.Core.Path.{◌≡◌, refl, sym, ap, subst, ◌∙◌}
use mathlib.Core.Logic.{◌≢◌}
use mathlib.Core.Bool.{Bool, true, false, cond}
use mathlib.Core.List.{List, ◌++◌}
use Prim.Native.Nat.{ℕ, suc, ◌≤◌}
use native.Mathlib.Omega.{arith}
use lib.ListN.{length}
use lib.Seq.{slice, slice_empty}
use Rattle.descriptor.specs.Tree.{Name, Tree, Forest, nil, cons}
use Rattle.descriptor.specs.Outcome.{read}
use Rattle.descriptor.proofs.Outcomes.{holds_read}
use Rattle.canonical.specs.Equality.{same_name}
use Rattle.canonical.proofs.Same.{name-same, name-refl}
use Rattle.encoding.proofs.Slices.{slice-join, slice_all}
use Rattle.flattened.specs.Order.{big}
use Rattle.flattened.specs.Token.{Token, joined}
use Rattle.flattened.specs.Walk.{walk, walk_all}
use Rattle.resolution.specs.Record.{resolved}
use Rattle.demands.proofs.Data.{walked_all}
use Rattle.demands.proofs.Shape.{name_of, NoneNamed, DistinctNames, Rig, Reader, Among, here, further, count_named, FoundOnce, Gives, first, after, Gets, nothing, more, front}
use Rattle.demands.proofs.Pieces.{goes-walk, goes-walk_all}
use Rattle.demands.proofs.Parts.{both}
use Rattle.demands.proofs.Resolved.{rig-walk}
use Rattle.demands.proofs.Record.{accepted-bytes}

-- a member with another name does not count
other-counted : (m : Name) (t : Tree) (g : Forest) → m ≢ name_of t → count_named m (cons t g) ≡ count_named m g
unfolding count_named
other-counted m t g h = go (same_name m (name_of t)) refl
  where
    go : (b : Bool) → same_name m (name_of t) ≡ b → cond (same_name m (name_of t)) (suc (count_named m g)) (count_named m g) ≡ count_named m g
    go true e = absurd (h (name-same m (name_of t) e))
    go false e = rw e refl

-- a name that none of the members has is not counted
none-counted : (m : Name) (g : Forest) → NoneNamed m g → count_named m g ≡ 0
unfolding NoneNamed count_named
none-counted m nil h = refl
none-counted m (cons t g) h = other-counted m t g (λ e. h.0 (sym e)) ∙ none-counted m g h.1

-- nor does any of them have it
none-among : {u : Tree} {g : Forest} (m : Name) → NoneNamed m g → Among u g → name_of u ≢ m
unfolding NoneNamed
none-among m h here = h.0
none-among m h (further i) = none-among m h.1 i

-- and the first of distinct names counts once
first_counted : (t : Tree) (g : Forest) → NoneNamed (name_of t) g → count_named (name_of t) (cons t g) ≡ 1
unfolding count_named
first_counted t g h = rw (name-refl (name_of t), none-counted (name_of t) g h) refl

module _ (s : List ℕ) (f : Forest) where
  -- the last members g of f, whose data starts at `at`
  own-gets : (g : Forest) (at : ℕ) → at ≤ length s → DistinctNames g → ((t : Tree) → Among t g → count_named (name_of t) f ≡ count_named (name_of t) g)
      → ((t : Tree) (ts : List Token) → Gives s t ts g at → Gives s t ts f 0) → (q : ℕ) (ts : List Token) → walk_all big g s at ≡ read q ts
      → Gets s f g (slice at q s)
  unfolding DistinctNames walk_all
  own-gets nil at h names counts gives q ts e =
      let end : at ≡ q = cc in subst (λ (x : List ℕ). Gets s f nil x) (sym (ap (λ (k : ℕ). slice at k s) (sym end) ∙ slice_empty at s)) nothing
  own-gets (cons t g) at h names counts gives q ts e =
      let parts = holds_read e (both (walk big t s at) (λ next. walk_all big g s next)) in
      let over = holds_read parts.one (goes-walk s big t at h) in
      let rest = holds_read parts.two (goes-walk_all s big g parts.mid over.within) in
      let own = own-gets g parts.mid over.within names.2
      (λ u i. counts u (further i) ∙ other-counted (name_of u) t g (λ n. none-among (name_of t) names.1 i n))
      (λ u xs x. gives u xs (after parts.one x)) q parts.rest parts.two in
      let once : FoundOnce t f = counts t here ∙ first_counted t g names.1 in
      let bytes : joined s parts.front ++ slice parts.mid q s ≡ slice at q s =
      ap (λ (x : List ℕ). x ++ slice parts.mid q s) over.bytes ∙ slice-join at parts.mid q s over.order rest.order in
      subst (λ (x : List ℕ). Gets s f (cons t g) x) bytes (more once (gives t parts.front (first parts.one)) own)

-- a rig record and a reader of its own members: the data is given back whole
pub own_back : (w s : List ℕ) (f : Forest) (rig : Rig w s f) (r : List ℕ) (reader : Reader r f) (out : List ℕ) → length s ≤ length out
    → resolved w r s out ≡ front out s
own_back w s f rig r reader out room =
    let end : rig.end ≡ length s = (holds_read rig.accepted (walked_all rig.cluster.described.tree s)).1.0 in
    let whole : slice 0 rig.end s ≡ s = ap (λ (k : ℕ). slice 0 k s) end ∙ slice_all s (length s) refl in
    let gets = own-gets s f f 0 (omega arith) reader.names (λ t i. refl) (λ t ts x. x) rig.end rig.tokens (rig-walk w s f rig) in
    (accepted-bytes w s f rig r f reader out s (subst (λ (x : List ℕ). Gets s f f x) whole gets) room).0
