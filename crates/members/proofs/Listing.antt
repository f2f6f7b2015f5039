-- The columns of places and names, filled member by member. Rests on the laws of descriptors in a row and of columns.
use mathlib.Core.Path.{◌≡◌, refl, sym, ap, subst, ◌∙◌}
use mathlib.Core.List.{List}
use Prim.Native.Nat.{ℕ, ◌+◌, ◌≤◌, ◌<◌}
use native.Mathlib.Omega.{arith}
use lib.ListN.{length, set, length-set}
use Rattle.descriptor.proofs.Bodies.{header-room}
use Rattle.descriptor.specs.Limits.{depth_limit}
use Rattle.descriptor.specs.Header.{size_in}
use Rattle.descriptor.specs.Tree.{Tree, node}
use Rattle.descriptor.specs.Table.{row_of}
use Rattle.flattened.specs.inner.Types.{type_at}
use Rattle.members.specs.inner.Members.{Inner, Members, Listed, top_at, place_from, name_from, type_from, Column}
use Rattle.members.specs.inner.Names.{name_of, named_at, NameFits, NamesLie}
use Rattle.members.proofs.Filled.{column-none, column-more}
use Rattle.members.proofs.InRow.{place-more, turn_at}
use Rattle.members.proofs.Single.{single-name, single-within}

-- a row starts where its descriptor does
pub row-start : (p : ℕ) (t : Tree) → (row_of p 2 t).start ≡ p
unfolding row_of
row-start p (node c b f m) = refl

-- what the loop keeps, i of the k members having been listed
pub record ListLoop (d : List ℕ) (k start : ℕ) (places names : List ℕ) (p i : ℕ) : Type 0 where
  pub place : p ≡ place_from d start i
  pub standing : Column (place_from d start) i places
  pub naming : Column (name_from d start) i names
  pub wide : length places ≡ 256
  pub long : length names ≡ 256

module _ (d : List ℕ) (k start : ℕ) (all : Members d k start) where
  module _ (i : ℕ) (more : i < k) where
    -- member i
    pub member-inner : Inner d (place_from d start i)
    member-inner = record { here = (turn_at d k start depth_limit all.row i more).first.here; short = all.short }

    pub member-within : place_from d start i + size_in d (place_from d start i) ≤ length d
    member-within = (turn_at d k start depth_limit all.row i more).within

    -- its name
    pub member-name : named_at d (name_from d start i) ≡ name_of (type_from d start i)
    unfolding name_from
    member-name = single-name d (place_from d start i) member-inner

    pub member-name-fits : NameFits d (name_from d start i)
    unfolding name_from
    member-name-fits = single-within d (place_from d start i) member-inner

  -- the names in a column
  pub names-lie : (names : List ℕ) → Column (name_from d start) k names → NamesLie d names k
  names-lie names column = record {
    few = all.few;
    fit = λ i h. subst (λ (x : ℕ). NameFits d x) (sym (column.at i h)) (member-name-fits i h);
  }

  pub list-begin : (places names : List ℕ) → length places ≡ 256 → length names ≡ 256 → ListLoop d k start places names start 0
  unfolding place_from
  list-begin places names wide long =
      record { place = refl; standing = column-none _ places; naming = column-none _ names; wide = wide; long = long }

  module _ (places names : List ℕ) (p i : ℕ) (l : ListLoop d k start places names p i) where
    module _ (more : i < k) where
      pub list-inner : Inner d p
      list-inner = subst (λ (q : ℕ). Inner d q) (sym l.place) (member-inner i more)

      pub list-size : p + size_in d p ≤ length d
      list-size = subst (λ (q : ℕ). q + size_in d q ≤ length d) (sym l.place) (member-within i more)

      pub list-again : (name : ℕ) → name ≡ (row_of p 2 (type_at d p)).name_place → (q : ℕ) → q ≡ p + size_in d p → i < 256
          → ListLoop d k start (set places i p) (set names i name) q (i + 1)
      unfolding name_from
      list-again name en q eq room = record {
        place = eq ∙ ap (λ (x : ℕ). x + size_in d x) l.place ∙ sym (place-more d start i);
        standing = column-more (place_from d start) i p places l.standing (omega (arith, l.wide)) l.place;
        naming =
            column-more (name_from d start) i name names l.naming (omega (arith, l.long))
            (en ∙ ap (λ (x : ℕ). (row_of x 2 (type_at d x)).name_place) l.place);
        wide = length-set places i p ∙ l.wide;
        long = length-set names i name ∙ l.long;
      }

-- the names that are listed lie in the bytes
pub listed-lie : (d : List ℕ) (k : ℕ) (places names : List ℕ) → Listed d k places names → NamesLie d names k
listed-lie d k places names listed = names-lie d k (top_at d) listed.members names listed.naming

-- what a roster finds its answers with
pub ruleset roster_laws = (header-room, list-begin, list-inner, list-size, list-again, listed-lie, member-inner)
