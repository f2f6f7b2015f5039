-- One turn of a walk over descriptors in a row: the first is taken apart, and the walk goes into it and then on to the others.
-- Rests on the descriptor crate's laws of what stands inside accepted bytes.
use mathlib.Core.Path.{◌≡◌, refl, sym, ap, subst, ◌∙◌}
use mathlib.Core.Bool.{true}
use mathlib.Core.List.{List}
use Prim.Native.Nat.{ℕ, suc, ◌+◌, ◌-◌, ◌<◌, ◌≤◌}
use native.Mathlib.Nat.{sub-zero}
use native.Mathlib.Omega.{arith}
use lib.ListN.{length}
use Rattle.descriptor.specs.Header.{header_size, body_at, size_in}
use Rattle.descriptor.specs.Tree.{Name, Fields, empty, items, pairs, text, dimensions, members, subtype, Tree, node, Forest, cons, child_count, inside_at, tree_size, forest_size, height, forest_height}
use Rattle.descriptor.specs.Outcome.{Outcome, refused, read}
use Rattle.descriptor.specs.inner.Promises.{addressable}
use Rattle.descriptor.specs.inner.Standing.{standing, standing_row, is_read, next_of, forest_of, fields_of, contents_start, inside_of, Stands}
use Rattle.descriptor.specs.declared.inside.Inside.{Inside}
use Rattle.descriptor.proofs.Steps.{impossible}
use Rattle.descriptor.proofs.Standing.{open-standing, row-split, row_ends}
use Rattle.canonical.specs.inner.Walk.{RowInside}

-- descriptors that were read
pub row_read : (o : Outcome Forest) → is_read o ≡ true → o ≡ read (next_of o) (forest_of o)
unfolding is_read next_of forest_of
row_read (refused number place) e = impossible e
row_read (read next f) e = refl

-- what is known of descriptors in a row, where they were read
pub row_inside : (s : List ℕ) (k start stop levels next : ℕ) (f : Forest) → length s < addressable → stop ≤ length s → start ≤ stop
    → standing_row s k start ≡ read next f → next ≤ stop → forest_height f ≤ levels → RowInside s k start stop levels
unfolding is_read next_of forest_of
row_inside s k start stop levels next f small inside from e within low = record {
  small = small;
  inside = inside;
  from = from;
  row = ap is_read e;
  within = rw e within;
  low = rw e low;
}

-- the first of j + 1 descriptors in a row from p on, and what is around it
pub record Turn (s : List ℕ) (j p stop levels : ℕ) : Type 0 where
  pub code : ℕ
  pub body : Fields
  pub inner : Forest
  pub name : Name
  pub others : Forest
  pub first : standing s p ≡ read (p + size_in s p) (node code body inner name)
  pub size : tree_size (node code body inner name) ≡ size_in s p
  pub row : forest_of (standing_row s (suc j) p) ≡ cons (node code body inner name) others
  pub last : next_of (standing_row s (suc j) p) ≡ next_of (standing_row s j (p + size_in s p))
  -- its header and its fields
  pub least : header_size ≤ size_in s p
  pub fits : p + size_in s p ≤ stop
  pub start : inside_at p body ≤ p + size_in s p
  -- the descriptors in it
  pub deep : 0 < levels
  pub held : standing_row s (child_count body) (inside_at p body) ≡ read (inside_at p body + forest_size inner) inner
  pub inside : RowInside s (child_count body) (inside_at p body) (p + size_in s p) (levels - 1)
  -- the descriptors after it
  pub rest : RowInside s j (p + size_in s p) stop levels
  pub follow : forest_of (standing_row s j (p + size_in s p)) ≡ others

module _ (s : List ℕ) (j p stop levels : ℕ) (whole : RowInside s (suc j) p stop levels) where
  -- where the first is a tree of these parts
  turn-of : (c : ℕ) (b : Fields) (f : Forest) (m : Name) (others : Forest) → standing s p ≡ read (p + tree_size (node c b f m)) (node c b f m)
      → forest_of (standing_row s (suc j) p) ≡ cons (node c b f m) others
      → standing_row s j (p + tree_size (node c b f m)) ≡ read (next_of (standing_row s (suc j) p)) others → Turn s j p stop levels
  unfolding height next_of forest_of
  turn-of c b f m others e is er =
      let o = open-standing s p (p + tree_size (node c b f m)) c b f m e in
      let ends : p + tree_size (node c b f m) ≡ p + size_in s p = o.size in
      let sized : tree_size (node c b f m) ≡ size_in s p = omega (arith, o.size) in
      let deepest : forest_height (cons (node c b f m) others) ≤ levels = rw is at whole.low in
      let after : standing_row s j (p + size_in s p) ≡ read (next_of (standing_row s (suc j) p)) others =
      ap (λ (k : ℕ). standing_row s j k) (sym ends) ∙ er in
      let into : p + size_in s p ≤ length s = omega (arith, o.inside) in
      let past = row_ends s j (p + size_in s p) (next_of (standing_row s (suc j) p)) others into after in
      let fits : p + size_in s p ≤ stop = omega (arith, past.0.at, whole.within) in
      record {
        code = c;
        body = b;
        inner = f;
        name = m;
        others = others;
        first = e ∙ ap (λ (k : ℕ). read k (node c b f m)) ends;
        size = sized;
        row = is;
        last = sym (ap next_of after);
        least = o.least;
        fits = fits;
        start = omega (arith, o.body);
        deep = omega arith;
        held = o.children;
        inside =
            row_inside s (child_count b) (inside_at p b) (p + size_in s p) (levels - 1) (inside_at p b + forest_size f) f whole.small into
            (omega (arith, o.body)) o.children (omega (arith, o.within)) (omega arith);
        rest =
            row_inside s j (p + size_in s p) stop levels (next_of (standing_row s (suc j) p)) others whole.small whole.inside fits after whole.within
            (omega arith);
        follow = ap forest_of after;
      }

  turn-tree : (t : Tree) (others : Forest) → standing s p ≡ read (p + tree_size t) t → forest_of (standing_row s (suc j) p) ≡ cons t others
      → standing_row s j (p + tree_size t) ≡ read (next_of (standing_row s (suc j) p)) others → Turn s j p stop levels
  turn-tree (node c b f m) others e is er = turn-of c b f m others e is er

  -- the first of descriptors in a row
  pub row-turn : Turn s j p stop levels
  row-turn =
      let row = row-split s j p _ _ (row_read (standing_row s (suc j) p) whole.row) in
      turn-tree row.tree row.others row.first row.is row.rest

-- a body that has descriptors in it holds nothing else after its words
starts : (p : ℕ) (b : Fields) → 0 < child_count b → contents_start p b ≡ inside_at p b
unfolding contents_start child_count
starts p empty h = refl
starts p (items xs) h = absurd (omega arith)
starts p (pairs ps) h = refl
starts p text h = refl
starts p (dimensions k) h = refl
starts p (members k) h = refl
starts p subtype h = refl

-- the same turn by what the code has read: the size, and what stands inside
pub record Taken (s : List ℕ) (j p stop levels size : ℕ) (f : Inside) : Type 0 where
  pub turn : Turn s j p stop levels
  pub sized : size ≡ size_in s p
  pub children : f.children ≡ child_count turn.body
  pub at : 0 < f.children → f.at ≡ inside_at p turn.body
  pub order : inside_at p turn.body ≤ p + size
  pub fits : p + size ≤ stop
  pub inside : 0 < f.children → RowInside s f.children f.at (p + size) (levels - 1)
  pub rest : RowInside s j (p + size) stop levels

pub taken : (s : List ℕ) (j p stop levels size : ℕ) (f : Inside) → Turn s j p stop levels → size ≡ size_in s p → f ≡ inside_of s p
    → Taken s j p stop levels size f
unfolding inside_of fields_of
taken s j p stop levels size f turn es ef =
    let ends : p + size_in s p ≡ p + size = omega arith in
    let body : fields_of (standing s p) ≡ turn.body = ap fields_of turn.first in
    let children : f.children ≡ child_count turn.body = ap (λ (x : Inside). x.children) ef ∙ ap child_count body in
    let at : 0 < f.children → f.at ≡ inside_at p turn.body =
    λ some. ap (λ (x : Inside). x.at) ef ∙ (ap (λ (b : Fields). contents_start p b) body ∙ starts p turn.body (omega arith)) in
    record {
      turn = turn;
      sized = es;
      children = children;
      at = at;
      order = omega (arith, turn.start);
      fits = omega (arith, turn.fits);
      inside = λ some. rw (children, at some, ← ends) turn.inside;
      rest = rw (← ends) turn.rest;
    }

-- a descriptor stands there
pub turn-stands : (s : List ℕ) (j p stop levels : ℕ) → Turn s j p stop levels → Stands s p
unfolding is_read
turn-stands s j p stop levels turn = record { is = ap is_read turn.first; small = turn.rest.small }

-- The same as a loop keeps it, i of k descriptors having gone before, and what the code needs of the next one, which stands at p.
unfoldable pub InRow : List ℕ → ℕ → ℕ → ℕ → ℕ → Type 0
InRow s k p stop levels = RowInside s k p stop levels

pub row_begin : (s : List ℕ) (k p stop levels : ℕ) → RowInside s k p stop levels → InRow s (k - 0) p stop levels
unfolding InRow
row_begin s k p stop levels row = subst (λ (n : ℕ). RowInside s n p stop levels) (sym (sub-zero k)) row

module _ (s : List ℕ) (k i p stop levels : ℕ) (row : InRow s (k - i) p stop levels) where
  pub row_from : p ≤ stop
  unfolding InRow
  row_from = row.from

  pub row_into : stop ≤ length s
  unfolding InRow
  row_into = row.inside

  module _ (more : i < k) where
    pub here : Turn s (k - (i + 1)) p stop levels
    unfolding InRow
    here =
        let d : k - i ≡ suc (k - (i + 1)) = omega arith in
        row-turn s (k - (i + 1)) p stop levels (subst (λ (n : ℕ). RowInside s n p stop levels) d row)

    abbrev pub held : Inside
    held = inside_of s p

    pub there : Taken s (k - (i + 1)) p stop levels (size_in s p) held
    there = taken s (k - (i + 1)) p stop levels (size_in s p) held here refl refl

    pub row_stands : Stands s p
    row_stands = turn-stands _ _ _ _ _ here

    pub row_header : body_at p ≤ length s
    row_header = omega (arith, here.least, here.fits, here.rest.inside)

    pub row_least : header_size ≤ size_in s p
    row_least = here.least

    pub row_whole : p + size_in s p ≤ stop
    row_whole = here.fits

    pub row_small : length s < addressable
    row_small = here.rest.small

    pub row_deep : 0 < levels
    row_deep = here.deep

    -- the descriptors in it
    module _ (some : 0 < held.children) where
      pub row_held : RowInside s held.children held.at (p + size_in s p) (levels - 1)
      row_held = there.inside some

      pub row_order : body_at p ≤ held.at
      row_order = omega (arith, there.at some)

    -- and those after it
    pub row_after : InRow s (k - (i + 1)) (p + size_in s p) stop levels
    unfolding InRow
    row_after = there.rest

pub ruleset row_laws = (row_begin, row_from, row_into, row_stands, row_header, row_least, row_whole, row_small, row_deep, row_held, row_order, row_after)

-- a row that ends within `stop` ends within more
pub row-wider : (s : List ℕ) (k start stop more levels : ℕ) → stop ≤ more → more ≤ length s → RowInside s k start stop levels
    → RowInside s k start more levels
row-wider s k start stop more levels h inside r = record {
  small = r.small;
  inside = inside;
  from = omega (arith, r.from);
  row = r.row;
  within = omega (arith, r.within);
  low = r.low;
}
