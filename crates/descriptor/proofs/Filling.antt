-- Filling the table descriptor by descriptor: the rows of the first, then those of the others after them. Rests on `Standing`.
use mathlib.Core.Path.{◌≡◌, refl, ap, sym, subst, ◌∙◌}
use mathlib.Core.Bool.{true, cond, ◌||◌}
use mathlib.Core.List.{List, [], ◌∷◌}
use Prim.Native.Nat.{ℕ, suc, ◌+◌, ◌-◌, ◌%◌, ◌<◌, ◌≤◌}
use native.Mathlib.Numerals.{add-one}
use native.Mathlib.Omega.{arith}
use borrow.Author.Tests.{eqb-true}
use lib.Dec.{leb, eqb}
use lib.ListN.{length, get_or, set}
use lib.Seq.{slice, sets, set_comm, length-slice}
use Rattle.number.proofs.Writing.{sets-append}
use Rattle.descriptor.specs.Limits.{row_limit, depth_limit, count_limit, pair_limit, dimension_limit}
use Rattle.descriptor.specs.Codes.{Kind, plain, enumeration, quantity, string, array, cluster, stamp, unknown, kind_of}
use Rattle.descriptor.specs.Header.{body_at, size_in, code_in}
use Rattle.descriptor.specs.Tree.{Name, Fields, inside_at, Tree, node, Forest, nil, cons, child_count, count_of, tree_size, forest_size, row_count, forest_rows, forest_height}
use Rattle.number.specs.Endian.{be}
use Rattle.descriptor.specs.Stamp.{stamp_subtype}
use Rattle.descriptor.specs.Outcome.{Outcome, refused, read}
use Rattle.descriptor.specs.Check.{fields_read, contents_at, filled_at, fields_at, name_at}
use Rattle.descriptor.specs.Table.{place_of_name, length_of_name, row_of, rows_of, forest_rows_of}
use Rattle.descriptor.specs.inner.Standing.{standing, standing_row, is_read, next_of, forest_of, fields_of, shape_of}
use Rattle.descriptor.specs.inner.Filling.{row_read, ahead, RowPre, TablePre, filled}
use Rattle.descriptor.specs.declared.inside.Inside.{Inside}
use Rattle.descriptor.specs.declared.answer.Row.{Row}
use Rattle.descriptor.specs.inner.Filling.{Table}
use Rattle.descriptor.proofs.Outcomes.{Holds, nothing, found, holds-require, holds-cond, holds-and_then, holds_read, holds-self}
use Rattle.descriptor.proofs.Sizes.{count_fits, run_fits, items-end, length-pairs_at}
use Rattle.descriptor.proofs.Rows.{rows-length}
use Rattle.descriptor.proofs.Standing.{Opened, open-standing, row-split, row-none}
use Rattle.descriptor.proofs.Steps.{impossible}

-- a store below a run of stores may as well come first
set-sets : {A : Type 0} (l : List A) (i j : ℕ) (a : A) (xs : List A) → i < j → set (sets l j xs) i a ≡ sets (set l i a) j xs
set-sets l i j a [] h = refl
set-sets l i j a (x ∷ xs) h =
    set-sets (set l j x) i (suc j) a xs (omega arith)
    ∙ ap (λ (m : List _). sets m (suc j) xs) (set_comm l j i x a (λ q. omega arith))

-- what was read where something was
stands_read : (o : Outcome Forest) → is_read o ≡ true → o ≡ read (next_of o) (forest_of o)
unfolding is_read next_of forest_of
stands_read (refused number place) q = impossible q
stands_read (read at f) q = refl

-- two tables are equal by their fields
table-ext : (v w : Table) → v.rows ≡ w.rows → v.n ≡ w.n → v.at ≡ w.at → v ≡ w
table-ext v w a b c = λ i. record { rows = a i; n = b i; at = c i }

-- the first of the descriptors ahead, and the others after it
pub record First (s : List ℕ) (left k : ℕ) (t : Table) : Type 0 where
  pub code : ℕ
  pub fields : Fields
  pub inside : Forest
  pub name : Name
  pub others : Forest
  pub next : ℕ
  pub row : standing_row s (suc k) t.at ≡ read next (cons (node code fields inside name) others)
  pub stands : standing s t.at ≡ read (t.at + tree_size (node code fields inside name)) (node code fields inside name)
  pub opened : Opened s t.at (t.at + tree_size (node code fields inside name)) code fields inside name
  pub rest : standing_row s k (t.at + tree_size (node code fields inside name)) ≡ read next others

pub first : (s : List ℕ) (left k : ℕ) (t : Table) → TablePre s left (suc k) t → First s left k t
first s left k t pre = split (stands_read (standing_row s (suc k) t.at) pre.stands)
  where
    with-tree : (r : ℕ) (tree : Tree) (g : Forest) → standing_row s (suc k) t.at ≡ read r (cons tree g)
        → standing s t.at ≡ read (t.at + tree_size tree) tree → standing_row s k (t.at + tree_size tree) ≡ read r g → First s left k t
    with-tree r (node c b f m) g e a d = record {
      code = c;
      fields = b;
      inside = f;
      name = m;
      others = g;
      next = r;
      row = e;
      stands = a;
      opened = open-standing s t.at (t.at + tree_size (node c b f m)) c b f m a;
      rest = d;
    }

    split : {r : ℕ} {f : Forest} → standing_row s (suc k) t.at ≡ read r f → First s left k t
    split {r} {f} e =
        let w = row-split s k t.at r f e in
        with-tree r w.tree w.others (e ∙ ap (λ (g : Forest). read r g) w.is) w.first w.rest

-- the table once the first one's rows are in it
abbrev pub after_tree : ℕ → Table → Tree → Table
after_tree left t tree = record {
  rows = sets t.rows t.n (rows_of t.at (depth_limit + 1 - left) tree);
  n = t.n + row_count tree;
  at = t.at + tree_size tree;
}

-- a header, fields, children and a name make the row
pub name-numbers : (s : List ℕ) (p stop at : ℕ) → stop ≤ length s
    → Holds (λ q m. (cond (eqb at stop) 0 (at + 1) ≡ place_of_name at m) × (cond (eqb at stop) 0 (get_or s at 0) ≡ length_of_name m)) (name_at s stop at)
unfolding name_at place_of_name length_of_name
name-numbers s p stop at inside =
    holds-cond (eqb at stop) (λ e. found (rw e refl, rw e refl))
    (λ e.
    holds-require (eqb (at + 1 + get_or s at 0 + (1 + get_or s at 0) % 2) stop) 11 at (λ whole.
    holds-require (eqb ((1 + get_or s at 0) % 2) 0 || eqb (get_or s (at + 1 + get_or s at 0) 0) 0) 11 at (λ _.
    let w : at + 1 + get_or s at 0 + (1 + get_or s at 0) % 2 ≡ stop = eqb-true _ _ whole in
    let len : length (slice (at + 1) (at + 1 + get_or s at 0) s) ≡ at + 1 + get_or s at 0 - (at + 1) = length-slice (at + 1) (at + 1 + get_or s at 0) s (omega arith) in
    let same : get_or s at 0 ≡ length (slice (at + 1) (at + 1 + get_or s at 0) s) = omega arith in
    found (rw e refl, rw e same))))

module _ (s : List ℕ) (left k : ℕ) (t : Table) (pre : TablePre s left (suc k) t) where
  module _ (w : First s left k t) where
    abbrev tree : Tree
    tree = node w.code w.fields w.inside w.name

    -- what the descriptors ahead are
    ahead-is : ahead s (suc k) t ≡ cons tree w.others
    unfolding forest_of
    ahead-is = ap forest_of w.row

    -- depth is left for the first one's children, and there is room for its rows and the others'
    pub low : suc (forest_height w.inside) ≤ left
    unfolding forest_height
    low = let h : forest_height (cons tree w.others) ≤ left = subst (λ (f : Forest). forest_height f ≤ left) ahead-is pre.low in omega arith

    pub room : t.n + (suc (forest_rows w.inside) + forest_rows w.others) ≤ row_limit
    unfolding forest_rows
    room = subst (λ (f : Forest). t.n + forest_rows f ≤ row_limit) ahead-is pre.room

    -- where the first one's children stand
    abbrev pub body : ℕ
    body = inside_at t.at w.fields

    -- the table at the first one's children
    abbrev pub begun : Table
    begun = record { rows = t.rows; n = t.n + 1; at = body }

    pub pre-children : TablePre s (left - 1) (child_count w.fields) begun
    unfolding is_read forest_of
    pre-children = record {
      stands = ap is_read w.opened.children;
      from = omega (arith, w.opened.body, w.opened.inside);
      small = pre.small;
      deep = omega (arith, pre.deep);
      low = subst (λ (f : Forest). forest_height f ≤ left - 1) (sym (ap forest_of w.opened.children)) (omega (arith, low));
      room = subst (λ (f : Forest). t.n + 1 + forest_rows f ≤ row_limit) (sym (ap forest_of w.opened.children)) (omega (arith, room));
    }

    pub pre-rest : TablePre s left k (after_tree left t tree)
    unfolding is_read forest_of forest_height row_count
    pre-rest = record {
      stands = ap is_read w.rest;
      from = omega (arith, w.opened.inside);
      small = pre.small;
      deep = pre.deep;
      low =
          let h : forest_height (cons tree w.others) ≤ left = subst (λ (f : Forest). forest_height f ≤ left) ahead-is pre.low in
          subst (λ (f : Forest). forest_height f ≤ left) (sym (ap forest_of w.rest)) (omega arith);
      room = subst (λ (f : Forest). t.n + row_count tree + forest_rows f ≤ row_limit) (sym (ap forest_of w.rest)) (omega (arith, room));
    }

    -- the first one's rows, then the others'
    pub filled_more : filled s left (suc k) t ≡ filled s left k (after_tree left t tree)
    unfolding filled forest_rows_of forest_rows forest_of next_of
    filled_more =
        let depth = depth_limit + 1 - left in
        let mine = rows_of t.at depth tree in
        let rest : ahead s k (after_tree left t tree) ≡ w.others = ap forest_of w.rest in
        let stop : next_of (standing_row s (suc k) t.at) ≡ next_of (standing_row s k (t.at + tree_size tree)) = ap next_of w.row ∙ sym (ap next_of w.rest) in
        let len : t.n + length mine ≡ t.n + row_count tree = ap (λ (j : ℕ). t.n + j) (rows-length tree t.at depth) in
        let mark : forest_rows (ahead s (suc k) t) ≡ row_count tree + forest_rows w.others = ap forest_rows ahead-is in
        let more : forest_rows (ahead s k (after_tree left t tree)) ≡ forest_rows w.others = ap forest_rows rest in
        table-ext (filled s left (suc k) t) (filled s left k (after_tree left t tree))
        (ap (λ (f : Forest). sets t.rows t.n (forest_rows_of t.at depth f)) ahead-is
        ∙ sets-append t.rows t.n mine (forest_rows_of (t.at + tree_size tree) depth w.others)
        ∙ ap (λ (j : ℕ). sets (sets t.rows t.n mine) j (forest_rows_of (t.at + tree_size tree) depth w.others)) len
        ∙ ap (λ (f : Forest). sets (sets t.rows t.n mine) (t.n + row_count tree) (forest_rows_of (t.at + tree_size tree) depth f)) (sym rest))
        (omega arith)
        stop

    -- the first one's row in front of its children's
    pub filled-tree : (r : Row) → r ≡ row_of t.at (depth_limit + 1 - left) tree → (v : Table) → v ≡ filled s (left - 1) (child_count w.fields) begun
        → record { rows = set v.rows t.n r; n = v.n; at = t.at + tree_size tree } ≡ after_tree left t tree
    unfolding filled rows_of row_count forest_of
    filled-tree r er v ev =
        let depth = depth_limit + 1 - left in
        let kids : ahead s (child_count w.fields) begun ≡ w.inside = ap forest_of w.opened.children in
        let deeper : depth_limit + 1 - (left - 1) ≡ depth + 1 = omega (arith, pre.deep, low) in
        let rows : v.rows ≡ sets t.rows (suc t.n) (forest_rows_of body (depth + 1) w.inside) =
        ap (λ (x : Table). x.rows) ev
        ∙ (λ i. sets t.rows (add-one t.n i) (forest_rows_of body (deeper i) (kids i))) in
        let count : v.n ≡ t.n + 1 + forest_rows w.inside = ap (λ (x : Table). x.n) ev ∙ ap (λ (f : Forest). t.n + 1 + forest_rows f) kids in
        table-ext (record { rows = set v.rows t.n r; n = v.n; at = t.at + tree_size tree }) (after_tree left t tree)
        ((λ i. set (rows i) t.n (er i))
        ∙ set-sets t.rows t.n (suc t.n) (row_of t.at depth tree) (forest_rows_of body (depth + 1) w.inside) (omega arith))
        (omega arith)
        refl

    -- the row as the code makes it
    pub row_is : row_read s (depth_limit + 1 - left) t.at w.code (size_in s t.at) (count_of w.fields) (body + forest_size w.inside)
        ≡ row_of t.at (depth_limit + 1 - left) tree
    unfolding row_read row_of
    row_is =
        let size : size_in s t.at ≡ tree_size tree = omega (arith, w.opened.size) in
        let at = body + forest_size w.inside in
        let numbers = holds_read w.opened.name (name-numbers s t.at (t.at + tree_size tree) at w.opened.inside) in
        let stop : t.at + size_in s t.at ≡ t.at + tree_size tree = omega arith in
        λ i. record {
          code = w.code;
          start = t.at;
          size = size i;
          depth = depth_limit + 1 - left;
          count = count_of w.fields;
          name_place = (ap (λ (j : ℕ). cond (eqb at j) 0 (at + 1)) stop ∙ numbers.0) i;
          name_length = (ap (λ (j : ℕ). cond (eqb at j) 0 (get_or s at 0)) stop ∙ numbers.1) i;
        }

-- nothing ahead
pub filled_none : (s : List ℕ) (left : ℕ) (t : Table) → filled s left 0 t ≡ t
unfolding filled next_of forest_of forest_rows_of forest_rows
filled_none s left t =
    let none : ahead s 0 t ≡ nil = ap forest_of (row-none s t.at) in
    let count : forest_rows (ahead s 0 t) ≡ 0 = ap forest_rows none in
    table-ext (filled s left 0 t) t
    (ap (λ (f : Forest). sets t.rows t.n (forest_rows_of t.at (depth_limit + 1 - left) f)) none)
    (omega arith)
    (ap next_of (row-none s t.at))

-- a body's count fits a row
read_count : (k : Kind) (s : List ℕ) (p at stop : ℕ) → stop ≤ length s → Holds (λ q b. count_of b ≤ count_limit) (fields_read k s p at stop)
unfolding fields_read count_of
read_count plain s p at stop inside = found (omega arith)
read_count enumeration s p at stop inside =
    holds-and_then (count_fits s at stop count_limit) (λ next k c.
    holds-and_then (items-end s p stop inside k next c.within) (λ last xs i. found (omega (arith, i.1, c.limit))))
read_count quantity s p at stop inside =
    holds-and_then (run_fits s at stop pair_limit) (λ last k r. found (omega (arith, length-pairs_at s k (at + 2), r.limit)))
read_count string s p at stop inside = holds-require (leb (at + 4) stop) _ _ (λ _. found (omega arith))
read_count array s p at stop inside = holds-and_then (run_fits s at stop dimension_limit) (λ last k r. found (omega (arith, r.limit)))
read_count cluster s p at stop inside = holds-and_then (count_fits s at stop count_limit) (λ last k c. found c.limit)
read_count stamp s p at stop inside =
    holds-require (leb (at + 2) stop) _ _ (λ _. holds-require (eqb (be s at 2) stamp_subtype) _ _ (λ _. found (omega arith)))
read_count unknown s p at stop inside = nothing

pub fields-count : (k : Kind) (s : List ℕ) (p at stop : ℕ) → stop ≤ length s → Holds (λ q b. count_of b ≤ count_limit) (fields_at k s p at stop)
unfolding fields_at
fields-count k s p at stop inside =
    holds-and_then (read_count k s p at stop inside) (λ next b few.
    holds-and_then (holds-self (contents_at s at b)) (λ _ _ _. holds-and_then (holds-self (filled_at s p stop next b)) (λ last _ _. found few)))

-- One turn of the filling as the code takes it: the first descriptor ahead, its size and what stands inside it.
module _ (s : List ℕ) (left k : ℕ) (t : Table) (pre : TablePre s left (suc k) t) (w : First s left k t) (size : ℕ) (es : size ≡ size_in s t.at) (b : Inside)
    (eb : b ≡ shape_of s t.at) where
  abbrev here : Tree
  here = node w.code w.fields w.inside w.name

  abbrev kids : ℕ
  kids = inside_at t.at w.fields

  -- where it ends
  pub turn-stop : t.at + size ≡ t.at + tree_size here
  turn-stop = omega (arith, w.opened.size)

  -- its fields
  pub turn-fields : b ≡ record { at = kids; count = count_of w.fields; children = child_count w.fields }
  unfolding shape_of fields_of
  turn-fields =
      let is : fields_of (standing s t.at) ≡ w.fields = ap fields_of w.stands in
      eb ∙ λ i. record { at = inside_at t.at (is i); count = count_of (is i); children = child_count (is i) }

  -- the table at its children
  abbrev pub turned : Table
  turned = record { rows = t.rows; n = t.n + 1; at = b.at }

  turned-is : record { rows = t.rows; n = t.n + 1; at = kids } ≡ turned
  turned-is = λ i. record { rows = t.rows; n = t.n + 1; at = sym (ap (λ (x : Inside). x.at) turn-fields) i }

  some : child_count w.fields ≡ b.children
  some = sym (ap (λ (x : Inside). x.children) turn-fields)

  pub turn-children : TablePre s (left - 1) b.children turned
  turn-children =
      subst (λ (x : Table). TablePre s (left - 1) b.children x) turned-is
      (subst (λ (j : ℕ). TablePre s (left - 1) j (record { rows = t.rows; n = t.n + 1; at = kids })) some (pre-children s left k t pre w))

  module _ (v : Table) (ev : v ≡ filled s (left - 1) b.children turned) where
    whole : v ≡ filled s (left - 1) (child_count w.fields) (record { rows = t.rows; n = t.n + 1; at = kids })
    whole = ev ∙ λ i. filled s (left - 1) (sym some i) (sym turned-is i)

    -- where what is left for its name starts
    turn-name : v.at ≡ kids + forest_size w.inside
    unfolding filled next_of
    turn-name = ap (λ (x : Table). x.at) whole ∙ ap next_of w.opened.children

    pub turn-row : RowPre s (depth_limit + 1 - left) t.at size b.count v.at
    turn-row =
        let count : b.count ≡ count_of w.fields = ap (λ (x : Inside). x.count) turn-fields in
        let most = holds_read w.opened.fields (fields-count (kind_of w.code) s t.at (body_at t.at) (t.at + tree_size here) w.opened.inside) in
        record {
          inside = omega (arith, turn-stop, w.opened.inside);
          small = pre.small;
          name = omega (arith, turn-name, turn-stop, w.opened.within);
          shallow = omega (arith, low s left k t pre w);
          counted = omega (arith, count, most);
        }

    -- the table after it
    pub turn-done : (r : Row) → r ≡ row_read s (depth_limit + 1 - left) t.at (code_in s t.at) size b.count v.at
        → record { rows = set v.rows t.n r; n = v.n; at = t.at + size } ≡ after_tree left t here
    turn-done r er =
        let row : r ≡ row_of t.at (depth_limit + 1 - left) here =
        er
        ∙ (λ i. row_read s (depth_limit + 1 - left) t.at (sym w.opened.code i) (es i) (ap (λ (x : Inside). x.count) turn-fields i) (turn-name i))
        ∙ row_is s left k t pre w in
        (λ i. record { rows = set v.rows t.n r; n = v.n; at = turn-stop i }) ∙ filled-tree s left k t pre w r row v whole
