-- Demand 2's tree as the table shows it: every row is a descriptor of the tree, and every descriptor has its row, in order of first byte,
-- each of its seven numbers said by the bytes and the tree. The public entry whose contract uses these definitions is check_descriptor.
-- Rests on the laws of the table's length, and of what stands where in accepted bytes.
use mathlib.Core.Path.{◌≡◌, refl, sym, ap, ◌∙◌}
use mathlib.Core.Logic.{◌≢◌}
use mathlib.Core.Bool.{◌||◌}
use mathlib.Core.List.{List, [], ◌∷◌, ◌++◌, map, append_assoc, append-nil}
use Prim.Native.Nat.{ℕ, zero, suc, ◌+◌, ◌-◌, ◌%◌, ◌≤◌, ◌<◌}
use native.Mathlib.Omega.{arith}
use borrow.Author.Tests.{eqb-true}
use lib.Dec.{eqb}
use lib.ListN.{length, get_or, replicate}
use lib.Seq.{slice, length-slice}
use Rattle.number.specs.Endian.{be}
use Rattle.descriptor.specs.Limits.{row_limit}
use Rattle.descriptor.specs.Codes.{Kind, plain, enumeration, quantity, string, array, cluster, stamp, unknown, kind_of}
use Rattle.descriptor.specs.Tree.{Name, unnamed, named, Fields, Tree, node, Forest, nil, cons, child_count, inside_at, tree_size, forest_size, row_count}
use Rattle.descriptor.specs.Outcome.{Outcome, refused, read}
use Rattle.descriptor.specs.Check.{name_at, checked}
use Rattle.descriptor.specs.Table.{place_of_name, length_of_name, row_of, rows_of, forest_rows_of, zero_row, table_of}
use Rattle.descriptor.specs.Answers.{descriptor_check, with_table}
use Rattle.descriptor.specs.inner.Standing.{standing, standing_row}
use Rattle.descriptor.specs.declared.answer.Row.{Row}
use Rattle.descriptor.specs.declared.inside.Inside.{Inside}
use Rattle.descriptor.proofs.Outcomes.{Holds, found, holds_read, holds-require, holds-cond}
use Rattle.descriptor.proofs.Rows.{rows-length}
use Rattle.descriptor.proofs.Bodies.{inside_by, fields-agree}
use Rattle.descriptor.proofs.Standing.{open-standing, standing-ends, row_first, row-none, accepted-standing}
use Rattle.demands.proofs.Accepted.{Described, described-read}

-- each number is at least `least`, and greater than the one before it
unfoldable pub AscendingFrom : ℕ → List ℕ → Type 0
AscendingFrom least [] = Unit {0}
AscendingFrom least (n ∷ ns) = (least ≤ n) × AscendingFrom (suc n) ns

-- the first bytes of the rows, in the table's order
abbrev pub starts : List Row → List ℕ
starts rows = map (λ (r : Row). r.start) rows

-- "count (items, pairs, dimensions or members, else 0)": the word after the code, where the code's body starts with a count
unfoldable pub count_word : List ℕ → ℕ → Kind → ℕ
count_word d p plain = 0
count_word d p enumeration = be d (p + 4) 2
count_word d p quantity = be d (p + 4) 2
count_word d p string = 0
count_word d p array = be d (p + 4) 2
count_word d p cluster = be d (p + 4) 2
count_word d p stamp = 0
count_word d p unknown = 0

-- "name place (0 where there is none), name length. The place is that of the first character; for an empty name, the byte after its
-- length byte."
unfoldable pub NameSaid : List ℕ → ℕ → ℕ → Name → Type 0
NameSaid d place long unnamed = (place ≡ 0) × (long ≡ 0)
NameSaid d place long (named x) = (0 < place) × ((get_or d (place - 1) 0 ≡ long) × ((place + long ≤ length d) × (slice place (place + long) d ≡ x)))

-- the row of a descriptor of that name at p, at that depth, by the bytes d
pub record RowSaid (d : List ℕ) (p level : ℕ) (m : Name) (r : Row) : Type 0 where
  pub code : r.code ≡ get_or d (p + 3) 0
  pub start : r.start ≡ p
  pub size : r.size ≡ be d p 2
  pub depth : r.depth ≡ level
  pub count : r.count ≡ count_word d p (kind_of (get_or d (p + 3) 0))
  pub name : NameSaid d r.name_place r.name_length m
  pub within : p + r.size ≤ length d

mutual
  -- the rows of the tree that stands at p of d: its own, then those of the descriptors in it, one deeper
  pub data TreeSaid (d : List ℕ) : ℕ → ℕ → Tree → List Row → Type 0 where
    parent : {p depth at c : ℕ} {b : Fields} {f : Forest} {m : Name} {r : Row} {rs : List Row} → RowSaid d p depth m r → p < at
        → ForestSaid d at (depth + 1) f rs → TreeSaid d p depth (node c b f m) (r ∷ rs)

  -- the rows of descriptors in a row, the first at p: each starts where the one before it ends
  pub data ForestSaid (d : List ℕ) : ℕ → ℕ → Forest → List Row → Type 0 where
    none : {p depth : ℕ} → ForestSaid d p depth nil []
    next : {p depth after : ℕ} {t : Tree} {f : Forest} {rs us : List Row} → after ≡ p + be d p 2 → TreeSaid d p depth t rs
        → ForestSaid d after depth f us → ForestSaid d p depth (cons t f) (rs ++ us)

-- what ascends from a number ascends from a lower one
from-lower : (low least : ℕ) (ns : List ℕ) → low ≤ least → AscendingFrom least ns → AscendingFrom low ns
unfolding AscendingFrom
from-lower low least [] h a = tt
from-lower low least (n ∷ ns) h a = (omega (arith, a.0), a.1)

mutual
  unfolding rows_of row_of tree_size AscendingFrom

  -- the rows of the tree at p start from p on, and before any that start after it
  tree-ascends : (t : Tree) (p depth : ℕ) (more : List Row) → AscendingFrom (p + tree_size t) (starts more)
      → AscendingFrom p (starts (rows_of p depth t ++ more))
  tree-ascends (node c b f m) p depth more a =
      let first : ℕ = inside_at p b in
      let rest : AscendingFrom first (starts (forest_rows_of first (depth + 1) f ++ more)) =
      forest-ascends f first (depth + 1) more (from-lower (first + forest_size f) _ (starts more) (omega arith) a) in
      (omega arith, from-lower (suc p) first (starts (forest_rows_of first (depth + 1) f ++ more)) (omega arith) rest)

  -- and so do those of descriptors in a row
  forest-ascends : (f : Forest) (p depth : ℕ) (more : List Row) → AscendingFrom (p + forest_size f) (starts more)
      → AscendingFrom p (starts (forest_rows_of p depth f ++ more))
  forest-ascends nil p depth more a = from-lower p _ (starts more) (omega arith) a
  forest-ascends (cons t f) p depth more a =
      let after : ℕ = p + tree_size t in
      let rest : AscendingFrom after (starts (forest_rows_of after depth f ++ more)) =
      forest-ascends f after depth more (from-lower (after + forest_size f) _ (starts more) (omega arith) a) in
      rw append_assoc (tree-ascends t p depth (forest_rows_of after depth f ++ more) rest)

module _ (d : List ℕ) where
  -- the two numbers of a name that was read from `at` on
  name-said : (p stop at : ℕ) → stop ≤ length d → Holds (λ q m. NameSaid d (place_of_name at m) (length_of_name m) m) (name_at d stop at)
  unfolding name_at place_of_name length_of_name NameSaid
  name-said p stop at inside =
      holds-cond (eqb at stop) (λ _. found (refl, refl))
      (λ _.
      holds-require (eqb (at + 1 + get_or d at 0 + (1 + get_or d at 0) % 2) stop) _ _ (λ whole.
      holds-require (eqb ((1 + get_or d at 0) % 2) 0 || eqb (get_or d (at + 1 + get_or d at 0) 0) 0) _ _ (λ _.
      let w : at + 1 + get_or d at 0 + (1 + get_or d at 0) % 2 ≡ stop = eqb-true _ _ whole in
      let long : length (slice (at + 1) (at + 1 + get_or d at 0) d) ≡ get_or d at 0 =
      length-slice (at + 1) (at + 1 + get_or d at 0) d (omega arith) ∙ omega arith in
      let before : at + 1 - 1 ≡ at = omega arith in
      found (
        omega arith,
        (ap (λ (j : ℕ). get_or d j 0) before ∙ sym long, (omega (arith, long), ap (λ (j : ℕ). slice (at + 1) (at + 1 + j) d) long)),
      ))))

  -- a count is the count word
  count-said : (p : ℕ) (k : Kind) → (inside_by k d (p + 4)).count ≡ count_word d p k
  unfolding inside_by count_word
  count-said p plain = refl
  count-said p enumeration = refl
  count-said p quantity = refl
  count-said p string = refl
  count-said p array = refl
  count-said p cluster = refl
  count-said p stamp = refl
  count-said p unknown = refl

  -- the row of a descriptor that stands at p
  row-said : (p depth q c : ℕ) (b : Fields) (f : Forest) (m : Name) → standing d p ≡ read q (node c b f m)
      → RowSaid d p depth m (row_of p depth (node c b f m))
  unfolding row_of
  row-said p depth q c b f m e =
      let o = open-standing d p q c b f m e in
      let ends = standing-ends d p q (node c b f m) e in
      let agrees = holds_read o.fields (fields-agree d p q o.inside (kind_of c)) in
      record {
        code = o.code;
        start = refl;
        size = omega (arith, o.size, ends.at);
        depth = refl;
        count =
            ap (λ (x : Inside). x.count) agrees.same ∙ count-said p (kind_of c) ∙ ap (λ (j : ℕ). count_word d p (kind_of j)) o.code;
        name = holds_read o.name (name-said p q (inside_at p b + forest_size f) o.inside);
        within = omega (arith, ends.at, ends.within);
      }

  mutual
    unfolding rows_of

    -- the rows of a tree that stands at p
    tree-said : (t : Tree) (p depth q : ℕ) → standing d p ≡ read q t → TreeSaid d p depth t (rows_of p depth t)
    tree-said (node c b f m) p depth q e =
        let o = open-standing d p q c b f m e in
        parent {at = inside_at p b} (row-said p depth q c b f m e) (omega arith) (forest-said f (child_count b) (inside_at p b) (depth + 1) _ o.children)

    -- and of descriptors that stand in a row from p on
    forest-said : (f : Forest) (k p depth q : ℕ) → standing_row d k p ≡ read q f → ForestSaid d p depth f (forest_rows_of p depth f)
    forest-said nil k p depth q e = none
    forest-said (cons t f) zero p depth q e =
        let nothing = row-none d p in
        absurd (let z : ◌≡◌ {A = ℕ} 0 1 = cc in omega arith)
    forest-said (cons t f) (suc k) p depth q e =
        let parts = row_first d k p q t f e in
        ForestSaid.next (next-said t p _ parts.0) (tree-said t p depth _ parts.0) (forest-said f k (p + tree_size t) depth q parts.1)

    -- where the one after it starts
    next-said : (t : Tree) (p q : ℕ) → standing d p ≡ read q t → p + tree_size t ≡ p + be d p 2
    next-said (node c b f m) p q e = omega (arith, (open-standing d p q c b f m e).size, (standing-ends d p q (node c b f m) e).at)

-- an accepted descriptor
module _ (d : List ℕ) (x : Described d) where
  -- the rows of its tree: "row count" many, "in order of first byte", each number said by the bytes and the tree
  pub record TreeRows (rows : List Row) : Type 0 where
    pub count : length rows ≡ row_count x.tree
    pub order : AscendingFrom 0 (starts rows)
    pub said : TreeSaid d 0 1 x.tree rows

  pub tree-rows : TreeRows (descriptor_check d).rows
  unfolding AscendingFrom descriptor_check
  tree-rows = rw (described-read d x) (record {
    count = rows-length x.tree 0 1;
    order = rw append-nil at (tree-ascends x.tree 0 1 [] tt);
    said = tree-said d x.tree 0 1 (length d) (accepted-standing d (length d) x.tree (described-read d x)).0;
  })

  -- "The descriptor table has 256 rows in order of first byte, and rows not used are zero."
  pub accepted-table : (with_table (descriptor_check d)).rows ≡ (descriptor_check d).rows ++ replicate (row_limit - row_count x.tree) zero_row
  unfolding table_of
  accepted-table = ap (λ (n : ℕ). (descriptor_check d).rows ++ replicate (row_limit - n) zero_row) tree-rows.count

-- "A refusal gives an all-zero table"
pub refused-table : (d : List ℕ) → (descriptor_check d).answer.number ≢ 0 → (with_table (descriptor_check d)).rows ≡ replicate row_limit zero_row
unfolding descriptor_check table_of
refused-table d h = table (checked d) refl
  where
    table : (o : Outcome Tree) → checked d ≡ o → (with_table (descriptor_check d)).rows ≡ replicate row_limit zero_row
    table (refused number place) e = rw e refl
    table (read q t) e = absurd (h (rw e refl))
