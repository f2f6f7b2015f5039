-- A row of descriptors as a step, one descriptor after another: what it comes to where a part of the next one is refused, and what is left of
-- it where all its parts are read. Rests on the definitions of the check, on `Sizes` and on `Rests`.
use mathlib.Core.Path.{◌≡◌, refl, ap, sym, ◌∙◌}
use mathlib.Core.Bool.{Bool, true, false, not, ◌||◌}
use mathlib.Core.List.{List}
use Prim.Native.Nat.{ℕ, zero, suc, ◌+◌, ◌-◌, ◌<◌, ◌≤◌}
use native.Mathlib.Numerals.{sub-one}
use native.Mathlib.Omega.{arith}
use lib.ListN.{length}
use Rattle.std.specs.Prelude.{Result, Ok, Err}
use Rattle.descriptor.specs.Limits.{depth_limit}
use Rattle.descriptor.specs.Codes.{Kind, kind_of, is_array, is_stamp}
use Rattle.descriptor.specs.Outcome.{Outcome, refused, read, and_then, require}
use Rattle.descriptor.specs.Tree.{Name, Tree, node, Forest, nil, cons, count_of, child_count, row_count, forest_rows}
use Rattle.descriptor.specs.Table.{length_of_name}
use Rattle.descriptor.specs.Check.{Header, header_at, fields_at, members_at, name_at, node_at, tree_at}
use Rattle.descriptor.specs.inner.Standing.{standing_row}
use Rattle.descriptor.specs.inner.Steps.{counted, fields_step, refusal_at, read_step, read_head, head_of}
use Rattle.descriptor.specs.inner.Promises.{row_step}
use Rattle.descriptor.specs.declared.refusal.Refusal.{Refusal}
use Rattle.descriptor.specs.declared.step.Step.{Step}
use Rattle.descriptor.specs.declared.header.Head.{Head}
use Rattle.descriptor.proofs.Outcomes.{Holds, holds_read, holds-require, holds-weaken}
use Rattle.descriptor.proofs.Sizes.{header-fits, HeaderFits, fields-end, members-end, tree-ends, name-ends}
use Rattle.descriptor.proofs.Standing.{members-standing}
use Rattle.descriptor.proofs.Runs.{one_less, none_left}
use Rattle.descriptor.proofs.Steps.{Got, got, lost}
use Rattle.validation.specs.inner.Rest.{stamp_at, rest_at, Lies}
use Rattle.validation.proofs.Rests.{inside-same, inside-lies, stamp-one}

-- ---- one descriptor

-- a head: the header that was read
head-got : (o : Outcome Header) (h : Head) → Ok h ≡ head_of o → o ≡ read h.body (record { size = h.size; code = h.code })
head-got (refused number place) h e = cc
head-got (read body x) h e =
    let same : h ≡ read_head x.size body x.code = cc in
    λ i. read (sym (ap (λ (y : Head). y.body) same) i) (record { size = sym (ap (λ (y : Head). y.size) same) i; code = sym (ap (λ (y : Head). y.code) same) i })

-- or the refusal
head-lost : (o : Outcome Header) (r : Refusal) → Err r ≡ head_of o → o ≡ refused r.number r.place
head-lost (refused number place) r e =
    let same : r ≡ refusal_at number place = cc in
    λ i. refused (sym (ap (λ (x : Refusal). x.number) same) i) (sym (ap (λ (x : Refusal). x.place) same) i)
head-lost (read next x) r e = cc

-- a refused header refuses the descriptor
tree-lost : (levels : ℕ) (s : List ℕ) (a : Bool) (end p n number place : ℕ) → header_at s levels a end p n ≡ refused number place
    → tree_at levels s a end p n ≡ refused number place
unfolding tree_at
tree-lost zero s a end p n number place e = rw e
tree-lost (suc d) s a end p n number place e = rw e

-- how a descriptor's children are read, with one level less
abbrev below : List ℕ → ℕ → Bool → ℕ → ℕ → ℕ → Outcome Tree
below s levels a stop q m = tree_at (levels - 1) s a stop q m

-- a header that is read leaves the rest of the descriptor
tree-opened : (levels : ℕ) (s : List ℕ) (a : Bool) (end p n body : ℕ) (h : Header) → 0 < levels → header_at s levels a end p n ≡ read body h
    → tree_at levels s a end p n ≡ node_at s (λ a stop q m. below s levels a stop q m) p n body h
unfolding tree_at
tree-opened zero s a end p n body h l e = absurd (omega arith)
tree-opened (suc d) s a end p n body h l e =
    rw e (ap (λ (j : ℕ). node_at s (λ a stop q m. tree_at j s a stop q m) p n body h) (sym (sub-one (suc d))))

-- a test, and what follows what it lets through
require-then : {A B : Type 0} (b : Bool) (number place : ℕ) (o : Outcome A) (next : ℕ → A → Outcome B)
    → and_then (require b number place o) next ≡ require b number place (and_then o next)
require-then true number place o next = refl
require-then false number place o next = refl

-- what is left ends where the descriptor does
rest-ends : (k : Kind) (s : List ℕ) (p inside stop at : ℕ) → stop ≤ length s → Holds (λ q m. q ≡ stop) (rest_at k s p inside stop at)
unfolding rest_at
rest-ends k s p inside stop at fit = holds-require (not (is_stamp k) || stamp_at s inside) 10 p (λ _. holds-weaken (name-ends s p stop fit at) (λ q m e. e.1))

-- a descriptor that was read up to q, with m rows after it where n were before
record Counted (o : Outcome Tree) (n q m : ℕ) : Type 0 where
  pub tree : Tree
  pub eq : o ≡ read q tree
  pub rows : m ≡ n + row_count tree

-- the children of a descriptor of the kind k that ends at `stop` stand from `at` up to `next`
pub record ChildrenIn (s : List ℕ) (k : Kind) (at stop next : ℕ) : Type 0 where
  pub inside : next ≤ stop
  pub lie : is_stamp k ≡ true → Lies s at

-- the descriptor at p, and what the steps of its parts tell: h is its header, b its fields, w its children
module _ (s : List ℕ) (levels : ℕ) (a : Bool) (end p n : ℕ) where
  abbrev tree : Outcome Tree
  tree = tree_at levels s a end p n

  module _ (h : Head) (eh : Ok h ≡ head_of (header_at s levels a end p n)) where
    abbrev stop : ℕ
    stop = p + h.size

    fits : HeaderFits s levels a end p n h.body (record { size = h.size; code = h.code })
    fits = holds_read (head-got _ h eh) (header-fits s levels a end p n)

    opened : tree ≡ node_at s (λ a stop q m. below s levels a stop q m) p n h.body (record { size = h.size; code = h.code })
    opened = tree-opened levels s a end p n h.body _ fits.depth (head-got _ h eh)

    fields-lost : (r : Refusal) → Err r ≡ fields_step (fields_at (kind_of h.code) s p h.body stop) → tree ≡ refused r.number r.place
    unfolding node_at
    fields-lost r e = opened ∙ rw (lost count_of child_count _ r e) refl

    module _ (b : Step) (eb : Ok b ≡ fields_step (fields_at (kind_of h.code) s p h.body stop)) (inside : end ≤ length s) where
      fields : Got count_of child_count (fields_at (kind_of h.code) s p h.body stop) b
      fields = got count_of child_count _ b eb

      -- they end in the descriptor
      pub fields_inside : b.next ≤ p + h.size
      fields_inside =
          (holds_read fields.eq (fields-end s p stop (omega (arith, fits.within)) (kind_of h.code) h.body fits.body (omega (arith, fits.body, fits.least)))).within

      children-lost : (r : Refusal) → Err r ≡ row_step s (levels - 1) (is_array (kind_of h.code)) stop b.children b.next (n + 1) → tree ≡ refused r.number r.place
      unfolding node_at
      children-lost r e =
          let same = e ∙ ap (λ (k : ℕ). row_step s (levels - 1) (is_array (kind_of h.code)) stop k b.next (n + 1)) fields.inside in
          opened ∙ rw (fields.eq, lost (λ f. n + 1 + forest_rows f) (λ _. 0) _ r same) refl

      module _ (deep : levels ≤ depth_limit) (w : Step) (ew : Ok w ≡ row_step s (levels - 1) (is_array (kind_of h.code)) stop b.children b.next (n + 1)) where
        children : Got (λ f. n + 1 + forest_rows f) (λ _. 0)
            (members_at (λ q m. below s levels (is_array (kind_of h.code)) stop q m) (child_count fields.value) b.next (n + 1)) w
        children = got _ _ _ w (ew ∙ ap (λ (k : ℕ). row_step s (levels - 1) (is_array (kind_of h.code)) stop k b.next (n + 1)) fields.inside)

        -- and stand there by themselves
        alone : standing_row s (child_count fields.value) b.next ≡ read w.next children.value
        alone =
            members-standing s (levels - 1) (is_array (kind_of h.code)) stop (omega arith) (omega (arith, fits.within)) (child_count fields.value) b.next (n + 1) w.next
            children.value children.eq

        one : is_stamp (kind_of h.code) ≡ true → child_count fields.value ≡ 1
        one e = stamp-one s (kind_of h.code) p h.body stop b.next fields.value e fields.eq

        -- they end in it, and those of a time stamp are one descriptor, which lies in the bytes
        pub children_in : ChildrenIn s (kind_of h.code) b.next (p + h.size) w.next
        children_in = record {
          inside =
              (holds_read children.eq
              (members-end stop (λ q m. below s levels (is_array (kind_of h.code)) stop q m)
              (λ q m. tree-ends s (levels - 1) (is_array (kind_of h.code)) stop q m (omega (arith, fits.within))) (child_count fields.value) b.next (n + 1) fields_inside)).0.within;
          lie = λ e. inside-lies s b.next w.next children.value (ap (λ (k : ℕ). standing_row s k b.next) (sym (one e)) ∙ alone);
        }

        -- what is left of it
        left : tree ≡ and_then (rest_at (kind_of h.code) s p b.next stop w.next) (λ last m. read last (node h.code fields.value children.value m))
        unfolding node_at rest_at
        left =
            opened
            ∙ rw (fields.eq, children.eq, inside-same s (kind_of h.code) (child_count fields.value) b.next w.next children.value one alone)
            (sym (require-then (not (is_stamp (kind_of h.code)) || stamp_at s b.next) 10 p (name_at s stop w.next) (λ last m. read last (node h.code fields.value children.value m))))

        rest-lost : (r : Refusal) → Err r ≡ counted length_of_name (rest_at (kind_of h.code) s p b.next stop w.next) → tree ≡ refused r.number r.place
        rest-lost r e = left ∙ rw (lost length_of_name (λ _. 0) _ r e) refl

        tree-read : (m : Step) → Ok m ≡ counted length_of_name (rest_at (kind_of h.code) s p b.next stop w.next) → Counted tree n stop w.value
        unfolding row_count
        tree-read m e =
            let name = got length_of_name (λ _. 0) _ m e in
            let last = holds_read name.eq (rest-ends (kind_of h.code) s p b.next stop w.next (omega (arith, fits.within))) in
            record {
              tree = node h.code fields.value children.value name.value;
              eq =
                  left
                  ∙ ap (λ (o : Outcome Name). and_then o (λ last m. read last (node h.code fields.value children.value m))) name.eq
                  ∙ ap (λ (j : ℕ). read j (node h.code fields.value children.value name.value)) last;
              rows = omega (arith, children.counts);
            }

-- ---- descriptors in a row

-- none
pub row_none : (s : List ℕ) (levels : ℕ) (a : Bool) (end p n : ℕ) → row_step s levels a end 0 p n ≡ Ok (read_step p n 0)
unfolding members_at forest_rows
row_none s levels a end p n = let d : n + 0 ≡ n = omega arith in ap (λ (j : ℕ). Ok (read_step p j 0)) d

-- k descriptors from p on, i of them read already
module _ (s : List ℕ) (levels : ℕ) (a : Bool) (end k i p n : ℕ) where
  abbrev pub row_from : Result Step Refusal
  row_from = row_step s levels a end (k - i) p n

  -- none left
  pub row_end : i ≡ k → row_from ≡ Ok (read_step p n 0)
  row_end e = none_left (λ (j : ℕ). row_step s levels a end j p n) k i (omega arith) ∙ row_none s levels a end p n

  module _ (more : i < k) where
    -- one that is refused refuses all
    row-lost : (r : Refusal) → tree s levels a end p n ≡ refused r.number r.place → row_from ≡ Err r
    unfolding members_at
    row-lost r e = one_less (λ (j : ℕ). row_step s levels a end j p n) k i more ∙ rw e refl

    -- one that is read leaves the others
    row-more : (q m : ℕ) → Counted (tree s levels a end p n) n q m → row_from ≡ row_step s levels a end (k - (i + 1)) q m
    unfolding members_at forest_rows
    row-more q m c =
        one_less (λ (j : ℕ). row_step s levels a end j p n) k i more
        ∙ rw (c.eq, c.rows) (go c.tree (members_at (λ q m. tree s levels a end q m) (k - (i + 1)) q (n + row_count c.tree)))
      where
        go : (t : Tree) (o : Outcome Forest)
            → counted (λ f. n + forest_rows f) (and_then o (λ r ts. read r (cons t ts))) ≡ counted (λ f. n + row_count t + forest_rows f) o
        go t (refused number place) = refl
        go t (read r ts) = let d : n + (row_count t + forest_rows ts) ≡ n + row_count t + forest_rows ts = omega arith in ap (λ (j : ℕ). Ok (read_step r j 0)) d

    -- the header of the next one is refused
    pub header_refused : (r : Refusal) → Err r ≡ head_of (header_at s levels a end p n) → row_from ≡ Err r
    header_refused r e = row-lost r (tree-lost levels s a end p n r.number r.place (head-lost _ r e))

    module _ (h : Head) (eh : Ok h ≡ head_of (header_at s levels a end p n)) where
      -- its fields are
      pub fields_refused : (r : Refusal) → Err r ≡ fields_step (fields_at (kind_of h.code) s p h.body (p + h.size)) → row_from ≡ Err r
      fields_refused r e = row-lost r (fields-lost s levels a end p n h eh r e)

      module _ (b : Step) (eb : Ok b ≡ fields_step (fields_at (kind_of h.code) s p h.body (p + h.size))) (inside : end ≤ length s) where
        -- its children are
        pub children_refused : (r : Refusal) → Err r ≡ row_step s (levels - 1) (is_array (kind_of h.code)) (p + h.size) b.children b.next (n + 1) → row_from ≡ Err r
        children_refused r e = row-lost r (children-lost s levels a end p n h eh b eb inside r e)

        module _ (deep : levels ≤ depth_limit) (w : Step)
            (ew : Ok w ≡ row_step s (levels - 1) (is_array (kind_of h.code)) (p + h.size) b.children b.next (n + 1)) where
          -- what is left of it is
          pub rest_refused : (r : Refusal) → Err r ≡ counted length_of_name (rest_at (kind_of h.code) s p b.next (p + h.size) w.next) → row_from ≡ Err r
          rest_refused r e = row-lost r (rest-lost s levels a end p n h eh b eb inside deep w ew r e)

          -- it is read
          pub one_more : (m : Step) → Ok m ≡ counted length_of_name (rest_at (kind_of h.code) s p b.next (p + h.size) w.next)
              → row_from ≡ row_step s levels a end (k - (i + 1)) (p + h.size) w.value
          one_more m e = row-more (p + h.size) w.value (tree-read s levels a end p n h eh b eb inside deep w ew m e)

-- ---- the whole

-- a row of one is the descriptor itself
pub row_one : (s : List ℕ) → row_step s depth_limit false (length s) 1 0 0 ≡ counted row_count (tree_at depth_limit s false (length s) 0 0)
unfolding members_at forest_rows
row_one s = go (tree_at depth_limit s false (length s) 0 0)
  where
    go : (o : Outcome Tree)
        → counted (λ f. 0 + forest_rows f) (and_then o (λ q t. and_then (read q nil) (λ r ts. read r (cons t ts)))) ≡ counted row_count o
    go (refused number place) = refl
    go (read q t) = let d : 0 + (row_count t + 0) ≡ row_count t = omega arith in ap (λ (j : ℕ). Ok (read_step q j 0)) d

pub ruleset row_steps = (row_none, row_end, header_refused, fields_inside, fields_refused, children_in, children_refused, rest_refused, one_more)
