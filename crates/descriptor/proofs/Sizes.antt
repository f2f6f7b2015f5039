-- Where a reading ends, by what it read: every part ends its own size after its start, and within the descriptor that it stands in.
-- Rests on the definitions of the check, and on the list reaching as far as the descriptor.
use mathlib.Core.Path.{◌≡◌, refl, ap, ◌∙◌}
use mathlib.Core.Bool.{Bool, true, false, ◌&&◌, ◌||◌}
use mathlib.Core.List.{List}
use Prim.Native.Nat.{ℕ, zero, suc, ◌+◌, ◌-◌, ◌*◌, ◌%◌, ◌≤◌, ◌<◌}
use native.Mathlib.Omega.{arith}
use borrow.Author.Tests.{leb-true, ltb-true, eqb-true, eqb-false, not-true}
use lib.Dec.{leb, ltb, eqb}
use lib.ListN.{length, get_or}
use lib.Seq.{length-slice}
use Rattle.number.specs.Endian.{be}
use Rattle.descriptor.specs.Limits.{row_limit, dimension_limit, pair_limit, count_limit, high_bit}
use Rattle.descriptor.specs.Codes.{Kind, plain, enumeration, quantity, string, array, cluster, stamp, unknown, kind_of, is_carried, is_array}
use Rattle.descriptor.specs.Header.{header_size, body_at, size_in, code_in}
use Rattle.descriptor.specs.Tree.{Name, Fields, empty, items, pairs, text, dimensions, members, subtype, Tree, Forest, child_count, inside_at, items_size, fields_size, name_size, tree_size, forest_size, forest_length, row_count}
use Rattle.descriptor.specs.Outcome.{Outcome, read}
use Rattle.descriptor.specs.Stamp.{stamp_subtype, inside_fits}
use Rattle.descriptor.specs.Check.{Header, header_at, count_at, run_at, item_at, items_at, pairs_at, fields_read, contents_at, fill_at, filled_at, fields_at, members_at, name_at, node_at, tree_at}
use Rattle.descriptor.proofs.Outcomes.{Holds, nothing, found, holds_read, holds-require, holds-cond, holds-and_then, holds-weaken, holds-self}

-- `size` bytes from p end at q, which is within `stop`
pub record Ends (p stop size q : ℕ) : Type 0 where
  pub at : q ≡ p + size
  pub within : q ≤ stop

-- both tests of a conjunction
pub and-true : (a b : Bool) → (a && b) ≡ true → (a ≡ true) × (b ≡ true)
and-true true b e = (refl, e)
and-true false b e = absurd (let z : ◌≡◌ {A = ℕ} 0 1 = cc in omega arith)

-- a conjunction of tests that hold
pub both_true : {a b : Bool} → a ≡ true → b ≡ true → (a && b) ≡ true
both_true {b = b} e f = ap (λ (t : Bool). t && b) e ∙ f

-- what a header that was read says of itself
pub record HeaderFits (s : List ℕ) (levels : ℕ) (in_array : Bool) (end p n at : ℕ) (h : Header) : Type 0 where
  pub body : at ≡ body_at p
  pub size : h.size ≡ size_in s p
  pub code : h.code ≡ code_in s p
  pub small : h.size < high_bit
  pub even : h.size % 2 ≡ 0
  pub least : header_size ≤ h.size
  pub within : p + h.size ≤ end
  pub carried : is_carried (kind_of h.code) ≡ true
  pub depth : 0 < levels
  pub rows : n < row_limit
  pub element : (in_array && is_array (kind_of h.code)) ≡ false

-- a header that is read fits
pub header-fits : (s : List ℕ) (levels : ℕ) (in_array : Bool) (end p n : ℕ)
    → Holds (λ q h. HeaderFits s levels in_array end p n q h) (header_at s levels in_array end p n)
unfolding header_at
header-fits s levels in_array end p n =
    holds-require _ _ _ (λ room.
    holds-require _ _ _ (λ small.
    holds-require _ _ _ (λ sized.
    holds-require _ _ _ (λ carried.
    holds-require _ _ _ (λ depth.
    holds-require _ _ _ (λ rows.
    holds-require _ _ _ (λ element.
    let parts = and-true _ _ sized in
    let bounds = and-true _ _ parts.1 in
    let r : header_size ≤ end - p = leb-true _ _ room in
    let w : size_in s p ≤ end - p = leb-true _ _ bounds.1 in
    found (record {
      body = refl;
      size = refl;
      code = refl;
      small = ltb-true _ _ small;
      even = eqb-true _ _ parts.0;
      least = leb-true _ _ bounds.0;
      within = omega arith;
      carried = carried;
      depth = ltb-true _ _ depth;
      rows = ltb-true _ _ rows;
      element = not-true _ element;
    }))))))))

-- what a count that was read at `at` says of itself
pub record CountFits (s : List ℕ) (at stop most q k : ℕ) : Type 0 where
  pub next : q ≡ at + 2
  pub within : q ≤ stop
  pub word : k ≡ be s at 2
  pub least : 1 ≤ k
  pub limit : k ≤ most

-- a count that is read fits
pub count_fits : (s : List ℕ) (at stop most : ℕ) → Holds (λ q k. CountFits s at stop most q k) (count_at s at stop most)
unfolding count_at
count_fits s at stop most =
    holds-require _ _ _ (λ room.
    holds-require _ _ _ (λ range.
    let parts = and-true _ _ range in
    found (record { next = refl; within = leb-true _ _ room; word = refl; least = leb-true _ _ parts.0; limit = leb-true _ _ parts.1 })))

-- what a count with its words says of itself
pub record RunFits (s : List ℕ) (at stop most q k : ℕ) : Type 0 where
  pub next : q ≡ at + 2 + 4 * k
  pub within : q ≤ stop
  pub word : k ≡ be s at 2
  pub least : 1 ≤ k
  pub limit : k ≤ most

-- a run that is read fits
pub run_fits : (s : List ℕ) (at stop most : ℕ) → Holds (λ q k. RunFits s at stop most q k) (run_at s at stop most)
unfolding run_at
run_fits s at stop most =
    holds-and_then (count_fits s at stop most) (λ next k c.
    holds-require (leb (next + 4 * k) stop) _ _ (λ room.
    found (record { next = omega (arith, c.next); within = leb-true _ _ room; word = c.word; least = c.least; limit = c.limit })))

-- as many pairs as asked for
pub length-pairs_at : (s : List ℕ) (k at : ℕ) → length (pairs_at s k at) ≡ k
unfolding pairs_at
length-pairs_at s zero at = refl
length-pairs_at s (suc k) at = ap suc (length-pairs_at s k (at + 4))

-- the bytes of a body's fields as they are read, before an enumeration's fill
unfoldable pub read_size : Fields → ℕ
read_size empty = 0
read_size (items xs) = 2 + items_size xs
read_size (pairs ps) = fields_size (pairs ps)
read_size text = fields_size text
read_size (dimensions k) = fields_size (dimensions k)
read_size (members k) = fields_size (members k)
read_size subtype = fields_size subtype

module _ (s : List ℕ) (p stop : ℕ) (inside : stop ≤ length s) where
  -- a Pascal string
  pub item-ends : (at : ℕ) → Holds (λ q x. Ends at stop (suc (length x)) q) (item_at s stop at)
  unfolding item_at
  item-ends at =
      holds-require (ltb at stop) _ _ (λ _.
      holds-require (leb (at + 1 + get_or s at 0) stop) _ _ (λ e.
      let fits : at + 1 + get_or s at 0 ≤ stop = leb-true _ _ e in
      found (record { at = omega (arith, length-slice (at + 1) (at + 1 + get_or s at 0) s (omega arith)); within = fits })))

  -- k Pascal strings
  pub items-end : (k at : ℕ) → at ≤ stop → Holds (λ q xs. Ends at stop (items_size xs) q × (length xs ≡ k)) (items_at s stop k at)
  unfolding items_at items_size
  items-end zero at h = found (record { at = omega arith; within = h }, refl)
  items-end (suc k) at h =
      holds-and_then (item-ends at) (λ next x i.
      holds-and_then (items-end k next i.within) (λ last xs r.
      found (record { at = omega arith; within = r.0.within }, ap suc r.1)))

  -- the fields of a body as they are read
  pub read-ends : (k : Kind) (at : ℕ) → at ≤ stop → Holds (λ q b. Ends at stop (read_size b) q) (fields_read k s p at stop)
  unfolding fields_read fields_size read_size
  read-ends plain at h = found (record { at = omega arith; within = h })
  read-ends enumeration at h =
      holds-and_then (count_fits s at stop count_limit) (λ next k c.
      holds-and_then (items-end k next c.within) (λ last xs i. found (record { at = omega (arith, c.next, i.0.at); within = i.0.within })))
  read-ends quantity at h =
      holds-and_then (run_fits s at stop pair_limit) (λ last k r.
      found (record { at = omega (arith, r.next, length-pairs_at s k (at + 2)); within = r.within }))
  read-ends string at h = holds-require (leb (at + 4) stop) _ _ (λ room. found (record { at = omega arith; within = leb-true _ _ room }))
  read-ends array at h = holds-and_then (run_fits s at stop dimension_limit) (λ last k r. found (record { at = omega (arith, r.next); within = r.within }))
  read-ends cluster at h = holds-and_then (count_fits s at stop count_limit) (λ last k c. found (record { at = omega (arith, c.next); within = c.within }))
  read-ends stamp at h =
      holds-require (leb (at + 2) stop) _ _ (λ room.
      holds-require (eqb (be s at 2) stamp_subtype) _ _ (λ _. found (record { at = omega arith; within = leb-true _ _ room })))
  read-ends unknown at h = nothing

  -- the zero byte after items, in a descriptor whose body starts an even number of bytes after it
  filled-ends : (at next : ℕ) (b : Fields) → p ≤ at → (at - p) % 2 ≡ 0 → Ends at stop (read_size b) next
      → Holds (λ q _. Ends at stop (fields_size b) q) (filled_at s p stop next b)
  unfolding filled_at fill_at fields_size read_size
  filled-ends at next empty h even e = found e
  filled-ends at next (items xs) h even e =
      holds-cond (eqb ((next - p) % 2) 0)
      (λ same. found (record { at = omega (arith, eqb-true, e.at); within = e.within }))
      (λ odd.
      holds-require (ltb next stop) _ _ (λ room.
      holds-require (eqb (get_or s next 0) 0) _ _ (λ _. found (record { at = omega (arith, eqb-false, e.at); within = omega (arith, ltb-true) }))))
  filled-ends at next (pairs ps) h even e = found e
  filled-ends at next text h even e = found e
  filled-ends at next (dimensions k) h even e = found e
  filled-ends at next (members k) h even e = found e
  filled-ends at next subtype h even e = found e

  -- the fields of a body
  pub fields-end : (k : Kind) (at : ℕ) → at ≡ body_at p → at ≤ stop → Holds (λ q b. Ends at stop (fields_size b) q) (fields_at k s p at stop)
  unfolding fields_at
  fields-end k at body h =
      holds-and_then (read-ends k at h) (λ next b e.
      holds-and_then (holds-self (contents_at s at b)) (λ _ _ _.
      holds-and_then (filled-ends at next b (omega arith) (omega arith) e) (λ last _ f. found f)))

  -- a name, which ends where the descriptor does
  pub name-ends : (at : ℕ) → Holds (λ q m. (q ≡ at + name_size m) × (q ≡ stop)) (name_at s stop at)
  unfolding name_at name_size
  name-ends at =
      holds-cond (eqb at stop) (λ same. let e = eqb-true _ _ same in found (omega arith, e))
      (λ _.
      holds-require (eqb (at + 1 + get_or s at 0 + (1 + get_or s at 0) % 2) stop) _ _ (λ room.
      holds-require (eqb ((1 + get_or s at 0) % 2) 0 || eqb (get_or s (at + 1 + get_or s at 0) 0) 0) _ _ (λ _.
      found (omega (arith, eqb-true, length-slice (at + 1) (at + 1 + get_or s at 0) s (omega (arith, eqb-true))), refl))))

-- descriptors in a row, each read by f
pub members-end : (stop : ℕ) (f : ℕ → ℕ → Outcome Tree) → ((p n : ℕ) → Holds (λ q t. Ends p stop (tree_size t) q) (f p n)) → (k p n : ℕ) → p ≤ stop
    → Holds (λ q ts. Ends p stop (forest_size ts) q × (forest_length ts ≡ k)) (members_at f k p n)
unfolding members_at forest_size forest_length
members-end stop f ends zero p n h = found (record { at = omega arith; within = h }, refl)
members-end stop f ends (suc k) p n h =
    holds-and_then (ends p n) (λ q t e.
    holds-and_then (members-end stop f ends k q (n + row_count t) e.within) (λ r ts es.
    found (record { at = omega arith; within = es.0.within }, ap suc es.1)))

module _ (s : List ℕ) where
  -- a descriptor whose header is read, where f reads its children
  node-ends : (f : Bool → ℕ → ℕ → ℕ → Outcome Tree)
      → ((a : Bool) (stop p n : ℕ) → stop ≤ length s → Holds (λ q t. Ends p stop (tree_size t) q) (f a stop p n))
      → (p n body : ℕ) (h : Header) → body ≡ body_at p → header_size ≤ h.size → p + h.size ≤ length s
      → Holds (λ q t. Ends p (p + h.size) (tree_size t) q) (node_at s f p n body h)
  unfolding node_at tree_size
  node-ends f ends p n body h start least inside =
      holds-and_then (fields-end s p (p + h.size) inside (kind_of h.code) body start (omega arith)) (λ at b eb.
      holds-and_then
      (members-end (p + h.size) (f (is_array (kind_of h.code)) (p + h.size)) (λ q m. ends (is_array (kind_of h.code)) (p + h.size) q m inside)
      (child_count b) at (n + 1) eb.within) (λ next ts es.
      holds-require (inside_fits (kind_of h.code) ts) _ _ (λ _.
      holds-and_then (name-ends s p (p + h.size) inside next) (λ last m em.
      found (record { at = omega arith; within = omega arith })))))

  -- a descriptor
  pub tree-ends : (levels : ℕ) (a : Bool) (end p n : ℕ) → end ≤ length s → Holds (λ q t. Ends p end (tree_size t) q) (tree_at levels s a end p n)
  unfolding tree_at
  tree-ends zero a end p n inside =
      holds-and_then (header-fits s zero a end p n) (λ _ h fits. absurd (omega (arith, fits.depth)))
  tree-ends (suc d) a end p n inside =
      holds-and_then (header-fits s (suc d) a end p n) (λ body h fits.
      holds-weaken
      (node-ends (λ a stop q m. tree_at d s a stop q m) (λ a stop q m i. tree-ends d a stop q m i) p n body h fits.body fits.least
      (omega (arith, fits.within)))
      (λ q t e. record { at = e.at; within = omega (arith, fits.within, e.within) }))

-- The same of what a reading is known to come to.
module _ (s : List ℕ) (p stop : ℕ) (inside : stop ≤ length s) where
  -- the fields of a body
  pub fields-size : (k : Kind) (q : ℕ) (b : Fields) → body_at p ≤ stop → fields_at k s p (body_at p) stop ≡ read q b → q ≡ inside_at p b
  fields-size k q b h e = (holds_read e (fields-end s p stop inside k (body_at p) refl h)).at

  -- a name
  pub name-size : (at q : ℕ) (m : Name) → name_at s stop at ≡ read q m → (q ≡ at + name_size m) × (q ≡ stop)
  name-size at q m e = holds_read e (name-ends s p stop inside at)

module _ (s : List ℕ) (levels : ℕ) (a : Bool) (end : ℕ) (inside : end ≤ length s) where
  -- a descriptor
  pub tree-size : (p n q : ℕ) (t : Tree) → tree_at levels s a end p n ≡ read q t → q ≡ p + tree_size t
  tree-size p n q t e = (holds_read e (tree-ends s levels a end p n inside)).at

  -- descriptors in a row
  pub members-size : (k p n q : ℕ) (f : Forest) → p ≤ end → members_at (λ q m. tree_at levels s a end q m) k p n ≡ read q f
      → (q ≡ p + forest_size f) × (forest_length f ≡ k)
  members-size k p n q f h e =
      let r = holds_read e (members-end end (λ q m. tree_at levels s a end q m) (λ q m. tree-ends s levels a end q m inside) k p n h) in
      (r.0.at, r.1)
