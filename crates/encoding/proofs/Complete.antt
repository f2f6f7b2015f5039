-- What is spelled is read: the bytes of a well-formed tree within the limits are read as that tree.
-- Rests on the lengths of encodings and on the laws of parts of a list.
use mathlib.Core.Path.{◌≡◌, refl, sym, ap, ap₂, ◌∙◌}
use mathlib.Core.Bool.{Bool, true, false, cond, not, ◌&&◌, ◌||◌}
use mathlib.Core.List.{List, [], ◌∷◌, ◌++◌}
use Prim.Native.Nat.{ℕ, zero, suc, ◌+◌, ◌-◌, ◌*◌, ◌%◌, ◌≤◌, ◌<◌}
use native.Mathlib.Omega.{arith}
use borrow.Author.Tests.{eqb-true, eqb-false, lt-ltb, le-leb, eq-eqb, ne_eqb}
use lib.Dec.{ltb, eqb}
use lib.ListN.{length, get_or, replicate, replicate-append-replicate}
use lib.Seq.{slice}
use Rattle.number.specs.Endian.{be, be_bytes}
use Rattle.number.proofs.Writing.{length-be_bytes}
use Rattle.descriptor.specs.Limits.{row_limit, dimension_limit, pair_limit, count_limit, high_bit, fixed_word}
use Rattle.descriptor.specs.Codes.{Kind, kind_of, is_carried, is_array, is_stamp}
use Rattle.descriptor.specs.Header.{header_size, reserved_at, code_at, body_at, size_in, code_in}
use Rattle.descriptor.specs.Tree.{Name, unnamed, named, Pair, Fields, empty, items, pairs, text, dimensions, members, subtype, Tree, node, Forest, nil, cons, child_count, inside_at, items_size, fields_size, name_size, tree_size, forest_size, forest_length, row_count, forest_rows, height, forest_height}
use Rattle.descriptor.specs.Encoding.{word, pascal, packed, pair_bytes, fill, field_bytes, name_bytes, encode_with, forest_with, AllPairs, Counted, FieldsFit, WellFormed, AllWellFormed}
use Rattle.descriptor.specs.Stamp.{stamp_subtype, stamp_inside}
use Rattle.descriptor.specs.Outcome.{Outcome, read, and_then, require}
use Rattle.descriptor.specs.Check.{header_at, count_at, run_at, item_at, items_at, pairs_at, judged, base_fits, word_fits, fill_at, fields_at, members_at, name_at, node_at, tree_at}
use Rattle.descriptor.proofs.Sizes.{both_true}
use Rattle.descriptor.proofs.FieldKinds.{plain-fields, enumeration-fields, quantity-fields, string-fields, array-fields, cluster-fields, stamp-fields}
use Rattle.encoding.proofs.Slices.{slice-split, slice_first, slice-be}
use Rattle.encoding.proofs.Lengths.{fill-odd, packed-length, fields-length, forest-length, tree-length, tree-even}
use Rattle.encoding.proofs.Stamps.{stamp-passes}

-- a test that holds is passed
pub pass : {A : Type 0} {b : Bool} (number place : ℕ) {o u : Outcome A} → b ≡ true → o ≡ u → require b number place o ≡ u
pass number place {o} e f = ap (λ (t : Bool). require t number place o) e ∙ f

-- what was read goes on
pub onward : {A B : Type 0} {o : Outcome A} {q : ℕ} {x : A} (next : ℕ → A → Outcome B) {u : Outcome B} → o ≡ read q x → next q x ≡ u → and_then o next ≡ u
onward {A} next e f = ap (λ (o : Outcome A). and_then o next) e ∙ f

-- a test that holds chooses the first case
first-case : {A : Type 0} {b : Bool} {o u : Outcome A} (v : Outcome A) → b ≡ true → o ≡ u → cond b o v ≡ u
first-case {o = o} v e f = ap (λ (t : Bool). cond t o v) e ∙ f

-- and one that fails the second
second-case : {A : Type 0} {b : Bool} (o : Outcome A) {v u : Outcome A} → b ≡ false → v ≡ u → cond b o v ≡ u
second-case o {v} e f = ap (λ (t : Bool). cond t o v) e ∙ f

-- a code with such fields is carried
carried : (k : Kind) (b : Fields) → FieldsFit k b → is_carried k ≡ true
unfolding FieldsFit
carried k empty e = ap is_carried e
carried k (items xs) e = ap is_carried e.0
carried k (pairs ps) e = ap is_carried e.0
carried k text e = ap is_carried e
carried k (dimensions d) e = ap is_carried e.0
carried k (members j) e = ap is_carried e.0
carried k subtype e = ap is_carried e

module _ (s : List ℕ) where
  -- a word
  pub word_read : (p q v : ℕ) → q ≡ p + 2 → v < 65536 → slice p q s ≡ word v → be s p 2 ≡ v
  word_read p q v at h e =
      let r : be s p 2 ≡ v % 65536 = slice-be s p 2 v (ap (λ (k : ℕ). slice p k s) (sym at) ∙ e) in
      omega arith

  -- the header of a descriptor of that size and code
  pub header-complete : (levels : ℕ) (a : Bool) (end p n size c : ℕ) → size_in s p ≡ size → code_in s p ≡ c → p + size ≤ end → size % 2 ≡ 0
      → header_size ≤ size → size < high_bit → is_carried (kind_of c) ≡ true → 0 < levels → n < row_limit → (a && is_array (kind_of c)) ≡ false
      → header_at s levels a end p n ≡ read (body_at p) (record { size = size; code = c })
  unfolding header_at
  header-complete levels a end p n size c es ec room even least small known depth rows element =
      pass _ _ (le-leb header_size (end - p) (omega arith))
      (pass _ _ (lt-ltb (size_in s p) high_bit (omega arith))
      (pass _ _ (both_true (eq-eqb (size_in s p % 2) 0 (omega arith)) (both_true (le-leb header_size (size_in s p) (omega arith)) (le-leb (size_in s p) (end - p) (omega arith))))
      (pass _ _ (ap (λ (k : ℕ). is_carried (kind_of k)) ec ∙ known)
      (pass _ _ (lt-ltb 0 levels depth)
      (pass _ _ (lt-ltb n row_limit rows)
      (pass _ _ (ap (λ (k : ℕ). not (a && is_array (kind_of k))) ec ∙ ap not element)
      (λ j. read (body_at p) (record { size = es j; code = ec j }))))))))

  -- FFFFFFFF, k times
  pub words-complete : (k p : ℕ) → p + 4 * k ≤ length s → slice p (p + 4 * k) s ≡ replicate (4 * k) 255
      → judged (word_fits s) k p ≡ read (p + 4 * k) tt
  unfolding judged be_bytes
  words-complete zero p h e = ap (λ (q : ℕ). read q tt) (let z : p ≡ p + 4 * 0 = omega arith in z)
  words-complete (suc k) p h e =
      let last : p + 4 + 4 * k ≡ p + 4 * suc k = omega arith in
      let size : 4 * suc k ≡ 4 + 4 * k = omega arith in
      let whole : slice p (p + 4 + 4 * k) s ≡ replicate 4 255 ++ replicate (4 * k) 255 =
      ap (λ (q : ℕ). slice p q s) last ∙ e ∙ ap (λ (n : ℕ). replicate n 255) size ∙ sym (replicate-append-replicate 4 (4 * k) 255) in
      let parts = slice-split (replicate 4 255) (replicate (4 * k) 255) p (p + 4) (p + 4 + 4 * k) s refl (omega arith) (omega arith) whole in
      pass _ _ (eq-eqb (be s p 4) fixed_word (slice-be s p 4 fixed_word parts.0))
      (words-complete k (p + 4) (omega arith) parts.1 ∙ ap (λ (q : ℕ). read q tt) last)

  -- unit pairs
  pub pairs-complete : (ps : List Pair) (p : ℕ) → AllPairs ps → p + 4 * length ps ≤ length s → slice p (p + 4 * length ps) s ≡ pair_bytes ps
      → pairs_at s (length ps) p ≡ ps
  unfolding pair_bytes pairs_at AllPairs
  pairs-complete [] p fit h e = refl
  pairs-complete (x ∷ ps) p fit h e =
      let last : p + 4 + 4 * length ps ≡ p + 4 * suc (length ps) = omega arith in
      let w = slice-split (word x.base) (word x.exponent ++ pair_bytes ps) p (p + 2) (p + 4 + 4 * length ps) s
      (omega (arith, length-be_bytes 2 x.base)) (omega arith) (omega arith) (ap (λ (q : ℕ). slice p q s) last ∙ e) in
      let v = slice-split (word x.exponent) (pair_bytes ps) (p + 2) (p + 4) (p + 4 + 4 * length ps) s
      (omega (arith, length-be_bytes 2 x.exponent)) (omega arith) (omega arith) w.1 in
      let eb : be s p 2 ≡ x.base = word_read p (p + 2) x.base refl (omega (arith, fit.0.0)) w.0 in
      let ee : be s (p + 2) 2 ≡ x.exponent = word_read (p + 2) (p + 4) x.exponent (omega arith) (omega (arith, fit.0.1)) v.0 in
      let rest = pairs-complete ps (p + 4) fit.1 (omega arith) v.1 in
      (λ j. record { base = eb j; exponent = ee j } ∷ rest j)

  -- whose bases are within their limit
  pub bases-complete : (ps : List Pair) (p : ℕ) → AllPairs ps → pairs_at s (length ps) p ≡ ps
      → judged (base_fits s) (length ps) p ≡ read (p + 4 * length ps) tt
  unfolding judged pairs_at AllPairs
  bases-complete [] p fit e = ap (λ (q : ℕ). read q tt) (let z : p ≡ p + 4 * 0 = omega arith in z)
  bases-complete (x ∷ ps) p fit e =
      let base : be s p 2 ≡ x.base = ap (λ (l : List Pair). first-base l) e in
      let rest : pairs_at s (length ps) (p + 4) ≡ ps = ap (λ (l : List Pair). others l) e in
      pass _ _ (le-leb (be s p 2) _ (omega (arith, fit.0.0)))
      (bases-complete ps (p + 4) fit.1 rest ∙ ap (λ (q : ℕ). read q tt) (let z : p + 4 + 4 * length ps ≡ p + 4 * suc (length ps) = omega arith in z))
    where
      first-base : List Pair → ℕ
      first-base [] = 0
      first-base (y ∷ ys) = y.base

      others : List Pair → List Pair
      others [] = []
      others (y ∷ ys) = ys

  -- the parts of the descriptor at p that ends at `stop`
  module _ (p stop : ℕ) (inside : stop ≤ length s) where
    -- a count
    pub count-complete : (at most k : ℕ) → at + 2 ≤ stop → slice at (at + 2) s ≡ word k → Counted k most → most < 65536
        → count_at s at stop most ≡ read (at + 2) k
    unfolding count_at
    count-complete at most k room e c small =
        let w : be s at 2 ≡ k = word_read at (at + 2) k refl (omega (arith, c.within)) e in
        pass _ _ (le-leb (at + 2) stop room)
        (pass _ _ (both_true (le-leb 1 (be s at 2) (omega (arith, c.least))) (le-leb (be s at 2) most (omega (arith, c.within)))) (ap (read (at + 2)) w))

    -- a count with its words
    pub run-complete : (at most k : ℕ) → at + 2 + 4 * k ≤ stop → slice at (at + 2) s ≡ word k → Counted k most → most < 65536
        → run_at s at stop most ≡ read (at + 2 + 4 * k) k
    unfolding run_at
    run-complete at most k room e c small =
        onward _ (count-complete at most k (omega arith) e c small) (pass _ _ (le-leb (at + 2 + 4 * k) stop room) refl)

    -- a Pascal string
    pub item-complete : (at : ℕ) (x : List ℕ) → at + suc (length x) ≤ stop → slice at (at + suc (length x)) s ≡ pascal x
        → item_at s stop at ≡ read (at + suc (length x)) x
    unfolding item_at
    item-complete at x room e =
        let f = slice_first (length x) x at (at + 1) (at + suc (length x)) s 0 refl (omega arith) (omega arith) e in
        let q : at + 1 + get_or s at 0 ≡ at + suc (length x) = omega (arith, f.0) in
        pass _ _ (lt-ltb at stop (omega arith))
        (pass _ _ (le-leb (at + 1 + get_or s at 0) stop (omega arith)) (ap₂ read q (ap (λ (j : ℕ). slice (at + 1) j s) q ∙ f.1)))

    -- packed Pascal strings
    pub items-complete : (xs : List (List ℕ)) (at : ℕ) → at + items_size xs ≤ stop → slice at (at + items_size xs) s ≡ packed xs
        → items_at s stop (length xs) at ≡ read (at + items_size xs) xs
    unfolding items_at items_size packed
    items-complete [] at room e = ap (λ (q : ℕ). read q []) (let z : at ≡ at + 0 = omega arith in z)
    items-complete (x ∷ xs) at room e =
        let last : at + suc (length x) + items_size xs ≡ at + (suc (length x) + items_size xs) = omega arith in
        let parts = slice-split (pascal x) (packed xs) at (at + suc (length x)) (at + suc (length x) + items_size xs) s refl (omega arith) (omega arith)
        (ap (λ (q : ℕ). slice at q s) last ∙ e) in
        onward _ (item-complete at x (omega arith) parts.0)
        (onward _ (items-complete xs (at + suc (length x)) (omega arith) parts.1) (ap (λ (q : ℕ). read q (x ∷ xs)) last))

    -- the zero byte after n bytes from the body's third on, which end at `at`
    pub fill-complete : (at q n : ℕ) → at ≡ body_at p + 2 + n → q ≡ at + n % 2 → q ≤ stop → slice at q s ≡ fill n → fill_at s p stop at ≡ read q tt
    unfolding fill_at
    fill-complete at q n start last room e = go (eqb ((at - p) % 2) 0) refl
      where
        go : (even : Bool) → eqb ((at - p) % 2) 0 ≡ even
            → ◌≡◌ {A = Outcome (Unit {0})}
            (cond even (read at tt) (require (ltb at stop) 8 stop (require (eqb (get_or s at 0) 0) 10 at (read (at + 1) tt))))
            (read q tt)
        go true t = ap (λ (j : ℕ). read j tt) (let z : at ≡ q = omega (arith, eqb-true) in z)
        go false t =
            let odd : n % 2 ≡ 1 = omega (arith, eqb-false) in
            let f = slice_first 0 [] at (at + 1) q s 0 refl (omega arith) (omega arith) (e ∙ fill-odd n odd) in
            pass _ _ (lt-ltb at stop (omega arith))
            (pass _ _ (eq-eqb (get_or s at 0) 0 f.0) (ap (λ (j : ℕ). read j tt) (let z : at + 1 ≡ q = omega arith in z)))

    -- the fields of the body
    pub fields-complete : (k : Kind) (b : Fields) → FieldsFit k b → inside_at p b ≤ stop → slice (body_at p) (inside_at p b) s ≡ field_bytes b
        → fields_at k s p (body_at p) stop ≡ read (inside_at p b) b
    unfolding FieldsFit fields_size field_bytes
    fields-complete k empty fit room e =
        ap (λ (j : Kind). fields_at j s p (body_at p) stop) fit ∙ plain-fields s p (body_at p) stop
        ∙ ap (λ (q : ℕ). read q empty) (let z : body_at p ≡ body_at p + 0 = omega arith in z)
    fields-complete k (items xs) fit room e =
        let at : ℕ = body_at p in
        let last : ℕ = at + (2 + (items_size xs + items_size xs % 2)) in
        let next : ℕ = at + 2 + items_size xs in
        let w = slice-split (word (length xs)) (packed xs ++ fill (items_size xs)) at (at + 2) last s
        (omega (arith, length-be_bytes 2 (length xs))) (omega arith) (omega arith) e in
        let v = slice-split (packed xs) (fill (items_size xs)) (at + 2) next last s (omega (arith, packed-length xs)) (omega arith) (omega arith) w.1 in
        ap (λ (j : Kind). fields_at j s p at stop) fit.0 ∙ enumeration-fields s p at stop
        ∙ onward _ (count-complete at count_limit (length xs) (omega arith) w.0 fit.1.0 (omega arith))
        (onward _ (items-complete xs (at + 2) (omega arith) v.0) (onward _ (fill-complete next last (items_size xs) refl (omega arith) room v.1) refl))
    fields-complete k (pairs ps) fit room e =
        let at : ℕ = body_at p in
        let last : at + (2 + 4 * length ps) ≡ at + 2 + 4 * length ps = omega arith in
        let w = slice-split (word (length ps)) (pair_bytes ps) at (at + 2) (at + 2 + 4 * length ps) s
        (omega (arith, length-be_bytes 2 (length ps))) (omega arith) (omega arith) (ap (λ (q : ℕ). slice at q s) (sym last) ∙ e) in
        let same : pairs_at s (length ps) (at + 2) ≡ ps = pairs-complete ps (at + 2) fit.1.1 (omega arith) w.1 in
        ap (λ (j : Kind). fields_at j s p at stop) fit.0 ∙ quantity-fields s p at stop
        ∙ onward _ (run-complete at pair_limit (length ps) (omega arith) w.0 fit.1.0 (omega arith))
        (onward _ (bases-complete ps (at + 2) fit.1.1 same) (ap₂ (λ (q : ℕ) (xs : List Pair). read q (pairs xs)) (sym last) same))
    fields-complete k text fit room e =
        let at : ℕ = body_at p in
        let last : at + 4 * 1 ≡ at + 4 = omega arith in
        ap (λ (j : Kind). fields_at j s p at stop) fit ∙ string-fields s p at stop
        ∙ pass _ _ (le-leb (at + 4) stop room)
        (onward _ (words-complete 1 at (omega arith) (ap (λ (q : ℕ). slice at q s) last ∙ e)) refl)
    fields-complete k (dimensions d) fit room e =
        let at : ℕ = body_at p in
        let last : at + (2 + 4 * d) ≡ at + 2 + 4 * d = omega arith in
        let w = slice-split (word d) (replicate (4 * d) 255) at (at + 2) (at + 2 + 4 * d) s
        (omega (arith, length-be_bytes 2 d)) (omega arith) (omega arith) (ap (λ (q : ℕ). slice at q s) (sym last) ∙ e) in
        ap (λ (j : Kind). fields_at j s p at stop) fit.0 ∙ array-fields s p at stop
        ∙ onward _ (run-complete at dimension_limit d (omega arith) w.0 fit.1 (omega arith))
        (onward _ (words-complete d (at + 2) (omega arith) w.1) (ap (λ (q : ℕ). read q (dimensions d)) (sym last)))
    fields-complete k (members j) fit room e =
        let at : ℕ = body_at p in
        ap (λ (j : Kind). fields_at j s p at stop) fit.0 ∙ cluster-fields s p at stop
        ∙ onward _ (count-complete at count_limit j room e fit.1 (omega arith)) refl
    fields-complete k subtype fit room e =
        let at : ℕ = body_at p in
        ap (λ (j : Kind). fields_at j s p at stop) fit ∙ stamp-fields s p at stop
        ∙ pass _ _ (le-leb (at + 2) stop room) (pass _ _ (eq-eqb (be s at 2) stamp_subtype (word_read at (at + 2) stamp_subtype refl (omega arith) e)) refl)

    -- a name
    pub name-complete : (at : ℕ) (m : Name) → stop ≡ at + name_size m → slice at stop s ≡ name_bytes m → name_at s stop at ≡ read stop m
    unfolding name_at name_size name_bytes
    name-complete at unnamed last e =
        let z : at ≡ stop = omega arith in
        first-case _ (eq-eqb at stop z) (ap (λ (q : ℕ). read q unnamed) z)
    name-complete at (named x) last e =
        let long : ℕ = suc (length x) in
        let w = slice-split (pascal x) (fill long) at (at + long) stop s refl (omega arith) inside e in
        let f = slice_first (length x) x at (at + 1) (at + long) s 0 refl (omega arith) (omega arith) w.0 in
        let q : at + 1 + get_or s at 0 ≡ at + long = omega (arith, f.0) in
        second-case _ (ne_eqb at stop (λ z. omega arith))
        (pass _ _ (eq-eqb _ stop (let z : at + 1 + get_or s at 0 + (1 + get_or s at 0) % 2 ≡ stop = omega (arith, f.0) in z))
        (pass _ _ (go f.0 q w.1 (eqb ((1 + get_or s at 0) % 2) 0) refl)
        (ap (λ (y : List ℕ). read stop (named y)) (ap (λ (j : ℕ). slice (at + 1) j s) q ∙ f.1))))
      where
        go : get_or s at 0 ≡ length x → at + 1 + get_or s at 0 ≡ at + suc (length x) → slice (at + suc (length x)) stop s ≡ fill (suc (length x))
            → (even : Bool) → eqb ((1 + get_or s at 0) % 2) 0 ≡ even → (even || eqb (get_or s (at + 1 + get_or s at 0) 0) 0) ≡ true
        go g q v true t = refl
        go g q v false t =
            let odd : suc (length x) % 2 ≡ 1 = omega (arith, eqb-false) in
            let z = slice_first 0 [] (at + suc (length x)) (at + suc (length x) + 1) stop s 0 refl (omega arith) inside
            (v ∙ fill-odd (suc (length x)) odd) in
            eq-eqb (get_or s (at + 1 + get_or s at 0) 0) 0 (ap (λ (j : ℕ). get_or s j 0) q ∙ z.0)

  -- a descriptor of these parts and that size, whose children f reads
  node-complete : (f : Bool → ℕ → ℕ → ℕ → Outcome Tree) (r : ℕ → ℕ) (p n size c : ℕ) (b : Fields) (ts : Forest) (m : Name)
      → size ≡ tree_size (node c b ts m) → p + size ≤ length s → FieldsFit (kind_of c) b → (is_stamp (kind_of c) ≡ true → ts ≡ stamp_inside)
      → slice (body_at p) (p + size) s ≡ field_bytes b ++ (forest_with r (inside_at p b) ts ++ name_bytes m)
      → (slice (inside_at p b) (inside_at p b + forest_size ts) s ≡ forest_with r (inside_at p b) ts
      → members_at (f (is_array (kind_of c)) (p + size)) (child_count b) (inside_at p b) (n + 1) ≡ read (inside_at p b + forest_size ts) ts)
      → node_at s f p n (body_at p) (record { size = size; code = c }) ≡ read (p + size) (node c b ts m)
  unfolding node_at tree_size
  node-complete f r p n size c b ts m sized inside fit stamped e children =
      let at : ℕ = inside_at p b in
      let v = slice-split (field_bytes b) (forest_with r at ts ++ name_bytes m) (body_at p) at (p + size) s
      (omega (arith, fields-length b)) (omega arith) inside e in
      let w = slice-split (forest_with r at ts) (name_bytes m) at (at + forest_size ts) (p + size) s
      (omega (arith, forest-length ts r at)) (omega arith) inside v.1 in
      onward _ (fields-complete p (p + size) inside (kind_of c) b fit (omega arith) v.0)
      (onward _ (children w.0)
      (pass _ _ (stamp-passes (kind_of c) ts stamped)
      (onward _ (name-complete p (p + size) inside (at + forest_size ts) m (omega arith) w.1) refl)))

  mutual
    unfolding tree_at members_at tree_size encode_with WellFormed row_count height forest_length

    -- the bytes of a tree are read as that tree
    pub tree-complete : (t : Tree) (levels : ℕ) (a : Bool) (end p n : ℕ) (r : ℕ → ℕ) → end ≤ length s → p + tree_size t ≤ end → tree_size t < high_bit
        → slice p (p + tree_size t) s ≡ encode_with r p t → WellFormed a t → n + row_count t ≤ row_limit → height t ≤ levels
        → tree_at levels s a end p n ≡ read (p + tree_size t) t
    tree-complete (node c b f m) zero a end p n r inside room small e formed rows deep = absurd (omega arith)
    tree-complete (node c b f m) (suc d) a end p n r inside room small e formed rows deep =
        let size : ℕ = header_size + fields_size b + forest_size f + name_size m in
        let body : List ℕ = field_bytes b ++ (forest_with r (inside_at p b) f ++ name_bytes m) in
        let w = slice-split (word size) (r p ∷ c ∷ body) p (reserved_at p) (p + size) s
        (omega (arith, length-be_bytes 2 size)) (omega arith) (omega arith) e in
        let v = slice_first (r p) (c ∷ body) (reserved_at p) (code_at p) (p + size) s 0 (omega arith) (omega arith) (omega arith) w.1 in
        let u = slice_first c body (code_at p) (body_at p) (p + size) s 0 (omega arith) (omega arith) (omega arith) v.1 in
        onward _
        (header-complete (suc d) a end p n size c (word_read p (reserved_at p) size refl (omega arith) w.0) u.0 room (tree-even (node c b f m)) (omega arith) small
        (carried (kind_of c) b formed.fields) (omega arith) (omega arith) formed.element)
        (node-complete (λ a stop q m. tree_at d s a stop q m) r p n size c b f m refl (omega arith) formed.fields formed.stamped u.1
        (λ i.
        ap (λ (k : ℕ). members_at (λ q m. tree_at d s (is_array (kind_of c)) (p + size) q m) k (inside_at p b) (n + 1)) (sym formed.children)
        ∙ forest-complete f d (is_array (kind_of c)) (p + size) (inside_at p b) (n + 1) r (omega arith) (omega arith) (omega arith) i formed.inside
        (omega arith) (omega arith)))

    -- and so are those of descriptors in a row
    forest-complete : (f : Forest) (d : ℕ) (a : Bool) (end p n : ℕ) (r : ℕ → ℕ) → end ≤ length s → p + forest_size f ≤ end → forest_size f < high_bit
        → slice p (p + forest_size f) s ≡ forest_with r p f → AllWellFormed a f → n + forest_rows f ≤ row_limit → forest_height f ≤ d
        → members_at (λ q m. tree_at d s a end q m) (forest_length f) p n ≡ read (p + forest_size f) f
    forest-complete nil d a end p n r inside room small e formed rows deep = ap (λ (q : ℕ). read q nil) (let z : p ≡ p + 0 = omega arith in z)
    forest-complete (cons t f) d a end p n r inside room small e formed rows deep =
        let last : p + tree_size t + forest_size f ≡ p + (tree_size t + forest_size f) = omega arith in
        let w = slice-split (encode_with r p t) (forest_with r (p + tree_size t) f) p (p + tree_size t) (p + tree_size t + forest_size f) s
        (omega (arith, tree-length t r p)) (omega arith) (omega arith) (ap (λ (q : ℕ). slice p q s) last ∙ e) in
        onward _ (tree-complete t d a end p n r inside (omega arith) (omega arith) w.0 formed.0 (omega arith) (omega arith))
        (onward _
        (forest-complete f d a end (p + tree_size t) (n + row_count t) r inside (omega arith) (omega arith) w.1 formed.1 (omega arith) (omega arith))
        (ap (λ (q : ℕ). read q (cons t f)) last))
