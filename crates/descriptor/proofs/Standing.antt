-- In bytes that were accepted, each inner descriptor can be read by itself, with the widest settings: what a reading accepts, it accepts
-- with more of the depth left, a later end, no array around and fewer rows before. Rests on the definitions of the check and on `Sizes`.
use mathlib.Core.Path.{◌≡◌, refl, sym, ap, ◌∙◌}
use mathlib.Core.Bool.{Bool, true, false, ◌&&◌}
use mathlib.Core.List.{List}
use Prim.Native.Nat.{ℕ, zero, suc, ◌+◌, ◌-◌, ◌%◌, ◌≤◌, ◌<◌}
use native.Mathlib.Omega.{arith}
use borrow.Author.Tests.{lt-ltb, le-leb, eq-eqb, eqb-true, leb-true}
use lib.Dec.{leb, eqb}
use lib.ListN.{length}
use Rattle.descriptor.specs.Limits.{descriptor_limit, row_limit, depth_limit, high_bit}
use Rattle.descriptor.specs.Codes.{kind_of, is_carried, is_array}
use Rattle.descriptor.specs.Header.{header_size, body_at, size_in, code_in}
use Rattle.descriptor.specs.Tree.{Name, Fields, Tree, node, Forest, nil, cons, child_count, inside_at, tree_size, forest_size, forest_length, row_count, height, forest_height}
use Rattle.descriptor.specs.Outcome.{Outcome, read}
use Rattle.descriptor.specs.Stamp.{inside_fits}
use Rattle.descriptor.specs.Check.{Header, header_at, fields_at, members_at, name_at, node_at, tree_at, checked}
use Rattle.descriptor.specs.inner.Standing.{standing, standing_row}
use Rattle.descriptor.proofs.Outcomes.{Holds, found, holds-self, holds_read, holds-require, holds-and_then, holds-both, holds-weaken}
use Rattle.descriptor.proofs.Sizes.{Ends, HeaderFits, header-fits, fields-end, name-ends, members-end, tree-ends}

module _ (s : List ℕ) where
  -- a header that fits is read with wider settings
  header-wider : (levels more : ℕ) (a b : Bool) (end late p n m : ℕ) → levels ≤ more → end ≤ late → m ≤ n
      → ((x : Bool) → (a && x) ≡ false → (b && x) ≡ false) → (body : ℕ) (h : Header) → HeaderFits s levels a end p n body h
      → header_at s more b late p m ≡ read body h
  unfolding header_at
  header-wider levels more a b end late p n m deeper later fewer calm body h fits =
      let least : header_size ≤ size_in s p = omega (arith, fits.least, fits.size) in
      let within : size_in s p ≤ late - p = omega (arith, fits.within, fits.size) in
      let known : is_carried (kind_of (code_in s p)) ≡ true = ap (λ (c : ℕ). is_carried (kind_of c)) (sym fits.code) ∙ fits.carried in
      let element : (b && is_array (kind_of (code_in s p))) ≡ false =
      ap (λ (c : ℕ). b && is_array (kind_of c)) (sym fits.code) ∙ calm _ fits.element in
      simp (
        le-leb header_size (late - p) (omega (arith, fits.least, fits.within)),
        lt-ltb (size_in s p) high_bit (omega (arith, fits.small, fits.size)),
        eq-eqb (size_in s p % 2) 0 (ap (λ (k : ℕ). k % 2) (sym fits.size) ∙ fits.even),
        le-leb header_size (size_in s p) least,
        le-leb (size_in s p) (late - p) within,
        known,
        lt-ltb 0 more (omega (arith, fits.depth)),
        lt-ltb m row_limit (omega (arith, fits.rows)),
        element,
      )
      (λ j. read (sym fits.body j) (record { size = sym fits.size j; code = sym fits.code j }))

-- descriptors in a row, where g reads what f reads
members-wider : (f g : ℕ → ℕ → Outcome Tree) → ((p n m : ℕ) → m ≤ n → Holds (λ q t. g p m ≡ read q t) (f p n)) → (k p n m : ℕ) → m ≤ n
    → Holds (λ q ts. members_at g k p m ≡ read q ts) (members_at f k p n)
unfolding members_at
members-wider f g wider zero p n m fewer = found refl
members-wider f g wider (suc k) p n m fewer =
    holds-and_then (wider p n m fewer) (λ q t e.
    holds-and_then (members-wider f g wider k q (n + row_count t) (m + row_count t) (omega arith)) (λ r ts es. found (rw (e, es))))

module _ (s : List ℕ) where
  -- a descriptor whose header is read
  node-wider : (f g : Bool → ℕ → ℕ → ℕ → Outcome Tree)
      → ((a : Bool) (stop p n m : ℕ) → m ≤ n → Holds (λ q t. g a stop p m ≡ read q t) (f a stop p n)) → (p n m body : ℕ) (h : Header) → m ≤ n
      → Holds (λ q t. node_at s g p m body h ≡ read q t) (node_at s f p n body h)
  unfolding node_at
  node-wider f g wider p n m body h fewer =
      let in_array : Bool = is_array (kind_of h.code) in
      let stop : ℕ = p + h.size in
      holds-and_then (holds-self (fields_at (kind_of h.code) s p body stop)) (λ at b eb.
      holds-and_then
      (members-wider (f in_array stop) (g in_array stop) (λ q i j le. wider in_array stop q i j le) (child_count b) at (n + 1) (m + 1) (omega arith))
      (λ next ts es.
      holds-require (inside_fits (kind_of h.code) ts) _ _ (λ fits.
      holds-and_then (holds-self (name_at s stop next)) (λ last name en. found (rw (eb, es, fits, en))))))

  -- a descriptor that is read is read so with wider settings; `calm` says that no array is put around it
  pub tree-wider : (levels more : ℕ) (a b : Bool) (end late p n m : ℕ) → levels ≤ more → end ≤ late → m ≤ n
      → ((x : Bool) → (a && x) ≡ false → (b && x) ≡ false)
      → Holds (λ q t. tree_at more s b late p m ≡ read q t) (tree_at levels s a end p n)
  unfolding tree_at
  tree-wider zero more a b end late p n m deeper later fewer calm =
      holds-and_then (header-fits s zero a end p n) (λ _ h fits. absurd (omega (arith, fits.depth)))
  tree-wider (suc d) zero a b end late p n m deeper later fewer calm = absurd (omega arith)
  tree-wider (suc d) (suc e) a b end late p n m deeper later fewer calm =
      holds-and_then (header-fits s (suc d) a end p n) (λ body h fits.
      holds-weaken
      (node-wider (λ i stop q j. tree_at d s i stop q j) (λ i stop q j. tree_at e s i stop q j)
      (λ i stop q j k le. tree-wider d e i i stop stop q j k (omega arith) (omega arith) le (λ x z. z)) p n m body h fewer)
      (λ q t r. rw (header-wider s (suc d) (suc e) a b end late p n m deeper later fewer calm body h fits) r))

-- what stands at the place of an inner descriptor
module _ (s : List ℕ) (levels : ℕ) (a : Bool) (end : ℕ) (deeper : levels ≤ depth_limit) (inside : end ≤ length s) where
  -- a descriptor stands where it was read
  tree-stands : (p n : ℕ) → Holds (λ q t. standing s p ≡ read q t) (tree_at levels s a end p n)
  unfolding standing
  tree-stands p n = tree-wider s levels depth_limit a false end (length s) p n 0 deeper inside (omega arith) (λ x e. refl)

  -- and so do descriptors in a row
  members-stand : (k p n : ℕ) → Holds (λ q f. standing_row s k p ≡ read q f) (members_at (λ q m. tree_at levels s a end q m) k p n)
  unfolding standing_row
  members-stand k p n =
      members-wider (λ q m. tree_at levels s a end q m) (λ q m. standing s q) (λ q i j le. tree-stands q i) k p n 0 (omega arith)

  -- the same of what a reading is known to come to
  pub tree-standing : (p n q : ℕ) (t : Tree) → tree_at levels s a end p n ≡ read q t → standing s p ≡ read q t
  tree-standing p n q t e = holds_read e (tree-stands p n)

  pub members-standing : (k p n q : ℕ) (f : Forest) → members_at (λ q m. tree_at levels s a end q m) k p n ≡ read q f → standing_row s k p ≡ read q f
  members-standing k p n q f e = holds_read e (members-stand k p n)

-- how deep a tree goes: not below the depth that was left
members-low : (d : ℕ) (f : ℕ → ℕ → Outcome Tree) → ((p n : ℕ) → Holds (λ q t. height t ≤ d) (f p n)) → (k p n : ℕ)
    → Holds (λ q ts. forest_height ts ≤ d) (members_at f k p n)
unfolding members_at height
members-low d f low zero p n = found (omega arith)
members-low d f low (suc k) p n =
    holds-and_then (low p n) (λ q t e. holds-and_then (members-low d f low k q (n + row_count t)) (λ r ts es. found (omega arith)))

tree-low : (s : List ℕ) (levels : ℕ) (a : Bool) (end p n : ℕ) → Holds (λ q t. height t ≤ levels) (tree_at levels s a end p n)
unfolding tree_at node_at height
tree-low s zero a end p n = holds-and_then (header-fits s zero a end p n) (λ _ h fits. absurd (omega (arith, fits.depth)))
tree-low s (suc d) a end p n =
    holds-and_then (header-fits s (suc d) a end p n) (λ body h fits.
    holds-and_then (holds-self (fields_at (kind_of h.code) s p body (p + h.size))) (λ at b _.
    holds-and_then
    (members-low d (λ q m. tree_at d s (is_array (kind_of h.code)) (p + h.size) q m)
    (λ q m. tree-low s d (is_array (kind_of h.code)) (p + h.size) q m) (child_count b) at (n + 1)) (λ next ts low.
    holds-require (inside_fits (kind_of h.code) ts) _ _ (λ _.
    holds-and_then (holds-self (name_at s (p + h.size) next)) (λ last name _. found (omega arith))))))

-- what the descriptor at p, which ends at q, is made of: its header, its fields, the descriptors in it, its name
pub record Opened (s : List ℕ) (p q c : ℕ) (b : Fields) (f : Forest) (m : Name) : Type 0 where
  pub code : c ≡ code_in s p
  pub carried : is_carried (kind_of c) ≡ true
  pub size : q ≡ p + size_in s p
  pub least : header_size ≤ size_in s p
  pub inside : q ≤ length s
  pub fields : fields_at (kind_of c) s p (body_at p) q ≡ read (inside_at p b) b
  pub body : inside_at p b ≤ q
  pub children : standing_row s (child_count b) (inside_at p b) ≡ read (inside_at p b + forest_size f) f
  pub count : forest_length f ≡ child_count b
  pub stamped : inside_fits (kind_of c) f ≡ true
  pub within : inside_at p b + forest_size f ≤ q
  pub name : name_at s q (inside_at p b + forest_size f) ≡ read q m
  pub low : suc (forest_height f) ≤ depth_limit

-- the same of a tree
unfoldable OpenedTree : List ℕ → ℕ → ℕ → Tree → Type 0
OpenedTree s p q (node c b f m) = Opened s p q c b f m

module _ (s : List ℕ) where
  -- a descriptor whose header is read, with d left of the depth for its children
  node_opens : (d : ℕ) (a : Bool) (end p n body : ℕ) (h : Header) → d < depth_limit → end ≤ length s
      → HeaderFits s (suc d) a end p n body h → Holds (λ q t. OpenedTree s p q t) (node_at s (λ i stop q m. tree_at d s i stop q m) p n body h)
  unfolding node_at OpenedTree
  node_opens d a end p n body h deep inside fits =
      let stop : ℕ = p + h.size in
      let in_array : Bool = is_array (kind_of h.code) in
      let fit : stop ≤ length s = omega (arith, fits.within) in
      let start : body ≤ stop = omega (arith, fits.body, fits.least) in
      let less : d ≤ depth_limit = omega arith in
      holds-and_then (holds-both (fields-end s p stop fit (kind_of h.code) body fits.body start) (holds-self (fields_at (kind_of h.code) s p body stop))) (λ at b eb.
      holds-and_then
      (holds-both
      (members-end stop (λ q m. tree_at d s in_array stop q m) (λ q m. tree-ends s d in_array stop q m fit) (child_count b) at (n + 1) eb.0.within)
      (holds-both
      (members-stand s d in_array stop less fit (child_count b) at (n + 1))
      (members-low d (λ q m. tree_at d s in_array stop q m) (λ q m. tree-low s d in_array stop q m) (child_count b) at (n + 1)))) (λ next ts es.
      holds-require (inside_fits (kind_of h.code) ts) _ _ (λ stamped.
      holds-and_then (holds-both (name-ends s p stop fit next) (holds-self (name_at s stop next))) (λ last name en.
      let first : at ≡ inside_at p b = omega (arith, eb.0.at, fits.body) in
      let after : next ≡ inside_at p b + forest_size ts = omega (arith, es.0.0.at) in
      let ends : last ≡ stop = en.0.1 in
      found (record {
        code = fits.code;
        carried = fits.carried;
        size = omega (arith, fits.size);
        least = omega (arith, fits.size, fits.least);
        inside = omega arith;
        fields = (λ j. fields_at (kind_of h.code) s p (sym fits.body j) (ends j)) ∙ eb.1 ∙ ap (λ (k : ℕ). read k b) first;
        body = omega (arith, eb.0.within);
        children = ap (λ (k : ℕ). standing_row s (child_count b) k) (sym first) ∙ es.1.0 ∙ ap (λ (k : ℕ). read k ts) after;
        count = es.0.1;
        stamped = stamped;
        within = omega (arith, es.0.0.within);
        name = (λ j. name_at s (ends j) (sym after j)) ∙ en.1;
        low = omega (arith, es.1.1);
      })))))

  -- a descriptor
  tree_opens : (levels : ℕ) (a : Bool) (end p n : ℕ) → levels ≤ depth_limit → end ≤ length s
      → Holds (λ q t. OpenedTree s p q t) (tree_at levels s a end p n)
  unfolding tree_at
  tree_opens zero a end p n deep inside = holds-and_then (header-fits s zero a end p n) (λ _ h fits. absurd (omega (arith, fits.depth)))
  tree_opens (suc d) a end p n deep inside =
      holds-and_then (header-fits s (suc d) a end p n) (λ body h fits. node_opens d a end p n body h (omega arith) inside fits)

  -- what a descriptor that stands somewhere is made of
  pub open-standing : (p q c : ℕ) (b : Fields) (f : Forest) (m : Name) → standing s p ≡ read q (node c b f m) → Opened s p q c b f m
  unfolding standing OpenedTree
  open-standing p q c b f m e = holds_read e (tree_opens depth_limit false (length s) p 0 (omega arith) (omega arith))

  -- where it ends, and how deep it goes
  pub standing-ends : (p q : ℕ) (t : Tree) → standing s p ≡ read q t → Ends p (length s) (tree_size t) q
  unfolding standing
  standing-ends p q t e = holds_read e (tree-ends s depth_limit false (length s) p 0 (omega arith))

  pub standing-low : (p q : ℕ) (t : Tree) → standing s p ≡ read q t → height t ≤ depth_limit
  unfolding standing
  standing-low p q t e = holds_read e (tree-low s depth_limit false (length s) p 0)

  -- of k + 1 descriptors in a row from p on, the first, and the k others after it
  pub record Row (k p r : ℕ) (f : Forest) : Type 0 where
    pub tree : Tree
    pub others : Forest
    pub is : f ≡ cons tree others
    pub first : standing s p ≡ read (p + tree_size tree) tree
    pub rest : standing_row s k (p + tree_size tree) ≡ read r others

  row-splits : (k p : ℕ) → Holds (λ r f. Row k p r f) (standing_row s (suc k) p)
  unfolding standing_row members_at
  row-splits k p =
      holds-and_then (holds-self (standing s p)) (λ q t e.
      let ends : q ≡ p + tree_size t = (standing-ends p q t e).at in
      holds-and_then (members-wider (λ q m. standing s q) (λ q m. standing s q) (λ i j n le. holds-self (standing s i)) k q (0 + row_count t) 0 (omega arith))
      (λ r ts es.
      found (record {
        tree = t;
        others = ts;
        is = refl;
        first = e ∙ ap (λ (i : ℕ). read i t) ends;
        rest = ap (λ (i : ℕ). members_at (λ q m. standing s q) k i 0) (sym ends) ∙ es;
      })))

  -- descriptors that stand in a row
  pub row-split : (k p r : ℕ) (f : Forest) → standing_row s (suc k) p ≡ read r f → Row k p r f
  row-split k p r f e = holds_read e (row-splits k p)

  -- where the first is known
  pub row_first : (k p r : ℕ) (t : Tree) (f : Forest) → standing_row s (suc k) p ≡ read r (cons t f)
      → (standing s p ≡ read (p + tree_size t) t) × (standing_row s k (p + tree_size t) ≡ read r f)
  row_first k p r t f e =
      let row = row-split k p r (cons t f) e in
      let is : cons t f ≡ cons row.tree row.others = row.is in
      let same : t ≡ row.tree = cc in
      let others : f ≡ row.others = cc in (
        row.first ∙ ap (λ (u : Tree). read (p + tree_size u) u) (sym same),
        ap (λ (u : Tree). standing_row s k (p + tree_size u)) same ∙ row.rest ∙ ap (λ (g : Forest). read r g) (sym others),
      )

  -- none in a row
  pub row-none : (p : ℕ) → standing_row s 0 p ≡ read p nil
  unfolding standing_row members_at
  row-none p = refl

  -- descriptors in a row end their sizes after the first's start, and within the bytes
  pub row_ends : (k p r : ℕ) (f : Forest) → p ≤ length s → standing_row s k p ≡ read r f
      → Ends p (length s) (forest_size f) r × (forest_length f ≡ k)
  unfolding standing_row
  row_ends k p r f inside e =
      holds_read e
      (members-end (length s) (λ q m. standing s q) (λ q m. holds-weaken (holds-self (standing s q)) (λ i t r. standing-ends q i t r)) k p 0 inside)

  -- and go no deeper than the depth's limit
  pub row_low : (k p r : ℕ) (f : Forest) → standing_row s k p ≡ read r f → forest_height f ≤ depth_limit
  unfolding standing_row
  row_low k p r f e =
      holds_read e
      (members-low depth_limit (λ q m. standing s q) (λ q m. holds-weaken (holds-self (standing s q)) (λ i t r. standing-low q i t r)) k p 0)

  -- an accepted descriptor stands at the first byte and takes all of them, no more than are carried
  pub accepted-standing : (q : ℕ) (t : Tree) → checked s ≡ read q t → (standing s 0 ≡ read q t) × ((q ≡ length s) × (length s ≤ descriptor_limit))
  unfolding checked standing
  accepted-standing q t e = holds_read e all
    where
      all : Holds (λ q t. (standing s 0 ≡ read q t) × ((q ≡ length s) × (length s ≤ descriptor_limit))) (checked s)
      all =
          holds-require (leb (length s) descriptor_limit) _ _ (λ short.
          holds-and_then (holds-self (standing s 0)) (λ q t r.
          holds-require (eqb q (length s)) _ _ (λ whole. found (r, (eqb-true q (length s) whole, leb-true _ _ short)))))
