-- What is read is spelled by the bytes that it was read from, and is well formed and within the limits.
-- Rests on the sizes of what is read and on the laws of parts of a list.
use mathlib.Core.Path.{◌≡◌, refl, sym, ap, ap₂, ◌∙◌}
use mathlib.Core.Bool.{Bool, true, false, ◌||◌}
use mathlib.Core.List.{List, [], ◌∷◌, ◌++◌}
use Prim.Native.Nat.{ℕ, zero, suc, ◌+◌, ◌-◌, ◌*◌, ◌%◌, ◌≤◌, ◌<◌}
use native.Mathlib.Omega.{arith}
use borrow.Author.Tests.{leb-true, ltb-true, eqb-true, eqb-false}
use lib.Dec.{leb, ltb, eqb}
use lib.ListN.{length, get_or, replicate, replicate-append-replicate}
use lib.Seq.{slice, slice_empty, length-slice}
use Rattle.number.specs.Endian.{be, be_bytes}
use Rattle.number.proofs.Reading.{be-bound}
use Rattle.descriptor.specs.Limits.{row_limit, dimension_limit, pair_limit, count_limit}
use Rattle.descriptor.specs.Header.{body_at, reserved_at, code_at, size_in, code_in, reserved_in}
use Rattle.descriptor.specs.Codes.{Kind, plain, enumeration, quantity, string, array, cluster, stamp, unknown, kind_of, is_array}
use Rattle.descriptor.specs.Tree.{Tree, Forest, inside_at, child_count, items_size, fields_size, name_size, tree_size, forest_size, forest_length, row_count, forest_rows, height, forest_height}
use Rattle.descriptor.specs.Encoding.{word, pascal, packed, pair_bytes, fill, field_bytes, name_bytes, encode_with, forest_with, Bytes, Chars, AllChars, AllPairs, NameFits, FieldsFit, WellFormed, AllWellFormed}
use Rattle.descriptor.specs.Stamp.{stamp_subtype, inside_fits}
use Rattle.descriptor.specs.Outcome.{Outcome, read}
use Rattle.descriptor.specs.Check.{Header, item_at, items_at, pairs_at, judged, base_fits, word_fits, fill_at, fields_at, members_at, name_at, node_at, tree_at}
use Rattle.descriptor.proofs.Outcomes.{Holds, nothing, found, holds_read, holds-require, holds-cond, holds-and_then, holds-both, holds-weaken}
use Rattle.descriptor.proofs.Sizes.{HeaderFits, header-fits, CountFits, count_fits, run_fits, length-pairs_at, item-ends, items-end, fields-end, name-ends}
use Rattle.descriptor.proofs.FieldKinds.{plain-fields, enumeration-fields, quantity-fields, string-fields, array-fields, cluster-fields, stamp-fields, unknown-fields}
use Rattle.encoding.proofs.Lengths.{fill-even, fill-odd}
use Rattle.encoding.proofs.Stamps.{passes-stamp}
use Rattle.encoding.proofs.Slices.{slice-then, slice-more, be-slice, bytes-slice, bytes-at}

-- the tree t, read from p to q where n rows went before: `levels` are left of the depth, and its parent ends at `end`
pub record Sound (s : List ℕ) (levels : ℕ) (in_array : Bool) (end p n q : ℕ) (t : Tree) : Type 0 where
  pub size : q ≡ p + tree_size t
  pub within : q ≤ end
  pub bytes : slice p q s ≡ encode_with (reserved_in s) p t
  pub formed : WellFormed in_array t
  pub rows : n + row_count t ≤ row_limit
  pub depth : height t ≤ levels

-- the same of k descriptors in a row
pub record AllSound (s : List ℕ) (levels : ℕ) (in_array : Bool) (end k p n q : ℕ) (f : Forest) : Type 0 where
  pub size : q ≡ p + forest_size f
  pub within : q ≤ end
  pub bytes : slice p q s ≡ forest_with (reserved_in s) p f
  pub count : forest_length f ≡ k
  pub formed : AllWellFormed in_array f
  pub rows : n + forest_rows f ≤ row_limit
  pub depth : forest_height f ≤ levels

-- descriptors in a row, each read by f
pub members-sound : (s : List ℕ) (levels : ℕ) (in_array : Bool) (end : ℕ) (f : ℕ → ℕ → Outcome Tree)
    → ((p n : ℕ) → Holds (λ q t. Sound s levels in_array end p n q t) (f p n))
    → (k p n : ℕ) → p ≤ end → n ≤ row_limit → Holds (λ q ts. AllSound s levels in_array end k p n q ts) (members_at f k p n)
unfolding members_at forest_size forest_with forest_length AllWellFormed forest_rows forest_height
members-sound s levels a end f sound zero p n h r =
    found (record {
      size = omega arith;
      within = h;
      bytes = slice_empty p s;
      count = refl;
      formed = tt;
      rows = omega arith;
      depth = omega arith;
    })
members-sound s levels a end f sound (suc k) p n h r =
    holds-and_then (sound p n) (λ q t e.
    holds-and_then (members-sound s levels a end f sound k q (n + row_count t) e.within e.rows) (λ last ts es.
    found (record {
      size = omega (arith, e.size, es.size);
      within = es.within;
      bytes =
          slice-then p q last s (omega (arith, e.size)) (omega (arith, es.size)) e.bytes
          (es.bytes ∙ ap (λ (j : ℕ). forest_with (reserved_in s) j ts) e.size);
      count = ap suc es.count;
      formed = (e.formed, es.formed);
      rows = omega (arith, es.rows);
      depth = omega (arith, e.depth, es.depth);
    })))

module _ (s : List ℕ) (b : Bytes s) where
  -- the word at p
  pub word-spelled : (p q : ℕ) → q ≡ p + 2 → q ≤ length s → slice p q s ≡ word (be s p 2)
  word-spelled p q e h = ap (λ (k : ℕ). slice p k s) e ∙ be-slice s b p 2 (omega arith)

  -- one byte
  pub byte-spelled : (p x : ℕ) → p < length s → get_or s p 0 ≡ x → slice p (p + 1) s ≡ x ∷ []
  byte-spelled p x h e = slice-more p (p + 1) s 0 (omega arith) (omega arith) ∙ ap₂ (λ (y : ℕ) (l : List ℕ). y ∷ l) e (slice_empty (p + 1) s)

  -- the Pascal string at p
  module _ (p : ℕ) (h : p + 1 + get_or s p 0 ≤ length s) where
    -- its length
    pub string-length : length (slice (p + 1) (p + 1 + get_or s p 0) s) ≡ get_or s p 0
    string-length = omega (arith, length-slice (p + 1) (p + 1 + get_or s p 0) s h)

    -- its bytes
    pub string-spelled : slice p (p + 1 + get_or s p 0) s ≡ pascal (slice (p + 1) (p + 1 + get_or s p 0) s)
    string-spelled =
        slice-more p (p + 1 + get_or s p 0) s 0 (omega arith) h
        ∙ ap (λ (k : ℕ). k ∷ slice (p + 1) (p + 1 + get_or s p 0) s) (sym string-length)

    -- its characters
    pub string-chars : Chars (slice (p + 1) (p + 1 + get_or s p 0) s)
    string-chars = record { bytes = bytes-slice (p + 1) (p + 1 + get_or s p 0) s b; most = omega (arith, string-length, bytes-at s b p) }

  -- FFFFFFFF, k times
  pub words-spelled : (k p : ℕ) → p + 4 * k ≤ length s
      → Holds (λ _ _. slice p (p + 4 * k) s ≡ replicate (4 * k) 255) (judged (word_fits s) k p)
  unfolding judged be_bytes
  words-spelled zero p h = found (ap (λ (q : ℕ). slice p q s) (let z : p + 4 * 0 ≡ p = omega arith in z) ∙ slice_empty p s)
  words-spelled (suc k) p h =
      holds-require (word_fits s p) _ _ (λ full.
      holds-weaken (words-spelled k (p + 4) (omega arith)) (λ _ _ more.
      let one : slice p (p + 4) s ≡ replicate 4 255 = be-slice s b p 4 (omega arith) ∙ ap (be_bytes 4) (eqb-true _ _ full) in
      let last : p + 4 * suc k ≡ p + 4 + 4 * k = omega arith in
      let size : 4 + 4 * k ≡ 4 * suc k = omega arith in
      ap (λ (q : ℕ). slice p q s) last
      ∙ slice-then p (p + 4) (p + 4 + 4 * k) s (omega arith) (omega arith) one more
      ∙ replicate-append-replicate 4 (4 * k) 255
      ∙ ap (λ (n : ℕ). replicate n 255) size))

  -- k unit pairs
  pub pairs-spelled : (k p : ℕ) → p + 4 * k ≤ length s → slice p (p + 4 * k) s ≡ pair_bytes (pairs_at s k p)
  unfolding pair_bytes pairs_at
  pairs-spelled zero p h = ap (λ (q : ℕ). slice p q s) (let z : p + 4 * 0 ≡ p = omega arith in z) ∙ slice_empty p s
  pairs-spelled (suc k) p h =
      let last : p + 4 * suc k ≡ p + 4 + 4 * k = omega arith in
      ap (λ (q : ℕ). slice p q s) last
      ∙ slice-then p (p + 2) (p + 4 + 4 * k) s (omega arith) (omega arith) (word-spelled p (p + 2) refl (omega arith))
      (slice-then (p + 2) (p + 4) (p + 4 + 4 * k) s (omega arith) (omega arith) (word-spelled (p + 2) (p + 4) (omega arith) (omega arith))
      (pairs-spelled k (p + 4) (omega arith)))

  -- and they are within their limits
  pub pairs-fit : (k p : ℕ) → Holds (λ _ _. AllPairs (pairs_at s k p)) (judged (base_fits s) k p)
  unfolding judged pairs_at AllPairs
  pairs-fit zero p = found tt
  pairs-fit (suc k) p =
      holds-require (base_fits s p) _ _ (λ base.
      holds-weaken (pairs-fit k (p + 4)) (λ _ _ more. ((leb-true _ _ base, be-bound s (p + 2) (bytes-at s b) 2), more)))

  -- the parts of the descriptor at p that ends at `stop`
  module _ (p stop : ℕ) (inside : stop ≤ length s) where
    -- a Pascal string of an enumeration
    pub item-sound : (at : ℕ) → Holds (λ q x. (slice at q s ≡ pascal x) × Chars x) (item_at s stop at)
    unfolding item_at
    item-sound at =
        holds-require (ltb at stop) _ _ (λ _.
        holds-require (leb (at + 1 + get_or s at 0) stop) _ _ (λ room.
        let h : at + 1 + get_or s at 0 ≤ length s = omega (arith, leb-true) in
        found (string-spelled at h, string-chars at h)))

    -- k of them
    pub items-sound : (k at : ℕ) → at ≤ stop → Holds (λ q xs. (slice at q s ≡ packed xs) × AllChars xs) (items_at s stop k at)
    unfolding items_at packed AllChars
    items-sound zero at h = found (slice_empty at s, tt)
    items-sound (suc k) at h =
        holds-and_then (holds-both (item-ends s p stop inside at) (item-sound at)) (λ next x i.
        let within : next ≤ stop = i.0.within in
        holds-and_then (holds-both (items-end s p stop inside k next within) (items-sound k next within)) (λ last xs r.
        found
        (slice-then at next last s (omega (arith, i.0.at)) (omega (arith, r.0.0.at)) i.1.0 r.1.0, (i.1.1, r.1.1))))

    -- the zero byte after n bytes from `body` on, which end at `at`
    pub fill-sound : (body at n : ℕ) → body ≡ body_at p → at ≡ body + 2 + n → at ≤ stop
        → Holds (λ q _. (slice at q s ≡ fill n) × (at ≤ q)) (fill_at s p stop at)
    unfolding fill_at
    fill-sound body at n start ends within =
        holds-cond (eqb ((at - p) % 2) 0)
        (λ even.
        let e : n % 2 ≡ 0 = omega (arith, eqb-true) in
        found (slice_empty at s ∙ sym (fill-even n e), omega arith))
        (λ odd.
        holds-require (ltb at stop) _ _ (λ room.
        holds-require (eqb (get_or s at 0) 0) _ _ (λ z.
        let e : n % 2 ≡ 1 = omega (arith, eqb-false) in
        found (byte-spelled at 0 (omega (arith, ltb-true)) (eqb-true _ _ z) ∙ sym (fill-odd n e), omega arith))))

    -- a count at `at`, which ends at q
    pub count-spelled : (at most q k : ℕ) → CountFits s at stop most q k → slice at q s ≡ word k
    count-spelled at most q k c = word-spelled at q c.next (omega (arith, c.within)) ∙ ap word (sym c.word)

    -- the fields of the body that starts at `at`
    pub fields-sound : (k : Kind) (at : ℕ) → at ≡ body_at p → at ≤ stop → Holds (λ q f. (slice at q s ≡ field_bytes f) × FieldsFit k f) (fields_at k s p at stop)
    unfolding field_bytes FieldsFit
    fields-sound plain at start h = rw (plain-fields s p at stop) (found (slice_empty at s, refl))
    fields-sound enumeration at start h =
        rw (enumeration-fields s p at stop)
        (holds-and_then (count_fits s at stop count_limit) (λ next k c.
        holds-and_then (holds-both (items-end s p stop inside k next c.within) (items-sound k next c.within)) (λ last xs i.
        let many : k ≡ length xs = sym i.0.1 in
        holds-and_then (fill-sound at last (items_size xs) start (omega (arith, i.0.0.at, c.next)) i.0.0.within) (λ q _ f.
        found (
          slice-then at next q s (omega (arith, c.next)) (omega (arith, i.0.0.at, f.1)) (count-spelled at count_limit next k c ∙ ap word many)
              (slice-then next last q s (omega (arith, i.0.0.at)) f.1 i.1.0 f.0),
          (refl, (record { least = omega (arith, c.least); within = omega (arith, c.limit) }, i.1.1)),
        )))))
    fields-sound quantity at start h =
        rw (quantity-fields s p at stop)
        (holds-and_then (run_fits s at stop pair_limit) (λ last k r.
        let many : k ≡ length (pairs_at s k (at + 2)) = sym (length-pairs_at s k (at + 2)) in
        holds-and_then (pairs-fit k (at + 2)) (λ _ _ fit.
        found (
          slice-then at (at + 2) last s (omega arith) (omega (arith, r.next)) (word-spelled at (at + 2) refl (omega (arith, r.next, r.within)) ∙ ap word (sym r.word ∙ many))
              (ap (λ (q : ℕ). slice (at + 2) q s) r.next ∙ pairs-spelled k (at + 2) (omega (arith, r.next, r.within))),
          (refl, (record { least = omega (arith, r.least); within = omega (arith, r.limit) }, fit)),
        ))))
    fields-sound string at start h =
        rw (string-fields s p at stop)
        (holds-require (leb (at + 4) stop) _ _ (λ room.
        let in_bytes : at + 4 * 1 ≤ length s = omega (arith, leb-true) in
        holds-and_then (words-spelled 1 at in_bytes) (λ _ _ full.
        let last : at + 4 ≡ at + 4 * 1 = omega arith in
        found (ap (λ (q : ℕ). slice at q s) last ∙ full, refl))))
    fields-sound array at start h =
        rw (array-fields s p at stop)
        (holds-and_then (run_fits s at stop dimension_limit) (λ last k r.
        holds-and_then (words-spelled k (at + 2) (omega (arith, r.next, r.within))) (λ _ _ full.
        found (
          slice-then at (at + 2) last s (omega arith) (omega (arith, r.next)) (word-spelled at (at + 2) refl (omega (arith, r.next, r.within)) ∙ ap word (sym r.word))
              (ap (λ (q : ℕ). slice (at + 2) q s) r.next ∙ full),
          (refl, record { least = r.least; within = r.limit }),
        ))))
    fields-sound cluster at start h =
        rw (cluster-fields s p at stop)
        (holds-and_then (count_fits s at stop count_limit) (λ next k c.
        found (count-spelled at count_limit next k c, (refl, record { least = c.least; within = c.limit }))))
    fields-sound stamp at start h =
        rw (stamp-fields s p at stop)
        (holds-require (leb (at + 2) stop) _ _ (λ room.
        holds-require (eqb (be s at 2) stamp_subtype) _ _ (λ six.
        found (word-spelled at (at + 2) refl (omega (arith, leb-true)) ∙ ap word (eqb-true _ _ six), refl))))
    fields-sound unknown at start h = rw (unknown-fields s p at stop) nothing

    -- a name
    pub name-sound : (at : ℕ) → Holds (λ q m. (slice at q s ≡ name_bytes m) × NameFits m) (name_at s stop at)
    unfolding name_at name_bytes NameFits
    name-sound at =
        holds-cond (eqb at stop) (λ _. found (slice_empty at s, tt))
        (λ _.
        holds-require (eqb (at + 1 + get_or s at 0 + (1 + get_or s at 0) % 2) stop) _ _ (λ room.
        let h : at + 1 + get_or s at 0 ≤ length s = omega (arith, eqb-true) in
        holds-require (eqb ((1 + get_or s at 0) % 2) 0 || eqb (get_or s (at + 1 + get_or s at 0) 0) 0) _ _ (λ z.
        found (
          slice-then at (at + 1 + get_or s at 0) stop s (omega arith) (omega (arith, eqb-true)) (string-spelled at h)
              (padded h (eqb-true _ _ room) (eqb ((1 + get_or s at 0) % 2) 0) refl z),
          string-chars at h,
        ))))
      where
        padded : (h : at + 1 + get_or s at 0 ≤ length s) → at + 1 + get_or s at 0 + (1 + get_or s at 0) % 2 ≡ stop
            → (even : Bool) → eqb ((1 + get_or s at 0) % 2) 0 ≡ even → (even || eqb (get_or s (at + 1 + get_or s at 0) 0) 0) ≡ true
            → slice (at + 1 + get_or s at 0) stop s ≡ fill (suc (length (slice (at + 1) (at + 1 + get_or s at 0) s)))
        padded h e true t z =
            let n : suc (length (slice (at + 1) (at + 1 + get_or s at 0) s)) % 2 ≡ 0 = omega (arith, string-length at h, eqb-true) in
            let last : stop ≡ at + 1 + get_or s at 0 = omega (arith, eqb-true) in
            ap (λ (q : ℕ). slice (at + 1 + get_or s at 0) q s) last ∙ slice_empty (at + 1 + get_or s at 0) s ∙ sym (fill-even _ n)
        padded h e false t z =
            let n : suc (length (slice (at + 1) (at + 1 + get_or s at 0) s)) % 2 ≡ 1 = omega (arith, string-length at h, eqb-false) in
            let last : stop ≡ at + 1 + get_or s at 0 + 1 = omega (arith, eqb-false) in
            ap (λ (q : ℕ). slice (at + 1 + get_or s at 0) q s) last
            ∙ byte-spelled (at + 1 + get_or s at 0) 0 (omega arith) (eqb-true _ _ z)
            ∙ sym (fill-odd _ n)

  -- a header and what follows it
  pub header-spelled : (p q : ℕ) → body_at p ≤ q → q ≤ length s
      → slice p q s ≡ word (size_in s p) ++ (reserved_in s p ∷ code_in s p ∷ slice (body_at p) q s)
  header-spelled p q h k =
      let third : reserved_at p + 1 ≡ code_at p = omega arith in
      let fourth : code_at p + 1 ≡ body_at p = omega arith in
      slice-then p (reserved_at p) q s (omega arith) (omega arith) (word-spelled p (reserved_at p) refl (omega arith))
      (slice-more (reserved_at p) q s 0 (omega arith) k
      ∙ ap (λ (j : ℕ). reserved_in s p ∷ slice j q s) third
      ∙ ap (λ (l : List ℕ). reserved_in s p ∷ l)
      (slice-more (code_at p) q s 0 (omega arith) k ∙ ap (λ (j : ℕ). code_in s p ∷ slice j q s) fourth))

  -- a descriptor whose header is read, where f reads its children
  node-sound : (d : ℕ) (f : Bool → ℕ → ℕ → ℕ → Outcome Tree)
      → ((a : Bool) (stop p n : ℕ) → stop ≤ length s → Holds (λ q t. Sound s d a stop p n q t) (f a stop p n))
      → (a : Bool) (end p n body : ℕ) (h : Header) → end ≤ length s → HeaderFits s (suc d) a end p n body h
      → Holds (λ q t. Sound s (suc d) a end p n q t) (node_at s f p n body h)
  unfolding node_at tree_size encode_with WellFormed row_count height
  node-sound d f sound a end p n body h inside fits =
      let stop : ℕ = p + h.size in
      let fit : stop ≤ length s = omega (arith, fits.within) in
      let room : body ≤ stop = omega (arith, fits.body, fits.least) in
      let kind : Kind = kind_of h.code in
      holds-and_then (holds-both (fields-end s p stop fit kind body fits.body room) (fields-sound p stop fit kind body fits.body room)) (λ at fs i.
      holds-and_then
      (members-sound s d (is_array kind) stop (f (is_array kind) stop) (λ q m. sound (is_array kind) stop q m fit) (child_count fs) at (n + 1) i.0.within
      (omega (arith, fits.rows))) (λ next ts es.
      holds-require (inside_fits kind ts) _ _ (λ passed.
      holds-and_then (holds-both (name-ends s p stop fit next) (name-sound p stop fit next)) (λ last m e.
      let ends : last ≡ p + (4 + fields_size fs + forest_size ts + name_size m) = omega (arith, i.0.at, fits.body, es.size, e.0.0) in
      let first : at ≡ inside_at p fs = omega (arith, i.0.at, fits.body) in
      let sized : size_in s p ≡ 4 + fields_size fs + forest_size ts + name_size m = omega (arith, e.0.1, fits.size) in
      let rest : slice (body_at p) last s ≡ field_bytes fs ++ (forest_with (reserved_in s) (inside_at p fs) ts ++ name_bytes m) =
      ap (λ (j : ℕ). slice j last s) (sym fits.body)
      ∙ slice-then body at last s (omega (arith, i.0.at)) (omega (arith, es.size, e.0.0)) i.1.0
      (slice-then at next last s (omega (arith, es.size)) (omega (arith, e.0.0))
      (es.bytes ∙ ap (λ (j : ℕ). forest_with (reserved_in s) j ts) first) e.1.0) in
      found (record {
        size = ends;
        within = omega (arith, e.0.1, fits.within);
        bytes =
            header-spelled p last (omega arith) (omega (arith, e.0.1))
            ∙ (λ j. word (sized j) ++ (reserved_in s p ∷ sym fits.code j ∷ rest j));
        formed = record {
          code = rw fits.code (bytes-at s b (code_at p));
          element = fits.element;
          fields = i.1.1;
          children = es.count;
          stamped = passes-stamp kind (is_array kind) ts es.formed passed;
          inside = es.formed;
          name = e.1.1;
        };
        rows = omega (arith, es.rows);
        depth = omega (arith, es.depth);
      })))))

  -- a descriptor that is read is spelled by its bytes
  pub tree-sound : (levels : ℕ) (a : Bool) (end p n : ℕ) → end ≤ length s → Holds (λ q t. Sound s levels a end p n q t) (tree_at levels s a end p n)
  unfolding tree_at
  tree-sound zero a end p n inside = holds-and_then (header-fits s zero a end p n) (λ _ h fits. absurd (omega (arith, fits.depth)))
  tree-sound (suc d) a end p n inside =
      holds-and_then (header-fits s (suc d) a end p n) (λ body h fits.
      node-sound d (λ a stop q m. tree_at d s a stop q m) (λ a stop q m i. tree-sound d a stop q m i) a end p n body h inside fits)

  -- the same of what a reading is known to come to
  pub read-sound : (levels : ℕ) (a : Bool) (end p n q : ℕ) (t : Tree) → end ≤ length s → tree_at levels s a end p n ≡ read q t
      → Sound s levels a end p n q t
  read-sound levels a end p n q t inside e = holds_read e (tree-sound levels a end p n inside)
