-- Document 02's CR 3, "Point at the byte": where a descriptor is refused with 5, 8, 9, 10 or 11, there is a fault as `Wrong` has it at the place, which
-- lies in the descriptor at fault, for 8 at its end. The public entry whose contract uses these definitions is check_descriptor; the others judge
-- a descriptor by the same `checked`. Rests on what is read being spelled by its bytes.
use mathlib.Core.Path.{◌≡◌, refl, sym, ap, subst, ◌∙◌}
use mathlib.Core.Logic.{◌≢◌, ◌⊎◌}
use mathlib.Core.Bool.{Bool, true, false, not, ◌&&◌, ◌||◌}
use mathlib.Core.List.{List, [], ◌∷◌, ◌++◌, append-nil, append_assoc}
use Prim.Native.Nat.{ℕ, zero, suc, ◌+◌, ◌-◌, ◌*◌, ◌%◌, ◌≤◌, ◌<◌}
use native.Mathlib.Omega.{arith}
use borrow.Author.Tests.{leb-true, leb-false, ltb-true, ltb-false, eqb-true, eqb-false, not-false, le-leb}
use lib.Dec.{leb, ltb, eqb}
use lib.ListN.{length, get_or, length-append}
use lib.Seq.{slice, length-slice, slice_empty}
use Rattle.number.specs.Endian.{be}
use Rattle.descriptor.specs.Limits.{descriptor_limit, row_limit, depth_limit, dimension_limit, pair_limit, count_limit, high_bit}
use Rattle.descriptor.specs.Codes.{Kind, plain, enumeration, quantity, string, array, cluster, stamp, unknown, is_carried, is_array, between}
use Rattle.descriptor.specs.Header.{header_size, code_at, body_at, size_in, code_in, reserved_in}
use Rattle.descriptor.specs.Tree.{Name, Fields, Tree, Forest, child_count, inside_at, items_size, name_size, tree_size, forest_size, row_count}
use Rattle.descriptor.specs.Stamp.{stamp_subtype, inside_fits}
use Rattle.descriptor.specs.Encoding.{pascal, packed, name_bytes, forest_with, Bytes}
use Rattle.descriptor.specs.Outcome.{Outcome, refused, read}
use Rattle.descriptor.specs.Check.{Header, size_fits, header_at, count_at, run_at, item_at, items_at, judged, base_fits, word_fits, fill_at, fields_at, members_at, name_at, node_at, tree_at, checked}
use Rattle.descriptor.proofs.Outcomes.{Holds, holds-both, holds-self, Refuses, accepted, refusing, refuses-so, refuses-require, refuses-cond, refuses-then}
use Rattle.descriptor.proofs.Sizes.{header-fits, CountFits, count_fits, RunFits, run_fits, and-true, both_true, item-ends, items-end, fields-end}
use Rattle.descriptor.proofs.FieldKinds.{plain-fields, enumeration-fields, quantity-fields, string-fields, array-fields, cluster-fields, stamp-fields, unknown-fields}
use Rattle.descriptor.proofs.Steps.{impossible}
use Rattle.encoding.proofs.Lengths.{name-length}
use Rattle.encoding.proofs.Stamps.{stamp-passes, passes-stamp}
use Rattle.encoding.proofs.Slices.{slice-then}
use Rattle.encoding.proofs.Sound.{Sound, members-sound, tree-sound, item-sound, items-sound, fields-sound}
use Rattle.encoding.proofs.Complete.{name-complete}
use borrow.Author.Count.{below_more}
use Rattle.demands.proofs.Wrong.{kind_at, end_of, Lies, Fielded, may_stand, Due, top, first, next, Bodied, Counts, of_items, of_pairs, of_dimensions, of_members, count_in, Numbered, entry_at, Items, Short, InBody, other_subtype, too_short, bad_count, bad_length, bad_dimension, bad_base, bad_fill, not_its_cluster, no_name, Wrong, not_carried, array_in_array, in_body, Fault, is_pointed}

-- one item more
packed_more : (xs : List (List ℕ)) (x : List ℕ) → packed (xs ++ (x ∷ [])) ≡ packed xs ++ pascal x
unfolding packed
packed_more [] x = append-nil (pascal x)
packed_more (y ∷ xs) x = ap (λ (z : List ℕ). pascal y ++ z) (packed_more xs x) ∙ sym (append_assoc (pascal y) (packed xs) (pascal x))

size-more : (xs : List (List ℕ)) (x : List ℕ) → items_size (xs ++ (x ∷ [])) ≡ items_size xs + suc (length x)
unfolding items_size
size-more [] x = omega arith
size-more (y ∷ xs) x = omega (arith, size-more xs x)

-- a header that is read is the one that stands there
abbrev header : List ℕ → ℕ → Header
header s p = record { size = size_in s p; code = code_in s p }

header_is : (s : List ℕ) (p : ℕ) (h : Header) → h.size ≡ size_in s p → h.code ≡ code_in s p → h ≡ header s p
header_is s p h e f = λ i. record { size = e i; code = f i }

module _ (s : List ℕ) (bytes : Bytes s) where
  -- what is to be shown of a refusal
  abbrev Shown : ℕ → ℕ → Type 0
  Shown number place = is_pointed number ≡ true → Fault s number place

  -- the parts of the descriptor at p
  module _ {in_array : Bool} {end more p : ℕ} (due : Due s in_array end more p) (lies : Lies s end p) where
    fault : {number place : ℕ} → Wrong s in_array p number place → Shown number place
    fault w _ = record { in_array = in_array; end = end; more = more; start = p; due = due; lies = lies; wrong = w }

  -- of its body, where it may stand there
  module _ {in_array : Bool} {end more p : ℕ} (due : Due s in_array end more p) (lies : Lies s end p) (inside : end_of s p ≤ length s)
      (allowed : may_stand s in_array p ≡ true) where
    shown : {number place : ℕ} → InBody s p number place → Shown number place
    shown w = fault due lies (in_body allowed w)

    count-refuses : {most : ℕ} → Counts (kind_at s p) most → Refuses Shown (count_at s (body_at p) (end_of s p) most)
    unfolding count_at
    count-refuses {most} c =
        refuses-require (leb (body_at p + 2) (end_of s p)) 8 _ (λ e. shown (too_short (Short.count c (leb-false _ _ e)))) (λ room.
        refuses-require (between 1 most (count_in s p)) 9 _
        (λ e. shown (bad_count c (leb-true _ _ room) (λ h. impossible (sym e ∙ both_true (le-leb _ _ h.least) (le-leb _ _ h.within)))))
        (λ _. accepted))

    -- a count that is read is as it should be
    numbered : {most next k : ℕ} → Counts (kind_at s p) most → CountFits s (body_at p) (end_of s p) most next k → Numbered s p
    numbered {most} c f = record {
      most = most;
      kind = c;
      word = omega (arith, f.next, f.within);
      fits = record { least = omega (arith, f.least, f.word); within = omega (arith, f.limit, f.word) };
    }

    run-refuses : {most : ℕ} → Counts (kind_at s p) most → (kind_at s p ≡ quantity) ⊎ (kind_at s p ≡ array)
        → Refuses Shown (run_at s (body_at p) (end_of s p) most)
    unfolding run_at
    run-refuses {most} c which =
        refuses-then (count_fits s (body_at p) (end_of s p) most) (count-refuses c) (λ next k f.
        refuses-require (leb (next + 4 * k) (end_of s p)) 8 _
        (λ e. shown (too_short (Short.entries which (numbered c f) (omega (arith, leb-false, f.next, f.word))))) (λ _. accepted))

    -- the same of a count with its words
    ran : {most next k : ℕ} → Counts (kind_at s p) most → RunFits s (body_at p) (end_of s p) most next k → Numbered s p
    ran {most} c f = record {
      most = most;
      kind = c;
      word = omega (arith, f.next, f.within);
      fits = record { least = omega (arith, f.least, f.word); within = omega (arith, f.limit, f.word) };
    }

    -- the entries from i on, of as many as are counted
    entries-refuse : (test : ℕ → Bool)
        → ((i : ℕ) → i < count_in s p → ((j : ℕ) → j < i → test (entry_at p j) ≡ true) → test (entry_at p i) ≡ false → InBody s p 10 (entry_at p i))
        → (n i at : ℕ) → at ≡ entry_at p i → i + n ≡ count_in s p → ((j : ℕ) → j < i → test (entry_at p j) ≡ true) → Refuses Shown (judged test n at)
    unfolding judged
    entries-refuse test wrong zero i at e sum all = accepted
    entries-refuse test wrong (suc n) i at e sum all =
        rw e
        (refuses-require (test (entry_at p i)) 10 _ (λ no. shown (wrong i (omega arith) all no)) (λ yes.
        entries-refuse test wrong n (suc i) (entry_at p i + 4) (omega arith) (omega arith) (λ j h. below_more (λ j. test (entry_at p j) ≡ true) i all yes j (omega arith))))

    -- the n items after the items xs
    items-refuse : (n at : ℕ) (xs : List (List ℕ)) → Items s p xs at → length xs + n ≡ count_in s p → Refuses Shown (items_at s (end_of s p) n at)
    unfolding items_at item_at
    items-refuse zero at xs here sum = accepted
    items-refuse (suc n) at xs here sum =
        refuses-then (holds-both (item-ends s p (end_of s p) inside at) (item-sound s bytes p (end_of s p) inside at))
        (refuses-require (ltb at (end_of s p)) 8 _ (λ no. shown (too_short (Short.item xs here (omega arith) (omega (arith, ltb-false))))) (λ _.
        refuses-require (leb (at + 1 + get_or s at 0) (end_of s p)) 8 _ (λ no. shown (too_short (Short.item xs here (omega arith) (leb-false _ _ no)))) (λ _.
        accepted)))
        (λ next x i.
        let more : Items s p (xs ++ (x ∷ [])) next = record {
          kind = here.kind;
          count = here.count;
          size = omega (arith, here.size, i.0.at, size-more xs x);
          bytes = slice-then (body_at p + 2) at next s (omega (arith, here.size)) (omega (arith, i.0.at)) here.bytes i.1.0 ∙ sym (packed_more xs x);
          within = i.0.within;
        } in
        refuses-then (holds-self (items_at s (end_of s p) n next))
        (items-refuse n next (xs ++ (x ∷ [])) more (omega (arith, length-append xs (x ∷ [])))) (λ last ys _. accepted))

    -- the zero byte after the items xs
    fill-refuses : (at : ℕ) (xs : List (List ℕ)) → Items s p xs at → length xs ≡ count_in s p → Refuses Shown (fill_at s p (end_of s p) at)
    unfolding fill_at
    fill-refuses at xs here many =
        refuses-cond (eqb ((at - p) % 2) 0) (λ _. accepted) (λ odd.
        refuses-require (ltb at (end_of s p)) 8 _ (λ no. absurd (omega (arith, ltb-false, eqb-false, lies.even, here.within))) (λ room.
        refuses-require (eqb (get_or s at 0) 0) 10 _
        (λ no. shown (bad_fill xs here many (omega (arith, eqb-false, here.size)) (ltb-true _ _ room) (eqb-false _ _ no))) (λ _. accepted)))

    -- a length word
    length-refuses : kind_at s p ≡ string → body_at p + 4 ≤ end_of s p → Refuses Shown (judged (word_fits s) 1 (body_at p))
    unfolding judged
    length-refuses is room = refuses-require (word_fits s (body_at p)) 10 _ (λ no. shown (bad_length is room (eqb-false _ _ no))) (λ _. accepted)

    -- the fields of its kind
    fields-refuse : (k : Kind) → kind_at s p ≡ k → Refuses Shown (fields_at k s p (body_at p) (end_of s p))
    unfolding items_size packed
    fields-refuse plain is = rw (plain-fields s p (body_at p) (end_of s p)) accepted
    fields-refuse enumeration is =
        rw (enumeration-fields s p (body_at p) (end_of s p))
        (let items-count : Counts (kind_at s p) count_limit = subst (λ (k : Kind). Counts k count_limit) (sym is) of_items in
        refuses-then (count_fits s (body_at p) (end_of s p) count_limit) (count-refuses items-count) (λ next k c.
        let none : Items s p [] next = record {
          kind = is;
          count = numbered items-count c;
          size = omega (arith, c.next);
          bytes = ap (λ (q : ℕ). slice (body_at p + 2) q s) c.next ∙ slice_empty (body_at p + 2) s;
          within = c.within;
        } in
        refuses-then (holds-both (items-end s p (end_of s p) inside k next c.within) (items-sound s bytes p (end_of s p) inside k next c.within))
        (items-refuse k next [] none (omega (arith, c.word))) (λ last xs i.
        let all : Items s p xs last = record {
          kind = is;
          count = numbered items-count c;
          size = omega (arith, c.next, i.0.0.at);
          bytes = ap (λ (q : ℕ). slice q last s) (sym c.next) ∙ i.1.0;
          within = i.0.0.within;
        } in
        refuses-then (holds-self (fill_at s p (end_of s p) last)) (fill-refuses last xs all (i.0.1 ∙ c.word)) (λ _ _ _. accepted))))
    fields-refuse quantity is =
        rw (quantity-fields s p (body_at p) (end_of s p))
        (let counts : Counts (kind_at s p) pair_limit = subst (λ (k : Kind). Counts k pair_limit) (sym is) of_pairs in
        refuses-then (run_fits s (body_at p) (end_of s p) pair_limit)
        (run-refuses counts (◌⊎◌.inl is)) (λ last k r.
        let room : entry_at p (count_in s p) ≤ end_of s p = omega (arith, r.next, r.word, r.within) in
        refuses-then (holds-self (judged (base_fits s) k (body_at p + 2)))
        (entries-refuse (base_fits s)
        (λ i h all no. bad_base is i (record { count = ran counts r; counted = h; within = room }) (λ j l. leb-true _ _ (all j l)) (leb-false _ _ no))
        k 0 (body_at p + 2) (omega arith) (omega (arith, r.word)) (λ j l. absurd (omega arith)))
        (λ _ _ _. accepted)))
    fields-refuse string is =
        rw (string-fields s p (body_at p) (end_of s p))
        (refuses-require (leb (body_at p + 4) (end_of s p)) 8 _ (λ no. shown (too_short (Short.length_word is (leb-false _ _ no)))) (λ room.
        refuses-then (holds-self (judged (word_fits s) 1 (body_at p))) (length-refuses is (leb-true _ _ room)) (λ _ _ _. accepted)))
    fields-refuse array is =
        rw (array-fields s p (body_at p) (end_of s p))
        (let counts : Counts (kind_at s p) dimension_limit = subst (λ (k : Kind). Counts k dimension_limit) (sym is) of_dimensions in
        refuses-then (run_fits s (body_at p) (end_of s p) dimension_limit)
        (run-refuses counts (◌⊎◌.inr is)) (λ last k r.
        let room : entry_at p (count_in s p) ≤ end_of s p = omega (arith, r.next, r.word, r.within) in
        refuses-then (holds-self (judged (word_fits s) k (body_at p + 2)))
        (entries-refuse (word_fits s)
        (λ i h all no. bad_dimension is i (record { count = ran counts r; counted = h; within = room }) (λ j l. eqb-true _ _ (all j l)) (eqb-false _ _ no))
        k 0 (body_at p + 2) (omega arith) (omega (arith, r.word)) (λ j l. absurd (omega arith)))
        (λ _ _ _. accepted)))
    fields-refuse cluster is =
        rw (cluster-fields s p (body_at p) (end_of s p))
        (refuses-then (holds-self _) (count-refuses (subst (λ (k : Kind). Counts k count_limit) (sym is) of_members)) (λ _ _ _. accepted))
    fields-refuse stamp is =
        rw (stamp-fields s p (body_at p) (end_of s p))
        (refuses-require (leb (body_at p + 2) (end_of s p)) 8 _ (λ no. shown (too_short (Short.subtype is (leb-false _ _ no)))) (λ room.
        refuses-require (eqb (be s (body_at p) 2) stamp_subtype) 5 _ (λ no. shown (other_subtype is (leb-true _ _ room) (eqb-false _ _ no))) (λ _. accepted)))
    fields-refuse unknown is = rw (unknown-fields s p (body_at p) (end_of s p)) (refusing (fault due lies (not_carried (ap is_carried is))))

    -- the name, which stands from `at` on: 11, where there is one
    rest-refuses : (at : ℕ) → at ≤ end_of s p → (at < end_of s p → InBody s p 11 at) → Refuses Shown (name_at s (end_of s p) at)
    unfolding name_at
    rest-refuses at h wrong =
        refuses-cond (eqb at (end_of s p)) (λ _. accepted) (λ no.
        let before : at < end_of s p = omega (arith, eqb-false) in
        refuses-require (eqb (at + 1 + get_or s at 0 + (1 + get_or s at 0) % 2) (end_of s p)) 11 _ (λ _. shown (wrong before)) (λ _.
        refuses-require (eqb ((1 + get_or s at 0) % 2) 0 || eqb (get_or s (at + 1 + get_or s at 0) 0) 0) 11 _ (λ _. shown (wrong before)) (λ _. accepted)))

    -- and then no name is spelled there
    name-refuses : (at : ℕ) → at ≤ end_of s p → (at < end_of s p → ((m : Name) → slice at (end_of s p) s ≢ name_bytes m) → InBody s p 11 at)
        → Refuses Shown (name_at s (end_of s p) at)
    name-refuses at h wrong = go (name_at s (end_of s p) at) refl
      where
        none : {number place : ℕ} → name_at s (end_of s p) at ≡ refused number place → (m : Name) → slice at (end_of s p) s ≢ name_bytes m
        none e m same =
            let long : end_of s p ≡ at + name_size m = omega (arith, length-slice at (end_of s p) s inside, ap length same, name-length m) in
            let z : ◌≡◌ {A = Outcome Name} (refused _ _) (read (end_of s p) m) = sym e ∙ name-complete s p (end_of s p) inside at m long same in
            absurd (let z : ◌≡◌ {A = ℕ} 0 1 = cc in omega arith)

        go : (o : Outcome Name) → name_at s (end_of s p) at ≡ o → Refuses Shown o
        go (read q m) e = accepted
        go (refused number place) e = refusing (refuses-so e (rest-refuses at h (λ before. wrong before (none e))))

  -- descriptors in a row: at p one is due where any are left
  members-refuse : (levels : ℕ) (in_array : Bool) (stop : ℕ) (f : ℕ → ℕ → Outcome Tree)
      → ((p n : ℕ) → Holds (λ q t. Sound s levels in_array stop p n q t) (f p n))
      → ((more p n : ℕ) → Due s in_array stop more p → Refuses Shown (f p n))
      → (k p n : ℕ) → ((j : ℕ) → k ≡ suc j → Due s in_array stop j p) → Refuses Shown (members_at f k p n)
  unfolding members_at
  members-refuse levels a stop f sound each zero p n due = accepted
  members-refuse levels a stop f sound each (suc k) p n due =
      refuses-then (sound p n) (each k p n (due k refl)) (λ q t e.
      refuses-then (holds-self (members_at f k q (n + row_count t)))
      (members-refuse levels a stop f sound each k q (n + row_count t) (λ j same.
      let here : Due s a stop (suc j) p = subst (λ (m : ℕ). Due s a stop m p) same (due k refl) in
      let last : p + tree_size t ≡ q = sym e.size in
      subst (λ (r : ℕ). Due s a stop j r) last
      (next here t e.formed (ap (λ (r : ℕ). slice p r s) last ∙ e.bytes) (omega (arith, e.size, e.within)))))
      (λ _ _ _. accepted))

  -- the descriptor at p, whose header is right, where f reads its children
  node-refuses : (d : ℕ) (f : Bool → ℕ → ℕ → ℕ → Outcome Tree)
      → ((a : Bool) (stop p n : ℕ) → stop ≤ length s → Holds (λ q t. Sound s d a stop p n q t) (f a stop p n))
      → ((a : Bool) (stop more p n : ℕ) → stop ≤ length s → Due s a stop more p → Refuses Shown (f a stop p n))
      → {in_array : Bool} {end more p : ℕ} → Due s in_array end more p → Lies s end p → end ≤ length s → may_stand s in_array p ≡ true → (n : ℕ)
      → n < row_limit
      → Refuses Shown (node_at s f p n (body_at p) (header s p))
  unfolding node_at
  node-refuses d f sound each {in_array} {end} {more} {p} due lies fit allowed n rows =
      let stop : ℕ = end_of s p in
      let within : stop ≤ length s = omega (arith, lies.within) in
      let room : body_at p ≤ stop = omega (arith, lies.least) in
      let kind : Kind = kind_at s p in
      refuses-then (holds-both (fields-end s p stop within kind (body_at p) refl room) (fields-sound s bytes p stop within kind (body_at p) refl room))
      (fields-refuse due lies within allowed kind refl) (λ at b i.
      let first-at : at ≡ inside_at p b = i.0.at in
      let fielded : Fielded s p b = record {
        fit = i.1.1;
        bytes = ap (λ (q : ℕ). slice (body_at p) q s) (sym first-at) ∙ i.1.0;
        within = omega (arith, i.0.at, i.0.within);
      } in
      refuses-then
      (members-sound s d (is_array kind) stop (f (is_array kind) stop) (λ q m. sound (is_array kind) stop q m within) (child_count b) at (n + 1) i.0.within
      (omega arith))
      (members-refuse d (is_array kind) stop (f (is_array kind) stop) (λ q m. sound (is_array kind) stop q m within)
      (λ k q m x. each (is_array kind) stop k q m within x) (child_count b) at (n + 1)
      (λ j some. subst (λ (q : ℕ). Due s (is_array kind) stop j q) (sym first-at) (first due lies allowed b fielded some))) (λ after ts es.
      let ends : after ≡ inside_at p b + forest_size ts = omega (arith, es.size, i.0.at) in
      let bodied : Bodied s p b ts after = record {
        fields = fielded;
        many = es.count;
        formed = es.formed;
        size = ends;
        within = es.within;
        bytes = subst (λ (q : ℕ). slice q after s ≡ forest_with (reserved_in s) q ts) first-at es.bytes;
      } in
      refuses-require (inside_fits kind ts) 10 p (λ no. shown due lies within allowed (wrong-inside kind refl b ts after bodied no)) (λ ok.
      refuses-then (holds-self (name_at s stop after))
      (name-refuses due lies within allowed after es.within
      (λ before none. no_name b ts bodied (passes-stamp kind (is_array kind) ts es.formed ok) before none)) (λ _ _ _. accepted))))
    where
      -- only a time stamp's can be wrong
      wrong-inside : (k : Kind) → kind_at s p ≡ k → (b : Fields) (f : Forest) (at : ℕ) → Bodied s p b f at → inside_fits k f ≡ false
          → InBody s p 10 p
      wrong-inside stamp is b f at body off = not_its_cluster is b f body (λ same. impossible (sym off ∙ stamp-passes stamp f (λ _. same)))
      wrong-inside plain is b f at body off = impossible (sym off)
      wrong-inside enumeration is b f at body off = impossible (sym off)
      wrong-inside quantity is b f at body off = impossible (sym off)
      wrong-inside string is b f at body off = impossible (sym off)
      wrong-inside array is b f at body off = impossible (sym off)
      wrong-inside cluster is b f at body off = impossible (sym off)
      wrong-inside unknown is b f at body off = impossible (sym off)

  -- a header
  header-refuses : (levels : ℕ) (in_array : Bool) (end more p n : ℕ) → end ≤ length s → Due s in_array end more p
      → Refuses Shown (header_at s levels in_array end p n)
  unfolding header_at
  header-refuses levels in_array end more p n fit due =
      refuses-require (leb header_size (end - p)) 2 p (λ _ h. impossible h) (λ room.
      refuses-require (ltb (size_in s p) high_bit) 3 p (λ _ h. impossible h) (λ _.
      refuses-require (size_fits (size_in s p) (end - p)) 4 p (λ _ h. impossible h) (λ sized.
      let parts = and-true _ _ sized in
      let bounds = and-true _ _ parts.1 in
      let lies : Lies s end p = record {
        least = leb-true _ _ bounds.0;
        even = eqb-true _ _ parts.0;
        within = let r : header_size ≤ end - p = leb-true _ _ room in let w : size_in s p ≤ end - p = leb-true _ _ bounds.1 in omega arith;
      } in
      let within : end_of s p ≤ length s = omega (arith, lies.within) in
      refuses-require (is_carried (kind_at s p)) 5 (code_at p) (λ no. fault due lies (not_carried no)) (λ _.
      refuses-require (ltb 0 levels) 6 p (λ _ h. impossible h) (λ _.
      refuses-require (ltb n row_limit) 7 p (λ _ h. impossible h) (λ _.
      refuses-require (not (in_array && is_array (kind_at s p))) 10 (code_at p)
      (λ no. let both = and-true _ _ (not-false _ no) in fault due lies (array_in_array both.0 both.1)) (λ _. accepted)))))))

  -- a descriptor that is due
  tree-refuses : (levels : ℕ) (in_array : Bool) (end more p n : ℕ) → end ≤ length s → Due s in_array end more p
      → Refuses Shown (tree_at levels s in_array end p n)
  unfolding tree_at
  tree-refuses zero a end more p n fit due =
      refuses-then (header-fits s zero a end p n) (header-refuses zero a end more p n fit due) (λ _ h fits. absurd (omega (arith, fits.depth)))
  tree-refuses (suc d) a end more p n fit due =
      refuses-then (header-fits s (suc d) a end p n) (header-refuses (suc d) a end more p n fit due) (λ body h fits.
      let lies : Lies s end p = record {
        least = omega (arith, fits.least, fits.size);
        even = ap (λ (k : ℕ). k % 2) (sym fits.size) ∙ fits.even;
        within = omega (arith, fits.within, fits.size);
      } in
      rw (fits.body, header_is s p h fits.size fits.code)
      (node-refuses d (λ a stop q m. tree_at d s a stop q m) (λ a stop q m i. tree-sound s bytes d a stop q m i)
      (λ a stop k q m i x. tree-refuses d a stop k q m i x) due lies fit (rw (sym fits.code, fits.element) refl) n fits.rows))

  -- the whole check
  all-refuses : Refuses Shown (checked s)
  unfolding checked
  all-refuses =
      refuses-require (leb (length s) descriptor_limit) 1 0 (λ _ h. impossible h) (λ _.
      refuses-then (holds-self (tree_at depth_limit s false (length s) 0 0)) (tree-refuses depth_limit false (length s) 0 0 0 (omega arith) top) (λ q t _.
      refuses-require (eqb q (length s)) 12 q (λ _ h. impossible h) (λ _. accepted)))

  -- "The night shift searches by hand": where a descriptor is refused with one of these numbers, what is wrong stands at the place
  pub pointed-at : (number place : ℕ) → checked s ≡ refused number place → is_pointed number ≡ true → Fault s number place
  pointed-at number place e = refuses-so e all-refuses

-- the parent's end is within the bytes
due-within : {s : List ℕ} {in_array : Bool} {end k p : ℕ} → Due s in_array end k p → end ≤ length s
due-within top = omega arith
due-within (first d l _ b f e) = let h = due-within d in omega (arith, l.within)
due-within (next d t w b e) = due-within d

-- The place lies in the descriptor at fault: at its end for 8, and before its end for the others, so that there is a byte to look at.
pub place_in : (s : List ℕ) (number place : ℕ) (f : Fault s number place)
    → (f.start ≤ place) × (((number ≡ 8) × (place ≡ end_of s f.start)) ⊎ ((number ≢ 8) × (place < end_of s f.start) × (place < length s)))
place_in s number place f = go (due-within f.due) f.lies f.wrong
  where
    off : {end p number place : ℕ} → end ≤ length s → Lies s end p → number ≢ 8 → place < end_of s p
        → ((number ≡ 8) × (place ≡ end_of s p)) ⊎ ((number ≢ 8) × (place < end_of s p) × (place < length s))
    off e l n h = ◌⊎◌.inr (n, h, omega (arith, l.within))

    go : {in_array : Bool} {end p number place : ℕ} → end ≤ length s → Lies s end p → Wrong s in_array p number place
        → (p ≤ place) × (((number ≡ 8) × (place ≡ end_of s p)) ⊎ ((number ≢ 8) × (place < end_of s p) × (place < length s)))
    go e l (not_carried _) = (omega arith, off e l (λ n. absurd (omega arith)) (omega (arith, l.least)))
    go e l (array_in_array _ _) = (omega arith, off e l (λ n. absurd (omega arith)) (omega (arith, l.least)))
    go e l (in_body _ (other_subtype _ h _)) = (omega arith, off e l (λ n. absurd (omega arith)) (omega arith))
    go e l (in_body _ (too_short _)) = (omega arith, ◌⊎◌.inl (refl, refl))
    go e l (in_body _ (bad_count _ h _)) = (omega arith, off e l (λ n. absurd (omega arith)) (omega arith))
    go e l (in_body _ (bad_length _ h _)) = (omega arith, off e l (λ n. absurd (omega arith)) (omega arith))
    go e l (in_body _ (bad_dimension _ i entry _ _)) = (omega arith, off e l (λ n. absurd (omega arith)) (omega (arith, entry.counted, entry.within)))
    go e l (in_body _ (bad_base _ i entry _ _)) = (omega arith, off e l (λ n. absurd (omega arith)) (omega (arith, entry.counted, entry.within)))
    go e l (in_body _ (bad_fill xs here _ _ h _)) = (omega (arith, here.size), off e l (λ n. absurd (omega arith)) h)
    go e l (in_body _ (not_its_cluster _ b f body _)) = (omega arith, off e l (λ n. absurd (omega arith)) (omega (arith, l.least)))
    go e l (in_body _ (no_name b f body _ h _)) = (omega (arith, body.size), off e l (λ n. absurd (omega arith)) h)
