-- Document 02, CR 4: what is opened is a book and the bytes are its layout, and a layout of a book is opened as that book. The entries in use are read
-- as a run of records, the unused ones as zeros. The public entries are all four: each opens the book first.
-- Rests on the laws of entries and of outcomes.
use mathlib.Core.Path.{◌≡◌, refl, sym, ap, ap₂, ◌∙◌}
use mathlib.Core.Bool.{Bool, true, false, not, ◌&&◌}
use mathlib.Core.List.{List, [], ◌∷◌}
use Prim.Native.Nat.{ℕ, zero, suc, ◌+◌, ◌-◌, ◌*◌, ◌^◌, ◌≤◌, ◌<◌}
use native.Mathlib.Nat.{mod-eq_of_lt}
use native.Mathlib.Omega.{arith}
use borrow.Author.Tests.{leb-true, le-leb, eqb-true, eq-eqb, not-true}
use lib.Dec.{leb}
use lib.ListN.{length, replicate}
use lib.Seq.{slice, slice_empty}
use Rattle.number.specs.Endian.{be}
use Rattle.number.proofs.Reading.{be-bound}
use Rattle.descriptor.specs.Encoding.{Bytes, word}
use Rattle.descriptor.specs.Outcome.{read, require, Verdict, denied, granted}
use Rattle.descriptor.proofs.Outcomes.{Holds, found, holds-require, holds-and_then, holds-weaken}
use Rattle.descriptor.proofs.Sizes.{and-true, both_true}
use Rattle.canonical.specs.Equality.{same_chars}
use Rattle.canonical.proofs.Same.{chars-same, chars-refl}
use Rattle.encoding.proofs.Slices.{slice-then, slice-split, slice-be, be-slice, bytes-at}
use Rattle.store.specs.Book.{identified, Blank, stop_of, IsBlank, AllBlanks, is_one_of, Distinct, Book, IsBook}
use Rattle.store.specs.Layout.{book_limit, entry_place, entry_bytes, entries, follows, Stands, Bodies, end_from, contents_end, bodies_end, Laid}
use Rattle.store.specs.Check.{blank_at, says, is_blank, entry_fits, entry_at, entries_at, zero_at, unused_at, filled, opened}
use Rattle.store.proofs.Entries.{length-entry, zeros, entry-numbers, entry-blank, blank-body, blank-stop, blank-entry}

-- the records rs are those of the entries from entry i on, in the bytes s, their bodies after `at`, the identifiers before them given
pub record GoodRun (s seen : List ℕ) (i at : ℕ) (rs : List Blank) : Type 0 where
  pub each : AllBlanks rs
  pub distinct : Distinct seen rs
  pub spelled : slice (entry_place i) (entry_place (i + length rs)) s ≡ entries rs
  pub bodies : Bodies s at rs

-- an identifier that is said was read
says-granted : (id : ℕ) (v : Verdict ℕ) → says id v ≡ true → v ≡ granted id
unfolding says
says-granted id (denied number input place) e = absurd (let z : ◌≡◌ {A = ℕ} 0 1 = cc in omega arith)
says-granted id (granted n) e = ap granted (eqb-true n id e)

-- the test of a record
test-blank : (r : Blank) → is_blank r ≡ true → r.identifier < 256 ^ 4 → IsBlank r
unfolding is_blank
test-blank r e h = record { own = says-granted r.identifier (identified r.descriptor r.flattened) e; fits = h }

blank-test : (r : Blank) → IsBlank r → is_blank r ≡ true
unfolding is_blank says
blank-test r h = rw h.own (eq-eqb r.identifier r.identifier refl)

false-not : (b : Bool) → b ≡ false → not b ≡ true
false-not true e = sym e
false-not false e = refl

-- what a good entry says
pub record GoodEntry (s seen : List ℕ) (i at next : ℕ) (r : Blank) : Type 0 where
  pub blank : IsBlank r
  pub fresh : is_one_of r.identifier seen ≡ false
  pub spelled : slice (entry_place i) (entry_place i + 16) s ≡ entry_bytes r
  pub stands : Stands s at r
  pub end : next ≡ stop_of r

-- entries in a row
module _ {s seen : List ℕ} {i at : ℕ} where
  -- a good entry in front of a run
  pub run-joined : {next : ℕ} {r : Blank} {rs : List Blank} → GoodEntry s seen i at next r → GoodRun s (r.identifier ∷ seen) (i + 1) next rs
      → GoodRun s seen i at (r ∷ rs)
  unfolding AllBlanks Distinct entries Bodies
  run-joined {rs = rs} x y =
      let last : i + suc (length rs) ≡ i + 1 + length rs = omega arith in
      let place : entry_place i + 16 ≡ entry_place (i + 1) = omega arith in
      record {
        each = (x.blank, y.each);
        distinct = (x.fresh, y.distinct);
        spelled =
            ap (λ (j : ℕ). slice (entry_place i) (entry_place j) s) last
            ∙ slice-then (entry_place i) (entry_place i + 16) (entry_place (i + 1 + length rs)) s (omega arith) (omega arith) x.spelled
            (ap (λ (j : ℕ). slice j (entry_place (i + 1 + length rs)) s) place ∙ y.spelled);
        bodies = (x.stands, rw x.end at y.bodies);
      }

  -- no entries
  pub run_none : GoodRun s seen i at []
  unfolding AllBlanks Distinct entries Bodies
  run_none =
      let here : i + 0 ≡ i = omega arith in
      record {
        each = tt;
        distinct = tt;
        spelled = ap (λ (j : ℕ). slice (entry_place i) (entry_place j) s) here ∙ slice_empty (entry_place i) s;
        bodies = tt;
      }

  -- a run that is inside the bytes: its first entry, and the others
  module _ {r : Blank} {rs : List Blank} (h : entry_place (i + length (r ∷ rs)) ≤ length s) (x : GoodRun s seen i at (r ∷ rs)) where
    parts : (slice (entry_place i) (entry_place i + 16) s ≡ entry_bytes r) × (slice (entry_place i + 16) (entry_place (i + length (r ∷ rs))) s ≡ entries rs)
    unfolding entries
    parts =
        slice-split (entry_bytes r) (entries rs) (entry_place i) (entry_place i + 16) (entry_place (i + length (r ∷ rs))) s (omega (arith, length-entry r))
        (omega arith) h x.spelled

    pub run-first : GoodEntry s seen i at (stop_of r) r
    unfolding AllBlanks Distinct Bodies
    run-first = record { blank = x.each.0; fresh = x.distinct.0; spelled = parts.0; stands = x.bodies.0; end = refl }

    pub run-rest : GoodRun s (r.identifier ∷ seen) (i + 1) (stop_of r) rs
    unfolding AllBlanks Distinct Bodies
    run-rest =
        let last : i + suc (length rs) ≡ i + 1 + length rs = omega arith in
        let place : entry_place i + 16 ≡ entry_place (i + 1) = omega arith in
        record {
          each = x.each.1;
          distinct = x.distinct.1;
          spelled = ap₂ (λ (j k : ℕ). slice j (entry_place k) s) (sym place) (sym last) ∙ parts.1;
          bodies = x.bodies.1;
        }

-- bytes s
module _ (s : List ℕ) (bytes : Bytes s) where
  pub entry-sound : (seen : List ℕ) (i at : ℕ) → entry_place i + 16 ≤ length s → Holds (λ next r. GoodEntry s seen i at next r) (entry_at s seen i at)
  unfolding entry_at entry_fits blank_at
  entry-sound seen i at h =
      holds-require (entry_fits s seen (entry_place i) at) 63 i (λ e.
      let one = and-true _ _ e in
      let two = and-true _ _ one.1 in
      let three = and-true _ _ two.1 in
      let room = leb-true _ _ two.0 in
      found (of one.0 room three.0 (not-true _ three.1)))
    where
      of : follows at (be s (entry_place i + 4) 4) ≡ true
          → be s (entry_place i + 4) 4 + be s (entry_place i + 8) 4 + be s (entry_place i + 12) 4 ≤ length s → is_blank (blank_at s (entry_place i)) ≡ true
          → is_one_of (be s (entry_place i) 4) seen ≡ false → GoodEntry s seen i at (stop_of (blank_at s (entry_place i))) (blank_at s (entry_place i))
      of after room blank fresh = record {
        blank = test-blank (blank_at s (entry_place i)) blank (be-bound s (entry_place i) (bytes-at s bytes) 4);
        fresh = fresh;
        spelled = blank-entry s (entry_place i) room bytes h;
        stands = record {
          after = after;
          room = omega (arith, blank-stop s (entry_place i) room);
          body = blank-body s (entry_place i) room;
        };
        end = refl;
      }

  -- entries that are read are a run of records
  pub entries-sound : (k i at : ℕ) (seen : List ℕ) → entry_place (i + k) ≤ length s
      → Holds (λ end rs. (length rs ≡ k) × (end ≡ end_from at rs) × GoodRun s seen i at rs) (entries_at s seen k i at)
  unfolding entries_at end_from
  entries-sound zero i at seen h = found (refl, refl, run_none)
  entries-sound (suc k) i at seen h =
      holds-and_then (entry-sound seen i at (omega arith))
      (λ next r x.
      holds-and_then (entries-sound k (i + 1) next (r.identifier ∷ seen) (omega arith))
      (λ end rs y. found (omega (arith, y.0), y.1 ∙ ap (λ (j : ℕ). end_from j rs) x.end, run-joined x y.2)))

  -- unused entries that are accepted are zero
  unused-sound : (k i : ℕ) → Holds (λ _ _. slice (entry_place i) (entry_place (i + k)) s ≡ replicate (16 * k) 0) (unused_at s k i)
  unfolding unused_at zero_at
  unused-sound zero i = found (let here : i + 0 ≡ i = omega arith in ap (λ (j : ℕ). slice (entry_place i) (entry_place j) s) here ∙ slice_empty (entry_place i) s)
  unused-sound (suc k) i =
      holds-and_then {P = λ _ _. slice (entry_place i) (entry_place i + 16) s ≡ replicate 16 0}
      (holds-require (same_chars (slice (entry_place i) (entry_place i + 16) s) (replicate 16 0)) 63 i (λ e. found (chars-same _ _ e)))
      (λ _ _ e. holds-weaken (unused-sound k (i + 1)) (λ _ _ f. rest e f))
    where
      rest : slice (entry_place i) (entry_place i + 16) s ≡ replicate 16 0
          → slice (entry_place (i + 1)) (entry_place (i + 1 + k)) s ≡ replicate (16 * k) 0
          → slice (entry_place i) (entry_place (i + suc k)) s ≡ replicate (16 * suc k) 0
      rest e f =
          let last : i + suc k ≡ i + 1 + k = omega arith in
          let more : suc k ≡ 1 + k = omega arith in
          let place : entry_place i + 16 ≡ entry_place (i + 1) = omega arith in
          ap (λ (j : ℕ). slice (entry_place i) (entry_place j) s) last
          ∙ slice-then (entry_place i) (entry_place i + 16) (entry_place (i + 1 + k)) s (omega arith) (omega arith) e
          (ap (λ (j : ℕ). slice j (entry_place (i + 1 + k)) s) place ∙ f)
          ∙ sym (zeros 1 k)
          ∙ ap (λ (j : ℕ). replicate {A = ℕ} (16 * j) 0) (sym more)

  -- the two words at the front
  word-spelled : (p : ℕ) → p + 2 ≤ length s → slice p (p + 2) s ≡ word (be s p 2)
  word-spelled p h = be-slice s bytes p 2 h

  -- what is opened is a book, and the bytes are its layout
  pub opened-sound : Holds (λ end b. (end ≡ bodies_end b) × (IsBook b × Laid b s)) (opened s)
  unfolding opened filled
  opened-sound =
      holds-require (leb 4 (length s) && leb (length s) book_limit) 63 0 (λ e.
      holds-require (leb (entry_place (be s 0 2)) (length s) && leb (be s 2 2) (be s 0 2)) 63 (be s 0 2) (λ f.
      let size = and-true _ _ e in
      let fits = and-true _ _ f in
      let room = leb-true _ _ fits.0 in
      let count = leb-true _ _ fits.1 in
      holds-and_then (entries-sound (be s 2 2) 0 (entry_place (be s 0 2)) [] (omega arith))
      (λ end rs x.
      holds-and_then (unused-sound (be s 0 2 - be s 2 2) (be s 2 2))
      (λ _ _ y. found (x.1, whole rs (leb-true _ _ size.0) (leb-true _ _ size.1) room count x.0 x.2 y)))))
    where
      whole : (rs : List Blank) → 4 ≤ length s → length s ≤ book_limit → entry_place (be s 0 2) ≤ length s → be s 2 2 ≤ be s 0 2 → length rs ≡ be s 2 2
          → GoodRun s [] 0 (entry_place (be s 0 2)) rs
          → slice (entry_place (be s 2 2)) (entry_place (be s 2 2 + (be s 0 2 - be s 2 2))) s ≡ replicate (16 * (be s 0 2 - be s 2 2)) 0
          → IsBook (record { capacity = be s 0 2; blanks = rs }) × Laid (record { capacity = be s 0 2; blanks = rs }) s
      whole rs least most room count long x y =
          let all : be s 2 2 + (be s 0 2 - be s 2 2) ≡ be s 0 2 = omega arith in
          let last : 0 + length rs ≡ length rs = omega arith in (
            record { count = omega arith; each = x.each; distinct = x.distinct },
            record {
              size = most;
              room = room;
              capacity = word-spelled 0 (omega arith);
              count = word-spelled 2 (omega arith) ∙ ap word (sym long);
              used = ap (λ (j : ℕ). slice 4 (entry_place j) s) (sym last) ∙ x.spelled;
              unused =
                  rw long (ap (λ (j : ℕ). slice (entry_place (be s 2 2)) (entry_place j) s) (sym all) ∙ y);
              bodies = x.bodies;
            },
          )

-- any bytes s of a book's size
module _ (s : List ℕ) (size : length s ≤ book_limit) where
  -- an entry that spells a record whose body stands is good
  pub entry-complete : (seen : List ℕ) (i at next : ℕ) (r : Blank) → entry_place i + 16 ≤ length s → GoodEntry s seen i at next r
      → entry_at s seen i at ≡ read (stop_of r) r
  unfolding entry_at entry_fits
  entry-complete seen i at next r h x =
      let room : stop_of r ≤ length s = x.stands.room in
      let n = entry-numbers s (entry_place i) r h x.blank.fits (omega arith) x.spelled in
      let same : blank_at s (entry_place i) ≡ r = entry-blank s (entry_place i) r n room x.stands.body in
      let inside : be s (entry_place i + 4) 4 + be s (entry_place i + 8) 4 + be s (entry_place i + 12) 4 ≤ length s =
      omega (arith, n.start, n.descriptor, n.flattened) in
      let fits : entry_fits s seen (entry_place i) at ≡ true =
      both_true (ap (follows at) n.start ∙ x.stands.after)
      (both_true (le-leb _ _ inside)
      (both_true (ap is_blank same ∙ blank-test r x.blank) (ap (λ (v : ℕ). not (is_one_of v seen)) n.identifier ∙ false-not _ x.fresh))) in
      ap (λ (b : Bool). require b 63 i (read (stop_of (blank_at s (entry_place i))) (blank_at s (entry_place i)))) fits
      ∙ ap (λ (q : Blank). read (stop_of q) q) same

  -- so a run of records is read
  pub entries-complete : (rs : List Blank) (i at : ℕ) (seen : List ℕ) → entry_place (i + length rs) ≤ length s → GoodRun s seen i at rs
      → entries_at s seen (length rs) i at ≡ read (end_from at rs) rs
  unfolding entries_at end_from
  entries-complete [] i at seen h x = refl
  entries-complete (r ∷ rs) i at seen h x =
      let first = entry-complete seen i at (stop_of r) r (omega arith) (run-first h x) in
      let rest = entries-complete rs (i + 1) (stop_of r) (r.identifier ∷ seen) (omega arith) (run-rest h x) in
      rw (first, rest) refl

  -- and zeros are unused entries
  unused-complete : (k i : ℕ) → entry_place (i + k) ≤ length s → slice (entry_place i) (entry_place (i + k)) s ≡ replicate (16 * k) 0
      → unused_at s k i ≡ read (i + k) tt
  unfolding unused_at zero_at
  unused-complete zero i h e = let here : i ≡ i + 0 = omega arith in ap (λ (j : ℕ). read j tt) here
  unused-complete (suc k) i h e =
      let last : i + suc k ≡ i + 1 + k = omega arith in
      let more : suc k ≡ 1 + k = omega arith in
      let place : entry_place i + 16 ≡ entry_place (i + 1) = omega arith in
      let parts =
      slice-split (replicate 16 0) (replicate (16 * k) 0) (entry_place i) (entry_place i + 16) (entry_place (i + suc k)) s refl (omega arith) h
      (e ∙ ap (λ (j : ℕ). replicate {A = ℕ} (16 * j) 0) more ∙ zeros 1 k) in
      let test : same_chars (slice (entry_place i) (entry_place i + 16) s) (replicate 16 0) ≡ true =
      ap (λ (l : List ℕ). same_chars l (replicate 16 0)) parts.0 ∙ chars-refl (replicate 16 0) in
      let rest =
      unused-complete k (i + 1) (omega arith) (ap₂ (λ (j l : ℕ). slice j (entry_place l) s) (sym place) (sym last) ∙ parts.1) in
      rw (test, rest) (ap (λ (j : ℕ). read j tt) (sym last))

-- what is the layout of a book is opened as that book
pub opened-complete : (b : Book) (s : List ℕ) → IsBook b → Laid b s → opened s ≡ read (bodies_end b) b
unfolding opened filled
opened-complete b s is laid =
    let n : ℕ = length b.blanks in
    let capacity : be s 0 2 ≡ b.capacity = slice-be s 0 2 b.capacity laid.capacity ∙ mod-eq_of_lt (omega (arith, laid.room, laid.size)) in
    let count : be s 2 2 ≡ n = slice-be s 2 2 n laid.count ∙ mod-eq_of_lt (omega (arith, laid.room, laid.size, is.count)) in
    let all : n + (b.capacity - n) ≡ b.capacity = omega (arith, is.count) in
    let least : leb 4 (length s) ≡ true = le-leb 4 (length s) (omega (arith, laid.room)) in
    let most : leb (length s) book_limit ≡ true = le-leb _ _ laid.size in
    let room : leb (entry_place b.capacity) (length s) ≡ true = le-leb _ _ laid.room in
    let fewer : leb n b.capacity ≡ true = le-leb _ _ is.count in
    let zero-first : 0 + n ≡ n = omega arith in
    let used =
    entries-complete s laid.size b.blanks 0 (contents_end b) [] (omega (arith, laid.room, is.count)) (record {
      each = is.each;
      distinct = is.distinct;
      spelled = ap (λ (j : ℕ). slice 4 (entry_place j) s) zero-first ∙ laid.used;
      bodies = laid.bodies;
    }) in
    let rest =
    unused-complete s laid.size (b.capacity - n) n (omega (arith, laid.room))
    (ap (λ (j : ℕ). slice (entry_place n) (entry_place j) s) all ∙ laid.unused) in
    rw (capacity, count, least, most, room, fewer, used, rest) refl
