-- What bytes that were read as a book are: its records are those that the entries speak of, their bodies lie in the bytes, and the place of a
-- refusal is small. Rests on the laws of bodies.
use mathlib.Core.Path.{◌≡◌, refl, sym, ap, ap₂, ◌∙◌}
use mathlib.Core.Bool.{Bool, true, false, ◌&&◌}
use mathlib.Core.List.{List, [], ◌∷◌}
use Prim.Native.Nat.{ℕ, zero, suc, ◌+◌, ◌-◌, ◌^◌, ◌≤◌, ◌<◌}
use native.Mathlib.Omega.{arith}
use borrow.Author.Tests.{leb-true, eqb-true, eqb-false}
use lib.Dec.{leb, eqb}
use lib.ListN.{length, replicate}
use lib.Seq.{slice}
use Rattle.number.specs.Endian.{be}
use Rattle.number.proofs.Reading.{be-bound}
use Rattle.descriptor.specs.Encoding.{Bytes}
use Rattle.descriptor.specs.Outcome.{Outcome, refused, read}
use Rattle.descriptor.proofs.Outcomes.{Holds, nothing, found as reads, holds-require, holds-and_then, Refuses, accepted as fine, refuses-require, refuses-and, refuses-weaken}
use Rattle.descriptor.proofs.Sizes.{and-true}
use Rattle.canonical.specs.Equality.{same_chars}
use Rattle.encoding.proofs.Slices.{bytes-at}
use Rattle.store.specs.Book.{Blank, stop_of, Book}
use Rattle.store.specs.Layout.{book_limit, entry_place, end_from, bodies_end}
use Rattle.store.specs.Check.{blank_at, entry_fits, entry_at, entries_at, zero_at, unused_at, filled, opened}
use Rattle.store.specs.inner.Entries.{blanks_at}
use Rattle.store.specs.inner.Blanks.{body_lies}
use Rattle.store.proofs.Entries.{blank-stop}
use Rattle.store.proofs.Laying.{entry-fits, body-lies, lies-room, lies-start}

-- where the body of entry i stops
abbrev pub stop_at : List ℕ → ℕ → ℕ
stop_at s i = be s (entry_place i + 4) 4 + be s (entry_place i + 8) 4 + be s (entry_place i + 12) 4

-- k entries from entry i on that were read, the body before them having ended at `at`
record EntriesRead (s : List ℕ) (k i at end : ℕ) (rs : List Blank) : Type 0 where
  blanks : rs ≡ blanks_at s k i
  ends : end ≡ end_from at rs
  past : at ≤ end
  inside : at ≤ length s → end ≤ length s
  stops : (j : ℕ) → i ≤ j → j < i + k → stop_at s j ≤ length s

-- an entry that was read
record EntryRead (s : List ℕ) (i at next : ℕ) (r : Blank) : Type 0 where
  is : r ≡ blank_at s (entry_place i)
  next-is : next ≡ stop_at s i
  past : at ≤ next
  room : stop_at s i ≤ length s

module _ (s : List ℕ) where
  entry_read : (seen : List ℕ) (i at : ℕ) → Holds (λ next r. EntryRead s i at next r) (entry_at s seen i at)
  unfolding entry_at
  entry_read seen i at =
      holds-require (entry_fits s seen (entry_place i) at) 63 i (λ e.
      let p : ℕ = entry_place i in
      let lies : body_lies s i at ≡ true = body-lies s i at (and-true _ _ (sym (entry-fits s seen i at) ∙ e)).0 in
      let room : stop_at s i ≤ length s = lies-room s i at lies in
      let start : at ≡ be s (p + 4) 4 = lies-start s i at lies in
      reads (record { is = refl; next-is = blank-stop s p room; past = omega (arith, blank-stop s p room); room = room }))

  entries-read : (k i at : ℕ) (seen : List ℕ) → Holds (λ end rs. EntriesRead s k i at end rs) (entries_at s seen k i at)
  unfolding entries_at blanks_at end_from
  entries-read zero i at seen = reads (record { blanks = refl; ends = refl; past = omega arith; inside = λ h. h; stops = λ j l h. absurd (omega arith) })
  entries-read (suc k) i at seen =
      holds-and_then (entry_read seen i at)
      (λ next r x.
      holds-and_then (entries-read k (i + 1) next (r.identifier ∷ seen))
      (λ end rs y. reads (record {
        blanks = ap₂ (λ (b : Blank) (bs : List Blank). b ∷ bs) x.is y.blanks;
        ends =
            y.ends ∙ ap (λ (n : ℕ). end_from n rs) (x.next-is ∙ sym (blank-stop s (entry_place i) x.room) ∙ ap stop_of (sym x.is));
        past = omega (arith, x.past, y.past);
        inside = λ h. y.inside (omega (arith, x.next-is, x.room));
        stops = λ j l h. each x.room (λ m. y.stops j m (omega arith)) (eqb i j) refl l;
      })))
    where
      each : {j : ℕ} → stop_at s i ≤ length s → (i + 1 ≤ j → stop_at s j ≤ length s) → (b : Bool) → eqb i j ≡ b → i ≤ j → stop_at s j ≤ length s
      each {j} here more true e l = let same : i ≡ j = eqb-true i j e in rw same at here
      each {j} here more false e l = more (omega (arith, eqb-false i j e))

-- bytes that were opened
pub record Read (s : List ℕ) (end : ℕ) (b : Book) : Type 0 where
  pub capacity : b.capacity ≡ be s 0 2
  pub blanks : b.blanks ≡ blanks_at s (be s 2 2) 0
  pub few : be s 2 2 ≤ be s 0 2
  pub short : length s ≤ book_limit
  pub room : entry_place (be s 0 2) ≤ length s
  pub stops : (i : ℕ) → i < be s 2 2 → stop_at s i ≤ length s
  pub ends : end ≡ bodies_end b
  pub past : entry_place (be s 0 2) ≤ end
  pub inside : end ≤ length s

pub opened-read : (s : List ℕ) → Holds (λ end b. Read s end b) (opened s)
unfolding opened filled
opened-read s =
    holds-require (leb 4 (length s) && leb (length s) book_limit) 63 0 (λ e.
    holds-require (leb (entry_place (be s 0 2)) (length s) && leb (be s 2 2) (be s 0 2)) 63 (be s 0 2) (λ f.
    let size = and-true (leb 4 (length s)) (leb (length s) book_limit) e in
    let fits = and-true (leb (entry_place (be s 0 2)) (length s)) (leb (be s 2 2) (be s 0 2)) f in
    holds-and_then (entries-read s (be s 2 2) 0 (entry_place (be s 0 2)) [])
    (λ end rs x.
    holds-and_then {P = λ _ _. Unit {0}} (anything (unused_at s (be s 0 2 - be s 2 2) (be s 2 2)))
    (λ _ _ _. reads (record {
      capacity = refl;
      blanks = x.blanks;
      few = leb-true _ _ fits.1;
      short = leb-true _ _ size.1;
      room = leb-true _ _ fits.0;
      stops = λ i h. x.stops i (omega arith) (omega arith);
      ends = x.ends;
      past = x.past;
      inside = x.inside (leb-true _ _ fits.0);
    })))))
  where
    anything : (o : Outcome (Unit {0})) → Holds (λ _ _. Unit {0}) o
    anything (refused number place) = nothing
    anything (read q x) = reads tt

-- the place of a refusal is a number of 32 bits
entries-place : (s : List ℕ) (k i at : ℕ) (seen : List ℕ) → Refuses (λ _ p. p < i + k) (entries_at s seen k i at)
unfolding entries_at entry_at
entries-place s zero i at seen = fine
entries-place s (suc k) i at seen =
    refuses-and (refuses-require (entry_fits s seen (entry_place i) at) 63 i (λ _. omega arith) (λ _. fine))
    (λ next r. refuses-and (refuses-weaken (entries-place s k (i + 1) next (r.identifier ∷ seen)) (λ _ p h. omega arith)) (λ _ _. fine))

unused-place : (s : List ℕ) (k i : ℕ) → Refuses (λ _ p. p < i + k) (unused_at s k i)
unfolding unused_at zero_at
unused-place s zero i = fine
unused-place s (suc k) i =
    refuses-and (refuses-require (same_chars (slice (entry_place i) (entry_place i + 16) s) (replicate 16 0)) 63 i (λ _. omega arith) (λ _. fine))
    (λ _ _. refuses-weaken (unused-place s k (i + 1)) (λ _ p h. omega arith))

pub opened-place : (s : List ℕ) → Bytes s → Refuses (λ _ p. p < 2 ^ 32) (opened s)
unfolding opened filled
opened-place s bytes =
    let c : be s 0 2 < 256 ^ 2 = be-bound s 0 (bytes-at s bytes) 2 in
    let n : be s 2 2 < 256 ^ 2 = be-bound s 2 (bytes-at s bytes) 2 in
    refuses-require (leb 4 (length s) && leb (length s) book_limit) 63 0 (λ _. omega arith)
    (λ _.
    refuses-require (leb (entry_place (be s 0 2)) (length s) && leb (be s 2 2) (be s 0 2)) 63 (be s 0 2) (λ _. omega arith)
    (λ _.
    refuses-and (refuses-weaken (entries-place s (be s 2 2) 0 (entry_place (be s 0 2)) []) (λ _ p h. omega arith))
    (λ _ _. refuses-and (refuses-weaken (unused-place s (be s 0 2 - be s 2 2) (be s 2 2)) (λ _ p h. omega arith)) (λ _ _. fine))))

-- how many records there are
pub length-blanks : (s : List ℕ) (k i : ℕ) → length (blanks_at s k i) ≡ k
unfolding blanks_at
length-blanks s zero i = refl
length-blanks s (suc k) i = let rest = length-blanks s k (i + 1) in omega arith
