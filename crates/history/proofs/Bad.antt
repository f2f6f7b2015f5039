-- The place of 63, document 02, CR 4: "place 0 for a buffer under 4 or over 65,536 bytes, the capacity if the contents don't fit or more entries are in
-- use than there are, else the first bad entry". What that place is stands here apart from the check, and the check gives exactly it.
-- The public entries are all four: 63 is the first refusal of each. Rests on what is opened.
use mathlib.Core.Path.{◌≡◌, refl, sym, ap, ◌∙◌}
use mathlib.Core.Logic.{◌↔◌}
use mathlib.Core.Bool.{Bool, true, false, ◌&&◌}
use mathlib.Core.List.{List, [], ◌∷◌, ◌++◌}
use Prim.Native.Nat.{ℕ, zero, suc, ◌+◌, ◌-◌, ◌≤◌, ◌<◌}
use native.Mathlib.Omega.{arith}
use borrow.Author.Tests.{leb-true, leb-false, le-leb, lt-leb}
use lib.Dec.{leb}
use lib.ListN.{length, replicate, length-append}
use lib.Seq.{slice}
use Rattle.number.specs.Endian.{be}
use Rattle.descriptor.specs.Encoding.{Bytes}
use Rattle.descriptor.specs.Outcome.{Outcome, refused, read, require, judge}
use Rattle.descriptor.specs.Answers.{refusal, accepted}
use Rattle.descriptor.specs.declared.answer.Answer.{Answer}
use Rattle.descriptor.proofs.Outcomes.{holds_read, Refuses, accepted as reading, refusing, refuses-so, refuses-require, refuses-then, refuses-and, refuses-weaken}
use Rattle.descriptor.proofs.Steps.{impossible}
use Rattle.descriptor.proofs.Sizes.{and-true}
use Rattle.canonical.specs.Equality.{same_chars}
use Rattle.canonical.proofs.Same.{chars-same, chars-refl}
use Rattle.store.specs.Book.{Blank, stop_of, Book}
use Rattle.store.specs.Layout.{book_limit, entry_place}
use Rattle.store.specs.Check.{blank_at, entry_fits, entry_at, entries_at, zero_at, unused_at, filled, opened, book_check}
use Rattle.history.proofs.Opened.{GoodRun, GoodEntry, run_none, run-joined, run-first, run-rest, entry-sound, entries-sound, entry-complete, entries-complete}

-- the capacity and the count that the bytes say
abbrev pub capacity_in : List ℕ → ℕ
capacity_in s = be s 0 2

abbrev pub count_in : List ℕ → ℕ
count_in s = be s 2 2

-- a size that a book may have
pub record Sized (s : List ℕ) : Type 0 where
  pub least : 4 ≤ length s
  pub most : length s ≤ book_limit

-- and its contents fit, with no more entries in use than there are
pub record ContentsFit (s : List ℕ) : Type 0 where
  pub size : Sized s
  pub room : entry_place (capacity_in s) ≤ length s
  pub count : count_in s ≤ capacity_in s

-- rs are the records of the first entries, each as it should be
abbrev pub GoodEntries : List ℕ → List Blank → Type 0
GoodEntries s rs = GoodRun s [] 0 (entry_place (capacity_in s)) rs

-- entry k is zero
abbrev pub ZeroEntry : List ℕ → ℕ → Type 0
ZeroEntry s k = slice (entry_place k) (entry_place k + 16) s ≡ replicate 16 0

-- the place of 63
pub data Bad (s : List ℕ) : ℕ → Type 0 where
  -- "place 0 for a buffer under 4 or over 65,536 bytes"
  short : length s < 4 → Bad s 0
  long : book_limit < length s → Bad s 0
  -- "the capacity if the contents don't fit or more entries are in use than there are"
  outside : Sized s → length s < entry_place (capacity_in s) → Bad s (capacity_in s)
  crowded : Sized s → capacity_in s < count_in s → Bad s (capacity_in s)
  -- "else the first bad entry": those before it are right, and no record makes it right too
  used : ContentsFit s → (rs : List Blank) → length rs < count_in s → GoodEntries s rs → ((r : Blank) → ¬ GoodEntries s (rs ++ (r ∷ []))) → Bad s (length rs)
  -- or all in use are right, the unused ones before it are zero, and it is not
  unused : ContentsFit s → (rs : List Blank) → length rs ≡ count_in s → GoodEntries s rs → (k : ℕ) → count_in s ≤ k → k < capacity_in s
      → ((j : ℕ) → count_in s ≤ j → j < k → ZeroEntry s j) → ¬ ZeroEntry s k → Bad s k

-- the first bad one of k entries from entry i on
record FirstUsed (s seen : List ℕ) (i at k place : ℕ) : Type 0 where
  before : List Blank
  here : place ≡ i + length before
  inside : length before < k
  right : GoodRun s seen i at before
  wrong : (r : Blank) → ¬ GoodRun s seen i at (before ++ (r ∷ []))

record FirstUnused (s : List ℕ) (i k place : ℕ) : Type 0 where
  low : i ≤ place
  high : place < i + k
  right : (j : ℕ) → i ≤ j → j < place → ZeroEntry s j
  wrong : ¬ ZeroEntry s place

-- a number is the first or later
data Later (i j : ℕ) : Type 0 where
  same : i ≡ j → Later i j
  later : i + 1 ≤ j → Later i j

later_of : (i j : ℕ) → i ≤ j → Later i j
later_of i j h = of (leb (i + 1) j) refl
  where
    of : (b : Bool) → leb (i + 1) j ≡ b → Later i j
    of true e = later (leb-true _ _ e)
    of false e = let past : j < i + 1 = leb-false _ _ e in same (omega arith)

-- two cases that contradict
never : {A : Type 0} {o : Outcome A} {number place q : ℕ} {x : A} → o ≡ refused number place → o ≡ read q x → ⊥
never e f = let z : ◌≡◌ {A = ℕ} 0 1 = cc in omega arith

-- an entry is good or refused by its number
data EntryCase (s seen : List ℕ) (i at : ℕ) : Type 0 where
  good : {next : ℕ} {r : Blank} → entry_at s seen i at ≡ read next r → EntryCase s seen i at
  faulty : entry_at s seen i at ≡ refused 63 i → EntryCase s seen i at

entry_case : (s seen : List ℕ) (i at : ℕ) → EntryCase s seen i at
unfolding entry_at
entry_case s seen i at = of (entry_fits s seen (entry_place i) at) refl
  where
    of : (b : Bool) → entry_fits s seen (entry_place i) at ≡ b → EntryCase s seen i at
    of true e = good (ap (λ (t : Bool). require t 63 i (read (stop_of (blank_at s (entry_place i))) (blank_at s (entry_place i)))) e)
    of false e = faulty (ap (λ (t : Bool). require t 63 i (read (stop_of (blank_at s (entry_place i))) (blank_at s (entry_place i)))) e)

-- an unused entry is zero or refused by its number
data Emptied (s : List ℕ) (i : ℕ) : Type 0 where
  clear : ZeroEntry s i → zero_at s i ≡ read i tt → Emptied s i
  marked : ¬ ZeroEntry s i → zero_at s i ≡ refused 63 i → Emptied s i

emptied : (s : List ℕ) (i : ℕ) → Emptied s i
unfolding zero_at
emptied s i = of (same_chars (slice (entry_place i) (entry_place i + 16) s) (replicate 16 0)) refl
  where
    of : (b : Bool) → same_chars (slice (entry_place i) (entry_place i + 16) s) (replicate 16 0) ≡ b → Emptied s i
    of true e = clear (chars-same _ _ e) (rw e refl)
    of false e =
        marked
        (λ h.
        let test : same_chars (slice (entry_place i) (entry_place i + 16) s) (replicate 16 0) ≡ true =
        ap (λ (l : List ℕ). same_chars l (replicate 16 0)) h ∙ chars-refl (replicate 16 0) in
        impossible (sym e ∙ test)) (rw e refl)

-- the unused entries, of any bytes
module _ (s : List ℕ) where
  -- where they are refused, the first that is not zero stands
  unused-bad : (k i : ℕ) → Refuses (λ number place. (number ≡ 63) × FirstUnused s i k place) (unused_at s k i)
  unfolding unused_at
  unused-bad zero i = reading
  unused-bad (suc k) i = of (emptied s i) (unused-bad k (i + 1))
    where
      each : ZeroEntry s i → (place : ℕ) → FirstUnused s (i + 1) k place → (j : ℕ) → j < place → Later i j → ZeroEntry s j
      each e place x j l (same f) = rw f at e
      each e place x j l (later h) = x.right j h l

      of : Emptied s i → Refuses (λ number place. (number ≡ 63) × FirstUnused s (i + 1) k place) (unused_at s k (i + 1))
          → Refuses (λ number place. (number ≡ 63) × FirstUnused s i (suc k) place) (unused_at s (suc k) i)
      of (clear e f) rest =
          rw f
          (refuses-weaken rest
          (λ number place x. (
            x.0,
            record {
              low = omega (arith, x.1.low);
              high = omega (arith, x.1.high);
              right = λ j h l. each e place x.1 j l (later_of i j h);
              wrong = x.1.wrong;
            },
          )))
      of (marked e f) rest =
          rw f (refusing {place = i} (refl, record { low = omega arith; high = omega arith; right = λ j h l. absurd (omega arith); wrong = e }))

  -- and where the first such stands, they are refused
  unused-stop : (k i m : ℕ) → i ≤ m → m < i + k → ((j : ℕ) → i ≤ j → j < m → ZeroEntry s j) → ¬ ZeroEntry s m → unused_at s k i ≡ refused 63 m
  unfolding unused_at
  unused-stop zero i m low high right wrong = absurd (omega arith)
  unused-stop (suc k) i m low high right wrong =
      of (emptied s i) (later_of i m low) (λ h. unused-stop k (i + 1) m h (omega arith) (λ j l n. right j (omega arith) n) wrong)
    where
      of : Emptied s i → Later i m → (i + 1 ≤ m → unused_at s k (i + 1) ≡ refused 63 m) → unused_at s (suc k) i ≡ refused 63 m
      of (clear e f) (same g) more = absurd (wrong (rw g at e))
      of (clear e f) (later h) more = rw f (more h)
      of (marked e f) (same g) more = rw f (ap (λ (j : ℕ). refused 63 j) g)
      of (marked e f) (later h) more = absurd (e (right i (omega arith) (omega arith)))

-- bytes s of a book's size
module _ (s : List ℕ) (bytes : Bytes s) (size : length s ≤ book_limit) where
  -- where reading the entries stops, the first bad one stands
  entries-bad : (k i at : ℕ) (seen : List ℕ) → entry_place (i + k) ≤ length s
      → Refuses (λ number place. (number ≡ 63) × FirstUsed s seen i at k place) (entries_at s seen k i at)
  unfolding entries_at
  entries-bad zero i at seen h = reading
  entries-bad (suc k) i at seen h =
      refuses-then (entry-sound s bytes seen i at (omega arith)) first
      (λ next r x.
      refuses-and (refuses-weaken (entries-bad k (i + 1) next (r.identifier ∷ seen) (omega arith)) (λ number place y. (y.0, more next r x place y.1)))
      (λ _ _. reading))
    where
      first : Refuses (λ number place. (number ≡ 63) × FirstUsed s seen i at (suc k) place) (entry_at s seen i at)
      first = of (entry_case s seen i at)
        where
          of : EntryCase s seen i at → Refuses (λ number place. (number ≡ 63) × FirstUsed s seen i at (suc k) place) (entry_at s seen i at)
          of (good e) = rw e reading
          of (faulty e) =
              rw e
              (refusing {place = i} (
                refl,
                record {
                  before = [];
                  here = omega arith;
                  inside = omega arith;
                  right = run_none;
                  wrong = λ r x.
                      let fits : entry_place (i + length (r ∷ [])) ≤ length s = omega arith in
                      never e (entry-complete s size seen i at (stop_of r) r (omega arith) (run-first fits x));
                },
              ))

      more : (next : ℕ) (r : Blank) → GoodEntry s seen i at next r → (place : ℕ) → FirstUsed s (r.identifier ∷ seen) (i + 1) next k place
          → FirstUsed s seen i at (suc k) place
      more next r x place y = record {
        before = r ∷ y.before;
        here = omega (arith, y.here);
        inside = omega (arith, y.inside);
        right = run-joined x y.right;
        wrong = λ q z.
            let fits : entry_place (i + length (r ∷ (y.before ++ (q ∷ [])))) ≤ length s = omega (arith, y.inside, length-append y.before (q ∷ [])) in
            y.wrong q (rw (sym x.end) at (run-rest fits z));
      }

  -- and where the first bad one stands, it stops
  entries-stop : (rs : List Blank) (k i at : ℕ) (seen : List ℕ) → entry_place (i + k) ≤ length s → length rs < k → GoodRun s seen i at rs
      → ((r : Blank) → ¬ GoodRun s seen i at (rs ++ (r ∷ []))) → entries_at s seen k i at ≡ refused 63 (i + length rs)
  unfolding entries_at
  entries-stop rs zero i at seen h l x wrong = absurd (omega arith)
  entries-stop [] (suc k) i at seen h l x none = of (entry_case s seen i at)
    where
      of : EntryCase s seen i at → entries_at s seen (suc k) i at ≡ refused 63 (i + 0)
      of (good {r = r} e) = absurd (none r (run-joined (holds_read e (entry-sound s bytes seen i at (omega arith))) run_none))
      of (faulty e) = let here : i ≡ i + 0 = omega arith in rw e (ap (λ (j : ℕ). refused 63 j) here)
  entries-stop (r ∷ rs) (suc k) i at seen h l x none =
      let fits : entry_place (i + length (r ∷ rs)) ≤ length s = omega arith in
      let first = entry-complete s size seen i at (stop_of r) r (omega arith) (run-first fits x) in
      let rest =
      entries-stop rs k (i + 1) (stop_of r) (r.identifier ∷ seen) (omega arith) (omega arith) (run-rest fits x)
      (λ q y. none q (run-joined (run-first fits x) y)) in
      let last : i + 1 + length rs ≡ i + suc (length rs) = omega arith in
      rw (first, rest) (ap (λ (j : ℕ). refused 63 j) last)

-- two tests that don't both hold
data Fails (a b : Bool) : Type 0 where
  first : a ≡ false → Fails a b
  second : a ≡ true → b ≡ false → Fails a b

fails : (a b : Bool) → (a && b) ≡ false → Fails a b
fails true b e = second refl e
fails false b e = first refl

and-false : (a : Bool) {b : Bool} → b ≡ false → (a && b) ≡ false
and-false true e = e
and-false false e = refl

-- bytes that fit are judged by their entries
fitting : {s : List ℕ} → ContentsFit s → opened s ≡ filled s (capacity_in s) (count_in s)
unfolding opened
fitting {s} fits =
    rw (
      le-leb 4 (length s) fits.size.least,
      le-leb (length s) book_limit fits.size.most,
      le-leb (entry_place (capacity_in s)) (length s) fits.room,
      le-leb (count_in s) (capacity_in s) fits.count,
    ) refl

-- any bytes s
module _ (s : List ℕ) (bytes : Bytes s) where
  opened-bad : Refuses (λ number place. (number ≡ 63) × Bad s place) (opened s)
  unfolding opened filled
  opened-bad =
      refuses-require (leb 4 (length s) && leb (length s) book_limit) 63 0 (λ e. (refl, sizes (fails _ _ e)))
      (λ e.
      let z = and-true _ _ e in
      let size : Sized s = record { least = leb-true _ _ z.0; most = leb-true _ _ z.1 } in
      refuses-require (leb (entry_place (capacity_in s)) (length s) && leb (count_in s) (capacity_in s)) 63 (capacity_in s)
      (λ f. (refl, contents size (fails _ _ f)))
      (λ f.
      let y = and-true _ _ f in
      rest (record { size = size; room = leb-true _ _ y.0; count = leb-true _ _ y.1 })))
    where
      sizes : Fails (leb 4 (length s)) (leb (length s) book_limit) → Bad s 0
      sizes (first e) = short (leb-false _ _ e)
      sizes (second e f) = long (leb-false _ _ f)

      contents : Sized s → Fails (leb (entry_place (capacity_in s)) (length s)) (leb (count_in s) (capacity_in s)) → Bad s (capacity_in s)
      contents size (first e) = outside size (leb-false _ _ e)
      contents size (second e f) = crowded size (leb-false _ _ f)

      rest : ContentsFit s → Refuses (λ number place. (number ≡ 63) × Bad s place) (filled s (capacity_in s) (count_in s))
      rest fits =
          let room : entry_place (0 + count_in s) ≤ length s = omega (arith, fits.room, fits.count) in
          refuses-then (entries-sound s bytes (count_in s) 0 (entry_place (capacity_in s)) [] room)
          (refuses-weaken (entries-bad s bytes fits.size.most (count_in s) 0 (entry_place (capacity_in s)) [] room)
          (λ number place x. (x.0, in_use fits place x.1)))
          (λ end rs x.
          refuses-and (refuses-weaken (unused-bad s (capacity_in s - count_in s) (count_in s)) (λ number place y. (y.0, not-in-use fits rs x.0 x.2 place y.1)))
          (λ _ _. reading))
        where
          in_use : ContentsFit s → (place : ℕ) → FirstUsed s [] 0 (entry_place (capacity_in s)) (count_in s) place → Bad s place
          in_use fits place x =
              let here : place ≡ length x.before = omega (arith, x.here) in
              rw here (used fits x.before x.inside x.right x.wrong)

          not-in-use : ContentsFit s → (rs : List Blank) → length rs ≡ count_in s → GoodEntries s rs → (place : ℕ)
              → FirstUnused s (count_in s) (capacity_in s - count_in s) place → Bad s place
          not-in-use fits rs all right place x =
              unused fits rs all right place x.low (omega (arith, x.high, fits.count)) x.right x.wrong

  -- "63, not a well-formed book: place ..": a refusal has the number 63 and the right place
  pub refused-bad : (number place : ℕ) → opened s ≡ refused number place → (number ≡ 63) × Bad s place
  refused-bad number place e = refuses-so e opened-bad

  -- and where a number is the right place, the bytes are refused with it
  pub bad-refused : (place : ℕ) → Bad s place → opened s ≡ refused 63 place
  unfolding opened filled
  bad-refused place (short h) = rw (lt-leb 4 (length s) h) refl
  bad-refused place (long h) =
      let least : 4 ≤ length s = omega arith in rw (le-leb 4 (length s) least, lt-leb (length s) book_limit h) refl
  bad-refused place (outside size h) =
      rw (le-leb 4 (length s) size.least, le-leb (length s) book_limit size.most, lt-leb (entry_place (capacity_in s)) (length s) h) refl
  bad-refused place (crowded size h) =
      let over : (leb (entry_place (capacity_in s)) (length s) && leb (count_in s) (capacity_in s)) ≡ false =
      and-false (leb (entry_place (capacity_in s)) (length s)) (lt-leb (count_in s) (capacity_in s) h) in
      rw (le-leb 4 (length s) size.least, le-leb (length s) book_limit size.most, over) refl
  bad-refused place (used fits rs few right wrong) =
      let room : entry_place (0 + count_in s) ≤ length s = omega (arith, fits.room, fits.count) in
      let stop = entries-stop s bytes fits.size.most rs (count_in s) 0 (entry_place (capacity_in s)) [] room few right wrong in
      let here : 0 + length rs ≡ length rs = omega arith in
      fitting fits ∙ rw stop (ap (λ (j : ℕ). refused 63 j) here)
  bad-refused place (unused fits rs all right k low high zeros wrong) =
      let room : entry_place (0 + length rs) ≤ length s = omega (arith, fits.room, fits.count) in
      let complete = entries-complete s fits.size.most rs 0 (entry_place (capacity_in s)) [] room right in
      let stop = unused-stop s (capacity_in s - count_in s) (count_in s) k low (omega arith) zeros wrong in
      fitting fits ∙ rw (rw all at complete, stop) refl

  -- "first 63, not a well-formed book": a check refuses exactly with the right place
  pub bad-exactly : (place : ℕ) → (book_check s ≡ refusal 63 4 place) ↔ Bad s place
  unfolding book_check
  bad-exactly place = (λ e. of (opened s) refl e, λ h. rw (bad-refused place h) refl)
    where
      of : (o : Outcome Book) → opened s ≡ o → judge refusal 4 o (λ _. accepted 0) ≡ refusal 63 4 place → Bad s place
      of (refused number at) e f =
          let same : at ≡ place = ap (λ (a : Answer). a.place) f in rw same at (refused-bad number at e).1
      of (read end b) e f = absurd (let z : ◌≡◌ {A = ℕ} 0 63 = ap (λ (a : Answer). a.number) f in omega arith)

  -- there is one such place
  pub one_place : (p q : ℕ) → Bad s p → Bad s q → p ≡ q
  one_place p q x y = let both : ◌≡◌ {A = Outcome Book} (refused 63 p) (refused 63 q) = sym (bad-refused p x) ∙ bad-refused q y in cc
