-- What each question answers of bytes that are a book, or none. Rests on what is known of bytes that were read as a book, and on the search.
use mathlib.Core.Path.{◌≡◌, refl, sym, ap, ◌∙◌}
use mathlib.Core.Bool.{true, false}
use mathlib.Core.List.{List, [], ◌∷◌, ◌++◌}
use Prim.Native.Nat.{ℕ, zero, suc, ◌+◌, ◌^◌, ◌≤◌, ◌<◌}
use native.Mathlib.Omega.{arith}
use borrow.Author.Tests.{le-leb, lt-leb}
use lib.Dec.{leb}
use lib.ListN.{length, get_or, take, drop, set}
use Rattle.std.proofs.Common.{Fits, w8}
use Rattle.std.proofs.lemmas.List.{take_all, take_more_set}
use Rattle.number.specs.Endian.{be}
use Rattle.descriptor.specs.Outcome.{Outcome, refused, judge}
use Rattle.descriptor.specs.Answers.{refusal, accepted}
use Rattle.descriptor.specs.Output.{unwritten, written_to}
use Rattle.descriptor.specs.declared.refusal.Refusal.{Refusal}
use Rattle.descriptor.proofs.Outcomes.{holds_read, refuses-so}
use Rattle.canonical.proofs.Lists.{bytes_of}
use Rattle.access.specs.Path.{no_part}
use Rattle.store.specs.Book.{Blank, body_size}
use Rattle.store.specs.Layout.{book_limit, entry_place}
use Rattle.store.specs.Check.{blank_at, opened, book_check}
use Rattle.store.specs.Questions.{entry_of, body_part, found, identifiers, listed}
use Rattle.store.specs.inner.Entries.{entry_in, name_at, Unseen, FirstWith, blanks_at}
use Rattle.store.specs.inner.Opens.{Open}
use Rattle.store.specs.declared.entry.Entry.{Entry}
use Rattle.store.specs.declared.open.Book.{Book as Opened}
use Rattle.store.proofs.Entries.{blank-numbers}
use Rattle.store.proofs.Seeking.{entry-there, entry-none}
use Rattle.store.proofs.Reading.{stop_at, Read, opened-read, opened-place, length-blanks}

-- bytes that are no book
module _ (s : List ℕ) (r : Refusal) (is : opened s ≡ refused r.number r.place) where
  pub asked-place : ((k : ℕ) → Fits w8 (get_or s k 0)) → r.place < 2 ^ 32
  asked-place bytes = refuses-so is (opened-place s (bytes_of s (λ k. omega (arith, bytes k))))

  pub check-lost : refusal r.number 4 r.place ≡ book_check s
  unfolding book_check
  check-lost = sym (rw is refl)

  pub find-lost : (id : ℕ) → no_part r.number 4 r.place ≡ found s id
  unfolding found
  find-lost id = sym (rw is refl)

  pub list-lost : (out : List ℕ) → unwritten out r.number 4 r.place ≡ listed s out
  unfolding listed
  list-lost out = sym (rw is refl)

-- the identifiers of k entries
length-names : (s : List ℕ) (k i : ℕ) → length (identifiers (blanks_at s k i)) ≡ k
unfolding identifiers blanks_at
length-names s zero i = refl
length-names s (suc k) i = let rest = length-names s k (i + 1) in omega arith

names_more : (s : List ℕ) (k i : ℕ) → identifiers (blanks_at s (k + 1) i) ≡ identifiers (blanks_at s k i) ++ (name_at s (i + k) ∷ [])
unfolding identifiers blanks_at blank_at
names_more s zero i = let here : i ≡ i + 0 = omega arith in ap (λ (n : ℕ). name_at s n ∷ []) here
names_more s (suc k) i =
    let place : i + 1 + k ≡ i + suc k = omega arith in
    let more : suc k + 1 ≡ suc (k + 1) = omega arith in
    ap (λ (n : ℕ). identifiers (blanks_at s n i)) more
    ∙ ap (λ (l : List ℕ). name_at s i ∷ l) (names_more s k (i + 1) ∙ ap (λ (n : ℕ). identifiers (blanks_at s k (i + 1)) ++ (name_at s n ∷ [])) place)

-- those of the first i were written to the front of a list
pub record Named (s : List ℕ) (i : ℕ) (items : List ℕ) : Type 0 where
  pub front : take i items ≡ identifiers (blanks_at s i 0)

pub named-begin : (s items : List ℕ) → Named s 0 items
unfolding identifiers blanks_at
named-begin s items = record { front = refl }

pub named-again : (s items : List ℕ) (i : ℕ) → i < length items → Named s i items → (n : ℕ) → n ≡ name_at s i → Named s (i + 1) (set items i n)
named-again s items i more named n e =
    let first : i ≡ 0 + i = omega arith in record {
      front = take_more_set items i n more ∙ (λ t. named.front t ++ (e t ∷ []))
          ∙ ap (λ (k : ℕ). identifiers (blanks_at s i 0) ++ (name_at s k ∷ [])) first
          ∙ sym (names_more s i 0);
    }

-- a book
module _ (s : List ℕ) (b : Opened) (o : Open s b) where
  abbrev n : ℕ
  n = b.entries.count

  pub asked-read : Read s b.end o.book
  asked-read = holds_read o.is (opened-read s)

  -- its entries lie in no more bytes than a book has
  pub entries-short : length b.entries.bytes.now ≤ book_limit
  entries-short = rw (sym o.bytes) at asked-read.short

  -- how many records there are
  pub asked-count : n ≡ be s 2 2
  asked-count = o.count ∙ ap length asked-read.blanks ∙ length-blanks s (be s 2 2) 0

  pub blanks-so : o.book.blanks ≡ blanks_at s n 0
  blanks-so = asked-read.blanks ∙ ap (λ (k : ℕ). blanks_at s k 0) (sym asked-count)

  pub check-got : accepted 0 ≡ book_check s
  unfolding book_check
  check-got = sym (rw o.is refl)

  -- a find
  found-so : (id : ℕ) → found s id ≡ judge no_part 4 (entry_of id 0 (blanks_at s n 0)) body_part
  unfolding found
  found-so id = rw (o.is, blanks-so) refl

  pub find-none : (id : ℕ) → Unseen s id n → no_part 64 4 0 ≡ found s id
  find-none id unseen = sym (found-so id ∙ ap (λ (p : Outcome Blank). judge no_part 4 p body_part) (entry-none s id n 0 n unseen (omega arith)))

  module _ (id i : ℕ) (first : FirstWith s n id i) (e : Entry) (is : e ≡ entry_in s i) where
    inside : stop_at s i ≤ length s
    inside = asked-read.stops i (omega (arith, asked-count, first.within))

    pub find-room : e.start + (e.first + e.second) ≤ length s
    find-room = omega (arith, inside, ap (λ (x : Entry). x.start + (x.first + x.second)) is)

    pub find-got : record { answer = accepted 0; start = e.start; length = e.first + e.second } ≡ found s id
    unfolding blank_at
    find-got =
        let numbers = blank-numbers s (entry_place i) inside in
        let size : e.first + e.second ≡ body_size (blank_at s (entry_place i)) =
        ap (λ (x : Entry). x.first + x.second) is ∙ omega (arith, numbers.descriptor, numbers.flattened) in
        (λ j. record { answer = accepted 0; start = ap (λ (x : Entry). x.start) is j; length = size j })
        ∙ sym (found-so id ∙ ap (λ (p : Outcome Blank). judge no_part 4 p body_part)
        (entry-there s id n 0 i first.unseen (omega arith) (omega (arith, first.within)) first.there))

  -- a list
  listed-so : (out : List ℕ) → listed s out ≡ written_to out (identifiers (blanks_at s n 0))
  unfolding listed
  listed-so out = rw (o.is, blanks-so) refl

  pub list-small : (out : List ℕ) → length out < n → unwritten out 50 4 n ≡ listed s out
  unfolding written_to
  list-small out h =
      let names : List ℕ = identifiers (blanks_at s n 0) in
      let over : leb (length names) (length out) ≡ false = lt-leb (length names) (length out) (omega (arith, length-names s n 0)) in
      ap (unwritten out 50 4) (sym (length-names s n 0)) ∙ sym (listed-so out ∙ rw over refl)

  pub list_done : (out items : List ℕ) → n ≤ length out → length items ≡ n → Named s n items
      → record { answer = accepted n; out = items ++ drop n out } ≡ listed s out
  unfolding written_to
  list_done out items room long named =
      let names : List ℕ = identifiers (blanks_at s n 0) in
      let fits : leb (length names) (length out) ≡ true = le-leb (length names) (length out) (omega (arith, length-names s n 0)) in
      let same : items ≡ names = sym (take_all n items (omega arith)) ∙ named.front in
      (λ t. record { answer = accepted (sym (length-names s n 0) t); out = same t ++ drop (sym (length-names s n 0) t) out })
      ∙ sym (listed-so out ∙ rw fits refl)
