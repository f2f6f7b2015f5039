-- Document 02, CR 4, "check a book": bytes are accepted exactly when they are the layout of a book, there is one such book, and every refusal is
-- 63. The public entry is store_check; store_add, store_find and store_list open a book by the same check.
-- Rests on what is opened.
use mathlib.Core.Path.{◌≡◌, refl, sym, ◌∙◌}
use mathlib.Core.Logic.{◌↔◌}
use mathlib.Core.Bool.{◌&&◌}
use mathlib.Core.List.{List, [], ◌∷◌}
use Prim.Native.Nat.{ℕ, zero, suc, ◌+◌, ◌-◌}
use native.Mathlib.Omega.{arith}
use lib.Dec.{leb}
use lib.ListN.{length, replicate}
use lib.Seq.{slice}
use Rattle.number.specs.Endian.{be}
use Rattle.descriptor.specs.Encoding.{Bytes}
use Rattle.descriptor.specs.Outcome.{Outcome, refused, read}
use Rattle.descriptor.specs.Answers.{accepted}
use Rattle.descriptor.proofs.Outcomes.{holds_read, Refuses, accepted as reading, refuses-so, refuses-require, refuses-and}
use Rattle.canonical.specs.Equality.{same_chars}
use Rattle.store.specs.Book.{Book, IsBook}
use Rattle.store.specs.Layout.{book_limit, entry_place, bodies_end, Laid}
use Rattle.store.specs.Check.{entry_fits, entry_at, entries_at, zero_at, unused_at, filled, opened, book_check}
use Rattle.history.proofs.Opened.{opened-sound, opened-complete}

-- every refusal has the number 63
abbrev pub Only63 : ℕ → ℕ → Type 0
Only63 number place = number ≡ 63

entries-refusing : (s : List ℕ) (k : ℕ) (seen : List ℕ) (i at : ℕ) → Refuses Only63 (entries_at s seen k i at)
unfolding entries_at entry_at
entries-refusing s zero seen i at = reading
entries-refusing s (suc k) seen i at =
    refuses-and (refuses-require (entry_fits s seen (entry_place i) at) 63 i (λ _. refl) (λ _. reading))
    (λ next r. refuses-and (entries-refusing s k (r.identifier ∷ seen) (i + 1) next) (λ _ _. reading))

unused-refusing : (s : List ℕ) (k i : ℕ) → Refuses Only63 (unused_at s k i)
unfolding unused_at zero_at
unused-refusing s zero i = reading
unused-refusing s (suc k) i =
    refuses-and (refuses-require (same_chars (slice (entry_place i) (entry_place i + 16) s) (replicate 16 0)) 63 i (λ _. refl) (λ _. reading))
    (λ _ _. unused-refusing s k (i + 1))

-- "63, not a well-formed book" is the only refusal of a check, of any bytes
pub opened-refusing : (s : List ℕ) → Refuses Only63 (opened s)
unfolding opened filled
opened-refusing s =
    refuses-require (leb 4 (length s) && leb (length s) book_limit) 63 0 (λ _. refl)
    (λ _.
    refuses-require (leb (entry_place (be s 0 2)) (length s) && leb (be s 2 2) (be s 0 2)) 63 (be s 0 2) (λ _. refl)
    (λ _.
    refuses-and (entries-refusing s (be s 2 2) [] 0 (entry_place (be s 0 2)))
    (λ end rs. refuses-and (unused-refusing s (be s 0 2 - be s 2 2) (be s 2 2)) (λ _ _. reading))))

-- the bytes s are the layout of a book
pub record BookIn (s : List ℕ) : Type 0 where
  pub book : Book
  pub is : IsBook book
  pub laid : Laid book s

module _ (s : List ℕ) where
  -- what is opened is a book
  pub book-in : Bytes s → (end : ℕ) (b : Book) → opened s ≡ read end b → BookIn s
  book-in bytes end b e = let x = holds_read e (opened-sound s bytes) in record { book = b; is = x.1.0; laid = x.1.1 }

  checked-book : Bytes s → (o : Outcome Book) → opened s ≡ o → (book_check s).number ≡ 0 → BookIn s
  unfolding book_check
  checked-book bytes (refused number place) e none =
      let same : (book_check s).number ≡ number = rw e refl in absurd (omega (arith, refuses-so e (opened-refusing s)))
  checked-book bytes (read end b) e none = book-in bytes end b e

  -- "check a book": a layout of one is accepted, "Places not named are 0"
  pub accepted-answer : (x : BookIn s) → book_check s ≡ accepted 0
  unfolding book_check
  accepted-answer x = rw (opened-complete x.book s x.is x.laid) refl

  -- "63, not a well-formed book": bytes are accepted exactly when they are the layout of a book
  pub accepted-exactly : Bytes s → ((book_check s).number ≡ 0) ↔ BookIn s
  accepted-exactly bytes = (checked-book bytes (opened s) refl, λ x. rw (accepted-answer x) refl)

  -- and there is one such: the bytes say which book they are
  pub one-book : (x y : BookIn s) → x.book ≡ y.book
  one-book x y =
      let both : read (bodies_end x.book) x.book ≡ read (bodies_end y.book) y.book =
      sym (opened-complete x.book s x.is x.laid) ∙ opened-complete y.book s y.is y.laid in
      cc
