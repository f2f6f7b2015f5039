-- The promise of the book (document 02, CR 4): after any run of adds to an empty book, accepted or refused, every answer was the one that the simple
-- book says, the book holds what the simple book holds, a find gives exactly the bytes held under that identifier or 64, and a list gives exactly the
-- identifiers in order. That these are the accepted records is said in Kept. The public entries are store_check, store_add, store_find and store_list.
-- Rests on what each question does to a book.
use mathlib.Core.Path.{◌≡◌, refl, sym, ap, ap₂, ◌∙◌}
use mathlib.Core.List.{List, [], ◌∷◌, ◌++◌}
use Prim.Native.Nat.{ℕ, ◌+◌, ◌-◌, ◌*◌, ◌≤◌}
use native.Mathlib.Omega.{arith}
use lib.ListN.{length, replicate, length-append, length-replicate}
use lib.Seq.{slice_empty}
use Rattle.number.proofs.Writing.{length-be_bytes}
use Rattle.descriptor.specs.Encoding.{Bytes, word}
use Rattle.descriptor.specs.Outcome.{Verdict}
use Rattle.descriptor.specs.Answers.{accepted}
use Rattle.descriptor.specs.Output.{Written, written_to}
use Rattle.descriptor.specs.declared.answer.Answer.{Answer}
use Rattle.encoding.proofs.Slices.{slice_all, slice-split}
use Rattle.store.specs.Book.{AllBlanks, Distinct, Book, IsBook, with_blank}
use Rattle.store.specs.Layout.{book_limit, entry_place, entries, Bodies, Laid}
use Rattle.store.specs.Check.{book_check}
use Rattle.store.specs.Questions.{listed, added, new_book}
use Rattle.history.specs.History.{Operation, add, Lent, answered, after, answers, Held, held_names, outcome, answer_of, held_after, held, predictions, held_by, looked, finding}
use Rattle.history.proofs.Accepted.{accepted-answer}
use Rattle.history.proofs.Found.{finds, lists}
use Rattle.history.proofs.Written.{held_more, written-long}
use Rattle.history.proofs.Added.{new_blank, Adding, own, taken, full, narrow, done, adds, added-book}
use Rattle.history.proofs.Predicted.{held-names, said, said-own, said-taken, said-full, said-narrow, said-done}

-- the n bytes s are the layout of a book of this capacity that holds hs
pub record Holding (capacity n : ℕ) (hs : List Held) (s : List ℕ) : Type 0 where
  pub book : Book
  pub is : IsBook book
  pub laid : Laid book s
  pub size : length s ≡ n
  pub room : book.capacity ≡ capacity
  pub holds : held_by book.blanks ≡ hs

-- an answer to an operation and the bytes after it are those that the simple book says, with v what the operation comes to
pub record AsSaid (capacity n : ℕ) (hs : List Held) (w : Written) (v : Verdict (List Held)) : Type 0 where
  pub answer : w.answer ≡ answer_of v
  pub holding : Holding capacity n (held_after hs v) w.out

-- the layout s of a book b
module _ (b : Book) (s : List ℕ) (is : IsBook b) (laid : Laid b s) where
  as_it_was : Holding b.capacity (length s) (held_by b.blanks) s
  as_it_was = record { book = b; is = is; laid = laid; size = refl; room = refl; holds = refl }

  -- an add, by its cases
  add-as-said : (d x : List ℕ) → Bytes d → Bytes x → AsSaid b.capacity (length s) (held_by b.blanks) (added s d x) (said b s is laid d x)
  add-as-said d x bd bx = of (added s d x) (adds b s is laid d x)
    where
      of : (w : Written) → Adding s b d x w → AsSaid b.capacity (length s) (held_by b.blanks) w (said b s is laid d x)
      of w (own e some) = rw (said-own b s is laid d x e) (record { answer = refl; holding = as_it_was })
      of w (taken r e y f) = rw (said-taken b s is laid d x r e y f) (record { answer = refl; holding = as_it_was })
      of w (full e f g) = rw (said-full b s is laid d x e f g) (record { answer = refl; holding = as_it_was })
      of w (narrow e f g l) = rw (said-narrow b s is laid d x e f g l) (record { answer = refl; holding = as_it_was })
      of w (done {id} e f g l) =
          let known = added-book b s is laid d x id bd bx e f g l in
          rw (said-done b s is laid d x e f g l)
          (record {
            answer = refl;
            holding = record {
              book = with_blank b (new_blank b id d x);
              is = known.0;
              laid = known.1;
              size = written-long b s is laid (new_blank b id d x) refl g l;
              room = refl;
              holds = held_more (new_blank b id d x) b.blanks;
            };
          })

  operation-as-said : (o : Operation) → Lent (o ∷ [])
      → AsSaid b.capacity (length s) (held_by b.blanks) (answered s o) (outcome b.capacity (length s) (held_by b.blanks) o)
  unfolding Lent
  operation-as-said (add d x) lent = add-as-said d x lent.0 lent.1

-- a book that holds hs
module _ (capacity n : ℕ) where
  -- gives the answer that the simple book says, and holds after it what that holds,
  pub as_said : (hs : List Held) (s : List ℕ) → Holding capacity n hs s → (o : Operation) → Lent (o ∷ [])
      → AsSaid capacity n hs (answered s o) (outcome capacity n hs o)
  as_said hs s x o lent = rw (x.holds, x.size, x.room) at (operation-as-said x.book s x.is x.laid o lent)

  lent-first : (o : Operation) (os : List Operation) → Lent (o ∷ os) → Lent (o ∷ []) × Lent os
  unfolding Lent
  lent-first (add d y) os lent = ((lent.0, lent.1, tt), lent.2)

  -- and so after any run of operations,
  pub holding-after : (os : List Operation) (hs : List Held) (s : List ℕ) → Lent os → Holding capacity n hs s
      → Holding capacity n (held capacity n hs os) (after s os)
  unfolding after held
  holding-after [] hs s lent x = x
  holding-after (o ∷ os) hs s lent x =
      let l = lent-first o os lent in
      holding-after os (held_after hs (outcome capacity n hs o)) (answered s o).out l.1 (as_said hs s x o l.0).holding

  -- each of which is answered as the simple book says
  pub answers-said : (os : List Operation) (hs : List Held) (s : List ℕ) → Lent os → Holding capacity n hs s
      → answers s os ≡ predictions capacity n hs os
  unfolding answers predictions
  answers-said [] hs s lent x = refl
  answers-said (o ∷ os) hs s lent x =
      let l = lent-first o os lent in
      let t = as_said hs s x o l.0 in
      ap₂ (λ (a : Answer) (rest : List Answer). a ∷ rest) t.answer
      (answers-said os (held_after hs (outcome capacity n hs o)) (answered s o).out l.1 t.holding)

  -- a find gives exactly what is held under the identifier, or 64
  pub finds-held : (hs : List Held) (s : List ℕ) → Holding capacity n hs s → (id : ℕ) → finding s id ≡ looked id hs
  finds-held hs s x id = finds x.book s x.is x.laid id ∙ ap (looked id) x.holds

  -- a list exactly the identifiers that are held
  pub lists-held : (hs : List Held) (s : List ℕ) → Holding capacity n hs s → (out : List ℕ) → listed s out ≡ written_to out (held_names hs)
  lists-held hs s x out =
      lists x.book s x.is x.laid out
      ∙ ap (written_to out) (sym (held-names x.book.blanks) ∙ ap held_names x.holds)

-- a new book holds nothing
pub new-holding : (capacity : ℕ) (free : List ℕ) → length (new_book capacity free) ≤ book_limit
    → Holding capacity (length (new_book capacity free)) [] (new_book capacity free)
unfolding new_book entries Bodies AllBlanks Distinct held_by
new-holding capacity free size =
    let s : List ℕ = new_book capacity free in
    let zeros : List ℕ = replicate (16 * capacity) 0 in
    let long : length s ≡ 2 + (2 + (16 * capacity + length free)) = simp (length-append, length-be_bytes, length-replicate) in
    let one =
    slice-split (word capacity) (word 0 ++ (zeros ++ free)) 0 2 (length s) s (omega (arith, length-be_bytes 2 capacity)) (omega arith) (omega arith)
    (slice_all s (length s) refl) in
    let two = slice-split (word 0) (zeros ++ free) 2 4 (length s) s (omega (arith, length-be_bytes 2 0)) (omega arith) (omega arith) one.1 in
    let three =
    slice-split zeros free 4 (entry_place capacity) (length s) s (omega (arith, length-replicate {A = ℕ} (16 * capacity) 0)) (omega arith) (omega arith)
    two.1 in
    let whole : capacity ≡ capacity - 0 = omega arith in
    record {
      book = record { capacity = capacity; blanks = [] };
      is = record { count = omega arith; each = tt; distinct = tt };
      laid = record {
        size = size;
        room = omega arith;
        capacity = one.0;
        count = two.0;
        used = slice_empty 4 s;
        unused = three.0 ∙ ap (λ (k : ℕ). replicate {A = ℕ} (16 * k) 0) whole;
        bodies = tt;
      };
      size = refl;
      room = refl;
      holds = refl;
    }

-- from an empty book on, whatever is asked, accepted or refused
module _ (capacity : ℕ) (free : List ℕ) (size : length (new_book capacity free) ≤ book_limit) (os : List Operation) (lent : Lent os) where
  -- "Refusals: first 63 ..; then the record's own; then, in this order, 60 ..; 61 ..; 62": every answer is the one that the simple book says
  pub answers-from-new : answers (new_book capacity free) os ≡ predictions capacity (length (new_book capacity free)) [] os
  answers-from-new = answers-said capacity (length (new_book capacity free)) os [] (new_book capacity free) lent (new-holding capacity free size)

  -- "Adding writes the record as lent .., nothing else": the bytes are a book that holds what the simple book holds
  pub holds-from-new : Holding capacity (length (new_book capacity free)) (held capacity (length (new_book capacity free)) [] os) (after (new_book capacity free) os)
  holds-from-new = holding-after capacity (length (new_book capacity free)) os [] (new_book capacity free) lent (new-holding capacity free size)

  -- "check a book": so it is accepted
  pub checks-from-new : book_check (after (new_book capacity free) os) ≡ accepted 0
  checks-from-new =
      let x = holds-from-new in
      accepted-answer (after (new_book capacity free) os) (record { book = x.book; is = x.is; laid = x.laid })

  -- "find one's whole body by identifier": exactly the bytes held under that identifier, or 64
  pub finds-from-new : (id : ℕ) → finding (after (new_book capacity free) os) id ≡ looked id (held capacity (length (new_book capacity free)) [] os)
  finds-from-new id = finds-held capacity (length (new_book capacity free)) _ (after (new_book capacity free) os) holds-from-new id

  -- "list identifiers in entry order": exactly those held, in order
  pub lists-from-new : (out : List ℕ)
      → listed (after (new_book capacity free) os) out ≡ written_to out (held_names (held capacity (length (new_book capacity free)) [] os))
  lists-from-new out = lists-held capacity (length (new_book capacity free)) _ (after (new_book capacity free) os) holds-from-new out
