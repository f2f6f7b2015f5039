-- Document 01, "A refusal .. writes nothing": for any bytes, book or not, an add that is refused leaves them as they were, and a list its output. And
-- document 02, CR 4, "first 63": where they are no book, each question answers as the check does, whatever else is wrong.
-- The public entries are store_add, store_find and store_list. Rests on the definitions alone.
use mathlib.Core.Path.{◌≡◌, refl}
use mathlib.Core.Logic.{◌≢◌}
use mathlib.Core.Bool.{Bool, true, false, cond}
use mathlib.Core.List.{List, ◌++◌}
use Prim.Native.Nat.{ℕ}
use lib.Dec.{leb}
use lib.ListN.{length, drop}
use Rattle.descriptor.specs.Outcome.{Outcome, refused, read, Verdict, denied, granted, judge, settle}
use Rattle.descriptor.specs.Answers.{refusal, accepted}
use Rattle.descriptor.specs.Output.{Written, unwritten, written_to}
use Rattle.access.specs.Path.{no_part}
use Rattle.store.specs.Book.{identified}
use Rattle.store.specs.Layout.{bodies_end}
use Rattle.store.specs.Check.{opened, book_check}
use Rattle.store.specs.Questions.{admitted, entered, found, identifiers, listed, added}
use Rattle.history.specs.History.{Operation, add, answered}

-- what a refused answer leaves of the bytes s
pub record Unchanged (s : List ℕ) (w : Written) : Type 0 where
  pub refusal : w.answer.number ≢ 0 → w.out ≡ s

-- an answer that a reading decides, or a verdict
judge-unchanged : {A : Type 0} (s : List ℕ) (input : ℕ) (o : Outcome A) (w : A → Written) → ((x : A) → Unchanged s (w x))
    → Unchanged s (judge (unwritten s) input o w)
judge-unchanged s input (refused number place) w h = record { refusal = λ _. refl }
judge-unchanged s input (read at x) w h = h x

settle-unchanged : {A : Type 0} (s : List ℕ) (v : Verdict A) (w : A → Written) → ((x : A) → Unchanged s (w x)) → Unchanged s (settle (unwritten s) w v)
settle-unchanged s (denied number input place) w h = record { refusal = λ _. refl }
settle-unchanged s (granted x) w h = h x

-- an accepted answer
accepted-unchanged : (s : List ℕ) (w : Written) → w.answer.number ≡ 0 → Unchanged s w
accepted-unchanged s w e = record { refusal = λ h. absurd (h e) }

-- "A refusal .. writes nothing": a refused operation leaves any bytes as they were
pub unchanged : (s : List ℕ) (o : Operation) → Unchanged s (answered s o)
unfolding added entered
unchanged s (add d x) =
    judge-unchanged s 4 (opened s) _
    (λ b.
    settle-unchanged s (identified d x) _
    (λ id.
    judge-unchanged s 4 (admitted (length s) b (record { identifier = id; start = bodies_end b; descriptor = d; flattened = x })) _
    (λ _. accepted-unchanged s _ refl)))

-- and a list that is refused leaves the places for its numbers as they were
pub list-unchanged : (s out : List ℕ) → Unchanged out (listed s out)
unfolding listed written_to
list-unchanged s out = judge-unchanged out 4 (opened s) _ (λ b. of (identifiers b.blanks) (leb (length (identifiers b.blanks)) (length out)))
  where
    of : (xs : List ℕ) (t : Bool)
        → Unchanged out (cond t (record { answer = accepted (length xs); out = xs ++ drop (length xs) out }) (unwritten out 50 4 (length xs)))
    of xs true = accepted-unchanged out _ refl
    of xs false = record { refusal = λ _. refl }

-- bytes that are no book
module _ (s : List ℕ) (number place : ℕ) (e : opened s ≡ refused number place) where
  pub check-refused : book_check s ≡ refusal number 4 place
  unfolding book_check
  check-refused = rw e refl

  -- "first 63, not a well-formed book", before the record's own refusals
  pub operation-refused : (o : Operation) → answered s o ≡ unwritten s number 4 place
  unfolding added
  operation-refused (add d x) = rw e refl

  -- before 64
  pub find-refused : (id : ℕ) → found s id ≡ no_part number 4 place
  unfolding found
  find-refused id = rw e refl

  -- "50 with that count, after 63"
  pub list-refused : (out : List ℕ) → listed s out ≡ unwritten out number 4 place
  unfolding listed
  list-refused out = rw e refl
