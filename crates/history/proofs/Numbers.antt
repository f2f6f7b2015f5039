-- Which numbers each question about a book answers with, and with which input, whatever bytes it is lent: those that document 02, CR 4, names. The shape
-- is never refused, and the identifier's four bytes always have room. The public entries are store_check, store_find, store_list and store_add.
-- Rests on the numbers of the record's own refusals and of a check.
use mathlib.Core.Path.{◌≡◌, refl}
use mathlib.Core.Logic.{◌≢◌}
use mathlib.Core.Bool.{true}
use mathlib.Core.List.{List, [], ◌∷◌}
use Prim.Native.Nat.{ℕ, ◌+◌}
use lib.Dec.{leb, ltb, eqb}
use lib.ListN.{length}
use Rattle.descriptor.specs.Codes.{between}
use Rattle.descriptor.specs.Outcome.{Outcome, refused, read, Verdict, denied, granted, settle}
use Rattle.descriptor.specs.Answers.{refusal, accepted}
use Rattle.descriptor.specs.Output.{Written, unwritten, written_to}
use Rattle.descriptor.proofs.Outcomes.{judge-so, Refuses, accepted as reading, refusing, refuses-so, refuses-require, refuses-cond, refuses-and}
use Rattle.access.specs.Path.{no_part}
use Rattle.access.specs.declared.part.Part.{Part}
use Rattle.demands.proofs.Numbers.{Numbers, numbers, here, further, Answered, accepts, refuses, of_room, written-answered, lacks, never}
use Rattle.store.specs.Book.{identified, Blank, body_size, stop_of, Book}
use Rattle.store.specs.Layout.{bodies_end}
use Rattle.store.specs.Check.{opened, book_check}
use Rattle.store.specs.Questions.{entry_of, body_part, found, identifiers, listed, absent, admitted, entered, added}
use Rattle.history.proofs.Accepted.{opened-refusing}
use Rattle.history.proofs.Own.{of_own, own-numbers}

-- "63, not a well-formed book", by itself and with 64
abbrev pub of_book : Numbers
of_book = numbers 63 63 4

abbrev pub of_find : Numbers
of_find = numbers 63 64 4

-- "60 .., 61 .., 62": of adding
abbrev pub of_add : Numbers
of_add = numbers 60 62 4

-- a book that is refused is refused with 63
opened-63 : (s : List ℕ) (number place : ℕ) → opened s ≡ refused number place → between 63 63 number ≡ true
opened-63 s number place e = let same : number ≡ 63 = refuses-so e (opened-refusing s) in rw same refl

-- a search with 64
search-64 : (id i : ℕ) (rs : List Blank) → Refuses (λ number place. between 63 64 number ≡ true) (entry_of id i rs)
unfolding entry_of
search-64 id i [] = refusing refl
search-64 id i (r ∷ rs) = let rest = search-64 id (i + 1) rs in refuses-cond (eqb r.identifier id) (λ _. reading) (λ _. rest)

-- an add to a book with 60, 61, 62
admitted-numbers : (n : ℕ) (b : Book) (r : Blank) → Refuses (λ number place. between 60 62 number ≡ true) (admitted n b r)
unfolding admitted absent
admitted-numbers n b r =
    refuses-and (taken (entry_of r.identifier 0 b.blanks))
    (λ _ _.
    refuses-require (ltb (length b.blanks) b.capacity) 61 0 (λ _. refl)
    (λ _. refuses-require (leb (stop_of r) n) 62 (body_size r) (λ _. refl) (λ _. reading)))
  where
    taken : (o : Outcome Blank) → Refuses (λ number place. between 60 62 number ≡ true) (absent o)
    taken (refused number place) = reading
    taken (read i q) = refusing refl

-- any bytes s
module _ (s : List ℕ) where
  -- a check
  pub check-numbers : Answered (of_book ∷ []) (book_check s)
  unfolding book_check
  check-numbers =
      judge-so (λ a. Answered (of_book ∷ []) a) refusal 4 (opened s) (λ _. accepted 0) (λ n p e. refuses (here (opened-63 s n p e))) (λ _ _ _. accepts)

  -- a find: "find without a match is 64"
  pub find-numbers : (id : ℕ) → Answered (of_find ∷ []) (found s id).answer
  unfolding found
  find-numbers id =
      judge-so P no_part 4 (opened s) (λ b. _)
      (λ n p e. refuses (here {low = 63} {high = 64} {number = n} (let same : n ≡ 63 = refuses-so e (opened-refusing s) in rw same refl)))
      (λ _ b _. judge-so P no_part 4 (entry_of id 0 b.blanks) body_part (λ n p e. refuses (here (refuses-so e (search-64 id 0 b.blanks)))) (λ _ _ _. accepts))
    where
      P : Part → Type 0
      P x = Answered (of_find ∷ []) x.answer

  -- a list: "too few places is 50 with that count, after 63"
  pub list-numbers : (out : List ℕ) → Answered (of_book ∷ of_room ∷ []) (listed s out).answer
  unfolding listed
  list-numbers out =
      judge-so (λ w. Answered (of_book ∷ of_room ∷ []) w.answer) (unwritten out) 4 (opened s) (λ b. written_to out (identifiers b.blanks))
      (λ n p e. refuses (here (opened-63 s n p e))) (λ _ b _. written-answered (further (here refl)) out (identifiers b.blanks))

  -- an add: "first 63 ..; then the record's own; then, in this order, 60 ..; 61 ..; 62"
  pub add-numbers : (d x : List ℕ) → Answered (of_book ∷ of_own (of_add ∷ [])) (added s d x).answer
  unfolding added entered
  add-numbers d x =
      judge-so P (unwritten s) 4 (opened s) (λ b. _) (λ n p e. refuses (here (opened-63 s n p e))) (λ _ b _. of b (identified d x) refl)
    where
      P : Written → Type 0
      P w = Answered (of_book ∷ of_own (of_add ∷ [])) w.answer

      new : Book → ℕ → Blank
      new b id = record { identifier = id; start = bodies_end b; descriptor = d; flattened = x }

      of : (b : Book) (v : Verdict ℕ) → identified d x ≡ v → P (settle (unwritten s) (λ id. entered s b (new b id)) v)
      of b (denied number input place) e = refuses (further (own-numbers d x number input place e))
      of b (granted id) e =
          judge-so P (unwritten s) 4 (admitted (length s) b (new b id)) (λ _. _)
          (λ n p f. refuses (further (further (further (further (further (further (here (refuses-so f (admitted-numbers (length s) b (new b id)))))))))))
          (λ _ _ _. accepts)

  -- so "24 is no longer given" (CR 2) holds of each of them
  pub no-24 : (id : ℕ) (out d x : List ℕ)
      → ((book_check s).number ≢ 24) × ((found s id).answer.number ≢ 24) × ((listed s out).answer.number ≢ 24) × ((added s d x).answer.number ≢ 24)
  unfolding lacks
  no-24 id out d x = (never 23 refl check-numbers, never 23 refl (find-numbers id), never 23 refl (list-numbers out), never 23 refl (add-numbers d x))
