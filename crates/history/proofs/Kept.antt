-- What a run of adds to an empty book leaves, by the answers that were given (document 02, CR 4): the book holds exactly the records of the adds that
-- were answered with 0, in order; each of them is found byte for byte, and where it was written, after all that came later, and no other record is
-- accepted under its identifier.
-- The public entries are store_add and store_find. Rests on the promise of the book, and on the simple book.
use mathlib.Core.Path.{◌≡◌, refl, sym, ap, ◌∙◌}
use mathlib.Core.List.{List, [], ◌∷◌, ◌++◌, append_assoc}
use Prim.Native.Nat.{ℕ, ◌+◌, ◌≤◌}
use native.Mathlib.Omega.{arith}
use lib.ListN.{length}
use Rattle.descriptor.specs.Encoding.{Bytes}
use Rattle.descriptor.specs.Outcome.{refused, read, Verdict, denied, granted}
use Rattle.descriptor.specs.Answers.{refusal, accepted}
use Rattle.descriptor.specs.Output.{Written, unwritten}
use Rattle.descriptor.specs.declared.answer.Answer.{Answer}
use Rattle.access.specs.declared.part.Part.{Part}
use Rattle.store.specs.Book.{identified, Book, IsBook}
use Rattle.store.specs.Layout.{book_limit, Laid}
use Rattle.store.specs.Questions.{found, added, new_book}
use Rattle.history.specs.History.{Operation, add, Lent, answered, after, answers, Held, held_records, accepted_records, not_held, outcome, answer_of, held, held_by, looked, finding}
use Rattle.history.proofs.Accepted.{one-book}
use Rattle.history.proofs.Unchanged.{unchanged}
use Rattle.history.proofs.Added.{accepted-done}
use Rattle.history.proofs.Simple.{held_as, Comes, denies, puts, comes, held_first, held-taken, held-grows, held-accepted}
use Rattle.history.proofs.History.{Holding, as_said, answers-from-new, holds-from-new, finds-from-new}
use Rattle.history.proofs.Steps.{find-added, add-keeps-there}

-- two runs, one after the other
after-joined : (os ps : List Operation) (s : List ℕ) → after s (os ++ ps) ≡ after (after s os) ps
unfolding after
after-joined [] ps s = refl
after-joined (o ∷ os) ps s = after-joined os ps (answered s o).out

held-joined : (capacity n : ℕ) (os ps : List Operation) (hs : List Held)
    → held capacity n hs (os ++ ps) ≡ held capacity n (held capacity n hs os) ps
unfolding held
held-joined capacity n [] ps hs = refl
held-joined capacity n (o ∷ os) ps hs = held-joined capacity n os ps _

lent-parts : (os ps : List Operation) → Lent (os ++ ps) → Lent os × Lent ps
unfolding Lent
lent-parts [] ps lent = (tt, lent)
lent-parts (add d x ∷ os) ps lent = let rest = lent-parts os ps lent.2 in ((lent.0, lent.1, rest.0), rest.1)

records-length : (hs : List Held) → length (held_records hs) ≡ length hs
unfolding held_records
records-length [] = refl
records-length (h ∷ hs) = let rest = records-length hs in omega arith

-- where hs is held, the record of d and x is put at the end, under an identifier that was not held
record PutLast (capacity n : ℕ) (hs : List Held) (d x : List ℕ) (id : ℕ) : Type 0 where
  last : ℕ
  new : not_held id 0 hs ≡ read last tt
  so : outcome capacity n hs (add d x) ≡ granted (hs ++ (held_as id d x ∷ []))

-- so it is by an accepted add
accepted-put : (capacity n : ℕ) (hs : List Held) (s : List ℕ) → Holding capacity n hs s → (d x : List ℕ) → Lent (add d x ∷ []) → (id : ℕ)
    → identified d x ≡ granted id → (added s d x).answer.number ≡ 0 → PutLast capacity n hs d x id
accepted-put capacity n hs s holding d x lent id known none =
    of (outcome capacity n hs (add d x)) refl (comes capacity n hs d x)
    (ap (λ (a : Answer). a.number) (sym (as_said capacity n hs s holding (add d x) lent).answer) ∙ none)
  where
    of : (v : Verdict (List Held)) → outcome capacity n hs (add d x) ≡ v → Comes hs d x v → (answer_of v).number ≡ 0 → PutLast capacity n hs d x id
    of v e (denies some) z = absurd (some z)
    of v e (puts {id = m} {last} f g) z =
        let both : granted m ≡ granted id = sym f ∙ known in
        let same : m ≡ id = cc in
        record { last = last; new = rw same at g; so = e ∙ ap (λ (k : ℕ). granted (hs ++ (held_as k d x ∷ []))) same }

-- the part that a find gives stays the same over any run
parts-kept : (capacity n : ℕ) (ps : List Operation) (hs : List Held) (s : List ℕ) → Lent ps → Holding capacity n hs s → (id : ℕ)
    → (found s id).answer.number ≡ 0 → found (after s ps) id ≡ found s id
unfolding after Lent
parts-kept capacity n [] hs s lent h id there = refl
parts-kept capacity n (add d x ∷ ps) hs s lent h id there =
    let same : found (added s d x).out id ≡ found s id = add-keeps-there h.book s h.is h.laid d x lent.0 lent.1 id there in
    let later = (as_said capacity n hs s h (add d x) (lent.0, lent.1, tt)).holding in
    parts-kept capacity n ps _ (added s d x).out lent.2 later id (ap (λ (p : Part). p.answer.number) same ∙ there) ∙ same

-- from an empty book on
module _ (capacity : ℕ) (free : List ℕ) (size : length (new_book capacity free) ≤ book_limit) where
  -- after any run
  module _ (os : List Operation) (lent : Lent os) where
    -- what is held is exactly the records of the adds that were answered with 0, in order
    pub records-from-new : held_records (held capacity (length (new_book capacity free)) [] os) ≡ accepted_records os (answers (new_book capacity free) os)
    unfolding held_records
    records-from-new =
        held-accepted capacity (length (new_book capacity free)) os []
        ∙ ap (accepted_records os) (sym (answers-from-new capacity free size os lent))

    -- so are the records of the book that the bytes are then
    pub book-from-new : (b : Book) → IsBook b → Laid b (after (new_book capacity free) os)
        → held_records (held_by b.blanks) ≡ accepted_records os (answers (new_book capacity free) os)
    book-from-new b is laid =
        let x = holds-from-new capacity free size os lent in
        let same : b ≡ x.book =
        one-book (after (new_book capacity free) os) (record { book = b; is = is; laid = laid }) (record { book = x.book; is = x.is; laid = x.laid }) in
        ap (λ (c : Book). held_records (held_by c.blanks)) same ∙ ap held_records x.holds ∙ records-from-new

    -- an add that is answered with 0 has an identifier
    pub identifier-from-new : (d x : List ℕ) → (added (after (new_book capacity free) os) d x).answer.number ≡ 0 → (id : ℕ) × (identified d x ≡ granted id)
    identifier-from-new d x none =
        let h = holds-from-new capacity free size os lent in
        let k = accepted-done h.book (after (new_book capacity free) os) h.is h.laid d x none in
        (k.identifier, k.own)

  -- after any run, an add that was answered with 0, and any run after it
  module _ (os ps : List Operation) (d x : List ℕ) (lent : Lent (os ++ (add d x ∷ ps))) (id : ℕ) (known : identified d x ≡ granted id)
      (none : (added (after (new_book capacity free) os) d x).answer.number ≡ 0) where
    lent-before : Lent os
    lent-before = (lent-parts os (add d x ∷ ps) lent).0

    lent-add : Lent (add d x ∷ [])
    unfolding Lent
    lent-add = let l = (lent-parts os (add d x ∷ ps) lent).1 in (l.0, l.1, tt)

    -- what is held before the add
    abbrev held_before : List Held
    held_before = held capacity (length (new_book capacity free)) [] os

    added_then : PutLast capacity (length (new_book capacity free)) held_before d x id
    added_then =
        accepted-put capacity (length (new_book capacity free)) held_before (after (new_book capacity free) os)
        (holds-from-new capacity free size os lent-before) d x lent-add id known none

    -- what is held in the end
    at-end : (gs : List Held) × (held capacity (length (new_book capacity free)) [] (os ++ (add d x ∷ ps)) ≡ held_before ++ (held_as id d x ∷ gs))
    unfolding held
    at-end =
        let n : ℕ = length (new_book capacity free) in
        let later = held-grows capacity n ps (held_before ++ (held_as id d x ∷ [])) in (
          later.0,
          held-joined capacity n os (add d x ∷ ps) []
              ∙ rw added_then.so later.1
              ∙ append_assoc held_before (held_as id d x ∷ []) later.0,
        )

    -- "find one's whole body by identifier": its record is found, byte for byte
    pub found_after : finding (after (new_book capacity free) (os ++ (add d x ∷ ps))) id ≡ record { answer = accepted 0; out = d ++ x }
    found_after =
        finds-from-new capacity free size (os ++ (add d x ∷ ps)) lent id
        ∙ ap (looked id) at-end.1
        ∙ rw (held_first id d x at-end.0 held_before 0 added_then.last added_then.new) refl

    -- and "as a part of the book" it stands where it was written
    pub part-after : found (after (new_book capacity free) (os ++ (add d x ∷ ps))) id ≡ found (added (after (new_book capacity free) os) d x).out id
    unfolding after Lent
    part-after =
        let n : ℕ = length (new_book capacity free) in
        let s : List ℕ = after (new_book capacity free) os in
        let h = holds-from-new capacity free size os lent-before in
        let then = (as_said capacity n held_before s h (add d x) lent-add).holding in
        let there : finding (added s d x).out id ≡ record { answer = accepted 0; out = d ++ x } =
        find-added h.book s h.is h.laid d x lent-add.0 lent-add.1 id known none in
        ap (λ (l : List ℕ). found l id) (after-joined os (add d x ∷ ps) (new_book capacity free))
        ∙ parts-kept capacity n ps _ (added s d x).out (lent-parts os (add d x ∷ ps) lent).1.2 then id (ap (λ (w : Written). w.answer.number) there)

    -- "60 identifier already there, place its entry": no other record is taken under its identifier; its entry is as many as were accepted before it
    pub refused-after : (e y : List ℕ) → Bytes e → Bytes y → identified e y ≡ granted id
        → added (after (new_book capacity free) (os ++ (add d x ∷ ps))) e y
        ≡ unwritten (after (new_book capacity free) (os ++ (add d x ∷ ps))) 60 4 (length (accepted_records os (answers (new_book capacity free) os)))
    unfolding Lent outcome
    refused-after e y be by again =
        let n : ℕ = length (new_book capacity free) in
        let s : List ℕ = after (new_book capacity free) (os ++ (add d x ∷ ps)) in
        let hs : List Held = held capacity n [] (os ++ (add d x ∷ ps)) in
        let k : ℕ = length (accepted_records os (answers (new_book capacity free) os)) in
        let entry : 0 + length held_before ≡ k =
        omega (arith, records-length held_before, ap (λ (l : List (List ℕ × List ℕ)). length l) (records-from-new os lent-before)) in
        let taken : not_held id 0 hs ≡ refused 60 k =
        ap (not_held id 0) at-end.1
        ∙ held-taken id d x at-end.0 held_before 0 added_then.last added_then.new
        ∙ ap (λ (j : ℕ). refused 60 j) entry in
        let said : outcome capacity n hs (add e y) ≡ denied 60 4 k = rw (again, taken) refl in
        let answer : (added s e y).answer ≡ refusal 60 4 k =
        (as_said capacity n hs s (holds-from-new capacity free size (os ++ (add d x ∷ ps)) lent) (add e y) (be, by, tt)).answer ∙ ap answer_of said in
        let some : (added s e y).answer.number ≡ 60 = ap (λ (a : Answer). a.number) answer in
        let same : (added s e y).out ≡ s = (unchanged s (add e y)).refusal (λ z. omega arith) in
        (λ i. record { answer = answer i; out = same i })
