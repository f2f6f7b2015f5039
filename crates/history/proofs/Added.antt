-- Document 02, CR 4, "add a record": every answer of an add to a book with the case that it stands for, and the bytes after it.
-- The public entry is store_add. Rests on what is opened, on what is written, and on the numbers of the record's own refusals.
use mathlib.Core.Path.{◌≡◌, refl, sym, ap, ◌∙◌}
use mathlib.Core.Logic.{◌≢◌}
use mathlib.Core.Bool.{Bool, true, false}
use mathlib.Core.List.{List, []}
use Prim.Native.Nat.{ℕ, ◌+◌, ◌≤◌, ◌<◌}
use native.Mathlib.Omega.{arith}
use borrow.Author.Tests.{leb-true, leb-false, ltb-true, ltb-false}
use lib.Dec.{leb, ltb}
use lib.ListN.{length}
use lib.Seq.{slice}
use Rattle.descriptor.specs.Encoding.{Bytes}
use Rattle.descriptor.specs.Outcome.{read, require, Verdict, denied, granted, judge, settle}
use Rattle.descriptor.specs.Answers.{accepted}
use Rattle.descriptor.specs.Output.{Written, unwritten}
use Rattle.store.specs.Book.{identified, Blank, stop_of, Book, IsBook, with_blank}
use Rattle.store.specs.Layout.{entry_place, bodies_end, Laid}
use Rattle.store.specs.Questions.{entry_of, absent, admitted, with_record, entered, added}
use Rattle.history.proofs.Putting.{Clear}
use Rattle.history.proofs.Opened.{opened-complete}
use Rattle.history.proofs.Identified.{identifier-fits}
use Rattle.history.proofs.Own.{own-some}
use Rattle.history.proofs.Found.{IsEntry, holds_blank, entry_found, entry-missing, Search, there, missing, search-for}
use Rattle.history.proofs.Written.{written-long, written-frame, written-laid, written-book}

-- the record that is added: "as lent after the last body"
abbrev pub new_blank : Book → ℕ → List ℕ → List ℕ → Blank
new_blank b id d x = record { identifier = id; start = bodies_end b; descriptor = d; flattened = x }

-- the bytes with that record written
abbrev pub with_new : List ℕ → Book → ℕ → List ℕ → List ℕ → List ℕ
with_new s b id d x = with_record s (length b.blanks) (new_blank b id d x)

-- the answer to adding the record of d and x to the book b with the layout s, by the first of the refusals that holds
pub data Adding (s : List ℕ) (b : Book) (d x : List ℕ) : Written → Type 0 where
  -- "then the record's own"
  own : {number input place : ℕ} → identified d x ≡ denied number input place → number ≢ 0 → Adding s b d x (unwritten s number input place)
  -- "60 identifier already there, place its entry"
  taken : {id k : ℕ} (r : Blank) → identified d x ≡ granted id → IsEntry r k b.blanks → r.identifier ≡ id → Adding s b d x (unwritten s 60 4 k)
  -- "61 no free entry"
  full : {id : ℕ} → identified d x ≡ granted id → holds_blank id b.blanks ≡ false → b.capacity ≤ length b.blanks
      → Adding s b d x (unwritten s 61 4 0)
  -- "62 no room for the body, place its length"
  narrow : {id : ℕ} → identified d x ≡ granted id → holds_blank id b.blanks ≡ false → length b.blanks < b.capacity
      → length s < stop_of (new_blank b id d x) → Adding s b d x (unwritten s 62 4 (length d + length x))
  -- accepted: the record is written at the end
  done : {id : ℕ} → identified d x ≡ granted id → holds_blank id b.blanks ≡ false → length b.blanks < b.capacity
      → stop_of (new_blank b id d x) ≤ length s → Adding s b d x (record { answer = accepted 0; out = with_new s b id d x })

-- the layout s of a book b, and a record
module _ (b : Book) (s : List ℕ) (is : IsBook b) (laid : Laid b s) (d x : List ℕ) where
  -- 61 and 62, once the identifier is new
  entered-new : (id : ℕ) → identified d x ≡ granted id → holds_blank id b.blanks ≡ false → Adding s b d x (entered s b (new_blank b id d x))
  unfolding entered admitted absent
  entered-new id known new =
      rw (entry-missing id b.blanks 0 new)
      (of (ltb (length b.blanks) b.capacity) refl (leb (stop_of (new_blank b id d x)) (length s)) refl)
    where
      answer : Bool → Bool → Written
      answer free fits =
          judge (unwritten s) 4 (require free 61 0 (require fits 62 (length d + length x) (read (stop_of (new_blank b id d x)) (tt {0}))))
          (λ _. record { answer = accepted 0; out = with_new s b id d x })

      of : (free : Bool) → ltb (length b.blanks) b.capacity ≡ free → (fits : Bool) → leb (stop_of (new_blank b id d x)) (length s) ≡ fits
          → Adding s b d x (answer free fits)
      of true e true f = done known new (ltb-true _ _ e) (leb-true _ _ f)
      of true e false f = narrow known new (ltb-true _ _ e) (leb-false _ _ f)
      of false e fits f = full known new (ltb-false _ _ e)

  -- 60, where it is not
  entered-taken : {k : ℕ} (id : ℕ) (r : Blank) → IsEntry r k b.blanks → r.identifier ≡ id → entered s b (new_blank b id d x) ≡ unwritten s 60 4 k
  unfolding entered admitted absent
  entered-taken {k} id r y e =
      let at : 0 + k ≡ k = omega arith in
      let known : entry_of id 0 b.blanks ≡ read k r =
      ap (λ (j : ℕ). entry_of j 0 b.blanks) (sym e) ∙ entry_found r k b.blanks [] 0 y is.distinct ∙ ap (λ (j : ℕ). read j r) at in
      rw known refl

  -- "Refusals: first 63 ..; then the record's own; then, in this order, 60 ..; 61 ..; 62": each answer of an add stands for its case
  pub adds : Adding s b d x (added s d x)
  unfolding added
  adds = rw (opened-complete b s is laid) (of (identified d x) refl)
    where
      search : (id : ℕ) → identified d x ≡ granted id → Search id b.blanks → Adding s b d x (entered s b (new_blank b id d x))
      search id e (there r y f) = rw (entered-taken id r y f) (taken r e y f)
      search id e (missing f) = entered-new id e f

      of : (v : Verdict ℕ) → identified d x ≡ v → Adding s b d x (settle (unwritten s) (λ id. entered s b (new_blank b id d x)) v)
      of (denied number input place) e = own e (own-some d x number input place e)
      of (granted id) e = search id e (search-for id b.blanks)

  -- where it is accepted, the bytes are the layout of the book with the record at its end, and it is one
  pub added-book : (id : ℕ) → Bytes d → Bytes x → identified d x ≡ granted id → holds_blank id b.blanks ≡ false → length b.blanks < b.capacity
      → stop_of (new_blank b id d x) ≤ length s → IsBook (with_blank b (new_blank b id d x)) × Laid (with_blank b (new_blank b id d x)) (with_new s b id d x)
  added-book id bd bx known new free room = (
    written-book b s is laid (new_blank b id d x) refl free room (record { own = known; fits = identifier-fits d x bd bx id known }) new,
    written-laid b s is laid (new_blank b id d x) refl free room,
  )

  -- "60 identifier already there, place its entry": one that is there is never taken again
  pub taken_refused : {id k : ℕ} (r : Blank) → identified d x ≡ granted id → IsEntry r k b.blanks → r.identifier ≡ id
      → added s d x ≡ unwritten s 60 4 k
  unfolding added
  taken_refused {id} r known y e = rw (opened-complete b s is laid, known) (entered-taken id r y e)

  -- an accepted add: what was found, and the bytes after it
  pub record Done : Type 0 where
    pub identifier : ℕ
    pub own : identified d x ≡ granted identifier
    pub new : holds_blank identifier b.blanks ≡ false
    pub free : length b.blanks < b.capacity
    pub room : stop_of (new_blank b identifier d x) ≤ length s
    pub out : (added s d x).out ≡ with_new s b identifier d x

  pub accepted-done : (added s d x).answer.number ≡ 0 → Done
  accepted-done none = of (added s d x) refl adds none
    where
      of : (w : Written) → added s d x ≡ w → Adding s b d x w → w.answer.number ≡ 0 → Done
      of w e (own h some) z = absurd (some z)
      of w e (taken r h y f) z = absurd (omega arith)
      of w e (full h f g) z = absurd (omega arith)
      of w e (narrow h f g l) z = absurd (omega arith)
      of w e (done {id} h f g l) z = record { identifier = id; own = h; new = f; free = g; room = l; out = ap (λ (v : Written). v.out) e }

  -- "Places not named are 0"
  pub added-answer : (added s d x).answer.number ≡ 0 → (added s d x).answer ≡ accepted 0
  added-answer none = of (added s d x) adds none
    where
      of : (w : Written) → Adding s b d x w → w.answer.number ≡ 0 → w.answer ≡ accepted 0
      of w (own h some) z = absurd (some z)
      of w (taken r h y f) z = absurd (omega arith)
      of w (full h f g) z = absurd (omega arith)
      of w (narrow h f g l) z = absurd (omega arith)
      of w (done h f g l) z = refl

  -- an accepted add of the record with this identifier
  module _ (id : ℕ) (known : identified d x ≡ granted id) (none : (added s d x).answer.number ≡ 0) where
    -- its identifier was the one that was read
    done-same : (k : Done) → k.identifier ≡ id
    done-same k = let both : granted k.identifier ≡ granted id = sym k.own ∙ known in cc

    -- "Adding writes the record as lent after the last body and its entry after the last in use, and raises the count by one": the bytes are the
    -- layout of the book with the record at its end, and that is a book
    pub added-laid : Bytes d → Bytes x → IsBook (with_blank b (new_blank b id d x)) × Laid (with_blank b (new_blank b id d x)) (added s d x).out
    added-laid bd bx =
        let k = accepted-done none in
        let whole = added-book k.identifier bd bx k.own k.new k.free k.room in
        let bytes : Laid (with_blank b (new_blank b k.identifier d x)) (added s d x).out = rw k.out whole.1 in
        (rw (done-same k) at whole.0, rw (done-same k) at bytes)

    -- "nothing else": bytes clear of the count, of the new entry and of the body stay as they were
    pub added-frame : (p q : ℕ) → p ≤ q → Clear p q 2 4
        → Clear p q (entry_place (length b.blanks)) (entry_place (length b.blanks) + 16) → Clear p q (bodies_end b) (stop_of (new_blank b id d x))
        → slice p q (added s d x).out ≡ slice p q s
    added-frame p q h c e y =
        let k = accepted-done none in
        rw k.out (written-frame b s is laid (new_blank b k.identifier d x) refl k.free k.room p q h c e y)

  -- and as many as before, whatever is answered
  pub added-long : length (added s d x).out ≡ length s
  added-long = of (added s d x) adds
    where
      of : (w : Written) → Adding s b d x w → length w.out ≡ length s
      of w (own h some) = refl
      of w (taken r h y f) = refl
      of w (full h f g) = refl
      of w (narrow h f g l) = refl
      of w (done {id} h f g l) = written-long b s is laid (new_blank b id d x) refl g l
