-- What one add does to the finds, document 02, CR 4: "find one's whole body by identifier" gives what was added, and no other find changes,
-- nor the part that it gives.
-- The public entries are store_add and store_find. Rests on what an add does to a book.
use mathlib.Core.Path.{◌≡◌, refl, sym, ap, ◌∙◌}
use mathlib.Core.Logic.{◌≢◌}
use mathlib.Core.Bool.{Bool, true, false, cond}
use mathlib.Core.List.{List, [], ◌∷◌, ◌++◌}
use Prim.Native.Nat.{ℕ, ◌+◌}
use native.Mathlib.Omega.{arith}
use borrow.Author.Tests.{eq-eqb, ne_eqb}
use lib.Dec.{eqb}
use Rattle.descriptor.specs.Encoding.{Bytes}
use Rattle.descriptor.specs.Outcome.{Outcome, refused, read, granted, judge}
use Rattle.descriptor.specs.Answers.{accepted}
use Rattle.descriptor.specs.Output.{Written}
use Rattle.access.specs.Path.{no_part}
use Rattle.access.specs.declared.part.Part.{Part}
use Rattle.store.specs.Book.{identified, Blank, Book, IsBook, with_blank}
use Rattle.store.specs.Layout.{Laid}
use Rattle.store.specs.Questions.{entry_of, body_part, found, identifiers, added}
use Rattle.history.specs.History.{Held, held_body, held_by, held_under, looked, finding}
use Rattle.history.proofs.Found.{holds_blank, not-one, none-exactly, found_part, finds, find-missing}
use Rattle.history.proofs.Written.{held_more}
use Rattle.history.proofs.Added.{new_blank, Adding, own, taken, full, narrow, done, adds, added-book, accepted-done, added-laid}

-- nothing is held under an identifier that no record has
held-missing : (id : ℕ) (rs : List Blank) → holds_blank id rs ≡ false → held_under id (held_by rs) ≡ refused 64 0
unfolding held_by held_under identifiers
held-missing id [] h = refl
held-missing id (r ∷ rs) h =
    let apart = not-one id r.identifier (identifiers rs) h in rw (apart.0, held-missing id rs apart.1) refl

-- one more record at the end is found where nothing was held under its identifier
held_new : (h : Held) (hs : List Held) → held_under h.identifier hs ≡ refused 64 0 → held_under h.identifier (hs ++ (h ∷ [])) ≡ read 0 (held_body h)
unfolding held_under
held_new h [] e = rw (eq-eqb h.identifier h.identifier refl) refl
held_new h (g ∷ hs) e = of (eqb g.identifier h.identifier) e (λ f. held_new h hs f)
  where
    of : (b : Bool) → cond b (read 0 (held_body g)) (held_under h.identifier hs) ≡ refused 64 0
        → (held_under h.identifier hs ≡ refused 64 0 → held_under h.identifier (hs ++ (h ∷ [])) ≡ read 0 (held_body h))
        → cond b (read 0 (held_body g)) (held_under h.identifier (hs ++ (h ∷ []))) ≡ read 0 (held_body h)
    of true f more = absurd (let z : ◌≡◌ {A = ℕ} 0 1 = cc in omega arith)
    of false f more = more f

-- and changes nothing for another
held-other : (id : ℕ) (h : Held) (hs : List Held) → h.identifier ≢ id → held_under id (hs ++ (h ∷ [])) ≡ held_under id hs
unfolding held_under
held-other id h [] differ = rw (ne_eqb h.identifier id differ) refl
held-other id h (g ∷ hs) differ = rw (held-other id h hs differ) refl

-- nor in the search for another's entry
entry_other : (id : ℕ) (r : Blank) (rs : List Blank) (i : ℕ) → r.identifier ≢ id → entry_of id i (rs ++ (r ∷ [])) ≡ entry_of id i rs
unfolding entry_of
entry_other id r [] i differ = rw (ne_eqb r.identifier id differ) refl
entry_other id r (q ∷ rs) i differ = rw (entry_other id r rs (i + 1) differ) refl

-- the layout s of a book b, and a record
module _ (b : Book) (s : List ℕ) (is : IsBook b) (laid : Laid b s) (d x : List ℕ) (bd : Bytes d) (bx : Bytes x) where
  -- "find one's whole body by identifier": a record that was added is found, byte for byte
  pub find-added : (id : ℕ) → identified d x ≡ granted id → (added s d x).answer.number ≡ 0
      → finding (added s d x).out id ≡ record { answer = accepted 0; out = d ++ x }
  find-added id known none =
      let k = accepted-done b s is laid d x none in
      let both : granted k.identifier ≡ granted id = sym k.own ∙ known in
      let same : k.identifier ≡ id = cc in
      let whole = added-laid b s is laid d x id known none bd bx in
      finds (with_blank b (new_blank b id d x)) (added s d x).out whole.0 whole.1 id
      ∙ ap (looked id) (held_more (new_blank b id d x) b.blanks)
      ∙ rw (held_new (record { identifier = id; descriptor = d; flattened = x }) (held_by b.blanks) (held-missing id b.blanks (rw same at k.new))) refl

  -- "nothing else": an add, accepted or refused, changes no other find
  pub add-keeps : (id : ℕ) → identified d x ≢ granted id → finding (added s d x).out id ≡ finding s id
  add-keeps id other = of (added s d x) (adds b s is laid d x)
    where
      of : (w : Written) → Adding s b d x w → finding w.out id ≡ finding s id
      of w (own e some) = refl
      of w (taken r e y f) = refl
      of w (full e f g) = refl
      of w (narrow e f g l) = refl
      of w (done {id = m} e f g l) =
          let known = added-book b s is laid d x m bd bx e f g l in
          finds (with_blank b (new_blank b m d x)) w.out known.0 known.1 id
          ∙ ap (looked id) (held_more (new_blank b m d x) b.blanks)
          ∙ rw (held-other id (record { identifier = m; descriptor = d; flattened = x }) (held_by b.blanks) (λ same. other (e ∙ ap granted same)))
          (sym (finds b s is laid id))

  -- nor the part that a find gives, its start and its length
  pub add-keeps-part : (id : ℕ) → identified d x ≢ granted id → found (added s d x).out id ≡ found s id
  add-keeps-part id other = of (added s d x) (adds b s is laid d x)
    where
      of : (w : Written) → Adding s b d x w → found w.out id ≡ found s id
      of w (own e some) = refl
      of w (taken r e y f) = refl
      of w (full e f g) = refl
      of w (narrow e f g l) = refl
      of w (done {id = m} e f g l) =
          let known = added-book b s is laid d x m bd bx e f g l in
          found_part (with_blank b (new_blank b m d x)) w.out known.0 known.1 id
          ∙ ap (λ (o : Outcome Blank). judge no_part 4 o body_part)
          (entry_other id (new_blank b m d x) b.blanks 0 (λ same. other (e ∙ ap granted same)))
          ∙ sym (found_part b s is laid id)

  -- so no add changes the part of a record that is there, whatever it adds
  pub add-keeps-there : (id : ℕ) → (found s id).answer.number ≡ 0 → found (added s d x).out id ≡ found s id
  add-keeps-there id there = of (added s d x) refl (adds b s is laid d x)
    where
      of : (w : Written) → added s d x ≡ w → Adding s b d x w → found w.out id ≡ found s id
      of w h (own e some) = refl
      of w h (taken r e y f) = refl
      of w h (full e f g) = refl
      of w h (narrow e f g l) = refl
      of w h (done {id = m} e f g l) =
          ap (λ (v : Written). found v.out id) (sym h)
          ∙ add-keeps-part id
          (λ same.
          let both : granted m ≡ granted id = sym e ∙ same in
          let new : m ≡ id = cc in
          let lost : found s id ≡ no_part 64 4 0 = find-missing b s is laid id ((none-exactly id b.blanks).0 (rw new at f)) in
          let number : (found s id).answer.number ≡ 64 = ap (λ (p : Part). p.answer.number) lost in
          omega arith)
