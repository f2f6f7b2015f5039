-- Document 02, CR 4, "find one's whole body by identifier as a part of the book, list identifiers in entry order": a find gives exactly the bytes of
-- the body under that identifier, 64 exactly where none is there, and a list gives the identifiers of all records.
-- The public entries are store_find and store_list. Rests on what is opened.
use mathlib.Core.Path.{◌≡◌, refl, sym, ap, ◌∙◌}
use mathlib.Core.Logic.{◌≢◌, ◌↔◌}
use mathlib.Core.Bool.{Bool, true, false, cond}
use mathlib.Core.List.{List, [], ◌∷◌}
use Prim.Native.Nat.{ℕ, suc, ◌+◌, ◌≤◌}
use native.Mathlib.Omega.{arith}
use borrow.Author.Tests.{eqb-true, eq-eqb}
use lib.Dec.{eqb}
use lib.ListN.{length}
use lib.Seq.{slice}
use Rattle.descriptor.specs.Outcome.{Outcome, refused, read, judge}
use Rattle.descriptor.specs.Answers.{accepted}
use Rattle.descriptor.specs.Output.{Written, unwritten, written_to}
use Rattle.descriptor.proofs.Steps.{impossible}
use Rattle.access.specs.Path.{no_part}
use Rattle.access.specs.declared.part.Part.{Part}
use Rattle.store.specs.Book.{Blank, body_of, stop_of, is_one_of, Distinct, Book, IsBook}
use Rattle.store.specs.Layout.{Bodies, contents_end, Laid}
use Rattle.store.specs.Questions.{entry_of, body_part, found, identifiers, listed}
use Rattle.history.specs.History.{held_by, held_under, looked, finding}
use Rattle.history.proofs.Opened.{opened-complete}

-- r is entry k of the records, "counted from 0"
pub data IsEntry (r : Blank) : ℕ → List Blank → Type 0 where
  here : {rs : List Blank} → IsEntry r 0 (r ∷ rs)
  further : {k : ℕ} {q : Blank} {rs : List Blank} → IsEntry r k rs → IsEntry r (suc k) (q ∷ rs)

-- whether some record has this identifier
abbrev pub holds_blank : ℕ → List Blank → Bool
holds_blank id rs = is_one_of id (identifiers rs)

-- what isn't one of some numbers is neither the first nor another
pub not-one : (id m : ℕ) (ms : List ℕ) → is_one_of id (m ∷ ms) ≡ false → (eqb m id ≡ false) × (is_one_of id ms ≡ false)
unfolding is_one_of
not-one id m ms e = of (eqb m id) e
  where
    of : (b : Bool) → cond b true (is_one_of id ms) ≡ false → (b ≡ false) × (is_one_of id ms ≡ false)
    of true f = (f, absurd (let z : ◌≡◌ {A = ℕ} 0 1 = cc in omega arith))
    of false f = (refl, f)

-- a record's identifier is none of those given
entry-fresh : (r : Blank) (k : ℕ) (rs : List Blank) (seen : List ℕ) → IsEntry r k rs → Distinct seen rs → is_one_of r.identifier seen ≡ false
unfolding Distinct
entry-fresh r k rs seen here h = h.0
entry-fresh r k rs seen (further {q = q} {rs = qs} x) h =
    (not-one r.identifier q.identifier seen (entry-fresh r _ qs (q.identifier ∷ seen) x h.1)).1

-- the search for a record's identifier ends at its entry
pub entry_found : (r : Blank) (k : ℕ) (rs : List Blank) (seen : List ℕ) (i : ℕ) → IsEntry r k rs → Distinct seen rs
    → entry_of r.identifier i rs ≡ read (i + k) r
unfolding Distinct entry_of
entry_found r k rs seen i here h = let at : i ≡ i + 0 = omega arith in rw (eq-eqb r.identifier r.identifier refl) (ap (λ (j : ℕ). read j r) at)
entry_found r k rs seen i (further {k = m} {q = q} {rs = qs} x) h =
    let differ : eqb q.identifier r.identifier ≡ false =
    (not-one r.identifier q.identifier seen (entry-fresh r m qs (q.identifier ∷ seen) x h.1)).0 in
    let at : i + 1 + m ≡ i + suc m = omega arith in
    rw (differ, entry_found r m qs (q.identifier ∷ seen) (i + 1) x h.1) (ap (λ (j : ℕ). read j r) at)

-- and ends nowhere for another
pub entry-missing : (id : ℕ) (rs : List Blank) (i : ℕ) → holds_blank id rs ≡ false → entry_of id i rs ≡ refused 64 0
unfolding entry_of identifiers
entry-missing id [] i h = refl
entry-missing id (r ∷ rs) i h =
    let apart = not-one id r.identifier (identifiers rs) h in
    rw (apart.0, entry-missing id rs (i + 1) apart.1) refl

-- an identifier is some entry's or none's
pub data Search (id : ℕ) (rs : List Blank) : Type 0 where
  there : {k : ℕ} (r : Blank) → IsEntry r k rs → r.identifier ≡ id → Search id rs
  missing : holds_blank id rs ≡ false → Search id rs

pub search-for : (id : ℕ) (rs : List Blank) → Search id rs
unfolding is_one_of identifiers
search-for id [] = missing refl
search-for id (r ∷ rs) = of (eqb r.identifier id) refl (search-for id rs)
  where
    of : (b : Bool) → eqb r.identifier id ≡ b → Search id rs → Search id (r ∷ rs)
    of true e x = there r here (eqb-true _ _ e)
    of false e (there q x f) = there q (further x) f
    of false e (missing f) = missing (rw e f)

-- no record has this identifier
pub record NoneHas (id : ℕ) (rs : List Blank) : Type 0 where
  pub none : (k : ℕ) (r : Blank) → IsEntry r k rs → r.identifier ≢ id

-- what an identifier that is none's comes to
pub none-exactly : (id : ℕ) (rs : List Blank) → (holds_blank id rs ≡ false) ↔ NoneHas id rs
unfolding identifiers
none-exactly id rs = (λ h. record { none = λ k r x e. apart r k rs h x e }, λ h. of h (search-for id rs))
  where
    apart : (r : Blank) (k : ℕ) (qs : List Blank) → holds_blank id qs ≡ false → IsEntry r k qs → r.identifier ≢ id
    apart r k qs h (here {rs = rest}) e =
        impossible (sym (not-one id r.identifier (identifiers rest) h).0 ∙ eq-eqb r.identifier id e)
    apart r k qs h (further {k = j} {q = q} {rs = rest} x) e = apart r j rest (not-one id q.identifier (identifiers rest) h).1 x e

    of : NoneHas id rs → Search id rs → holds_blank id rs ≡ false
    of h (missing e) = e
    of h (there {k} r x e) = absurd (h.none k r x e)

-- the answer to a search
abbrev part : Outcome Blank → Part
part o = judge no_part 4 o body_part

-- the layout s of a book b
module _ (b : Book) (s : List ℕ) (is : IsBook b) (laid : Laid b s) where
  pub found_part : (id : ℕ) → found s id ≡ part (entry_of id 0 b.blanks)
  unfolding found
  found_part id = rw (opened-complete b s is laid) refl

  -- the bodies give what the records hold
  finding-from : (id : ℕ) (rs : List Blank) (i at : ℕ) → Bodies s at rs
      → ◌≡◌ {A = Written}
      (record {
        answer = (part (entry_of id i rs)).answer;
        out = slice (part (entry_of id i rs)).start ((part (entry_of id i rs)).start + (part (entry_of id i rs)).length) s;
      })
      (looked id (held_by rs))
  unfolding entry_of held_by held_under Bodies
  finding-from id [] i at h = refl
  finding-from id (r ∷ rs) i at h = of (eqb r.identifier id) (finding-from id rs (i + 1) (stop_of r) h.1)
    where
      shown : Part → Written
      shown p = record { answer = p.answer; out = slice p.start (p.start + p.length) s }

      of : (t : Bool) → shown (part (entry_of id (i + 1) rs)) ≡ looked id (held_by rs)
          → shown (part (cond t (read i r) (entry_of id (i + 1) rs)))
          ≡ judge (unwritten []) 4 (cond t (read 0 (body_of r)) (held_under id (held_by rs))) (λ body. record { answer = accepted 0; out = body })
      of true g = (λ j. record { answer = accepted 0; out = h.0.body j })
      of false g = g

  -- "find one's whole body by identifier": a find gives exactly what the records hold under that identifier, or 64
  pub finds : (id : ℕ) → finding s id ≡ looked id (held_by b.blanks)
  finds id = rw (found_part id) (finding-from id b.blanks 0 (contents_end b) laid.bodies)

  -- "as a part of the book": its start and its length
  pub find-there : (r : Blank) (k : ℕ) → IsEntry r k b.blanks
      → found s r.identifier ≡ body_part r
  find-there r k x = found_part r.identifier ∙ ap part (entry_found r k b.blanks [] 0 x is.distinct)

  -- whose bytes are the record's
  pub body-there : (r : Blank) (k : ℕ) → IsEntry r k b.blanks → slice r.start (stop_of r) s ≡ body_of r
  unfolding Bodies
  body-there r k x = of b.blanks (contents_end b) x laid.bodies
    where
      of : {j : ℕ} (rs : List Blank) (at : ℕ) → IsEntry r j rs → Bodies s at rs → slice r.start (stop_of r) s ≡ body_of r
      of rs at here h = h.0.body
      of rs at (further {q = q} {rs = qs} y) h = of qs (stop_of q) y h.1

  -- and lies inside the book
  pub part-inside : (r : Blank) (k : ℕ) → IsEntry r k b.blanks → stop_of r ≤ length s
  unfolding Bodies
  part-inside r k x = of b.blanks (contents_end b) x laid.bodies
    where
      of : {j : ℕ} (rs : List Blank) (at : ℕ) → IsEntry r j rs → Bodies s at rs → stop_of r ≤ length s
      of rs at here h = h.0.room
      of rs at (further {q = q} {rs = qs} y) h = of qs (stop_of q) y h.1

  -- "find without a match is 64", place 0
  pub find-missing : (id : ℕ) → NoneHas id b.blanks → found s id ≡ no_part 64 4 0
  find-missing id h = found_part id ∙ ap part (entry-missing id b.blanks 0 ((none-exactly id b.blanks).1 h))

  -- and only that: 64 is given exactly where no record has the identifier
  pub missing-exactly : (id : ℕ) → ((found s id).answer.number ≡ 64) ↔ NoneHas id b.blanks
  missing-exactly id = (λ e. of e (search-for id b.blanks), λ h. rw (find-missing id h) refl)
    where
      of : (found s id).answer.number ≡ 64 → Search id b.blanks → NoneHas id b.blanks
      of e (missing h) = (none-exactly id b.blanks).0 h
      of e (there {k} r x f) =
          let zero_number : (found s id).answer.number ≡ 0 =
          ap (λ (j : ℕ). (found s j).answer.number) (sym f) ∙ ap (λ (p : Part). p.answer.number) (find-there r k x) in
          absurd (omega arith)

  -- "list identifiers in entry order as 32-bit numbers (place the count; too few places is 50 with that count, after 63)"
  pub lists : (out : List ℕ) → listed s out ≡ written_to out (identifiers b.blanks)
  unfolding listed
  lists out = rw (opened-complete b s is laid) refl
