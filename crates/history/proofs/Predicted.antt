-- What the simple book says of an add to a book, case by case: the record's own refusal, 60, 61, 62 (document 02, CR 4), or the record that is put at
-- the end. The public entry is store_add. Rests on what the records of a book hold.
use mathlib.Core.Path.{◌≡◌, refl, sym, ap, ◌∙◌}
use mathlib.Core.Bool.{Bool, true, false, cond}
use mathlib.Core.List.{List, [], ◌∷◌, ◌++◌}
use Prim.Native.Nat.{ℕ, ◌+◌, ◌≤◌, ◌<◌}
use native.Mathlib.Omega.{arith}
use borrow.Author.Tests.{le-leb, lt-leb, lt-ltb, le-ltb}
use lib.Dec.{leb, ltb, eqb}
use lib.ListN.{length}
use Rattle.descriptor.specs.Outcome.{refused, read, Verdict, denied, granted}
use Rattle.store.specs.Book.{identified, Blank, stop_of, Book, IsBook}
use Rattle.store.specs.Layout.{entry_place, Bodies, end_from, contents_end, Laid}
use Rattle.store.specs.Questions.{entry_of, identifiers, absent}
use Rattle.history.specs.History.{add, Held, held_names, held_size, not_held, outcome, held_by}
use Rattle.history.proofs.Rule.{follows_is}
use Rattle.history.proofs.Found.{IsEntry, holds_blank, entry_found, entry-missing}
use Rattle.history.proofs.Added.{new_blank}

-- what records hold: how many, how long, and whose identifiers
held-length : (rs : List Blank) → length (held_by rs) ≡ length rs
unfolding held_by
held-length [] = refl
held-length (r ∷ rs) = let rest = held-length rs in omega arith

held-end : (s : List ℕ) (rs : List Blank) (at : ℕ) → Bodies s at rs → end_from at rs ≡ at + held_size (held_by rs)
unfolding held_by held_size end_from Bodies
held-end s [] at h = omega arith
held-end s (r ∷ rs) at h =
    let start : at ≡ r.start = follows_is at r.start h.0.after in
    omega (arith, held-end s rs (stop_of r) h.1)

pub held-names : (rs : List Blank) → held_names (held_by rs) ≡ identifiers rs
unfolding held_by held_names identifiers
held-names [] = refl
held-names (r ∷ rs) = ap (λ (l : List ℕ). r.identifier ∷ l) (held-names rs)

held-absent : (id : ℕ) (rs : List Blank) (i : ℕ) → absent (entry_of id i rs) ≡ not_held id i (held_by rs)
unfolding absent entry_of not_held held_by
held-absent id [] i = refl
held-absent id (r ∷ rs) i = of (eqb r.identifier id) (held-absent id rs (i + 1))
  where
    of : (t : Bool) → absent (entry_of id (i + 1) rs) ≡ not_held id (i + 1) (held_by rs)
        → absent (cond t (read i r) (entry_of id (i + 1) rs)) ≡ cond t (refused 60 i) (not_held id (i + 1) (held_by rs))
    of true e = refl
    of false e = e

-- the layout s of a book b, and a record
module _ (b : Book) (s : List ℕ) (is : IsBook b) (laid : Laid b s) (d x : List ℕ) where
  -- what the simple book says
  abbrev pub said : Verdict (List Held)
  said = outcome b.capacity (length s) (held_by b.blanks) (add d x)

  -- "then the record's own"
  pub said-own : {number input place : ℕ} → identified d x ≡ denied number input place → said ≡ denied number input place
  unfolding outcome
  said-own e = rw e refl

  -- "60 identifier already there, place its entry"
  pub said-taken : {id k : ℕ} (r : Blank) → identified d x ≡ granted id → IsEntry r k b.blanks → r.identifier ≡ id → said ≡ denied 60 4 k
  unfolding outcome absent
  said-taken {id} {k} r e y f =
      let at : 0 + k ≡ k = omega arith in
      let known : not_held id 0 (held_by b.blanks) ≡ refused 60 k =
      sym (held-absent id b.blanks 0)
      ∙ ap (λ (j : ℕ). absent (entry_of j 0 b.blanks)) (sym f)
      ∙ ap absent (entry_found r k b.blanks [] 0 y is.distinct)
      ∙ ap (λ (j : ℕ). refused 60 j) at in
      rw (e, known) refl

  -- an identifier that is not there
  module _ {id : ℕ} (e : identified d x ≡ granted id) (new : holds_blank id b.blanks ≡ false) where
    not-held : not_held id 0 (held_by b.blanks) ≡ read 0 tt
    unfolding absent
    not-held = sym (held-absent id b.blanks 0) ∙ ap absent (entry-missing id b.blanks 0 new)

    -- where the record would end
    stop : ℕ
    stop = entry_place b.capacity + held_size (held_by b.blanks) + (length d + length x)

    stops : stop_of (new_blank b id d x) ≡ stop
    unfolding stop
    stops = ap (λ (j : ℕ). j + (length d + length x)) (held-end s b.blanks (contents_end b) laid.bodies)

    -- "61 no free entry"
    pub said-full : b.capacity ≤ length b.blanks → said ≡ denied 61 4 0
    unfolding outcome
    said-full h =
        let most : b.capacity ≤ length (held_by b.blanks) = omega (arith, held-length b.blanks) in
        let full : ltb (length (held_by b.blanks)) b.capacity ≡ false = le-ltb _ _ most in
        rw (e, not-held, full) refl

    -- there is a free entry
    module _ (free : length b.blanks < b.capacity) where
      some-free : ltb (length (held_by b.blanks)) b.capacity ≡ true
      some-free = let fewer : length (held_by b.blanks) < b.capacity = omega (arith, held-length b.blanks) in lt-ltb _ _ fewer

      -- "62 no room for the body, place its length"
      pub said-narrow : length s < stop_of (new_blank b id d x) → said ≡ denied 62 4 (length d + length x)
      unfolding outcome stop
      said-narrow h =
          let over : length s < stop = omega (arith, stops) in
          let narrow : leb stop (length s) ≡ false = lt-leb _ _ over in
          rw (e, not-held, some-free, narrow) refl

      -- the record at the end
      pub said-done : stop_of (new_blank b id d x) ≤ length s
          → said ≡ granted (held_by b.blanks ++ (record { identifier = id; descriptor = d; flattened = x } ∷ []))
      unfolding outcome stop
      said-done h =
          let inside : stop ≤ length s = omega (arith, stops) in
          let room : leb stop (length s) ≡ true = le-leb _ _ inside in
          rw (e, not-held, some-free, room) refl
