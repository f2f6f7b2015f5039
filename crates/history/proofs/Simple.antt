-- The simple book by itself (document 02, CR 4): an operation is refused with a number that is not 0, or puts its record at the end under an identifier
-- that was not held. So what is held after a run is what was held before it, then the accepted records in order.
-- Rests on the numbers of the record's own refusals.
use mathlib.Core.Path.{◌≡◌, refl, sym, ap, ◌∙◌}
use mathlib.Core.Logic.{◌≢◌}
use mathlib.Core.Bool.{Bool, true, false, cond}
use mathlib.Core.List.{List, [], ◌∷◌, ◌++◌, append-nil, append_assoc}
use Prim.Native.Nat.{ℕ, suc, ◌+◌, ◌<◌}
use native.Mathlib.Omega.{arith}
use borrow.Author.Tests.{eq-eqb, ne_eqb}
use lib.Dec.{leb, ltb, eqb}
use lib.ListN.{length}
use Rattle.descriptor.specs.Outcome.{Outcome, refused, read, and_then, require, Verdict, denied, granted, judge, settle}
use Rattle.descriptor.proofs.Outcomes.{Refuses, accepted as reading, refusing, refuses-so, refuses-cond}
use Rattle.store.specs.Book.{identified}
use Rattle.store.specs.Layout.{entry_place}
use Rattle.history.specs.History.{Operation, add, Held, held_body, held_records, accepted_records, held_under, held_size, not_held, outcome, answer_of, held_after, held, predictions}
use Rattle.history.proofs.Own.{own-some}

-- the record of d and x under an identifier
abbrev pub held_as : ℕ → List ℕ → List ℕ → Held
held_as id d x = record { identifier = id; descriptor = d; flattened = x }

-- what an add comes to, where hs is held
pub data Comes (hs : List Held) (d x : List ℕ) : Verdict (List Held) → Type 0 where
  -- no refusal has the number 0
  denies : {number input place : ℕ} → number ≢ 0 → Comes hs d x (denied number input place)
  -- one record more, under an identifier that was not held
  puts : {id last : ℕ} → identified d x ≡ granted id → not_held id 0 hs ≡ read last tt → Comes hs d x (granted (hs ++ (held_as id d x ∷ [])))

-- "60 identifier already there" is the only refusal of a search
held-60 : (id i : ℕ) (hs : List Held) → Refuses (λ number place. number ≡ 60) (not_held id i hs)
unfolding not_held
held-60 id i [] = reading
held-60 id i (h ∷ hs) = let rest = held-60 id (i + 1) hs in refuses-cond (eqb h.identifier id) (λ _. refusing refl) (λ _. rest)

pub comes : (capacity n : ℕ) (hs : List Held) (d x : List ℕ) → Comes hs d x (outcome capacity n hs (add d x))
unfolding outcome
comes capacity n hs d x = of (identified d x) refl
  where
    above : (number : ℕ) → 0 < number → number ≢ 0
    above number h z = omega arith

    new : (id : ℕ) → identified d x ≡ granted id → (o : Outcome (Unit {0})) → not_held id 0 hs ≡ o → (free fits : Bool)
        → Comes hs d x
        (judge denied 4 (and_then o (λ _ _. require free 61 0 (require fits 62 (length d + length x) (read 0 (tt {0})))))
        (λ _. granted (hs ++ (held_as id d x ∷ []))))
    new id e (refused number place) f free fits = denies (above number (omega (arith, refuses-so f (held-60 id 0 hs))))
    new id e (read last u) f false fits = denies (above 61 (omega arith))
    new id e (read last u) f true false = denies (above 62 (omega arith))
    new id e (read last u) f true true = puts e f

    of : (v : Verdict ℕ) → identified d x ≡ v
        → Comes hs d x
        (settle denied
        (λ id.
        judge denied 4
        (and_then (not_held id 0 hs)
        (λ _ _.
        require (ltb (length hs) capacity) 61 0
        (require (leb (entry_place capacity + held_size hs + (length d + length x)) n) 62 (length d + length x) (read 0 (tt {0})))))
        (λ _. granted (hs ++ (held_as id d x ∷ []))))
        v)
    of (denied number input place) e = denies (own-some d x number input place e)
    of (granted id) e = new id e (not_held id 0 hs) refl (ltb (length hs) capacity) (leb (entry_place capacity + held_size hs + (length d + length x)) n)

-- the records of more that is held
records-more : (hs gs : List Held) → held_records (hs ++ gs) ≡ held_records hs ++ held_records gs
unfolding held_records
records-more [] gs = refl
records-more (h ∷ hs) gs = ap (λ (l : List (List ℕ × List ℕ)). (h.descriptor, h.flattened) ∷ l) (records-more hs gs)

-- a record that was put behind those that were held, whatever was put behind it
module _ (id : ℕ) (d x : List ℕ) (gs : List Held) where
  -- is what is found under its identifier,
  pub held_first : (hs : List Held) (i last : ℕ) → not_held id i hs ≡ read last tt → held_under id (hs ++ (held_as id d x ∷ gs)) ≡ read 0 (d ++ x)
  unfolding not_held held_under
  held_first [] i last e = rw (eq-eqb id id refl) refl
  held_first (h ∷ hs) i last e = of (eqb h.identifier id) e (λ f. held_first hs (i + 1) last f)
    where
      of : (b : Bool) → cond b (refused 60 i) (not_held id (i + 1) hs) ≡ read last tt
          → (not_held id (i + 1) hs ≡ read last tt → held_under id (hs ++ (held_as id d x ∷ gs)) ≡ read 0 (d ++ x))
          → cond b (read 0 (held_body h)) (held_under id (hs ++ (held_as id d x ∷ gs))) ≡ read 0 (d ++ x)
      of true f rest = absurd (let z : ◌≡◌ {A = ℕ} 0 1 = cc in omega arith)
      of false f rest = rest f

  -- and its identifier is taken: "60 identifier already there, place its entry", which is how many were held before it
  pub held-taken : (hs : List Held) (i last : ℕ) → not_held id i hs ≡ read last tt
      → not_held id i (hs ++ (held_as id d x ∷ gs)) ≡ refused 60 (i + length hs)
  unfolding not_held
  held-taken [] i last e = let here : i ≡ i + 0 = omega arith in rw (eq-eqb id id refl) (ap (λ (j : ℕ). refused 60 j) here)
  held-taken (h ∷ hs) i last e = of (eqb h.identifier id) e (λ f. held-taken hs (i + 1) last f)
    where
      of : (b : Bool) → cond b (refused 60 i) (not_held id (i + 1) hs) ≡ read last tt
          → (not_held id (i + 1) hs ≡ read last tt → not_held id (i + 1) (hs ++ (held_as id d x ∷ gs)) ≡ refused 60 (i + 1 + length hs))
          → cond b (refused 60 i) (not_held id (i + 1) (hs ++ (held_as id d x ∷ gs))) ≡ refused 60 (i + suc (length hs))
      of true f rest = absurd (let z : ◌≡◌ {A = ℕ} 0 1 = cc in omega arith)
      of false f rest = let at : i + 1 + length hs ≡ i + suc (length hs) = omega arith in rest f ∙ ap (λ (j : ℕ). refused 60 j) at

-- a book of this capacity in n bytes
module _ (capacity n : ℕ) where
  -- what is held stays in front
  pub held-grows : (os : List Operation) (hs : List Held) → (gs : List Held) × (held capacity n hs os ≡ hs ++ gs)
  unfolding held
  held-grows [] hs = ([], sym (append-nil hs))
  held-grows (add d x ∷ os) hs = of (outcome capacity n hs (add d x)) (comes capacity n hs d x) (λ ks. held-grows os ks)
    where
      of : (v : Verdict (List Held)) → Comes hs d x v
          → ((ks : List Held) → (gs : List Held) × (held capacity n ks os ≡ ks ++ gs))
          → (gs : List Held) × (held capacity n (held_after hs v) os ≡ hs ++ gs)
      of v (denies some) rest = rest hs
      of v (puts {id} e f) rest =
          let later = rest (hs ++ (held_as id d x ∷ [])) in
          (held_as id d x ∷ later.0, later.1 ∙ append_assoc hs (held_as id d x ∷ []) later.0)

  -- the records held after a run are those held before it, then those that the simple book says are accepted
  pub held-accepted : (os : List Operation) (hs : List Held)
      → held_records (held capacity n hs os) ≡ held_records hs ++ accepted_records os (predictions capacity n hs os)
  unfolding held predictions accepted_records held_records
  held-accepted [] hs = sym (append-nil (held_records hs))
  held-accepted (add d x ∷ os) hs = of (outcome capacity n hs (add d x)) (comes capacity n hs d x) (λ ks. held-accepted os ks)
    where
      of : (v : Verdict (List Held)) → Comes hs d x v
          → ((ks : List Held) → held_records (held capacity n ks os) ≡ held_records ks ++ accepted_records os (predictions capacity n ks os))
          → held_records (held capacity n (held_after hs v) os)
          ≡ held_records hs ++ accepted_records (add d x ∷ os) (answer_of v ∷ predictions capacity n (held_after hs v) os)
      of v (denies {number} some) rest = rw (ne_eqb number 0 some) (rest hs)
      of v (puts {id} e f) rest =
          let later : List Held = hs ++ (held_as id d x ∷ []) in
          let others : List (List ℕ × List ℕ) = accepted_records os (predictions capacity n later os) in
          rest later
          ∙ ap (λ (l : List (List ℕ × List ℕ)). l ++ others) (records-more hs (held_as id d x ∷ []))
          ∙ append_assoc (held_records hs) ((d, x) ∷ []) others
