-- The search for an identifier, entry by entry; and what it says of the identifiers before an entry. Assumes nothing.
use mathlib.Core.Path.{◌≡◌, refl}
use mathlib.Core.Logic.{◌≢◌}
use mathlib.Core.Bool.{Bool, true, false, cond}
use mathlib.Core.List.{List}
use Prim.Native.Nat.{ℕ, zero, suc, ◌+◌, ◌≤◌, ◌<◌}
use native.Mathlib.Omega.{arith}
use borrow.Author.Count.{below_more}
use borrow.Author.Tests.{eqb-true, eqb-false, eq-eqb, ne_eqb}
use lib.Dec.{eqb}
use Rattle.descriptor.specs.Outcome.{refused, read}
use Rattle.store.specs.Book.{is_one_of}
use Rattle.store.specs.Layout.{entry_place}
use Rattle.store.specs.Check.{blank_at}
use Rattle.store.specs.Questions.{entry_of}
use Rattle.store.specs.inner.Entries.{name_at, Unseen, seen_before, blanks_at}

module _ (s : List ℕ) (id : ℕ) where
  -- nothing is before the first
  pub unseen-none : Unseen s id 0
  unseen-none = record { before = λ j h. absurd (omega arith) }

  -- one entry more
  pub unseen_more : (i : ℕ) → Unseen s id i → name_at s i ≢ id → Unseen s id (i + 1)
  unseen_more i unseen differ = record { before = below_more (λ j. name_at s j ≢ id) i unseen.before differ }

  -- an identifier that some entry before i has is one of theirs
  pub one-there : (i j : ℕ) → j < i → name_at s j ≡ id → is_one_of id (seen_before s i) ≡ true
  unfolding is_one_of seen_before
  one-there zero j h e = absurd (omega arith)
  one-there (suc i) j h e = of (eqb (name_at s i) id) refl (λ l. one-there i j l e)
    where
      of : (b : Bool) → eqb (name_at s i) id ≡ b → (j < i → is_one_of id (seen_before s i) ≡ true) → cond b true (is_one_of id (seen_before s i)) ≡ true
      of true f more = refl
      of false f more =
          let differ : j ≢ i = λ same. eqb-false (name_at s i) id f (rw same at e) in
          more (omega (arith, differ))

  -- and one that none has is not
  pub one_none : (i : ℕ) → Unseen s id i → is_one_of id (seen_before s i) ≡ false
  unfolding is_one_of seen_before
  one_none zero unseen = refl
  one_none (suc i) unseen =
      rw (ne_eqb (name_at s i) id (unseen.before i (omega arith)))
      (one_none i (record { before = λ j h. unseen.before j (omega arith) }))

  -- the entry that was found, of k from entry i on
  pub entry-there : (k i r : ℕ) → Unseen s id r → i ≤ r → r < i + k → name_at s r ≡ id → entry_of id i (blanks_at s k i) ≡ read r (blank_at s (entry_place r))
  unfolding entry_of blanks_at blank_at
  entry-there zero i r unseen l h e = absurd (omega arith)
  entry-there (suc k) i r unseen l h e = of (eqb i r) refl (λ m. entry-there k (i + 1) r unseen (omega arith) (omega arith) e)
    where
      of : (b : Bool) → eqb i r ≡ b → (i < r → entry_of id (i + 1) (blanks_at s k (i + 1)) ≡ read r (blank_at s (entry_place r)))
          → cond (eqb (name_at s i) id) (read i (blank_at s (entry_place i))) (entry_of id (i + 1) (blanks_at s k (i + 1))) ≡ read r (blank_at s (entry_place r))
      of true f more =
          let same : i ≡ r = eqb-true i r f in
          rw (← same) (rw (eq-eqb (name_at s i) id (rw (← same) at e)) refl)
      of false f more =
          let less : i < r = omega (arith, eqb-false i r f) in
          rw (ne_eqb (name_at s i) id (unseen.before i less)) (more less)

  -- and none where none has it
  pub entry-none : (k i r : ℕ) → Unseen s id r → i + k ≤ r → entry_of id i (blanks_at s k i) ≡ refused 64 0
  unfolding entry_of blanks_at blank_at
  entry-none zero i r unseen h = refl
  entry-none (suc k) i r unseen h =
      rw (ne_eqb (name_at s i) id (unseen.before i (omega arith))) (entry-none k (i + 1) r unseen (omega arith))
