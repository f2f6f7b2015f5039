-- What was read, and the parts of what was read: where a whole is read, so is each part of it. Rests on the definitions of outcomes alone.
use mathlib.Core.Path.{◌≡◌, refl, ap, subst}
use mathlib.Core.Bool.{true}
use mathlib.Core.List.{List, ◌++◌}
use Prim.Native.Nat.{ℕ}
use Rattle.descriptor.specs.Outcome.{Outcome, refused, read, and_then}
use Rattle.descriptor.specs.inner.Standing.{is_read, next_of}
use Rattle.descriptor.proofs.Steps.{impossible}
use Rattle.flattened.specs.Token.{Token}
use Rattle.flattened.specs.Walk.{follow}

pub record Got {A : Type 0} (o : Outcome A) : Type 0 where
  pub what : A
  pub eq : o ≡ read (next_of o) what

pub got_read : {A : Type 0} (o : Outcome A) → is_read o ≡ true → Got o
unfolding is_read next_of
got_read (refused number place) e = impossible e
got_read (read q x) e = record { what = x; eq = refl }

-- a reading is one
pub is_read-read : {A : Type 0} {o : Outcome A} {q : ℕ} {x : A} → o ≡ read q x → is_read o ≡ true
unfolding is_read
is_read-read e = ap is_read e

pub next-is : {A : Type 0} {o : Outcome A} {q : ℕ} {x : A} → o ≡ read q x → next_of o ≡ q
unfolding next_of
next-is e = ap next_of e

-- the first part of what was read
pub then-first : {A B : Type 0} (o : Outcome A) (f : ℕ → A → Outcome B) → is_read (and_then o f) ≡ true → is_read o ≡ true
unfolding is_read
then-first (refused number place) f e = e
then-first (read q x) f e = refl

-- and what follows it
pub then-second : {A B : Type 0} (o : Outcome A) (f : ℕ → A → Outcome B) (q : ℕ) (x : A) → o ≡ read q x → is_read (and_then o f) ≡ true → is_read (f q x) ≡ true
then-second {A = A} o f q x h e = subst (λ (u : Outcome A). is_read (and_then u f) ≡ true) h e

-- one walk and the next
pub follow-first : (o : Outcome (List Token)) (g : ℕ → Outcome (List Token)) → is_read (follow o g) ≡ true → is_read o ≡ true
follow-first o g e = then-first o (λ at ts. and_then (g at) (λ last us. read last (ts ++ us))) e

pub follow-second : (o : Outcome (List Token)) (g : ℕ → Outcome (List Token)) → is_read (follow o g) ≡ true → is_read (g (next_of o)) ≡ true
unfolding is_read next_of
follow-second (refused number place) g e = impossible e
follow-second (read q ts) g e = then-first (g q) (λ last us. read last (ts ++ us)) e

-- what follows a reading that nothing is asked of
pub then_next : {A B : Type 0} (o : Outcome A) (g : ℕ → Outcome B) → is_read o ≡ true → and_then o (λ q _. g q) ≡ g (next_of o)
unfolding is_read next_of
then_next (refused number place) g e = impossible e
then_next (read q x) g e = refl

-- and where it ends, if what follows takes nothing
pub then-last : {A B : Type 0} (o : Outcome A) (g : ℕ → A → B) → is_read o ≡ true → next_of (and_then o (λ q x. read q (g q x))) ≡ next_of o
unfolding is_read next_of
then-last (refused number place) g e = impossible e
then-last (read q x) g e = refl
