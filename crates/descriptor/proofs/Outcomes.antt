-- What holds of an outcome wherever something was read, and what wherever it was refused: a law for each way that outcomes are made. Rests on the
-- definitions alone.
use mathlib.Core.Path.{◌≡◌, refl, subst}
use mathlib.Core.Bool.{Bool, true, false, cond}
use Prim.Native.Nat.{ℕ}
use Rattle.descriptor.specs.Outcome.{Outcome, refused, read, and_then, require, judge}

-- where something was read, P holds of the next byte and of what was read
pub data Holds {A : Type 0} (P : ℕ → A → Type 0) : Outcome A → Type 0 where
  nothing : {number place : ℕ} → Holds P (refused number place)
  reading : {q : ℕ} {x : A} → P q x → Holds P (read q x)

-- what was read is known, and P holds of it
pub found : {A : Type 0} {P : ℕ → A → Type 0} {q : ℕ} {x : A} → P q x → Holds P (read q x)
found h = reading h

-- P holds of what was read
pub holds_read : {A : Type 0} {P : ℕ → A → Type 0} {o : Outcome A} {q : ℕ} {x : A} → o ≡ read q x → Holds P o → P q x
holds_read {A} {P} e h = here (subst (λ (y : Outcome A). Holds P y) e h)
  where
    here : {q : ℕ} {x : A} → Holds P (read q x) → P q x
    here (reading h) = h

-- what follows a test may rest on it
pub holds-require : {A : Type 0} {P : ℕ → A → Type 0} (b : Bool) (number place : ℕ) {o : Outcome A} → (b ≡ true → Holds P o)
    → Holds P (require b number place o)
holds-require true number place h = h refl
holds-require false number place h = nothing

-- each of two cases may rest on the test
pub holds-cond : {A : Type 0} {P : ℕ → A → Type 0} (b : Bool) {o u : Outcome A} → (b ≡ true → Holds P o) → (b ≡ false → Holds P u)
    → Holds P (cond b o u)
holds-cond true h g = h refl
holds-cond false h g = g refl

-- what follows a reading may rest on what holds of it
pub holds-and_then : {A B : Type 0} {P : ℕ → A → Type 0} {Q : ℕ → B → Type 0} {o : Outcome A} {next : ℕ → A → Outcome B} → Holds P o
    → ((q : ℕ) (x : A) → P q x → Holds Q (next q x)) → Holds Q (and_then o next)
holds-and_then nothing g = nothing
holds-and_then (reading h) g = g _ _ h

-- what follows from P wherever P holds
pub holds-weaken : {A : Type 0} {P Q : ℕ → A → Type 0} {o : Outcome A} → Holds P o → ((q : ℕ) (x : A) → P q x → Q q x) → Holds Q o
holds-weaken nothing g = nothing
holds-weaken (reading h) g = reading (g _ _ h)

-- two things that hold, hold together
pub holds-both : {A : Type 0} {P Q : ℕ → A → Type 0} {o : Outcome A} → Holds P o → Holds Q o → Holds (λ q x. P q x × Q q x) o
holds-both nothing nothing = nothing
holds-both (reading h) (reading g) = reading (h, g)

-- an outcome is what was read
pub holds-self : {A : Type 0} (o : Outcome A) → Holds (λ q x. o ≡ read q x) o
holds-self (refused number place) = nothing
holds-self (read q x) = found refl

-- where it was refused, P holds of the number and the place
pub data Refuses {A : Type 0} (P : ℕ → ℕ → Type 0) : Outcome A → Type 0 where
  accepted : {q : ℕ} {x : A} → Refuses P (read q x)
  refusing : {number place : ℕ} → P number place → Refuses P (refused number place)

module _ {P : ℕ → ℕ → Type 0} where
  -- P holds of the refusal
  pub refuses-so : {A : Type 0} {o : Outcome A} {number place : ℕ} → o ≡ refused number place → Refuses P o → P number place
  refuses-so {A} e h = here (subst (λ (y : Outcome A). Refuses P y) e h)
    where
      here : {number place : ℕ} → Refuses {A = A} P (refused number place) → P number place
      here (refusing h) = h

  -- a test: the refusal may rest on it, and so may what follows
  pub refuses-require : {A : Type 0} (b : Bool) (number place : ℕ) {o : Outcome A} → (b ≡ false → P number place) → (b ≡ true → Refuses P o)
      → Refuses P (require b number place o)
  refuses-require true number place g f = f refl
  refuses-require false number place g f = refusing (g refl)

  -- each of two cases may rest on the test
  pub refuses-cond : {A : Type 0} (b : Bool) {o u : Outcome A} → (b ≡ true → Refuses P o) → (b ≡ false → Refuses P u) → Refuses P (cond b o u)
  refuses-cond true f g = f refl
  refuses-cond false f g = g refl

  -- what follows a reading may rest on what holds of it
  pub refuses-then : {A B : Type 0} {Q : ℕ → A → Type 0} {o : Outcome A} {next : ℕ → A → Outcome B} → Holds Q o → Refuses P o
      → ((q : ℕ) (x : A) → Q q x → Refuses P (next q x)) → Refuses P (and_then o next)
  refuses-then nothing (refusing h) g = refusing h
  refuses-then (reading h) accepted g = g _ _ h

  -- where nothing is asked of what was read
  pub refuses-and : {A B : Type 0} {o : Outcome A} {next : ℕ → A → Outcome B} → Refuses P o → ((q : ℕ) (x : A) → Refuses P (next q x))
      → Refuses P (and_then o next)
  refuses-and (refusing h) g = refusing h
  refuses-and accepted g = g _ _

-- what follows from P wherever P holds
pub refuses-weaken : {A : Type 0} {P Q : ℕ → ℕ → Type 0} {o : Outcome A} → Refuses P o → ((number place : ℕ) → P number place → Q number place) → Refuses Q o
refuses-weaken accepted g = accepted
refuses-weaken (refusing h) g = refusing (g _ _ h)

-- what holds of an answer that a reading decides
pub judge-so : {A B : Type 0} (P : B → Type 0) (refuse : ℕ → ℕ → ℕ → B) (input : ℕ) (o : Outcome A) (accept : A → B)
    → ((number place : ℕ) → o ≡ refused number place → P (refuse number input place)) → ((q : ℕ) (x : A) → o ≡ read q x → P (accept x))
    → P (judge refuse input o accept)
judge-so P refuse input (refused number place) accept f g = f number place refl
judge-so P refuse input (read q x) accept f g = g q x refl
