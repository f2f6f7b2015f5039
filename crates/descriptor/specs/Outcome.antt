-- What reading comes to: the first refusal with its number and place, or where the reading ended and what was read.
use Rattle.std.specs.Prelude.{Bool, true, false, ℕ}

pub data Outcome (A : Type 0) : Type 0 where
  -- a number of document 01's table and its place
  refused : ℕ → ℕ → Outcome A
  -- the next byte, and what was read
  read : ℕ → A → Outcome A

-- go on after an accepted part
abbrev pub and_then : {A B : Type 0} → Outcome A → (ℕ → A → Outcome B) → Outcome B
and_then (refused number place) next = refused number place
and_then (read at x) next = next at x

-- go on where the test holds, else refuse
abbrev pub require : {A : Type 0} → Bool → ℕ → ℕ → Outcome A → Outcome A
require true number place next = next
require false number place next = refused number place

-- what a question over several inputs comes to
pub data Verdict (A : Type 0) : Type 0 where
  -- the first refusal: its number, the input at fault and its place
  denied : ℕ → ℕ → ℕ → Verdict A
  -- what was asked for
  granted : A → Verdict A

-- From an outcome to an answer: `refuse` is told the first refusal's number, the input at fault and the place; what was read goes on.
-- Nested, it gives document 01's order between inputs.
abbrev pub judge : {A B : Type 0} → (ℕ → ℕ → ℕ → B) → ℕ → Outcome A → (A → B) → B
judge refuse input (refused number place) accept = refuse number input place
judge refuse input (read at x) accept = accept x

-- from a verdict to an answer
abbrev pub settle : {A B : Type 0} → (ℕ → ℕ → ℕ → B) → (A → B) → Verdict A → B
settle refuse accept (denied number input place) = refuse number input place
settle refuse accept (granted x) = accept x
