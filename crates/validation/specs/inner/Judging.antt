-- The words of a body, each judged by a test that the caller gives.
use Rattle.std.specs.Prelude.{◌≡◌, Bool, List, ℕ, ◌+◌}
use Rattle.descriptor.specs.Outcome.{Outcome, read, and_then}
use Rattle.descriptor.specs.Check.{run_at, judged}

-- whatever the closure answers at a place is what the test says there
abbrev pub Tells : (ℕ → Bool) → (ℕ → Bool → Type 0) → Type 0
Tells test post = (at : ℕ) (b : Bool) → post at b → b ≡ test at

-- the part that unit pairs and dimension words share: a count, that many words after it, and the test of each
unfoldable pub words_at : List ℕ → (ℕ → Bool) → ℕ → ℕ → ℕ → Outcome ℕ
words_at s test at stop most = and_then (run_at s at stop most) (λ last k. and_then (judged test k (at + 2)) (λ _ _. read last k))
