-- The outcome of a walk as the code hands it on: tokens are counted, not listed.
use Rattle.std.specs.Prelude.{◌≡◌, List, ℕ, ◌+◌, length, Result, Ok, Err}
use Rattle.descriptor.specs.Outcome.{Outcome, refused, read}
use Rattle.descriptor.specs.inner.Steps.{refusal_at}
use Rattle.descriptor.specs.declared.refusal.Refusal.{Refusal}
use Rattle.flattened.specs.Token.{Token}
use Rattle.flattened.specs.inner.Cursor.{cursor}
use Rattle.flattened.specs.declared.cursor.Cursor.{Cursor}
use Rattle.flattened.specs.declared.progress.Walked.{Walked}

abbrev pub walked_to : Cursor → ℕ → Walked
walked_to next tokens = record { next = next; tokens = tokens }

unfoldable pub progress : Outcome (List Token) → Result Walked Refusal
progress (refused number place) = Err (refusal_at number place)
progress (read next ts) = Ok (walked_to (cursor next) (length ts))

-- k tokens more
unfoldable pub plus : ℕ → Result Walked Refusal → Result Walked Refusal
plus k (Err r) = Err r
plus k (Ok w) = Ok (walked_to w.next (k + w.tokens))

-- how many tokens were walked
unfoldable pub tokens_of : Result Walked Refusal → ℕ
tokens_of (Err r) = 0
tokens_of (Ok w) = w.tokens

-- the walk reads up to q, and k tokens
pub record Reads (o : Outcome (List Token)) (q k : ℕ) : Type 0 where
  pub tokens : List Token
  pub eq : o ≡ read q tokens
  pub count : length tokens ≡ k
