-- How the code turns accepted data from one byte order to the other: token by token, each at its own place of the output, and what its
-- functions need and promise.
use Rattle.std.specs.Prelude.{◌≡◌, true, List, [], ◌∷◌, ℕ, ◌+◌, ◌*◌, ◌≤◌, length, Ok}
use Rattle.std.proofs.lemmas.List.Edits.{sets}
use Rattle.descriptor.specs.Limits.{data_limit}
use Rattle.descriptor.specs.Outcome.{Outcome, refused, read}
use Rattle.descriptor.specs.inner.Standing.{is_read, next_of}
use Rattle.flattened.specs.Order.{Order}
use Rattle.flattened.specs.Token.{Token, token_bytes}
use Rattle.flattened.specs.Walk.{array_at}
use Rattle.flattened.specs.inner.Cursor.{cursor}
use Rattle.flattened.specs.inner.Sizes.{sizes_of, capped_sizes}
use Rattle.byte_order.specs.Reversal.{reverse_token}
use Rattle.byte_order.specs.inner.Turning.{turned_run, Room}

-- tokens, each at its own place of the output
unfoldable pub turned_tokens : List ℕ → List Token → List ℕ → List ℕ
turned_tokens s [] out = out
turned_tokens s (t ∷ ts) out = turned_tokens s ts (sets out t.start (reverse_token t.kind (token_bytes s t)))

-- the tokens of a walk that was read
unfoldable pub tokens_of : Outcome (List Token) → List Token
tokens_of (refused number place) = []
tokens_of (read next ts) = ts

-- the walk o from `at` on reads, and the output has room for the data
pub record Turnable (o : Outcome (List Token)) (s out : List ℕ) (at : ℕ) : Type 0 where
  pub reads : is_read o ≡ true
  pub here : Room s out at
  pub short : length s ≤ data_limit

-- its tokens are turned, and the next one starts at `next`
pub record Turned (o : Outcome (List Token)) (s before after : List ℕ) (next : ℕ) : Type 0 where
  pub place : next ≡ next_of o
  pub inside : next ≤ length s
  pub bytes : after ≡ turned_tokens s (tokens_of o) before

-- the size words of k dimensions are turned, and n elements follow them, counted as the check counts them
pub record SizesTurned (o : Order) (k : ℕ) (s : List ℕ) (at : ℕ) (before after : List ℕ) (n : ℕ) : Type 0 where
  pub sized : Ok (sizes_of n (cursor (at + 4 * k))) ≡ capped_sizes (array_at o s k at)
  pub bytes : after ≡ turned_run 4 s k at before
