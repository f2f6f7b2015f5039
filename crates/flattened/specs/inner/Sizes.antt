-- The number of an array's elements as the code counts it: cut at 2^32, which is more than any data holds.
use Rattle.std.specs.Prelude.{ℕ, ◌^◌, min, Result, Ok, Err}
use Rattle.descriptor.specs.Outcome.{Outcome, refused, read}
use Rattle.descriptor.specs.inner.Steps.{refusal_at}
use Rattle.flattened.specs.inner.Cursor.{cursor}
use Rattle.descriptor.specs.declared.refusal.Refusal.{Refusal}
use Rattle.flattened.specs.declared.cursor.Cursor.{Cursor}
use Rattle.flattened.specs.declared.sizes.Sizes.{Sizes}

abbrev pub element_cap : ℕ
element_cap = 2 ^ 32

abbrev pub sizes_of : ℕ → Cursor → Sizes
sizes_of count elements = record { count = count; elements = elements }

-- the outcome of the size words
unfoldable pub capped_sizes : Outcome ℕ → Result Sizes Refusal
capped_sizes (refused number place) = Err (refusal_at number place)
capped_sizes (read next n) = Ok (sizes_of (min n element_cap) (cursor next))
