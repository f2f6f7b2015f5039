-- Where values of one type in a row end, in data that is accepted.
use Rattle.std.specs.Prelude.{◌≡◌, true, false, List, ℕ}
use Rattle.descriptor.specs.Limits.{depth_limit}
use Rattle.descriptor.specs.Outcome.{Outcome}
use Rattle.descriptor.specs.inner.Standing.{is_read, next_of}
use Rattle.flattened.specs.Order.{big}
use Rattle.flattened.specs.Token.{Token}
use Rattle.flattened.specs.Walk.{repeat, walk}
use Rattle.flattened.specs.inner.Arrays.{elements_at}
use Rattle.flattened.specs.inner.Cursor.{cursor}
use Rattle.flattened.specs.inner.Columns.{place_of}
use Rattle.flattened.specs.inner.Types.{type_at, TypeStands, DataAt}
use Rattle.flattened.specs.declared.cursor.Cursor.{Cursor}
use Rattle.flattened.specs.declared.extent.Extent.TheVariants.{Around}

-- the walk of n values of the type at p, the first at `at`
abbrev pub values_at : List ℕ → ℕ → ℕ → List ℕ → ℕ → Outcome (List Token)
values_at d p n s at = repeat (λ a. walk big (type_at d p) s a) n at

-- n values of the type at p are read
pub record Values (d : List ℕ) (p n : ℕ) (s : List ℕ) (at : ℕ) : Type 0 where
  pub type : TypeStands d p depth_limit
  pub bytes : DataAt s at
  pub read : is_read (values_at d p n s at) ≡ true

-- where they end
unfoldable pub past_values : List ℕ → ℕ → ℕ → List ℕ → ℕ → Cursor
past_values d p n s at = cursor (next_of (values_at d p n s at))

-- where n values of so many bytes before and after a string end
abbrev pub around_end : ℕ → ℕ → List ℕ → ℕ → ℕ → ℕ
around_end before after s at n = place_of big s (Around before after 0 false) at n

-- where the array of k dimensions at `at` ends, whose elements are of the type at p
unfoldable pub past_array : List ℕ → ℕ → ℕ → List ℕ → ℕ → Cursor
past_array d p k s at = cursor (next_of (elements_at big k (λ a. walk big (type_at d p) s a) s at))
