-- The marks that identifiers leave.
use Rattle.std.specs.Prelude.{◌≡◌, Bool, true, false, List, ℕ, ◌<◌, ◌%◌, get_or, replicate}
use Rattle.store.specs.inner.Entries.{name_at}

-- how many there are, and which is an identifier's
abbrev pub mark_count : ℕ
mark_count = 4096

abbrev pub mark_of : ℕ → ℕ
mark_of id = id % mark_count

-- the entries before i have left theirs
pub record Marked (s : List ℕ) (i : ℕ) (marks : List Bool) : Type 0 where
  pub each : (j : ℕ) → j < i → get_or marks (mark_of (name_at s j)) false ≡ true

-- no mark was left
unfoldable pub NoneLeft : List Bool → Type 0
NoneLeft met = met ≡ replicate mark_count false
