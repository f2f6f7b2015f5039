-- The records that entries speak of, as the code has them.
use Rattle.std.specs.Prelude.{◌≡◌, Bool, true, false, ◌&&◌, List, ℕ, ◌+◌, leb, length, Option, Some, None}
use Rattle.number.specs.Endian.{be}
use Rattle.store.specs.Book.{Blank}
use Rattle.store.specs.Layout.{entry_place, follows}
use Rattle.store.specs.Check.{blank_at, is_blank}
use Rattle.store.specs.declared.blank.Blank.{Blank as Lent}

-- a record whose parts are lent
abbrev pub blank_of : Lent → Blank
blank_of r = record { identifier = r.identifier; start = r.start; descriptor = r.descriptor.now; flattened = r.flattened.now }

-- whether the body of entry i starts where the one before it ended, at `at`, and ends inside s
unfoldable pub body_lies : List ℕ → ℕ → ℕ → Bool
body_lies s i at =
    follows at (be s (entry_place i + 4) 4)
    && leb (be s (entry_place i + 4) 4 + be s (entry_place i + 8) 4 + be s (entry_place i + 12) 4) (length s)

-- whether it is right, too
unfoldable pub body_fits : List ℕ → ℕ → ℕ → Bool
body_fits s i at = body_lies s i at && is_blank (blank_at s (entry_place i))

-- the record of entry i, whose body lies so
pub record Laid (s : List ℕ) (i at : ℕ) (r : Lent) : Type 0 where
  pub lies : body_lies s i at ≡ true
  pub is : blank_of r ≡ blank_at s (entry_place i)

-- none where it does not
abbrev pub Lays : List ℕ → ℕ → ℕ → Option Lent → Type 0
Lays s i at None = body_lies s i at ≡ false
Lays s i at (Some r) = Laid s i at r
