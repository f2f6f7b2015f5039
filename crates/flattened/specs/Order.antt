-- The two byte orders that data comes in: "All big-endian", and "The little-endian form".
use Rattle.std.specs.Prelude.{List, ℕ}
use Rattle.number.specs.Endian.{be, le}

pub data Order : Type 0 where
  big : Order
  -- "these words read reversed"
  little : Order

-- the number of n bytes at `at`
unfoldable pub number_at : Order → List ℕ → ℕ → ℕ → ℕ
number_at big s at n = be s at n
number_at little s at n = le s at n
