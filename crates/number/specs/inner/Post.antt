-- What the readers of a number promise of their result.
use Rattle.std.specs.Prelude.{◌≡◌, ℕ, ◌<◌}

-- r is the value v, and is below the bound
pub record Bounded (r v bound : ℕ) : Type 0 where
  pub eq : r ≡ v
  pub below : r < bound
