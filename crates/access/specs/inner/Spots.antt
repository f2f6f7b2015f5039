-- The spots of accepted data as the code knows them: by the place of the type in the descriptor. The data of a spot is read, and the
-- type goes no deeper than what the steps before it leave.
use Rattle.std.specs.Prelude.{◌≡◌, true, List, ℕ, ◌≤◌, ◌<◌, Result, Ok, Err}
use Rattle.descriptor.specs.Limits.{depth_limit, dimension_limit}
use Rattle.descriptor.specs.Outcome.{Outcome, refused, read}
use Rattle.descriptor.specs.inner.Standing.{is_read}
use Rattle.flattened.specs.Order.{big}
use Rattle.flattened.specs.Walk.{walk, walk_all}
use Rattle.flattened.specs.inner.Arrays.{elements_at}
use Rattle.flattened.specs.inner.Types.{type_at, types_at, TypeStands, RowStands, DataAt}
use Rattle.access.specs.Path.{Spot}
use Rattle.access.specs.declared.spot.Spot.{Spot as CodeSpot}

-- a value of the type at p is read at `at`
pub record Lies (d : List ℕ) (p left : ℕ) (s : List ℕ) (at : ℕ) : Type 0 where
  pub type : TypeStands d p left
  pub bytes : DataAt s at
  pub read : is_read (walk big (type_at d p) s at) ≡ true

-- an array of elements of the type at p
pub record ArrayLies (d : List ℕ) (p dims left : ℕ) (s : List ℕ) (at : ℕ) : Type 0 where
  pub type : TypeStands d p left
  pub few : dims ≤ dimension_limit
  pub bytes : DataAt s at
  pub read : is_read (elements_at big dims (λ a. walk big (type_at d p) s a) s at) ≡ true

-- values of the n types that stand in a row from p on
pub record RowLies (d : List ℕ) (n p left : ℕ) (s : List ℕ) (at : ℕ) : Type 0 where
  pub row : RowStands d n p left
  pub bytes : DataAt s at
  pub read : is_read (walk_all big (types_at d n p) s at) ≡ true

abbrev pub spot : List ℕ → ℕ → ℕ → Spot
spot d p at = record { type = type_at d p; start = at }

-- what the code reached, as the definitions say it: a spot, or the number of the step that leads nowhere
unfoldable pub reached : List ℕ → Result CodeSpot ℕ → Outcome Spot
reached d (Ok x) = read x.start.at (spot d x.place x.start.at)
reached d (Err i) = refused 30 i

-- what is known there
unfoldable pub Known : List ℕ → ℕ → List ℕ → Result CodeSpot ℕ → Type 0
Known d left s (Ok x) = Lies d x.place left s x.start.at
Known d left s (Err i) = i < depth_limit

-- the code reached the spot that the definitions give
pub record Reaches (d : List ℕ) (left : ℕ) (s : List ℕ) (o : Outcome Spot) (r : Result CodeSpot ℕ) : Type 0 where
  pub eq : reached d r ≡ o
  pub known : Known d left s r
