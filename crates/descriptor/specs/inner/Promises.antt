-- What the functions that read a descriptor's parts need and promise, by name.
use Rattle.std.specs.Prelude.{◌≡◌, Bool, List, ℕ, ◌+◌, ◌≤◌, ◌<◌, ◌^◌, length, Result, IfOk}
use Rattle.descriptor.specs.Limits.{row_limit}
use Rattle.descriptor.specs.Header.{header_size, body_at}
use Rattle.descriptor.specs.Tree.{forest_rows}
use Rattle.descriptor.specs.Check.{header_at, members_at, tree_at}
use Rattle.descriptor.specs.inner.Steps.{counted, head_of}
use Rattle.descriptor.specs.declared.refusal.Refusal.{Refusal}
use Rattle.descriptor.specs.declared.step.Step.{Step}
use Rattle.descriptor.specs.declared.header.Head.{Head}

-- No sum of a place and of what a word of 16 bits counts leaves the range of the machine's numbers, and every place is a number of
-- 32 bits: what the arithmetic needs of a list's length.
abbrev pub addressable : ℕ
addressable = 2 ^ 32

-- the bytes from p up to `stop` lie in the list
pub record Within (s : List ℕ) (p stop : ℕ) : Type 0 where
  pub from : p ≤ stop
  pub inside : stop ≤ length s
  pub small : length s < addressable

-- n bytes from p on lie in the list
pub record Run (s : List ℕ) (p n : ℕ) : Type 0 where
  pub inside : p + n ≤ length s
  pub small : length s < addressable

-- where a header is read, its numbers are in range
pub record HeadGood (end p levels n : ℕ) (r : Head) : Type 0 where
  pub level : 0 < levels
  pub room : n < row_limit
  pub least : header_size ≤ r.size
  pub inside : p + r.size ≤ end
  pub body : r.body ≡ body_at p

pub record HeadMet (s : List ℕ) (levels : ℕ) (in_array : Bool) (end p n : ℕ) (r : Result Head Refusal) : Type 0 where
  pub eq : r ≡ head_of (header_at s levels in_array end p n)
  pub good : IfOk r (λ h. HeadGood end p levels n h)

-- descriptors in a row as a step: where they end, and how many rows there are then
abbrev pub row_step : List ℕ → ℕ → Bool → ℕ → ℕ → ℕ → ℕ → Result Step Refusal
row_step s levels in_array end k start n = counted (λ f. n + forest_rows f) (members_at (λ q m. tree_at levels s in_array end q m) k start n)
