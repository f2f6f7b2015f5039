-- How the code goes through an array: its size words, then the elements that it passes in one step, then those that it walks.
use Rattle.std.specs.Prelude.{◌≡◌, Bool, List, ℕ, ◌+◌, ◌-◌, ◌^◌, ◌≤◌, ◌<◌, length, Result, Ok, Err}
use Rattle.descriptor.specs.Limits.{data_limit}
use Rattle.descriptor.specs.Tree.{Tree}
use Rattle.flattened.specs.Order.{Order}
use Rattle.flattened.specs.Walk.{repeat, walk}
use Rattle.flattened.specs.inner.Arrays.{elements_at}
use Rattle.flattened.specs.inner.Extent.{extent_of}
use Rattle.flattened.specs.inner.Columns.{EachKeptHere}
use Rattle.flattened.specs.inner.Cursor.{cursor}
use Rattle.flattened.specs.inner.Progress.{walked_to, progress, plus, Reads}
use Rattle.flattened.specs.declared.extent.Extent.{Extent}
use Rattle.flattened.specs.declared.extent.Extent.TheVariants.{Fixed, Around}
use Rattle.flattened.specs.declared.progress.Walked.{Walked}
use Rattle.flattened.specs.declared.sizes.Sizes.{Sizes}
use Rattle.descriptor.specs.declared.refusal.Refusal.{Refusal}
use Rattle.walking.specs.declared.arrays.Front.{Front}
use Rattle.walking.specs.declared.arrays.Passed.{Passed}

-- the first of n values of the type t that are passed in one step: the walk reads them, with so many bytes and tokens
pub record Passes (o : Order) (t : Tree) (s : List ℕ) (n at : ℕ) (r : Passed) : Type 0 where
  pub most : r.count ≤ n
  pub reads : Reads (repeat (λ a. walk o t s a) r.count at) (at + r.bytes) r.tokens

-- of every type of the extent x, where the first n values keep its rules
abbrev pub PassesIn : Order → Extent → List ℕ → ℕ → ℕ → Passed → Type 0
PassesIn o x s n at r = (t : Tree) → x ≡ extent_of t → EachKeptHere o s t x at n → Passes o t s n at r

-- of w bytes and k tokens, judged or not, in either order
abbrev pub PassesEither : ℕ → ℕ → List ℕ → ℕ → ℕ → Passed → Type 0
PassesEither w k s n at r = (o : Order) (j : Bool) → PassesIn o (Fixed w k j) s n at r

-- of so many bytes before and after a string
abbrev pub PassesAround : Order → ℕ → ℕ → ℕ → List ℕ → ℕ → ℕ → Passed → Type 0
PassesAround o before after k s n at r = (j : Bool) → PassesIn o (Around before after k j) s n at r

abbrev pub passed : ℕ → ℕ → ℕ → Passed
passed count bytes tokens = record { count = count; bytes = bytes; tokens = tokens }

-- some and then others, where the sums fit
abbrev pub Together : Passed → Passed → Type 0
Together a b = (a.count + b.count < 2 ^ 64) × (a.bytes + b.bytes < 2 ^ 64) × (a.tokens + b.tokens < 2 ^ 64)

abbrev pub together : Passed → Passed → Passed
together a b = passed (a.count + b.count) (a.bytes + b.bytes) (a.tokens + b.tokens)

-- elements of an array that are passed lie in the data, with no more tokens than it has bytes
pub record LiesIn (z : Sizes) (q : Passed) : Type 0 where
  pub most : q.count ≤ z.count
  pub inside : z.elements.at + q.bytes ≤ data_limit
  pub tokens : q.tokens ≤ data_limit

-- what is left of the elements, after those passed and the token of the sizes
abbrev pub left_after : Sizes → Passed → Front
left_after z q = record { left = z.count - q.count; walked = walked_to (cursor (z.elements.at + q.bytes)) (1 + q.tokens) }

-- the progress of the whole, where `rest` walks so many elements from a place on
unfoldable pub resumed : Result Front Refusal → (ℕ → ℕ → Result Walked Refusal) → Result Walked Refusal
resumed (Err r) rest = Err r
resumed (Ok f) rest = plus f.walked.tokens (rest f.left f.walked.next.at)

-- the elements that are left start in the data, and no more tokens went before than bytes
unfoldable pub Resumable : List ℕ → Result Front Refusal → Type 0
Resumable s (Err r) = Unit {0}
Resumable s (Ok f) = (f.walked.tokens ≤ f.walked.next.at) × (f.walked.next.at ≤ length s)

pub record FrontMet (o : Order) (k : ℕ) (t : Tree) (s : List ℕ) (at : ℕ) (r : Result Front Refusal) : Type 0 where
  pub eq : progress (elements_at o k (λ a. walk o t s a) s at) ≡ resumed r (λ n a. progress (repeat (λ b. walk o t s b) n a))
  pub within : Resumable s r
