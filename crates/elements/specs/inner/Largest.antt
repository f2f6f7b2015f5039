-- The largest of numbers that stand equally far apart, by which numbers that are judged are looked at together.
use Rattle.std.specs.Prelude.{List, ℕ, zero, suc, ◌+◌, ◌*◌, ◌<◌, ◌≤◌, max, length}
use Rattle.flattened.specs.Order.{Order, number_at}

-- of n numbers of w bytes each, the first at `at` and each `step` bytes after the one before it; 0 where there is none
unfoldable pub largest : Order → List ℕ → ℕ → ℕ → ℕ → ℕ → ℕ
largest o s w step at zero = 0
largest o s w step at (suc n) = max (largest o s w step at n) (number_at o s (at + n * step) w)

-- they all lie in s
abbrev pub Apart : List ℕ → ℕ → ℕ → ℕ → ℕ → Type 0
Apart s w step at n = at + n * step + w ≤ length s + step

-- each of them is below a limit
abbrev pub EachLow : ℕ → Order → List ℕ → ℕ → ℕ → ℕ → ℕ → Type 0
EachLow limit o s w step at n = (i : ℕ) → i < n → number_at o s (at + i * step) w < limit
