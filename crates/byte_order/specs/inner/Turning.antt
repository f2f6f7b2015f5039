-- How the code turns numbers from one byte order to the other, each at its own place of the output, and what its functions need.
use Rattle.std.specs.Prelude.{◌≡◌, List, reverse, ℕ, zero, suc, ◌+◌, ◌≤◌, length, take, drop}
use Rattle.std.proofs.lemmas.List.Edits.{sets}

-- the number of w bytes at `at` of s, reversed at the same place of the output
abbrev pub turned_at : ℕ → List ℕ → ℕ → List ℕ → List ℕ
turned_at w s at out = sets out at (reverse (take w (drop at s)))

-- n numbers of w bytes each, the first at `at`
unfoldable pub turned_run : ℕ → List ℕ → ℕ → ℕ → List ℕ → List ℕ
turned_run w s zero at out = out
turned_run w s (suc n) at out = turned_run w s n (at + w) (turned_at w s at out)

-- a number is of one, two, four, eight or sixteen bytes
pub record NumberWide (w : ℕ) : Type 0 where
  pub else : (w ≡ 8 → ⊥) → (w ≡ 4 → ⊥) → (w ≡ 2 → ⊥) → (w ≡ 16 → ⊥) → w ≡ 1

-- the data goes on up to `stop`, and the output has room for all of it
pub record Room (s out : List ℕ) (stop : ℕ) : Type 0 where
  pub inside : stop ≤ length s
  pub room : length s ≤ length out
