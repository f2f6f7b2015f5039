-- A column that is filled entry by entry. Rests on the laws of lists alone.
use mathlib.Core.Path.{◌≡◌, ◌∙◌}
use mathlib.Core.List.{List}
use Prim.Native.Nat.{ℕ, ◌+◌, ◌<◌}
use native.Mathlib.Omega.{arith}
use Rattle.std.proofs.Common.{below_more}
use lib.ListN.{length, get_or, set}
use lib.Seq.{get_or-set_same, get_or-set_other}
use Rattle.members.specs.inner.Members.{Column}

-- no entries
pub column-none : (f : ℕ → ℕ) (column : List ℕ) → Column f 0 column
column-none f column = record { at = λ i h. absurd (omega arith) }

-- one more
pub column-more : (f : ℕ → ℕ) (k v : ℕ) (column : List ℕ) → Column f k column → k < length column → v ≡ f k → Column f (k + 1) (set column k v)
column-more f k v column before room e = record {
  at = below_more (λ i. get_or (set column k v) i 0 ≡ f i) k
      (λ i h. get_or-set_other column k i v 0 (λ same. omega arith) ∙ before.at i h)
      (get_or-set_same column k v 0 room ∙ e);
}
