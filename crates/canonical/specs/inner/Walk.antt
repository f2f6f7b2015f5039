-- What the walks over an accepted descriptor's structure need, and what they come to.
use Rattle.std.specs.Prelude.{◌≡◌, Bool, true, false, List, ◌++◌, ℕ, ◌+◌, ◌≤◌, ◌<◌, length, get_or, set}
use Rattle.std.proofs.Math.Seq.{slice}
use Rattle.descriptor.specs.Header.{reserved_at, reserved_in}
use Rattle.descriptor.specs.Tree.{Tree, node, Forest, nil, cons, tree_size, inside_at, forest_height}
use Rattle.descriptor.specs.Encoding.{forest_with}
use Rattle.descriptor.specs.Outcome.{read}
use Rattle.descriptor.specs.Check.{checked}
use Rattle.descriptor.specs.inner.Promises.{addressable}
use Rattle.descriptor.specs.inner.Standing.{standing_row, is_read, next_of, forest_of}
use Rattle.canonical.specs.Equality.{same_chars}

-- the descriptor is accepted: its end, and its tree
pub record Accepted (s : List ℕ) : Type 0 where
  pub at : ℕ
  pub tree : Tree
  pub eq : checked s ≡ read at tree

-- the bytes from `from` up to `to` lie in a and in b
pub record Both (a b : List ℕ) (from to : ℕ) : Type 0 where
  pub order : from ≤ to
  pub first : to ≤ length a
  pub second : to ≤ length b

-- k descriptors stand in a row in s from `start` on, and end within `stop`; they go no deeper than `levels`
pub record RowInside (s : List ℕ) (k start stop levels : ℕ) : Type 0 where
  pub small : length s < addressable
  pub inside : stop ≤ length s
  pub from : start ≤ stop
  pub row : is_read (standing_row s k start) ≡ true
  pub within : next_of (standing_row s k start) ≤ stop
  pub low : forest_height (forest_of (standing_row s k start)) ≤ levels

-- the same bytes in a and b from `from` up to `to`
unfoldable pub same_run : List ℕ → List ℕ → ℕ → ℕ → Bool
same_run a b from to = same_chars (slice from to b) (slice from to a)

-- what stands in a from `start` up to `stop`, k descriptors and the bytes after them, with b's reserved bytes
unfoldable pub respelled : List ℕ → List ℕ → ℕ → ℕ → ℕ → List ℕ
respelled a b k start stop =
    forest_with (reserved_in b) start (forest_of (standing_row a k start)) ++ slice (next_of (standing_row a k start)) stop a

-- the same bytes in a and b from `start` up to `stop` but for the reserved ones of the k descriptors that stand there
unfoldable pub same_within : List ℕ → List ℕ → ℕ → ℕ → ℕ → Bool
same_within a b k start stop = same_chars (slice start stop b) (respelled a b k start stop)

-- the first n bytes of a and b are the same
pub record SameFront (a b : List ℕ) (n : ℕ) : Type 0 where
  pub within : n ≤ length a
  pub same : slice 0 n a ≡ slice 0 n b

-- and no more of them
pub record FirstDifference (a b : List ℕ) (n : ℕ) : Type 0 where
  pub front : SameFront a b n
  pub differ : n < length a → get_or a n 0 ≡ get_or b n 0 → ⊥

-- where the answer is no, bytes that are not the same as the descriptor's at q are not its bytes with other reserved ones
pub record Telling (a : List ℕ) (q : ℕ) (answer : Bool) : Type 0 where
  pub told : answer ≡ false → (b : List ℕ) → length a ≤ length b → (get_or a q 0 ≡ get_or b q 0 → ⊥) → same_within a b 1 0 (length a) ≡ false

unfoldable mutual
  -- the bytes with zero in the reserved byte of each descriptor of the tree that stands at p
  pub clear_tree : ℕ → Tree → List ℕ → List ℕ
  clear_tree p (node c b f m) out = clear_forest (inside_at p b) f (set out (reserved_at p) 0)

  -- and of descriptors in a row, the first at p
  pub clear_forest : ℕ → Forest → List ℕ → List ℕ
  clear_forest p nil out = out
  clear_forest p (cons t f) out = clear_forest (p + tree_size t) f (clear_tree p t out)
