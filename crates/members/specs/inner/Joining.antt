-- The bytes of members that were picked by number, joined. Where each member's bytes start, and the last one's end, is in a column.
use Rattle.std.specs.Prelude.{List, ℕ, ◌+◌, ◌≤◌, ◌<◌, length, get_or, flat_map}
use Rattle.std.proofs.Math.Seq.{slice}

-- the bytes of member i
abbrev pub start_bytes : List ℕ → List ℕ → ℕ → List ℕ
start_bytes s starts i = slice (get_or starts i 0) (get_or starts (i + 1) 0) s

-- those of the members picked, joined
abbrev pub picked_bytes : List ℕ → List ℕ → List ℕ → List ℕ
picked_bytes s starts picks = flat_map (start_bytes s starts) picks

-- the members picked lie in the data s
pub record Copies (s starts picks : List ℕ) : Type 0 where
  pub order : (j : ℕ) → j < length picks → get_or starts (get_or picks j 0) 0 ≤ get_or starts (get_or picks j 0 + 1) 0
  pub inside : (j : ℕ) → j < length picks → get_or starts (get_or picks j 0 + 1) 0 ≤ length s
