-- Names by their places, as a row has them.
use Rattle.std.specs.Prelude.{Bool, false, List, ℕ, zero, suc, ◌+◌, ◌-◌, ◌≤◌, ◌<◌, length, get_or}
use Rattle.std.proofs.Math.Seq.{slice}
use Rattle.descriptor.specs.Limits.{descriptor_limit, row_limit}
use Rattle.descriptor.specs.Tree.{Name, unnamed, named, Tree, node}
use Rattle.canonical.specs.Equality.{same_chars}

-- a descriptor's name
unfoldable pub name_of : Tree → Name
name_of (node c b f m) = m

-- the characters of the name at x, whose length stands before it
unfoldable pub chars_at : List ℕ → ℕ → List ℕ
chars_at d x = slice x (x + get_or d (x - 1) 0) d

-- the name at x, none where x is 0
unfoldable pub named_at : List ℕ → ℕ → Name
named_at d zero = unnamed
named_at d (suc x) = named (chars_at d (suc x))

-- whether the name has these characters
unfoldable pub has_chars : List ℕ → Name → Bool
has_chars x unnamed = false
has_chars x (named y) = same_chars x y

-- the name at x lies in the bytes
pub record NameFits (d : List ℕ) (x : ℕ) : Type 0 where
  pub within : 0 < x → x + get_or d (x - 1) 0 ≤ length d
  pub short : length d ≤ descriptor_limit

-- the names of the first n members lie in the bytes
pub record NamesLie (d names : List ℕ) (n : ℕ) : Type 0 where
  pub few : n ≤ row_limit
  pub fit : (i : ℕ) → i < n → NameFits d (get_or names i 0)
