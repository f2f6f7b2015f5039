-- The names of the reader's members, as they are judged one after the other.
use Rattle.std.specs.Prelude.{List, [], ◌∷◌, ℕ, zero, suc, ◌<◌, get_or, Result, Ok, Err}
use Rattle.descriptor.specs.declared.refusal.Refusal.{Refusal}
use Rattle.members.specs.inner.Names.{chars_at}

-- each of n members has a name
pub record Naming (n : ℕ) (names : List ℕ) : Type 0 where
  pub some : (j : ℕ) → j < n → 0 < get_or names j 0

-- where the check finds no fault, each of the k members has a name; else the place is one of them
abbrev pub AllNamed : ℕ → List ℕ → Result (Unit {0}) Refusal → Type 0
AllNamed k names (Ok _) = Naming k names
AllNamed k names (Err r) = r.place < k

-- the names of the members before j, the last first
unfoldable pub seen_names : List ℕ → List ℕ → ℕ → List (List ℕ)
seen_names d names zero = []
seen_names d names (suc i) = chars_at d (get_or names i 0) ∷ seen_names d names i
