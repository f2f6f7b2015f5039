-- Entries by number, as the code goes through them.
use Rattle.std.specs.Prelude.{◌≡◌, ◌≢◌, List, [], ◌∷◌, ◌++◌, ℕ, zero, suc, ◌+◌, ◌<◌, Option, Some, None, Result, Ok, Err}
use Rattle.number.specs.Endian.{be, be_bytes}
use Rattle.store.specs.Book.{Blank}
use Rattle.store.specs.Layout.{entry_place}
use Rattle.store.specs.Check.{blank_at}
use Rattle.store.specs.declared.entry.Entry.{Entry}

-- what entry i says
abbrev pub entry_in : List ℕ → ℕ → Entry
entry_in s i = record {
  identifier = be s (entry_place i) 4;
  start = be s (entry_place i + 4) 4;
  first = be s (entry_place i + 8) 4;
  second = be s (entry_place i + 12) 4;
}

-- its bytes
abbrev pub entry_spelled : Entry → List ℕ
entry_spelled e = be_bytes 4 e.identifier ++ (be_bytes 4 e.start ++ (be_bytes 4 e.first ++ be_bytes 4 e.second))

-- the identifier of entry i
abbrev pub name_at : List ℕ → ℕ → ℕ
name_at s i = be s (entry_place i) 4

-- no entry before entry i has this identifier
pub record Unseen (s : List ℕ) (id i : ℕ) : Type 0 where
  pub before : (j : ℕ) → j < i → name_at s j ≢ id

-- entry i is the first of n with this identifier
pub record FirstWith (s : List ℕ) (n id i : ℕ) : Type 0 where
  pub within : i < n
  pub there : name_at s i ≡ id
  pub unseen : Unseen s id i

-- the first of n entries with this identifier; none where none has it
abbrev pub Sought : List ℕ → ℕ → ℕ → Option ℕ → Type 0
Sought s n id None = Unseen s id n
Sought s n id (Some i) = FirstWith s n id i

-- the same; else the number of the next entry
abbrev pub Placed : List ℕ → ℕ → ℕ → Result ℕ ℕ → Type 0
Placed s n id (Ok i) = FirstWith s n id i
Placed s n id (Err i) = (i ≡ n) × Unseen s id n

-- the identifiers of the entries before i, the last first
unfoldable pub seen_before : List ℕ → ℕ → List ℕ
seen_before s zero = []
seen_before s (suc i) = name_at s i ∷ seen_before s i

-- the records of k entries from entry i on
unfoldable pub blanks_at : List ℕ → ℕ → ℕ → List Blank
blanks_at s zero i = []
blanks_at s (suc k) i = blank_at s (entry_place i) ∷ blanks_at s k (i + 1)
