-- What a blank book is, apart from its bytes and from any check: document 02, CR 4, "One file for a run of blanks".
use Rattle.std.specs.Prelude.{◌≡◌, Bool, true, false, cond, List, [], ◌∷◌, ◌++◌, ℕ, ◌+◌, ◌^◌, ◌≤◌, ◌<◌, eqb, length}
use Rattle.number.specs.Endian.{be}
use Rattle.descriptor.specs.Outcome.{Verdict, denied, granted, settle}
use Rattle.resolution.specs.Record.{record_bytes}

-- "the reader's shape `0010 0050 0001 000A 0007 0562 6C61 6E6B`, one unsigned 32-bit member named "blank""
abbrev pub shape : List ℕ
shape = 0 ∷ 16 ∷ 0 ∷ 80 ∷ 0 ∷ 1 ∷ 0 ∷ 10 ∷ 0 ∷ 7 ∷ 5 ∷ 98 ∷ 108 ∷ 97 ∷ 110 ∷ 107 ∷ []

-- "The identifier is always read from the record with the reader's shape": that of the descriptor d with the data x, or the refusal of the
-- reading
unfoldable pub identified : List ℕ → List ℕ → Verdict ℕ
identified d x = settle denied (λ bytes. granted (be bytes 0 4)) (record_bytes d shape x)

-- a record of a book: its identifier, where its body starts in the book, and the body, "a descriptor and its data"
pub record Blank : Type 0 where
  pub identifier : ℕ
  pub start : ℕ
  pub descriptor : List ℕ
  pub flattened : List ℕ

abbrev pub body_of : Blank → List ℕ
body_of r = r.descriptor ++ r.flattened

-- the body's length
abbrev pub body_size : Blank → ℕ
body_size r = length r.descriptor + length r.flattened

-- the first byte after the body
abbrev pub stop_of : Blank → ℕ
stop_of r = r.start + body_size r

-- "each a descriptor and its data, both accepted. The identifier .. equals its entry's", a number of 32 bits: an identifier is read only where
-- both are accepted
pub record IsBlank (r : Blank) : Type 0 where
  pub own : identified r.descriptor r.flattened ≡ granted r.identifier
  pub fits : r.identifier < 256 ^ 4

-- every record is one
unfoldable pub AllBlanks : List Blank → Type 0
AllBlanks [] = Unit {0}
AllBlanks (r ∷ rs) = IsBlank r × AllBlanks rs

-- whether n is one of the numbers
unfoldable pub is_one_of : ℕ → List ℕ → Bool
is_one_of n [] = false
is_one_of n (m ∷ ms) = cond (eqb m n) true (is_one_of n ms)

-- "stands in one entry only; the second is bad": no identifier is one of those given, nor an earlier record's
unfoldable pub Distinct : List ℕ → List Blank → Type 0
Distinct seen [] = Unit {0}
Distinct seen (r ∷ rs) = (is_one_of r.identifier seen ≡ false) × Distinct (r.identifier ∷ seen) rs

-- "a 16-bit capacity", which the layout's room bounds, and the records in the order of entry
pub record Book : Type 0 where
  pub capacity : ℕ
  pub blanks : List Blank

-- no more records than entries, each of them right, no identifier twice
pub record IsBook (b : Book) : Type 0 where
  pub count : length b.blanks ≤ b.capacity
  pub each : AllBlanks b.blanks
  pub distinct : Distinct [] b.blanks

-- the book with one more record at its end
abbrev pub with_blank : Book → Blank → Book
with_blank b r = record { capacity = b.capacity; blanks = b.blanks ++ (r ∷ []) }
