-- A book in bytes, document 02, CR 4: "big-endian", its contents, then the bodies; whatever stands after the last body is free.
use Rattle.std.specs.Prelude.{◌≡◌, Bool, true, List, [], ◌∷◌, ◌++◌, ℕ, ◌+◌, ◌-◌, ◌*◌, ◌≤◌, eqb, length, replicate}
use Rattle.std.proofs.Math.Seq.{slice}
use Rattle.number.specs.Endian.{be_bytes}
use Rattle.descriptor.specs.Encoding.{word}
use Rattle.store.specs.Book.{Blank, body_of, stop_of, Book}

-- "a buffer .. over 65,536 bytes" is no book
abbrev pub book_limit : ℕ
book_limit = 65536

-- where entry i stands, "entries of 16 bytes .. counted from 0"; of the capacity, where the contents end
abbrev pub entry_place : ℕ → ℕ
entry_place i = 4 + 16 * i

-- "identifier, body start in the book, descriptor length, data length, each 32 bits"
unfoldable pub entry_bytes : Blank → List ℕ
entry_bytes r =
    be_bytes 4 r.identifier ++ (be_bytes 4 r.start ++ (be_bytes 4 (length r.descriptor) ++ be_bytes 4 (length r.flattened)))

-- the entries in use
unfoldable pub entries : List Blank → List ℕ
entries [] = []
entries (r ∷ rs) = entry_bytes r ++ entries rs

-- "with no gap": whether a body may start at `start` where the one before it ended at `at`
abbrev pub follows : ℕ → ℕ → Bool
follows at start = eqb at start

-- the body of r stands in s, after `at`
pub record Stands (s : List ℕ) (at : ℕ) (r : Blank) : Type 0 where
  pub after : follows at r.start ≡ true
  pub room : stop_of r ≤ length s
  pub body : slice r.start (stop_of r) s ≡ body_of r

-- the bodies of the records, "in the order of entry", the first after `at`
unfoldable pub Bodies : List ℕ → ℕ → List Blank → Type 0
Bodies s at [] = Unit {0}
Bodies s at (r ∷ rs) = Stands s at r × Bodies s (stop_of r) rs

-- where the last body ends; `at` where there is none
unfoldable pub end_from : ℕ → List Blank → ℕ
end_from at [] = at
end_from at (r ∷ rs) = end_from (stop_of r) rs

-- the first byte after the contents
abbrev pub contents_end : Book → ℕ
contents_end b = entry_place b.capacity

-- the first byte after the last body
abbrev pub bodies_end : Book → ℕ
bodies_end b = end_from (contents_end b) b.blanks

-- the bytes s are the layout of the book b
pub record Laid (b : Book) (s : List ℕ) : Type 0 where
  pub size : length s ≤ book_limit
  pub room : contents_end b ≤ length s
  -- "a 16-bit capacity, a 16-bit count in use, then capacity entries"
  pub capacity : slice 0 2 s ≡ word b.capacity
  pub count : slice 2 4 s ≡ word (length b.blanks)
  -- "entries in use stand first .. and unused ones are zero"
  pub used : slice 4 (entry_place (length b.blanks)) s ≡ entries b.blanks
  pub unused : slice (entry_place (length b.blanks)) (contents_end b) s ≡ replicate (16 * (b.capacity - length b.blanks)) 0
  -- "Bodies follow the contents .. in the order of entry"
  pub bodies : Bodies s (contents_end b) b.blanks
