-- A book as the code opens it.
use Rattle.std.specs.Prelude.{◌≡◌, List, ℕ, length, Result, Ok, Err}
use Rattle.descriptor.specs.Outcome.{refused, read}
use Rattle.descriptor.specs.declared.refusal.Refusal.{Refusal}
use Rattle.store.specs.Book.{Book}
use Rattle.store.specs.Check.{opened}
use Rattle.store.specs.declared.open.Book.{Book as Opened}

-- the bytes s are a book, and this much of it is known
pub record Open (s : List ℕ) (b : Opened) : Type 0 where
  pub book : Book
  pub is : opened s ≡ read b.end book
  pub bytes : b.entries.bytes.now ≡ s
  pub count : b.entries.count ≡ length book.blanks
  pub capacity : b.capacity ≡ book.capacity

-- they are, or are refused
abbrev pub Opens : List ℕ → Result Opened Refusal → Type 0
Opens s (Ok b) = Open s b
Opens s (Err r) = opened s ≡ refused r.number r.place
