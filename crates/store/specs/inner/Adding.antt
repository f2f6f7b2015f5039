-- A record that is added, as the code judges and writes it.
use Rattle.std.specs.Prelude.{◌≡◌, List, ℕ, ◌+◌, ◌^◌, ◌≤◌, ◌<◌, length, Result, Ok, Err}
use Rattle.descriptor.specs.Answers.{accepted, refusal}
use Rattle.descriptor.specs.Output.{unwritten}
use Rattle.descriptor.specs.declared.answer.Answer.{Answer}
use Rattle.store.specs.Book.{Blank, stop_of}
use Rattle.store.specs.Layout.{book_limit, entry_place}
use Rattle.store.specs.Questions.{with_record, added}
use Rattle.store.specs.inner.Entries.{Unseen, FirstWith}
use Rattle.store.specs.inner.Blanks.{blank_of}
use Rattle.store.specs.declared.blank.Blank.{Blank as Lent}

-- the number of the entry after n others, where none of them has this identifier; else 60 and the first that has it
abbrev pub Entered : List ℕ → ℕ → ℕ → Result ℕ Answer → Type 0
Entered s n id (Ok m) = (m ≡ n) × Unseen s id n
Entered s n id (Err a) = FirstWith s n id a.place × (a ≡ refusal 60 4 a.place)

-- the record fits behind the last body, where its own starts, and its entry after n others
pub record Fits (s : List ℕ) (n : ℕ) (r : Blank) : Type 0 where
  pub room : stop_of r ≤ length s
  pub entry : entry_place n + 16 ≤ r.start
  pub short : length s ≤ book_limit

-- and its identifier has the 32 bits that the entry gives it
pub record FitsEntry (s : List ℕ) (n : ℕ) (r : Blank) : Type 0 where
  pub fits : Fits s n r
  pub identifier : r.identifier < 2 ^ 32

-- the record of d and x goes into the book so
pub record Admitted (s d x : List ℕ) (n : ℕ) (r : Blank) : Type 0 where
  pub fits : Fits s n r
  pub is : added s d x ≡ record { answer = accepted 0; out = with_record s n r }

-- under an identifier of 32 bits
pub record AdmittedEntry (s d x : List ℕ) (n : ℕ) (r : Blank) : Type 0 where
  pub admitted : Admitted s d x n r
  pub identifier : r.identifier < 2 ^ 32

-- it does, or is refused
abbrev pub Admits : List ℕ → List ℕ → List ℕ → Result (ℕ × Lent) Answer → Type 0
Admits s d x (Ok r) = AdmittedEntry s d x r.0 (blank_of r.1)
Admits s d x (Err a) = added s d x ≡ unwritten s a.number a.input a.place
