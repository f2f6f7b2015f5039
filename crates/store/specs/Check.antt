-- The check of any bytes as a book, in document 02's order, CR 4: "63, not a well-formed book: place 0 for a buffer under 4 or over 65,536
-- bytes, the capacity if the contents don't fit or more entries are in use than there are, else the first bad entry". What is read is the
-- book.
use Rattle.std.specs.Prelude.{Bool, false, not, ◌&&◌, List, [], ◌∷◌, ℕ, zero, suc, ◌+◌, ◌-◌, leb, eqb, length, replicate}
use Rattle.std.proofs.Math.Seq.{slice}
use Rattle.number.specs.Endian.{be}
use Rattle.descriptor.specs.Outcome.{Outcome, read, and_then, require, Verdict, denied, granted, judge}
use Rattle.descriptor.specs.Answers.{refusal, accepted}
use Rattle.descriptor.specs.declared.answer.Answer.{Answer}
use Rattle.canonical.specs.Equality.{same_chars}
use Rattle.store.specs.Book.{identified, Blank, stop_of, is_one_of, Book}
use Rattle.store.specs.Layout.{book_limit, entry_place, follows}

-- the record that the entry at p speaks of: "identifier, body start in the book, descriptor length, data length"
unfoldable pub blank_at : List ℕ → ℕ → Blank
blank_at s p = record {
  identifier = be s p 4;
  start = be s (p + 4) 4;
  descriptor = slice (be s (p + 4) 4) (be s (p + 4) 4 + be s (p + 8) 4) s;
  flattened = slice (be s (p + 4) 4 + be s (p + 8) 4) (be s (p + 4) 4 + be s (p + 8) 4 + be s (p + 12) 4) s;
}

-- whether an identifier was read, and is this one
unfoldable pub says : ℕ → Verdict ℕ → Bool
says id (denied number input place) = false
says id (granted n) = eqb n id

-- "both accepted. The identifier .. equals its entry's": one is read only where both are accepted
unfoldable pub is_blank : Blank → Bool
is_blank r = says r.identifier (identified r.descriptor r.flattened)

-- whether the entry at p is good, where the body before its own ended at `at` and the identifiers before it are given
unfoldable pub entry_fits : List ℕ → List ℕ → ℕ → ℕ → Bool
entry_fits s seen p at =
    follows at (be s (p + 4) 4)
    && (leb (be s (p + 4) 4 + be s (p + 8) 4 + be s (p + 12) 4) (length s)
    && (is_blank (blank_at s p) && not (is_one_of (be s p 4) seen)))

-- entry i in use; the next byte is the first after its body
unfoldable pub entry_at : List ℕ → List ℕ → ℕ → ℕ → Outcome Blank
entry_at s seen i at = require (entry_fits s seen (entry_place i) at) 63 i (read (stop_of (blank_at s (entry_place i))) (blank_at s (entry_place i)))

-- k entries in use from entry i on
unfoldable pub entries_at : List ℕ → List ℕ → ℕ → ℕ → ℕ → Outcome (List Blank)
entries_at s seen zero i at = read at []
entries_at s seen (suc k) i at =
    and_then (entry_at s seen i at)
    (λ next r. and_then (entries_at s (r.identifier ∷ seen) k (i + 1) next) (λ end rs. read end (r ∷ rs)))

-- "unused ones are zero"
unfoldable pub zero_at : List ℕ → ℕ → Outcome (Unit {0})
zero_at s i = require (same_chars (slice (entry_place i) (entry_place i + 16) s) (replicate 16 0)) 63 i (read i tt)

-- k unused entries from entry i on
unfoldable pub unused_at : List ℕ → ℕ → ℕ → Outcome (Unit {0})
unused_at s zero i = read i tt
unused_at s (suc k) i = and_then (zero_at s i) (λ _ _. unused_at s k (i + 1))

-- the entries of a book whose contents fit: c of them, n in use
unfoldable pub filled : List ℕ → ℕ → ℕ → Outcome Book
filled s c n =
    and_then (entries_at s [] n 0 (entry_place c))
    (λ end rs. and_then (unused_at s (c - n) n) (λ _ _. read end (record { capacity = c; blanks = rs })))

-- the book that the bytes s are; the next byte is the first after its last body
unfoldable pub opened : List ℕ → Outcome Book
opened s =
    require (leb 4 (length s) && leb (length s) book_limit) 63 0
    (require (leb (entry_place (be s 0 2)) (length s) && leb (be s 2 2) (be s 0 2)) 63 (be s 0 2)
    (filled s (be s 0 2) (be s 2 2)))

-- what `store_check` answers
unfoldable pub book_check : List ℕ → Answer
book_check s = judge refusal 4 (opened s) (λ _. accepted 0)
