-- What is asked of a book beside the check, document 02, CR 4: find, list, add. Each gives the answer and every byte after it. "Refusals: first
-- 63 ..; then the record's own; then, in this order, 60 identifier already there, place its entry; 61 no free entry; 62 no room for the
-- body, place its length; find without a match is 64. Places not named are 0."
use Rattle.std.specs.Prelude.{cond, List, [], ◌∷◌, ◌++◌, ℕ, ◌+◌, ◌*◌, leb, ltb, eqb, length, replicate}
use Rattle.std.proofs.Math.Seq.{slice}
use Rattle.std.proofs.lemmas.List.Edits.{sets}
use Rattle.descriptor.specs.Encoding.{word}
use Rattle.descriptor.specs.Outcome.{Outcome, refused, read, and_then, require, judge, settle}
use Rattle.descriptor.specs.Answers.{accepted}
use Rattle.descriptor.specs.Output.{Written, unwritten, written_to}
use Rattle.access.specs.Path.{no_part}
use Rattle.access.specs.declared.part.Part.{Part}
use Rattle.store.specs.Book.{identified, Blank, body_of, body_size, stop_of, Book}
use Rattle.store.specs.Layout.{entry_place, entry_bytes, bodies_end}
use Rattle.store.specs.Check.{opened}

-- the entry with this identifier, counted from i, and its record; 64 where there is none
unfoldable pub entry_of : ℕ → ℕ → List Blank → Outcome Blank
entry_of id i [] = refused 64 0
entry_of id i (r ∷ rs) = cond (eqb r.identifier id) (read i r) (entry_of id (i + 1) rs)

-- the body of a record as a part of the book
abbrev pub body_part : Blank → Part
body_part r = record { answer = accepted 0; start = r.start; length = body_size r }

-- "find one's whole body by identifier as a part of the book": what `store_find` answers
unfoldable pub found : List ℕ → ℕ → Part
found s id = judge no_part 4 (opened s) (λ b. judge no_part 4 (entry_of id 0 b.blanks) body_part)

-- the bytes that `store_body` hands out
abbrev pub found_body : List ℕ → ℕ → List ℕ
found_body s id = slice (found s id).start ((found s id).start + (found s id).length) s

unfoldable pub identifiers : List Blank → List ℕ
identifiers [] = []
identifiers (r ∷ rs) = r.identifier ∷ identifiers rs

-- "list identifiers in entry order as 32-bit numbers (place the count; too few places is 50 with that count, after 63)": what `store_list`
-- answers, and the numbers after it
unfoldable pub listed : List ℕ → List ℕ → Written
listed s out = judge (unwritten out) 4 (opened s) (λ b. written_to out (identifiers b.blanks))

-- "60 identifier already there, place its entry"
unfoldable pub absent : Outcome Blank → Outcome (Unit {0})
absent (refused number place) = read 0 tt
absent (read i r) = refused 60 i

-- whether the record r may stand at the end of the book b in n bytes: 60, 61, 62
unfoldable pub admitted : ℕ → Book → Blank → Outcome (Unit {0})
admitted n b r =
    and_then (absent (entry_of r.identifier 0 b.blanks))
    (λ _ _. require (ltb (length b.blanks) b.capacity) 61 0 (require (leb (stop_of r) n) 62 (body_size r) (read (stop_of r) tt)))

-- "Adding writes the record as lent after the last body and its entry after the last in use, and raises the count by one, nothing else":
-- n entries were in use
unfoldable pub with_record : List ℕ → ℕ → Blank → List ℕ
with_record s n r = sets (sets (sets s r.start (body_of r)) (entry_place n) (entry_bytes r)) 2 (word (n + 1))

-- the record r at the end of the book b, whose layout is s
unfoldable pub entered : List ℕ → Book → Blank → Written
entered s b r =
    judge (unwritten s) 4 (admitted (length s) b r) (λ _. record { answer = accepted 0; out = with_record s (length b.blanks) r })

-- "add a record", of the descriptor d and the data x; "then the record's own" are the refusals of reading its identifier: what `store_add`
-- answers, and the book after it
unfoldable pub added : List ℕ → List ℕ → List ℕ → Written
added s d x =
    judge (unwritten s) 4 (opened s)
    (λ b.
    settle (unwritten s) (λ id. entered s b (record { identifier = id; start = bodies_end b; descriptor = d; flattened = x }))
    (identified d x))

-- a book of this capacity with no record, and its free bytes
unfoldable pub new_book : ℕ → List ℕ → List ℕ
new_book capacity free = word capacity ++ (word 0 ++ (replicate (16 * capacity) 0 ++ free))
