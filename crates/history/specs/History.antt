-- The simple book that every book is to its user, with no bytes of its own: a capacity, a size, and a list of records under their identifiers,
-- to which an accepted add puts one more at the end. It says every answer, and what every find and list gives.
use Rattle.std.specs.Prelude.{cond, List, [], ◌∷◌, ◌++◌, ℕ, ◌+◌, leb, ltb, eqb, length}
use Rattle.std.proofs.Math.Seq.{slice}
use Rattle.descriptor.specs.Encoding.{Bytes}
use Rattle.descriptor.specs.Outcome.{Outcome, refused, read, and_then, require, Verdict, denied, granted, judge, settle}
use Rattle.descriptor.specs.Answers.{refusal, accepted}
use Rattle.descriptor.specs.declared.answer.Answer.{Answer}
use Rattle.descriptor.specs.Output.{Written, unwritten}
use Rattle.store.specs.Book.{identified, Blank}
use Rattle.store.specs.Layout.{entry_place}
use Rattle.store.specs.Questions.{found, added}

pub data Operation : Type 0 where
  add : List ℕ → List ℕ → Operation

-- what is lent to an operation is bytes
unfoldable pub Lent : List Operation → Type 0
Lent [] = Unit {0}
Lent (add d x ∷ os) = Bytes d × Bytes x × Lent os

-- the answer to an operation on the bytes s, and the bytes after it
abbrev pub answered : List ℕ → Operation → Written
answered s (add d x) = added s d x

-- the bytes after a run of operations
unfoldable pub after : List ℕ → List Operation → List ℕ
after s [] = s
after s (o ∷ os) = after (answered s o).out os

-- the answers to a run of operations
unfoldable pub answers : List ℕ → List Operation → List Answer
answers s [] = []
answers s (o ∷ os) = (answered s o).answer ∷ answers (answered s o).out os

-- an identifier and the record added under it, "a descriptor and its data"
pub record Held : Type 0 where
  pub identifier : ℕ
  pub descriptor : List ℕ
  pub flattened : List ℕ

-- its bytes
abbrev pub held_body : Held → List ℕ
held_body h = h.descriptor ++ h.flattened

-- the records held, as they were lent, in order
unfoldable pub held_records : List Held → List (List ℕ × List ℕ)
held_records [] = []
held_records (h ∷ hs) = (h.descriptor, h.flattened) ∷ held_records hs

-- the records of the operations that were accepted, in order: those whose answer has the number 0
unfoldable pub accepted_records : List Operation → List Answer → List (List ℕ × List ℕ)
accepted_records [] given = []
accepted_records (add d x ∷ os) [] = []
accepted_records (add d x ∷ os) (a ∷ given) = cond (eqb a.number 0) ((d, x) ∷ accepted_records os given) (accepted_records os given)

-- the bytes held under an identifier, or 64
unfoldable pub held_under : ℕ → List Held → Outcome (List ℕ)
held_under id [] = refused 64 0
held_under id (h ∷ hs) = cond (eqb h.identifier id) (read 0 (held_body h)) (held_under id hs)

-- the identifiers held, in order
unfoldable pub held_names : List Held → List ℕ
held_names [] = []
held_names (h ∷ hs) = h.identifier ∷ held_names hs

-- how many bytes the bodies take
unfoldable pub held_size : List Held → ℕ
held_size [] = 0
held_size (h ∷ hs) = length h.descriptor + length h.flattened + held_size hs

-- 60 where the identifier is held, place its number, counted from i
unfoldable pub not_held : ℕ → ℕ → List Held → Outcome (Unit {0})
not_held id i [] = read 0 tt
not_held id i (h ∷ hs) = cond (eqb h.identifier id) (refused 60 i) (not_held id (i + 1) hs)

-- what an operation comes to, of a book of this capacity in n bytes that holds hs, and what is held then: for an add the record's own refusal,
-- 60, 61, 62, or the record at the end
unfoldable pub outcome : ℕ → ℕ → List Held → Operation → Verdict (List Held)
outcome capacity n hs (add d x) =
    settle denied
    (λ id.
    judge denied 4
    (and_then (not_held id 0 hs)
    (λ _ _.
    require (ltb (length hs) capacity) 61 0
    (require (leb (entry_place capacity + held_size hs + (length d + length x)) n) 62 (length d + length x) (read 0 (tt {0})))))
    (λ _. granted (hs ++ (record { identifier = id; descriptor = d; flattened = x } ∷ []))))
    (identified d x)

-- the answer
abbrev pub answer_of : Verdict (List Held) → Answer
answer_of v = settle refusal (λ _. accepted 0) v

-- what is held then: a refused operation changes nothing
abbrev pub held_after : List Held → Verdict (List Held) → List Held
held_after hs v = settle (λ _ _ _. hs) (λ later. later) v

-- what is held after a run of operations
unfoldable pub held : ℕ → ℕ → List Held → List Operation → List Held
held capacity n hs [] = hs
held capacity n hs (o ∷ os) = held capacity n (held_after hs (outcome capacity n hs o)) os

-- the answers that the simple book says
unfoldable pub predictions : ℕ → ℕ → List Held → List Operation → List Answer
predictions capacity n hs [] = []
predictions capacity n hs (o ∷ os) = answer_of (outcome capacity n hs o) ∷ predictions capacity n (held_after hs (outcome capacity n hs o)) os

-- what the records of a book hold
unfoldable pub held_by : List Blank → List Held
held_by [] = []
held_by (r ∷ rs) = record { identifier = r.identifier; descriptor = r.descriptor; flattened = r.flattened } ∷ held_by rs

-- what a find is to give: the bytes held under the identifier, or 64
abbrev pub looked : ℕ → List Held → Written
looked id hs = judge (unwritten []) 4 (held_under id hs) (λ body. record { answer = accepted 0; out = body })

-- what a find gives: its answer and the bytes of its part
abbrev pub finding : List ℕ → ℕ → Written
finding s id = record { answer = (found s id).answer; out = slice (found s id).start ((found s id).start + (found s id).length) s }
