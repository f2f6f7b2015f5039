-- What an output buffer holds after an answer: "A refusal .. writes nothing. On success, output beyond the length written keeps its bytes."
use Rattle.std.specs.Prelude.{cond, List, [], ◌++◌, ℕ, length, take, drop, leb, eqb}
use Rattle.descriptor.specs.Answers.{refusal, accepted}
use Rattle.descriptor.specs.declared.answer.Answer.{Answer}

-- an answer, and what the output holds then
pub record Written : Type 0 where
  pub answer : Answer
  pub out : List ℕ

-- a refusal leaves the output as it was
abbrev pub unwritten : List ℕ → ℕ → ℕ → ℕ → Written
unwritten out number input place = record { answer = refusal number input place; out = out }

-- the bytes at the front of the output; the place is "the length written"; 50, "output too small": "length needed", input 4
unfoldable pub written_to : List ℕ → List ℕ → Written
written_to out bytes =
    cond (leb (length bytes) (length out))
    (record { answer = accepted (length bytes); out = bytes ++ drop (length bytes) out })
    (unwritten out 50 4 (length bytes))

-- "The bytes given are those written, in order; a refusal gives none."
unfoldable pub given : Written → List ℕ
given w = cond (eqb w.answer.number 0) (take w.answer.place w.out) []
