-- The answer to a data check: "Data check (place is the piece count)." The descriptor is input 1, the data input 3.
use Rattle.std.specs.Prelude.{List, ℕ, length}
use Rattle.descriptor.specs.Outcome.{judge}
use Rattle.descriptor.specs.Check.{checked}
use Rattle.descriptor.specs.Answers.{refusal, accepted}
use Rattle.descriptor.specs.declared.answer.Answer.{Answer}
use Rattle.flattened.specs.Order.{big}
use Rattle.flattened.specs.Walk.{walked}

-- what `check_data` answers for the descriptor d and the data s
unfoldable pub data_check : List ℕ → List ℕ → Answer
data_check d s = judge refusal 1 (checked d) (λ t. judge refusal 3 (walked big t s) (λ ts. accepted (length ts)))
