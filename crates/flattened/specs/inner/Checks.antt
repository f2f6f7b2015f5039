-- The answer to a data check in either byte order: what `from_little_endian` refuses is what the check in little-endian order refuses.
use Rattle.std.specs.Prelude.{List, ℕ, length}
use Rattle.descriptor.specs.Outcome.{judge}
use Rattle.descriptor.specs.Check.{checked}
use Rattle.descriptor.specs.Answers.{refusal, accepted}
use Rattle.descriptor.specs.declared.answer.Answer.{Answer}
use Rattle.flattened.specs.Order.{Order}
use Rattle.flattened.specs.Walk.{walked}

unfoldable pub ordered_check : Order → List ℕ → List ℕ → Answer
ordered_check o d s = judge refusal 1 (checked d) (λ t. judge refusal 3 (walked o t s) (λ ts. accepted (length ts)))
