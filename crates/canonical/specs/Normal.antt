-- "The normal form is the same descriptor with every reserved byte zero"; "place is the length written".
use Rattle.std.specs.Prelude.{List, ℕ}
use Rattle.descriptor.specs.Encoding.{encode}
use Rattle.descriptor.specs.Outcome.{judge}
use Rattle.descriptor.specs.Check.{checked}
use Rattle.descriptor.specs.Output.{Written, unwritten, written_to}

-- what `normal_form` answers for the descriptor d, and the output after it
unfoldable pub normal_form : List ℕ → List ℕ → Written
normal_form d out = judge (unwritten out) 1 (checked d) (λ t. written_to out (encode t))
