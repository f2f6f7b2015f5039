-- The answer to a descriptor check: "number, the input at fault .. and a place", and the table.
use Rattle.std.specs.Prelude.{List, [], ℕ}
use Rattle.descriptor.specs.Tree.{row_count}
use Rattle.descriptor.specs.Outcome.{judge}
use Rattle.descriptor.specs.Check.{checked}
use Rattle.descriptor.specs.Table.{rows_of, table_of}
use Rattle.descriptor.specs.declared.answer.Answer.{Answer}
use Rattle.descriptor.specs.declared.answer.Row.{Row}
use Rattle.descriptor.specs.declared.answer.Checked.{Checked}

-- "the input at fault (1 first or rig descriptor, 2 second or reader's descriptor, 3 data, 4 the request; 0 if accepted)"
abbrev pub refusal : ℕ → ℕ → ℕ → Answer
refusal number input place = record { number = number; input = input; place = place }

abbrev pub accepted : ℕ → Answer
accepted place = refusal 0 0 place

-- an answer, and the rows of the descriptors
pub record Tabled : Type 0 where
  pub answer : Answer
  pub rows : List Row

-- a refusal has no rows
abbrev pub no_rows : ℕ → ℕ → ℕ → Tabled
no_rows number input place = record { answer = refusal number input place; rows = [] }

-- what a check of the descriptor d comes to: "Descriptor check (the table; place is the row count)."
unfoldable pub descriptor_check : List ℕ → Tabled
descriptor_check d = judge no_rows 1 (checked d) (λ t. record { answer = accepted (row_count t); rows = rows_of 0 1 t })

-- the same as `check_descriptor` hands it out, with the whole table: "A refusal gives an all-zero table"
abbrev pub with_table : Tabled → Checked
with_table x = record { answer = x.answer; rows = table_of x.rows }
