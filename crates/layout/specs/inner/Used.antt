-- How many rows of a table are in use, told from the answer alone.
use Rattle.std.specs.Prelude.{cond, ℕ, eqb}
use Rattle.descriptor.specs.declared.answer.Answer.{Answer}

-- "Descriptor check (the table; place is the row count)"; the input is "0 if accepted", and a refusal has no rows
abbrev pub rows_used : Answer → ℕ
rows_used a = cond (eqb a.input 0) a.place 0
