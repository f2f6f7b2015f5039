-- What a caller finds in the numbers that it lent: an answer in three of them, the table in 256 times seven.
use Rattle.std.specs.Prelude.{Bool, cond, List, [], ◌∷◌, ◌++◌, ℕ}
use Rattle.descriptor.specs.Table.{table_of}
use Rattle.descriptor.specs.declared.answer.Answer.{Answer}
use Rattle.descriptor.specs.declared.answer.Row.{Row}

-- "Each answer has a number, the input at fault .. and a place."
unfoldable pub answer_numbers : Answer → List ℕ
answer_numbers a = a.number ∷ a.input ∷ a.place ∷ []

-- "A row is: low code byte, start, size, depth, count .., name place .., name length."
abbrev pub row_numbers : Row → List ℕ
row_numbers r = r.code ∷ r.start ∷ r.size ∷ r.depth ∷ r.count ∷ r.name_place ∷ r.name_length ∷ []

-- rows one after another
unfoldable pub rows_numbers : List Row → List ℕ
rows_numbers [] = []
rows_numbers (r ∷ rs) = row_numbers r ++ rows_numbers rs

-- the whole table, "256 rows in order of first byte, and rows not used are zero"
abbrev pub table_numbers : List Row → List ℕ
table_numbers rows = rows_numbers (table_of rows)

-- yes is 1 and no is 0
unfoldable pub truth : Bool → ℕ
truth b = cond b 1 0
