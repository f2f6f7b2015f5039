-- What the cursor's methods give.
use Rattle.std.specs.Prelude.{cond, List, ℕ, ◌+◌, leb, length, Option, Some, None}
use Rattle.flattened.specs.Order.{Order, number_at}
use Rattle.flattened.specs.declared.cursor.Cursor.{Cursor}
use Rattle.flattened.specs.declared.cursor.Word.{Word}

abbrev pub cursor : ℕ → Cursor
cursor at = record { at = at }

abbrev pub word : ℕ → Cursor → Word
word number next = record { number = number; next = next }

-- past n bytes of the data s
unfoldable pub skipped : List ℕ → ℕ → ℕ → Option Cursor
skipped s at n = cond (leb (at + n) (length s)) (Some (cursor (at + n))) None

-- the word at `at`
unfoldable pub word_at : Order → List ℕ → ℕ → Option Word
word_at o s at = cond (leb (at + 4) (length s)) (Some (word (number_at o s at 4) (cursor (at + 4)))) None
