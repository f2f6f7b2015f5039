-- Document 01's "View by a path of steps" and "Value by path" apart from the walk: which value stands at a path inside a value, and what is to
-- be answered of it. All of it is over values and their bytes; nothing here follows how data is walked.
use mathlib.Core.Path.{◌≡◌}
use mathlib.Core.Bool.{true, cond}
use mathlib.Core.List.{List, [], ◌∷◌}
use Prim.Native.Nat.{ℕ, zero, suc, ◌+◌}
use lib.ListN.{length}
use Rattle.descriptor.specs.Tree.{Tree, node, Forest, nil, cons}
use Rattle.flattened.specs.Order.{big}
use Rattle.access.specs.Path.{no_part}
use Rattle.reading.specs.Values.{value_of, is_value, code_of, no_value}
use Rattle.access.specs.declared.part.Part.{Part}
use Rattle.reading.specs.declared.value.Value.{Value as Given}
use Rattle.reading.specs.declared.value.Value.TheVariants.{Nothing}
use Rattle.reading.specs.declared.value.Reading.{Reading}
use Rattle.values.specs.Value.{Value, numbers, characters, elements, parts, Values, none, also, in_order, flatten}
use Rattle.demands.proofs.Parts.{part_from}
use Rattle.demands.proofs.Bits.{given}

-- what stands at a path
pub data Reached : Type 0 where
  -- nothing: the step of this number leads nowhere
  nowhere : ℕ → Reached
  -- a value of this type, and the place where its bytes start
  there : Tree → Value → ℕ → Reached

-- go on from a value
abbrev pub on_from : Reached → (Tree → Value → ℕ → Reached) → Reached
on_from (nowhere i) next = nowhere i
on_from (there t v at) next = next t v at

-- member k of a cluster whose bytes start at `at`; i is the number of the step
unfoldable pub member_in : ℕ → ℕ → Forest → Values → ℕ → Reached
member_in i k nil vs at = nowhere i
member_in i k (cons t f) none at = nowhere i
member_in i zero (cons t f) (also v vs) at = there t v at
member_in i (suc k) (cons t f) (also v vs) at = member_in i k f vs (at + length (flatten big t v))

-- element k of an array whose elements start at `at`, all of the one type
unfoldable pub element_in : ℕ → ℕ → Forest → Values → ℕ → Reached
element_in i k nil vs at = nowhere i
element_in i k (cons e f) none at = nowhere i
element_in i zero (cons e f) (also v vs) at = there e v at
element_in i (suc k) (cons e f) (also v vs) at = element_in i k (cons e f) vs (at + length (flatten big e v))

-- one step: "a member number in a cluster, a flat element number in an array, counted from 0"; no other value has parts
unfoldable pub step_in : ℕ → ℕ → Tree → Value → ℕ → Reached
step_in i k t (numbers ns) at = nowhere i
step_in i k t (characters x) at = nowhere i
step_in i k (node c b f m) (elements ns vs) at = element_in i k f vs (at + length (in_order big 4 ns))
step_in i k (node c b f m) (parts vs) at = member_in i k f vs at

-- the path from here on, i steps having gone before
unfoldable pub reach_from : ℕ → List ℕ → Tree → Value → ℕ → Reached
reach_from i [] t v at = there t v at
reach_from i (k ∷ ks) t v at = on_from (step_in i k t v at) (λ u w start. reach_from (i + 1) ks u w start)

-- what stands at a path in a value of the type t
abbrev pub reach : List ℕ → Tree → Value → Reached
reach p t v = reach_from 0 p t v 0

-- the value of a scalar of the code c: that of its one number, or `Nothing`
unfoldable pub lone_of : ℕ → List ℕ → Given
lone_of c [] = Nothing
lone_of c (n ∷ []) = value_of c n
lone_of c (n ∷ k ∷ ns) = Nothing

-- the number that a value is; `Nothing` where there is "no single number"
unfoldable pub number_in : Tree → Value → Given
number_in t (numbers ns) = lone_of (code_of t) ns
number_in t (characters x) = Nothing
number_in t (elements ns vs) = Nothing
number_in t (parts vs) = Nothing

-- one number of a code that has values stands there, and this is its value
pub data OneNumber : Reached → Given → Type 0 where
  alone : {t : Tree} {n at : ℕ} → is_value (value_of (code_of t) n) ≡ true → OneNumber (there t (numbers (n ∷ [])) at) (value_of (code_of t) n)

-- what `read_value` is to answer: 30, "step out of range, or on a type without parts", with the "step number, from 0"; the number; or 31
unfoldable pub reading_there : Reached → Reading
reading_there (nowhere i) = no_value 30 4 i
reading_there (there t v at) = cond (is_value (number_in t v)) (given (number_in t v)) (no_value 31 4 0)

-- what `locate` is to answer
unfoldable pub part_there : Reached → Part
part_there (nowhere i) = no_part 30 4 i
part_there (there t v at) = part_from at (length (flatten big t v))

-- what `view` is to hand out: the value's bytes, "length and size words included"
unfoldable pub bytes_there : Reached → List ℕ
bytes_there (nowhere i) = []
bytes_there (there t v at) = flatten big t v
