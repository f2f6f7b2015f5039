-- "The little-endian form has the same layout with the bytes of each number reversed in place: each integer, enumeration, real number,
-- half of a complex number, string length and size word. Booleans and characters stay." The way back reverses the same numbers.
use Rattle.std.specs.Prelude.{cond, List, [], ◌∷◌, ◌++◌, reverse, ℕ, zero, suc, ◌/◌, take, drop}
use Rattle.descriptor.specs.Codes.{is_complex}
use Rattle.descriptor.specs.Outcome.{judge}
use Rattle.descriptor.specs.Check.{checked}
use Rattle.descriptor.specs.Output.{Written, unwritten, written_to}
use Rattle.descriptor.specs.Width.{width_of}
use Rattle.flattened.specs.Order.{Order, big, little}
use Rattle.flattened.specs.Token.{TokenKind, scalar, string, sizes, Token, token_bytes}
use Rattle.flattened.specs.Walk.{walked}

-- the first k numbers of w bytes each, every one reversed in place; what stands after them stays
unfoldable pub reverse_each : ℕ → ℕ → List ℕ → List ℕ
reverse_each w zero x = x
reverse_each w (suc k) x = reverse (take w x) ++ reverse_each w k (drop w x)

-- a scalar of the code c is one number, or the two halves of a complex number
unfoldable pub number_count : ℕ → ℕ
number_count c = cond (is_complex c) 2 1

-- the bytes of each
unfoldable pub number_width : ℕ → ℕ
number_width c = cond (is_complex c) (width_of c / 2) (width_of c)

unfoldable pub reverse_token : TokenKind → List ℕ → List ℕ
reverse_token (scalar c) x = reverse_each (number_width c) (number_count c) x
reverse_token string x = reverse_each 4 1 x
reverse_token (sizes k) x = reverse_each 4 k x

-- the numbers of every token of the data s reversed
unfoldable pub reversed : List ℕ → List Token → List ℕ
reversed s [] = []
reversed s (t ∷ ts) = reverse_token t.kind (token_bytes s t) ++ reversed s ts

-- the data s under the descriptor d, read in the order o and written in the other
unfoldable pub turned : Order → List ℕ → List ℕ → List ℕ → Written
turned o d s out =
    judge (unwritten out) 1 (checked d) (λ t. judge (unwritten out) 3 (walked o t s) (λ ts. written_to out (reversed s ts)))

-- what `to_little_endian` answers, and the output after it
abbrev pub to_little_endian : List ℕ → List ℕ → List ℕ → Written
to_little_endian d s out = turned big d s out

-- What `from_little_endian` answers: "A little-endian buffer is accepted exactly when it is the form of accepted data; its refusals are
-- those of the walk with these words read reversed."
abbrev pub from_little_endian : List ℕ → List ℕ → List ℕ → Written
from_little_endian d s out = turned little d s out
