-- The walk of data under a type, from document 01, "How data is walked": its tokens, or the first refusal "piece by piece 21, 22, 23" (24 "is
-- no longer given": document 02, CR 2).
-- Every place is "piece start". A byte order is given: the little-endian form is walked "with these words read reversed".
use Rattle.std.specs.Prelude.{Bool, true, ◌&&◌, List, [], ◌∷◌, ◌++◌, ℕ, zero, suc, ◌+◌, ◌*◌, length, leb, ltb, eqb}
use Rattle.descriptor.specs.Tree.{Fields, empty, items, pairs, text, dimensions, members, subtype, Tree, node, Forest, nil, cons}
use Rattle.descriptor.specs.Limits.{data_limit, length_limit}
use Rattle.descriptor.specs.Outcome.{Outcome, read, and_then, require}
use Rattle.descriptor.specs.Width.{width_of}
use Rattle.flattened.specs.Order.{Order, number_at}
use Rattle.flattened.specs.Token.{TokenKind, scalar, string, sizes, Token}

abbrev pub token : TokenKind → ℕ → ℕ → Token
token k a b = record { kind = k; start = a; stop = b }

-- one token, up to `stop`
abbrev pub single : TokenKind → ℕ → ℕ → Outcome (List Token)
single k at stop = read stop (token k at stop ∷ [])

-- a scalar of the code c: 21 where it is cut, then 23 where its number does not fit
unfoldable pub scalar_at : ℕ → List ℕ → ℕ → Bool → Outcome (List Token)
scalar_at c s at fits = require (leb (at + width_of c) (length s)) 21 at (require fits 23 at (single (scalar c) at (at + width_of c)))

-- "A string is a 32-bit length and its characters." 21 for the length word, 22 for the length, 21 for the characters
unfoldable pub text_at : Order → List ℕ → ℕ → Outcome (List Token)
text_at o s at =
    require (leb (at + 4) (length s)) 21 at
    (require (ltb (number_at o s at 4) length_limit) 22 at
    (require (leb (at + 4 + number_at o s at 4) (length s)) 21 at
    (single string at (at + 4 + number_at o s at 4))))

-- the k size words at `at`
unfoldable pub sizes_at : Order → List ℕ → ℕ → ℕ → List ℕ
sizes_at o s zero at = []
sizes_at o s (suc k) at = number_at o s at 4 ∷ sizes_at o s k (at + 4)

-- every size is below 2^31
unfoldable pub sizes_fit : List ℕ → Bool
sizes_fit [] = true
sizes_fit (n ∷ ns) = ltb n length_limit && sizes_fit ns

-- the number of elements: the product of the sizes, however large
unfoldable pub product : List ℕ → ℕ
product [] = 1
product (n ∷ ns) = n * product ns

-- "An array is one 32-bit size for each dimension, then the elements": the size words of k dimensions, 21 where one is missing, then 22;
-- what is read is the number of elements
unfoldable pub array_at : Order → List ℕ → ℕ → ℕ → Outcome ℕ
array_at o s k at =
    require (leb (at + 4 * k) (length s)) 21 at
    (require (sizes_fit (sizes_at o s k at)) 22 at
    (read (at + 4 * k) (product (sizes_at o s k at))))

-- the tokens of one part in front of those of the next, which starts where the first ended
abbrev pub follow : Outcome (List Token) → (ℕ → Outcome (List Token)) → Outcome (List Token)
follow o next = and_then o (λ at ts. and_then (next at) (λ last us. read last (ts ++ us)))

-- n parts, each walked by f from where the one before it ended
unfoldable pub repeat : (ℕ → Outcome (List Token)) → ℕ → ℕ → Outcome (List Token)
repeat f zero at = read at []
repeat f (suc n) at = follow (f at) (λ next. repeat f n next)

-- the data of a descriptor of the code c with the fields b, whose children's data is walked by `inside`
unfoldable pub walk_fields : Order → ℕ → Fields → (ℕ → Outcome (List Token)) → List ℕ → ℕ → Outcome (List Token)
-- a number is as it comes, and a Boolean's byte too: document 02, CR 2, "any byte but zero is true"
walk_fields o c empty inside s at = scalar_at c s at true
-- "An enumeration's number is below its item count (H)."
walk_fields o c (items xs) inside s at = scalar_at c s at (ltb (number_at o s at (width_of c)) (length xs))
walk_fields o c (pairs ps) inside s at = scalar_at c s at true
walk_fields o c text inside s at = text_at o s at
-- "then the elements, last dimension fastest"
walk_fields o c (dimensions k) inside s at =
    and_then (array_at o s k at) (λ next n. and_then (repeat inside n next) (λ last ts. read last (token (sizes k) at next ∷ ts)))
walk_fields o c (members k) inside s at = inside at
-- document 02, CR 1: "its data is that cluster's data"
walk_fields o c subtype inside s at = inside at

unfoldable mutual
  -- the tokens of the type t at `at`
  pub walk : Order → Tree → List ℕ → ℕ → Outcome (List Token)
  walk o (node c b f m) s at = walk_fields o c b (λ p. walk_all o f s p) s at

  -- "A cluster is its members in order." (An array's one element is walked alike.)
  pub walk_all : Order → Forest → List ℕ → ℕ → Outcome (List Token)
  walk_all o nil s at = read at []
  walk_all o (cons t f) s at = follow (walk o t s at) (λ next. walk_all o f s next)

-- "In data: 20, then piece by piece .., then 25", whose place is the first byte left over. The tokens of accepted data.
unfoldable pub walked : Order → Tree → List ℕ → Outcome (List Token)
walked o t s =
    require (leb (length s) data_limit) 20 0
    (and_then (walk o t s 0) (λ q ts. require (eqb q (length s)) 25 q (read q ts)))
