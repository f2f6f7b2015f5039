-- "Equal: same tree, same low codes, counts, items, pairs and names. Only the reserved byte is ignored."
use Rattle.std.specs.Prelude.{Bool, true, false, ◌&&◌, List, [], ◌∷◌, ℕ, eqb}
use Rattle.descriptor.specs.Tree.{Name, unnamed, named, Pair, Fields, empty, items, pairs, text, dimensions, members, subtype, Tree, node, Forest, nil, cons, count_of}
use Rattle.descriptor.specs.Outcome.{judge}
use Rattle.descriptor.specs.Check.{checked}
use Rattle.descriptor.specs.Answers.{refusal, accepted}
use Rattle.canonical.specs.declared.Compared.{Compared}

-- the same elements in the same order, by a test of the elements
unfoldable pub same_list : {A : Type 0} → (A → A → Bool) → List A → List A → Bool
same_list f [] [] = true
same_list f [] (y ∷ ys) = false
same_list f (x ∷ xs) [] = false
same_list f (x ∷ xs) (y ∷ ys) = f x y && same_list f xs ys

-- "Names match by bytes"
abbrev pub same_chars : List ℕ → List ℕ → Bool
same_chars x y = same_list eqb x y

-- the same base index and the same exponent, by its bits
abbrev pub same_pair : Pair → Pair → Bool
same_pair x y = eqb x.base y.base && eqb x.exponent y.exponent

-- "An empty name (`0000`) is a name and differs from none."
unfoldable pub same_name : Name → Name → Bool
same_name unnamed unnamed = true
same_name (named x) (named y) = same_chars x y
same_name unnamed (named y) = false
same_name (named x) unnamed = false

-- a body's items, none where it has none
unfoldable pub items_of : Fields → List (List ℕ)
items_of empty = []
items_of (items xs) = xs
items_of (pairs ps) = []
items_of text = []
items_of (dimensions d) = []
items_of (members k) = []
items_of subtype = []

-- a body's pairs, none where it has none
unfoldable pub pairs_of : Fields → List Pair
pairs_of empty = []
pairs_of (items xs) = []
pairs_of (pairs ps) = ps
pairs_of text = []
pairs_of (dimensions d) = []
pairs_of (members k) = []
pairs_of subtype = []

-- "counts, items, pairs"
abbrev pub same_fields : Fields → Fields → Bool
same_fields a b = eqb (count_of a) (count_of b) && (same_list same_chars (items_of a) (items_of b) && same_list same_pair (pairs_of a) (pairs_of b))

unfoldable mutual
  -- "same tree, same low codes, counts, items, pairs and names"
  pub same_tree : Tree → Tree → Bool
  same_tree (node c a f m) (node d b g n) = eqb c d && (same_fields a b && (same_name m n && same_forest f g))

  pub same_forest : Forest → Forest → Bool
  same_forest nil nil = true
  same_forest nil (cons u g) = false
  same_forest (cons t f) nil = false
  same_forest (cons t f) (cons u g) = same_tree t u && same_forest f g

-- "A refusal gives .. "no" for compare"
abbrev pub not_compared : ℕ → ℕ → ℕ → Compared
not_compared number input place = record { answer = refusal number input place; equal = false }

-- the answer for two descriptors: "yes or no", and the place is 0
abbrev pub both_compared : Bool → Compared
both_compared equal = record { answer = accepted 0; equal = equal }

-- what `compare` answers for the descriptors a and b: the first is judged before the second; accepted, the place is 0
unfoldable pub comparison : List ℕ → List ℕ → Compared
comparison a b =
    judge not_compared 1 (checked a) (λ t. judge not_compared 2 (checked b) (λ u. record { answer = accepted 0; equal = same_tree t u }))
