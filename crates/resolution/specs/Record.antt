-- "Record in a reader's shape: the reader's members' bytes joined, in the reader's order." The writer is document 01's rig.
-- "Here and in demand 3 a member stands directly in the top cluster, not deeper."
use Rattle.std.specs.Prelude.{Bool, true, false, not, cond, List, [], ◌∷◌, ◌++◌, ℕ, ◌+◌}
use Rattle.std.proofs.Math.Seq.{slice}
use Rattle.descriptor.specs.Tree.{unnamed, named, Fields, empty, items, pairs, text, dimensions, members, subtype, Tree, node, Forest, nil, cons, tree_size, inside_at}
use Rattle.descriptor.specs.Table.{row_of}
use Rattle.descriptor.specs.Outcome.{Outcome, refused, read, and_then, require, Verdict, denied, granted, judge, settle}
use Rattle.descriptor.specs.Check.{checked}
use Rattle.descriptor.specs.Output.{Written, unwritten, written_to}
use Rattle.descriptor.specs.declared.answer.Row.{Row}
use Rattle.canonical.specs.Equality.{same_chars, same_tree}
use Rattle.flattened.specs.Order.{big}
use Rattle.flattened.specs.Walk.{walk, walked}
use Rattle.resolution.specs.declared.Search.{Search}
use Rattle.resolution.specs.declared.Search.TheVariants.{Missing, Doubled, Found}

-- a member of the rig's cluster: its row, its type, and its bytes in the data, "all that the walk takes for it"
pub record Member : Type 0 where
  pub row : Row
  pub type : Tree
  pub start : ℕ
  pub stop : ℕ

-- the descriptors of a cluster, the first of which stands at `place` of the descriptor and whose data starts at `at`
unfoldable pub members_from : Forest → ℕ → List ℕ → ℕ → Outcome (List Member)
members_from nil place s at = read at []
members_from (cons t f) place s at =
    and_then (walk big t s at)
    (λ next _.
    and_then (members_from f (place + tree_size t) s next)
    (λ last ms. read last (record { row = row_of place 2 t; type = t; start = at; stop = next } ∷ ms)))

-- 41, "rig's top is no cluster", place 0; else its members
unfoldable pub writer_fields : Fields → Forest → List ℕ → Outcome (List Member)
writer_fields empty f s = refused 41 0
writer_fields (items xs) f s = refused 41 0
writer_fields (pairs ps) f s = refused 41 0
writer_fields text f s = refused 41 0
writer_fields (dimensions d) f s = refused 41 0
writer_fields (members k) f s = members_from f (inside_at 0 (members k)) s 0
writer_fields subtype f s = refused 41 0

abbrev pub writer_members : Tree → List ℕ → Outcome (List Member)
writer_members (node c b f m) s = writer_fields b f s

-- whether x is one of the names
unfoldable pub is_among : List ℕ → List (List ℕ) → Bool
is_among x [] = false
is_among x (y ∷ ys) = cond (same_chars x y) true (is_among x ys)

-- the reader's members from number j on, the names of those before it given: 40 where "a member's name is missing, empty or an earlier
-- member's", place the member
unfoldable pub reader_names : List (List ℕ) → ℕ → Forest → Outcome (List (List ℕ))
reader_names seen j nil = read j seen
reader_names seen j (cons (node c b f unnamed) g) = refused 40 j
reader_names seen j (cons (node c b f (named [])) g) = refused 40 j
reader_names seen j (cons (node c b f (named (x ∷ xs))) g) =
    require (not (is_among (x ∷ xs) seen)) 40 j (reader_names ((x ∷ xs) ∷ seen) (j + 1) g)

-- 40, "reader's top is no cluster", place 0; else its members, once their names are right
unfoldable pub reader_fields : Fields → Forest → Outcome Forest
reader_fields empty f = refused 40 0
reader_fields (items xs) f = refused 40 0
reader_fields (pairs ps) f = refused 40 0
reader_fields text f = refused 40 0
reader_fields (dimensions d) f = refused 40 0
reader_fields (members k) f = and_then (reader_names [] 0 f) (λ last _. read last f)
reader_fields subtype f = refused 40 0

abbrev pub reader_members : Tree → Outcome Forest
reader_members (node c b f m) = reader_fields b f

-- "Names match by bytes": whether two members have one name; a member with none matches nothing
unfoldable pub matches : Tree → Tree → Bool
matches (node c b f (named x)) (node d a g (named y)) = same_chars x y
matches (node c b f (named x)) (node d a g unnamed) = false
matches (node c b f unnamed) (node d a g (named y)) = false
matches (node c b f unnamed) (node d a g unnamed) = false

-- the rig's members with the name of the reader's member t
unfoldable pub namesakes : Tree → List Member → List Member
namesakes t [] = []
namesakes t (m ∷ ms) = cond (matches t m.type) (m ∷ namesakes t ms) (namesakes t ms)

-- "A reader's member is missing, found once or doubled when none, one, or several (two or more) of the rig's members have its name."
unfoldable pub searched : List Member → Search
searched [] = Missing
searched (m ∷ []) = Found m.row
searched (m ∷ n ∷ ms) = Doubled

-- document 01's number for what a search finds: "42, 43 .. member missing; found twice or more"; 0 where it is found once
unfoldable pub search_number : Search → ℕ
search_number Missing = 42
search_number Doubled = 43
search_number (Found row) = 0

-- The rig's member that the reader's member t, number j, is read from, given its namesakes: "Only a member found exactly once is compared
-- further"; 44 where "the two members' descriptors are not equal".
unfoldable pub member_found : ℕ → Tree → List Member → Outcome Member
member_found j t [] = refused (search_number (searched [])) j
member_found j t (m ∷ []) = require (same_tree t m.type) 44 j (read m.stop m)
member_found j t (m ∷ n ∷ ms) = refused (search_number (searched (m ∷ n ∷ ms))) j

-- its bytes
unfoldable pub member_bytes : ℕ → Tree → List ℕ → List Member → Outcome (List ℕ)
member_bytes j t s ms = and_then (member_found j t ms) (λ at m. read at (slice m.start m.stop s))

-- "the reader's members' bytes joined, in the reader's order", from member j on; the first member at fault is the refusal
unfoldable pub joined_bytes : ℕ → Forest → List ℕ → List Member → Outcome (List ℕ)
joined_bytes j nil s ms = read j []
joined_bytes j (cons t f) s ms =
    and_then (member_bytes j t s (namesakes t ms)) (λ _ x. and_then (joined_bytes (j + 1) f s ms) (λ last xs. read last (x ++ xs)))

-- What reading the data s of the rig's descriptor w in the shape of the reader's r comes to: the joined bytes, or the first refusal.
-- "Between inputs: rig, reader, data, path, then 40, 41, the reader's members in order"
unfoldable pub record_bytes : List ℕ → List ℕ → List ℕ → Verdict (List ℕ)
record_bytes w r s =
    judge denied 1 (checked w)
    (λ t.
    judge denied 2 (checked r)
    (λ u.
    judge denied 3 (walked big t s)
    (λ _.
    judge denied 2 (reader_members u)
    (λ f. judge denied 1 (writer_members t s) (λ ms. judge denied 2 (joined_bytes 0 f s ms) (λ bytes. granted bytes))))))

-- what `read_record` answers, and the output after it: the record's bytes, then "50"
unfoldable pub resolved : List ℕ → List ℕ → List ℕ → List ℕ → Written
resolved w r s out = settle (unwritten out) (written_to out) (record_bytes w r s)
