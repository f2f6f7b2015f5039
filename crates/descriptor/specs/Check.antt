-- The check of any bytes as a descriptor, in document 01's order: "1 first. At each descriptor, parent before child: 2 to 7, array in
-- array, then the body: count word missing 8, count 9, the rest missing 8, contents 10. .. Then the children, then 11. Last 12."
-- The descriptor at fault starts at p, which is the place of 2, 3, 4, 6 and 7; those of 5 and 8 to 11 are document 02's, CR 3. `end` is its
-- parent's end and `stop` its own.
use Rattle.std.specs.Prelude.{Bool, false, cond, not, ◌&&◌, ◌||◌, List, [], ◌∷◌, ℕ, zero, suc, ◌+◌, ◌-◌, ◌*◌, ◌%◌, length, get_or, leb, ltb, eqb}
use Rattle.std.proofs.Math.Seq.{slice}
use Rattle.number.specs.Endian.{be}
use Rattle.descriptor.specs.Limits.{descriptor_limit, row_limit, depth_limit, dimension_limit, pair_limit, base_limit, count_limit, high_bit, fixed_word}
use Rattle.descriptor.specs.Codes.{Kind, plain, enumeration, quantity, string, array, cluster, stamp, unknown, kind_of, is_carried, is_array, between}
use Rattle.descriptor.specs.Header.{header_size, code_at, body_at, size_in, code_in}
use Rattle.descriptor.specs.Tree.{Name, unnamed, named, Pair, Fields, empty, items, pairs, text, dimensions, members, subtype, Tree, node, Forest, nil, cons, child_count, row_count}
use Rattle.descriptor.specs.Stamp.{stamp_subtype, inside_fits}
use Rattle.descriptor.specs.Outcome.{Outcome, refused, read, and_then, require}

-- a descriptor's two words: its size and its low code byte
pub record Header : Type 0 where
  pub size : ℕ
  pub code : ℕ

-- 4: "size odd, under 4, or past the parent's end"
abbrev pub size_fits : ℕ → ℕ → Bool
size_fits size room = eqb (size % 2) 0 && (leb header_size size && leb size room)

-- The header of the descriptor at p: 2 to 7, with `levels` left of the depth and n rows before this one; then array in array, judged
-- at the inner array: 10 where the parent is an array. "For 5 the low code byte; .. for array in array the low code byte of the inner array".
-- The next byte is the body's first.
unfoldable pub header_at : List ℕ → ℕ → Bool → ℕ → ℕ → ℕ → Outcome Header
header_at s levels in_array end p n =
    require (leb header_size (end - p)) 2 p
    (require (ltb (size_in s p) high_bit) 3 p
    (require (size_fits (size_in s p) (end - p)) 4 p
    (require (is_carried (kind_of (code_in s p))) 5 (code_at p)
    (require (ltb 0 levels) 6 p
    (require (ltb n row_limit) 7 p
    (require (not (in_array && is_array (kind_of (code_in s p)))) 10 (code_at p)
    (read (body_at p) (record { size = size_in s p; code = code_in s p }))))))))

-- Reading a body that starts at `at`: "count word missing 8, count 9, the rest missing 8"; "for 8 the descriptor's end; for 9 the count word".

-- the count at the body's first word, from 1 to `most`
unfoldable pub count_at : List ℕ → ℕ → ℕ → ℕ → Outcome ℕ
count_at s at stop most =
    require (leb (at + 2) stop) 8 stop
    (require (between 1 most (be s at 2)) 9 at
    (read (at + 2) (be s at 2)))

-- a count, and that many words of four bytes after it
unfoldable pub run_at : List ℕ → ℕ → ℕ → ℕ → Outcome ℕ
run_at s at stop most =
    and_then (count_at s at stop most)
    (λ next k. require (leb (next + 4 * k) stop) 8 stop (read (next + 4 * k) k))

-- one Pascal string of an enumeration: "8 at the first string that runs over"
unfoldable pub item_at : List ℕ → ℕ → ℕ → Outcome (List ℕ)
item_at s stop at =
    require (ltb at stop) 8 stop
    (require (leb (at + 1 + get_or s at 0) stop) 8 stop
    (read (at + 1 + get_or s at 0) (slice (at + 1) (at + 1 + get_or s at 0) s)))

-- k Pascal strings packed, "read in byte order"
unfoldable pub items_at : List ℕ → ℕ → ℕ → ℕ → Outcome (List (List ℕ))
items_at s stop zero at = read at []
items_at s stop (suc k) at =
    and_then (item_at s stop at) (λ next x. and_then (items_at s stop k next) (λ last xs. read last (x ∷ xs)))

-- the k unit pairs at `at`
unfoldable pub pairs_at : List ℕ → ℕ → ℕ → List Pair
pairs_at s zero at = []
pairs_at s (suc k) at = record { base = be s at 2; exponent = be s (at + 2) 2 } ∷ pairs_at s k (at + 4)

-- the fields of a body by its kind, not judged yet; the next byte is the first after them
unfoldable pub fields_read : Kind → List ℕ → ℕ → ℕ → ℕ → Outcome Fields
fields_read plain s p at stop = read at empty
fields_read enumeration s p at stop =
    and_then (count_at s at stop count_limit) (λ next k. and_then (items_at s stop k next) (λ last xs. read last (items xs)))
fields_read quantity s p at stop = and_then (run_at s at stop pair_limit) (λ last k. read last (pairs (pairs_at s k (at + 2))))
fields_read string s p at stop = require (leb (at + 4) stop) 8 stop (read (at + 4) text)
fields_read array s p at stop = and_then (run_at s at stop dimension_limit) (λ last k. read last (dimensions k))
fields_read cluster s p at stop = and_then (count_at s at stop count_limit) (λ last k. read last (members k))
-- document 02, CR 1: "a missing subtype word is 8", "another subtype is 5, judged after 8"
fields_read stamp s p at stop =
    require (leb (at + 2) stop) 8 stop
    (require (eqb (be s at 2) stamp_subtype) 5 (code_at p)
    (read (at + 2) subtype))
-- not reached: a code that is not carried is refused by its header
fields_read unknown s p at stop = refused 5 (code_at p)

-- The contents, 10: "wrong length or dimension word, base index over 8"; "for 10 the first byte of the wrong word or the fill byte".

-- the first of the k entries of four bytes from `at` on that the test refuses is refused
unfoldable pub judged : (ℕ → Bool) → ℕ → ℕ → Outcome (Unit {0})
judged test zero at = read at tt
judged test (suc k) at = require (test at) 10 at (judged test k (at + 4))

-- "a 16-bit base index 0 to 8"
abbrev pub base_fits : List ℕ → ℕ → Bool
base_fits s at = leb (be s at 2) base_limit

-- the word FFFFFFFF
abbrev pub word_fits : List ℕ → ℕ → Bool
word_fits s at = eqb (be s at 4) fixed_word

-- the contents of the body that starts at `at` and has the fields b
unfoldable pub contents_at : List ℕ → ℕ → Fields → Outcome (Unit {0})
contents_at s at empty = read at tt
contents_at s at (items xs) = read at tt
contents_at s at (pairs ps) = judged (base_fits s) (length ps) (at + 2)
contents_at s at text = judged (word_fits s) 1 at
contents_at s at (dimensions k) = judged (word_fits s) k (at + 2)
contents_at s at (members k) = read at tt
contents_at s at subtype = read at tt

-- an enumeration's "one zero byte if the length so far is odd": 10 where it is not zero. (That it is missing, 8, can't happen: the
-- descriptor's start and its end are even.)
unfoldable pub fill_at : List ℕ → ℕ → ℕ → ℕ → Outcome (Unit {0})
fill_at s p stop at =
    cond (eqb ((at - p) % 2) 0)
    (read at tt)
    (require (ltb at stop) 8 stop (require (eqb (get_or s at 0) 0) 10 at (read (at + 1) tt)))

-- the fill after the fields b, which end at `at`; only an enumeration has one
unfoldable pub filled_at : List ℕ → ℕ → ℕ → ℕ → Fields → Outcome (Unit {0})
filled_at s p stop at empty = read at tt
filled_at s p stop at (items xs) = fill_at s p stop at
filled_at s p stop at (pairs ps) = read at tt
filled_at s p stop at text = read at tt
filled_at s p stop at (dimensions k) = read at tt
filled_at s p stop at (members k) = read at tt
filled_at s p stop at subtype = read at tt

-- the fields of the body that starts at `at`, read, judged and filled; the next byte is the first after them
unfoldable pub fields_at : Kind → List ℕ → ℕ → ℕ → ℕ → Outcome Fields
fields_at k s p at stop =
    and_then (fields_read k s p at stop) (λ next b. and_then (contents_at s at b) (λ _ _. and_then (filled_at s p stop next b) (λ last _. read last b)))

-- k descriptors in a row from p on, each read by f, which is told where it stands and how many rows went before
unfoldable pub members_at : (ℕ → ℕ → Outcome Tree) → ℕ → ℕ → ℕ → Outcome Forest
members_at f zero p n = read p nil
members_at f (suc k) p n = and_then (f p n) (λ q t. and_then (members_at f k q (n + row_count t)) (λ r ts. read r (cons t ts)))

-- the name from `at` up to `stop`: nothing, "or one Pascal string with one zero byte after it where needed to make the size even"; else 11,
-- "the first byte after the body"
unfoldable pub name_at : List ℕ → ℕ → ℕ → Outcome Name
name_at s stop at =
    cond (eqb at stop)
    (read at unnamed)
    (require (eqb (at + 1 + get_or s at 0 + (1 + get_or s at 0) % 2) stop) 11 at
    (require (eqb ((1 + get_or s at 0) % 2) 0 || eqb (get_or s (at + 1 + get_or s at 0) 0) 0) 11 at
    (read stop (named (slice (at + 1) (at + 1 + get_or s at 0) s)))))

-- The descriptor at p with the header h, whose body starts at `body`: its fields, then its children, then whether they are a time stamp's,
-- then its name. f reads a child: it is told whether the child stands in an array, its parent's end, its start, and how many rows went before.
-- Of a time stamp, "anything else inside is 10 at the outer start, judged after the inner descriptors and before 11" (document 02, CR 1).
unfoldable pub node_at : List ℕ → (Bool → ℕ → ℕ → ℕ → Outcome Tree) → ℕ → ℕ → ℕ → Header → Outcome Tree
node_at s f p n body h =
    and_then (fields_at (kind_of h.code) s p body (p + h.size))
    (λ at b.
    and_then (members_at (f (is_array (kind_of h.code)) (p + h.size)) (child_count b) at (n + 1))
    (λ next ts.
    require (inside_fits (kind_of h.code) ts) 10 p
    (and_then (name_at s (p + h.size) next) (λ last m. read last (node h.code b ts m)))))

-- The descriptor at p, whose parent ends at `end`, with `levels` left of the depth and n rows before it.
-- "A cluster inside a cluster is read by the same rules, within its parent's end."
unfoldable pub tree_at : ℕ → List ℕ → Bool → ℕ → ℕ → ℕ → Outcome Tree
-- with no level left the header is refused, and the rest is not reached
tree_at zero s in_array end p n = and_then (header_at s zero in_array end p n) (λ body h. node_at s (λ a stop q m. refused 6 q) p n body h)
tree_at (suc d) s in_array end p n =
    and_then (header_at s (suc d) in_array end p n) (λ body h. node_at s (λ a stop q m. tree_at d s a stop q m) p n body h)

-- "1 first .. Last 12", whose place is the top descriptor's size. The tree of an accepted descriptor.
unfoldable pub checked : List ℕ → Outcome Tree
checked s =
    require (leb (length s) descriptor_limit) 1 0
    (and_then (tree_at depth_limit s false (length s) 0 0) (λ q t. require (eqb q (length s)) 12 q (read q t)))
