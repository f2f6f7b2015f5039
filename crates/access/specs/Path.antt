-- "View by a path of steps: a member number in a cluster, a flat element number in an array, counted from 0; the empty path is the whole
-- data; the answer is that part of the lent data, length and size words included."
use Rattle.std.specs.Prelude.{List, [], ◌∷◌, ℕ, zero, suc, ◌+◌, ◌-◌, ltb}
use Rattle.std.proofs.Math.Seq.{slice}
use Rattle.std.specs.Borrow.{Bor}
use Rattle.descriptor.specs.Tree.{Fields, empty, items, pairs, text, dimensions, members, subtype, Tree, node, Forest, nil, cons}
use Rattle.descriptor.specs.Outcome.{Outcome, refused, read, and_then, require, judge}
use Rattle.descriptor.specs.Check.{checked}
use Rattle.descriptor.specs.Answers.{refusal, accepted}
use Rattle.flattened.specs.Order.{big}
use Rattle.flattened.specs.Walk.{array_at, repeat, walk, walk_all, walked}
use Rattle.access.specs.declared.part.Part.{Part}

-- a type, and where its data starts
pub record Spot : Type 0 where
  pub type : Tree
  pub start : ℕ

-- descriptor k of a row whose data starts at `at`; i is the number of the step, the place of 30
unfoldable pub member_at : ℕ → Forest → ℕ → List ℕ → ℕ → Outcome Spot
member_at i nil k s at = refused 30 i
member_at i (cons t f) zero s at = read at (record { type = t; start = at })
member_at i (cons t f) (suc k) s at = and_then (walk big t s at) (λ next _. member_at i f k s next)

-- one step into a type of these fields and children: 30, "step out of range, or on a type without parts"
unfoldable pub step_at : ℕ → Fields → Forest → ℕ → List ℕ → ℕ → Outcome Spot
step_at i empty f k s at = refused 30 i
step_at i (items xs) f k s at = refused 30 i
step_at i (pairs ps) f k s at = refused 30 i
step_at i text f k s at = refused 30 i
step_at i (dimensions d) f k s at =
    and_then (array_at big s d at)
    (λ next n. require (ltb k n) 30 i (and_then (repeat (λ p. walk_all big f s p) k next) (λ start _. member_at i f zero s start)))
step_at i (members n) f k s at = member_at i f k s at
-- document 02, CR 1: "Its one part, step 0, is that cluster"
step_at i subtype f k s at = member_at i f k s at

abbrev pub step_into : ℕ → Tree → ℕ → List ℕ → ℕ → Outcome Spot
step_into i (node c b f m) k s at = step_at i b f k s at

-- the path from here on, i steps having gone before
unfoldable pub spot_at : List ℕ → ℕ → List ℕ → Spot → Outcome Spot
spot_at [] i s x = read x.start x
spot_at (k ∷ ks) i s x = and_then (step_into i x.type k s x.start) (λ _ y. spot_at ks (i + 1) s y)

-- the spot at a path in the data s of the type t
abbrev pub spot_of : List ℕ → Tree → List ℕ → Outcome Spot
spot_of path t s = spot_at path 0 s (record { type = t; start = 0 })

-- a refusal gives "an empty part at the front of the data"
abbrev pub no_part : ℕ → ℕ → ℕ → Part
no_part number input place = record { answer = refusal number input place; start = 0; length = 0 }

-- the part of a spot: from its start up to where the walk of its type ends
unfoldable pub part_of : List ℕ → Spot → Outcome Part
part_of s x =
    and_then (walk big x.type s x.start)
    (λ stop _. read stop (record { answer = accepted 0; start = x.start; length = stop - x.start }))

-- what `locate` answers for the descriptor d, the data s and the path; an accepted view has place 0
unfoldable pub located : List ℕ → List ℕ → List ℕ → Part
located d s path =
    judge no_part 1 (checked d)
    (λ t.
    judge no_part 3 (walked big t s)
    (λ _. judge no_part 4 (and_then (spot_of path t s) (λ _ x. part_of s x)) (λ part. part)))

-- the bytes that `view` hands out
abbrev pub viewed : List ℕ → List ℕ → List ℕ → List ℕ
viewed d s path = slice (located d s path).start ((located d s path).start + (located d s path).length) s

-- byte `start` of lent bytes: their block, and so many bytes on
abbrev pub place_in : Bor (List ℕ) → ℕ → ℕ × ℕ
place_in x start = (x.ref_ptr.0, x.ref_ptr.1 + start)
