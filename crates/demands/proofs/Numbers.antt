-- Which numbers each entry answers with, and with which input: those of document 01's table that are its own. So "24 is no longer given"
-- (document 02, CR 2). The public entries are all but those about books, of which `history` says the same;
-- the header says it of each.
-- Rests on the numbers of refusals of a descriptor and of data, and on what a path and a reader's members meet in data that was walked.
use mathlib.Core.Path.{◌≡◌, refl, subst}
use mathlib.Core.Logic.{◌≢◌}
use mathlib.Core.Bool.{Bool, true, false, not, cond, ◌&&◌, ◌||◌}
use mathlib.Core.List.{List, [], ◌∷◌, ◌++◌}
use Prim.Native.Nat.{ℕ, suc, ◌+◌}
use native.Mathlib.Omega.{arith}
use borrow.Author.Tests.{eqb-true, le-leb}
use lib.Dec.{leb, eqb}
use lib.IntN.{ℤ}
use lib.ListN.{length, drop}
use Rattle.descriptor.specs.Codes.{between}
use Rattle.descriptor.specs.Tree.{unnamed, named, empty, items, pairs, text, dimensions, members, subtype, Tree, node, Forest, nil, cons, inside_at}
use Rattle.descriptor.specs.Encoding.{encode}
use Rattle.descriptor.specs.Outcome.{Outcome, refused, read, and_then, require, Verdict, denied, granted, judge, settle}
use Rattle.descriptor.specs.Check.{checked}
use Rattle.descriptor.specs.Answers.{refusal, accepted, no_rows, descriptor_check}
use Rattle.descriptor.specs.Output.{Written, unwritten, written_to}
use Rattle.descriptor.specs.declared.answer.Answer.{Answer}
use Rattle.descriptor.proofs.Steps.{impossible}
use Rattle.descriptor.proofs.Outcomes.{holds_read, judge-so, Refuses, accepted as reading, refusing, refuses-so, refuses-require, refuses-and}
use Rattle.descriptor.proofs.Sizes.{and-true}
use Rattle.descriptor.proofs.Places.{refused-range}
use Rattle.canonical.specs.Equality.{same_tree, not_compared, comparison}
use Rattle.canonical.specs.Normal.{normal_form}
use Rattle.canonical.specs.declared.Compared.{Compared}
use Rattle.flattened.specs.Order.{Order, big}
use Rattle.flattened.specs.Token.{Token}
use Rattle.flattened.specs.Walk.{walk_fields, walk, walked}
use Rattle.flattened.specs.Answers.{data_check}
use Rattle.flattened.proofs.Refusals.{refused-of-data}
use Rattle.byte_order.specs.Reversal.{reversed, turned}
use Rattle.access.specs.Path.{Spot, spot_of, no_part, part_of, located}
use Rattle.access.specs.declared.part.Part.{Part}
use Rattle.reading.specs.Values.{is_value, value_at, number_of, no_value, read_value}
use Rattle.reading.specs.declared.value.Value.{Value}
use Rattle.reading.specs.declared.value.Reading.{Reading}
use Rattle.resolution.specs.Record.{Member, writer_fields, writer_members, is_among, reader_names, reader_fields, reader_members, searched, search_number, namesakes, member_found, member_bytes, joined_bytes, record_bytes, resolved}
use Rattle.timestamp.specs.Difference.{Time, time_of, less, is_signed, too_far, difference}
use Rattle.demands.proofs.Parts.{Meets, lost, met, lies-here, path-meets}
use Rattle.demands.proofs.Members.{members-listed}
use Rattle.demands.proofs.Resolved.{walked-walk}

-- the numbers from one to another, and the input that they go with
pub data Numbers : Type 0 where
  numbers : ℕ → ℕ → ℕ → Numbers

-- a number and an input are among these
pub data OneOf : List Numbers → ℕ → ℕ → Type 0 where
  here : {low high number input : ℕ} {ns : List Numbers} → between low high number ≡ true → OneOf (numbers low high input ∷ ns) number input
  further : {n : Numbers} {ns : List Numbers} {number input : ℕ} → OneOf ns number input → OneOf (n ∷ ns) number input

-- a number by itself
pub only : {n number input : ℕ} {ns : List Numbers} → number ≡ n → OneOf (numbers n n input ∷ ns) number input
only {n} {number} e = here {low = n} {high = n} {number = number} (rw (e, le-leb n n (omega arith)) refl)

-- an answer is 0 with input 0, or a refusal that is among these
pub data Answered (ns : List Numbers) : Answer → Type 0 where
  accepts : {place : ℕ} → Answered ns (accepted place)
  refuses : {number input place : ℕ} → OneOf ns number input → Answered ns (refusal number input place)

-- the numbers of a descriptor's refusals, by the input that it is; those of data's; and that of an output too small
abbrev pub of_descriptor : ℕ → Numbers
of_descriptor input = numbers 1 12 input

abbrev pub of_walk : List Numbers → List Numbers
of_walk ns = numbers 20 23 3 ∷ numbers 25 25 3 ∷ ns

abbrev pub of_room : Numbers
of_room = numbers 50 50 4

-- a refusal of data is among data's numbers
pub walk-one : {ns : List Numbers} (o : Order) (t : Tree) (s : List ℕ) (number place : ℕ) → walked o t s ≡ refused number place → OneOf (of_walk ns) number 3
walk-one o t s number place e = go (between 20 23 number) refl (refused-of-data s o t number place e)
  where
    go : {ns : List Numbers} (b : Bool) → between 20 23 number ≡ b → (b || eqb number 25) ≡ true → OneOf (of_walk ns) number 3
    go true h k = here h
    go false h k = further (only (eqb-true number 25 k))

-- an output is filled, or refused with 50
pub written-answered : {ns : List Numbers} → OneOf ns 50 4 → (out bytes : List ℕ) → Answered ns (written_to out bytes).answer
unfolding written_to
written-answered {ns} room out bytes = go (leb (length bytes) (length out))
  where
    go : (b : Bool)
        → Answered ns (cond b (record { answer = accepted (length bytes); out = bytes ++ drop (length bytes) out }) (unwritten out 50 4 (length bytes))).answer
    go true = accepts
    go false = refuses room

-- any bytes d as a descriptor
pub check-numbers : (d : List ℕ) → Answered (of_descriptor 1 ∷ []) (descriptor_check d).answer
unfolding descriptor_check
check-numbers d =
    judge-so (λ r. Answered (of_descriptor 1 ∷ []) r.answer) no_rows 1 (checked d) (λ t. _) (λ n p e. refuses (here (refused-range d n p e))) (λ q t e. accepts)

-- two of them
pub compare-numbers : (a b : List ℕ) → Answered (of_descriptor 1 ∷ of_descriptor 2 ∷ []) (comparison a b).answer
unfolding comparison
compare-numbers a b =
    judge-so P not_compared 1 (checked a) (λ t. _) (λ n p e. refuses (here (refused-range a n p e))) (λ q t e.
    judge-so P not_compared 2 (checked b) (λ u. _) (λ n p e. refuses (further (here (refused-range b n p e)))) (λ q u e. accepts))
  where
    P : Compared → Type 0
    P r = Answered (of_descriptor 1 ∷ of_descriptor 2 ∷ []) r.answer

-- the normal form
pub normal-numbers : (d out : List ℕ) → Answered (of_descriptor 1 ∷ of_room ∷ []) (normal_form d out).answer
unfolding normal_form
normal-numbers d out =
    judge-so (λ r. Answered (of_descriptor 1 ∷ of_room ∷ []) r.answer) (unwritten out) 1 (checked d) (λ t. _) (λ n p e. refuses (here (refused-range d n p e)))
    (λ q t e. written-answered (further (here refl)) out (encode t))

-- any bytes s as data of d: `more` are the numbers of what is asked of data that was walked
module _ {B : Type 0} (answer : B → Answer) (refuse : ℕ → ℕ → ℕ → B)
    (same : (number input place : ℕ) → answer (refuse number input place) ≡ refusal number input place) (o : Order) (d s : List ℕ) (more : List Numbers) where
  asked-numbers : (ask : Tree → List Token → B)
      → ((t : Tree) (q : ℕ) (ts : List Token) → walked o t s ≡ read q ts → Answered (of_descriptor 1 ∷ of_walk more) (answer (ask t ts)))
      → Answered (of_descriptor 1 ∷ of_walk more) (answer (judge refuse 1 (checked d) (λ t. judge refuse 3 (walked o t s) (λ ts. ask t ts))))
  asked-numbers ask h =
      judge-so P refuse 1 (checked d) (λ t. _) (λ n p e. denies n 1 p (here (refused-range d n p e))) (λ q t e.
      judge-so P refuse 3 (walked o t s) (λ ts. ask t ts) (λ n p w. denies n 3 p (further (walk-one o t s n p w))) (λ r ts w. h t r ts w))
    where
      P : B → Type 0
      P b = Answered (of_descriptor 1 ∷ of_walk more) (answer b)

      denies : (number input place : ℕ) → OneOf (of_descriptor 1 ∷ of_walk more) number input → P (refuse number input place)
      denies number input place i = rw (same number input place) (refuses i)

pub data-numbers : (d s : List ℕ) → Answered (of_descriptor 1 ∷ of_walk []) (data_check d s)
unfolding data_check
data-numbers d s = asked-numbers (λ a. a) refusal (λ _ _ _. refl) big d s [] (λ t ts. accepted (length ts)) (λ t q ts e. accepts)

-- in either byte order
pub turned-numbers : (o : Order) (d s out : List ℕ) → Answered (of_descriptor 1 ∷ of_walk (of_room ∷ [])) (turned o d s out).answer
unfolding turned
turned-numbers o d s out =
    asked-numbers (λ (w : Written). w.answer) (unwritten out) (λ _ _ _. refl) o d s (of_room ∷ []) (λ t ts. written_to out (reversed s ts))
    (λ t q ts e. written-answered (further (further (further (here refl)))) out (reversed s ts))

-- the spot at a path in data that was walked, or 30
walked-meets : (t : Tree) (s : List ℕ) (q : ℕ) (ts : List Token) → walked big t s ≡ read q ts → (path : List ℕ)
    → (b : ℕ) × Meets s 0 b (spot_of path t s)
walked-meets t s q ts e path =
    let w = (holds_read e (walked-walk t s)).1 in
    (_, path-meets s path 0 (record { type = t; start = 0 }) (lies-here s t 0 q ts (omega arith) w))

-- the part at a path
pub part-numbers : (d s path : List ℕ) → Answered (of_descriptor 1 ∷ of_walk (numbers 30 30 4 ∷ [])) (located d s path).answer
unfolding located part_of
part-numbers d s path =
    asked-numbers (λ (x : Part). x.answer) no_part (λ _ _ _. refl) big d s (numbers 30 30 4 ∷ []) _
    (λ t q ts e. of (walked-meets t s q ts e path).1)
  where
    of : {b : ℕ} {o : Outcome Spot} → Meets s 0 b o
        → Answered (of_descriptor 1 ∷ of_walk (numbers 30 30 4 ∷ [])) (judge no_part 4 (and_then o (λ _ x. part_of s x)) (λ part. part)).answer
    of lost = refuses (further (further (further (here refl))))
    of (met l) = rw l.walks accepts

-- the value at a path
pub value-numbers : (d s path : List ℕ) → Answered (of_descriptor 1 ∷ of_walk (numbers 30 31 4 ∷ [])) (read_value d s path).answer
unfolding read_value number_of
value-numbers d s path =
    asked-numbers (λ (x : Reading). x.answer) no_value (λ _ _ _. refl) big d s (numbers 30 31 4 ∷ []) _
    (λ t q ts e. of (walked-meets t s q ts e path).1)
  where
    given : Value → Reading
    given v = record { answer = accepted 0; value = v }

    single : (at : ℕ) (v : Value) (b : Bool)
        → Answered (of_descriptor 1 ∷ of_walk (numbers 30 31 4 ∷ [])) (judge no_value 4 (require b 31 0 (read at v)) given).answer
    single at v true = accepts
    single at v false = refuses (further (further (further (here refl))))

    of : {b : ℕ} {o : Outcome Spot} → Meets s 0 b o
        → Answered (of_descriptor 1 ∷ of_walk (numbers 30 31 4 ∷ [])) (judge no_value 4 (and_then o (λ _ x. number_of s x)) given).answer
    of lost = refuses (further (further (further (here refl))))
    of (met {y = y} l) = single y.start (value_at s y) (is_value (value_at s y))

-- a reader's descriptor is refused with 40
names-numbers : (f : Forest) (seen : List (List ℕ)) (j : ℕ) → Refuses (λ number place. number ≡ 40) (reader_names seen j f)
unfolding reader_names
names-numbers nil seen j = reading
names-numbers (cons (node c b f unnamed) g) seen j = refusing refl
names-numbers (cons (node c b f (named [])) g) seen j = refusing refl
names-numbers (cons (node c b f (named (x ∷ xs))) g) seen j =
    refuses-require (not (is_among (x ∷ xs) seen)) 40 j (λ _. refl) (λ _. names-numbers g ((x ∷ xs) ∷ seen) (j + 1))

reader-numbers : (u : Tree) → Refuses (λ number place. number ≡ 40) (reader_members u)
unfolding reader_fields
reader-numbers (node c empty f m) = refusing refl
reader-numbers (node c (items xs) f m) = refusing refl
reader-numbers (node c (pairs ps) f m) = refusing refl
reader-numbers (node c text f m) = refusing refl
reader-numbers (node c (dimensions k) f m) = refusing refl
reader-numbers (node c (members k) f m) = refuses-and (names-numbers f [] 0) (λ last _. reading)
reader-numbers (node c subtype f m) = refusing refl

-- a rig's, whose data was walked, with 41
pub writer-numbers : (t : Tree) (s : List ℕ) (q : ℕ) (ts : List Token) → walk big t s 0 ≡ read q ts → Refuses (λ number place. number ≡ 41) (writer_members t s)
unfolding writer_fields walk walk_fields
writer-numbers (node c empty f m) s q ts e = refusing refl
writer-numbers (node c (items xs) f m) s q ts e = refusing refl
writer-numbers (node c (pairs ps) f m) s q ts e = refusing refl
writer-numbers (node c text f m) s q ts e = refusing refl
writer-numbers (node c (dimensions k) f m) s q ts e = refusing refl
writer-numbers (node c (members k) f m) s q ts e = rw (holds_read e (members-listed s f (inside_at 0 (members k)) 0)).1 reading
writer-numbers (node c subtype f m) s q ts e = refusing refl

-- a reader's member with 42, 43 or 44
found-numbers : (j : ℕ) (t : Tree) (ms : List Member) → Refuses (λ number place. between 42 44 number ≡ true) (member_found j t ms)
unfolding member_found search_number searched
found-numbers j t [] = refusing refl
found-numbers j t (m ∷ []) = refuses-require (same_tree t m.type) 44 j (λ _. refl) (λ _. reading)
found-numbers j t (m ∷ n ∷ ms) = refusing refl

pub joined_numbers : (f : Forest) (j : ℕ) (s : List ℕ) (ms : List Member) → Refuses (λ number place. between 42 44 number ≡ true) (joined_bytes j f s ms)
unfolding joined_bytes member_bytes
joined_numbers nil j s ms = reading
joined_numbers (cons t f) j s ms =
    refuses-and (refuses-and (found-numbers j t (namesakes t ms)) (λ at m. reading))
    (λ _ x. refuses-and (joined_numbers f (j + 1) s ms) (λ last xs. reading))

-- the numbers of a record in a reader's shape
abbrev pub of_record : List Numbers
of_record = of_descriptor 1 ∷ of_descriptor 2 ∷ of_walk (numbers 40 40 2 ∷ numbers 41 41 1 ∷ numbers 42 44 2 ∷ of_room ∷ [])

pub record-numbers : (w r s out : List ℕ) → Answered of_record (resolved w r s out).answer
unfolding resolved record_bytes
record-numbers w r s out =
    judge-so P denied 1 (checked w) (λ _. _) (λ n p e. refuses (here (refused-range w n p e))) (λ _ t _.
    judge-so P denied 2 (checked r) (λ _. _) (λ n p e. refuses (further (here (refused-range r n p e)))) (λ _ u _.
    judge-so P denied 3 (walked big t s) (λ _. _) (λ n p e. refuses (further (further (walk-one big t s n p e)))) (λ q ts walks.
    judge-so P denied 2 (reader_members u) (λ _. _) (λ n p e. refuses (past (only (refuses-so e (reader-numbers u))))) (λ _ f _.
    judge-so P denied 1 (writer_members t s) (λ _. _)
    (λ n p e. refuses (past (further (only (refuses-so e (writer-numbers t s q ts (holds_read walks (walked-walk t s)).1)))))) (λ _ ms _.
    judge-so P denied 2 (joined_bytes 0 f s ms) granted (λ n p e. refuses (past (further (further (here (refuses-so e (joined_numbers f 0 s ms))))))) (λ _ xs _.
    written-answered (past (further (further (further (here refl))))) out xs))))))
  where
    P : Verdict (List ℕ) → Type 0
    P v = Answered of_record (settle (unwritten out) (written_to out) v).answer

    -- past the numbers of descriptors and of data
    past : {ns : List Numbers} {number input : ℕ} → OneOf ns number input → OneOf (of_descriptor 1 ∷ of_descriptor 2 ∷ of_walk ns) number input
    past i = further (further (further (further i)))

-- the difference of two time stamps
pub difference-numbers : (a b : ℤ) (c d : ℕ) (e f : ℤ) (g h : ℕ) → Answered (numbers 32 32 4 ∷ []) (difference a b c d e f g h).answer
unfolding difference
difference-numbers a b c d e f g h = go (less (time_of a b c d) (time_of e f g h)) (is_signed (less (time_of a b c d) (time_of e f g h)).seconds)
  where
    go : (x : Time) (k : Bool)
        → Answered (numbers 32 32 4 ∷ []) (cond k (record { answer = accepted 0; seconds = x.seconds; fraction = x.fraction }) too_far).answer
    go x true = accepts
    go x false = refuses (here refl)

-- a number that none of them goes over
unfoldable pub lacks : List Numbers → ℕ → Bool
lacks [] n = true
lacks (numbers low high input ∷ ns) n = not (between low high n) && lacks ns n

-- is not answered
pub never : {ns : List Numbers} (n : ℕ) → lacks ns (suc n) ≡ true → {a : Answer} → Answered ns a → a.number ≢ suc n
unfolding lacks
never n none accepts e = omega arith
never n none (refuses i) e = out i e none
  where
    out : {ns : List Numbers} {number input : ℕ} → OneOf ns number input → number ≡ suc n → lacks ns (suc n) ≡ true → ⊥
    out (here {low} {high} {number} {ns = ns} h) e k = impossible (subst (λ (b : Bool). (not b && lacks ns (suc n)) ≡ true) (subst (λ (x : ℕ). between low high x ≡ true) e h) k)
    out (further {n = numbers low high input} i) e k = out i e (and-true (not (between low high (suc n))) _ k).1

-- "24 is no longer given": whatever bytes, steps and integers they are lent, none of these entries answers with it
pub no-24 : (d r s out path : List ℕ) (o : Order) (a b : ℤ) (c e : ℕ) (f g : ℤ) (h i : ℕ)
    → ((descriptor_check d).answer.number ≢ 24)
    × ((comparison d r).answer.number ≢ 24)
    × ((normal_form d out).answer.number ≢ 24)
    × ((data_check d s).number ≢ 24)
    × ((turned o d s out).answer.number ≢ 24)
    × ((located d s path).answer.number ≢ 24)
    × ((read_value d s path).answer.number ≢ 24)
    × ((resolved d r s out).answer.number ≢ 24)
    × ((difference a b c e f g h i).answer.number ≢ 24)
unfolding lacks
no-24 d r s out path o a b c e f g h i = (
  never 23 refl (check-numbers d),
  never 23 refl (compare-numbers d r),
  never 23 refl (normal-numbers d out),
  never 23 refl (data-numbers d s),
  never 23 refl (turned-numbers o d s out),
  never 23 refl (part-numbers d s path),
  never 23 refl (value-numbers d s path),
  never 23 refl (record-numbers d r s out),
  never 23 refl (difference-numbers a b c e f g h i),
)
