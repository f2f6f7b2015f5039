-- What the definition answers where all its inputs are accepted, by the members' joined bytes. Rests on the laws of the definition for all of
-- the reader's members.
use mathlib.Core.Path.{◌≡◌, refl, sym, ap, ◌∙◌}
use mathlib.Core.Bool.{Bool, true, false}
use mathlib.Core.List.{List, []}
use Prim.Native.Nat.{ℕ, ◌≤◌, ◌<◌}
use native.Mathlib.Omega.{arith}
use borrow.Author.Tests.{leb-true, leb-false, le-leb, lt-leb, eq-eqb, ne_eqb}
use lib.Dec.{leb, eqb}
use lib.ListN.{length, drop}
use lib.Seq.{take-append_seam}
use Rattle.descriptor.specs.Limits.{data_limit}
use Rattle.descriptor.specs.Codes.{kind_of, is_array}
use Rattle.descriptor.specs.Tree.{Name, Tree, node, members, Forest, inside_at}
use Rattle.descriptor.specs.Encoding.{WellFormed, AllWellFormed}
use Rattle.descriptor.specs.Outcome.{Outcome, refused, read, denied, granted, judge, settle}
use Rattle.descriptor.specs.Check.{checked}
use Rattle.descriptor.specs.Output.{unwritten, written_to, given}
use Rattle.descriptor.proofs.Outcomes.{Holds, found, holds-require, holds-and_then, holds-self, holds_read}
use Rattle.flattened.specs.Order.{big}
use Rattle.flattened.specs.Token.{Token}
use Rattle.flattened.specs.Walk.{walk_fields, walk, walk_all, walked}
use Rattle.resolution.specs.Record.{Member, members_from, writer_fields, reader_names, reader_fields, joined_bytes, record_bytes, resolved}
use Rattle.demands.proofs.Accepted.{described-read}
use Rattle.demands.proofs.Shape.{ClusterOf, Rig, front, SameAnswer}
use Rattle.demands.proofs.Members.{Listed, members-listed}

-- an accepted cluster is read as one
pub cluster-read : (d : List ℕ) (f : Forest) (x : ClusterOf d f) → checked d ≡ read (length d) (node x.code (members x.count) f x.name)
cluster-read d f x = described-read d x.described ∙ ap (λ (t : Tree). read (length d) t) x.top

-- its members are well formed
pub cluster-formed : (d : List ℕ) (f : Forest) (x : ClusterOf d f) → AllWellFormed (is_array (kind_of x.code)) f
unfolding WellFormed
cluster-formed d f x = (rw x.top at x.described.limits.formed).inside

-- accepted data is within the limit, and walked to its end
pub walked-walk : (t : Tree) (s : List ℕ) → Holds (λ q ts. (length s ≤ data_limit) × (walk big t s 0 ≡ read q ts)) (walked big t s)
unfolding walked
walked-walk t s =
    holds-require (leb (length s) data_limit) 20 0
    (λ h.
    holds-and_then (holds-self (walk big t s 0)) (λ q ts e. holds-require (eqb q (length s)) 25 q (λ _. found (leb-true _ _ h, e))))

-- and what is so is accepted
pub walk-walked : (t : Tree) (s : List ℕ) (ts : List Token) → length s ≤ data_limit → walk big t s 0 ≡ read (length s) ts
    → walked big t s ≡ read (length s) ts
unfolding walked
walk-walked t s ts h e = rw (le-leb _ _ h, e, eq-eqb (length s) (length s) refl) refl

-- the walk of a rig record goes through its members
pub rig-walk : (w s : List ℕ) (f : Forest) (x : Rig w s f) → walk_all big f s 0 ≡ read x.end x.tokens
unfolding walk walk_fields
rig-walk w s f x = rw x.cluster.top at (holds_read x.accepted (walked-walk x.cluster.described.tree s)).1

-- which are listed
pub rig-members : (w s : List ℕ) (f : Forest) (x : Rig w s f)
    → (ms : List Member) × (members_from f (inside_at 0 (members x.cluster.count)) s 0 ≡ read x.end ms) × Listed s f 0 ms
rig-members w s f x = holds_read (rig-walk w s f x) (members-listed s f _ 0)

-- bytes that fit are written
pub written-fits : (out xs : List ℕ) → length xs ≤ length out → written_to out xs ≡ front out xs
unfolding written_to
written-fits out xs h = rw le-leb refl

-- and bytes that don't are not
pub written-not : (out xs : List ℕ) → length out < length xs → written_to out xs ≡ unwritten out 50 4 (length xs)
unfolding written_to
written-not out xs h = rw lt-leb refl

-- "The bytes given are those written, in order"
pub given-front : (out xs : List ℕ) → given (front out xs) ≡ xs
unfolding given
given-front out xs = take-append_seam xs (drop (length xs) out)

-- "a refusal gives none"
pub given-none : (out : List ℕ) (number input place : ℕ) → 0 < number → given (unwritten out number input place) ≡ []
unfolding given
given-none out number input place h = rw (ne_eqb number 0 (λ e. omega arith)) refl

-- where all inputs are accepted, the answer goes by the members' joined bytes
pub resolved-by : (w r s out : List ℕ) {p q e k c l d last end : ℕ} {f g : Forest} {m n : Name} {ts : List Token} {all : List (List ℕ)} {ms : List Member}
    → checked w ≡ read p (node c (members k) f m) → checked r ≡ read q (node d (members l) g n)
    → walked big (node c (members k) f m) s ≡ read e ts → reader_names [] 0 g ≡ read last all
    → members_from f (inside_at 0 (members k)) s 0 ≡ read end ms
    → resolved w r s out ≡ judge (unwritten out) 2 (joined_bytes 0 g s ms) (λ xs. written_to out xs)
unfolding resolved record_bytes writer_fields reader_fields
resolved-by w r s out {g = g} {ms = ms} ew er es eg ef = rw (ew, er, es, eg, ef) (settled (joined_bytes 0 g s ms))
  where
    settled : (o : Outcome (List ℕ))
        → settle (unwritten out) (written_to out) (judge denied 2 o (λ xs. granted xs)) ≡ judge (unwritten out) 2 o (λ xs. written_to out xs)
    settled (refused number place) = refl
    settled (read at xs) = refl

-- the same refusal, whatever the outputs hold
pub same-refusal : (out out' : List ℕ) (number input place : ℕ) → 0 < number → SameAnswer (unwritten out number input place) (unwritten out' number input place)
same-refusal out out' number input place h = record {
  number = refl;
  input = refl;
  place = refl;
  bytes = given-none out number input place h ∙ sym (given-none out' number input place h);
}

-- the same bytes, in equal room
pub same-written : (out out' xs : List ℕ) → length out ≡ length out' → SameAnswer (written_to out xs) (written_to out' xs)
same-written out out' xs room = fits (leb (length xs) (length out)) refl
  where
    fits : (b : Bool) → leb (length xs) (length out) ≡ b → SameAnswer (written_to out xs) (written_to out' xs)
    fits true e =
        let h : length xs ≤ length out = leb-true _ _ e in
        rw (written-fits out xs h, written-fits out' xs (omega arith))
        (record { number = refl; input = refl; place = refl; bytes = given-front out xs ∙ sym (given-front out' xs) })
    fits false e =
        let h : length out < length xs = leb-false _ _ e in
        rw (written-not out xs h, written-not out' xs (omega arith)) (same-refusal out out' 50 4 (length xs) (omega arith))
