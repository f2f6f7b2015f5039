-- Demand 3, the record in a reader's shape. `resolved` is what the definition answers; the notions are those of Shape, beside the demand.
-- Rests on what the definition comes to where its inputs are accepted, on the laws of the walk's tokens and of walks elsewhere.
use mathlib.Core.Path.{◌≡◌, refl, sym, ap, ◌∙◌}
use mathlib.Core.Logic.{◌≢◌, ◌↔◌}
use mathlib.Core.Bool.{Bool, true, false}
use mathlib.Core.List.{List, ◌++◌}
use Prim.Native.Nat.{ℕ, ◌≤◌, ◌<◌}
use native.Mathlib.Omega.{arith}
use borrow.Author.Tests.{leb-true, leb-false}
use lib.Dec.{leb}
use lib.ListN.{length}
use Rattle.descriptor.specs.Tree.{Tree, Forest}
use Rattle.descriptor.specs.Outcome.{Outcome, refused, read, judge}
use Rattle.descriptor.specs.Output.{Written, unwritten, written_to, given}
use Rattle.descriptor.proofs.Outcomes.{holds_read}
use Rattle.canonical.specs.Equality.{same_tree}
use Rattle.canonical.proofs.Same.{same-tree, same_refl}
use Rattle.flattened.specs.Order.{big}
use Rattle.flattened.specs.Token.{Token}
use Rattle.flattened.specs.Walk.{walk_fields, walk}
use Rattle.resolution.specs.Record.{joined_bytes, resolved}
use Rattle.demands.proofs.Shape.{ClusterOf, Rig, Reader, FirstWrong, Gets, front, SameAnswer, Among, AllRight, Gives, Agree, Refused, for_member, for_room}
use Rattle.demands.proofs.Pieces.{Over}
use Rattle.demands.proofs.Names.{names-read}
use Rattle.demands.proofs.Members.{among-formed, gives_part, gives-over}
use Rattle.demands.proofs.Reading.{Verdict, verdict, joined-gets, joined-wrong, got, wrong, gets-right, right-wrong, wrong-number, joined-agree}
use Rattle.demands.proofs.Given.{gets-walked, gets-length}
use Rattle.demands.proofs.Resolved.{cluster-formed, walked-walk, walk-walked, rig-walk, rig-members, written-fits, written-not, given-front, same-refusal, same-written, cluster-read, resolved-by}

-- members of two accepted clusters are equal by document 01's rule exactly when they are one tree
pub equal-types : (d e : List ℕ) (f g : Forest) (x : ClusterOf d f) (y : ClusterOf e g) (t u : Tree) → Among t f → Among u g
    → (same_tree t u ≡ true) ↔ (t ≡ u)
equal-types d e f g x y t u i j = (
  λ same. same-tree t u _ _ (among-formed _ i (cluster-formed d f x)) (among-formed _ j (cluster-formed e g y)) same,
  λ same. ap (λ (v : Tree). same_tree t v) (sym same) ∙ same_refl t,
)

-- any rig record
module _ (w s : List ℕ) (f : Forest) (rig : Rig w s f) where
  -- the tokens that the walk gives a member stand together among the tokens of the data
  pub member-tokens : (u : Tree) (ts : List Token) → Gives s u ts f 0
      → (before : List Token) × (rest : List Token) × (rig.tokens ≡ before ++ (ts ++ rest))
  member-tokens u ts x = holds_read (rig-walk w s f rig) (gives_part x)

  -- "Its bytes are all that the walk takes for it": the tokens' bytes are the data from where its walk starts up to where it ends
  pub member-slice : (u : Tree) (ts : List Token) → Gives s u ts f 0
      → (start : ℕ) × (stop : ℕ) × (walk big u s start ≡ read stop ts) × Over s start stop ts
  member-slice u ts x = gives-over (omega arith) x

-- any rig record, any reader's descriptor
module _ (w s : List ℕ) (f : Forest) (rig : Rig w s f) (r : List ℕ) (g : Forest) (reader : Reader r g) where
  -- what the definition joins
  joined-record : Outcome (List ℕ)
  joined-record = joined_bytes 0 g s (rig-members w s f rig).0

  joined-read : (xs : List ℕ) → Gets s f g xs → (last : ℕ) × (joined-record ≡ read last xs)
  unfolding joined-record
  joined-read xs x = joined-gets (rig-members w s f rig).2 reader.names x 0

  joined-refused : (number place : ℕ) → FirstWrong f 0 g number place → joined-record ≡ refused number place
  unfolding joined-record
  joined-refused number place x =
      joined-wrong s (rig-members w s f rig).2 _ (cluster-formed w f rig.cluster) _ reader.names (cluster-formed r g reader.cluster) x

  resolved-joined : (out : List ℕ) → resolved w r s out ≡ judge (unwritten out) 2 joined-record (λ xs. written_to out xs)
  unfolding joined-record
  resolved-joined out =
      resolved-by w r s out (cluster-read w f rig.cluster) (cluster-read r g reader.cluster) (rw rig.cluster.top at rig.accepted)
      (names-read g reader.names).2 (rig-members w s f rig).1

  -- either the reader is to get its bytes or a member is at fault
  either : Verdict s f 0 g
  either =
      verdict s (rig-members w s f rig).2 _ (cluster-formed w f rig.cluster) _ g reader.names (cluster-formed r g reader.cluster) 0

  -- there are bytes to get exactly where no member is at fault
  pub gets-exactly : AllRight g f ↔ ((xs : List ℕ) × Gets s f g xs)
  gets-exactly = (
    λ right. of right either,
    λ x. gets-right s (rig-members w s f rig).2 _ (cluster-formed w f rig.cluster) _ reader.names (cluster-formed r g reader.cluster) x.1,
  )
    where
      of : AllRight g f → Verdict s f 0 g → (xs : List ℕ) × Gets s f g xs
      of right (got x) = (_, x)
      of right (wrong x) = absurd (right-wrong right x)

  -- and only those
  pub gets-one : (xs ys : List ℕ) → Gets s f g xs → Gets s f g ys → xs ≡ ys
  gets-one xs ys x y = cc ((joined-read xs x).1, (joined-read ys y).1)

  -- they are accepted data under the reader's own descriptor
  pub gets-record : (xs : List ℕ) → Gets s f g xs → Rig r xs g
  unfolding walk walk_fields
  gets-record xs x = record {
    cluster = reader.cluster;
    end = length xs;
    tokens = (gets-walked x).0;
    accepted = walk-walked reader.cluster.described.tree xs (gets-walked x).0
        (omega (arith, gets-length (rig-members w s f rig).2 reader.names x, (holds_read rig.accepted (walked-walk rig.cluster.described.tree s)).0))
        (ap (λ (t : Tree). walk big t xs 0) reader.cluster.top ∙ (gets-walked x).1);
  }

  -- any room
  module _ (out : List ℕ) where
    -- the reader's bytes are given where the output holds them
    pub accepted-bytes : (xs : List ℕ) → Gets s f g xs → length xs ≤ length out
        → (resolved w r s out ≡ front out xs) × (given (resolved w r s out) ≡ xs)
    accepted-bytes xs x h =
        let whole : resolved w r s out ≡ front out xs = resolved-joined out ∙ rw (joined-read xs x).1 (written-fits out xs h) in
        (whole, rw whole (given-front out xs))

    -- "refused for the first such member"
    pub refused-member : (number place : ℕ) → FirstWrong f 0 g number place → resolved w r s out ≡ unwritten out number 2 place
    refused-member number place x = resolved-joined out ∙ rw (joined-refused number place x) refl

    -- "or, if there is none, because the output is too small"
    pub refused-room : (xs : List ℕ) → Gets s f g xs → length out < length xs → resolved w r s out ≡ unwritten out 50 4 (length xs)
    refused-room xs x h = resolved-joined out ∙ rw (joined-read xs x).1 (written-not out xs h)

    -- an accepted reading holds all the bytes that the reader is to get
    accepted-fits : (resolved w r s out).answer.number ≡ 0 → (xs : List ℕ) → Gets s f g xs → length xs ≤ length out
    accepted-fits zero xs x = fits (leb (length xs) (length out)) refl
      where
        fits : (b : Bool) → leb (length xs) (length out) ≡ b → length xs ≤ length out
        fits true e = leb-true _ _ e
        fits false e = absurd (let n = ap (λ (a : Written). a.answer.number) (refused-room xs x (leb-false _ _ e)) in omega arith)

    -- "The reading in the reader's shape is accepted exactly when no reader's member is missing, doubled or of another type in the rig's
    -- cluster and the output holds all their bytes."
    pub accepted-exactly : ((resolved w r s out).answer.number ≡ 0) ↔ (AllRight g f × ((xs : List ℕ) → Gets s f g xs → length xs ≤ length out))
    accepted-exactly = (
      λ zero. (all_right zero either, accepted-fits zero),
      λ h. let x = gets-exactly.0 h.0 in rw (accepted-bytes x.0 x.1 (h.1 x.0 x.1)).0 refl,
    )
      where
        all_right : (resolved w r s out).answer.number ≡ 0 → Verdict s f 0 g → AllRight g f
        all_right zero (got {xs} x) = gets-exactly.1 (xs, x)
        all_right zero (wrong {number} {place} x) =
            absurd (let n = ap (λ (a : Written). a.answer.number) (refused-member number place x) in omega (arith, wrong-number x))

    -- "Then the reader gets, for each of its members in order, exactly the bytes the walk gives the one rig member of that name and equal
    -- type."
    pub accepted-gets : (resolved w r s out).answer.number ≡ 0 → Gets s f g (given (resolved w r s out))
    accepted-gets zero =
        let x = gets-exactly.0 (accepted-exactly.0 zero).0 in
        rw (accepted-bytes x.0 x.1 (accepted-fits zero x.0 x.1)).1 x.1

    -- The place is "the length written", and "output beyond the length written keeps its bytes".
    pub accepted-whole : (resolved w r s out).answer.number ≡ 0 → resolved w r s out ≡ front out (given (resolved w r s out))
    accepted-whole zero =
        let bytes = given (resolved w r s out) in
        (accepted-bytes bytes (accepted-gets zero) (accepted-fits zero bytes (accepted-gets zero))).0

    -- and what it gets is a record of its own: accepted data under the reader's descriptor
    pub accepted-record : (resolved w r s out).answer.number ≡ 0 → Rig r (given (resolved w r s out)) g
    accepted-record zero = gets-record (given (resolved w r s out)) (accepted-gets zero)

    -- "Otherwise it is refused for the first such member or, if there is none, because the output is too small."
    pub otherwise-refused : (resolved w r s out).answer.number ≢ 0 → Refused s f g out (resolved w r s out)
    otherwise-refused nonzero = of either
      where
        small : (xs : List ℕ) → Gets s f g xs → (b : Bool) → leb (length xs) (length out) ≡ b → Refused s f g out (resolved w r s out)
        small xs x true e = absurd (nonzero (rw (accepted-bytes xs x (leb-true _ _ e)).0 refl))
        small xs x false e = for_room (gets-exactly.1 (xs, x)) x (leb-false _ _ e) (refused-room xs x (leb-false _ _ e))

        of : Verdict s f 0 g → Refused s f g out (resolved w r s out)
        of (got {xs} x) = small xs x (leb (length xs) (length out)) refl
        of (wrong {number} {place} x) = for_member x (refused-member number place x)

-- two rig records, a reader's descriptor
module _ (w s : List ℕ) (f : Forest) (rig : Rig w s f) (w' s' : List ℕ) (f' : Forest) (rig' : Rig w' s' f') (r : List ℕ) (g : Forest)
    (reader : Reader r g) where
  -- "Say that two such rig records agree on the reader's members when .. Then, whatever else they carry and in whatever order, they give the
  -- same answer (number, input, place and bytes given) in equal room."
  pub agree_same : Agree g s f s' f' → (out out' : List ℕ) → length out ≡ length out' → SameAnswer (resolved w r s out) (resolved w' r s' out')
  unfolding joined-record
  agree_same agree out out' room =
      rw (resolved-joined w s f rig r g reader out, resolved-joined w' s' f' rig' r g reader out', ← joined_same) (of (either w s f rig r g reader))
    where
      joined_same : joined-record w s f rig r g reader ≡ joined-record w' s' f' rig' r g reader
      joined_same = joined-agree (rig-members w s f rig).2 (rig-members w' s' f' rig').2 g reader.names agree 0

      of : Verdict s f 0 g
          → SameAnswer (judge (unwritten out) 2 (joined-record w s f rig r g reader) (λ xs. written_to out xs))
          (judge (unwritten out') 2 (joined-record w s f rig r g reader) (λ xs. written_to out' xs))
      of (got {xs} x) = rw (joined-read w s f rig r g reader xs x).1 (same-written out out' xs room)
      of (wrong {number} {place} x) =
          rw (joined-refused w s f rig r g reader number place x)
          (same-refusal out out' number 2 place (omega (arith, wrong-number x)))
