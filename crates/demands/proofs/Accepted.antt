-- Demand 2, which descriptors are accepted. The public entry whose contract uses these definitions is check_descriptor; the others judge
-- a descriptor by the same `checked`.
-- Rests on the laws of the encoding, what is read is spelled and what is spelled is read, and on the numbers of refusals.
use mathlib.Core.Path.{◌≡◌, refl}
use mathlib.Core.Logic.{◌↔◌}
use mathlib.Core.List.{List}
use Prim.Native.Nat.{ℕ, ◌<◌}
use native.Mathlib.Omega.{arith}
use lib.ListN.{length}
use Rattle.descriptor.specs.Tree.{Tree, row_count}
use Rattle.descriptor.specs.Encoding.{Spells, Bytes, WithinLimits}
use Rattle.descriptor.specs.Outcome.{Outcome, refused, read}
use Rattle.descriptor.specs.Check.{checked}
use Rattle.descriptor.specs.Answers.{accepted, no_rows, descriptor_check}
use Rattle.encoding.proofs.Accepted.{accepted-spells, spells-accepted, one-tree}
use Rattle.descriptor.proofs.Places.{refused-number}

-- "well formed by the published pages as 01 carries them, within its limits": d is the encoding of a tree within the limits, whatever
-- its reserved bytes hold
pub record Described (d : List ℕ) : Type 0 where
  pub tree : Tree
  pub limits : WithinLimits tree
  pub spelled : Spells tree d

-- what the check reads is so described
abbrev pub describe : (d : List ℕ) → Bytes d → (q : ℕ) (t : Tree) → checked d ≡ read q t → Described d
describe d bytes q t e = let known = accepted-spells d bytes t q e in record { tree = t; limits = known.1.0; spelled = known.0 }

module _ (d : List ℕ) where
  -- and what is described is read
  pub described-read : (x : Described d) → checked d ≡ read (length d) x.tree
  described-read x = spells-accepted d x.tree x.limits x.spelled

  -- the number is 0 only where a tree was read
  described : Bytes d → (o : Outcome Tree) → checked d ≡ o → (descriptor_check d).answer.number ≡ 0 → Described d
  unfolding descriptor_check
  described bytes (refused number place) e zero =
      let same : (descriptor_check d).answer.number ≡ number = rw e refl in
      absurd (omega (arith, refused-number d number place e))
  described bytes (read q t) e zero = describe d bytes q t e

  -- "0: accepted", input "0 if accepted", "place is the row count"
  pub accepted-answer : (x : Described d) → (descriptor_check d).answer ≡ accepted (row_count x.tree)
  unfolding descriptor_check
  accepted-answer x = rw (described-read x) refl

  -- "A descriptor is accepted exactly when it is well formed by the published pages as 01 carries them, within its limits."
  pub accepted-exactly : Bytes d → ((descriptor_check d).answer.number ≡ 0) ↔ Described d
  accepted-exactly bytes = (described bytes (checked d) refl, λ x. rw (accepted-answer x) refl)

  -- and no bytes are well formed as two trees
  pub one-description : (x y : Described d) → x.tree ≡ y.tree
  one-description x y = one-tree d x.tree y.tree x.limits y.limits x.spelled y.spelled

  -- a refusal has a number other than 0, input 1 and no rows
  pub refused-answer : (number place : ℕ) → checked d ≡ refused number place → (0 < number) × (descriptor_check d ≡ no_rows number 1 place)
  unfolding descriptor_check
  refused-answer number place e = (refused-number d number place e, rw e refl)
