-- Demand 2, which accepted descriptors are equal, and what the normal form is to them. The public entries whose contracts use these
-- definitions are compare and normal_form. By `accepted-exactly` the accepted ones are those that are described.
-- Rests on the laws of the encoding, and on the comparison of trees deciding whether well-formed trees are one.
use mathlib.Core.Path.{◌≡◌, refl, sym, ap, ◌∙◌}
use mathlib.Core.Logic.{◌↔◌}
use mathlib.Core.Bool.{true, false}
use mathlib.Core.List.{List, ◌++◌}
use Prim.Native.Nat.{ℕ, ◌≤◌}
use native.Mathlib.Omega.{arith}
use borrow.Author.Tests.{le-leb}
use lib.ListN.{length, take, drop}
use lib.Seq.{take-append_seam}
use Rattle.descriptor.specs.Tree.{Tree}
use Rattle.descriptor.specs.Encoding.{encode, Spells, Bytes, WithinLimits}
use Rattle.descriptor.specs.Outcome.{Outcome, refused, read}
use Rattle.descriptor.specs.Check.{checked}
use Rattle.descriptor.specs.Answers.{accepted, descriptor_check}
use Rattle.descriptor.specs.Output.{Written, written_to}
use Rattle.descriptor.proofs.Steps.{impossible}
use Rattle.encoding.proofs.Lengths.{tree-length}
use Rattle.encoding.proofs.Accepted.{normal-spells, encode_injective}
use Rattle.canonical.specs.Equality.{same_tree, comparison}
use Rattle.canonical.specs.Normal.{normal_form}
use Rattle.canonical.proofs.Same.{same-tree, same_refl}
use Rattle.demands.proofs.Accepted.{Described, describe, described-read}

-- two accepted descriptors
module _ (a b : List ℕ) (x : Described a) (y : Described b) where
  compared : (comparison a b).equal ≡ same_tree x.tree y.tree
  unfolding comparison
  compared = rw (described-read a x, described-read b y) refl

  -- "Two accepted ones are equal exactly when their trees agree, names too, reserved bytes apart."
  pub equal-exactly : ((comparison a b).equal ≡ true) ↔ (x.tree ≡ y.tree)
  equal-exactly = (
    λ e. same-tree x.tree y.tree false false x.limits.formed y.limits.formed (sym compared ∙ e),
    λ e. compared ∙ ap (λ (t : Tree). same_tree x.tree t) (sym e) ∙ same_refl x.tree,
  )

  -- "two are equal exactly when their normal forms are the same bytes"
  pub equal-normal : ((comparison a b).equal ≡ true) ↔ (encode x.tree ≡ encode y.tree)
  equal-normal = (
    λ e. ap encode (equal-exactly.0 e),
    λ e. equal-exactly.1 (encode_injective x.tree y.tree x.limits y.limits e),
  )

-- whatever two spellings of one tree hold in their reserved bytes, they are equal
pub reserved-apart : (t : Tree) → WithinLimits t → (a b : List ℕ) → Spells t a → Spells t b → (comparison a b).equal ≡ true
reserved-apart t limits a b spells_a spells_b =
    (equal-exactly a b (record { tree = t; limits = limits; spelled = spells_a }) (record { tree = t; limits = limits; spelled = spells_b })).1 refl

-- "A refusal gives .. "no" for compare": what compares equal is accepted
pub equal-accepted : (a b : List ℕ) → Bytes a → Bytes b → (comparison a b).equal ≡ true → Described a × Described b
unfolding comparison
equal-accepted a b bytes_a bytes_b e = both (checked a) (checked b) refl refl
  where
    both : (o u : Outcome Tree) → checked a ≡ o → checked b ≡ u → Described a × Described b
    both (refused number place) u ea eb = impossible (rw ea at e)
    both (read q t) (refused number place) ea eb = impossible (rw (ea, eb) at e)
    both (read q t) (read p u) ea eb = (describe a bytes_a q t ea, describe b bytes_b p u eb)

-- an accepted descriptor and its normal form, "the same descriptor with every reserved byte zero"
module _ (d : List ℕ) (x : Described d) where
  -- the normal form is accepted, as the same tree
  abbrev pub normal-described : Described (encode x.tree)
  normal-described = record { tree = x.tree; limits = x.limits; spelled = normal-spells x.tree }

  -- with the same answer and table
  pub normal-checked : descriptor_check (encode x.tree) ≡ descriptor_check d
  unfolding descriptor_check
  normal-checked = rw (described-read (encode x.tree) normal-described, described-read d x) refl

  -- is equal to the descriptor
  pub normal-equal : (comparison d (encode x.tree)).equal ≡ true
  normal-equal = (equal-exactly d (encode x.tree) x normal-described).1 refl

  -- is what is written
  pub normal-written : (out : List ℕ) → normal_form d out ≡ written_to out (encode x.tree)
  unfolding normal_form
  normal-written out = rw (described-read d x) refl

  -- is as long as the descriptor
  pub normal-length : length (encode x.tree) ≡ length d
  normal-length =
      tree-length x.tree (λ _. 0) 0 ∙ sym (ap length x.spelled.bytes ∙ tree-length x.tree x.spelled.reserved 0)

-- and is its own normal form
pub normal-normal : (d : List ℕ) (x : Described d) (out : List ℕ) → normal_form (encode x.tree) out ≡ normal_form d out
normal-normal d x out = normal-written (encode x.tree) (normal-described d x) out ∙ sym (normal-written d x out)

-- bytes that fit are found at the front of the output
written-front : (out bytes : List ℕ) (w : Written) → w ≡ written_to out bytes → length bytes ≤ length out → take w.answer.place w.out ≡ bytes
unfolding written_to
written-front out bytes w e fits =
    let whole : w ≡ record { answer = accepted (length bytes); out = bytes ++ drop (length bytes) out } = e ∙ rw le-leb refl in
    ap (λ (v : Written). take v.answer.place v.out) whole ∙ take-append_seam bytes (drop (length bytes) out)

-- so two accepted descriptors are equal exactly when normal_form answers and writes the same for both, given room
pub equal-written : (a b : List ℕ) (x : Described a) (y : Described b) (out : List ℕ) → length a ≤ length out → length b ≤ length out
    → ((comparison a b).equal ≡ true) ↔ (normal_form a out ≡ normal_form b out)
equal-written a b x y out room_a room_b = (
  λ e. normal-written a x out ∙ ap (written_to out) ((equal-normal a b x y).0 e) ∙ sym (normal-written b y out),
  λ e.
      (equal-normal a b x y).1
      (sym (written-front out (encode x.tree) (normal_form a out) (normal-written a x out) (omega (arith, normal-length a x)))
      ∙ written-front out (encode y.tree) (normal_form a out) (e ∙ normal-written b y out) (omega (arith, normal-length b y))),
)
