-- The descriptors that the check accepts are exactly the spellings of the trees within the limits, and each spells one tree.
-- Rests on `Sound`, what is read is spelled, and `Complete`, what is spelled is read.
use mathlib.Core.Path.{◌≡◌, refl, sym, ap, ◌∙◌}
use mathlib.Core.Bool.{false}
use mathlib.Core.List.{List}
use Prim.Native.Nat.{ℕ, ◌+◌}
use native.Mathlib.Omega.{arith}
use borrow.Author.Tests.{leb-true, eqb-true, le-leb, eq-eqb}
use lib.Dec.{leb, eqb}
use lib.ListN.{length}
use lib.Seq.{slice}
use Rattle.descriptor.specs.Limits.{descriptor_limit, depth_limit}
use Rattle.descriptor.specs.Tree.{Tree, tree_size}
use Rattle.descriptor.specs.Encoding.{encode_with, encode, Spells, Bytes, WithinLimits}
use Rattle.descriptor.specs.Outcome.{read}
use Rattle.descriptor.specs.Check.{tree_at, checked}
use Rattle.descriptor.proofs.Outcomes.{Holds, found, holds_read, holds-require, holds-and_then}
use Rattle.encoding.proofs.Slices.{slice_all}
use Rattle.encoding.proofs.Lengths.{tree-length}
use Rattle.descriptor.specs.Header.{reserved_in}
use Rattle.encoding.proofs.Sound.{tree-sound}
use Rattle.encoding.proofs.Complete.{pass, onward, tree-complete}

-- an accepted descriptor spells its tree, which is within the limits
pub accepted-spells : (d : List ℕ) → Bytes d → (t : Tree) (q : ℕ) → checked d ≡ read q t → Spells t d × (WithinLimits t × (q ≡ length d))
unfolding checked
accepted-spells d b t q e = holds_read e all
  where
    all : Holds (λ q t. Spells t d × (WithinLimits t × (q ≡ length d))) (checked d)
    all =
        holds-require (leb (length d) descriptor_limit) _ _ (λ short.
        holds-and_then (tree-sound d b depth_limit false (length d) 0 0 (omega arith)) (λ q t r.
        holds-require (eqb q (length d)) _ _ (λ whole.
        let last : q ≡ length d = eqb-true q (length d) whole in
        found (
          record { reserved = reserved_in d; bytes = sym (slice_all d q (sym last)) ∙ r.bytes },
          (record { formed = r.formed; bytes = omega (arith, r.size, leb-true); rows = omega (arith, r.rows); depth = r.depth }, last),
        ))))

-- a spelling of a tree within the limits is accepted, as that tree
pub spells-accepted : (d : List ℕ) (t : Tree) → WithinLimits t → Spells t d → checked d ≡ read (length d) t
unfolding checked
spells-accepted d t within spells =
    let long : length d ≡ tree_size t = ap length spells.bytes ∙ tree-length t spells.reserved 0 in
    let last : 0 + tree_size t ≡ length d = omega arith in
    let there : slice 0 (0 + tree_size t) d ≡ encode_with spells.reserved 0 t = slice_all d (0 + tree_size t) (omega arith) ∙ spells.bytes in
    let top : tree_at depth_limit d false (length d) 0 0 ≡ read (length d) t =
    tree-complete d t depth_limit false (length d) 0 0 spells.reserved (omega arith) (omega arith) (omega (arith, within.bytes)) there within.formed
    (omega (arith, within.rows)) within.depth
    ∙ ap (λ (q : ℕ). read q t) last in
    pass _ _ (le-leb (length d) descriptor_limit (omega (arith, within.bytes)))
    (onward _ top (pass _ _ (eq-eqb (length d) (length d) refl) refl))

-- no bytes spell two trees
pub one-tree : (d : List ℕ) (t u : Tree) → WithinLimits t → WithinLimits u → Spells t d → Spells u d → t ≡ u
one-tree d t u wt wu st su =
    let a = spells-accepted d t wt st in
    let b = spells-accepted d u wu su in
    cc

-- a tree's normal form spells it
pub normal-spells : (t : Tree) → Spells t (encode t)
normal-spells t = record { reserved = λ _. 0; bytes = refl }

-- and is accepted
pub normal-accepted : (t : Tree) → WithinLimits t → checked (encode t) ≡ read (length (encode t)) t
normal-accepted t within = spells-accepted (encode t) t within (normal-spells t)

-- trees of one normal form are one
pub encode_injective : (t u : Tree) → WithinLimits t → WithinLimits u → encode t ≡ encode u → t ≡ u
encode_injective t u wt wu e = one-tree (encode t) t u wt wu (normal-spells t) (record { reserved = λ _. 0; bytes = e })
