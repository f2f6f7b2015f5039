-- Document 02, CR 4, "the reader's shape `0010 0050 0001 000A 0007 0562 6C61 6E6B`, one unsigned 32-bit member named "blank"": it is accepted, is a
-- reader's descriptor as demand 3 has them, and its data is four bytes. So the shape itself is never what a refusal is for.
-- The public entries are all four. Computed from the definitions.
use mathlib.Core.Path.{◌≡◌, refl, sym, ◌∙◌}
use mathlib.Core.List.{List, [], ◌∷◌}
use Prim.Native.Nat.{ℕ, ◌+◌}
use native.Mathlib.Omega.{arith}
use borrow.Author.Tests.{eqb-true}
use lib.Dec.{leb, eqb}
use lib.ListN.{length}
use Rattle.number.specs.Endian.{be}
use Rattle.descriptor.specs.Codes.{kind_of}
use Rattle.descriptor.specs.Limits.{data_limit}
use Rattle.descriptor.specs.Tree.{unnamed, named, empty, members, Tree, node, Forest, nil, cons, child_count, row_count, forest_rows}
use Rattle.descriptor.specs.Encoding.{Bytes}
use Rattle.descriptor.specs.Outcome.{read}
use Rattle.descriptor.specs.Check.{header_at, count_at, fields_read, contents_at, judged, filled_at, fill_at, fields_at, members_at, name_at, node_at, tree_at, checked}
use Rattle.descriptor.specs.Width.{width_of}
use Rattle.descriptor.proofs.Outcomes.{Holds, found, holds-require, holds-and_then}
use Rattle.flattened.specs.Order.{big}
use Rattle.flattened.specs.Walk.{scalar_at, walk_fields, walk, walk_all, walked}
use Rattle.resolution.specs.Record.{is_among, reader_names, reader_fields, reader_members}
use Rattle.demands.proofs.Accepted.{describe}
use Rattle.demands.proofs.Shape.{NonEmpty, NoneNamed, DistinctNames, Reader}
use Rattle.store.specs.Book.{shape}

-- "one unsigned 32-bit member named "blank""
abbrev pub shape_members : Forest
shape_members = cons (node 7 empty nil (named (98 ∷ 108 ∷ 97 ∷ 110 ∷ 107 ∷ []))) nil

abbrev pub shape_tree : Tree
shape_tree = node 80 (members 1) shape_members unnamed

pub shape-bytes : Bytes shape
unfolding Bytes
shape-bytes = omega arith

-- the shape is read as it is said to be
pub shape-read : checked shape ≡ read 16 shape_tree
unfolding be kind_of child_count row_count forest_rows header_at count_at fields_read contents_at judged filled_at fill_at fields_at members_at name_at node_at tree_at checked
shape-read = refl

pub shape-members : reader_members shape_tree ≡ read 1 shape_members
unfolding reader_fields reader_names is_among
shape-members = refl

-- "any accepted reader's descriptor that is a cluster of members with distinct, non-empty names" (demand 3): the shape is one
pub shape-reader : Reader shape shape_members
unfolding DistinctNames NonEmpty NoneNamed
shape-reader = record {
  cluster = record { described = describe shape shape-bytes 16 shape_tree shape-read; code = 80; count = 1; name = unnamed; top = refl };
  names = (tt, tt, tt);
}

-- data of the shape is four bytes
pub shape-four : (xs : List ℕ) → Holds (λ _ _. length xs ≡ 4) (walked big shape_tree xs)
unfolding walked walk walk_all walk_fields scalar_at width_of
shape-four xs =
    holds-require (leb (length xs) data_limit) 20 0 (λ _.
    holds-and_then {P = λ q _. q ≡ 4}
    (holds-and_then {P = λ q _. q ≡ 4} (holds-require (leb (0 + width_of 7) (length xs)) 21 0 (λ _. found refl)) (λ _ _ e. found e))
    (λ q _ e. holds-require (eqb q (length xs)) 25 q (λ f. found (sym (eqb-true q (length xs) f) ∙ e))))
