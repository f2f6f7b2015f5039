-- Records and normal forms by hand, beside P11 and P12: 40, 41, 43 and 50 with their inputs and places, document 01's order where two could be
-- given, and the bytes of a normal form. Each fact is computed from the definitions, so that a number, a place or an order that is changed in a
-- definition and in the code alike is noticed here.
-- The public entries whose contracts use these definitions are read_record and normal_form.
use Rattle.std.specs.Prelude.{◌≡◌, refl, List, [], ◌∷◌, ◌++◌, ℕ}
use Rattle.number.specs.Endian.{be, be_bytes}
use Rattle.descriptor.specs.Codes.{kind_of}
use Rattle.descriptor.specs.Tree.{child_count, count_of, items_size, fields_size, name_size, tree_size, forest_size, row_count, forest_rows}
use Rattle.descriptor.specs.Encoding.{packed, pair_bytes, field_bytes, name_bytes, encode_with, forest_with}
use Rattle.descriptor.specs.Check.{header_at, count_at, run_at, item_at, items_at, pairs_at, fields_read, judged, contents_at, fill_at, filled_at, fields_at, members_at, name_at, node_at, tree_at, checked}
use Rattle.descriptor.specs.Output.{unwritten, written_to}
use Rattle.descriptor.specs.Width.{width_of}
use Rattle.canonical.specs.Equality.{same_list, same_name, items_of, pairs_of, same_tree, same_forest}
use Rattle.canonical.specs.Normal.{normal_form}
use Rattle.flattened.specs.Order.{number_at}
use Rattle.flattened.specs.Walk.{scalar_at, text_at, sizes_at, sizes_fit, product, array_at, repeat, walk_fields, walk, walk_all, walked}
use Rattle.resolution.specs.Record.{members_from, writer_fields, is_among, reader_names, reader_fields, matches, namesakes, searched, search_number, member_found, member_bytes, joined_bytes, record_bytes, resolved}
use Rattle.demands.specs.Cases.{p1, p5, rig, sent, reader, room}
use Rattle.demands.specs.DataCases.{few, wrote}

-- 0008 00cc 0269 6400: "id" of the code cc
abbrev id : ℕ → List ℕ
id code = 0x00 ∷ 0x08 ∷ 0x00 ∷ code ∷ 0x02 ∷ 0x69 ∷ 0x64 ∷ 0x00 ∷ []

-- 0008 0007 026E 6F00: "no", which the rig doesn't have
abbrev other : List ℕ
other = 0x00 ∷ 0x08 ∷ 0x00 ∷ 0x07 ∷ 0x02 ∷ 0x6E ∷ 0x6F ∷ 0x00 ∷ []

-- 0016 0050 0002: a cluster of two members of eight bytes each
abbrev both : List ℕ → List ℕ → List ℕ
both x y = 0x00 ∷ 0x16 ∷ 0x00 ∷ 0x50 ∷ 0x00 ∷ 0x02 ∷ (x ++ y)

-- 0014 0050 0002: a cluster of "id" and a member of six bytes
abbrev with : List ℕ → List ℕ
with y = 0x00 ∷ 0x14 ∷ 0x00 ∷ 0x50 ∷ 0x00 ∷ 0x02 ∷ (id 0x07 ++ y)

-- 40: "reader's top is no cluster, or a member's name is missing, empty or an earlier member's", at "member, or 0"; 41: "rig's top is no cluster";
-- 43, "found twice or more", at the "reader's member"; 50 at the "length needed"; and "the reader's members' bytes joined, in the reader's order"
pub record-places : (resolved rig p1 sent (room 6) ≡ unwritten (room 6) 40 2 0)
    × (resolved rig p5 sent (room 6) ≡ unwritten (room 6) 40 2 0)
    × (resolved rig (with (0x00 ∷ 0x06 ∷ 0x00 ∷ 0x03 ∷ 0x00 ∷ 0x00 ∷ [])) sent (room 6) ≡ unwritten (room 6) 40 2 1)
    × (resolved rig (both (id 0x07) (id 0x03)) sent (room 6) ≡ unwritten (room 6) 40 2 1)
    × (resolved p1 (reader 0x07 0x69 0x64) (few 9) (room 4) ≡ unwritten (room 4) 41 1 0)
    × (resolved (both (id 0x03) (id 0x07)) (reader 0x07 0x69 0x64) (few 1 ++ few 2) (room 4) ≡ unwritten (room 4) 43 2 0)
    × (resolved rig (both (id 0x07) other) sent (room 6) ≡ unwritten (room 6) 42 2 1)
    × (resolved rig (reader 0x07 0x69 0x64) sent (room 3) ≡ unwritten (room 3) 50 4 4)
    × (resolved rig (with (0x00 ∷ 0x06 ∷ 0x00 ∷ 0x02 ∷ 0x01 ∷ 0x74 ∷ [])) sent (room 7) ≡ wrote 6 (0 ∷ 0 ∷ 0 ∷ 9 ∷ 0 ∷ 0x19 ∷ 238 ∷ []))
unfolding be be_bytes kind_of child_count count_of items_size fields_size name_size tree_size forest_size row_count forest_rows header_at count_at run_at item_at items_at pairs_at fields_read judged contents_at fill_at filled_at fields_at members_at name_at node_at tree_at checked written_to same_list same_name items_of pairs_of same_tree same_forest width_of number_at scalar_at text_at sizes_at sizes_fit product array_at repeat walk_fields walk walk_all walked members_from writer_fields is_among reader_names reader_fields matches namesakes searched search_number member_found member_bytes joined_bytes record_bytes resolved
record-places = (refl, refl, refl, refl, refl, refl, refl, refl, refl)

-- "Between inputs: rig, reader, data, path, then 40, 41, the reader's members in order, 50."
pub record-order : (resolved [] [] [] [] ≡ unwritten [] 2 1 0)
    × (resolved rig [] [] [] ≡ unwritten [] 2 2 0)
    × (resolved rig p1 [] [] ≡ unwritten [] 21 3 0)
    × (resolved p1 p1 (few 9) [] ≡ unwritten [] 40 2 0)
    × (resolved p1 (both other (id 0x03)) (few 9) [] ≡ unwritten [] 41 1 0)
    × (resolved rig (both other (id 0x03)) sent [] ≡ unwritten [] 42 2 0)
    × (resolved rig (both (id 0x03) other) sent [] ≡ unwritten [] 44 2 0)
unfolding be be_bytes kind_of child_count count_of items_size fields_size name_size tree_size forest_size row_count forest_rows header_at count_at run_at item_at items_at pairs_at fields_read judged contents_at fill_at filled_at fields_at members_at name_at node_at tree_at checked written_to same_list same_name items_of pairs_of same_tree same_forest width_of number_at scalar_at text_at sizes_at sizes_fit product array_at repeat walk_fields walk walk_all walked members_from writer_fields is_among reader_names reader_fields matches namesakes searched search_number member_found member_bytes joined_bytes record_bytes resolved
record-order = (refl, refl, refl, refl, refl, refl, refl)

-- "the same descriptor with every reserved byte zero"; "On success, output beyond the length written keeps its bytes."
pub normal-forms : (normal_form (0x00 ∷ 0x04 ∷ 0x40 ∷ 0x03 ∷ []) (room 5) ≡ wrote 4 (0x00 ∷ 0x04 ∷ 0x00 ∷ 0x03 ∷ 238 ∷ []))
    × (normal_form (0x00 ∷ 0x0E ∷ 0xFF ∷ 0x50 ∷ 0x00 ∷ 0x01 ∷ 0x00 ∷ 0x08 ∷ 0x01 ∷ 0x07 ∷ 0x02 ∷ 0x69 ∷ 0x64 ∷ 0x00 ∷ []) (room 14) ≡ wrote 14 (reader 0x07 0x69 0x64))
    × (normal_form p1 (room 3) ≡ unwritten (room 3) 50 4 4)
    × (normal_form [] [] ≡ unwritten [] 2 1 0)
unfolding be be_bytes kind_of child_count count_of items_size fields_size name_size tree_size forest_size row_count forest_rows header_at count_at run_at item_at items_at pairs_at fields_read judged contents_at fill_at filled_at fields_at members_at name_at node_at tree_at checked written_to packed pair_bytes field_bytes name_bytes encode_with forest_with normal_form
normal-forms = (refl, refl, refl, refl)
