-- Time stamps by hand, document 02, CR 1: the descriptor and its rows, each refusal with its place and in its order, the data, its one part, and
-- the difference of two. Each fact is computed from the definitions, so that a number, a place, an order or a part that is changed in a
-- definition and in the code alike is noticed here.
use Rattle.std.specs.Prelude.{◌≡◌, refl, true, false, List, [], ◌∷◌, ◌++◌, ℕ, replicate, ℤ, pos, negsuc}
use Rattle.number.specs.Endian.{be}
use Rattle.number.specs.Signed.{signed}
use Rattle.descriptor.specs.Codes.{kind_of}
use Rattle.descriptor.specs.Tree.{child_count, count_of, items_size, fields_size, name_size, tree_size, forest_size, row_count, forest_rows}
use Rattle.descriptor.specs.Stamp.{is_unnamed, are_unnamed, is_stamp_cluster, is_stamp_inside}
use Rattle.descriptor.specs.Check.{header_at, count_at, run_at, item_at, items_at, pairs_at, fields_read, judged, contents_at, fill_at, filled_at, fields_at, members_at, name_at, node_at, tree_at, checked}
use Rattle.descriptor.specs.Table.{place_of_name, length_of_name, row_of, rows_of, forest_rows_of}
use Rattle.descriptor.specs.Answers.{refusal, accepted, Tabled, no_rows, descriptor_check}
use Rattle.descriptor.specs.Output.{unwritten, written_to}
use Rattle.descriptor.specs.Width.{width_of}
use Rattle.canonical.specs.Equality.{same_list, same_name, items_of, pairs_of, same_tree, same_forest, comparison}
use Rattle.flattened.specs.Order.{number_at}
use Rattle.flattened.specs.Walk.{scalar_at, text_at, sizes_at, sizes_fit, product, array_at, repeat, walk_fields, walk, walk_all, walked}
use Rattle.flattened.specs.Answers.{data_check}
use Rattle.byte_order.specs.Reversal.{reverse_each, number_count, number_width, reverse_token, reversed, turned, to_little_endian}
use Rattle.access.specs.Path.{member_at, step_at, spot_at, no_part, part_of, located}
use Rattle.reading.specs.Values.{of_single, of_double, value_of, is_value, number_of, read_value}
use Rattle.reading.specs.declared.value.Value.TheVariants.{Signed, Unsigned}
use Rattle.resolution.specs.Record.{members_from, writer_fields, is_among, reader_names, reader_fields, record_bytes, resolved}
use Rattle.timestamp.specs.Difference.{bits_of, is_signed, too_far, difference}
use Rattle.timestamp.specs.declared.Difference.{Difference}
use Rattle.demands.specs.Cases.{p5, row, with_rows}
use Rattle.demands.specs.Refusals.{copies}

-- a descriptor with nothing after its header: 0004 00cc
abbrev bare : ℕ → List ℕ
bare c = 0x00 ∷ 0x04 ∷ 0x00 ∷ c ∷ []

-- 0016 0050 0004 and four integers of these codes
abbrev four : ℕ → ℕ → ℕ → ℕ → List ℕ
four a b c d = 0x00 ∷ 0x16 ∷ 0x00 ∷ 0x50 ∷ 0x00 ∷ 0x04 ∷ (bare a ++ (bare b ++ (bare c ++ bare d)))

-- ssss 0054 wwww and what stands after it
abbrev stamp : ℕ → ℕ → List ℕ → List ℕ
stamp size word inside = 0x00 ∷ size ∷ 0x00 ∷ 0x54 ∷ 0x00 ∷ word ∷ inside

-- "one unnamed cluster of four unnamed integers, codes 03, 03, 07, 07 (.. 001C bytes without a name)"
abbrev pub plain_stamp : List ℕ
plain_stamp = stamp 0x1C 6 (four 3 3 7 7)

-- the same with the name A
abbrev named_stamp : List ℕ
named_stamp = stamp 0x1E 6 (four 3 3 7 7) ++ (0x01 ∷ 0x41 ∷ [])

-- an array of them: 0026 0040 0001 FFFF FFFF
abbrev stamps : List ℕ
stamps = 0x00 ∷ 0x26 ∷ 0x00 ∷ 0x40 ∷ 0x00 ∷ 0x01 ∷ (replicate 4 0xFF ++ plain_stamp)

-- a cluster of one around another descriptor, whose size is below 256
abbrev around : ℕ → List ℕ → List ℕ
around size inside = 0x00 ∷ size ∷ 0x00 ∷ 0x50 ∷ 0x00 ∷ 0x01 ∷ inside

-- the rows: "A 54's row has count 0. Its child's rows follow it"
pub stamp-rows : descriptor_check plain_stamp
    ≡ with_rows 6
    (row 0x54 0 28 1 0 0 0
    ∷ row 0x50 6 22 2 4 0 0
    ∷ row 0x03 12 4 3 0 0 0
    ∷ row 0x03 16 4 3 0 0 0
    ∷ row 0x07 20 4 3 0 0 0
    ∷ row 0x07 24 4 3 0 0 0
    ∷ [])
unfolding descriptor_check checked tree_at header_at kind_of fields_at fields_read count_at run_at item_at items_at pairs_at contents_at judged filled_at fill_at members_at node_at name_at child_count count_of items_size fields_size name_size tree_size forest_size row_count forest_rows row_of rows_of forest_rows_of place_of_name length_of_name is_unnamed are_unnamed is_stamp_cluster is_stamp_inside be
stamp-rows = refl

-- what a check refuses
abbrev at : ℕ → ℕ → Tabled
at number place = no_rows number 1 place

pub stamp-refusals : (descriptor_check (stamp 0x1C 6 (four 3 3 3 3)) ≡ at 10 0)
    × (descriptor_check (stamp 0x1C 6 (four 7 7 3 3)) ≡ at 10 0)
    -- "another subtype is 5, judged after 8", "a missing subtype word is 8"; their places are the low code byte and the end (CR 3)
    × (descriptor_check (stamp 0x1C 5 (four 3 3 7 7)) ≡ at 5 3)
    × (descriptor_check (0x00 ∷ 0x04 ∷ 0x00 ∷ 0x54 ∷ []) ≡ at 8 4)
    -- "subtype there, child missing": 2, where the child would stand
    × (descriptor_check (stamp 0x06 6 []) ≡ at 2 6)
    -- something else, alone
    × (descriptor_check (stamp 0x0A 6 (bare 3)) ≡ at 10 0)
    -- a fifth integer, and one that has the empty name
    × (descriptor_check (stamp 0x20 6 (0x00 ∷ 0x1A ∷ 0x00 ∷ 0x50 ∷ 0x00 ∷ 0x05 ∷ (bare 3 ++ (bare 3 ++ (bare 7 ++ (bare 7 ++ bare 7)))))) ≡ at 10 0)
    × (descriptor_check (stamp 0x1E 6 (0x00 ∷ 0x18 ∷ 0x00 ∷ 0x50 ∷ 0x00 ∷ 0x04 ∷ (0x00 ∷ 0x06 ∷ 0x00 ∷ 0x03 ∷ 0x00 ∷ 0x00 ∷ (bare 3 ++ (bare 7 ++ bare 7))))) ≡ at 10 0)
    -- the cluster has a name
    × (descriptor_check (stamp 0x1E 6 (0x00 ∷ 0x18 ∷ 0x00 ∷ 0x50 ∷ 0x00 ∷ 0x04 ∷ (bare 3 ++ (bare 3 ++ (bare 7 ++ (bare 7 ++ (0x01 ∷ 0x41 ∷ []))))))) ≡ at 10 0)
    -- "judged after the inner descriptors and before 11": bytes after the right cluster that are no name, and after a wrong one
    × (descriptor_check (stamp 0x1E 6 (four 3 3 7 7) ++ (0x05 ∷ 0x41 ∷ [])) ≡ at 11 28)
    × (descriptor_check (stamp 0x1E 6 (four 3 3 7 3) ++ (0x05 ∷ 0x41 ∷ [])) ≡ at 10 0)
    -- the last integer is another, and one that is refused itself: that comes first
    × (descriptor_check (stamp 0x1C 6 (four 3 3 7 2)) ≡ at 10 0)
    × (descriptor_check (stamp 0x1C 6 (four 3 3 7 0)) ≡ at 5 27)
    -- "a 54 at depth 7 is 6 at its first integer"
    × (descriptor_check (around 0x40 (around 0x3A (around 0x34 (around 0x2E (around 0x28 (around 0x22 plain_stamp)))))) ≡ at 6 48)
    -- "at the outer start", and the places of 5 and 8, where it stands in a cluster
    × (descriptor_check (around 0x22 (stamp 0x1C 6 (four 3 3 3 3))) ≡ at 10 6)
    × (descriptor_check (around 0x22 (stamp 0x1C 5 (four 3 3 7 7))) ≡ at 5 9)
    × (descriptor_check (around 0x0A (bare 0x54)) ≡ at 8 10)
    -- the subtype comes before what stands inside: nothing, or what is refused itself
    × (descriptor_check (stamp 0x06 5 []) ≡ at 5 3)
    × (descriptor_check (stamp 0x1C 5 (four 3 3 7 0)) ≡ at 5 3)
    -- whatever stands inside is judged by itself before 10, no cluster too
    × (descriptor_check (stamp 0x0A 6 (bare 0)) ≡ at 5 9)
    -- a wrong word inside has its own place
    × (descriptor_check (stamp 0x0E 6 (0x00 ∷ 0x08 ∷ 0x00 ∷ 0x30 ∷ 0xFF ∷ 0xFF ∷ 0xFF ∷ 0xFE ∷ [])) ≡ at 10 10)
    -- another subtype's 5 comes after 6
    × (descriptor_check (around 0x4C (around 0x46 (around 0x40 (around 0x3A (around 0x34 (around 0x2E (around 0x28 (around 0x22 (stamp 0x1C 5 (four 3 3 7 7)))))))))) ≡ at 6 48)
    -- and after 7: the 257th row
    × (descriptor_check (0x04 ∷ 0x1E ∷ 0x00 ∷ 0x50 ∷ 0x01 ∷ 0x00 ∷ (copies 255 (bare 3) ++ stamp 0x1C 5 (four 3 3 7 7))) ≡ at 7 1026)
    -- its end is not its parent's
    × (descriptor_check (0x00 ∷ 0x0E ∷ 0x00 ∷ 0x50 ∷ 0x00 ∷ 0x02 ∷ (bare 0x54 ++ bare 3)) ≡ at 8 10)
unfolding descriptor_check checked tree_at header_at kind_of fields_at fields_read count_at run_at item_at items_at pairs_at contents_at judged filled_at fill_at members_at node_at name_at child_count count_of items_size fields_size name_size tree_size forest_size row_count forest_rows row_of rows_of forest_rows_of place_of_name length_of_name is_unnamed are_unnamed is_stamp_cluster is_stamp_inside copies be
stamp-refusals = (refl, refl, refl, refl, refl, refl, refl, refl, refl, refl, refl, refl, refl, refl, refl, refl, refl, refl, refl, refl, refl, refl, refl, refl)

-- reserved bytes don't matter inside either; a name does
pub stamp-equality : ((comparison plain_stamp (0x00 ∷ 0x1C ∷ 0x12 ∷ 0x54 ∷ 0x00 ∷ 0x06 ∷ 0x00 ∷ 0x16 ∷ 0x34 ∷ 0x50 ∷ 0x00 ∷ 0x04 ∷ (0x00 ∷ 0x04 ∷ 0x56 ∷ 0x03 ∷ (bare 3 ++ (bare 7 ++ bare 7))))).equal ≡ true)
    × ((comparison plain_stamp named_stamp).equal ≡ false)
unfolding comparison checked tree_at header_at kind_of fields_at fields_read count_at run_at item_at items_at pairs_at contents_at judged filled_at fill_at members_at node_at name_at child_count count_of items_size fields_size name_size tree_size forest_size row_count forest_rows is_unnamed are_unnamed is_stamp_cluster is_stamp_inside be same_list same_name items_of pairs_of same_tree same_forest
stamp-equality = (refl, refl)

-- 16 bytes: −1 second, and half of one
abbrev sample : List ℕ
sample = replicate 8 0xFF ++ (0x80 ∷ replicate 7 0x00)

-- the 16 bytes of its data
pub stamp-data : (data_check plain_stamp sample ≡ accepted 4)
    × (data_check plain_stamp (replicate 15 0) ≡ refusal 21 3 12)
    × (data_check plain_stamp (replicate 17 0) ≡ refusal 25 3 16)
    × (data_check stamps (0x00 ∷ 0x00 ∷ 0x00 ∷ 0x02 ∷ (sample ++ sample)) ≡ accepted 9)
unfolding data_check checked tree_at header_at kind_of fields_at fields_read count_at run_at item_at items_at pairs_at contents_at judged filled_at fill_at members_at node_at name_at child_count count_of items_size fields_size name_size tree_size forest_size row_count forest_rows is_unnamed are_unnamed is_stamp_cluster is_stamp_inside be walked walk walk_all walk_fields scalar_at text_at array_at sizes_at sizes_fit product repeat number_at width_of
stamp-data = (refl, refl, refl, refl)

-- "Its one part, step 0, is that cluster"; no value at a stamp itself
pub stamp-parts : (located plain_stamp sample (0 ∷ []) ≡ record { answer = accepted 0; start = 0; length = 16 })
    × (located plain_stamp sample (1 ∷ []) ≡ no_part 30 4 0)
    × (located plain_stamp sample (0 ∷ 2 ∷ []) ≡ record { answer = accepted 0; start = 8; length = 4 })
    × ((read_value plain_stamp sample []).answer ≡ refusal 31 4 0)
    × ((read_value plain_stamp sample (0 ∷ [])).answer ≡ refusal 31 4 0)
    × ((read_value plain_stamp sample (0 ∷ 1 ∷ [])).value ≡ Signed (negsuc 0))
    × ((read_value plain_stamp sample (0 ∷ 2 ∷ [])).value ≡ Unsigned 0x80000000)
unfolding located read_value part_of spot_at step_at member_at number_of value_of is_value of_single of_double signed checked tree_at header_at kind_of fields_at fields_read count_at run_at item_at items_at pairs_at contents_at judged filled_at fill_at members_at node_at name_at child_count count_of items_size fields_size name_size tree_size forest_size row_count forest_rows is_unnamed are_unnamed is_stamp_cluster is_stamp_inside be walked walk walk_all walk_fields scalar_at text_at array_at sizes_at sizes_fit product repeat number_at width_of
stamp-parts = (refl, refl, refl, refl, refl, refl, refl)

-- the little-endian form: each of the four integers in the other order
pub stamp-turned : to_little_endian plain_stamp (1 ∷ 2 ∷ 3 ∷ 4 ∷ 5 ∷ 6 ∷ 7 ∷ 8 ∷ 9 ∷ 10 ∷ 11 ∷ 12 ∷ 13 ∷ 14 ∷ 15 ∷ 16 ∷ []) (replicate 16 0)
    ≡ record { answer = accepted 16; out = 4 ∷ 3 ∷ 2 ∷ 1 ∷ 8 ∷ 7 ∷ 6 ∷ 5 ∷ 12 ∷ 11 ∷ 10 ∷ 9 ∷ 16 ∷ 15 ∷ 14 ∷ 13 ∷ [] }
unfolding turned reversed reverse_token reverse_each number_count number_width written_to checked tree_at header_at kind_of fields_at fields_read count_at run_at item_at items_at pairs_at contents_at judged filled_at fill_at members_at node_at name_at child_count count_of items_size fields_size name_size tree_size forest_size row_count forest_rows is_unnamed are_unnamed is_stamp_cluster is_stamp_inside be walked walk walk_all walk_fields scalar_at text_at array_at sizes_at sizes_fit product repeat number_at width_of
stamp-turned = refl

-- the difference: accepted with seconds and fraction
abbrev is : ℤ → ℕ → Difference
is k f = record { answer = accepted 0; seconds = k; fraction = f }

pub differences : (difference (pos 0) (pos 1) 0 0 (pos 0) (pos 0) 0 0 ≡ is (pos 1) 0)
    -- one second is borrowed
    × (difference (pos 0) (pos 1) 0 0 (pos 0) (pos 0) 0 1 ≡ is (pos 0) 0xFFFFFFFFFFFFFFFF)
    × (difference (pos 0) (pos 0) 0 0 (pos 0) (pos 0) 0 1 ≡ is (negsuc 0) 0xFFFFFFFFFFFFFFFF)
    -- "The low half of the seconds counts by its bits"
    × (difference (pos 0) (negsuc 0) 0 0 (pos 0) (pos 0) 0 0 ≡ is (pos 0xFFFFFFFF) 0)
    × (difference (negsuc 0) (negsuc 0) 0 0 (pos 0) (pos 0) 0 0 ≡ is (negsuc 0) 0)
    -- the fraction's halves, high first
    × (difference (pos 0) (pos 0) 1 2 (pos 0) (pos 0) 0 0 ≡ is (pos 0) 0x100000002)
    -- the greatest and the least, and one more than each: judged after the borrow
    × (difference (pos 0x7FFFFFFF) (negsuc 0) 0 0 (pos 0) (pos 0) 0 0 ≡ is (pos 0x7FFFFFFFFFFFFFFF) 0)
    × (difference (pos 0x7FFFFFFF) (negsuc 0) 0 0 (negsuc 0) (negsuc 0) 0 0 ≡ too_far)
    × (difference (pos 0x7FFFFFFF) (negsuc 0) 0 0 (negsuc 0) (negsuc 0) 0 1 ≡ is (pos 0x7FFFFFFFFFFFFFFF) 0xFFFFFFFFFFFFFFFF)
    × (difference (negsuc 0x7FFFFFFF) (pos 0) 0 0 (pos 0) (pos 0) 0 0 ≡ is (negsuc 0x7FFFFFFFFFFFFFFF) 0)
    × (difference (negsuc 0x7FFFFFFF) (pos 0) 0 0 (pos 0) (pos 0) 0 1 ≡ too_far)
    -- each of the eight integers in its place
    × (difference (pos 5) (pos 6) 7 8 (pos 1) (pos 2) 3 4 ≡ is (pos 0x400000004) 0x400000004)
    × (too_far ≡ record { answer = refusal 32 4 0; seconds = pos 0; fraction = 0 })
unfolding difference bits_of is_signed
differences = (refl, refl, refl, refl, refl, refl, refl, refl, refl, refl, refl, refl, refl)

-- "A 54 as a record's top is no cluster": the rig's under a reader of an unsigned 32-bit "id", and the reader's
pub stamp-tops : (resolved plain_stamp (0x00 ∷ 0x0E ∷ 0x00 ∷ 0x50 ∷ 0x00 ∷ 0x01 ∷ 0x00 ∷ 0x08 ∷ 0x00 ∷ 0x07 ∷ 0x02 ∷ 0x69 ∷ 0x64 ∷ 0x00 ∷ []) sample (replicate 4 7) ≡ unwritten (replicate 4 7) 41 1 0)
    × (resolved p5 plain_stamp (replicate 6 0) (replicate 4 7) ≡ unwritten (replicate 4 7) 40 2 0)
unfolding resolved record_bytes members_from writer_fields is_among reader_names reader_fields checked tree_at header_at kind_of fields_at fields_read count_at run_at item_at items_at pairs_at contents_at judged filled_at fill_at members_at node_at name_at child_count count_of items_size fields_size name_size tree_size forest_size row_count forest_rows is_unnamed are_unnamed is_stamp_cluster is_stamp_inside be walked walk walk_all walk_fields scalar_at text_at array_at sizes_at sizes_fit product repeat number_at width_of same_list same_name items_of pairs_of same_tree same_forest
stamp-tops = (refl, refl)
