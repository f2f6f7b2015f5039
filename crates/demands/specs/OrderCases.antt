-- Orders, inputs and counts by hand, from document 01's "Order" and "The numbers it answers": which refusal comes first where the bytes that would earn the
-- other are cut, where both inputs of a question are at fault or the later one is too long, the same in the little-endian form, and how many pieces and
-- numbers there are. Each is computed by the definitions.
use Rattle.std.specs.Prelude.{◌≡◌, refl, List, [], ◌∷◌, ◌++◌, ℕ, zero, suc, replicate}
use Rattle.number.specs.Endian.{be, be_bytes, le, le_bytes}
use Rattle.descriptor.specs.Codes.{kind_of}
use Rattle.descriptor.specs.Tree.{child_count, count_of, items_size, fields_size, name_size, tree_size, forest_size, row_count, forest_rows}
use Rattle.descriptor.specs.Check.{header_at, count_at, run_at, item_at, items_at, pairs_at, fields_read, judged, contents_at, fill_at, filled_at, fields_at, members_at, name_at, node_at, tree_at, checked}
use Rattle.descriptor.specs.Answers.{refusal, accepted, descriptor_check}
use Rattle.descriptor.specs.Output.{unwritten, written_to}
use Rattle.descriptor.specs.Width.{width_of}
use Rattle.canonical.specs.Equality.{same_list, same_name, items_of, pairs_of, same_tree, same_forest, not_compared, comparison}
use Rattle.flattened.specs.Order.{number_at}
use Rattle.flattened.specs.Walk.{scalar_at, text_at, sizes_at, sizes_fit, product, array_at, repeat, walk_fields, walk, walk_all, walked}
use Rattle.flattened.specs.Answers.{data_check}
use Rattle.byte_order.specs.Reversal.{reverse_each, number_count, number_width, reverse_token, reversed, turned, to_little_endian, from_little_endian}
use Rattle.access.specs.Path.{member_at, step_at, spot_at, no_part, part_of, located}
use Rattle.reading.specs.Values.{of_single, of_double, value_of, is_value, number_of, no_value, read_value}
use Rattle.resolution.specs.Record.{members_from, writer_fields, is_among, reader_names, reader_fields, matches, namesakes, searched, search_number, member_found, member_bytes, joined_bytes, record_bytes, resolved}
use Rattle.demands.specs.Cases.{p1, rig, room}
use Rattle.demands.specs.DataCases.{few, scalar}
use Rattle.demands.specs.Refusals.{answer}

-- more bytes than a descriptor may have, and more than data may
abbrev long : List ℕ
long = replicate 4097 0

abbrev huge : List ℕ
huge = replicate 65537 0

-- P1 with a byte after it: 12 at 4
abbrev more : List ℕ
more = p1 ++ (0x00 ∷ [])

-- "At each descriptor .. 2 to 7": 2 where fewer than 4 bytes are left, with a high bit among them or a size that would fit; 4 for the greatest size without
-- the high bit, odd or even, 3 for the least with it; 4 for sizes under 4
pub header-order : (answer (0x80 ∷ []) ≡ refusal 2 1 0)
    × (answer (0x80 ∷ 0x04 ∷ 0x00 ∷ []) ≡ refusal 2 1 0)
    × (answer (0x00 ∷ 0x04 ∷ 0x00 ∷ []) ≡ refusal 2 1 0)
    × (answer (0x00 ∷ 0x08 ∷ 0x00 ∷ 0x50 ∷ 0x00 ∷ 0x01 ∷ 0x80 ∷ 0x04 ∷ []) ≡ refusal 2 1 6)
    × (answer (0x7F ∷ 0xFE ∷ 0x00 ∷ 0x03 ∷ []) ≡ refusal 4 1 0)
    × (answer (0x7F ∷ 0xFF ∷ 0x00 ∷ 0x03 ∷ []) ≡ refusal 4 1 0)
    × (answer (0x80 ∷ 0x00 ∷ 0x00 ∷ 0x03 ∷ []) ≡ refusal 3 1 0)
    × (answer (0x00 ∷ 0x02 ∷ 0x00 ∷ 0x03 ∷ []) ≡ refusal 4 1 0)
    × (answer (0x00 ∷ 0x00 ∷ 0x00 ∷ 0x03 ∷ []) ≡ refusal 4 1 0)
unfolding be be_bytes kind_of child_count count_of items_size fields_size name_size tree_size forest_size row_count forest_rows header_at count_at run_at item_at items_at pairs_at fields_read judged contents_at fill_at filled_at fields_at members_at name_at node_at tree_at checked descriptor_check answer
header-order = (refl, refl, refl, refl, refl, refl, refl, refl, refl)

-- an enumeration in 16 bits with the items "a" and "bc", and its fill byte: 000C 0016 0002 01'a' 02'bc' 00
abbrev pair : List ℕ
pair = 0x00 ∷ 0x0C ∷ 0x00 ∷ 0x16 ∷ 0x00 ∷ 0x02 ∷ 0x01 ∷ 0x61 ∷ 0x02 ∷ 0x62 ∷ 0x63 ∷ 0x00 ∷ []

-- a string
abbrev words : List ℕ
words = 0x00 ∷ 0x08 ∷ 0x00 ∷ 0x30 ∷ replicate 4 0xFF

-- an array of two dimensions, of P1
abbrev plane : List ℕ
plane = 0x00 ∷ 0x12 ∷ 0x00 ∷ 0x40 ∷ 0x00 ∷ 0x02 ∷ (replicate 8 0xFF ++ p1)

-- "piece by piece 21, 22, 23", where the cut bytes alone would earn 22 or 23
pub cut-order : ((descriptor_check pair).answer ≡ accepted 1)
    × (data_check pair (0xFF ∷ []) ≡ refusal 21 3 0)
    × (data_check pair (0x00 ∷ 0x02 ∷ []) ≡ refusal 23 3 0)
    × (data_check pair (0x00 ∷ 0x01 ∷ []) ≡ accepted 1)
    × (data_check words (0x80 ∷ []) ≡ refusal 21 3 0)
    × (data_check words (0x80 ∷ 0x00 ∷ 0x00 ∷ []) ≡ refusal 21 3 0)
unfolding be be_bytes kind_of child_count count_of items_size fields_size name_size tree_size forest_size row_count forest_rows header_at count_at run_at item_at items_at pairs_at fields_read judged contents_at fill_at filled_at fields_at members_at name_at node_at tree_at checked descriptor_check width_of number_at scalar_at text_at sizes_at sizes_fit product array_at repeat walk_fields walk walk_all walked data_check
cut-order = (refl, refl, refl, refl, refl, refl)

-- "A piece is one scalar, one whole string, or the size words of one array": a complex number is one piece, and so is a string
pub piece-counts : (data_check (scalar 0x0C) (replicate 8 0) ≡ accepted 1)
    × (data_check (scalar 0x0E) (replicate 32 0) ≡ accepted 1)
    × (data_check words (few 2 ++ (0x41 ∷ 0x42 ∷ [])) ≡ accepted 1)
    × (data_check words (few 0) ≡ accepted 1)
    × (data_check plane (few 1 ++ (few 2 ++ replicate 8 0)) ≡ accepted 3)
unfolding be be_bytes kind_of child_count count_of items_size fields_size name_size tree_size forest_size row_count forest_rows header_at count_at run_at item_at items_at pairs_at fields_read judged contents_at fill_at filled_at fields_at members_at name_at node_at tree_at checked width_of number_at scalar_at text_at sizes_at sizes_fit product array_at repeat walk_fields walk walk_all walked data_check
piece-counts = (refl, refl, refl, refl, refl)

-- "its refusals are those of the walk with these words read reversed"
pub little-refusals : (from_little_endian pair (0x02 ∷ []) (room 2) ≡ unwritten (room 2) 21 3 0)
    × (from_little_endian pair (0x02 ∷ 0x00 ∷ []) (room 2) ≡ unwritten (room 2) 23 3 0)
    × (from_little_endian pair (0x00 ∷ 0x01 ∷ []) (room 2) ≡ unwritten (room 2) 23 3 0)
    × (from_little_endian pair (0x01 ∷ 0x00 ∷ []) (room 1) ≡ unwritten (room 1) 50 4 2)
    × (from_little_endian words (0x00 ∷ 0x00 ∷ 0x80 ∷ []) (room 4) ≡ unwritten (room 4) 21 3 0)
    × (from_little_endian words (0x02 ∷ 0x00 ∷ 0x00 ∷ 0x00 ∷ 0x41 ∷ []) (room 5) ≡ unwritten (room 5) 21 3 0)
    × (from_little_endian words (0x01 ∷ 0x00 ∷ 0x00 ∷ 0x00 ∷ 0x41 ∷ 0x42 ∷ []) (room 6) ≡ unwritten (room 6) 25 3 5)
    × (from_little_endian plane (replicate 4 0 ++ (0x00 ∷ 0x00 ∷ 0x00 ∷ 0x80 ∷ [])) (room 8) ≡ unwritten (room 8) 22 3 0)
    × (from_little_endian plane (0x00 ∷ 0x00 ∷ 0x00 ∷ 0x80 ∷ []) (room 8) ≡ unwritten (room 8) 21 3 0)
    × (from_little_endian p1 huge (room 4) ≡ unwritten (room 4) 20 3 0)
    × (from_little_endian more (few 1) (room 4) ≡ unwritten (room 4) 12 1 4)
unfolding be be_bytes le le_bytes kind_of child_count count_of items_size fields_size name_size tree_size forest_size row_count forest_rows header_at count_at run_at item_at items_at pairs_at fields_read judged contents_at fill_at filled_at fields_at members_at name_at node_at tree_at checked width_of number_at scalar_at text_at sizes_at sizes_fit product array_at repeat walk_fields walk walk_all walked written_to reverse_each number_count number_width reverse_token reversed turned
little-refusals = (refl, refl, refl, refl, refl, refl, refl, refl, refl, refl, refl)

-- "Between inputs: rig, reader, data, path": an input is judged to its end before the length of the next, and a comparison names the one at fault
pub input-order : (comparison more long ≡ not_compared 12 1 4)
    × (comparison long more ≡ not_compared 1 1 0)
    × (comparison p1 long ≡ not_compared 1 2 0)
    × (comparison p1 more ≡ not_compared 12 2 4)
    × (comparison more more ≡ not_compared 12 1 4)
    × (data_check more huge ≡ refusal 12 1 4)
    × (data_check long huge ≡ refusal 1 1 0)
    × (to_little_endian more huge [] ≡ unwritten [] 12 1 4)
    × (from_little_endian more huge [] ≡ unwritten [] 12 1 4)
    × (located more huge (9 ∷ []) ≡ no_part 12 1 4)
    × (located p1 huge (9 ∷ []) ≡ no_part 20 3 0)
    × (read_value more huge (9 ∷ []) ≡ no_value 12 1 4)
    × (read_value p1 huge (9 ∷ []) ≡ no_value 20 3 0)
    × (resolved long long huge [] ≡ unwritten [] 1 1 0)
    × (resolved more long huge [] ≡ unwritten [] 12 1 4)
    × (resolved rig long huge [] ≡ unwritten [] 1 2 0)
    × (resolved rig more huge [] ≡ unwritten [] 12 2 4)
    × (resolved rig p1 huge [] ≡ unwritten [] 20 3 0)
unfolding be be_bytes le le_bytes kind_of child_count count_of items_size fields_size name_size tree_size forest_size row_count forest_rows header_at count_at run_at item_at items_at pairs_at fields_read judged contents_at fill_at filled_at fields_at members_at name_at node_at tree_at checked same_list same_name items_of pairs_of same_tree same_forest comparison width_of number_at scalar_at text_at sizes_at sizes_fit product array_at repeat walk_fields walk walk_all walked data_check written_to reverse_each number_count number_width reverse_token reversed turned member_at step_at spot_at part_of located of_single of_double value_of is_value number_of read_value members_from writer_fields is_among reader_names reader_fields matches namesakes searched search_number member_found member_bytes joined_bytes record_bytes resolved
input-order = (refl, refl, refl, refl, refl, refl, refl, refl, refl, refl, refl, refl, refl, refl, refl, refl, refl, refl)

-- how many numbers a scalar of each of n codes in a row is, from `low` on, and how wide each is
unfoldable pub counts : ℕ → ℕ → List ℕ
counts zero low = []
counts (suc n) low = number_count low ∷ counts n (suc low)

unfoldable pub number_widths : ℕ → ℕ → List ℕ
number_widths zero low = []
number_widths (suc n) low = number_width low ∷ number_widths n (suc low)

-- "half of a complex number": 0C to 0E and 1C to 1E are two, of 4, 8 and 16 bytes; all others are one
pub number_counts : (counts 256 0 ≡ replicate 12 1 ++ (2 ∷ 2 ∷ 2 ∷ (replicate 13 1 ++ (2 ∷ 2 ∷ 2 ∷ replicate 225 1))))
    × (number_widths 256 0
    ≡ 0 ∷ 1 ∷ 2 ∷ 4 ∷ 8 ∷ 1 ∷ 2 ∷ 4 ∷ 8 ∷ 4 ∷ 8 ∷ 16 ∷ 4 ∷ 8 ∷ 16 ∷ (replicate 6 0 ++ (1 ∷ 2 ∷ 4 ∷ 0 ∷ 4 ∷ 8 ∷ 16 ∷ 4 ∷ 8 ∷ 16 ∷ 0 ∷ 0 ∷ 1 ∷ replicate 222 0)))
unfolding width_of number_count number_width counts number_widths
number_counts = (refl, refl)
