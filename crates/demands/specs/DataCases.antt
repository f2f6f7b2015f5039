-- Data by hand, beside P9 to P12: the place of each refusal of data, document 01's order where two could be given, parts and values by path,
-- their kinds and bits for callers in C, and the byte order. Each fact is computed from the definitions, so that a number, a place, an order or a
-- part that is changed in a definition and in the code alike is noticed here.
-- The public entries whose contracts use these definitions are check_data, locate, read_value, to_little_endian and from_little_endian.
use Rattle.std.specs.Prelude.{◌≡◌, refl, List, [], ◌∷◌, ◌++◌, ℕ, zero, suc, replicate}
use Rattle.std.specs.Float.Ieee.{nan_bits}
use Rattle.number.specs.Endian.{be, be_bytes, le, le_bytes}
use Rattle.number.specs.Signed.{signed}
use Rattle.number.specs.Float.{single_of, double_of}
use Rattle.descriptor.specs.Codes.{kind_of}
use Rattle.descriptor.specs.Tree.{child_count, count_of, items_size, fields_size, name_size, tree_size, forest_size, row_count, forest_rows}
use Rattle.descriptor.specs.Check.{header_at, count_at, run_at, item_at, items_at, pairs_at, fields_read, judged, contents_at, fill_at, filled_at, fields_at, members_at, name_at, node_at, tree_at, checked}
use Rattle.descriptor.specs.Answers.{refusal, accepted}
use Rattle.descriptor.specs.Output.{Written, unwritten, written_to}
use Rattle.descriptor.specs.Width.{width_of}
use Rattle.descriptor.specs.declared.answer.Answer.{Answer}
use Rattle.flattened.specs.Order.{number_at}
use Rattle.flattened.specs.Walk.{scalar_at, text_at, sizes_at, sizes_fit, product, array_at, repeat, walk_fields, walk, walk_all, walked}
use Rattle.flattened.specs.Answers.{data_check}
use Rattle.byte_order.specs.Reversal.{reverse_each, number_count, number_width, reverse_token, reversed, turned, to_little_endian, from_little_endian}
use Rattle.access.specs.Path.{member_at, step_at, spot_at, no_part, part_of, located}
use Rattle.reading.specs.Values.{of_single, of_double, value_of, is_value, number_of, no_value, read_value, value_kind, complement, value_bits}
use Rattle.access.specs.declared.part.Part.{Part}
use Rattle.demands.specs.Cases.{p1, p5, p6, room}

-- 0004 00cc
abbrev pub scalar : ℕ → List ℕ
scalar code = 0x00 ∷ 0x04 ∷ 0x00 ∷ code ∷ []

-- 0008 0030 FFFF FFFF: a string
abbrev words : List ℕ
words = 0x00 ∷ 0x08 ∷ 0x00 ∷ 0x30 ∷ replicate 4 0xFF

-- 0012 0050 0002 0004 0002 0008 0030 FFFF FFFF: a 16-bit number and a string
abbrev note : List ℕ
note = 0x00 ∷ 0x12 ∷ 0x00 ∷ 0x50 ∷ 0x00 ∷ 0x02 ∷ (scalar 0x02 ++ words)

-- 000E 0040 0001 FFFF FFFF 0004 0021: Booleans
abbrev flags : List ℕ
flags = 0x00 ∷ 0x0E ∷ 0x00 ∷ 0x40 ∷ 0x00 ∷ 0x01 ∷ (replicate 4 0xFF ++ scalar 0x21)

-- 000A 001A 0001 0002 0001: a double in a unit
abbrev measure : List ℕ
measure = 0x00 ∷ 0x0A ∷ 0x00 ∷ 0x1A ∷ 0x00 ∷ 0x01 ∷ 0x00 ∷ 0x02 ∷ 0x00 ∷ 0x01 ∷ []

-- 0012 0040 0002 FFFF FFFF FFFF FFFF 0004 0003: two dimensions of 32-bit numbers
abbrev plane : List ℕ
plane = 0x00 ∷ 0x12 ∷ 0x00 ∷ 0x40 ∷ 0x00 ∷ 0x02 ∷ (replicate 8 0xFF ++ p1)

-- 002C 0040 0004 and sixteen FF followed by P6: four dimensions of enumerations
abbrev items : List ℕ
items = 0x00 ∷ 0x2C ∷ 0x00 ∷ 0x40 ∷ 0x00 ∷ 0x04 ∷ (replicate 16 0xFF ++ p6)

-- the largest size word, 7FFF FFFF, and the smallest that is refused, 8000 0000
abbrev most : List ℕ
most = 0x7F ∷ 0xFF ∷ 0xFF ∷ 0xFF ∷ []

abbrev over : List ℕ
over = 0x80 ∷ 0x00 ∷ 0x00 ∷ 0x00 ∷ []

-- a size or length word below 256
abbrev pub few : ℕ → List ℕ
few n = 0x00 ∷ 0x00 ∷ 0x00 ∷ n ∷ []

-- refused at a place of the data
abbrev at : ℕ → ℕ → Answer
at number place = refusal number 3 place

-- 21 "data ends inside a piece", 22 "a length or size of 2^31 or more", 23 "enumeration too high", each at "piece start"; 25, "bytes left over", at
-- "first of them"; 20, "data over 65,536 bytes", at 0. Document 02, CR 2: "24 is no longer given".
pub data-places : (data_check p5 (0xFF ∷ 0xFE ∷ 0x00 ∷ 0x00 ∷ 0x00 ∷ []) ≡ at 21 2)
    × (data_check p5 (0xFF ∷ 0xFE ∷ []) ≡ at 21 2)
    × (data_check words (0x00 ∷ 0x00 ∷ 0x00 ∷ []) ≡ at 21 0)
    × (data_check words (few 2 ++ (0x41 ∷ [])) ≡ at 21 0)
    × (data_check words over ≡ at 22 0)
    × (data_check note (0x00 ∷ 0x01 ∷ (few 2 ++ (0x41 ∷ []))) ≡ at 21 2)
    × (data_check note (0x00 ∷ 0x01 ∷ over) ≡ at 22 2)
    -- three items: 0 to 2
    × (data_check p6 (2 ∷ []) ≡ accepted 1)
    × (data_check p6 (3 ∷ []) ≡ at 23 0)
    × (data_check (scalar 0x21) (1 ∷ []) ≡ accepted 1)
    × (data_check (scalar 0x21) (2 ∷ []) ≡ accepted 1)
    × (data_check flags (few 3 ++ (0 ∷ 1 ∷ 0xFF ∷ [])) ≡ accepted 4)
    -- a number with a unit: any bytes, as many as its code has
    × (data_check measure (replicate 8 0xFF) ≡ accepted 1)
    × (data_check measure (replicate 7 0xFF) ≡ at 21 0)
    × (data_check p1 (replicate 5 0) ≡ at 25 4)
    × (data_check flags (few 1 ++ (1 ∷ 0 ∷ [])) ≡ at 25 5)
    × (data_check p1 (replicate 65537 0) ≡ at 20 0)
unfolding be be_bytes le le_bytes kind_of child_count count_of items_size fields_size name_size tree_size forest_size row_count forest_rows header_at count_at run_at item_at items_at pairs_at fields_read judged contents_at fill_at filled_at fields_at members_at name_at node_at tree_at checked width_of number_at scalar_at text_at sizes_at sizes_fit product array_at repeat walk_fields walk walk_all walked data_check
data-places = (refl, refl, refl, refl, refl, refl, refl, refl, refl, refl, refl, refl, refl, refl, refl, refl, refl)

-- "In data: 20, then piece by piece 21, 22, 23, .., then 25; all size words of an array, or the length word of a string, must be present (21)
-- before 22 is judged"
pub data-order : (data_check [] [] ≡ refusal 2 1 0)
    × (data_check plane over ≡ at 21 0)
    × (data_check plane (over ++ few 0) ≡ at 22 0)
    × (data_check plane (few 0 ++ over) ≡ at 22 0)
    × (data_check plane (most ++ few 0) ≡ accepted 1)
    × (data_check flags (few 3 ++ (0 ∷ 2 ∷ [])) ≡ at 21 6)
    × (data_check (scalar 0x21) (2 ∷ 0 ∷ []) ≡ at 25 1)
    -- four sizes of 7FFF FFFF: the first element is refused, or the one that is cut
    × (data_check items (most ++ (most ++ (most ++ (most ++ (3 ∷ []))))) ≡ at 23 16)
    × (data_check items (most ++ (most ++ (most ++ (most ++ (2 ∷ []))))) ≡ at 21 17)
unfolding be be_bytes le le_bytes kind_of child_count count_of items_size fields_size name_size tree_size forest_size row_count forest_rows header_at count_at run_at item_at items_at pairs_at fields_read judged contents_at fill_at filled_at fields_at members_at name_at node_at tree_at checked width_of number_at scalar_at text_at sizes_at sizes_fit product array_at repeat walk_fields walk walk_all walked data_check
data-order = (refl, refl, refl, refl, refl, refl, refl, refl, refl)

-- a part by where it starts and its length
abbrev part : ℕ → ℕ → Part
part start length = record { answer = accepted 0; start = start; length = length }

-- P9's data, FFFE 0000 0001
abbrev two : List ℕ
two = 0xFF ∷ 0xFE ∷ few 1

-- 0001 0000 0002 4142
abbrev noted : List ℕ
noted = 0x00 ∷ 0x01 ∷ (few 2 ++ (0x41 ∷ 0x42 ∷ []))

-- "the answer is that part of the lent data, length and size words included"; 30, "step out of range, or on a type without parts", at "step number,
-- from 0"
pub parts : (located p5 two [] ≡ part 0 6)
    × (located p5 two (1 ∷ []) ≡ part 2 4)
    × (located note noted (1 ∷ []) ≡ part 2 6)
    × (located flags (few 2 ++ (0 ∷ 1 ∷ [])) [] ≡ part 0 6)
    × (located flags (few 2 ++ (0 ∷ 1 ∷ [])) (1 ∷ []) ≡ part 5 1)
    -- two rows of two, the last
    × (located plane (few 2 ++ (few 2 ++ replicate 16 0)) (3 ∷ []) ≡ part 20 4)
    × (located p5 two (2 ∷ []) ≡ no_part 30 4 0)
    × (located p5 two (1 ∷ 0 ∷ []) ≡ no_part 30 4 1)
    × (located flags (few 2 ++ (0 ∷ 1 ∷ [])) (2 ∷ []) ≡ no_part 30 4 0)
    × (located words (few 1 ++ (0x41 ∷ [])) (0 ∷ []) ≡ no_part 30 4 0)
    -- "Between inputs: rig, reader, data, path"
    × (located [] two (9 ∷ []) ≡ no_part 2 1 0)
    × (located p5 (0xFF ∷ 0xFE ∷ []) (9 ∷ []) ≡ no_part 21 3 2)
unfolding be be_bytes le le_bytes kind_of child_count count_of items_size fields_size name_size tree_size forest_size row_count forest_rows header_at count_at run_at item_at items_at pairs_at fields_read judged contents_at fill_at filled_at fields_at members_at name_at node_at tree_at checked width_of number_at scalar_at text_at sizes_at sizes_fit product array_at repeat walk_fields walk walk_all walked member_at step_at spot_at part_of located
parts = (refl, refl, refl, refl, refl, refl, refl, refl, refl, refl, refl, refl)

-- 31, "no single number there (string, array, cluster, extended, complex)", at 0
pub no-values : (read_value words (few 0) [] ≡ no_value 31 4 0)
    × (read_value flags (few 0) [] ≡ no_value 31 4 0)
    × (read_value p5 two [] ≡ no_value 31 4 0)
    × (read_value (scalar 0x0B) (replicate 16 0) [] ≡ no_value 31 4 0)
    × (read_value (scalar 0x0C) (replicate 8 0) [] ≡ no_value 31 4 0)
    × (read_value note noted (1 ∷ []) ≡ no_value 31 4 0)
    × (read_value note noted (1 ∷ 0 ∷ []) ≡ no_value 30 4 1)
    × (read_value p5 (0xFF ∷ 0xFE ∷ []) (9 ∷ []) ≡ no_value 21 3 2)
unfolding be be_bytes le le_bytes signed single_of double_of nan_bits kind_of child_count count_of items_size fields_size name_size tree_size forest_size row_count forest_rows header_at count_at run_at item_at items_at pairs_at fields_read judged contents_at fill_at filled_at fields_at members_at name_at node_at tree_at checked width_of number_at scalar_at text_at sizes_at sizes_fit product array_at repeat walk_fields walk walk_all walked member_at step_at spot_at of_single of_double value_of is_value number_of read_value
no-values = (refl, refl, refl, refl, refl, refl, refl, refl)

-- the kinds of the values of n codes in a row, from `low` on, whose bytes are all zero
unfoldable pub kinds_of : ℕ → ℕ → List ℕ
kinds_of zero low = []
kinds_of (suc n) low = value_kind (value_of low 0) ∷ kinds_of n (suc low)

-- "01 to 04 signed; 05 to 08 and 15 to 17 unsigned; 09, 19 and 0A, 1A by their exact bits; 21 a flag": to C, 0 no value, 1 unsigned, 2 signed,
-- 3 single, 4 double, 5 flag
pub value-kinds : (kinds_of 35 0
    ≡ 0 ∷ 2 ∷ 2 ∷ 2 ∷ 2 ∷ 1 ∷ 1 ∷ 1 ∷ 1 ∷ 3 ∷ 4 ∷ (replicate 10 0 ++ (1 ∷ 1 ∷ 1 ∷ 0 ∷ 3 ∷ 4 ∷ (replicate 6 0 ++ (5 ∷ 0 ∷ [])))))
    -- NaN, by its bits
    × (value_kind (value_of 0x09 0x7FC00001) ≡ 3)
    × (value_bits (value_of 0x09 0x7FC00001) ≡ 0x7FC00001)
    × (value_kind (value_of 0x1A 0xFFF8000000000003) ≡ 4)
    × (value_bits (value_of 0x1A 0xFFF8000000000003) ≡ 0xFFF8000000000003)
    -- a signed number in all 64 bits, an unsigned one as it is
    × (value_bits (value_of 0x01 0xFE) ≡ 0xFFFFFFFFFFFFFFFE)
    × (value_bits (value_of 0x02 0x7FFF) ≡ 0x7FFF)
    × (value_bits (value_of 0x05 0xFE) ≡ 0xFE)
    × (value_bits (value_of 0x21 1) ≡ 1)
unfolding signed single_of double_of nan_bits width_of of_single of_double value_of value_kind complement value_bits kinds_of
value-kinds = (refl, refl, refl, refl, refl, refl, refl, refl, refl)

-- accepted with n bytes written
abbrev pub wrote : ℕ → List ℕ → Written
wrote n out = record { answer = accepted n; out = out }

-- "each integer, enumeration, real number, half of a complex number, string length and size word. Booleans and characters stay."; 50, "output too
-- small", at "length needed", last
pub turned-data : (to_little_endian (scalar 0x0C) (few 1 ++ few 2) (room 9) ≡ wrote 8 (0x01 ∷ 0 ∷ 0 ∷ 0 ∷ 0x02 ∷ 0 ∷ 0 ∷ 0 ∷ 238 ∷ []))
    × (to_little_endian note (0x01 ∷ 0x02 ∷ (few 2 ++ (0x41 ∷ 0x42 ∷ []))) (room 8) ≡ wrote 8 (0x02 ∷ 0x01 ∷ 0x02 ∷ 0 ∷ 0 ∷ 0 ∷ 0x41 ∷ 0x42 ∷ []))
    × (from_little_endian note (0x02 ∷ 0x01 ∷ 0x02 ∷ 0 ∷ 0 ∷ 0 ∷ 0x41 ∷ 0x42 ∷ []) (room 8) ≡ wrote 8 (0x01 ∷ 0x02 ∷ (few 2 ++ (0x41 ∷ 0x42 ∷ []))))
    × (to_little_endian flags (few 2 ++ (0 ∷ 1 ∷ [])) (room 6) ≡ wrote 6 (0x02 ∷ 0 ∷ 0 ∷ 0 ∷ 0 ∷ 1 ∷ []))
    × (to_little_endian measure (1 ∷ 2 ∷ 3 ∷ 4 ∷ 5 ∷ 6 ∷ 7 ∷ 8 ∷ []) (room 8) ≡ wrote 8 (8 ∷ 7 ∷ 6 ∷ 5 ∷ 4 ∷ 3 ∷ 2 ∷ 1 ∷ []))
    × (to_little_endian p5 two (room 5) ≡ unwritten (room 5) 50 4 6)
    × (to_little_endian p5 (0xFF ∷ 0xFE ∷ []) [] ≡ unwritten [] 21 3 2)
    × (from_little_endian words (0x00 ∷ 0x00 ∷ 0x00 ∷ 0x80 ∷ []) (room 4) ≡ unwritten (room 4) 22 3 0)
    × (from_little_endian flags (0x01 ∷ 0 ∷ 0 ∷ 0 ∷ 2 ∷ []) (room 5) ≡ wrote 5 (0 ∷ 0 ∷ 0 ∷ 0x01 ∷ 2 ∷ []))
unfolding be be_bytes le le_bytes kind_of child_count count_of items_size fields_size name_size tree_size forest_size row_count forest_rows header_at count_at run_at item_at items_at pairs_at fields_read judged contents_at fill_at filled_at fields_at members_at name_at node_at tree_at checked width_of number_at scalar_at text_at sizes_at sizes_fit product array_at repeat walk_fields walk walk_all walked written_to reverse_each number_count number_width reverse_token reversed turned
turned-data = (refl, refl, refl, refl, refl, refl, refl, refl, refl)
