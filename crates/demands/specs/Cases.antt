-- Document 01, "Checked by hand": the rows marked P, P1 to P12, as one fact that is computed from the definitions.
-- The public entries whose contracts use these definitions are check_descriptor and compare, and those of the questions about data.
use Rattle.std.specs.Prelude.{◌≡◌, refl, Bool, true, false, List, [], ◌∷◌, ℕ, replicate, negsuc}
use Rattle.number.specs.Endian.{be, be_bytes}
use Rattle.number.specs.Signed.{signed}
use Rattle.descriptor.specs.Codes.{kind_of}
use Rattle.descriptor.specs.Tree.{child_count, count_of, items_size, fields_size, name_size, tree_size, forest_size, row_count, forest_rows}
use Rattle.descriptor.specs.Check.{header_at, count_at, run_at, item_at, items_at, pairs_at, fields_read, judged, contents_at, fill_at, filled_at, fields_at, members_at, name_at, node_at, tree_at, checked}
use Rattle.descriptor.specs.Table.{place_of_name, length_of_name, row_of, rows_of, forest_rows_of, table_of}
use Rattle.descriptor.specs.Answers.{refusal, accepted, Tabled, no_rows, descriptor_check, with_table}
use Rattle.descriptor.specs.Output.{unwritten, written_to}
use Rattle.descriptor.specs.declared.answer.Row.{Row}
use Rattle.canonical.specs.Equality.{same_list, same_name, items_of, pairs_of, same_tree, same_forest, comparison}
use Rattle.canonical.specs.declared.Compared.{Compared}
use Rattle.descriptor.specs.Width.{width_of}
use Rattle.flattened.specs.Order.{number_at}
use Rattle.flattened.specs.Walk.{scalar_at, text_at, sizes_at, sizes_fit, product, array_at, repeat, walk_fields, walk, walk_all, walked}
use Rattle.flattened.specs.Answers.{data_check}
use Rattle.byte_order.specs.Reversal.{reverse_each, number_count, number_width, reverse_token, reversed, turned, to_little_endian}
use Rattle.access.specs.Path.{member_at, step_at, spot_at}
use Rattle.reading.specs.Values.{of_single, of_double, value_of, is_value, number_of, read_value}
use Rattle.reading.specs.declared.value.Value.TheVariants.{Unsigned, Signed}
use Rattle.resolution.specs.Record.{members_from, writer_fields, is_among, reader_names, reader_fields, matches, namesakes, searched, search_number, member_found, member_bytes, joined_bytes, record_bytes, resolved}

-- a row by its seven numbers, in document 01's order
abbrev pub row : ℕ → ℕ → ℕ → ℕ → ℕ → ℕ → ℕ → Row
row code start size depth count place length =
    record { code = code; start = start; size = size; depth = depth; count = count; name_place = place; name_length = length }

-- an accepted descriptor with these rows
abbrev pub with_rows : ℕ → List Row → Tabled
with_rows n rows = record { answer = accepted n; rows = rows }

abbrev equal_is : Bool → Compared
equal_is b = record { answer = accepted 0; equal = b }

-- 0004 0003
abbrev pub p1 : List ℕ
p1 = 0x00 ∷ 0x04 ∷ 0x00 ∷ 0x03 ∷ []

-- 000E 0040 0001 FFFF FFFF 0004 000A
abbrev p4 : List ℕ
p4 = 0x00 ∷ 0x0E ∷ 0x00 ∷ 0x40 ∷ 0x00 ∷ 0x01 ∷ 0xFF ∷ 0xFF ∷ 0xFF ∷ 0xFF ∷ 0x00 ∷ 0x04 ∷ 0x00 ∷ 0x0A ∷ []

-- 000E 0050 0002 0004 0002 0004 0007
abbrev pub p5 : List ℕ
p5 = 0x00 ∷ 0x0E ∷ 0x00 ∷ 0x50 ∷ 0x00 ∷ 0x02 ∷ 0x00 ∷ 0x04 ∷ 0x00 ∷ 0x02 ∷ 0x00 ∷ 0x04 ∷ 0x00 ∷ 0x07 ∷ []

-- 0016 0015 0003 0261 6D02 666D 0966 6D20 7374 6572 656F
abbrev pub p6 : List ℕ
p6 =
    0x00 ∷ 0x16 ∷ 0x00 ∷ 0x15 ∷ 0x00 ∷ 0x03 ∷ 0x02 ∷ 0x61 ∷ 0x6D ∷ 0x02 ∷ 0x66 ∷ 0x6D ∷ 0x09 ∷ 0x66 ∷ 0x6D ∷ 0x20 ∷ 0x73 ∷ 0x74 ∷ 0x65 ∷ 0x72 ∷ 0x65 ∷ 0x6F ∷ []

-- 0018 0040 0001 FFFF FFFF followed by P4
abbrev p7 : List ℕ
p7 = 0x00 ∷ 0x18 ∷ 0x00 ∷ 0x40 ∷ 0x00 ∷ 0x01 ∷ 0xFF ∷ 0xFF ∷ 0xFF ∷ 0xFF ∷ p4

-- the data of P9, FFFE 0000 0001
abbrev p9 : List ℕ
p9 = 0xFF ∷ 0xFE ∷ 0x00 ∷ 0x00 ∷ 0x00 ∷ 0x01 ∷ []

-- P11's rig, 0014 0050 0002 0006 0002 0174 0008 0007 0269 6400
abbrev pub rig : List ℕ
rig = 0x00 ∷ 0x14 ∷ 0x00 ∷ 0x50 ∷ 0x00 ∷ 0x02 ∷ 0x00 ∷ 0x06 ∷ 0x00 ∷ 0x02 ∷ 0x01 ∷ 0x74 ∷ 0x00 ∷ 0x08 ∷ 0x00 ∷ 0x07 ∷ 0x02 ∷ 0x69 ∷ 0x64 ∷ 0x00 ∷ []

-- P11's data, 0019 0000 0009
abbrev pub sent : List ℕ
sent = 0x00 ∷ 0x19 ∷ 0x00 ∷ 0x00 ∷ 0x00 ∷ 0x09 ∷ []

-- P11's reader with a code and the two letters of its member's name: 000E 0050 0001 0008 00cc 02xx yy00
abbrev pub reader : ℕ → ℕ → ℕ → List ℕ
reader code x y = 0x00 ∷ 0x0E ∷ 0x00 ∷ 0x50 ∷ 0x00 ∷ 0x01 ∷ 0x00 ∷ 0x08 ∷ 0x00 ∷ code ∷ 0x02 ∷ x ∷ y ∷ 0x00 ∷ []

-- a room of n bytes, each 238
abbrev pub room : ℕ → List ℕ
room n = replicate n 238

pub cases : (descriptor_check p1 ≡ with_rows 1 (row 0x03 0 4 1 0 0 0 ∷ []))
    -- the rows not used are zero
    × ((with_table (descriptor_check p1)).rows ≡ row 0x03 0 4 1 0 0 0 ∷ replicate 255 (row 0 0 0 0 0 0 0))
    -- P2: no bytes, 2 at 0
    × (descriptor_check [] ≡ no_rows 2 1 0)
    -- P3: 0005 0003 00, 4 at 0
    × (descriptor_check (0x00 ∷ 0x05 ∷ 0x00 ∷ 0x03 ∷ 0x00 ∷ []) ≡ no_rows 4 1 0)
    -- P4: two rows
    × (descriptor_check p4 ≡ with_rows 2 (row 0x40 0 14 1 1 0 0 ∷ row 0x0A 10 4 2 0 0 0 ∷ []))
    -- P5: three rows, whole
    × (descriptor_check p5 ≡ with_rows 3 (row 0x50 0 14 1 2 0 0 ∷ row 0x02 6 4 2 0 0 0 ∷ row 0x07 10 4 2 0 0 0 ∷ []))
    -- P6: one row, count 3
    × (descriptor_check p6 ≡ with_rows 1 (row 0x15 0 22 1 3 0 0 ∷ []))
    -- P7: 10 at 13, the low code byte of the inner array (document 02, CR 3)
    × (descriptor_check p7 ≡ no_rows 10 1 13)
    -- P8: 0004 4003 equals P1; 0004 0007 doesn't
    × (comparison (0x00 ∷ 0x04 ∷ 0x40 ∷ 0x03 ∷ []) p1 ≡ equal_is true)
    × (comparison (0x00 ∷ 0x04 ∷ 0x00 ∷ 0x07 ∷ []) p1 ≡ equal_is false)
    -- P9: two pieces, -2 and 1; little-endian FEFF 0100 0000
    × (data_check p5 p9 ≡ accepted 2)
    × (read_value p5 p9 (0 ∷ []) ≡ record { answer = accepted 0; value = Signed (negsuc 1) })
    × (read_value p5 p9 (1 ∷ []) ≡ record { answer = accepted 0; value = Unsigned 1 })
    × (to_little_endian p5 p9 (room 6) ≡ record { answer = accepted 6; out = 0xFE ∷ 0xFF ∷ 0x01 ∷ 0x00 ∷ 0x00 ∷ 0x00 ∷ [] })
    -- P10: 0000 0000, one piece; 0000 0001, 21 at 4; 8000 0000, 22 at 0
    × (data_check p4 (0 ∷ 0 ∷ 0 ∷ 0 ∷ []) ≡ accepted 1)
    × (data_check p4 (0 ∷ 0 ∷ 0 ∷ 1 ∷ []) ≡ refusal 21 3 4)
    × (data_check p4 (0x80 ∷ 0x00 ∷ 0x00 ∷ 0x00 ∷ []) ≡ refusal 22 3 0)
    -- P11: output 0000 0009, and what stands beyond it stays
    × (resolved rig (reader 0x07 0x69 0x64) sent (room 6) ≡ record { answer = accepted 4; out = 0 ∷ 0 ∷ 0 ∷ 9 ∷ 238 ∷ 238 ∷ [] })
    -- P12: with reader code 0003, 44 at 0; with name 026E 6F00, 42 at 0
    × (resolved rig (reader 0x03 0x69 0x64) sent (room 6) ≡ unwritten (room 6) 44 2 0)
    × (resolved rig (reader 0x07 0x6E 0x6F) sent (room 6) ≡ unwritten (room 6) 42 2 0)
unfolding be be_bytes signed kind_of child_count count_of items_size fields_size name_size tree_size forest_size row_count forest_rows header_at count_at run_at item_at items_at pairs_at fields_read judged contents_at fill_at filled_at fields_at members_at name_at node_at tree_at checked place_of_name length_of_name row_of rows_of forest_rows_of table_of descriptor_check written_to same_list same_name items_of pairs_of same_tree same_forest comparison width_of number_at scalar_at text_at sizes_at sizes_fit product array_at repeat walk_fields walk walk_all walked data_check reverse_each number_count number_width reverse_token reversed turned member_at step_at spot_at of_single of_double value_of is_value number_of read_value members_from writer_fields is_among reader_names reader_fields matches namesakes searched search_number member_found member_bytes joined_bytes record_bytes resolved
cases = (refl, refl, refl, refl, refl, refl, refl, refl, refl, refl, refl, refl, refl, refl, refl, refl, refl, refl, refl, refl)
