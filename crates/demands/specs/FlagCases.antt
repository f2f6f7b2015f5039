-- Booleans by hand, document 02, CR 2: "any byte but zero is true", for each of the 256 bytes; "views, record reading and the little-endian form carry
-- the byte as it came". Each fact is computed from the definitions.
use Rattle.std.specs.Prelude.{◌≡◌, refl, Bool, true, false, List, [], ◌∷◌, ◌++◌, ℕ, zero, suc, replicate}
use Rattle.number.specs.Endian.{be}
use Rattle.number.specs.Signed.{signed}
use Rattle.descriptor.specs.Codes.{kind_of}
use Rattle.descriptor.specs.Tree.{child_count, count_of, items_size, fields_size, name_size, tree_size, forest_size, row_count, forest_rows}
use Rattle.descriptor.specs.Check.{header_at, count_at, run_at, item_at, items_at, pairs_at, fields_read, judged, contents_at, fill_at, filled_at, fields_at, members_at, name_at, node_at, tree_at, checked}
use Rattle.descriptor.specs.Answers.{accepted}
use Rattle.descriptor.specs.Output.{written_to}
use Rattle.descriptor.specs.Width.{width_of}
use Rattle.descriptor.specs.declared.answer.Answer.{Answer}
use Rattle.canonical.specs.Equality.{same_list, same_name, items_of, pairs_of, same_tree, same_forest}
use Rattle.flattened.specs.Order.{number_at}
use Rattle.flattened.specs.Walk.{scalar_at, text_at, sizes_at, sizes_fit, product, array_at, repeat, walk_fields, walk, walk_all, walked}
use Rattle.flattened.specs.Answers.{data_check}
use Rattle.byte_order.specs.Reversal.{reverse_each, number_count, number_width, reverse_token, reversed, turned, to_little_endian, from_little_endian}
use Rattle.access.specs.Path.{member_at, step_at, spot_at, part_of, located}
use Rattle.reading.specs.Values.{of_single, of_double, complement, value_bits, value_kind, value_of, is_value, number_of, read_value}
use Rattle.reading.specs.declared.value.Reading.{Reading}
use Rattle.reading.specs.declared.value.Value.TheVariants.{Flag}
use Rattle.resolution.specs.Record.{members_from, writer_fields, is_among, reader_names, reader_fields, matches, namesakes, searched, search_number, member_found, member_bytes, joined_bytes, record_bytes, resolved}
use Rattle.demands.specs.Cases.{room}
use Rattle.demands.specs.DataCases.{scalar, few, wrote}

-- the answers to n bytes from `low` on, each the data of a Boolean; and what is read of each
unfoldable pub answers : ℕ → ℕ → List Answer
answers zero low = []
answers (suc n) low = data_check (scalar 0x21) (low ∷ []) ∷ answers n (suc low)

unfoldable pub readings : ℕ → ℕ → List Reading
readings zero low = []
readings (suc n) low = read_value (scalar 0x21) (low ∷ []) [] ∷ readings n (suc low)

-- a flag that was read
abbrev flag : Bool → Reading
flag b = record { answer = accepted 0; value = Flag b }

pub every_byte : (answers 256 0 ≡ replicate 256 (accepted 1)) × (readings 256 0 ≡ flag false ∷ replicate 255 (flag true))
unfolding answers readings data_check read_value value_of is_value number_of of_single of_double signed complement spot_at checked tree_at header_at kind_of fields_at fields_read count_at run_at item_at items_at pairs_at contents_at judged filled_at fill_at members_at node_at name_at child_count count_of items_size fields_size name_size tree_size forest_size row_count forest_rows be walked walk walk_all walk_fields scalar_at text_at array_at sizes_at sizes_fit product repeat number_at width_of
every_byte = (refl, refl)

-- the lamp rig: 0016 0050 0002 0008 0007 02'id' 00 0008 0021 03'lit', identifier 9, lit FF
abbrev lit : List ℕ
lit = 0x00 ∷ 0x08 ∷ 0x00 ∷ 0x21 ∷ 0x03 ∷ 0x6C ∷ 0x69 ∷ 0x74 ∷ []

abbrev lamp : List ℕ
lamp = 0x00 ∷ 0x16 ∷ 0x00 ∷ 0x50 ∷ 0x00 ∷ 0x02 ∷ 0x00 ∷ 0x08 ∷ 0x00 ∷ 0x07 ∷ 0x02 ∷ 0x69 ∷ 0x64 ∷ 0x00 ∷ lit

abbrev glows : List ℕ
glows = few 9 ++ (0xFF ∷ [])

-- accepted, its part is its byte, the flag is true, and a reader of "lit" and both byte orders get FF
pub lamp-lit : (data_check lamp glows ≡ accepted 2)
    × (located lamp glows (1 ∷ []) ≡ record { answer = accepted 0; start = 4; length = 1 })
    × (read_value lamp glows (1 ∷ []) ≡ flag true)
    -- in C, kind 5 and 1 of 64 bits
    × (value_kind (read_value lamp glows (1 ∷ [])).value ≡ 5)
    × (value_bits (read_value lamp glows (1 ∷ [])).value ≡ 1)
    × (resolved lamp (0x00 ∷ 0x0E ∷ 0x00 ∷ 0x50 ∷ 0x00 ∷ 0x01 ∷ lit) glows (room 2) ≡ wrote 1 (0xFF ∷ 238 ∷ []))
    × (to_little_endian lamp glows (room 5) ≡ wrote 5 (9 ∷ 0 ∷ 0 ∷ 0 ∷ 0xFF ∷ []))
    × (from_little_endian lamp (9 ∷ 0 ∷ 0 ∷ 0 ∷ 0xFF ∷ []) (room 5) ≡ wrote 5 glows)
unfolding data_check located part_of member_at step_at spot_at read_value value_bits value_kind value_of is_value number_of of_single of_double signed complement resolved record_bytes members_from writer_fields is_among reader_names reader_fields matches namesakes searched search_number member_found member_bytes joined_bytes same_list same_name items_of pairs_of same_tree same_forest written_to reverse_each number_count number_width reverse_token reversed turned checked tree_at header_at kind_of fields_at fields_read count_at run_at item_at items_at pairs_at contents_at judged filled_at fill_at members_at node_at name_at child_count count_of items_size fields_size name_size tree_size forest_size row_count forest_rows be walked walk walk_all walk_fields scalar_at text_at array_at sizes_at sizes_fit product repeat number_at width_of
lamp-lit = (refl, refl, refl, refl, refl, refl, refl, refl)
