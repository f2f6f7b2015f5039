-- 378 cases of mixed damage: several faults in a descriptor, faults in several inputs at once. Each is computed from the definitions, so that a
-- number, an input, a place, an order or an output that is changed in a definition and in the code alike is noticed here. Nobody edits this file:
-- `cargo run --release --package differential -- --facts` in `host/` prints it, by seed 1 of the differential test's generator, and the
-- answers are the second implementation's. Cases are chosen by what they are the first to meet: every number of each question but 1, 7 and 20,
-- which long inputs earn (`Refusals.antt`, `DataCases.antt`, `OrderCases.antt`), at several places; and one refusal before another. Behind `over`
-- stand refusals that a case would earn with fewer of its faults, by number, input and place.
-- The public entries whose contracts use these definitions are those of the questions about descriptors, data and records.
use Rattle.std.specs.Prelude.{◌≡◌, refl, true, false, List, [], ◌∷◌, ℕ}
use Rattle.std.specs.Float.Ieee.{nan_bits, of_bits, to_bits}
use Rattle.number.specs.Endian.{be, be_bytes, le}
use Rattle.number.specs.Signed.{signed}
use Rattle.number.specs.Float.{single_of, double_of}
use Rattle.descriptor.specs.Codes.{kind_of}
use Rattle.descriptor.specs.Tree.{child_count, count_of, items_size, fields_size, name_size, tree_size, forest_size, row_count, forest_rows}
use Rattle.descriptor.specs.Stamp.{is_unnamed, are_unnamed, is_stamp_cluster, is_stamp_inside}
use Rattle.descriptor.specs.Encoding.{packed, pair_bytes, field_bytes, name_bytes, encode_with, forest_with}
use Rattle.descriptor.specs.Check.{header_at, count_at, run_at, item_at, items_at, pairs_at, fields_read, judged, contents_at, fill_at, filled_at, fields_at, members_at, name_at, node_at, tree_at, checked}
use Rattle.descriptor.specs.Table.{place_of_name, length_of_name, row_of, rows_of, forest_rows_of}
use Rattle.descriptor.specs.Answers.{refusal, accepted, no_rows, descriptor_check}
use Rattle.descriptor.specs.Output.{unwritten, written_to}
use Rattle.descriptor.specs.Width.{width_of}
use Rattle.descriptor.specs.declared.answer.Answer.{Answer}
use Rattle.canonical.specs.Equality.{same_list, same_name, items_of, pairs_of, same_tree, same_forest, not_compared, both_compared, comparison}
use Rattle.canonical.specs.Normal.{normal_form}
use Rattle.flattened.specs.Order.{number_at}
use Rattle.flattened.specs.Walk.{scalar_at, text_at, sizes_at, sizes_fit, product, array_at, repeat, walk_fields, walk, walk_all, walked}
use Rattle.flattened.specs.Answers.{data_check}
use Rattle.byte_order.specs.Reversal.{reverse_each, number_count, number_width, reverse_token, reversed, turned, to_little_endian, from_little_endian}
use Rattle.access.specs.Path.{member_at, step_at, spot_at, no_part, part_of, located}
use Rattle.access.specs.declared.part.Part.{Part}
use Rattle.reading.specs.Values.{of_single, of_double, value_of, is_value, number_of, read_value, value_kind, complement, value_bits}
use Rattle.reading.specs.declared.value.Reading.{Reading}
use Rattle.resolution.specs.Record.{members_from, writer_fields, is_among, reader_names, reader_fields, matches, namesakes, searched, search_number, member_found, member_bytes, joined_bytes, record_bytes, resolved}
use Rattle.demands.specs.Cases.{row, with_rows, room}
use Rattle.demands.specs.DataCases.{wrote}

-- n bytes, written as one number
abbrev hex : ℕ → ℕ → List ℕ
hex n bytes = be_bytes n bytes

-- an accepted part
abbrev part_at : ℕ → ℕ → Part
part_at start length = record { answer = accepted 0; start = start; length = length }

-- a value as C gets it: the answer, the value's kind and its bits
unfoldable pub told : Reading → Answer × ℕ × ℕ
told x = (x.answer, value_kind x.value, value_bits x.value)

-- checks of a descriptor, with the rows of those that are accepted
pub damaged-descriptors :
    (descriptor_check (hex 42 0x002A001E00090004264B000455F40003184A0007D7BD00040B190000025D0006EF570000A343000437A6) ≡ with_rows 1 (row 0x1E 0 42 1 9 0 0 ∷ []))
    × (descriptor_check (hex 28 0x001C00400004FFFFFFFFFFFFFFFFFFFFFFFFFFFFFFFF000400070000) ≡ with_rows 2 (row 0x40 0 28 1 4 27 0 ∷ row 0x07 22 4 2 0 0 0 ∷ []))
    × (descriptor_check (hex 16 0x001000500001000A0050000100040001) ≡ with_rows 3 (row 0x50 0 16 1 1 0 0 ∷ row 0x50 6 10 2 1 0 0 ∷ row 0x01 12 4 3 0 0 0 ∷ []))
    × (descriptor_check (hex 44 0x002C00500002000A0006056E67756168001C00400004FFFFFFFFFFFFFFFFFFFFFFFFFFFFFFFF000400030101) ≡ with_rows 4 (row 0x50 0 44 1 2 0 0 ∷ row 0x06 6 10 2 0 11 5 ∷ row 0x40 16 28 2 4 43 1 ∷ row 0x03 38 4 3 0 0 0 ∷ []))
    × (descriptor_check (hex 42 0x002A835000010024E4500001001CC5500001001665400002FFFFFFFFFFFFFFFF00082230FFFFFFFF0100) ≡ with_rows 5 (row 0x50 0 42 1 1 0 0 ∷ row 0x50 6 36 2 1 41 1 ∷ row 0x50 12 28 3 1 0 0 ∷ row 0x40 18 22 4 2 0 0 ∷ row 0x30 32 8 5 0 0 0 ∷ []))
    × (descriptor_check (hex 34 0x0022065000050004900600047B04000C890207FE656868656A6C000464030004E604) ≡ with_rows 6 (row 0x50 0 34 1 5 0 0 ∷ row 0x06 6 4 2 0 0 0 ∷ row 0x04 10 4 2 0 0 0 ∷ row 0x02 14 12 2 0 19 7 ∷ row 0x03 26 4 2 0 0 0 ∷ row 0x04 30 4 2 0 0 0 ∷ []))
    × (descriptor_check (hex 42 0x002AF45000050004FC0E0008FC0B02A891000010FC5000010008FC30FFFFFFFF00000004FC0A0004FC0B) ≡ with_rows 7 (row 0x50 0 42 1 5 0 0 ∷ row 0x0E 6 4 2 0 0 0 ∷ row 0x0B 10 8 2 0 15 2 ∷ row 0x50 18 16 2 1 33 0 ∷ row 0x30 24 8 3 0 0 0 ∷ row 0x0A 34 4 2 0 0 0 ∷ row 0x0B 38 4 2 0 0 0 ∷ []))
    × (descriptor_check (hex 40 0x0028F350000100226D50000600084E0A02756B000004DB090004BA21000463070004320D00042A01) ≡ with_rows 8 (row 0x50 0 40 1 1 0 0 ∷ row 0x50 6 34 2 6 0 0 ∷ row 0x0A 12 8 3 0 17 2 ∷ row 0x09 20 4 3 0 0 0 ∷ row 0x21 24 4 3 0 0 0 ∷ row 0x07 28 4 3 0 0 0 ∷ row 0x0D 32 4 3 0 0 0 ∷ row 0x01 36 4 3 0 0 0 ∷ []))
    × (descriptor_check (hex 3 0x000663) ≡ no_rows 2 1 0)  -- over 4 1 0
    × (descriptor_check (hex 6 0x00061B500101) ≡ no_rows 2 1 6)  -- over 8 1 4
    × (descriptor_check (hex 6 0x0006E050FFFF) ≡ no_rows 2 1 6)  -- over 8 1 6
    × (descriptor_check (hex 9 0x00089D50FF01FF96FF) ≡ no_rows 2 1 6)  -- over 10 1 4
    × (descriptor_check (hex 14 0x000E305000010008825000010204) ≡ no_rows 2 1 12)  -- over 8 1 528
    × (descriptor_check (hex 19 0x0010A8508000000A985000010004A0033013E1) ≡ no_rows 2 1 16)  -- over 12 1 16
    × (descriptor_check (hex 30 0x001E00540006001400500004000400030004000300040007000400800000) ≡ no_rows 2 1 24)  -- over 5 1 27
    × (descriptor_check (hex 30 0x001EA254000600160050820400049F030004A003000403070004A6072000) ≡ no_rows 2 1 28)  -- over 11 1 28
    × (descriptor_check (hex 42 0x002A83400004FFFFFFFFFFFFFFFFFFFFFFFFFFFFFFFF001040500003000430090004C70C8004C70B0000) ≡ no_rows 2 1 36)  -- over 3 1 36
    × (descriptor_check (hex 54 0x0036A15000010030E8400001FFFFFFFF00269D500001002078500001001A10500001001414500001000E9B5000010008545000010004) ≡ no_rows 2 1 52)  -- over 6 1 52
    × (descriptor_check (hex 4 0x80060021) ≡ no_rows 3 1 0)  -- over 4 1 0
    × (descriptor_check (hex 34 0xFF22A51B0109000117C40008EC6C000620A10007503A0005564406AE232656E74C00) ≡ no_rows 3 1 0)  -- over 9 1 4
    × (descriptor_check (hex 16 0xFF104530FFFFFFFF0816D5DAC4CA7541) ≡ no_rows 3 1 0)  -- over 11 1 8
    × (descriptor_check (hex 12 0x8000CD30FFFFFFC3168C9BFF) ≡ no_rows 3 1 0)  -- over 10 1 4
    × (descriptor_check (hex 8 0xFF061D010000884D) ≡ no_rows 3 1 0)  -- over 12 1 6
    × (descriptor_check (hex 4 0xFFFF0050) ≡ no_rows 3 1 0)  -- over 8 1 4
    × (descriptor_check (hex 22 0x0016005000FF001000500001FE0A0050000100040009) ≡ no_rows 3 1 12)  -- over 2 1 22
    × (descriptor_check (hex 24 0x00182A400002FFFFFFFFFFFFFFFF000A4A50000180044680) ≡ no_rows 3 1 20)  -- over 5 1 23
    × (descriptor_check (hex 32 0x0020165400060016AA5000040004B7030004BC030004B407FF04890F02028B00) ≡ no_rows 3 1 24)  -- over 5 1 27
    × (descriptor_check (hex 72 0x0048E1500001004205500001003CF5400001FFFFFFFF003211500001002CB1400001FFFFFFFF002241500001001C34400001FFFFFFFF0010BB5000018000C317000101D101A10129) ≡ no_rows 3 1 60)  -- over 6 1 60
    × (descriptor_check (hex 4 0x001400FF) ≡ no_rows 4 1 0)  -- over 5 1 3
    × (descriptor_check (hex 8 0x0016AD400104FFFF) ≡ no_rows 4 1 0)  -- over 9 1 4
    × (descriptor_check (hex 6 0x10040509016C) ≡ no_rows 4 1 0)  -- over 12 1 4
    × (descriptor_check (hex 10 0x100ACC300100FFFF2000) ≡ no_rows 4 1 0)  -- over 10 1 4
    × (descriptor_check (hex 25 0x001A43400002FFFFFFFFFFFFFFFF0003CF0D07647478787462) ≡ no_rows 4 1 0)  -- over 4 1 14
    × (descriptor_check (hex 21 0x0016001700FF08666761656A756304797262750000) ≡ no_rows 4 1 0)  -- over 8 1 22
    × (descriptor_check (hex 38 0x00277A50000300069C080000000A6D5000010004990B0010035000020004D90E000416550000) ≡ no_rows 4 1 0)  -- over 5 1 35
    × (descriptor_check (hex 18 0x00120050000100090030FFFFFFFF05797075) ≡ no_rows 4 1 6)  -- over 11 1 14
    × (descriptor_check (hex 26 0x001AF5500005006797BD000641680005DA1B0004C7540005AD20) ≡ no_rows 4 1 6)  -- over 5 1 9, 10 1 6
    × (descriptor_check (hex 36 0x0024D75000030004D7050404D70C0016D7400002FFFFFFFFFFFFFFFF0006D70C01010000) ≡ no_rows 4 1 10)  -- over 11 1 32
    × (descriptor_check (hex 22 0x00169050000100109250000200040B050005E20500FF) ≡ no_rows 4 1 16)  -- over 11 1 20
    × (descriptor_check (hex 28 0x001C57400003FFFFFFFFFFFFFFFFFFFFFFFF000A1550037172670000) ≡ no_rows 4 1 24)  -- over 2 1 24, 11 1 22
    × (descriptor_check (hex 34 0x00226F50010000120A5000030004EB030004D7090004D50D010068667070786F7461) ≡ no_rows 4 1 24)  -- over 11 1 24
    × (descriptor_check (hex 82 0x005226400001FFFFFFFF00483C500001004285400004FFFFFFFFFFFFFFFFFFFFFFFFFFFFFFFF002CED5000010026BF400002FFFFFFFFFFFFFFFF0018F050000100101D500001000A4D5000010005CA210201) ≡ no_rows 4 1 76)  -- over 6 1 76
    × (descriptor_check (hex 11 0x000A1CAAC52F0802616200) ≡ no_rows 5 1 3)  -- over 4 1 0
    × (descriptor_check (hex 30 0x001EE85401060016EE5000040004F403000414030004BA070004CC070200) ≡ no_rows 5 1 3)  -- over 11 1 28
    × (descriptor_check (hex 18 0x00120141FFFF0004C97100005FF800023290) ≡ no_rows 5 1 3)  -- over 9 1 4
    × (descriptor_check (hex 28 0x001C945400FF0016865000040004DC03000465030004420700042E01) ≡ no_rows 5 1 3)  -- over 10 1 0
    × (descriptor_check (hex 32 0x002014FF01010018081600020249C205667766786A0007E1236431D0E6260000) ≡ no_rows 5 1 3)  -- over 2 1 30
    × (descriptor_check (hex 24 0x001800410003008D220E0006BB1200009D080571796F6862) ≡ no_rows 5 1 3)  -- over 10 1 6
    × (descriptor_check (hex 17 0x000E00FF800007A89D7C77360871E98136) ≡ no_rows 5 1 3)  -- over 8 1 14
    × (descriptor_check (hex 28 0x001C23540001FFFFFFFF0008230F0371627008D26A305C269C227300) ≡ no_rows 5 1 3)  -- over 5 1 13
    × (descriptor_check (hex 34 0x0022E754000600166F5000040004438000048603000441077F04DE07057675626275) ≡ no_rows 5 1 15)  -- over 4 1 24
    × (descriptor_check (hex 38 0x002640400003FFFFFFFFFFFFFFFFFFFFFFFF0014404F0002000440088006400B000002669800) ≡ no_rows 5 1 21)  -- over 3 1 28
    × (descriptor_check (hex 56 0x003800500001003200500001002C00500001002600690001002000500001001A00500001001400500001000E0050000100080030FFFFFF80) ≡ no_rows 5 1 21)  -- over 6 1 48
    × (descriptor_check (hex 60 0x003C00500001003600500001003000500001002A00500001002400500001001E00500001001800400002FFFFFFFFFFFFFFFF000A00500001000400E0) ≡ no_rows 5 1 59)  -- over 6 1 56
    × (descriptor_check (hex 94 0x005EC8400001FFFFFFFF0054C8500001004EC8400004FFFFFFFFFFFFFFFFFFFFFFFFFFFFFFFF0038C85000010030C8500001002AC85000010024C8500001001EC85400060016C85000040004C8030004C8030004C8070004C80700000101) ≡ no_rows 6 1 68)  -- over 4 1 38
    × (descriptor_check (hex 100 0x006400400004FFFFFFFFFFFFFFFFFFFFFFFFFFFFFFFF004E00500001004800400001FFFFFFFF003E00500001003800400001FFFFFFFF002E00500001002800500001002200500001001C0054000600160050000400040003000200030004000700040007) ≡ no_rows 6 1 72)
    × (descriptor_check (hex 84 0x005483500001004E83500001004883400001FFFFFFFF003E83500001003883400002FFFFFFFFFFFFFFFF002A83500001002483400004FFFFFFFFFFFFFFFFFFFFFFFFFFFFFFFF000E835000010008830100000200) ≡ no_rows 6 1 76)  -- over 4 1 76
    × (descriptor_check (hex 4 0x00048150) ≡ no_rows 8 1 4)  -- over 4 1 6
    × (descriptor_check (hex 5 0x00040054C8) ≡ no_rows 8 1 4)  -- over 12 1 4
    × (descriptor_check (hex 4 0x00040030) ≡ no_rows 8 1 4)  -- over 10 1 4
    × (descriptor_check (hex 8 0x0006243000FFFFFF) ≡ no_rows 8 1 6)  -- over 10 1 4
    × (descriptor_check (hex 6 0x0006C6300006) ≡ no_rows 8 1 6)  -- over 2 1 6, 10 1 4
    × (descriptor_check (hex 36 0x0024B8500001000A731A00060002676D0014D315000304756B6F6506706F626578640000) ≡ no_rows 8 1 16)  -- over 11 1 38
    × (descriptor_check (hex 22 0x001679500002000C7940000203C7B61A0000FF047901) ≡ no_rows 8 1 18)  -- over 3 1 18
    × (descriptor_check (hex 20 0x001400400002FFFFFFFFFFFFFFFF00060015FFFF) ≡ no_rows 8 1 20)  -- over 8 1 22
    × (descriptor_check (hex 30 0x001E295400060016D25000040004FB030004E05400FED607000450070124) ≡ no_rows 8 1 20)  -- over 4 1 20
    × (descriptor_check (hex 32 0x002000500002000600090000000E0015000400035CA900035C86046766697800) ≡ no_rows 8 1 26)  -- over 10 1 23
    × (descriptor_check (hex 30 0x001EE254000600162315000400042A03000423030004A2070004543F0000) ≡ no_rows 8 1 28)  -- over 5 1 27
    × (descriptor_check (hex 34 0x00220050000300040021000E000D0973736C7862726E74760004003000FFDA7F2BA7) ≡ no_rows 8 1 28)  -- over 11 1 28
    × (descriptor_check (hex 14 0x000E0040000B0008081E000529C4) ≡ no_rows 9 1 4)  -- over 10 1 6
    × (descriptor_check (hex 44 0x002C001900CE0003B57E0002EE8400029FE60008F8A70004B87F0007EC5000041ACA00001B43000602850200) ≡ no_rows 9 1 4)  -- over 11 1 42
    × (descriptor_check (hex 24 0x00185750000100127C4000000871616D62766A7771010000) ≡ no_rows 9 1 10)  -- over 10 1 12
    × (descriptor_check (hex 98 0x006287500001005C88500001005612500001005028500001004ACC5000010044F6400005FFFFFFFF003A18500001003417400001FFFFFFFF002A6C1C0008000600010000FFFF000380000007FFFF00017FFF0007800000007FFF00007FFF025C7100) ≡ no_rows 9 1 34)  -- over 6 1 56
    × (descriptor_check (hex 34 0x0022AB5400060016AB5000040004AB030004AB030004AB070004AB03FFFFB276BE00) ≡ no_rows 10 1 0)  -- over 11 1 28
    × (descriptor_check (hex 20 0x00140030000100041DE60003C4F200016B640000) ≡ no_rows 10 1 4)  -- over 11 1 10
    × (descriptor_check (hex 14 0x000EB2300868676B70696A656901) ≡ no_rows 10 1 4)  -- over 11 1 4
    × (descriptor_check (hex 24 0x001818190004FFFFFFFFFFFFFFFFFFFFFFFFFFFFFFFF000E) ≡ no_rows 10 1 6)  -- over 2 1 22
    × (descriptor_check (hex 10 0x000AA040000100044180) ≡ no_rows 10 1 6)  -- over 5 1 9
    × (descriptor_check (hex 12 0x000C0E1900017F060E070000) ≡ no_rows 10 1 6)  -- over 4 1 6
    × (descriptor_check (hex 28 0x001CE15400060016763000040004C750000469030004E70700041107) ≡ no_rows 10 1 10)  -- over 8 1 16
    × (descriptor_check (hex 30 0x001E00400001FFFFFFFF000A004000010292CC01087366686874767A7500) ≡ no_rows 10 1 13)  -- over 10 1 19
    × (descriptor_check (hex 28 0x001CC9400004FFFFFFFFFFFFFFFF8001645000010004D803020DC400) ≡ no_rows 10 1 14)  -- over 3 1 14
    × (descriptor_check (hex 40 0x002842400004FFFFFFFFFFFFFFFFFFFFFFFFFFFFFEFF8012A817000100000862637365796C617700) ≡ no_rows 10 1 18)  -- over 3 1 22
    × (descriptor_check (hex 35 0x002000500001001A00400001FFFFFFFF001000500001000A00307FFFFFFF01840FBD2E) ≡ no_rows 10 1 26)  -- over 12 1 32
    × (descriptor_check (hex 94 0x005E00400002FFFFFFFFFFFFFFFF005000500001004A00170001004400500001003E00400002FFFFFFFFFFFFFFFF003000500001002A00500001002200500001001C005400060016005000040004000300040003000400070004001F0125) ≡ no_rows 10 1 27)  -- over 6 1 64
    × (descriptor_check (hex 86 0x0056C65000010050C6500001004AC65000010044C6500001003EC65000010038C65000010032C6400004FFFFFFFFFFFFFFFFFFFFFFFFFFFFFFFF001CC61900010016C6400003FFFFFFFFFFFFFFFFFFFFFFFF0004C609) ≡ no_rows 10 1 64)  -- over 6 1 64
    × (descriptor_check (hex 16 0x00108E030001C507031E0478616B6100) ≡ no_rows 11 1 4)  -- over 10 1 6
    × (descriptor_check (hex 8 0x0008B903FF01FFFF) ≡ no_rows 11 1 4)  -- over 10 1 4
    × (descriptor_check (hex 22 0x00163B03000200083B0502EDA60000063B0400FF0000) ≡ no_rows 11 1 4)  -- over 11 1 18
    × (descriptor_check (hex 10 0x000ADC30FFFFFFFF0001) ≡ no_rows 11 1 8)  -- over 4 1 0
    × (descriptor_check (hex 40 0x00284E50000200104E04001E4E19000A00065AF800047ADD0008240B00000C8D0008BB4500013CAC) ≡ no_rows 11 1 10)  -- over 9 1 14
    × (descriptor_check (hex 13 0x000C001B00010004E624A7F9F7) ≡ no_rows 11 1 10)  -- over 4 1 0, 12 1 10
    × (descriptor_check (hex 24 0x001831500001000603070000000D2F080790E9DE319DED25) ≡ no_rows 11 1 12)  -- over 4 1 12
    × (descriptor_check (hex 28 0x001C2354000600161450000100044303000480800004120700042707) ≡ no_rows 11 1 16)  -- over 5 1 19
    × (descriptor_check (hex 38 0x002600500003001000400001FFFFFFFF0004000A7FFF000800070299BB00000400FF02D8BE00) ≡ no_rows 11 1 20)  -- over 5 1 33
    × (descriptor_check (hex 30 0x001C295400060016565000040004D703000A71039B490004AB0700045E07) ≡ no_rows 11 1 20)  -- over 3 1 20
    × (descriptor_check (hex 40 0x002800500001002000400003FFFFFFFFFFFFFFFFFFFFFFFF000A0030FFFFFFFF000003796B730012) ≡ no_rows 11 1 38)  -- over 2 1 38
    × (descriptor_check (hex 6 0x000445217FFF) ≡ no_rows 12 1 4)  -- over 11 1 4
    × (descriptor_check (hex 22 0x00145C1B00020007C3CE0004DD89056D636869616300) ≡ no_rows 12 1 20)  -- over 11 1 14
    × (descriptor_check (hex 32 0x001EF71A000600003B7B000726860005421A0001CADC000041550001F1DDFF00) ≡ no_rows 12 1 30)  -- over 11 1 30
unfolding be be_bytes kind_of child_count count_of items_size fields_size name_size tree_size forest_size row_count forest_rows is_unnamed are_unnamed is_stamp_cluster is_stamp_inside header_at count_at run_at item_at items_at pairs_at fields_read judged contents_at fill_at filled_at fields_at members_at name_at node_at tree_at checked place_of_name length_of_name row_of rows_of forest_rows_of descriptor_check
damaged-descriptors = (refl, refl, refl, refl, refl, refl, refl, refl, refl, refl, refl, refl, refl, refl, refl, refl, refl, refl, refl, refl, refl, refl, refl, refl, refl, refl, refl, refl, refl, refl, refl, refl, refl, refl, refl, refl, refl, refl, refl, refl, refl, refl, refl, refl, refl, refl, refl, refl, refl, refl, refl, refl, refl, refl, refl, refl, refl, refl, refl, refl, refl, refl, refl, refl, refl, refl, refl, refl, refl, refl, refl, refl, refl, refl, refl, refl, refl, refl, refl, refl, refl, refl, refl, refl, refl, refl, refl, refl, refl, refl, refl, refl, refl, refl, refl, refl, refl, refl, refl, refl)

-- comparisons of two descriptors
pub damaged-twins :
    (comparison (hex 8 0x00088230FFFFFFFF) (hex 16 0x0010ED30FFFFFFFF066E2F7EA27F0400) ≡ both_compared false)
    × (comparison (hex 16 0x00100016000107757577636E6F690000) (hex 16 0x00109D16000107757577636E6F690000) ≡ both_compared true)
    × (comparison (hex 16 0x0010F51600010765A83A7FE93A480000) (hex 16 0x00108D1600010765A83AA5E93A480000) ≡ both_compared false)
    × (comparison (hex 14 0x000EAA1E0002000624810004C890) (hex 14 0x000E681E0002000624810004C890) ≡ both_compared true)
    × (comparison (hex 10 0x000A000105626A656801) (hex 10 0x000A000105626A656863) ≡ both_compared false)
    × (comparison (hex 16 0x0010C6400001FFFFFFFF0004B5040000) (hex 16 0x0010B7400001FFFFFFFF0004E4040000) ≡ both_compared true)
    × (comparison (hex 14 0x000E3B1900020006F56500057141) (hex 14 0x000E311900020005714100060865) ≡ both_compared false)
    × (comparison (hex 10 0x000ADA30FFFFFFFF0000) (hex 10 0x000ABB30FFFFFFFF0000) ≡ both_compared true)
    × (comparison [] (hex 26 0x001600400002FFFFFFFFFFFFFFFF00080030FFFFFF01BD475FA6) ≡ not_compared 2 1 0)  -- over 10 2 18, 12 2 22
    × (comparison (hex 6 0x0006F0540006) (hex 22 0x001660500004000A6003000460030004600700046007) ≡ not_compared 2 1 6)  -- over 11 2 10
    × (comparison (hex 20 0x0014E417000209FE757272666566636B02707700) (hex 44 0x002CAB50000100268D500001002035400001FFFFFFFF0016A7500001001057500001000AB8400001FFFFFFFF) ≡ not_compared 2 2 44)  -- over 6 2 60
    × (comparison (hex 30 0x001E775400060016775000040004770300047703FF047707000477070000) (hex 5 0x0018F65000) ≡ not_compared 3 1 20)  -- over 4 2 0
    × (comparison (hex 16 0x0010FD50000200049F010006B2050000) (hex 16 0x0010B35000029A0430010006D9150000) ≡ not_compared 3 2 6)  -- over 9 2 14
    × (comparison (hex 6 0x000A49150001) (hex 6 0x000631150001) ≡ not_compared 4 1 0)  -- over 8 2 6
    × (comparison (hex 10 0x000A265000017FFF269B) (hex 10 0x000ABC50000100044A08) ≡ not_compared 4 1 6)  -- over 5 1 9
    × (comparison (hex 14 0x000E94400001FFFFFFFF00042C0B) (hex 15 0x000E42400001FFFFFFFF7F04420B7A) ≡ not_compared 4 2 10)  -- over 12 2 14
    × (comparison (hex 6 0x000400BFFFFF) (hex 4 0x00040051) ≡ not_compared 5 1 3)  -- over 5 2 3
    × (comparison (hex 11 0x000858AC1F9C07026B6E00) (hex 12 0x000C1130FF02FFFF03716A6D) ≡ not_compared 5 1 3)  -- over 10 2 4
    × (comparison (hex 8 0x0008C830FFFFFFFF) (hex 6 0x0006D40FFFFF) ≡ not_compared 5 2 3)  -- over 8 2 6
    × (comparison (hex 84 0x0054E0500001004EE0400001FFFFFFFF0044E0500001003EE05000010038E0400002FFFFFFFFFFFFFFFF002AE05000010024E0500001001EE0400004FFFFFFFFFFFFFFFFFFFFFFFFFFFFFFFF0006E05000010000) (hex 5 0x00689F5000) ≡ not_compared 6 1 76)
    × (comparison (hex 4 0x00049B09) (hex 58 0x003A00500001003400500001002E00500001002800500001002000500001001A00500001001400400001FFFFFFFF000A005000010004000D0000) ≡ not_compared 6 2 52)
    × (comparison (hex 4 0x0004D940) (hex 4 0x0004431D) ≡ not_compared 8 1 4)  -- over 8 2 4
    × (comparison (hex 30 0x001E4A1500FF01F4057A6876786A08BE4FB3977190C9060004ECDEF3F700) (hex 10 0x000A1F50000100041FAA) ≡ not_compared 8 1 30)  -- over 5 2 9
    × (comparison (hex 10 0x000A7C1C00010003A72E) (hex 15 0x000E3A1C00090003A72E000000003E) ≡ not_compared 8 2 14)  -- over 12 2 14
    × (comparison (hex 14 0x000E0F1ED900000203AB0006E1BC) (hex 5 0x000E241E00) ≡ not_compared 9 1 4)  -- over 4 2 0
    × (comparison (hex 16 0x001000400001FFFFFFFF000600210000) (hex 10 0x000A8D4000FFFFFFFFFF) ≡ not_compared 9 2 4)  -- over 2 2 10
    × (comparison (hex 8 0x000800309FFFFFB3) (hex 8 0x00084B300100FFFF) ≡ not_compared 10 1 4)  -- over 10 2 4
    × (comparison (hex 16 0x00106B400002FFFFFFFF000643030001) (hex 16 0x00106C30FFFFFFFF07EB328A6CD43DC5) ≡ not_compared 10 1 10)  -- over 11 1 14
    × (comparison (hex 8 0x00080030FFFFFFFF) (hex 10 0x000AFB307FFFFFFF0201) ≡ not_compared 10 2 4)  -- over 11 2 8
    × (comparison (hex 12 0x000C76090465627A6D000001) (hex 10 0x000281090100627A6D00) ≡ not_compared 11 1 4)  -- over 4 2 0, 11 2 4
    × (comparison (hex 12 0x000C0A160002017A00000200) (hex 10 0x000AC0140002017A0000) ≡ not_compared 11 1 10)  -- over 5 2 3
    × (comparison (hex 20 0x001400500001000E00020818857FB9BE85509C00) (hex 22 0x001600500001000E00020818857FB9B685509CFE0300) ≡ not_compared 11 2 10)  -- over 11 2 20
    × (comparison (hex 9 0x00084230FFFFFFFFD0) (hex 30 0x001E002F0003FFFFFFFFFFFFFFFFFFFFFFFF0001000607923D4463B68351) ≡ not_compared 12 1 8)  -- over 4 2 18, 5 2 3
    × (comparison (hex 6 0x000600210000) (hex 6 0x00042F2100FF) ≡ not_compared 12 2 4)  -- over 11 2 4
unfolding be be_bytes kind_of child_count count_of items_size fields_size name_size tree_size forest_size row_count forest_rows is_unnamed are_unnamed is_stamp_cluster is_stamp_inside header_at count_at run_at item_at items_at pairs_at fields_read judged contents_at fill_at filled_at fields_at members_at name_at node_at tree_at checked same_list same_name items_of pairs_of same_tree same_forest comparison
damaged-twins = (refl, refl, refl, refl, refl, refl, refl, refl, refl, refl, refl, refl, refl, refl, refl, refl, refl, refl, refl, refl, refl, refl, refl, refl, refl, refl, refl, refl, refl, refl, refl, refl, refl, refl)

-- normal forms, with the room as it is left
pub damaged-forms :
    (normal_form (hex 14 0x000EA2400001FFFFFFFF00045308) (room 18) ≡ wrote 14 (hex 18 0x000E00400001FFFFFFFF00040008EEEEEEEE))
    × (normal_form (hex 22 0x001651400003FFFFFFFFFFFFFFFFFFFFFFFF0004510C) (room 23) ≡ wrote 22 (hex 23 0x001600400003FFFFFFFFFFFFFFFFFFFFFFFF0004000CEE))
    × (normal_form (hex 36 0x00240F500002001A0F1C000500033D500000B19800050A310005494C000191B500040F07) (room 37) ≡ wrote 36 (hex 37 0x002400500002001A001C000500033D500000B19800050A310005494C000191B500040007EE))
    × (normal_form (hex 40 0x00287F15000603781E8302B67F0279420769756764796F640543978FBB990972677763746F6E7576) (room 40) ≡ wrote 40 (hex 40 0x00280015000603781E8302B67F0279420769756764796F640543978FBB990972677763746F6E7576))
    × (normal_form (hex 12 0x000C00500001000600500003) (room 22) ≡ unwritten (room 22) 2 1 12)  -- over 50 4 58
    × (normal_form (hex 40 0x002800500001002000500001001A00500001001400500001000E00400001FFFFFFFF8000000E0111) (room 39) ≡ unwritten (room 39) 3 1 34)  -- over 50 4 40
    × (normal_form (hex 36 0x002400500001001C00500001001800500001001200400002FFFFFFFFFFFFFFFF00040003) (room 32) ≡ unwritten (room 32) 4 1 12)  -- over 50 4 36
    × (normal_form (hex 8 0x0008DC41FFFFFFFF) (room 6) ≡ unwritten (room 6) 5 1 3)  -- over 50 4 8
    × (normal_form (hex 94 0x005EC8400001FFFFFFFF0054C8500001004EC8400004FFFFFFFFFFFFFFFFFFFFFFFFFFFFFFFF0038C85000010030C8500001002AC85000010024C8500001001EC85400060016C85000040004C8030004C8030004C8070004C80700000101) (room 2) ≡ unwritten (room 2) 6 1 68)  -- over 4 1 38
    × (normal_form (hex 6 0x0006B01D0008) (room 23) ≡ unwritten (room 23) 8 1 6)  -- over 50 4 38
    × (normal_form (hex 22 0x0016AA400023FFFFFFFFFFFFFFFFFFFFFFFF0004410A) (room 15) ≡ unwritten (room 15) 9 1 4)  -- over 50 4 22
    × (normal_form (hex 12 0x000CD8170001049F7AC97DFF) (room 3) ≡ unwritten (room 3) 10 1 11)  -- over 50 4 12
    × (normal_form (hex 12 0x000C49150001036E63730300) (room 5) ≡ unwritten (room 5) 11 1 10)  -- over 50 4 10
    × (normal_form (hex 32 0x0020005400060018005000040004000300040003000600070200000400070000) (room 3) ≡ unwritten (room 3) 11 1 24)  -- over 50 4 30
    × (normal_form (hex 32 0x001C3850000300048C0300048103000E98400001FFFFFFFF000416039905A747) (room 1) ≡ unwritten (room 1) 12 1 28)  -- over 50 4 28
    × (normal_form (hex 30 0x001E001700060006280CC54B38E9066A6C7979777401760003786F6E0100) (room 20) ≡ unwritten (room 20) 50 4 30)  -- over 50 4 28
    × (normal_form (hex 36 0x002457500002000E9D30FFFFFFFF05696A6F6F720010B95000020004F32100067E0B0101) (room 33) ≡ unwritten (room 33) 50 4 36)  -- over 50 4 34
    × (normal_form (hex 44 0x002C001900090003B57E0002EE8400029FE60008F8A70004B87F0007EC5000041ACA00001B43000602850100) (room 7) ≡ unwritten (room 7) 50 4 44)  -- over 50 4 42
unfolding be be_bytes kind_of child_count count_of items_size fields_size name_size tree_size forest_size row_count forest_rows is_unnamed are_unnamed is_stamp_cluster is_stamp_inside header_at count_at run_at item_at items_at pairs_at fields_read judged contents_at fill_at filled_at fields_at members_at name_at node_at tree_at checked written_to packed pair_bytes field_bytes name_bytes encode_with forest_with normal_form
damaged-forms = (refl, refl, refl, refl, refl, refl, refl, refl, refl, refl, refl, refl, refl, refl, refl, refl, refl, refl)

-- checks of data
pub damaged-data :
    (data_check (hex 6 0x000605080000) (hex 8 0x5D1AFF16E8242861) ≡ accepted 1)
    × (data_check (hex 14 0x000E13400001FFFFFFFF00042F0A) (hex 12 0x0000000116FBDA747C981A2F) ≡ accepted 2)
    × (data_check (hex 22 0x001600400003FFFFFFFFFFFFFFFFFFFFFFFF00040006) (hex 16 0x000000010000000100000002C9F1D0D8) ≡ accepted 3)
    × (data_check (hex 26 0x001A2A400002FFFFFFFFFFFFFFFF000C4A500001000646020000) (hex 14 0x00000001000000033B96A8F68001) ≡ accepted 4)
    × (data_check (hex 24 0x0018A3400001FFFFFFFF0004A3010865696A087376636300) (hex 9 0x000000057FDA0B1F77) ≡ accepted 6)
    × (data_check (hex 26 0x001A91400002FFFFFFFFFFFFFFFF00049F0106C3A09B8BCA3100) (hex 14 0x000000030000000277806B139B26) ≡ accepted 7)
    × (data_check (hex 20 0x00143F400002FFFFFFFFFFFFFFFF000634050000) (hex 16 0x00000004000000023316FF0C01C59501) ≡ accepted 9)
    × (data_check (hex 20 0x00144D400001FFFFFFFF00044D05046664626C00) (hex 16 0x0000000C85B8EE659A4AB6C23747F5AF) ≡ accepted 13)
    × (data_check (hex 30 0x001EE05400060016EE5001000004F403000414030004BA070004CC070000) (hex 5 0x4B465A6ABF) ≡ refusal 2 1 28)  -- over 21 3 4
    × (data_check (hex 32 0x0020145000018000081600020249C205667766786A000708236431D0E6260000) (hex 1 0x00) ≡ refusal 3 1 6)  -- over 21 3 0
    × (data_check (hex 6 0x0070150300FF) [] ≡ refusal 4 1 0)  -- over 21 3 0
    × (data_check (hex 56 0x0038E15000010032ED500001002CB05000010026105000010020B2500001001ADC500001001484500001000E3950000100165130FFFFFFFF) (hex 5 0x00000001DF) ≡ refusal 4 1 48)  -- over 6 1 48
    × (data_check (hex 38 0x00265C2F0005046B6AFE85026571066A776C7A626608706F767872667A7A036E726F027A6C00) (hex 1 0x06) ≡ refusal 5 1 3)  -- over 23 3 0
    × (data_check (hex 72 0x004800500001004200400002FFFFFFFFFFFFFFFF003400500001002E00500001002800500001002200500001001C00400001FFFFFFFF001200500001000C00540006000600500004) (hex 16 0x00010000000000010000000000000000) ≡ refusal 6 1 60)
    × (data_check (hex 4 0x0004D817) (hex 4 0x00000002) ≡ refusal 8 1 4)  -- over 23 3 0
    × (data_check (hex 8 0x0008BA1500000300) (hex 5 0x001BD1308C) ≡ refusal 9 1 4)  -- over 11 1 4, 25 3 1
    × (data_check (hex 22 0x001600400002FFFFFFFFFFFFFFFF000800307FFFFFFF) (hex 15 0x000000020000000100000000000000) ≡ refusal 10 1 18)  -- over 21 3 12
    × (data_check (hex 10 0x000A0030FFFFFFFF0201) (hex 8 0x800000004B2CF808) ≡ refusal 11 1 8)  -- over 22 3 0
    × (data_check (hex 10 0x0008ED30FFFFFFFF0174) (hex 4 0x80000001) ≡ refusal 12 1 8)  -- over 21 3 0, 22 3 0
    × (data_check (hex 8 0x00086230FFFFFFFF) (hex 20 0x0000080C32E60CC5D4E3E45C151EB2957B399D42) ≡ refusal 21 3 0)  -- over 25 3 16
    × (data_check (hex 12 0x000CDC30FFFFFFFF036F796E) (hex 2 0x8000) ≡ refusal 21 3 0)  -- over 22 3 0
    × (data_check (hex 30 0x001E75160005036B747507776D6263626667026C6C066970626561670116) (hex 1 0xFF) ≡ refusal 21 3 0)  -- over 23 3 0
    × (data_check (hex 24 0x0018F3400001FFFFFFFF000EF35000020004F30E0004F30C) (hex 3 0xFFFFFF) ≡ refusal 21 3 0)  -- over 22 3 0
    × (data_check (hex 4 0x00049C01) [] ≡ refusal 21 3 0)  -- over 25 3 1
    × (data_check (hex 18 0x001200400002FFFFFFFFFFFFFFFF00040002) (hex 5 0x7FFFFFFF00) ≡ refusal 21 3 0)  -- over 21 3 12
    × (data_check (hex 32 0x00208650000200169D400003FFFFFFFFFFFFFFFFFFFFFFFF0004E0030004FF01) (hex 8 0x0000000000000001) ≡ refusal 21 3 0)  -- over 25 3 13
    × (data_check (hex 14 0x000ED0400001FFFFFFFF0004000D) (hex 13 0x0000FFFF10194B36F2940E89DF) ≡ refusal 21 3 4)  -- over 25 3 4
    × (data_check (hex 36 0x002400400001FFFFFFFF001A0050000300040021000A0017000103727376000400030163) (hex 4 0x00000001) ≡ refusal 21 3 4)  -- over 21 3 9
    × (data_check (hex 26 0x001A6050000200040601000EF8400001FFFFFFFF000401090000) (hex 12 0xF5704A66DB2AD49600000000) ≡ refusal 21 3 9)  -- over 22 3 1
    × (data_check (hex 22 0x001600400002FFFFFFFFFFFFFFFF00080030FFFFFFFF) (hex 15 0x000000010001000000000000000000) ≡ refusal 21 3 12)  -- over 21 3 16
    × (data_check (hex 28 0x001CDB400002FFFFFFFFFFFFFFFF000EDB210890E2683C48FF33C300) (hex 15 0x00000002000000230084FF020203D6) ≡ refusal 21 3 15)  -- over 21 3 14, 25 3 14
    × (data_check (hex 18 0x00129D400002FFFFFFFFFFFFFFFF00049D0D) (hex 10 0x800000017F62D0FFFFFF) ≡ refusal 22 3 0)  -- over 25 3 8
    × (data_check (hex 10 0x000A0430FFFFFFFF0165) (hex 14 0x800000016B284D0C682605149CC0) ≡ refusal 22 3 0)  -- over 21 3 0
    × (data_check (hex 16 0x0010F430FFFFFFFF076566797863636E) (hex 8 0x80000001687A41D8) ≡ refusal 22 3 0)  -- over 25 3 4
    × (data_check (hex 32 0x002000500001001A00500001001400400001FFFFFFFF000A0050000100040008) (hex 12 0x800400003262254DAC2F4FAC) ≡ refusal 22 3 0)  -- over 21 3 12
    × (data_check (hex 30 0x001EE6500002000AE630FFFFFFFF0000000EE6160001071608CAC0EBAA0C) (hex 13 0x80000000D1EC6BFE0504870002) ≡ refusal 22 3 0)  -- over 23 3 11
    × (data_check (hex 26 0x001A38500002000C380707C7461DAB48C6BD00083830FFFFFFFF) (hex 11 0x3DD5E8AE8000000011AEEB) ≡ refusal 22 3 4)
    × (data_check (hex 30 0x001EFF5000020004A70C000E84400001FFFFFFFF0004BF0A046C6A757100) (hex 12 0x652921D6DCA5D27F80000000) ≡ refusal 22 3 8)
    × (data_check (hex 30 0x001EAC50000100180A500002000CE016000102767A00000000064D010000) (hex 2 0xFF00) ≡ refusal 23 3 0)  -- over 21 3 2
    × (data_check (hex 28 0x001C001700060006280CC54B38E9066A6C7979777401760003786F6E) (hex 7 0xFFFFFFFF633790) ≡ refusal 23 3 0)  -- over 25 3 4
    × (data_check (hex 36 0x00241F50000300041F0500141F150002027569097262766E786D6E726C0000041F030000) (hex 6 0x3002EAEDFE8E) ≡ refusal 23 3 1)
    × (data_check (hex 24 0x001850400001FFFFFFFF000E50160001061817CF795A1900) (hex 16 0x00000006000000000000000000020000) ≡ refusal 23 3 12)
    × (data_check (hex 4 0x0004F201) (hex 35 0x95DFF205B3BB0B3817817B080A3473BFEE3B384DCE1189C9F66A4A8ADA17549B0E4904) ≡ refusal 25 3 1)  -- over 25 3 32
    × (data_check (hex 18 0x0012D31500020709D6B17642BC6F00000000) (hex 4 0x00000002) ≡ refusal 25 3 1)  -- over 23 3 0
    × (data_check (hex 4 0x00041001) (hex 6 0xA8E2E94D5010) ≡ refusal 25 3 1)  -- over 21 3 0
    × (data_check (hex 18 0x00129D400002FFFFFFFFFFFFFFFF00046D01) (hex 14 0x00400003000000000000B60ADD53) ≡ refusal 25 3 8)  -- over 21 3 14, 25 3 11
    × (data_check (hex 10 0x000AA130FFFFFFFF01E8) (hex 19 0x00000007FD9FFD627B4A9DF01719EA9B47FA4C) ≡ refusal 25 3 11)  -- over 25 3 12
    × (data_check (hex 22 0x001688400003FFFFFFFFFFFFFFFFFFFFFFFF00043201) (hex 15 0x000000020000000100000001E07A00) ≡ refusal 25 3 14)  -- over 21 3 14
unfolding be be_bytes kind_of child_count count_of items_size fields_size name_size tree_size forest_size row_count forest_rows is_unnamed are_unnamed is_stamp_cluster is_stamp_inside header_at count_at run_at item_at items_at pairs_at fields_read judged contents_at fill_at filled_at fields_at members_at name_at node_at tree_at checked le width_of number_at scalar_at text_at sizes_at sizes_fit product array_at repeat walk_fields walk walk_all walked data_check
damaged-data = (refl, refl, refl, refl, refl, refl, refl, refl, refl, refl, refl, refl, refl, refl, refl, refl, refl, refl, refl, refl, refl, refl, refl, refl, refl, refl, refl, refl, refl, refl, refl, refl, refl, refl, refl, refl, refl, refl, refl, refl, refl, refl, refl, refl, refl, refl, refl, refl)

-- parts at a path
pub damaged-parts :
    (located (hex 6 0x000605080000) (hex 8 0xF4442D75228A9764) [] ≡ part_at 0 8)
    × (located (hex 22 0x001652400002FFFFFFFFFFFFFFFF0008160303D988DF) (hex 16 0x00000001000000028987FF2A6C09876F) (0 ∷ []) ≡ part_at 8 4)
    × (located (hex 28 0x001C0054000600160050000400040003000400030004000700040007) (hex 16 0xFFFFFFFF010247047F7FFFFF7FC00000) (0 ∷ 1 ∷ []) ≡ part_at 4 4)
    × (located (hex 22 0x0016DD5000020004DD060008DD30FFFFFFFF031FA9D7) (hex 7 0x2EA00000000110) (1 ∷ []) ≡ part_at 2 5)
    × (located (hex 22 0x001600400003FFFFFFFFFFFFFFFFFFFFFFFF00040006) (hex 16 0x0000000100000001000000020000D0D8) (1 ∷ []) ≡ part_at 14 2)
    × (located (hex 28 0x001C3B400003FFFFFFFFFFFFFFFFFFFFFFFF00063B010000026E7100) (hex 13 0x00000001000000010000000117) (0 ∷ []) ≡ part_at 12 1)
    × (located (hex 8 0x0008265000010004) (hex 8 0x53BC4A6F487D269A) (1 ∷ []) ≡ no_part 2 1 6)  -- over 30 4 0
    × (located (hex 16 0x00109E400001FFFFFFFFFF06F1020000) (hex 8 0x000000027D705ACB) (2 ∷ []) ≡ no_part 3 1 10)  -- over 30 4 0
    × (located (hex 38 0x002600500001001D0050000200040021000A000205BC2579D1460765686274666F7902626500) (hex 3 0x61FFFE) (0 ∷ 8 ∷ []) ≡ no_part 4 1 6)  -- over 30 4 1
    × (located (hex 36 0x00249F4100060461696861076B736C667268750006627A6A67727703627377030FE58F00) (hex 2 0x5402) (7 ∷ []) ≡ no_part 5 1 3)  -- over 23 3 0, 30 4 0
    × (located (hex 96 0x006041500001005A1F400001FFFFFFFF00506B500001004A82400004FFFFFFFFFFFFFFFFFFFFFFFFFFFFFFFF003438500001002E41400002FFFFFFFFFFFFFFFF00206E500001001A305000010014BC400001FFFFFFFF00082D30FFFFFFFF0000) (hex 4 0x00000000) [] ≡ no_part 6 1 76)
    × (located (hex 36 0x0024BB16000500097561657164616775720009DD61734BEA985E8F1A096B64627164626F) (hex 2 0x0004) (5 ∷ []) ≡ no_part 8 1 36)  -- over 30 4 0
    × (located (hex 6 0x0006BA150000) (hex 1 0x00) (0 ∷ []) ≡ no_part 9 1 4)  -- over 30 4 0
    × (located (hex 8 0x0008C830FFFFFF77) (hex 3 0x000001) [] ≡ no_part 10 1 4)  -- over 21 3 0
    × (located (hex 16 0x00100030FFFFFFFF057A6D7A776B0000) (hex 24 0x0000000CC2E40C73392AA90548203E6F0971B35A247B1B2C) (1 ∷ []) ≡ no_part 11 1 8)  -- over 25 3 16, 30 4 0
    × (located (hex 16 0x000EF9400001FFFFFFFF00048F030001) (hex 16 0x000000037FFFFFFF6C5FA26CE8D58024) (1 ∷ 2 ∷ []) ≡ no_part 12 1 14)  -- over 30 4 1
    × (located (hex 28 0x001C2D400004FFFFFFFFFFFFFFFFFFFFFFFFFFFFFFFF0004000C0000) (hex 6 0x000000000000) (0 ∷ []) ≡ no_part 21 3 0)  -- over 30 4 0
    × (located (hex 16 0x00106B400001FFFFFFFF000643030000) (hex 8 0x00002D0140C2DBEB) (0 ∷ 0 ∷ []) ≡ no_part 21 3 8)  -- over 30 4 1
    × (located (hex 8 0x00084230FFFFFFFF) (hex 4 0x80000001) (0 ∷ []) ≡ no_part 22 3 0)  -- over 30 4 0
    × (located (hex 28 0x001C38500002000C380707C7461DAB48C6BD000A3830FFFFFFFF01B9) (hex 11 0x3DD5E8AE8000000011AEEB) (9 ∷ []) ≡ no_part 22 3 4)  -- over 30 4 0
    × (located (hex 20 0x001400160001067877696761650004766E616400) (hex 2 0x0001) (4 ∷ []) ≡ no_part 23 3 0)  -- over 30 4 0
    × (located (hex 32 0x002000400002FFFFFFFFFFFFFFFF0010001600010935CD8F33C9007BDF030179) (hex 10 0x00000001000000010001) (8 ∷ []) ≡ no_part 23 3 8)  -- over 30 4 0
    × (located (hex 12 0x000C000907B6A6BA31DC30F2) (hex 11 0xFF80000164EEFAFA8C266A) (1 ∷ []) ≡ no_part 25 3 4)  -- over 30 4 0
    × (located (hex 8 0x00086430FFFFFFFF) (hex 16 0x0000000BDCFFB90AE770617B1E40DA23) (0 ∷ []) ≡ no_part 25 3 15)  -- over 30 4 0
    × (located (hex 6 0x000615030000) (hex 4 0x9414B819) (2 ∷ []) ≡ no_part 30 4 0)
    × (located (hex 28 0x001C1E54000600161E50000400041E0300041E0300041E0700041E07) (hex 16 0x7FC00000F78864A28D4FE0DE84FF6B69) (0 ∷ 2 ∷ 0 ∷ []) ≡ no_part 30 4 2)
    × (located (hex 24 0x001810500001001248500001000C455000010004CC050186) (hex 1 0xE3) (0 ∷ 0 ∷ 0 ∷ 7 ∷ []) ≡ no_part 30 4 3)
unfolding be be_bytes kind_of child_count count_of items_size fields_size name_size tree_size forest_size row_count forest_rows is_unnamed are_unnamed is_stamp_cluster is_stamp_inside header_at count_at run_at item_at items_at pairs_at fields_read judged contents_at fill_at filled_at fields_at members_at name_at node_at tree_at checked le width_of number_at scalar_at text_at sizes_at sizes_fit product array_at repeat walk_fields walk walk_all walked member_at step_at spot_at part_of located
damaged-parts = (refl, refl, refl, refl, refl, refl, refl, refl, refl, refl, refl, refl, refl, refl, refl, refl, refl, refl, refl, refl, refl, refl, refl, refl, refl, refl, refl)

-- values at a path
pub damaged-values :
    (told (read_value (hex 6 0x000605080000) (hex 8 0xF4442D75228A9764) []) ≡ (accepted 0, 1, 0xF4442D75228A9764))
    × (told (read_value (hex 18 0x0012851A00030007BEB80006EBC00002DE80) (hex 8 0x5BB11251B52ABECE) []) ≡ (accepted 0, 4, 0x5BB11251B52ABECE))
    × (told (read_value (hex 22 0x001652400002FFFFFFFFFFFFFFFF0008160303D988DF) (hex 16 0x00000001000000028987FF2A6C09876F) (0 ∷ [])) ≡ (accepted 0, 2, 0xFFFFFFFF8987FF2A))
    × (told (read_value (hex 14 0x000E0121096977677265726A766D) (hex 1 0x74) []) ≡ (accepted 0, 5, 0x1))
    × (told (read_value (hex 14 0x000E3B1900020006F56500057141) (hex 4 0xC8126CE4) []) ≡ (accepted 0, 3, 0xC8126CE4))
    × (told (read_value (hex 8 0x00082F0802616200) (hex 8 0xC63012E602EA2207) []) ≡ (accepted 0, 1, 0xC63012E602EA2207))
    × (told (read_value (hex 6 0x000651040000) (hex 8 0x14A8D6544437E645) []) ≡ (accepted 0, 2, 0x14A8D6544437E645))
    × (told (read_value (hex 32 0x0020F71A000600003B7B000726860005421A0001CADC000041550001F1DD0000) (hex 8 0x81D7791B2AC12570) []) ≡ (accepted 0, 4, 0x81D7791B2AC12570))
    × (told (read_value (hex 26 0x001ADF1900050001697E000458EA00030E1500050A090007A653) (hex 4 0x04F7E28A) []) ≡ (accepted 0, 3, 0x4F7E28A))
    × (told (read_value (hex 16 0x001000400001FFFFFFFF000600210000) (hex 8 0x00000004010900FF) (0 ∷ [])) ≡ (accepted 0, 5, 0x1))
    × (told (read_value (hex 8 0x0008265000010004) (hex 8 0x53BC4A6F487D269A) (1 ∷ [])) ≡ (refusal 2 1 6, 0, 0))  -- over 30 4 0, 31 4 0
    × (told (read_value (hex 16 0x00109E400001FFFFFFFFFF06F1020000) (hex 8 0x000000027D705ACB) (2 ∷ [])) ≡ (refusal 3 1 10, 0, 0))  -- over 30 4 0, 31 4 0
    × (told (read_value (hex 38 0x002600500001001D0050000200040021000A000205BC2579D1460765686274666F7902626500) (hex 3 0x61FFFE) (0 ∷ 8 ∷ [])) ≡ (refusal 4 1 6, 0, 0))  -- over 30 4 1, 31 4 0
    × (told (read_value (hex 32 0x0020C81F000500068D8B0001F3BA0003D3BA0002D9D60007BDD10471636F6200) (hex 8 0x1A5D1F399908D14E) []) ≡ (refusal 5 1 3, 0, 0))  -- over 31 4 0
    × (told (read_value (hex 96 0x006041500001005A1F400001FFFFFFFF00506B500001004A82400004FFFFFFFFFFFFFFFFFFFFFFFFFFFFFFFF003438500001002E41400002FFFFFFFFFFFFFFFF00206E500001001A305000010014BC400001FFFFFFFF00082D30FFFFFFFF0000) (hex 4 0x00000000) []) ≡ (refusal 6 1 76, 0, 0))
    × (told (read_value (hex 36 0x0024BB16000500097561657164616775720009DD61734BEA985E8F1A096B64627164626F) (hex 2 0x0004) (5 ∷ [])) ≡ (refusal 8 1 36, 0, 0))  -- over 30 4 0
    × (told (read_value (hex 6 0x0006BA150000) (hex 1 0x00) (0 ∷ [])) ≡ (refusal 9 1 4, 0, 0))  -- over 30 4 0
    × (told (read_value (hex 8 0x0008C830FFFFFF77) (hex 3 0x000001) []) ≡ (refusal 10 1 4, 0, 0))  -- over 21 3 0
    × (told (read_value (hex 16 0x00100030FFFFFFFF057A6D7A776B0000) (hex 24 0x0000000CC2E40C73392AA90548203E6F0971B35A247B1B2C) (1 ∷ [])) ≡ (refusal 11 1 8, 0, 0))  -- over 25 3 16, 30 4 0
    × (told (read_value (hex 16 0x000EF9400001FFFFFFFF00048F030001) (hex 16 0x000000037FFFFFFF6C5FA26CE8D58024) (1 ∷ 2 ∷ [])) ≡ (refusal 12 1 14, 0, 0))  -- over 30 4 1
    × (told (read_value (hex 28 0x001C2D400004FFFFFFFFFFFFFFFFFFFFFFFFFFFFFFFF0004000C0000) (hex 6 0x000000000000) (0 ∷ [])) ≡ (refusal 21 3 0, 0, 0))  -- over 30 4 0
    × (told (read_value (hex 16 0x00106B400001FFFFFFFF000643030000) (hex 8 0x00002D0140C2DBEB) (0 ∷ 0 ∷ [])) ≡ (refusal 21 3 8, 0, 0))  -- over 30 4 1
    × (told (read_value (hex 8 0x00084230FFFFFFFF) (hex 4 0x80000001) (0 ∷ [])) ≡ (refusal 22 3 0, 0, 0))  -- over 30 4 0
    × (told (read_value (hex 28 0x001C38500002000C380707C7461DAB48C6BD000A3830FFFFFFFF01B9) (hex 11 0x3DD5E8AE8000000011AEEB) (9 ∷ [])) ≡ (refusal 22 3 4, 0, 0))  -- over 30 4 0
    × (told (read_value (hex 20 0x001400160001067877696761650004766E616400) (hex 2 0x0001) (4 ∷ [])) ≡ (refusal 23 3 0, 0, 0))  -- over 30 4 0
    × (told (read_value (hex 32 0x002000400002FFFFFFFFFFFFFFFF0010001600010935CD8F33C9007BDF030179) (hex 10 0x00000001000000010001) (8 ∷ [])) ≡ (refusal 23 3 8, 0, 0))  -- over 30 4 0
    × (told (read_value (hex 12 0x000C000907B6A6BA31DC30F2) (hex 11 0xFF80000164EEFAFA8C266A) (1 ∷ [])) ≡ (refusal 25 3 4, 0, 0))  -- over 30 4 0
    × (told (read_value (hex 8 0x00086430FFFFFFFF) (hex 16 0x0000000BDCFFB90AE770617B1E40DA23) (0 ∷ [])) ≡ (refusal 25 3 15, 0, 0))  -- over 30 4 0
    × (told (read_value (hex 8 0x0008DC30FFFFFFFF) (hex 9 0x000000058E8BD8DEA6) (0 ∷ [])) ≡ (refusal 30 4 0, 0, 0))  -- over 31 4 0
    × (told (read_value (hex 20 0x001483500001000E06400001FFFFFFFF00046D21) (hex 4 0x00000000) (0 ∷ 0 ∷ [])) ≡ (refusal 30 4 1, 0, 0))  -- over 31 4 0
    × (told (read_value (hex 20 0x0014D85000010006D80A00000769717475656E6B) (hex 8 0xFFF0000000000000) []) ≡ (refusal 31 4 0, 0, 0))
    × (told (read_value (hex 22 0x001600400002FFFFFFFFFFFFFFFF00080030FFFFFFFF) (hex 16 0x00000002000000010000000000000000) (1 ∷ [])) ≡ (refusal 31 4 0, 0, 0))
    × (told (read_value (hex 24 0x00182A400002FFFFFFFFFFFFFFFF000A4A50000100044602) (hex 14 0x0000000100000003B9B2A8F68001) (0 ∷ [])) ≡ (refusal 31 4 0, 0, 0))
unfolding be be_bytes kind_of child_count count_of items_size fields_size name_size tree_size forest_size row_count forest_rows is_unnamed are_unnamed is_stamp_cluster is_stamp_inside header_at count_at run_at item_at items_at pairs_at fields_read judged contents_at fill_at filled_at fields_at members_at name_at node_at tree_at checked le width_of number_at scalar_at text_at sizes_at sizes_fit product array_at repeat walk_fields walk walk_all walked member_at step_at spot_at signed single_of double_of nan_bits of_bits to_bits of_single of_double value_of is_value number_of read_value value_kind complement value_bits told
damaged-values = (refl, refl, refl, refl, refl, refl, refl, refl, refl, refl, refl, refl, refl, refl, refl, refl, refl, refl, refl, refl, refl, refl, refl, refl, refl, refl, refl, refl, refl, refl, refl, refl, refl)

-- data turned into its little-endian form
pub damaged-turned :
    (to_little_endian (hex 24 0x0018E4160002097070676875737676610468647376000000) (hex 2 0x0001) (room 2) ≡ wrote 2 (hex 2 0x0100))
    × (to_little_endian (hex 18 0x0012D9400001FFFFFFFF0006FB0601010000) (hex 4 0x00000000) (room 5) ≡ wrote 4 (hex 5 0x00000000EE))
    × (to_little_endian (hex 12 0x000C5B1C00010003DD6C0101) (hex 8 0xB1F7108C00800000) (room 8) ≡ wrote 8 (hex 8 0x8C10F7B100008000))
    × (to_little_endian (hex 18 0x001200500002000400040008000503AA13C1) (hex 9 0x389A936C9E68343F5B) (room 9) ≡ wrote 9 (hex 9 0x3F34689E6C939A385B))
    × (to_little_endian (hex 14 0x000E095000020004B50C0004540A) (hex 16 0x313610FA7F800001FB357C7B1B6F6CFF) (room 18) ≡ wrote 16 (hex 18 0xFA1036310100807FFF6C6F1B7B7C35FBEEEE))
    × (to_little_endian (hex 4 0x00046D0E) (hex 32 0x6186240E4FFC80409F59A59FE76ADFA22EF19BFFBA5B85F0631531C9C499D4D8) (room 32) ≡ wrote 32 (hex 32 0xA2DF6AE79FA5599F4080FC4F0E248661D8D499C4C9311563F0855BBAFF9BF12E))
    × (to_little_endian (hex 8 0x000800500001001C) (hex 3 0x01FFFE) (room 2) ≡ unwritten (room 2) 2 1 6)  -- over 50 4 3
    × (to_little_endian (hex 16 0x0010E2500001FF0AF130FFFFFFFF011A) (hex 6 0x00000001E137) (room 6) ≡ unwritten (room 6) 3 1 6)  -- over 25 3 5
    × (to_little_endian (hex 22 0x00140050000100897C0E0050000100080030FFFFFFFF) (hex 12 0x00000000836468FC3152D23F) (room 3) ≡ unwritten (room 3) 4 1 6)  -- over 25 3 4, 50 4 12
    × (to_little_endian (hex 28 0x001CFD5400060016B25000040004DF800004B7030004160700043E07) (hex 16 0x91F8DEDAA7DCF3122CEBA202F8782061) (room 8) ≡ unwritten (room 8) 5 1 15)  -- over 50 4 16
    × (to_little_endian (hex 72 0x004800500001004200400002FFFFFFFFFFFFFFFF003400500001002E00500001002800500001002200500001001C00400001FFFFFFFF001200500001000C00540006000600500004) (hex 16 0x00010000000000010000000000000000) (room 1) ≡ unwritten (room 1) 6 1 60)
    × (to_little_endian (hex 10 0x000A5C150005046B6AFE) (hex 1 0x06) (room 0) ≡ unwritten (room 0) 8 1 10)  -- over 23 3 0, 50 4 1
    × (to_little_endian (hex 6 0x0006D3190000) (hex 4 0x72EA45E7) (room 3) ≡ unwritten (room 3) 9 1 4)  -- over 50 4 4
    × (to_little_endian (hex 8 0x000800300000FFFF) (hex 8 0x0000FFFF4B2CF808) (room 8) ≡ unwritten (room 8) 10 1 4)  -- over 21 3 0
    × (to_little_endian (hex 14 0x000ED8170001049F7AC97D000200) (hex 4 0x00000001) (room 3) ≡ unwritten (room 3) 11 1 12)  -- over 23 3 0, 50 4 4
    × (to_little_endian (hex 10 0x0008DC30FFFFFFFFA3A8) (hex 9 0x000000058E8BD8DEA6) (room 8) ≡ unwritten (room 8) 12 1 8)  -- over 50 4 9
    × (to_little_endian (hex 14 0x000E0030FFFFFFFF057A6D7A776B) (hex 6 0x0000000CC2E4) (room 11) ≡ unwritten (room 11) 21 3 0)  -- over 50 4 16
    × (to_little_endian (hex 14 0x000E5A400001FFFFFFFF00041101) (hex 4 0x00000001) (room 3) ≡ unwritten (room 3) 21 3 4)  -- over 50 4 4
    × (to_little_endian (hex 18 0x00121B30FFFFFFFF086B716E706464677200) (hex 16 0xFFFFFFFFD50D543EBA244C566F49B975) (room 15) ≡ unwritten (room 15) 22 3 0)  -- over 50 4 16
    × (to_little_endian (hex 26 0x001A00400003FFFFFFFFFFFFFFFFFFFFFFFF00080030FFFFFFFF) (hex 16 0x000000010000000100000001A0000001) (room 15) ≡ unwritten (room 15) 22 3 12)  -- over 50 4 16
    × (to_little_endian (hex 36 0x00249F1500060461696861076B736C667268750006627A6A67727703627377030FE58F00) (hex 2 0x5405) (room 0) ≡ unwritten (room 0) 23 3 0)  -- over 50 4 1
    × (to_little_endian (hex 28 0x001C00400001FFFFFFFF0012001500030171017506676479646B7800) (hex 7 0x00000009020402) (room 12) ≡ unwritten (room 12) 23 3 5)  -- over 21 3 7, 50 4 13
    × (to_little_endian (hex 6 0x00060D070000) (hex 8 0x114F14E4885CE21E) (room 1) ≡ unwritten (room 1) 25 3 4)  -- over 50 4 4
    × (to_little_endian (hex 6 0x0006540E0000) (hex 38 0x8000000000000000000000000000000172DAB79DA4ABF387E72EB389815603D17580A7F6596A) (room 31) ≡ unwritten (room 31) 25 3 32)  -- over 50 4 32
    × (to_little_endian (hex 10 0x000A3F30FFFFFFFF0000) (hex 6 0x00000002D9E6) (room 5) ≡ unwritten (room 5) 50 4 6)  -- over 50 4 7
    × (to_little_endian (hex 18 0x001262400002FFFFFFFFFFFFFFFF00047C03) (hex 12 0x00000001000000018184865F) (room 0) ≡ unwritten (room 0) 50 4 12)  -- over 50 4 9
unfolding be be_bytes kind_of child_count count_of items_size fields_size name_size tree_size forest_size row_count forest_rows is_unnamed are_unnamed is_stamp_cluster is_stamp_inside header_at count_at run_at item_at items_at pairs_at fields_read judged contents_at fill_at filled_at fields_at members_at name_at node_at tree_at checked le width_of number_at scalar_at text_at sizes_at sizes_fit product array_at repeat walk_fields walk walk_all walked written_to reverse_each number_count number_width reverse_token reversed turned
damaged-turned = (refl, refl, refl, refl, refl, refl, refl, refl, refl, refl, refl, refl, refl, refl, refl, refl, refl, refl, refl, refl, refl, refl, refl, refl, refl, refl)

-- and back from it
pub damaged-returned :
    (from_little_endian (hex 24 0x0018E4160002097070676875737676610468647376000000) (hex 2 0x0100) (room 2) ≡ wrote 2 (hex 2 0x0001))
    × (from_little_endian (hex 18 0x0012D9400001FFFFFFFF0006FB0601010000) (hex 4 0x00000000) (room 5) ≡ wrote 4 (hex 5 0x00000000EE))
    × (from_little_endian (hex 12 0x000C5B1C00010003DD6C0101) (hex 8 0x8C10F7B100008000) (room 8) ≡ wrote 8 (hex 8 0xB1F7108C00800000))
    × (from_little_endian (hex 18 0x001200500002000400040008000503AA13C1) (hex 9 0x3F34689E6C939A385B) (room 9) ≡ wrote 9 (hex 9 0x389A936C9E68343F5B))
    × (from_little_endian (hex 14 0x000E095000020004B50C0004540A) (hex 16 0xFA1036310100807FFF6C6F1B7B7C35FB) (room 18) ≡ wrote 16 (hex 18 0x313610FA7F800001FB357C7B1B6F6CFFEEEE))
    × (from_little_endian (hex 4 0x00046D0E) (hex 32 0xA2DF6AE79FA5599F4080FC4F0E248661D8D499C4C9311563F0855BBAFF9BF12E) (room 32) ≡ wrote 32 (hex 32 0x6186240E4FFC80409F59A59FE76ADFA22EF19BFFBA5B85F0631531C9C499D4D8))
    × (from_little_endian (hex 8 0x000800500001001C) (hex 3 0x01FEFF) (room 2) ≡ unwritten (room 2) 2 1 6)  -- over 50 4 3
    × (from_little_endian (hex 16 0x0010E2500001FF0AF130FFFFFFFF011A) (hex 6 0x01000000E137) (room 6) ≡ unwritten (room 6) 3 1 6)  -- over 25 3 5
    × (from_little_endian (hex 22 0x00140050000100897C0E0050000100080030FFFFFFFF) (hex 12 0x00000000836468FC3152D23F) (room 3) ≡ unwritten (room 3) 4 1 6)  -- over 25 3 4, 50 4 12
    × (from_little_endian (hex 28 0x001CFD5400060016B25000040004DF800004B7030004160700043E07) (hex 16 0xDADEF89112F3DCA702A2EB2C612078F8) (room 8) ≡ unwritten (room 8) 5 1 15)  -- over 50 4 16
    × (from_little_endian (hex 72 0x004800500001004200400002FFFFFFFFFFFFFFFF003400500001002E00500001002800500001002200500001001C00400001FFFFFFFF001200500001000C00540006000600500004) (hex 16 0x00000100010000000000000000000000) (room 1) ≡ unwritten (room 1) 6 1 60)
    × (from_little_endian (hex 10 0x000A5C150005046B6AFE) (hex 1 0x06) (room 0) ≡ unwritten (room 0) 8 1 10)  -- over 23 3 0, 50 4 1
    × (from_little_endian (hex 6 0x0006D3190000) (hex 4 0xE745EA72) (room 3) ≡ unwritten (room 3) 9 1 4)  -- over 50 4 4
    × (from_little_endian (hex 8 0x000800300000FFFF) (hex 8 0xFFFF00004B2CF808) (room 8) ≡ unwritten (room 8) 10 1 4)  -- over 21 3 0
    × (from_little_endian (hex 14 0x000ED8170001049F7AC97D000200) (hex 4 0x01000000) (room 3) ≡ unwritten (room 3) 11 1 12)  -- over 23 3 0, 50 4 4
    × (from_little_endian (hex 10 0x0008DC30FFFFFFFFA3A8) (hex 9 0x050000008E8BD8DEA6) (room 8) ≡ unwritten (room 8) 12 1 8)  -- over 50 4 9
    × (from_little_endian (hex 14 0x000E0030FFFFFFFF057A6D7A776B) (hex 6 0x0C000000C2E4) (room 11) ≡ unwritten (room 11) 21 3 0)  -- over 50 4 16
    × (from_little_endian (hex 40 0x0028C6160006082BB4EEF745E9194607746378676B636E023350015D016D08EB5D4D8E3F462F4B00) (hex 1 0x06) (room 0) ≡ unwritten (room 0) 21 3 0)  -- over 23 3 0, 50 4 2
    × (from_little_endian (hex 30 0x001E00400004FFFFFFFFFFFFFFFFFFFFFFFFFFFFFFFF0004000902767300) (hex 5 0x0000000000) (room 17) ≡ unwritten (room 17) 21 3 0)  -- over 22 3 0
    × (from_little_endian (hex 16 0x0010A630FFFFFFFF076C74616B787063) (hex 2 0xFFFF) (room 5) ≡ unwritten (room 5) 21 3 0)  -- over 22 3 0
    × (from_little_endian (hex 14 0x000E5A400001FFFFFFFF00041101) (hex 4 0x01000000) (room 3) ≡ unwritten (room 3) 21 3 4)  -- over 50 4 4
    × (from_little_endian (hex 14 0x000E00400001FFFFFFFF00040009) (hex 9 0x01386B1D28F7BD3393) (room 8) ≡ unwritten (room 8) 21 3 8)  -- over 21 3 4, 25 3 8, 50 4 12
    × (from_little_endian (hex 8 0x00080E30FFFFFFFF) (hex 7 0x000000F0EE0800) (room 0) ≡ unwritten (room 0) 22 3 0)  -- over 50 4 4
    × (from_little_endian (hex 8 0x0008D630FFFFFFFF) (hex 7 0x01B0E5BC000000) (room 3) ≡ unwritten (room 3) 22 3 0)  -- over 21 3 0, 50 4 4
    × (from_little_endian (hex 26 0x001A00400003FFFFFFFFFFFFFFFFFFFFFFFF00080030FFFFFFFF) (hex 16 0x01000000010000000100000003000080) (room 15) ≡ unwritten (room 15) 22 3 12)  -- over 50 4 16
    × (from_little_endian (hex 36 0x00249F1500060461696861076B736C667268750006627A6A67727703627377030FE58F00) (hex 2 0xF605) (room 0) ≡ unwritten (room 0) 23 3 0)  -- over 50 4 1
    × (from_little_endian (hex 28 0x001C00400001FFFFFFFF0012001500030171017506676479646B7800) (hex 7 0x09000000020402) (room 12) ≡ unwritten (room 12) 23 3 5)  -- over 21 3 7, 50 4 13
    × (from_little_endian (hex 6 0x00060D070000) (hex 8 0xE4144F11885CE21E) (room 1) ≡ unwritten (room 1) 25 3 4)  -- over 50 4 4
    × (from_little_endian (hex 26 0x001AB6400003FFFFFFFFFFFFFFFFFFFFFFFF00089330FFFFFFFF) (hex 16 0x01000000000000000100000001000000) (room 17) ≡ unwritten (room 17) 25 3 12)  -- over 21 3 12
    × (from_little_endian (hex 6 0x0006540E0000) (hex 38 0x01000000000000000000000000000080D103568189B32EE787F3ABA49DB7DA727580A7F6596A) (room 31) ≡ unwritten (room 31) 25 3 32)  -- over 50 4 32
    × (from_little_endian (hex 10 0x000A3F30FFFFFFFF0000) (hex 6 0x02000000D9E6) (room 5) ≡ unwritten (room 5) 50 4 6)  -- over 50 4 7
    × (from_little_endian (hex 18 0x001262400002FFFFFFFFFFFFFFFF00047C03) (hex 12 0x0100000001000000F76F985F) (room 0) ≡ unwritten (room 0) 50 4 12)  -- over 50 4 9
unfolding be be_bytes kind_of child_count count_of items_size fields_size name_size tree_size forest_size row_count forest_rows is_unnamed are_unnamed is_stamp_cluster is_stamp_inside header_at count_at run_at item_at items_at pairs_at fields_read judged contents_at fill_at filled_at fields_at members_at name_at node_at tree_at checked le width_of number_at scalar_at text_at sizes_at sizes_fit product array_at repeat walk_fields walk walk_all walked written_to reverse_each number_count number_width reverse_token reversed turned
damaged-returned = (refl, refl, refl, refl, refl, refl, refl, refl, refl, refl, refl, refl, refl, refl, refl, refl, refl, refl, refl, refl, refl, refl, refl, refl, refl, refl, refl, refl, refl, refl, refl, refl)

-- records in a reader's shape: writer, reader, data, room
pub damaged-records :
    (resolved (hex 16 0x00107350000100089005036964320000) (hex 20 0x0014005000010008000503696432047677666200) (hex 1 0x1C) (room 2) ≡ wrote 1 (hex 2 0x1CEE))
    × (resolved (hex 24 0x0018CB50000200060A0601000006250201270445923E2300) (hex 12 0x000CF350000100061D060100) (hex 4 0xABEAD802) (room 4) ≡ wrote 2 (hex 4 0xABEAEEEE))
    × (resolved (hex 28 0x001C00500002000A002105D28FB74A4A000A0002045B289497000000) (hex 26 0x001A37500002000AD302045B28949700000A962105D28FB74A4A) (hex 3 0x10BF78) (room 5) ≡ wrote 3 (hex 5 0xBF7810EEEE))
    × (resolved (hex 16 0x0010E05000010008E007026964000000) (hex 14 0x000E005000010008000702696400) (hex 4 0xB9B9C8AD) (room 6) ≡ wrote 4 (hex 6 0xB9B9C8ADEEEE))
    × (resolved (hex 22 0x00163550000100103C080A6964656E74696669657200) (hex 28 0x001C0050000100106E080A6964656E74696669657200054FBE2BF02B) (hex 8 0xAD5828C9ECBD6261) (room 8) ≡ wrote 8 (hex 8 0xAD5828C9ECBD6261))
    × (resolved (hex 22 0x00164650000200082E040373696C0008D20502000000) (hex 24 0x0018A75000020008DA040373696C00085C0502000000016B) (hex 9 0xAAE2259C432176EC29) (room 11) ≡ wrote 9 (hex 11 0xAAE2259C432176EC29EEEE))
    × (resolved (hex 12 0x000C2350000100063C0B0169) (hex 18 0x00121F5000010006770B016905EBF7B5279E) (hex 16 0xCFED4A738F7E0744B88C452B937FD31A) (room 16) ≡ wrote 16 (hex 16 0xCFED4A738F7E0744B88C452B937FD31A))
    × (resolved (hex 14 0x000EE45000010008E40E02494400) (hex 14 0x000E575000010008570E02494400) (hex 32 0x5FBAA8C7F532140D8996B78814134DECC55E25C09526BB2568FA9F836E378B94) (room 34) ≡ wrote 32 (hex 34 0x5FBAA8C7F532140D8996B78814134DECC55E25C09526BB2568FA9F836E378B94EEEE))
    × (resolved (hex 24 0x00185E400004FFFFFFFFFFFFFFFFFFFFFFFFFFFFFFFF0024) (hex 22 0x0016FE5000010008FE0D0200000006786F6C62656700) (hex 10 0x00010000000100000000) (room 0) ≡ unwritten (room 0) 2 1 22)  -- over 21 3 0
    × (resolved (hex 20 0x0014005000020006000D01FF0006000901690000) (hex 1 0x00) (hex 21 0xE4372CCF31621FF872A811F2E244D3BE4F4CF54876) (room 1) ≡ unwritten (room 1) 2 2 0)  -- over 44 2 0, 25 3 20
    × (resolved (hex 26 0x001A0C500003000ADB0204BAF181DB000004EC02000633210000) (hex 6 0x00065C500001) (hex 5 0xE1A1FFFF3B) (room 1) ≡ unwritten (room 1) 2 2 6)  -- over 44 2 0
    × (resolved (hex 18 0xFF120017000103687A6B066C73636C737900) (hex 36 0x002414500001001CE91E00050001489200055C6C0004B3000007C9A9000882EF01000000) (hex 4 0x00000000) (room 1) ≡ unwritten (room 1) 3 1 0)  -- over 41 1 0
    × (resolved (hex 18 0x0012005000018000000702736A0003666B76) (hex 22 0x00168050000200088B0702736A000008560103696432) (hex 4 0x7233D1DD) (room 2) ≡ unwritten (room 2) 3 1 6)  -- over 42 2 1
    × (resolved (hex 34 0x002200500001001A001900040004F67E000350760000AEB700025A86036964320000) (hex 8 0xFF082530FFFFFFFF) (hex 4 0xE9696588) (room 1) ≡ unwritten (room 1) 3 2 0)  -- over 40 2 0
    × (resolved (hex 16 0x001000500001000A0001056667766C68) (hex 18 0x001219500001800A1901056667766C680000) (hex 1 0x15) (room 0) ≡ unwritten (room 0) 3 2 6)  -- over 50 4 1
    × (resolved (hex 32 0x7FFEA915000502796C096E7675786C73686E270479756F72026B65046B626C6B) (hex 22 0x0016C650000200086408026964000008D20102494400) (hex 1 0x00) (room 1) ≡ unwritten (room 1) 4 1 0)  -- over 41 1 0
    × (resolved (hex 24 0x0018605000017F08301500010000096E637A777A6675716D) (hex 22 0x00166E50000100086E0502494400066F69666A636C00) (hex 1 0x01) (room 1) ≡ unwritten (room 1) 4 1 6)  -- over 42 2 0, 23 3 0
    × (resolved (hex 16 0x00100050000100080003020000000000) (hex 15 0x00144D5000010008E8050200000004) (hex 2 0x7FFF) (room 0) ≡ unwritten (room 0) 4 2 0)  -- over 44 2 0, 21 3 0
    × (resolved (hex 14 0x000E7B50000100087B0803696432) (hex 12 0x000E4F1600687664656A766A) (hex 8 0x40B13A372594803D) (room 1) ≡ unwritten (room 1) 4 2 0)  -- over 40 2 0
    × (resolved (hex 22 0x001636500001001078500001000A6C50000100046E01) (hex 4 0x00181650) (hex 1 0x76) (room 2) ≡ unwritten (room 2) 4 2 0)  -- over 42 2 0
    × (resolved (hex 14 0x000E155000010008B30603696432) (hex 38 0x0026205000010020DC5400060016945000040004260300045D03001485070004140703696432) (hex 6 0xE160BA2A4459) (room 0) ≡ unwritten (room 0) 4 2 26)  -- over 44 2 0, 25 3 2
    × (resolved (hex 6 0x00064A540000) (hex 14 0x000E005000010008000D036964FF) (hex 32 0x3B8DE0F86D0348327A4E096289052D1C4C95C2F284FD55B50ADD28B00A7712A8) (room 1) ≡ unwritten (room 1) 5 1 3)  -- over 41 1 0
    × (resolved (hex 16 0x001026500001000A264104799EAF5D00) (hex 18 0x001000500001000A000504799E177FAF5D00) (hex 1 0xA6) (room 2) ≡ unwritten (room 2) 5 1 9)  -- over 11 2 10
    × (resolved (hex 18 0x001200500001000C000A076F6E736E716C70) (hex 18 0x001225530001000C250A076C626F746C6261) (hex 8 0xE7F142A1C7830104) (room 2) ≡ unwritten (room 2) 5 2 3)  -- over 42 2 0
    × (resolved (hex 14 0x000E785000010008F50203EBC712) (hex 40 0x00283455002100000000000000000000000000000000000000000000000000000000000000000000) (hex 2 0xD3B6) (room 1) ≡ unwritten (room 1) 5 2 3)  -- over 40 2 0
    × (resolved (hex 60 0x003C35500001003635500001003035500001002A355000010024355000FF001E35400001FFFFFFFF001435500001000E35400001FFFFFFFF00043504) (hex 18 0x001269500002000476040008760503696432) (hex 6 0x0000005DF000) (room 1) ≡ unwritten (room 1) 6 1 56)
    × (resolved (hex 26 0x001AC15000020010EF15000203042EB400000370656F00042C0C) (hex 64 0x00407B500001003AA3500001003449400001FFFFFFFF002A4E500001002484400001FFFFFFFF001AA2500001001436500001000E7F5000010008FF30FFFFFFFF) (hex 9 0x00ECA00F6056BCFD09) (room 2) ≡ unwritten (room 2) 6 2 56)
    × (resolved (hex 8 0x0008951600060752) (hex 22 0x0016445000010010C33F0B74656D7065726174757265) (hex 2 0x0006) (room 2) ≡ unwritten (room 2) 8 1 8)  -- over 5 2 9, 23 3 0
    × (resolved (hex 14 0x000E9E500001000894020375647A) (hex 4 0x00040050) (hex 1 0x68) (room 1) ≡ unwritten (room 1) 8 2 4)  -- over 21 3 0
    × (resolved (hex 22 0x0016EA500001001069400B74656D7065726174757261) (hex 24 0x001800500001001000070B74656D70657261747572610000) (hex 10 0x7673B84CEFD6E3942D4D) (room 3) ≡ unwritten (room 3) 9 1 10)  -- over 25 3 4, 50 4 4
    × (resolved (hex 28 0x001CE1500002000A490505C55F9B37E40006140B0176050A0269A6F3) (hex 6 0x0006FE400180) (hex 17 0xE20000000000000000A900000000000000) (room 2) ≡ unwritten (room 2) 9 2 4)  -- over 40 2 0
    × (resolved (hex 14 0x000EBD5000010008F00803766E76) (hex 12 0x000C025000010006CB190000) (hex 8 0x4561C403704424ED) (room 0) ≡ unwritten (room 0) 9 2 10)  -- over 40 2 0
    × (resolved (hex 26 0x001A96150001000E961C01090004C7D60369643205746D7A766B) (hex 20 0x00141E500001000E1E1C00010004C7D603696432) (hex 8 0x56818239E22C1E38) (room 8) ≡ unwritten (room 8) 10 1 7)  -- over 9 1 10
    × (resolved (hex 18 0x001200500001000C0030FFFFFFFF03657977) (hex 22 0x001673500001000CBB30FFFF0CFF03657977020B2100) (hex 8 0x0001000098857F9B) (room 10) ≡ unwritten (room 10) 10 2 10)  -- over 21 3 0
    × (resolved (hex 10 0x000AB421062B9663AE8F) (hex 12 0x000C92200001000694060169) (hex 1 0xFF) (room 2) ≡ unwritten (room 2) 11 1 4)  -- over 5 2 3
    × (resolved (hex 6 0x0006000A0100) (hex 20 0x001200500001000600210169076879746C6E7971) (hex 5 0x7FFFFFFFFF) (room 2) ≡ unwritten (room 2) 11 2 12)  -- over 41 1 0, 21 3 0
    × (resolved (hex 13 0x000A005000010004000AA32D6D) (hex 22 0x0016A850000100066E2101000873756F776163697301) (hex 8 0xE8F1784B137DB2AB) (room 1) ≡ unwritten (room 1) 12 1 10)  -- over 11 2 12, 42 2 0
    × (resolved (hex 12 0x000C205000010006200D0100) (hex 29 0x001AF55000010010F5010A6964656E746966696572000380A083856D5F) (hex 16 0xB6C6D1ED7D8D012549CA2F8FA864DA7D) (room 1) ≡ unwritten (room 1) 12 2 26)  -- over 42 2 0
    × (resolved (hex 26 0x001AD8500002000ED206086768716871777264000006BD090000) (hex 22 0x0016A1500001000E3D060867687168717772640001F8) [] (room 1) ≡ unwritten (room 1) 21 3 0)  -- over 50 4 2
    × (resolved (hex 38 0x0026A25000020012CE170001076C7776726B686302AAB3000006990B016906331D46969B3A00) (hex 12 0x000CF95000010006A90B0169) (hex 6 0x000000000102) (room 1) ≡ unwritten (room 1) 21 3 4)  -- over 50 4 16
    × (resolved (hex 24 0x001800400002FFFFFFFFFFFFFFFF0004000B05E302FCA024) (hex 26 0x001AD75000010012B630FFFFFFFF08736B6F7770687371000000) (hex 8 0xFFFFFFFF00000002) (room 0) ≡ unwritten (room 0) 22 3 0)  -- over 41 1 0
    × (resolved (hex 18 0x0012D017000206FE44BF2FA20C0177000000) (hex 26 0x001A985000010012FA5000010006160C01000548877937240000) (hex 4 0x00000002) (room 0) ≡ unwritten (room 0) 23 3 0)  -- over 41 1 0
    × (resolved (hex 30 0x001E005000030006000C0100000E00160001056E667A6574000000040021) (hex 12 0x000C385000010006EF010100) (hex 11 0xFF800001C04CA45C010001) (room 0) ≡ unwritten (room 0) 23 3 8)  -- over 44 2 0
    × (resolved (hex 18 0x0012DD50000100064A030100051695B052AD) (hex 12 0x000C26500001000655040100) (hex 8 0xFFF0000000000000) (room 7) ≡ unwritten (room 7) 25 3 4)  -- over 50 4 8
    × (resolved (hex 6 0x00069B0A0000) (hex 18 0x001200500002000600050169000600050169) (hex 11 0x7FFFFFFFFFFFFFE52C16FF) (room 1) ≡ unwritten (room 1) 25 3 8)  -- over 40 2 1
    × (resolved (hex 24 0x001800500001000E000409696B6B767A706B677102636500) (hex 10 0x000A9B50000100049B04) (hex 8 0xA117D1242B97BE8B) (room 2) ≡ unwritten (room 2) 40 2 0)  -- over 50 4 8
    × (resolved (hex 24 0x001833500002000CC630FFFFFFFF02696400000631020169) (hex 22 0x001639500002000C0A30FFFFFFFF026964000004CD02) (hex 7 0x00000001D54805) (room 6) ≡ unwritten (room 6) 40 2 1)  -- over 50 4 7
    × (resolved (hex 4 0x00048705) (hex 28 0x001C81500003000847020269640000081E0C020000000004A6210000) (hex 1 0xFE) (room 1) ≡ unwritten (room 1) 40 2 2)  -- over 41 1 0
    × (resolved (hex 4 0x00040007) (hex 36 0x002479500003000C660706383933323839000008400E020000000008F60603696432017A) (hex 4 0xA54012F4) (room 0) ≡ unwritten (room 0) 41 1 0)
    × (resolved (hex 8 0x0008EB30FFFFFFFF) (hex 26 0x001A765000010014761A00030006E185000720D700006A540169) (hex 16 0x0000000CE0325A93B40EF1726E2F3591) (room 2) ≡ unwritten (room 2) 41 1 0)
    × (resolved (hex 4 0x0004CA0C) (hex 20 0x001400500001000E000A09756363646867746470) (hex 8 0x4D2B62327FC00000) (room 0) ≡ unwritten (room 0) 41 1 0)
    × (resolved (hex 24 0x0018C35000010008FC080369643209686B70696A75707261) (hex 14 0x000EDE50000100089E0803696401) (hex 8 0xB55417313610FA54) (room 7) ≡ unwritten (room 7) 42 2 0)  -- over 50 4 8
    × (resolved (hex 16 0x0010B05000020006C20801690004D704) (hex 20 0x0014CB5000020006CB0801690008CB0C02696400) (hex 16 0xA208EE2992315081A81ED12B99B74EE1) (room 1) ≡ unwritten (room 1) 42 2 1)  -- over 44 2 1
    × (resolved (hex 22 0x00165F50000200087A21027869000008720502667600) (hex 30 0x001EEA50000300089F050266760000082221027869000008290102494400) (hex 2 0x028D) (room 2) ≡ unwritten (room 2) 42 2 2)
    × (resolved (hex 28 0x001C005000020006000801000010001A000200055B9D000862A80100) (hex 12 0x000C705000010006AE080100) (hex 16 0x0F570D59705BAC3D429AE227648D195F) (room 2) ≡ unwritten (room 2) 43 2 0)
    × (resolved (hex 32 0x0020FA50000300085421036D646400069506016A0008AC06036D64640366D349) (hex 20 0x00140050000200060006016A00080021036D6464) (hex 5 0x9F04FF91EA) (room 1) ≡ unwritten (room 1) 43 2 1)
    × (resolved (hex 26 0x001AED50000100128A50000100089C0703FFFE27022C77000000) (hex 24 0x00181250000100120850000100085707034BFE27022C7700) (hex 4 0xBB4414D3) (room 0) ≡ unwritten (room 0) 44 2 0)  -- over 50 4 4
    × (resolved (hex 20 0x0014105000020006A30201000008B80702696400) (hex 22 0x00160050000200080007026964000006000301000000) (hex 6 0x75F12D0C8657) (room 1) ≡ unwritten (room 1) 44 2 1)
    × (resolved (hex 12 0x000CFD5000010006A60101B8) (hex 18 0x0012005000010006000101B805647168617A) (hex 1 0x00) (room 0) ≡ unwritten (room 0) 50 4 1)
    × (resolved (hex 22 0x0016B950000200085A070200000000066B0500000000) (hex 14 0x000E4E5000010008200702000000) (hex 5 0xB4B6E140FF) (room 3) ≡ unwritten (room 3) 50 4 4)
unfolding be be_bytes kind_of child_count count_of items_size fields_size name_size tree_size forest_size row_count forest_rows is_unnamed are_unnamed is_stamp_cluster is_stamp_inside header_at count_at run_at item_at items_at pairs_at fields_read judged contents_at fill_at filled_at fields_at members_at name_at node_at tree_at checked le width_of number_at scalar_at text_at sizes_at sizes_fit product array_at repeat walk_fields walk walk_all walked same_list same_name items_of pairs_of same_tree same_forest row_of place_of_name length_of_name written_to members_from writer_fields is_among reader_names reader_fields matches namesakes searched search_number member_found member_bytes joined_bytes record_bytes resolved
damaged-records = (refl, refl, refl, refl, refl, refl, refl, refl, refl, refl, refl, refl, refl, refl, refl, refl, refl, refl, refl, refl, refl, refl, refl, refl, refl, refl, refl, refl, refl, refl, refl, refl, refl, refl, refl, refl, refl, refl, refl, refl, refl, refl, refl, refl, refl, refl, refl, refl, refl, refl, refl, refl, refl, refl, refl, refl, refl, refl, refl, refl)
