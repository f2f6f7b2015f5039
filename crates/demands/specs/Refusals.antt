-- Descriptors by hand, beside P1 to P12: named rows, the place of each refusal inside another descriptor, document 01's order where two
-- refusals could be given, and the limits. Each fact is computed from the definitions, so that a place, an order, a number or a limit that
-- is changed in a definition and in the code alike is noticed here.
-- The public entry whose contract uses these definitions is check_descriptor; the others judge a descriptor by the same `checked`.
use Rattle.std.specs.Prelude.{◌≡◌, refl, List, [], ◌∷◌, ◌++◌, ℕ, zero, suc, ◌+◌, ◌*◌, replicate}
use Rattle.number.specs.Endian.{be, be_bytes}
use Rattle.descriptor.specs.Limits.{descriptor_limit, row_limit, depth_limit, dimension_limit, pair_limit, base_limit, count_limit, data_limit, length_limit, high_bit, fixed_word}
use Rattle.descriptor.specs.Codes.{Kind, plain, enumeration, quantity, string, array, cluster, stamp, unknown, kind_of}
use Rattle.descriptor.specs.Tree.{child_count, count_of, items_size, fields_size, name_size, tree_size, forest_size, row_count, forest_rows}
use Rattle.descriptor.specs.Encoding.{word}
use Rattle.descriptor.specs.Check.{header_at, count_at, run_at, item_at, items_at, pairs_at, fields_read, judged, contents_at, fill_at, filled_at, fields_at, members_at, name_at, node_at, tree_at, checked}
use Rattle.descriptor.specs.Table.{place_of_name, length_of_name, row_of, rows_of, forest_rows_of}
use Rattle.descriptor.specs.Answers.{refusal, accepted, descriptor_check}
use Rattle.descriptor.specs.Width.{width_of}
use Rattle.descriptor.specs.declared.answer.Answer.{Answer}
use Rattle.demands.specs.Cases.{row, with_rows, p1, rig}

-- what the check answers, without its rows
unfoldable pub answer : List ℕ → Answer
answer d = (descriptor_check d).answer

-- refused at a place of the first input
abbrev at : ℕ → ℕ → Answer
at number place = refusal number 1 place

-- n copies of some bytes
unfoldable pub copies : ℕ → List ℕ → List ℕ
copies zero x = []
copies (suc n) x = x ++ copies n x

-- a cluster of one member with that many bytes, which starts at 6
unfoldable pub within : ℕ → List ℕ → List ℕ
within n x = word (6 + n) ++ (0x00 ∷ 0x50 ∷ 0x00 ∷ 0x01 ∷ x)

-- a descriptor of that many bytes inside n clusters, each of one member
unfoldable pub in_clusters : ℕ → ℕ → List ℕ → List ℕ
in_clusters zero size x = x
in_clusters (suc n) size x = within (size + 6 * n) (in_clusters n size x)

-- a code's descriptor of four bytes
unfoldable pub nested : ℕ → ℕ → List ℕ
nested n code = in_clusters n 4 (0x00 ∷ 0x04 ∷ 0x00 ∷ code ∷ [])

-- an array in an array, whose count word is missing: 000E 0040 0001 FFFF FFFF 0004 0040
abbrev arrays : List ℕ
arrays = 0x00 ∷ 0x0E ∷ 0x00 ∷ 0x40 ∷ 0x00 ∷ 0x01 ∷ (replicate 4 0xFF ++ (0x00 ∷ 0x04 ∷ 0x00 ∷ 0x40 ∷ []))

-- P11's rig: its members' names at 11 and 17. "An empty name (`0000`) is a name and differs from none."
pub named-rows : (descriptor_check rig ≡ with_rows 3 (row 0x50 0 20 1 2 0 0 ∷ row 0x02 6 6 2 0 11 1 ∷ row 0x07 12 8 2 0 17 2 ∷ []))
    × (descriptor_check (0x00 ∷ 0x06 ∷ 0x00 ∷ 0x03 ∷ 0x00 ∷ 0x00 ∷ []) ≡ with_rows 1 (row 0x03 0 6 1 0 5 0 ∷ []))
    -- 000E 001A 0002 0002 FFFF 0003 0001: two unit pairs
    × (descriptor_check (0x00 ∷ 0x0E ∷ 0x00 ∷ 0x1A ∷ 0x00 ∷ 0x02 ∷ 0x00 ∷ 0x02 ∷ 0xFF ∷ 0xFF ∷ 0x00 ∷ 0x03 ∷ 0x00 ∷ 0x01 ∷ []) ≡ with_rows 1 (row 0x1A 0 14 1 2 0 0 ∷ []))
    -- two dimensions and a name after the element: 0014 0040 0002 FFFF FFFF FFFF FFFF 0004 0003 0161
    × (descriptor_check (0x00 ∷ 0x14 ∷ 0x00 ∷ 0x40 ∷ 0x00 ∷ 0x02 ∷ (replicate 8 0xFF ++ (0x00 ∷ 0x04 ∷ 0x00 ∷ 0x03 ∷ 0x01 ∷ 0x61 ∷ []))) ≡ with_rows 2 (row 0x40 0 20 1 2 19 1 ∷ row 0x03 14 4 2 0 0 0 ∷ []))
unfolding be be_bytes kind_of child_count count_of items_size fields_size name_size tree_size forest_size row_count forest_rows header_at count_at run_at item_at items_at pairs_at fields_read judged contents_at fill_at filled_at fields_at members_at name_at node_at tree_at checked place_of_name length_of_name row_of rows_of forest_rows_of descriptor_check
named-rows = (refl, refl, refl, refl)

-- "Start" is the first byte of the descriptor at fault: here 6, that of the inner one. Document 02's CR 3 has the places of 5 and 8 to 11.
pub places : (answer (0x00 ∷ 0x08 ∷ 0x00 ∷ 0x50 ∷ 0x00 ∷ 0x01 ∷ 0x00 ∷ 0x04 ∷ []) ≡ at 2 6)
    × (answer (within 4 (0x80 ∷ 0x04 ∷ 0x00 ∷ 0x03 ∷ [])) ≡ at 3 6)
    × (answer (within 4 (0x00 ∷ 0x06 ∷ 0x00 ∷ 0x03 ∷ [])) ≡ at 4 6)
    -- "for 5 the low code byte"
    × (answer (within 4 (0x00 ∷ 0x04 ∷ 0x00 ∷ 0x00 ∷ [])) ≡ at 5 9)
    × (answer (nested 8 0x03) ≡ at 6 48)
    -- "for 9 the count word": members, items, pairs and dimensions
    × (answer (within 6 (0x00 ∷ 0x06 ∷ 0x00 ∷ 0x50 ∷ 0x00 ∷ 0x00 ∷ [])) ≡ at 9 10)
    × (answer (within 6 (0x00 ∷ 0x06 ∷ 0x00 ∷ 0x15 ∷ 0x00 ∷ 0x00 ∷ [])) ≡ at 9 10)
    × (answer (within 6 (0x00 ∷ 0x06 ∷ 0x00 ∷ 0x19 ∷ 0x00 ∷ 0x0A ∷ [])) ≡ at 9 10)
    × (answer (within 6 (0x00 ∷ 0x06 ∷ 0x00 ∷ 0x40 ∷ 0x00 ∷ 0x05 ∷ [])) ≡ at 9 10)
    -- "for 10 the first byte of the wrong word or the fill byte": a length word, a dimension word, a base index and a fill byte
    × (answer (within 8 (0x00 ∷ 0x08 ∷ 0x00 ∷ 0x30 ∷ 0xFF ∷ 0xFF ∷ 0xFF ∷ 0xFE ∷ [])) ≡ at 10 10)
    × (answer (within 14 (0x00 ∷ 0x0E ∷ 0x00 ∷ 0x40 ∷ 0x00 ∷ 0x01 ∷ 0xFF ∷ 0xFF ∷ 0xFF ∷ 0xFE ∷ 0x00 ∷ 0x04 ∷ 0x00 ∷ 0x03 ∷ [])) ≡ at 10 12)
    × (answer (within 10 (0x00 ∷ 0x0A ∷ 0x00 ∷ 0x19 ∷ 0x00 ∷ 0x01 ∷ 0x00 ∷ 0x09 ∷ 0x00 ∷ 0x01 ∷ [])) ≡ at 10 12)
    × (answer (within 8 (0x00 ∷ 0x08 ∷ 0x00 ∷ 0x15 ∷ 0x00 ∷ 0x01 ∷ 0x00 ∷ 0x61 ∷ [])) ≡ at 10 13)
    -- the fill byte with a name after it
    × (answer (within 10 (0x00 ∷ 0x0A ∷ 0x00 ∷ 0x15 ∷ 0x00 ∷ 0x01 ∷ 0x00 ∷ 0x61 ∷ 0x01 ∷ 0x61 ∷ [])) ≡ at 10 13)
    -- of three words or base indices the second and the third wrong
    × (answer (within 22 (0x00 ∷ 0x16 ∷ 0x00 ∷ 0x40 ∷ 0x00 ∷ 0x03 ∷ (replicate 4 0xFF ++ (replicate 8 0xFE ++ p1)))) ≡ at 10 16)
    × (answer (within 18 (0x00 ∷ 0x12 ∷ 0x00 ∷ 0x19 ∷ 0x00 ∷ 0x03 ∷ 0x00 ∷ 0x08 ∷ 0x00 ∷ 0x09 ∷ copies 2 (0x00 ∷ 0x09 ∷ 0x00 ∷ 0x01 ∷ []))) ≡ at 10 16)
    -- "for array in array the low code byte of the inner array"
    × (answer (within 24 (0x00 ∷ 0x18 ∷ 0x00 ∷ 0x40 ∷ 0x00 ∷ 0x01 ∷ (replicate 4 0xFF ++ (0x00 ∷ 0x0E ∷ 0x00 ∷ 0x40 ∷ 0x00 ∷ 0x01 ∷ (replicate 4 0xFF ++ p1))))) ≡ at 10 19)
    -- "for 11 the first byte after the body": of a number, of a string, after a member, and where the zero byte after a name isn't one
    × (answer (within 6 (0x00 ∷ 0x06 ∷ 0x00 ∷ 0x03 ∷ 0x02 ∷ 0x61 ∷ [])) ≡ at 11 10)
    × (answer (within 10 (0x00 ∷ 0x0A ∷ 0x00 ∷ 0x30 ∷ (replicate 4 0xFF ++ (0x02 ∷ 0x61 ∷ [])))) ≡ at 11 14)
    × (answer (within 12 (0x00 ∷ 0x0C ∷ 0x00 ∷ 0x50 ∷ 0x00 ∷ 0x01 ∷ (p1 ++ (0x02 ∷ 0x61 ∷ [])))) ≡ at 11 16)
    × (answer (within 8 (0x00 ∷ 0x08 ∷ 0x00 ∷ 0x03 ∷ 0x02 ∷ 0x61 ∷ 0x62 ∷ 0x63 ∷ [])) ≡ at 11 10)
    -- 0006 0003 0261: 11 at 4
    × (answer (0x00 ∷ 0x06 ∷ 0x00 ∷ 0x03 ∷ 0x02 ∷ 0x61 ∷ []) ≡ at 11 4)
    -- 12, "bytes after the top descriptor": "its size"
    × (answer (p1 ++ (0x00 ∷ [])) ≡ at 12 4)
unfolding be be_bytes kind_of child_count count_of items_size fields_size name_size tree_size forest_size row_count forest_rows header_at count_at run_at item_at items_at pairs_at fields_read judged contents_at fill_at filled_at fields_at members_at name_at node_at tree_at checked descriptor_check answer within in_clusters nested copies
places = (refl, refl, refl, refl, refl, refl, refl, refl, refl, refl, refl, refl, refl, refl, refl, refl, refl, refl, refl, refl, refl, refl, refl)

-- the same before another member
unfoldable pub beside : ℕ → List ℕ → List ℕ
beside n x = word (10 + n) ++ (0x00 ∷ 0x50 ∷ 0x00 ∷ 0x02 ∷ (x ++ p1))

-- "for 8 the descriptor's end", which is not its parent's: no count word of a cluster, an enumeration, a quantity and an array, no length word
pub ends : (answer (beside 4 (0x00 ∷ 0x04 ∷ 0x00 ∷ 0x50 ∷ [])) ≡ at 8 10)
    × (answer (beside 4 (0x00 ∷ 0x04 ∷ 0x00 ∷ 0x15 ∷ [])) ≡ at 8 10)
    × (answer (beside 4 (0x00 ∷ 0x04 ∷ 0x00 ∷ 0x19 ∷ [])) ≡ at 8 10)
    × (answer (beside 4 (0x00 ∷ 0x04 ∷ 0x00 ∷ 0x40 ∷ [])) ≡ at 8 10)
    × (answer (beside 6 (0x00 ∷ 0x06 ∷ 0x00 ∷ 0x30 ∷ 0xFF ∷ 0xFF ∷ [])) ≡ at 8 12)
    -- no item; one that runs over; the second of two missing
    × (answer (beside 6 (0x00 ∷ 0x06 ∷ 0x00 ∷ 0x15 ∷ 0x00 ∷ 0x01 ∷ [])) ≡ at 8 12)
    × (answer (beside 8 (0x00 ∷ 0x08 ∷ 0x00 ∷ 0x15 ∷ 0x00 ∷ 0x01 ∷ 0x02 ∷ 0x61 ∷ [])) ≡ at 8 14)
    × (answer (beside 8 (0x00 ∷ 0x08 ∷ 0x00 ∷ 0x15 ∷ 0x00 ∷ 0x02 ∷ 0x01 ∷ 0x61 ∷ [])) ≡ at 8 14)
    -- the second of two pairs, and half of a dimension word
    × (answer (beside 10 (0x00 ∷ 0x0A ∷ 0x00 ∷ 0x19 ∷ 0x00 ∷ 0x02 ∷ 0x00 ∷ 0x08 ∷ 0x00 ∷ 0x01 ∷ [])) ≡ at 8 16)
    × (answer (beside 8 (0x00 ∷ 0x08 ∷ 0x00 ∷ 0x40 ∷ 0x00 ∷ 0x01 ∷ 0xFF ∷ 0xFF ∷ [])) ≡ at 8 14)
unfolding be be_bytes kind_of child_count count_of items_size fields_size name_size tree_size forest_size row_count forest_rows header_at count_at run_at item_at items_at pairs_at fields_read judged contents_at fill_at filled_at fields_at members_at name_at node_at tree_at checked descriptor_check answer beside
ends = (refl, refl, refl, refl, refl, refl, refl, refl, refl, refl)

-- "Order: 1 first. At each descriptor, parent before child: 2 to 7, array in array, then the body: count word missing 8, count 9, the rest
-- missing 8, contents 10. .. Then the children, then 11. Last 12."
pub order : (answer (0x80 ∷ 0x05 ∷ 0x00 ∷ 0x03 ∷ []) ≡ at 3 0)
    × (answer (0x00 ∷ 0x05 ∷ 0x00 ∷ 0x00 ∷ 0x00 ∷ []) ≡ at 4 0)
    -- at depth 9, a code that is not carried
    × (answer (nested 8 0x00) ≡ at 5 51)
    -- an array in an array, whose count word is missing too
    × (answer arrays ≡ at 10 13)
    -- the same at depth 9, and as the 257th row
    × (answer (in_clusters 7 14 arrays) ≡ at 6 52)
    × (answer (0x04 ∷ 0x0C ∷ 0x00 ∷ 0x50 ∷ 0x00 ∷ 0xFF ∷ (copies 254 p1 ++ arrays)) ≡ at 7 1032)
    -- a 257th row that is not carried, and one at depth 9
    × (answer (0x04 ∷ 0x06 ∷ 0x00 ∷ 0x50 ∷ 0x01 ∷ 0x00 ∷ (copies 255 p1 ++ nested 0 0x00)) ≡ at 5 1029)
    × (answer (0x04 ∷ 0x14 ∷ 0x00 ∷ 0x50 ∷ 0x00 ∷ 0xF9 ∷ (copies 248 p1 ++ nested 7 0x03)) ≡ at 6 1040)
    -- five dimensions whose words are missing, or are there and wrong; two pairs, the first base wrong and the second missing
    × (answer (0x00 ∷ 0x06 ∷ 0x00 ∷ 0x40 ∷ 0x00 ∷ 0x05 ∷ []) ≡ at 9 4)
    × (answer (0x00 ∷ 0x1A ∷ 0x00 ∷ 0x40 ∷ 0x00 ∷ 0x05 ∷ replicate 20 0xFE) ≡ at 9 4)
    × (answer (0x00 ∷ 0x0A ∷ 0x00 ∷ 0x19 ∷ 0x00 ∷ 0x02 ∷ 0x00 ∷ 0x09 ∷ 0x00 ∷ 0x01 ∷ []) ≡ at 8 10)
    -- a wrong dimension word, and no element
    × (answer (0x00 ∷ 0x0A ∷ 0x00 ∷ 0x40 ∷ 0x00 ∷ 0x01 ∷ (replicate 4 0xFE)) ≡ at 10 6)
    -- a member that is refused, in a cluster whose rest is no name; a rest that is no name, with a byte after the descriptor
    × (answer (0x00 ∷ 0x0C ∷ 0x00 ∷ 0x50 ∷ 0x00 ∷ 0x01 ∷ 0x00 ∷ 0x04 ∷ 0x00 ∷ 0x00 ∷ 0x02 ∷ 0x61 ∷ []) ≡ at 5 9)
    × (answer (0x00 ∷ 0x06 ∷ 0x00 ∷ 0x03 ∷ 0x02 ∷ 0x61 ∷ 0x00 ∷ []) ≡ at 11 4)
unfolding be be_bytes kind_of child_count count_of items_size fields_size name_size tree_size forest_size row_count forest_rows header_at count_at run_at item_at items_at pairs_at fields_read judged contents_at fill_at filled_at fields_at members_at name_at node_at tree_at checked descriptor_check answer within in_clusters nested copies
order = (refl, refl, refl, refl, refl, refl, refl, refl, refl, refl, refl, refl, refl, refl)

-- "H limits: descriptor 4,096 bytes; 256 rows; depth 8 ..; array dimensions 1 to 4; unit pairs 1 to 9; .. data 65,536 bytes", "a 16-bit base
-- index 0 to 8", "Lengths and sizes are below 2^31", "size word's high bit", "the word FFFFFFFF"
pub limits : (descriptor_limit ≡ 4096) × (row_limit ≡ 256) × (depth_limit ≡ 8) × (dimension_limit ≡ 4) × (pair_limit ≡ 9) × (base_limit ≡ 8) × (count_limit ≡ 65535)
    × (data_limit ≡ 65536) × (length_limit ≡ 2147483648) × (high_bit ≡ 32768) × (fixed_word ≡ 4294967295)
limits = (refl, refl, refl, refl, refl, refl, refl, refl, refl, refl, refl)

-- at the limits, and one past them
pub limit-cases : (answer (nested 7 0x03) ≡ accepted 8)
    × (answer (0x04 ∷ 0x02 ∷ 0x00 ∷ 0x50 ∷ 0x00 ∷ 0xFF ∷ copies 255 p1) ≡ accepted 256)
    × (answer (0x04 ∷ 0x06 ∷ 0x00 ∷ 0x50 ∷ 0x01 ∷ 0x00 ∷ copies 256 p1) ≡ at 7 1026)
    × (answer (0x00 ∷ 0x1A ∷ 0x00 ∷ 0x40 ∷ 0x00 ∷ 0x04 ∷ (replicate 16 0xFF ++ p1)) ≡ accepted 2)
    × (answer (0x00 ∷ 0x2A ∷ 0x00 ∷ 0x19 ∷ 0x00 ∷ 0x09 ∷ copies 9 (0x00 ∷ 0x08 ∷ 0xFF ∷ 0xFF ∷ [])) ≡ accepted 1)
    × (answer (0x00 ∷ 0x2E ∷ 0x00 ∷ 0x19 ∷ 0x00 ∷ 0x0A ∷ copies 10 (0x00 ∷ 0x08 ∷ 0xFF ∷ 0xFF ∷ [])) ≡ at 9 4)
    × (answer (replicate 4097 0x00) ≡ at 1 0)
unfolding be be_bytes kind_of child_count count_of items_size fields_size name_size tree_size forest_size row_count forest_rows header_at count_at run_at item_at items_at pairs_at fields_read judged contents_at fill_at filled_at fields_at members_at name_at node_at tree_at checked descriptor_check answer within in_clusters nested copies
limit-cases = (refl, refl, refl, refl, refl, refl, refl)

-- the kinds and the widths of n codes in a row, from `low` on
unfoldable pub kinds : ℕ → ℕ → List Kind
kinds zero low = []
kinds (suc n) low = kind_of low ∷ kinds n (suc low)

unfoldable pub widths : ℕ → ℕ → List ℕ
widths zero low = []
widths (suc n) low = width_of low ∷ widths n (suc low)

-- "Carried codes: 01 to 08 .., 09 to 0B .., 0C to 0E .., 15 to 17 .., 19 to 1B and 1C to 1E .., 21 .., 30 .., 40 .., 50", and 54, of all 256
pub carried-codes : (kinds 33 0
    ≡ unknown ∷ (replicate 14 plain ++ (replicate 6 unknown ++ (replicate 3 enumeration ++ (unknown ∷ (replicate 6 quantity ++ (unknown ∷ unknown ∷ [])))))))
    × (kinds 223 33
    ≡ plain ∷ (replicate 14 unknown ++ (string ∷ (replicate 15 unknown ++ (array ∷ (replicate 15 unknown ++ (cluster ∷ (replicate 3 unknown ++ stamp ∷ replicate 171 unknown))))))))
unfolding kind_of kinds
carried-codes = (refl, refl)

-- "1, 2, 4, 8 bytes for 01 to 04 and again for 05 to 08; 4, 8, 16 for 09 to 0B and 19 to 1B; 8, 16, 32 for 0C to 0E and 1C to 1E; 1, 2, 4
-- for 15 to 17; 1 for 21", of all 256
pub code-widths : widths 256 0
    ≡ 0 ∷ 1 ∷ 2 ∷ 4 ∷ 8 ∷ 1 ∷ 2 ∷ 4 ∷ 8 ∷ 4 ∷ 8 ∷ 16 ∷ 8 ∷ 16 ∷ 32 ∷ (replicate 6 0 ++ (1 ∷ 2 ∷ 4 ∷ 0 ∷ 4 ∷ 8 ∷ 16 ∷ 8 ∷ 16 ∷ 32 ∷ 0 ∷ 0 ∷ 1 ∷ replicate 222 0))
unfolding width_of widths
code-widths = refl
