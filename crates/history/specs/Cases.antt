-- Blank books by hand, document 02, CR 4: books of none, one and two records, each refusal with its place, and which comes first where several could be
-- given. The expected values are counted from the request's words, and from those of document 01 and of CR 3 for the record's own refusals; each fact is
-- computed from the definitions, so that a definition which no longer gives one of these results is noticed here, though the code is changed alike. What
-- no case meets is not. The public entries are store_check, store_add, store_find and store_list.
use Rattle.std.specs.Prelude.{◌≡◌, refl, List, [], ◌∷◌, ◌++◌, ℕ, take, replicate}
use Rattle.std.proofs.lemmas.List.Edits.{sets}
use Rattle.number.specs.Endian.{be, be_bytes}
use Rattle.descriptor.specs.Codes.{kind_of}
use Rattle.descriptor.specs.Tree.{child_count, count_of, items_size, fields_size, name_size, tree_size, forest_size, row_count, forest_rows}
use Rattle.descriptor.specs.Check.{header_at, count_at, run_at, item_at, items_at, pairs_at, fields_read, judged, contents_at, fill_at, filled_at, fields_at, members_at, name_at, node_at, tree_at, checked}
use Rattle.descriptor.specs.Table.{place_of_name, length_of_name, row_of}
use Rattle.descriptor.specs.Answers.{refusal, accepted}
use Rattle.descriptor.specs.Output.{Written, unwritten, written_to}
use Rattle.descriptor.specs.Width.{width_of}
use Rattle.descriptor.specs.declared.answer.Answer.{Answer}
use Rattle.canonical.specs.Equality.{same_list, same_name, items_of, pairs_of, same_tree, same_forest}
use Rattle.flattened.specs.Order.{number_at}
use Rattle.flattened.specs.Walk.{scalar_at, text_at, sizes_at, sizes_fit, product, array_at, repeat, walk_fields, walk, walk_all, walked}
use Rattle.access.specs.Path.{no_part}
use Rattle.access.specs.declared.part.Part.{Part}
use Rattle.resolution.specs.Record.{members_from, writer_fields, is_among, reader_names, reader_fields, matches, namesakes, searched, search_number, member_found, member_bytes, joined_bytes, record_bytes}
use Rattle.store.specs.Book.{shape, identified, is_one_of}
use Rattle.store.specs.Layout.{entry_bytes, end_from}
use Rattle.store.specs.Check.{blank_at, says, is_blank, entry_fits, entry_at, entries_at, zero_at, unused_at, filled, opened, book_check}
use Rattle.store.specs.Questions.{entry_of, found, identifiers, listed, absent, admitted, with_record, entered, added, new_book}
use Rattle.history.specs.History.{Operation, add, answers, after, predictions, held, outcome, not_held, held_size, accepted_records}

-- a rig with members "t" and "blank", 22 bytes: 0016 0050 0002 0006 0002 0174 000A 0007 0562 6C61 6E6B
abbrev rig : List ℕ
rig =
    0x00 ∷ 0x16 ∷ 0x00 ∷ 0x50 ∷ 0x00 ∷ 0x02 ∷ 0x00 ∷ 0x06 ∷ 0x00 ∷ 0x02 ∷ 0x01 ∷ 0x74 ∷ 0x00 ∷ 0x0A ∷ 0x00 ∷ 0x07 ∷ 0x05 ∷ 0x62 ∷ 0x6C ∷ 0x61 ∷ 0x6E ∷ 0x6B ∷ []

-- a small number of 32 bits
abbrev few : ℕ → List ℕ
few n = 0 ∷ 0 ∷ 0 ∷ n ∷ []

-- its data, 6 bytes: 0019 and the identifier; so a body is 28 bytes
abbrev sent : ℕ → List ℕ
sent id = 0x00 ∷ 0x19 ∷ few id

abbrev body : ℕ → List ℕ
body id = rig ++ sent id

-- an entry: identifier, start, the lengths 22 and 6
abbrev entry : ℕ → ℕ → List ℕ
entry id start = few id ++ (few start ++ (few 22 ++ few 6))

abbrev unused : List ℕ
unused = replicate 16 0

-- the free bytes
abbrev free : ℕ → List ℕ
free n = replicate n 238

-- books of capacity 2, whose contents end at 36, in 100 bytes: with no record, with blank 9 at 36 to 64, and with blank 7 at 64 to 92 too
abbrev bare : List ℕ
bare = 0 ∷ 2 ∷ 0 ∷ 0 ∷ (unused ++ (unused ++ free 64))

abbrev one : List ℕ
one = 0 ∷ 2 ∷ 0 ∷ 1 ∷ (entry 9 36 ++ (unused ++ (body 9 ++ free 36)))

abbrev two : List ℕ
two = 0 ∷ 2 ∷ 0 ∷ 2 ∷ (entry 9 36 ++ (entry 7 64 ++ (body 9 ++ (body 7 ++ free 8))))

-- a book of capacity 1 with a record of this descriptor's length and data's length at 20
abbrev single : ℕ → ℕ → ℕ → List ℕ → List ℕ
single id d x bytes = 0 ∷ 1 ∷ 0 ∷ 1 ∷ (few id ++ (few 20 ++ (few d ++ (few x ++ bytes))))

-- what is answered where a record was added, and where a book is bad
abbrev wrote : List ℕ → Written
wrote s = record { answer = accepted 0; out = s }

abbrev bad : ℕ → Answer
bad place = refusal 63 4 place

abbrev part : ℕ → ℕ → Part
part start length = record { answer = accepted 0; start = start; length = length }

-- records that are refused: a number by itself, a cluster without "blank", with two, with a signed one
abbrev lone : List ℕ
lone = 0x00 ∷ 0x04 ∷ 0x00 ∷ 0x07 ∷ []

abbrev other : List ℕ
other = 0x00 ∷ 0x0C ∷ 0x00 ∷ 0x50 ∷ 0x00 ∷ 0x01 ∷ 0x00 ∷ 0x06 ∷ 0x00 ∷ 0x07 ∷ 0x01 ∷ 0x74 ∷ []

abbrev member : ℕ → List ℕ
member code = 0x00 ∷ 0x0A ∷ 0x00 ∷ code ∷ 0x05 ∷ 0x62 ∷ 0x6C ∷ 0x61 ∷ 0x6E ∷ 0x6B ∷ []

abbrev doubled : List ℕ
doubled = 0x00 ∷ 0x1A ∷ 0x00 ∷ 0x50 ∷ 0x00 ∷ 0x02 ∷ (member 0x07 ++ member 0x07)

abbrev signed : List ℕ
signed = 0x00 ∷ 0x10 ∷ 0x00 ∷ 0x50 ∷ 0x00 ∷ 0x01 ∷ member 0x03

-- a number in eight clusters, 52 bytes
abbrev nested : ℕ → List ℕ → List ℕ
nested size inside = 0x00 ∷ size ∷ 0x00 ∷ 0x50 ∷ 0x00 ∷ 0x01 ∷ inside

abbrev deep : List ℕ
deep = nested 52 (nested 46 (nested 40 (nested 34 (nested 28 (nested 22 (nested 16 (nested 10 lone)))))))

-- a cluster of 256 numbers, 1,030 bytes: 257 rows, the last at 1,026
abbrev twice : List ℕ → List ℕ
twice xs = xs ++ xs

abbrev crowd : List ℕ
crowd = 0x04 ∷ 0x06 ∷ 0x00 ∷ 0x50 ∷ 0x01 ∷ 0x00 ∷ twice (twice (twice (twice (twice (twice (twice (twice lone)))))))

-- a cluster of one enumeration, which stands at 6 and has the one item "ab", with a fill byte at 15 that is not zero
abbrev ill_filled : List ℕ
ill_filled = nested 16 (0x00 ∷ 0x0A ∷ 0x00 ∷ 0x15 ∷ 0x00 ∷ 0x01 ∷ 0x02 ∷ 0x61 ∷ 0x62 ∷ 0x01 ∷ [])

-- document 01's P4, an array of doubles; and rigs that send "blank" with it, and with an enumeration of the items "a" and "b"
abbrev list : List ℕ
list = 0x00 ∷ 0x0E ∷ 0x00 ∷ 0x40 ∷ 0x00 ∷ 0x01 ∷ (replicate 4 0xFF ++ (0x00 ∷ 0x04 ∷ 0x00 ∷ 0x0A ∷ []))

abbrev listing : List ℕ
listing = 0x00 ∷ 0x1E ∷ 0x00 ∷ 0x50 ∷ 0x00 ∷ 0x02 ∷ (member 0x07 ++ list)

abbrev choosing : List ℕ
choosing =
    0x00 ∷ 0x1A ∷ 0x00 ∷ 0x50 ∷ 0x00 ∷ 0x02 ∷ (member 0x07 ++ (0x00 ∷ 0x0A ∷ 0x00 ∷ 0x15 ∷ 0x00 ∷ 0x02 ∷ 0x01 ∷ 0x61 ∷ 0x01 ∷ 0x62 ∷ []))

-- a rig that sends a whole record in a string: members "blank" and "s", 26 bytes; its data is 28 bytes, the last 20 of them the shape and blank 7
abbrev carrier : List ℕ
carrier = 0x00 ∷ 0x1A ∷ 0x00 ∷ 0x50 ∷ 0x00 ∷ 0x02 ∷ (member 0x07 ++ (0x00 ∷ 0x0A ∷ 0x00 ∷ 0x30 ∷ (replicate 4 0xFF ++ (0x01 ∷ 0x73 ∷ []))))

abbrev carried : List ℕ
carried = few 9 ++ (few 20 ++ (shape ++ few 7))

-- a book of capacity 2 with that record at 36, its string at 70 to 90, and the second entry's body, of 20 bytes, said to start there
abbrev carrying : ℕ → List ℕ
carrying start =
    0 ∷ 2 ∷ 0 ∷ 2
    ∷ (few 9 ++ (few 36 ++ (few 26 ++ (few 28 ++ (few 7 ++ (few start ++ (few 16 ++ (few 4 ++ (carrier ++ (carried ++ (shape ++ few 7)))))))))))

-- adds, and their answers: accepted, 60, 41, accepted, 61
abbrev asked : List Operation
asked = add rig (sent 9) ∷ add rig (sent 9) ∷ add lone (few 8) ∷ add rig (sent 7) ∷ add rig (sent 8) ∷ []

abbrev replies : List Answer
replies = accepted 0 ∷ refusal 60 4 0 ∷ refusal 41 1 0 ∷ accepted 0 ∷ refusal 61 4 0 ∷ []

-- "check a book": none, one and two records; capacity 0 in four bytes; a book that is full to the last byte. "Bytes after the last body are free and a
-- check ignores them"
pub well-formed : (book_check bare ≡ accepted 0)
    × (book_check one ≡ accepted 0)
    × (book_check two ≡ accepted 0)
    × (book_check (0 ∷ 0 ∷ 0 ∷ 0 ∷ []) ≡ accepted 0)
    × (book_check (take 36 bare) ≡ accepted 0)
    × (book_check (take 64 one) ≡ accepted 0)
    × (book_check (sets two 92 (0 ∷ 255 ∷ [])) ≡ accepted 0)
    × (book_check (0 ∷ 0 ∷ 0 ∷ 0 ∷ two) ≡ accepted 0)
    -- the shape itself with four bytes
    × (book_check (single 9 16 4 (shape ++ few 9)) ≡ accepted 0)
    -- an empty book
    × (new_book 2 (free 64) ≡ bare)
unfolding be be_bytes kind_of child_count count_of items_size fields_size name_size tree_size forest_size row_count forest_rows header_at count_at run_at item_at items_at pairs_at fields_read judged contents_at fill_at filled_at fields_at members_at name_at node_at tree_at checked place_of_name length_of_name row_of written_to same_list same_name items_of pairs_of same_tree same_forest width_of number_at scalar_at text_at sizes_at sizes_fit product array_at repeat walk_fields walk walk_all walked members_from writer_fields is_among reader_names reader_fields matches namesakes searched search_number member_found member_bytes joined_bytes record_bytes identified is_one_of entry_bytes end_from blank_at says is_blank entry_fits entry_at entries_at zero_at unused_at filled opened book_check new_book with_record entry_of found identifiers listed absent admitted entered added
well-formed = (refl, refl, refl, refl, refl, refl, refl, refl, refl, refl)

-- "place 0 for a buffer under 4 or over 65,536 bytes, the capacity if the contents don't fit or more entries are in use than there are"
pub sizes : (book_check [] ≡ bad 0)
    -- three bytes, of a book of capacity 2
    × (book_check (0 ∷ 2 ∷ 0 ∷ []) ≡ bad 0)
    -- 65,536 bytes and one more
    × (book_check (0 ∷ 0 ∷ 0 ∷ 0 ∷ replicate 65532 0) ≡ accepted 0)
    × (book_check (0 ∷ 0 ∷ 0 ∷ 0 ∷ replicate 65533 0) ≡ bad 0)
    -- too long before too little
    × (book_check (255 ∷ 255 ∷ 255 ∷ 255 ∷ replicate 65533 0) ≡ bad 0)
    -- contents one byte too long
    × (book_check (take 35 bare) ≡ bad 2)
    × (book_check (0 ∷ 1 ∷ 0 ∷ 0 ∷ replicate 15 0) ≡ bad 1)
    × (book_check (0 ∷ 1 ∷ 0 ∷ 0 ∷ replicate 16 0) ≡ accepted 0)
    × (book_check (255 ∷ 255 ∷ 0 ∷ 0 ∷ []) ≡ bad 65535)
    -- three in use of two
    × (book_check (sets bare 3 (3 ∷ [])) ≡ bad 2)
    × (book_check (0 ∷ 0 ∷ 0 ∷ 1 ∷ []) ≡ bad 0)
    × (book_check (sets bare 2 (1 ∷ [])) ≡ bad 2)
unfolding be be_bytes kind_of child_count count_of items_size fields_size name_size tree_size forest_size row_count forest_rows header_at count_at run_at item_at items_at pairs_at fields_read judged contents_at fill_at filled_at fields_at members_at name_at node_at tree_at checked place_of_name length_of_name row_of written_to same_list same_name items_of pairs_of same_tree same_forest width_of number_at scalar_at text_at sizes_at sizes_fit product array_at repeat walk_fields walk walk_all walked members_from writer_fields is_among reader_names reader_fields matches namesakes searched search_number member_found member_bytes joined_bytes record_bytes identified is_one_of entry_bytes end_from blank_at says is_blank entry_fits entry_at entries_at zero_at unused_at filled opened book_check new_book with_record entry_of found identifiers listed absent admitted entered added
sizes = (refl, refl, refl, refl, refl, refl, refl, refl, refl, refl, refl, refl)

-- "unused ones are zero", "else the first bad entry": the last byte of entry 0, the first and the last of entry 1, and the first free byte
pub unused-entries : (book_check (sets bare 19 (1 ∷ [])) ≡ bad 0)
    × (book_check (sets bare 20 (1 ∷ [])) ≡ bad 1)
    × (book_check (sets bare 35 (1 ∷ [])) ≡ bad 1)
    × (book_check (sets bare 36 (1 ∷ [])) ≡ accepted 0)
    × (book_check (sets bare 4 (1 ∷ replicate 31 1)) ≡ bad 0)
    × (book_check (sets one 20 (1 ∷ [])) ≡ bad 1)
    -- after a bad one in use
    × (book_check (sets (sets one 20 (1 ∷ [])) 7 (8 ∷ [])) ≡ bad 0)
    -- two records, of which one is said to be in use; and none
    × (book_check (sets two 3 (1 ∷ [])) ≡ bad 1)
    × (book_check (sets two 3 (0 ∷ [])) ≡ bad 0)
    -- an entry in use that is zero
    × (book_check (sets one 3 (2 ∷ [])) ≡ bad 1)
unfolding be be_bytes kind_of child_count count_of items_size fields_size name_size tree_size forest_size row_count forest_rows header_at count_at run_at item_at items_at pairs_at fields_read judged contents_at fill_at filled_at fields_at members_at name_at node_at tree_at checked place_of_name length_of_name row_of written_to same_list same_name items_of pairs_of same_tree same_forest width_of number_at scalar_at text_at sizes_at sizes_fit product array_at repeat walk_fields walk walk_all walked members_from writer_fields is_among reader_names reader_fields matches namesakes searched search_number member_found member_bytes joined_bytes record_bytes identified is_one_of entry_bytes end_from blank_at says is_blank entry_fits entry_at entries_at zero_at unused_at filled opened book_check new_book with_record entry_of found identifiers listed absent admitted entered added
unused-entries = (refl, refl, refl, refl, refl, refl, refl, refl, refl, refl)

-- "The identifier .. equals its entry's, and stands in one entry only; the second is bad": another identifier, an identifier twice, and both entries bad
pub bad-entries : (book_check (sets one 7 (8 ∷ [])) ≡ bad 0)
    × (book_check (sets two 23 (8 ∷ [])) ≡ bad 1)
    × (book_check (sets two 20 (1 ∷ [])) ≡ bad 1)
    × (book_check (sets (sets two 7 (8 ∷ [])) 23 (8 ∷ [])) ≡ bad 0)
    × (book_check (0 ∷ 2 ∷ 0 ∷ 2 ∷ (entry 9 36 ++ (entry 9 64 ++ (body 9 ++ body 9)))) ≡ bad 1)
    × (book_check (0 ∷ 3 ∷ 0 ∷ 3 ∷ (entry 9 52 ++ (entry 7 80 ++ (entry 9 108 ++ (body 9 ++ (body 7 ++ body 9)))))) ≡ bad 2)
    × (book_check (0 ∷ 3 ∷ 0 ∷ 3 ∷ (entry 9 52 ++ (entry 7 80 ++ (entry 7 108 ++ (body 9 ++ (body 7 ++ body 7)))))) ≡ bad 2)
unfolding be be_bytes kind_of child_count count_of items_size fields_size name_size tree_size forest_size row_count forest_rows header_at count_at run_at item_at items_at pairs_at fields_read judged contents_at fill_at filled_at fields_at members_at name_at node_at tree_at checked place_of_name length_of_name row_of written_to same_list same_name items_of pairs_of same_tree same_forest width_of number_at scalar_at text_at sizes_at sizes_fit product array_at repeat walk_fields walk walk_all walked members_from writer_fields is_among reader_names reader_fields matches namesakes searched search_number member_found member_bytes joined_bytes record_bytes identified is_one_of entry_bytes end_from blank_at says is_blank entry_fits entry_at entries_at zero_at unused_at filled opened book_check new_book with_record entry_of found identifiers listed absent admitted entered added
bad-entries = (refl, refl, refl, refl, refl, refl, refl)

-- "Bodies follow the contents with no gap, in the order of entry"
pub bad-places :
    -- a gap before the first body, and before the second
    (book_check (0 ∷ 2 ∷ 0 ∷ 1 ∷ (entry 9 37 ++ (unused ++ (238 ∷ body 9)))) ≡ bad 0)
    × (book_check (0 ∷ 2 ∷ 0 ∷ 2 ∷ (entry 9 36 ++ (entry 7 65 ++ (body 9 ++ (238 ∷ body 7))))) ≡ bad 1)
    -- a start inside the contents, and at 0
    × (book_check (sets one 11 (35 ∷ [])) ≡ bad 0)
    × (book_check (sets one 11 (0 ∷ [])) ≡ bad 0)
    -- a start inside the body before
    × (book_check (sets two 27 (63 ∷ [])) ≡ bad 1)
    -- bodies in another order
    × (book_check (0 ∷ 2 ∷ 0 ∷ 2 ∷ (entry 7 64 ++ (entry 9 36 ++ (body 9 ++ body 7)))) ≡ bad 0)
    -- a body past the end, by one byte
    × (book_check (take 63 one) ≡ bad 0)
    × (book_check (take 91 two) ≡ bad 1)
    -- numbers of 32 bits all over
    × (book_check (sets one 8 (255 ∷ 255 ∷ 255 ∷ 255 ∷ [])) ≡ bad 0)
    × (book_check (sets one 12 (255 ∷ 255 ∷ 255 ∷ 255 ∷ [])) ≡ bad 0)
    × (book_check (sets one 16 (255 ∷ 255 ∷ 255 ∷ 255 ∷ [])) ≡ bad 0)
unfolding be be_bytes kind_of child_count count_of items_size fields_size name_size tree_size forest_size row_count forest_rows header_at count_at run_at item_at items_at pairs_at fields_read judged contents_at fill_at filled_at fields_at members_at name_at node_at tree_at checked place_of_name length_of_name row_of written_to same_list same_name items_of pairs_of same_tree same_forest width_of number_at scalar_at text_at sizes_at sizes_fit product array_at repeat walk_fields walk walk_all walked members_from writer_fields is_among reader_names reader_fields matches namesakes searched search_number member_found member_bytes joined_bytes record_bytes identified is_one_of entry_bytes end_from blank_at says is_blank entry_fits entry_at entries_at zero_at unused_at filled opened book_check new_book with_record entry_of found identifiers listed absent admitted entered added
bad-places = (refl, refl, refl, refl, refl, refl, refl, refl, refl, refl, refl)

-- two good bodies of which the second stands inside the first, at 70, and one after it, at 90: only that is right
pub overlaps : (book_check (carrying 70) ≡ bad 1)
    × (book_check (carrying 90) ≡ accepted 0)
unfolding be be_bytes kind_of child_count count_of items_size fields_size name_size tree_size forest_size row_count forest_rows header_at count_at run_at item_at items_at pairs_at fields_read judged contents_at fill_at filled_at fields_at members_at name_at node_at tree_at checked place_of_name length_of_name row_of written_to same_list same_name items_of pairs_of same_tree same_forest width_of number_at scalar_at text_at sizes_at sizes_fit product array_at repeat walk_fields walk walk_all walked members_from writer_fields is_among reader_names reader_fields matches namesakes searched search_number member_found member_bytes joined_bytes record_bytes identified is_one_of entry_bytes end_from blank_at says is_blank entry_fits entry_at entries_at zero_at unused_at filled opened book_check new_book with_record entry_of found identifiers listed absent admitted entered added
overlaps = (refl, refl)

-- "each a descriptor and its data, both accepted", and read in the shape: data a byte too long and one too short, a descriptor one byte shorter, a code
-- that is not carried, no cluster, no "blank", two of them, another type
pub bad-records : (book_check (sets one 19 (7 ∷ [])) ≡ bad 0)
    × (book_check (sets one 19 (5 ∷ [])) ≡ bad 0)
    × (book_check (sets one 15 (21 ∷ 0 ∷ 0 ∷ 0 ∷ 7 ∷ [])) ≡ bad 0)
    × (book_check (sets one 45 (0 ∷ [])) ≡ bad 0)
    × (book_check (single 9 4 4 (lone ++ few 9)) ≡ bad 0)
    × (book_check (single 9 12 4 (other ++ few 9)) ≡ bad 0)
    × (book_check (single 9 26 8 (doubled ++ (few 9 ++ few 9))) ≡ bad 0)
    × (book_check (single 9 16 4 (signed ++ few 9)) ≡ bad 0)
unfolding be be_bytes kind_of child_count count_of items_size fields_size name_size tree_size forest_size row_count forest_rows header_at count_at run_at item_at items_at pairs_at fields_read judged contents_at fill_at filled_at fields_at members_at name_at node_at tree_at checked place_of_name length_of_name row_of written_to same_list same_name items_of pairs_of same_tree same_forest width_of number_at scalar_at text_at sizes_at sizes_fit product array_at repeat walk_fields walk walk_all walked members_from writer_fields is_among reader_names reader_fields matches namesakes searched search_number member_found member_bytes joined_bytes record_bytes identified is_one_of entry_bytes end_from blank_at says is_blank entry_fits entry_at entries_at zero_at unused_at filled opened book_check new_book with_record entry_of found identifiers listed absent admitted entered added
bad-records = (refl, refl, refl, refl, refl, refl, refl, refl)

-- "Adding writes the record as lent after the last body and its entry after the last in use, and raises the count by one, nothing else": the first
-- and the second record, a record that fits to the last byte, one with a reserved byte that is not zero, and identifiers of 32 bits
pub adds : (added bare rig (sent 9) ≡ wrote one)
    × (added one rig (sent 7) ≡ wrote two)
    × (added (take 92 one) rig (sent 7) ≡ wrote (take 92 two))
    × (added (0 ∷ 1 ∷ 0 ∷ 0 ∷ replicate 36 0) shape (few 5) ≡ wrote (single 5 16 4 (shape ++ few 5)))
    × (added bare (sets rig 2 (0x40 ∷ [])) (sent 9) ≡ wrote (sets one 38 (0x40 ∷ [])))
    × (added (0 ∷ 1 ∷ 0 ∷ 0 ∷ replicate 37 0) shape (0xFE ∷ 0xDC ∷ 0xBA ∷ 0x98 ∷ []) ≡ wrote (sets (single 0 16 4 (shape ++ (0xFE ∷ 0xDC ∷ 0xBA ∷ 0x98 ∷ 0 ∷ []))) 4 (0xFE ∷ 0xDC ∷ 0xBA ∷ 0x98 ∷ [])))
unfolding be be_bytes kind_of child_count count_of items_size fields_size name_size tree_size forest_size row_count forest_rows header_at count_at run_at item_at items_at pairs_at fields_read judged contents_at fill_at filled_at fields_at members_at name_at node_at tree_at checked place_of_name length_of_name row_of written_to same_list same_name items_of pairs_of same_tree same_forest width_of number_at scalar_at text_at sizes_at sizes_fit product array_at repeat walk_fields walk walk_all walked members_from writer_fields is_among reader_names reader_fields matches namesakes searched search_number member_found member_bytes joined_bytes record_bytes identified is_one_of entry_bytes end_from blank_at says is_blank entry_fits entry_at entries_at zero_at unused_at filled opened book_check new_book with_record entry_of found identifiers listed absent admitted entered added
adds = (refl, refl, refl, refl, refl, refl)

-- "60 identifier already there, place its entry; 61 no free entry; 62 no room for the body, place its length". "Places not named are 0"
pub add-refusals : (added one rig (sent 9) ≡ unwritten one 60 4 0)
    × (added two rig (sent 9) ≡ unwritten two 60 4 0)
    × (added two rig (sent 7) ≡ unwritten two 60 4 1)
    × (added two rig (sent 8) ≡ unwritten two 61 4 0)
    -- capacity 0
    × (added (0 ∷ 0 ∷ 0 ∷ 0 ∷ []) rig (sent 8) ≡ unwritten (0 ∷ 0 ∷ 0 ∷ 0 ∷ []) 61 4 0)
    -- one byte too few, and none
    × (added (take 91 one) rig (sent 7) ≡ unwritten (take 91 one) 62 4 28)
    × (added (take 64 one) rig (sent 7) ≡ unwritten (take 64 one) 62 4 28)
    × (added (take 63 bare) rig (sent 9) ≡ unwritten (take 63 bare) 62 4 28)
unfolding be be_bytes kind_of child_count count_of items_size fields_size name_size tree_size forest_size row_count forest_rows header_at count_at run_at item_at items_at pairs_at fields_read judged contents_at fill_at filled_at fields_at members_at name_at node_at tree_at checked place_of_name length_of_name row_of written_to same_list same_name items_of pairs_of same_tree same_forest width_of number_at scalar_at text_at sizes_at sizes_fit product array_at repeat walk_fields walk walk_all walked members_from writer_fields is_among reader_names reader_fields matches namesakes searched search_number member_found member_bytes joined_bytes record_bytes identified is_one_of entry_bytes end_from blank_at says is_blank entry_fits entry_at entries_at zero_at unused_at filled opened book_check new_book with_record entry_of found identifiers listed absent admitted entered added
add-refusals = (refl, refl, refl, refl, refl, refl, refl, refl)

-- "then the record's own": of the descriptor, input 1; of the data, input 3; 41, input 1; and of the member, input 2, which is the shape's first
pub own-refusals : (added bare [] [] ≡ unwritten bare 2 1 0)
    × (added bare (take 20 rig) (sent 9) ≡ unwritten bare 4 1 0)
    × (added bare rig (0x00 ∷ 0x19 ∷ 0 ∷ 0 ∷ 9 ∷ []) ≡ unwritten bare 21 3 2)
    × (added bare rig (sent 9 ++ (0 ∷ [])) ≡ unwritten bare 25 3 6)
    × (added bare lone (few 9) ≡ unwritten bare 41 1 0)
    × (added bare other (few 9) ≡ unwritten bare 42 2 0)
    × (added bare doubled (few 9 ++ few 9) ≡ unwritten bare 43 2 0)
    × (added bare signed (few 9) ≡ unwritten bare 44 2 0)
unfolding be be_bytes kind_of child_count count_of items_size fields_size name_size tree_size forest_size row_count forest_rows header_at count_at run_at item_at items_at pairs_at fields_read judged contents_at fill_at filled_at fields_at members_at name_at node_at tree_at checked place_of_name length_of_name row_of written_to same_list same_name items_of pairs_of same_tree same_forest width_of number_at scalar_at text_at sizes_at sizes_fit product array_at repeat walk_fields walk walk_all walked members_from writer_fields is_among reader_names reader_fields matches namesakes searched search_number member_found member_bytes joined_bytes record_bytes identified is_one_of entry_bytes end_from blank_at says is_blank entry_fits entry_at entries_at zero_at unused_at filled opened book_check new_book with_record entry_of found identifiers listed absent admitted entered added
own-refusals = (refl, refl, refl, refl, refl, refl, refl, refl)

-- document 01, "At each descriptor, parent before child: 2 to 7, array in array, then the body ..", with the places of document 02, CR 3: "for 5 the low
-- code byte; for 8 the descriptor's end; for 9 the count word; for 10 the first byte of the wrong word or the fill byte ..; for 11 the first byte after the
-- body". The rig's members stand at 6 to 12 and at 12 to 22, their codes' low bytes at 9 and 15, their bodies and names at 10 and 16
pub own-descriptor-places :
    -- 1 counts all bytes, 4,097 of them; 2 for a third member; 3 and 4 at a member: a high bit, an odd size, one past the parent's end
    (added bare (rig ++ replicate 4075 0) (sent 9) ≡ unwritten bare 1 1 0)
    × (added bare (sets rig 5 (3 ∷ [])) (sent 9) ≡ unwritten bare 2 1 22)
    × (added bare (sets rig 6 (0x80 ∷ [])) (sent 9) ≡ unwritten bare 3 1 6)
    × (added bare (sets rig 13 (0x0B ∷ [])) (sent 9) ≡ unwritten bare 4 1 12)
    × (added bare (sets rig 13 (0x0C ∷ [])) (sent 9) ≡ unwritten bare 4 1 12)
    -- a code that is not carried, of each member
    × (added bare (sets rig 9 (0x00 ∷ [])) (sent 9) ≡ unwritten bare 5 1 9)
    × (added bare (sets rig 15 (0xFF ∷ [])) (sent 9) ≡ unwritten bare 5 1 15)
    -- a number at depth 9, in eight clusters; and the last of 256 in one
    × (added bare deep (few 9) ≡ unwritten bare 6 1 48)
    × (added bare crowd (few 9) ≡ unwritten bare 7 1 1026)
    -- a string of 6 bytes has no room for its word; a count of 0, and one of 1,378 pairs; a string's word 05626C61
    × (added bare (sets rig 9 (0x30 ∷ [])) (sent 9) ≡ unwritten bare 8 1 12)
    × (added bare (sets rig 5 (0 ∷ [])) (sent 9) ≡ unwritten bare 9 1 4)
    × (added bare (sets rig 15 (0x19 ∷ [])) (sent 9) ≡ unwritten bare 9 1 16)
    × (added bare (sets rig 15 (0x30 ∷ [])) (sent 9) ≡ unwritten bare 10 1 16)
    -- an enumeration's fill byte; "Document 01's P7 becomes 10 at 13"
    × (added bare ill_filled (0 ∷ []) ≡ unwritten bare 10 1 15)
    × (added bare (0x00 ∷ 0x18 ∷ 0x00 ∷ 0x40 ∷ 0x00 ∷ 0x01 ∷ (replicate 4 0xFF ++ list)) (few 0) ≡ unwritten bare 10 1 13)
    -- a name that is too long, and one with a fill byte that is not zero
    × (added bare (sets rig 10 (0x02 ∷ [])) (sent 9) ≡ unwritten bare 11 1 10)
    × (added bare (sets rig 16 (0x04 ∷ [])) (sent 9) ≡ unwritten bare 11 1 16)
    -- "bytes after the top descriptor", place its size
    × (added bare (rig ++ (0 ∷ 0 ∷ [])) (sent 9) ≡ unwritten bare 12 1 22)
unfolding be be_bytes kind_of child_count count_of items_size fields_size name_size tree_size forest_size row_count forest_rows header_at count_at run_at item_at items_at pairs_at fields_read judged contents_at fill_at filled_at fields_at members_at name_at node_at tree_at checked place_of_name length_of_name row_of written_to same_list same_name items_of pairs_of same_tree same_forest width_of number_at scalar_at text_at sizes_at sizes_fit product array_at repeat walk_fields walk walk_all walked members_from writer_fields is_among reader_names reader_fields matches namesakes searched search_number member_found member_bytes joined_bytes record_bytes identified is_one_of entry_bytes end_from blank_at says is_blank entry_fits entry_at entries_at zero_at unused_at filled opened book_check new_book with_record entry_of found identifiers listed absent admitted entered added
own-descriptor-places = (refl, refl, refl, refl, refl, refl, refl, refl, refl, refl, refl, refl, refl, refl, refl, refl, refl, refl)

-- document 01, "In data: 20, then piece by piece 21, 22, 23 .., then 25", each at the start of its piece, 25 at the first byte left over
pub own-data-places :
    -- 65,537 bytes
    (added bare rig (sent 9 ++ replicate 65531 0) ≡ unwritten bare 20 3 0)
    -- a string after the identifier: no length word, half of it, a character too few, a length of 2^31, and a byte too many
    × (added bare carrier (few 9) ≡ unwritten bare 21 3 4)
    × (added bare carrier (few 9 ++ (0 ∷ 0 ∷ [])) ≡ unwritten bare 21 3 4)
    × (added bare carrier (few 9 ++ (few 2 ++ (0x61 ∷ []))) ≡ unwritten bare 21 3 4)
    × (added bare carrier (few 9 ++ (0x80 ∷ 0 ∷ 0 ∷ 0 ∷ [])) ≡ unwritten bare 22 3 4)
    × (added bare carrier (few 9 ++ (few 1 ++ (0x61 ∷ 0 ∷ []))) ≡ unwritten bare 25 3 9)
    -- an array after it: no element where there is to be one, and a size of 2^31
    × (added bare listing (few 9 ++ few 1) ≡ unwritten bare 21 3 8)
    × (added bare listing (few 9 ++ (0x80 ∷ 0 ∷ 0 ∷ 0 ∷ [])) ≡ unwritten bare 22 3 4)
    -- an enumeration of two items after it
    × (added bare choosing (few 9 ++ (2 ∷ [])) ≡ unwritten bare 23 3 4)
unfolding be be_bytes kind_of child_count count_of items_size fields_size name_size tree_size forest_size row_count forest_rows header_at count_at run_at item_at items_at pairs_at fields_read judged contents_at fill_at filled_at fields_at members_at name_at node_at tree_at checked place_of_name length_of_name row_of written_to same_list same_name items_of pairs_of same_tree same_forest width_of number_at scalar_at text_at sizes_at sizes_fit product array_at repeat walk_fields walk walk_all walked members_from writer_fields is_among reader_names reader_fields matches namesakes searched search_number member_found member_bytes joined_bytes record_bytes identified is_one_of entry_bytes end_from blank_at says is_blank entry_fits entry_at entries_at zero_at unused_at filled opened book_check new_book with_record entry_of found identifiers listed absent admitted entered added
own-data-places = (refl, refl, refl, refl, refl, refl, refl, refl, refl)

-- "Between inputs: rig, reader, data, path, then 40, 41, the reader's members in order"; "Only a member found exactly once is compared further"
pub own-orders :
    -- the descriptor's and the data's; the data's and 41; the data's and 42; 43 and 44
    (added bare (sets rig 9 (0x00 ∷ [])) [] ≡ unwritten bare 5 1 9)
    × (added bare lone (0 ∷ 0 ∷ 9 ∷ []) ≡ unwritten bare 21 3 0)
    × (added bare other (few 9 ++ (0 ∷ [])) ≡ unwritten bare 25 3 4)
    × (added bare (0x00 ∷ 0x1A ∷ 0x00 ∷ 0x50 ∷ 0x00 ∷ 0x02 ∷ (member 0x07 ++ member 0x03)) (few 9 ++ few 9) ≡ unwritten bare 43 2 0)
    -- the descriptor's and 20; 63, 1 and 20
    × (added bare (sets rig 9 (0x00 ∷ [])) (replicate 65537 0) ≡ unwritten bare 5 1 9)
    × (added (take 35 bare) (replicate 4097 0) (replicate 65537 0) ≡ unwritten (take 35 bare) 63 4 2)
unfolding be be_bytes kind_of child_count count_of items_size fields_size name_size tree_size forest_size row_count forest_rows header_at count_at run_at item_at items_at pairs_at fields_read judged contents_at fill_at filled_at fields_at members_at name_at node_at tree_at checked place_of_name length_of_name row_of written_to same_list same_name items_of pairs_of same_tree same_forest width_of number_at scalar_at text_at sizes_at sizes_fit product array_at repeat walk_fields walk walk_all walked members_from writer_fields is_among reader_names reader_fields matches namesakes searched search_number member_found member_bytes joined_bytes record_bytes identified is_one_of entry_bytes end_from blank_at says is_blank entry_fits entry_at entries_at zero_at unused_at filled opened book_check new_book with_record entry_of found identifiers listed absent admitted entered added
own-orders = (refl, refl, refl, refl, refl, refl)

-- the order of the refusals of an add: 63 before all others, then the record's own, 60, 61, 62
pub orders :
    -- 63 and the descriptor's; 63 and 60; 63, 61 and 62
    (added (take 35 bare) [] [] ≡ unwritten (take 35 bare) 63 4 2)
    × (added (sets one 20 (1 ∷ [])) rig (sent 9) ≡ unwritten (sets one 20 (1 ∷ [])) 63 4 1)
    × (added (take 91 two) rig (sent 8) ≡ unwritten (take 91 two) 63 4 1)
    -- the data's, 60, 61 and 62: data that is too long, in a book that is full to the last byte
    × (added (take 92 two) rig (sent 9 ++ (0 ∷ [])) ≡ unwritten (take 92 two) 25 3 6)
    -- 42, 61 and 62
    × (added (take 92 two) other (few 8) ≡ unwritten (take 92 two) 42 2 0)
    -- 60, 61 and 62; 60 and 62
    × (added (take 92 two) rig (sent 7) ≡ unwritten (take 92 two) 60 4 1)
    × (added (take 64 one) rig (sent 9) ≡ unwritten (take 64 one) 60 4 0)
    -- 61 and 62
    × (added (take 92 two) rig (sent 8) ≡ unwritten (take 92 two) 61 4 0)
unfolding be be_bytes kind_of child_count count_of items_size fields_size name_size tree_size forest_size row_count forest_rows header_at count_at run_at item_at items_at pairs_at fields_read judged contents_at fill_at filled_at fields_at members_at name_at node_at tree_at checked place_of_name length_of_name row_of written_to same_list same_name items_of pairs_of same_tree same_forest width_of number_at scalar_at text_at sizes_at sizes_fit product array_at repeat walk_fields walk walk_all walked members_from writer_fields is_among reader_names reader_fields matches namesakes searched search_number member_found member_bytes joined_bytes record_bytes identified is_one_of entry_bytes end_from blank_at says is_blank entry_fits entry_at entries_at zero_at unused_at filled opened book_check new_book with_record entry_of found identifiers listed absent admitted entered added
orders = (refl, refl, refl, refl, refl, refl, refl, refl)

-- "find one's whole body by identifier as a part of the book"; "find without a match is 64"; 63 before it
pub finds : (found two 9 ≡ part 36 28)
    × (found two 7 ≡ part 64 28)
    × (found two 8 ≡ no_part 64 4 0)
    × (found one 9 ≡ part 36 28)
    × (found one 7 ≡ no_part 64 4 0)
    -- an unused entry has no identifier
    × (found bare 0 ≡ no_part 64 4 0)
    × (found (single 9 16 4 (shape ++ few 9)) 9 ≡ part 20 20)
    × (found (sets two 23 (8 ∷ [])) 9 ≡ no_part 63 4 1)
    × (found (take 3 two) 8 ≡ no_part 63 4 0)
unfolding be be_bytes kind_of child_count count_of items_size fields_size name_size tree_size forest_size row_count forest_rows header_at count_at run_at item_at items_at pairs_at fields_read judged contents_at fill_at filled_at fields_at members_at name_at node_at tree_at checked place_of_name length_of_name row_of written_to same_list same_name items_of pairs_of same_tree same_forest width_of number_at scalar_at text_at sizes_at sizes_fit product array_at repeat walk_fields walk walk_all walked members_from writer_fields is_among reader_names reader_fields matches namesakes searched search_number member_found member_bytes joined_bytes record_bytes identified is_one_of entry_bytes end_from blank_at says is_blank entry_fits entry_at entries_at zero_at unused_at filled opened book_check new_book with_record entry_of found identifiers listed absent admitted entered added
finds = (refl, refl, refl, refl, refl, refl, refl, refl, refl)

-- "list identifiers in entry order as 32-bit numbers (place the count; too few places is 50 with that count, after 63)"
pub lists : (listed two (5 ∷ 5 ∷ []) ≡ record { answer = accepted 2; out = 9 ∷ 7 ∷ [] })
    × (listed two (5 ∷ 5 ∷ 5 ∷ 6 ∷ []) ≡ record { answer = accepted 2; out = 9 ∷ 7 ∷ 5 ∷ 6 ∷ [] })
    × (listed two (5 ∷ []) ≡ unwritten (5 ∷ []) 50 4 2)
    × (listed two [] ≡ unwritten [] 50 4 2)
    × (listed one (5 ∷ []) ≡ record { answer = accepted 1; out = 9 ∷ [] })
    × (listed bare [] ≡ record { answer = accepted 0; out = [] })
    × (listed bare (5 ∷ []) ≡ record { answer = accepted 0; out = 5 ∷ [] })
    × (listed (sets (single 0 16 4 (shape ++ (0xFE ∷ 0xDC ∷ 0xBA ∷ 0x98 ∷ []))) 4 (0xFE ∷ 0xDC ∷ 0xBA ∷ 0x98 ∷ [])) (5 ∷ []) ≡ record { answer = accepted 1; out = 0xFEDCBA98 ∷ [] })
    × (listed (take 91 two) (5 ∷ []) ≡ unwritten (5 ∷ []) 63 4 1)
unfolding be be_bytes kind_of child_count count_of items_size fields_size name_size tree_size forest_size row_count forest_rows header_at count_at run_at item_at items_at pairs_at fields_read judged contents_at fill_at filled_at fields_at members_at name_at node_at tree_at checked place_of_name length_of_name row_of written_to same_list same_name items_of pairs_of same_tree same_forest width_of number_at scalar_at text_at sizes_at sizes_fit product array_at repeat walk_fields walk walk_all walked members_from writer_fields is_among reader_names reader_fields matches namesakes searched search_number member_found member_bytes joined_bytes record_bytes identified is_one_of entry_bytes end_from blank_at says is_blank entry_fits entry_at entries_at zero_at unused_at filled opened book_check new_book with_record entry_of found identifiers listed absent admitted entered added
lists = (refl, refl, refl, refl, refl, refl, refl, refl, refl)

-- a run of adds to the empty book: what each answers, the bytes after it, what the simple book says of both, and the records of the accepted ones
pub runs : (answers bare asked ≡ replies)
    × (after bare asked ≡ two)
    × (predictions 2 100 [] asked ≡ replies)
    × (held 2 100 [] asked ≡ record { identifier = 9; descriptor = rig; flattened = sent 9 } ∷ record { identifier = 7; descriptor = rig; flattened = sent 7 } ∷ [])
    × (accepted_records asked replies ≡ (rig, sent 9) ∷ (rig, sent 7) ∷ [])
unfolding be be_bytes kind_of child_count count_of items_size fields_size name_size tree_size forest_size row_count forest_rows header_at count_at run_at item_at items_at pairs_at fields_read judged contents_at fill_at filled_at fields_at members_at name_at node_at tree_at checked place_of_name length_of_name row_of written_to same_list same_name items_of pairs_of same_tree same_forest width_of number_at scalar_at text_at sizes_at sizes_fit product array_at repeat walk_fields walk walk_all walked members_from writer_fields is_among reader_names reader_fields matches namesakes searched search_number member_found member_bytes joined_bytes record_bytes identified is_one_of entry_bytes end_from blank_at says is_blank entry_fits entry_at entries_at zero_at unused_at filled opened book_check new_book with_record entry_of found identifiers listed absent admitted entered added answers after predictions held outcome not_held held_size accepted_records
runs = (refl, refl, refl, refl, refl)
