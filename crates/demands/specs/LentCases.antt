-- What a caller finds in the numbers that it lent, worked by hand and computed from the definitions, so that an order of numbers that is
-- changed in a definition and in the code alike is noticed here. The public entries whose contracts use these definitions are those that
-- end in `_into`.
use Rattle.std.specs.Prelude.{◌≡◌, refl, true, false, List, [], ◌∷◌, ◌++◌, ℕ, replicate}
use Rattle.number.specs.Endian.{be}
use Rattle.descriptor.specs.Codes.{kind_of}
use Rattle.descriptor.specs.Tree.{child_count, count_of, items_size, fields_size, name_size, tree_size, forest_size, row_count, forest_rows}
use Rattle.descriptor.specs.Check.{header_at, count_at, run_at, item_at, items_at, pairs_at, fields_read, judged, contents_at, fill_at, filled_at, fields_at, members_at, name_at, node_at, tree_at, checked}
use Rattle.descriptor.specs.Table.{place_of_name, length_of_name, row_of, rows_of, forest_rows_of, table_of}
use Rattle.descriptor.specs.Answers.{descriptor_check}
use Rattle.descriptor.specs.Width.{width_of}
use Rattle.flattened.specs.Order.{number_at}
use Rattle.flattened.specs.Walk.{scalar_at, text_at, sizes_at, sizes_fit, product, array_at, repeat, walk_fields, walk, walk_all, walked}
use Rattle.flattened.specs.Answers.{data_check}
use Rattle.layout.specs.Numbers.{answer_numbers, rows_numbers, table_numbers, truth}
use Rattle.demands.specs.Cases.{rig}

-- P11's rig has three rows, its members' names at 11 and 17: the first number of each row is its code
abbrev rig_numbers : List ℕ
rig_numbers =
    0x50 ∷ 0 ∷ 20 ∷ 1 ∷ 2 ∷ 0 ∷ 0 ∷ 0x02 ∷ 6 ∷ 6 ∷ 2 ∷ 0 ∷ 11 ∷ 1 ∷ 0x07 ∷ 12 ∷ 8 ∷ 2 ∷ 0 ∷ 17 ∷ 2 ∷ []

pub lent-cases : (answer_numbers (descriptor_check rig).answer ≡ 0 ∷ 0 ∷ 3 ∷ [])
    -- 253 rows of seven numbers are not used
    × (table_numbers (descriptor_check rig).rows ≡ rig_numbers ++ replicate 1771 0)
    -- P3: 0005 0003 00, 4 at 0, and "A refusal gives an all-zero table"
    × (answer_numbers (descriptor_check (0x00 ∷ 0x05 ∷ 0x00 ∷ 0x03 ∷ 0x00 ∷ [])).answer ≡ 4 ∷ 1 ∷ 0 ∷ [])
    × (table_numbers (descriptor_check (0x00 ∷ 0x05 ∷ 0x00 ∷ 0x03 ∷ 0x00 ∷ [])).rows ≡ replicate 1792 0)
    -- the rig's data cut off inside the second piece: 21 at 2, input 3
    × (answer_numbers (data_check rig (0x00 ∷ 0x19 ∷ 0x00 ∷ [])) ≡ 21 ∷ 3 ∷ 2 ∷ [])
    × (truth true ≡ 1)
    × (truth false ≡ 0)
unfolding be kind_of child_count count_of items_size fields_size name_size tree_size forest_size row_count forest_rows header_at count_at run_at item_at items_at pairs_at fields_read judged contents_at fill_at filled_at fields_at members_at name_at node_at tree_at checked place_of_name length_of_name row_of rows_of forest_rows_of table_of descriptor_check width_of number_at scalar_at text_at sizes_at sizes_fit product array_at repeat walk_fields walk walk_all walked data_check answer_numbers rows_numbers truth
lent-cases = (refl, refl, refl, refl, refl, refl, refl)
