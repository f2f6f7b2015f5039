-- Document 02's CR 3, "Point at the byte": what is wrong where a descriptor is refused with 5, 8, 9, 10 or 11, and at which place. All of it is over
-- the bytes and their encoding: what stands before the descriptor at fault is well formed, depth and rows apart. Nothing here follows the check.
use mathlib.Core.Path.{◌≡◌}
use mathlib.Core.Logic.{◌≢◌, ◌⊎◌}
use mathlib.Core.Bool.{Bool, true, false, not, ◌&&◌, ◌||◌}
use mathlib.Core.List.{List}
use Prim.Native.Nat.{ℕ, suc, ◌+◌, ◌*◌, ◌%◌, ◌≤◌, ◌<◌}
use lib.Dec.{eqb}
use lib.ListN.{length, get_or}
use lib.Seq.{slice}
use Rattle.number.specs.Endian.{be}
use Rattle.descriptor.specs.Limits.{dimension_limit, pair_limit, count_limit, base_limit, fixed_word}
use Rattle.descriptor.specs.Codes.{Kind, enumeration, quantity, string, array, cluster, stamp, kind_of, is_carried, is_array, is_stamp, between}
use Rattle.descriptor.specs.Header.{header_size, code_at, body_at, size_in, code_in, reserved_in}
use Rattle.descriptor.specs.Tree.{Name, Fields, Tree, Forest, child_count, inside_at, items_size, tree_size, forest_size, forest_length}
use Rattle.descriptor.specs.Stamp.{stamp_subtype, stamp_inside}
use Rattle.descriptor.specs.Encoding.{packed, field_bytes, name_bytes, encode_with, forest_with, Counted, FieldsFit, WellFormed, AllWellFormed}

-- the kind of the descriptor at p, and the first byte after it
abbrev pub kind_at : List ℕ → ℕ → Kind
kind_at s p = kind_of (code_in s p)

abbrev pub end_of : List ℕ → ℕ → ℕ
end_of s p = p + size_in s p

-- the descriptor at p has a size as it should be, and ends within `end`
pub record Lies (s : List ℕ) (end p : ℕ) : Type 0 where
  pub least : header_size ≤ size_in s p
  pub even : size_in s p % 2 ≡ 0
  pub within : end_of s p ≤ end

-- the fields b stand in the body of the descriptor at p, and within it
pub record Fielded (s : List ℕ) (p : ℕ) (b : Fields) : Type 0 where
  pub fit : FieldsFit (kind_at s p) b
  pub bytes : slice (body_at p) (inside_at p b) s ≡ field_bytes b
  pub within : inside_at p b ≤ end_of s p

-- "The element is not an array."
abbrev pub may_stand : List ℕ → Bool → ℕ → Bool
may_stand s in_array p = not (in_array && is_array (kind_at s p))

-- A descriptor is due at p, with k more after it, in one that ends at `end`: everything before it is well formed. `in_array` says whether that
-- one is an array.
pub data Due (s : List ℕ) : Bool → ℕ → ℕ → ℕ → Type 0 where
  -- the top
  top : Due s false (length s) 0 0
  -- the first inside another, after its fields
  first : {in_array : Bool} {end k p j : ℕ} → Due s in_array end k p → Lies s end p → may_stand s in_array p ≡ true → (b : Fields) → Fielded s p b
      → child_count b ≡ suc j → Due s (is_array (kind_at s p)) (end_of s p) j (inside_at p b)
  -- the one after another that is well formed
  next : {in_array : Bool} {end k p : ℕ} → Due s in_array end (suc k) p → (t : Tree) → WellFormed in_array t
      → slice p (p + tree_size t) s ≡ encode_with (reserved_in s) p t → p + tree_size t ≤ end → Due s in_array end k (p + tree_size t)

-- the fields b and the descriptors f stand in the body of the descriptor at p, up to `at`
pub record Bodied (s : List ℕ) (p : ℕ) (b : Fields) (f : Forest) (at : ℕ) : Type 0 where
  pub fields : Fielded s p b
  pub many : forest_length f ≡ child_count b
  pub formed : AllWellFormed (is_array (kind_at s p)) f
  pub size : at ≡ inside_at p b + forest_size f
  pub within : at ≤ end_of s p
  pub bytes : slice (inside_at p b) at s ≡ forest_with (reserved_in s) (inside_at p b) f

-- the kinds with a count, and the most that each may count
pub data Counts : Kind → ℕ → Type 0 where
  of_items : Counts enumeration count_limit
  of_pairs : Counts quantity pair_limit
  of_dimensions : Counts array dimension_limit
  of_members : Counts cluster count_limit

-- the count of the descriptor at p
abbrev pub count_in : List ℕ → ℕ → ℕ
count_in s p = be s (body_at p) 2

-- it stands within the descriptor and is within its limits
pub record Numbered (s : List ℕ) (p : ℕ) : Type 0 where
  pub most : ℕ
  pub kind : Counts (kind_at s p) most
  pub word : body_at p + 2 ≤ end_of s p
  pub fits : Counted (count_in s p) most

-- where the unit pair or the dimension word i stands, counted from 0
abbrev pub entry_at : ℕ → ℕ → ℕ
entry_at p i = body_at p + 2 + 4 * i

-- the entry i is one of those that the descriptor at p counts, all of which stand within it
pub record Entry (s : List ℕ) (p i : ℕ) : Type 0 where
  pub count : Numbered s p
  pub counted : i < count_in s p
  pub within : entry_at p (count_in s p) ≤ end_of s p

-- the items xs of the enumeration at p stand after its count, up to `at`
pub record Items (s : List ℕ) (p : ℕ) (xs : List (List ℕ)) (at : ℕ) : Type 0 where
  pub kind : kind_at s p ≡ enumeration
  pub count : Numbered s p
  pub size : at ≡ body_at p + 2 + items_size xs
  pub bytes : slice (body_at p + 2) at s ≡ packed xs
  pub within : at ≤ end_of s p

-- 8, "body longer than the size allows": the descriptor at p ends before ..
pub data Short (s : List ℕ) (p : ℕ) : Type 0 where
  -- .. its count does
  count : {most : ℕ} → Counts (kind_at s p) most → end_of s p < body_at p + 2 → Short s p
  -- .. its subtype
  subtype : kind_at s p ≡ stamp → end_of s p < body_at p + 2 → Short s p
  -- .. its length word
  length_word : kind_at s p ≡ string → end_of s p < body_at p + 4 → Short s p
  -- .. as many unit pairs or dimension words as it counts
  entries : (kind_at s p ≡ quantity) ⊎ (kind_at s p ≡ array) → Numbered s p → end_of s p < entry_at p (count_in s p) → Short s p
  -- .. as many items as it counts: after the items xs, which are fewer, the next has its length at `at`
  item : {at : ℕ} → (xs : List (List ℕ)) → Items s p xs at → length xs < count_in s p → end_of s p < at + 1 + get_or s at 0 → Short s p

-- What is wrong with the body of the descriptor at p, or with what stands after it, by number and place.
pub data InBody (s : List ℕ) (p : ℕ) : ℕ → ℕ → Type 0 where
  -- "for 5 the low code byte": it is a time stamp's, and the word after it another subtype
  other_subtype : kind_of (get_or s (code_at p) 0) ≡ stamp → body_at p + 2 ≤ end_of s p → be s (body_at p) 2 ≢ stamp_subtype → InBody s p 5 (code_at p)
  -- "for 8 the descriptor's end"
  too_short : Short s p → InBody s p 8 (end_of s p)
  -- "for 9 the count word"
  bad_count : {most : ℕ} → Counts (kind_at s p) most → body_at p + 2 ≤ end_of s p → ¬ Counted (count_in s p) most → InBody s p 9 (body_at p)
  -- "for 10 the first byte of the wrong word": a length word, or the first dimension word or base index that is wrong
  bad_length : kind_at s p ≡ string → body_at p + 4 ≤ end_of s p → be s (body_at p) 4 ≢ fixed_word → InBody s p 10 (body_at p)
  bad_dimension : kind_at s p ≡ array → (i : ℕ) → Entry s p i → ((j : ℕ) → j < i → be s (entry_at p j) 4 ≡ fixed_word)
      → be s (entry_at p i) 4 ≢ fixed_word → InBody s p 10 (entry_at p i)
  bad_base : kind_at s p ≡ quantity → (i : ℕ) → Entry s p i → ((j : ℕ) → j < i → be s (entry_at p j) 2 ≤ base_limit)
      → base_limit < be s (entry_at p i) 2 → InBody s p 10 (entry_at p i)
  -- "or the fill byte", after as many items as are counted
  bad_fill : {at : ℕ} → (xs : List (List ℕ)) → Items s p xs at → length xs ≡ count_in s p → items_size xs % 2 ≡ 1 → at < end_of s p
      → get_or s at 0 ≢ 0 → InBody s p 10 at
  -- "CR 1's 10 stays at the start": what stands inside a time stamp is something else
  not_its_cluster : {at : ℕ} → kind_at s p ≡ stamp → (b : Fields) (f : Forest) → Bodied s p b f at → f ≢ stamp_inside → InBody s p 10 p
  -- "for 11 the first byte after the body": up to the end no name is spelled
  no_name : {at : ℕ} → (b : Fields) (f : Forest) → Bodied s p b f at → (is_stamp (kind_at s p) ≡ true → f ≡ stamp_inside) → at < end_of s p
      → ((m : Name) → slice at (end_of s p) s ≢ name_bytes m) → InBody s p 11 at

-- What is wrong with the descriptor at p. `in_array` says whether it stands in an array.
pub data Wrong (s : List ℕ) (in_array : Bool) (p : ℕ) : ℕ → ℕ → Type 0 where
  -- "for 5 the low code byte": it is not carried
  not_carried : is_carried (kind_of (get_or s (code_at p) 0)) ≡ false → Wrong s in_array p 5 (code_at p)
  -- "for array in array the low code byte of the inner array"
  array_in_array : in_array ≡ true → is_array (kind_of (get_or s (code_at p) 0)) ≡ true → Wrong s in_array p 10 (code_at p)
  -- neither of these
  in_body : {number place : ℕ} → may_stand s in_array p ≡ true → InBody s p number place → Wrong s in_array p number place

-- the descriptor at fault, and what is wrong with it
pub record Fault (s : List ℕ) (number place : ℕ) : Type 0 where
  pub in_array : Bool
  pub end : ℕ
  pub more : ℕ
  pub start : ℕ
  pub due : Due s in_array end more start
  pub lies : Lies s end start
  pub wrong : Wrong s in_array start number place

-- the numbers that CR 3 gives a place
abbrev pub is_pointed : ℕ → Bool
is_pointed n = eqb n 5 || between 8 11 n
