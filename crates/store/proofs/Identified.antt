-- The identifier of a record: the shape is read as it is said to be, and what it asks for are the four bytes of the one member that carries the
-- identifier. Rests on the laws of a rig's members.
use mathlib.Core.Path.{◌≡◌, refl, sym, ap, ◌∙◌}
use mathlib.Core.Bool.{true, false}
use mathlib.Core.List.{List, [], ◌∷◌, ◌++◌, append-nil}
use Prim.Native.Nat.{ℕ, suc, ◌+◌, ◌≤◌, ◌<◌}
use native.Mathlib.Numerals.{add-one}
use native.Mathlib.Omega.{arith}
use borrow.Author.Tests.{leb-true}
use lib.Dec.{leb}
use lib.ListN.{length, get_or}
use lib.Seq.{slice}
use Rattle.std.specs.Prelude.{Ok, Err}
use Rattle.number.specs.Endian.{be}
use Rattle.number.proofs.Inverse.{be-part}
use Rattle.descriptor.specs.Codes.{kind_of}
use Rattle.descriptor.specs.Tree.{unnamed, named, empty, members, Tree, node, nil, cons, child_count, row_count, forest_rows, forest_length}
use Rattle.descriptor.specs.Encoding.{Bytes, NameFits, FieldsFit, WellFormed}
use Rattle.descriptor.specs.Outcome.{Outcome, refused, read, and_then, Verdict, denied, granted, judge, settle}
use Rattle.descriptor.specs.Check.{header_at, count_at, fields_read, contents_at, filled_at, fields_at, members_at, name_at, node_at, tree_at, checked}
use Rattle.descriptor.specs.Width.{width_of}
use Rattle.descriptor.specs.inner.Standing.{standing, is_read}
use Rattle.descriptor.specs.Answers.{refusal}
use Rattle.descriptor.specs.declared.refusal.Refusal.{Refusal}
use Rattle.descriptor.proofs.Outcomes.{Holds, nothing, found, holds_read, holds-require}
use Rattle.descriptor.proofs.Steps.{impossible}
use Rattle.canonical.specs.Equality.{same_tree}
use Rattle.canonical.specs.inner.Walk.{Accepted}
use Rattle.canonical.proofs.Same.{same-tree}
use Rattle.encoding.proofs.Slices.{slice-take}
use Rattle.flattened.specs.Order.{big}
use Rattle.flattened.specs.Walk.{scalar_at, walk_fields, walk, walked}
use Rattle.flattened.specs.inner.Types.{type_of, type_at}
use Rattle.members.specs.inner.Members.{top_at, top_count, place_from, type_from}
use Rattle.members.specs.inner.Names.{name_of}
use Rattle.members.proofs.Listing.{member-inner}
use Rattle.resolution.specs.Record.{Member, writer_members, reader_members, is_among, reader_names, reader_fields, namesakes, member_found, member_bytes, joined_bytes, record_bytes}
use Rattle.resolution.specs.inner.Data.{data_from, passed}
use Rattle.resolution.specs.inner.Searching.{all_members}
use Rattle.resolution.specs.inner.Picking.{Called, Picked, Unpicked}
use Rattle.resolution.specs.inner.Tops.{is_cluster}
use Rattle.resolution.proofs.Ends.{passed-lost, passed-got}
use Rattle.resolution.proofs.Apart.{apart-formed}
use Rattle.records.proofs.Topmost.{top-tree, top-members, writers-none}
use Rattle.records.proofs.Answering.{member-data, members-are}
use Rattle.store.specs.Book.{shape, identified}
use Rattle.store.specs.inner.Identity.{DataOf, Bears, Bare}

-- "one unsigned 32-bit member named "blank""
abbrev blank_type : Tree
blank_type = node 7 empty nil (named (98 ∷ 108 ∷ 97 ∷ 110 ∷ 107 ∷ []))

abbrev shape_tree : Tree
shape_tree = node 80 (members 1) (cons blank_type nil) unnamed

shape-read : checked shape ≡ read 16 shape_tree
unfolding be kind_of child_count row_count forest_rows header_at count_at fields_read contents_at filled_at fields_at members_at name_at node_at tree_at checked
shape-read = refl

shape-members : reader_members shape_tree ≡ read 1 (cons blank_type nil)
unfolding reader_fields reader_names is_among
shape-members = refl

shape-type : type_at shape 6 ≡ blank_type
unfolding type_of standing be kind_of child_count row_count forest_rows header_at count_at fields_read contents_at filled_at fields_at members_at name_at node_at tree_at
shape-type = refl

-- where the shape's one member stands, and its name
pub shape-called : Called shape 6 (98 ∷ 108 ∷ 97 ∷ 110 ∷ 107 ∷ [])
unfolding type_of is_read standing be kind_of child_count row_count forest_rows header_at count_at fields_read contents_at filled_at fields_at members_at name_at node_at tree_at name_of
shape-called = record { inner = record { here = record { is = refl; small = omega arith }; short = omega arith }; name = refl }

blank-formed : WellFormed false blank_type
unfolding WellFormed FieldsFit NameFits Bytes kind_of forest_length child_count
blank-formed = record {
  code = omega arith;
  element = refl;
  fields = refl;
  children = refl;
  stamped = λ e. impossible e;
  inside = tt;
  name = record { bytes = omega arith; most = omega arith };
}

-- its data is four bytes
four : (x : List ℕ) (at : ℕ) → Holds (λ q _. (q ≡ at + 4) × (at + 4 ≤ length x)) (walk big blank_type x at)
unfolding walk walk_fields scalar_at width_of
four x at = holds-require (leb (at + 4) (length x)) 21 at (λ e. found (refl, leb-true _ _ e))

-- a member that was found is of the type asked for
found-same : (j : ℕ) (t : Tree) (ns : List Member) → Holds (λ _ m. same_tree t m.type ≡ true) (member_found j t ns)
unfolding member_found
found-same j t [] = nothing
found-same j t (n ∷ []) = holds-require (same_tree t n.type) 44 j (λ e. found e)
found-same j t (n ∷ o ∷ ns) = nothing

-- the identifier, by the member that was found
abbrev by_member : List ℕ → Outcome Member → Verdict ℕ
by_member x o =
    settle denied (λ bytes. granted (be bytes 0 4))
    (judge denied 2 (and_then (and_then o (λ at m. read at (slice m.start m.stop x))) (λ _ y. read 1 (y ++ []))) (λ bytes. granted bytes))

-- the accepted descriptor d
module _ (d : List ℕ) (a : Accepted d) where
  known : checked d ≡ read a.at (type_at d 0)
  known = a.eq ∙ ap (λ (t : Tree). read a.at t) (sym (top-tree d a))

  -- the identifier, by the rig's members
  abbrev by_members : List ℕ → Outcome (List Member) → Verdict ℕ
  by_members x o =
      settle denied (λ bytes. granted (be bytes 0 4))
      (judge denied 1 o (λ ms. judge denied 2 (joined_bytes 0 (cons blank_type nil) x ms) (λ bytes. granted bytes)))

  ahead : (x : List ℕ) → DataOf d x → identified d x ≡ by_members x (writer_members (type_at d 0) x)
  unfolding identified record_bytes
  ahead x w = rw (known, shape-read, w.eq, shape-members) refl

  -- data that is refused
  pub data-denied : (x : List ℕ) (number place : ℕ) → walked big (type_at d 0) x ≡ refused number place → identified d x ≡ denied number 3 place
  unfolding identified record_bytes
  data-denied x number place e = rw (known, shape-read, e) refl

  -- a descriptor that is no cluster carries none
  pub carries-none : is_cluster d ≡ false → Bare d (refusal 41 1 0)
  carries-none no-cluster = record { lost = λ x w. ahead x w ∙ ap (by_members x) (writers-none d a no-cluster x) }

  module _ (cluster : is_cluster d ≡ true) where
    by-member : (x : List ℕ) → DataOf d x → identified d x ≡ by_member x (member_found 0 blank_type (namesakes blank_type (all_members d (top_count d) x)))
    unfolding joined_bytes member_bytes
    by-member x w = ahead x w ∙ ap (by_members x) (members-are d x a cluster w.end w.tokens w.eq).1

    -- no member carries it
    pub carries-lost : (p : Refusal) → Unpicked d (top_count d) (type_at shape 6) 0 p → Bare d (refusal p.number 2 p.place)
    carries-lost p picks = record { lost = λ x w. by-member x w ∙ ap (by_member x) (rw shape-type at (picks.is x)) }

    module _ (m : ℕ) (picks : Picked d (top_count d) (type_at shape 6) 0 m) (bytes : (n : ℕ) → get_or d n 0 < 256) where
      -- its type
      type-is : type_from d (top_at d) m ≡ blank_type
      type-is =
          let inner = member-inner d (top_count d) (top_at d) (top-members d a cluster) m picks.within in
          let same : same_tree blank_type (type_from d (top_at d) m) ≡ true =
          holds_read (rw shape-type at (picks.is [])) (found-same 0 blank_type (namesakes blank_type (all_members d (top_count d) []))) in
          sym (same-tree blank_type (type_from d (top_at d) m) false false blank-formed (apart-formed d (place_from d (top_at d) m) inner bytes) same)

      -- its data
      ends : (x : List ℕ) → DataOf d x → (data_from d (top_at d) x (m + 1) ≡ data_from d (top_at d) x m + 4) × (data_from d (top_at d) x m + 4 ≤ length x)
      ends x w =
          let walks = member-data d x a cluster w.end w.tokens w.eq m picks.within in
          holds_read (ap (λ (t : Tree). walk big t x (data_from d (top_at d) x m)) (sym type-is) ∙ walks.1) (four x (data_from d (top_at d) x m))

      spelled : (x : List ℕ) → DataOf d x
          → be (slice (data_from d (top_at d) x m) (data_from d (top_at d) x (suc m)) x ++ []) 0 4 ≡ be x (data_from d (top_at d) x m) 4
      spelled x w =
          let at : ℕ = data_from d (top_at d) x m in
          let next : data_from d (top_at d) x (suc m) ≡ at + 4 = ap (λ (n : ℕ). data_from d (top_at d) x n) (sym (add-one m)) ∙ (ends x w).0 in
          ap (λ (l : List ℕ). be l 0 4) (append-nil (slice at (data_from d (top_at d) x (suc m)) x) ∙ ap (λ (n : ℕ). slice at n x) next ∙ slice-take at 4 x)
          ∙ be-part x at 4

      -- the member carries it
      pub carries-got : Bears d m
      carries-got = record {
        cluster = cluster;
        within = picks.within;
        room = λ x w. (ends x w).1;
        says = λ x w. by-member x w ∙ ap (by_member x) (rw shape-type at (picks.is x)) ∙ ap granted (spelled x w);
      }

-- a descriptor that is refused
pub descriptor-denied : (d x : List ℕ) (number place : ℕ) → checked d ≡ refused number place → identified d x ≡ denied number 1 place
unfolding identified record_bytes
descriptor-denied d x number place e = rw e refl

-- what the walk of the data says
module _ (d x : List ℕ) where
  pub walk-denied : Accepted d → (e : Refusal) → Err e ≡ passed (walked big (type_at d 0) x) → identified d x ≡ denied e.number 3 e.place
  walk-denied a e walks = data-denied d a x _ _ (passed-lost (walked big (type_at d 0) x) e walks)

  pub walked-data : Ok tt ≡ passed (walked big (type_at d 0) x) → DataOf d x
  walked-data walks =
      let g = passed-got (walked big (type_at d 0) x) walks in
      record { end = g.0; tokens = g.1.0; eq = g.1.1 }

-- a table has room for every member
pub starts-few : (d : List ℕ) → Accepted d → (m : ℕ) → Bears d m → m < 256
starts-few d a m bears = omega (arith, bears.within, (top-members d a bears.cluster).few)
