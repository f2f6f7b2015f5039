-- The top of an accepted descriptor: whether it is a cluster, the walk of its data member by member, and its members' names. Rests on the
-- laws of what stands inside a type, and of walks.
use mathlib.Core.Path.{◌≡◌, refl, sym, ap, subst, ◌∙◌}
use mathlib.Core.Bool.{true, false}
use mathlib.Core.List.{List, []}
use Prim.Native.Nat.{ℕ, suc, ◌≤◌, ◌<◌}
use Rattle.std.specs.Prelude.{Result, Ok, Err}
use native.Mathlib.Omega.{arith}
use borrow.Author.Tests.{le-leb, lt-leb, eq-eqb, ne_eqb}
use lib.ListN.{length}
use Rattle.descriptor.specs.Limits.{descriptor_limit, data_limit, depth_limit}
use Rattle.descriptor.specs.Codes.{cluster, kind_of}
use Rattle.descriptor.specs.Header.{code_in}
use Rattle.descriptor.specs.Tree.{Name, Fields, empty, items, pairs, text, dimensions, members, subtype, Tree, node, Forest, nil, cons, child_count, inside_at, forest_length, row_count, forest_rows}
use Rattle.descriptor.specs.Outcome.{Outcome, refused, read, and_then}
use Rattle.descriptor.specs.inner.Standing.{standing, standing_row, is_read, fields_of, contents_start, inside_of, Stands}
use Rattle.descriptor.specs.inner.Steps.{refusal_at}
use Rattle.descriptor.specs.inner.Filling.{zero_rows}
use Rattle.descriptor.specs.declared.inside.Inside.{Inside}
use Rattle.descriptor.specs.declared.refusal.Refusal.{Refusal}
use Rattle.descriptor.proofs.Bodies.{header-room}
use Rattle.descriptor.proofs.Checked.{few-rows}
use Rattle.descriptor.proofs.Outcomes.{holds_read}
use Rattle.descriptor.proofs.Standing.{accepted-standing, standing-low, row_ends}
use Rattle.descriptor.proofs.Steps.{impossible}
use Rattle.canonical.specs.inner.Walk.{Accepted}
use Rattle.canonical.proofs.Whole.{accepted_of}
use Rattle.flattened.specs.Order.{big}
use Rattle.flattened.specs.Token.{Token}
use Rattle.flattened.specs.Walk.{walk_fields, walk, walk_all, walked}
use Rattle.flattened.specs.inner.Types.{type_of, type_at, types_at, TypeStands, RowStands, fields_kind}
use Rattle.flattened.proofs.Forward.{walk-forward}
use Rattle.flattened.proofs.Refusals.{walk-place}
use Rattle.flattened.proofs.Repeats.{follow-last}
use Rattle.flattened.proofs.Types.{TypeMade, type-made, type-inside, type-solid, row_read-is, alone}
use Rattle.members.specs.inner.Members.{Members, top_at, top_count}
use Rattle.members.specs.declared.roster.Roster.{Roster}
use Rattle.resolution.specs.Record.{members_from, writer_fields, writer_members, reader_names, reader_fields, reader_members}
use Rattle.resolution.specs.inner.Data.{end_of, passed}
use Rattle.resolution.specs.inner.Names.{Naming}
use Rattle.resolution.specs.inner.Tops.{is_members, is_cluster, TopRow, NamesRight, NamesWrong}
use Rattle.resolution.proofs.Ends.{end-lost, end-got, passed-lost, passed-got}

-- the fields of a kind
kind-members : (b : Fields) → cluster ≡ fields_kind b → is_members b ≡ true
unfolding is_members fields_kind
kind-members empty e = absurd (cc)
kind-members (items xs) e = absurd (cc)
kind-members (pairs ps) e = absurd (cc)
kind-members text e = absurd (cc)
kind-members (dimensions d) e = absurd (cc)
kind-members (members k) e = refl
kind-members subtype e = absurd (cc)

kind-others : (b : Fields) → (cluster ≡ fields_kind b → ⊥) → is_members b ≡ false
unfolding is_members fields_kind
kind-others empty h = refl
kind-others (items xs) h = refl
kind-others (pairs ps) h = refl
kind-others text h = refl
kind-others (dimensions d) h = refl
kind-others (members k) h = absurd (h refl)
kind-others subtype h = refl

-- a cluster's members
pub record Some (b : Fields) : Type 0 where
  pub count : ℕ
  pub is : b ≡ members count

some-members : (b : Fields) → is_members b ≡ true → Some b
unfolding is_members
some-members empty e = impossible e
some-members (items xs) e = impossible e
some-members (pairs ps) e = impossible e
some-members text e = impossible e
some-members (dimensions d) e = impossible e
some-members (members k) e = record { count = k; is = refl }
some-members subtype e = impossible e

-- the reader's members where there are none
no-readers : (b : Fields) (f : Forest) → is_members b ≡ false → reader_fields b f ≡ refused 40 0
unfolding is_members reader_fields
no-readers empty f e = refl
no-readers (items xs) f e = refl
no-readers (pairs ps) f e = refl
no-readers text f e = refl
no-readers (dimensions d) f e = refl
no-readers (members k) f e = impossible (sym e)
no-readers subtype f e = refl

-- nor are there the rig's
no-writers : (b : Fields) (f : Forest) (s : List ℕ) → is_members b ≡ false → writer_fields b f s ≡ refused 41 0
unfolding is_members writer_fields
no-writers empty f s e = refl
no-writers (items xs) f s e = refl
no-writers (pairs ps) f s e = refl
no-writers text f s e = refl
no-writers (dimensions d) f s e = refl
no-writers (members k) f s e = impossible (sym e)
no-writers subtype f s e = refl

-- the fields of what was read
fields-are : (o : Outcome Tree) → is_read o ≡ true → (c : ℕ) (b : Fields) (f : Forest) (m : Name) → type_of o ≡ node c b f m → fields_of o ≡ b
unfolding is_read type_of fields_of
fields-are (refused number place) h c b f m e = impossible h
fields-are (read at (node d a g n)) h c b f m e = cc

-- each descriptor has a row
tree-some : (t : Tree) → 1 ≤ row_count t
unfolding row_count
tree-some (node c b f m) = omega arith

rows-many : (f : Forest) → forest_length f ≤ forest_rows f
unfolding forest_length forest_rows
rows-many nil = omega arith
rows-many (cons t f) = omega (arith, tree-some t, rows-many f)

module _ (d : List ℕ) (here : Stands d 0) where
  abbrev made : TypeMade d 0
  made = type-made d 0 here

  fields-is : fields_of (standing d 0) ≡ made.fields
  fields-is = fields-are (standing d 0) here.is made.code made.fields made.inner made.name made.tree

  -- the top is a cluster by its code
  pub cluster-so : cluster ≡ kind_of (code_in d 0) → true ≡ is_cluster d
  cluster-so e = sym (ap is_members fields-is ∙ kind-members made.fields (e ∙ sym made.kind))

  -- or is not
  pub cluster-not : (cluster ≡ kind_of (code_in d 0) → ⊥) → false ≡ is_cluster d
  cluster-not h = sym (ap is_members fields-is ∙ kind-others made.fields (λ e. h (e ∙ made.kind)))

module _ (d : List ℕ) (a : Accepted d) where
  pub stands : TypeStands d 0 depth_limit
  unfolding is_read type_of
  stands =
      let there = accepted-standing d a.at a.tree a.eq in
      let top : type_at d 0 ≡ a.tree = ap type_of there.0 in
      record {
        here = record { is = ap is_read there.0; small = omega (arith, there.1.1) };
        low = rw top (standing-low d 0 a.at a.tree there.0);
      }

  abbrev pub top-here : Stands d 0
  top-here = stands.here

  pub top-short : length d ≤ descriptor_limit
  top-short = (accepted-standing d a.at a.tree a.eq).1.1

  pub top-tree : type_at d 0 ≡ a.tree
  unfolding type_of
  top-tree = ap type_of (accepted-standing d a.at a.tree a.eq).0

  abbrev it : TypeMade d 0
  it = type-made d 0 top-here

  -- where the top is a cluster
  module _ (yes-cluster : is_cluster d ≡ true) where
    pub some : Some it.fields
    some = some-members it.fields (ap is_members (sym (fields-is d top-here)) ∙ yes-cluster)

    -- its members stand where the code finds them
    pub top-at : top_at d ≡ inside_at 0 it.fields
    unfolding contents_start
    top-at =
        ap (λ (x : Inside). x.at) it.inside
        ∙ ap (contents_start 0) some.is
        ∙ ap (inside_at 0) (sym some.is)

    pub top_count-is : top_count d ≡ child_count it.fields
    top_count-is = ap (λ (x : Inside). x.children) it.inside

    pub top-types : types_at d (top_count d) (top_at d) ≡ it.inner
    top-types = (λ i. types_at d (top_count-is i) (top-at i)) ∙ it.types

    many : forest_length it.inner ≡ top_count d
    many =
        let row = type-inside d 0 depth_limit stands in
        ap forest_length (sym it.types) ∙ (row_ends d (child_count it.fields) (inside_at 0 it.fields) _ _ row.from (row_read-is (standing_row d (child_count it.fields) (inside_at 0 it.fields)) row.are)).1 ∙ sym top_count-is

    pub top-members : Members d (top_count d) (top_at d)
    unfolding row_count
    top-members =
        let row = type-inside d 0 depth_limit stands in
        let rows : row_count a.tree ≡ suc (forest_rows it.inner) = ap row_count (sym top-tree ∙ it.tree) in
        record {
          row = subst (λ (k : ℕ). RowStands d k (top_at d) depth_limit) (sym top_count-is)
              (subst (λ (p : ℕ). RowStands d (child_count it.fields) p depth_limit) (sym top-at)
              (record { are = row.are; from = row.from; small = row.small; low = omega (arith, row.low) }));
          few = omega (arith, many, rows-many it.inner, rows, few-rows d a.at a.tree a.eq zero_rows);
          short = top-short;
        }

    pub top-walk : (s : List ℕ) → walk big (type_at d 0) s 0 ≡ walk_all big (types_at d (top_count d) (top_at d)) s 0
    unfolding walk walk_fields
    top-walk s =
        ap (λ (t : Tree). walk big t s 0) it.tree
        ∙ ap (λ (b : Fields). walk_fields big it.code b (λ p. walk_all big it.inner s p) s 0) some.is
        ∙ ap (λ (f : Forest). walk_all big f s 0) (sym top-types)

    pub top-cluster : (r : Inside) → r ≡ inside_of d 0 → TopRow d r
    top-cluster r e =
        subst (λ (x : Inside). TopRow d x) (sym e)
        (record { row = top-members; walks = λ s. ap end_of (sym (top-walk s)); cluster = λ _. refl })

    -- the rig's members
    pub top-writers : (s : List ℕ) → writer_members (type_at d 0) s ≡ members_from (types_at d (top_count d) (top_at d)) (top_at d) s 0
    unfolding writer_fields
    top-writers s =
        ap (λ (t : Tree). writer_members t s) it.tree
        ∙ ap (λ (b : Fields). writer_fields b it.inner s) some.is
        ∙ (λ i. members_from (sym top-types i) ((ap (inside_at 0) (sym some.is) ∙ sym top-at) i) s 0)

    -- the reader's names
    readers : reader_members (type_at d 0) ≡ and_then (reader_names [] 0 (types_at d (top_count d) (top_at d))) (λ last _. read last (types_at d (top_count d) (top_at d)))
    unfolding reader_fields
    readers =
        ap reader_members it.tree
        ∙ ap (λ (b : Fields). reader_fields b it.inner) some.is
        ∙ ap (λ (f : Forest). and_then (reader_names [] 0 f) (λ last _. read last f)) (sym top-types)

    -- as the code has listed them, are judged
    module _ (reader : Roster) (of : reader.d.now ≡ d) (all : reader.count ≡ top_count d) where
      judged : passed (reader_names [] 0 (types_at reader.d.now reader.count (top_at reader.d.now))) ≡ passed (reader_names [] 0 (types_at d (top_count d) (top_at d)))
      judged = λ i. passed (reader_names [] 0 (types_at (of i) (all i) (top_at (of i))))

      pub names-lost : (r : Refusal) → Err r ≡ passed (reader_names [] 0 (types_at reader.d.now reader.count (top_at reader.d.now)))
          → r.place < reader.count → NamesWrong d r
      names-lost r e within = record {
        place = omega (arith, all, top-members.few);
        is =
            readers
            ∙ ap (λ (o : Outcome (List (List ℕ))). and_then o (λ last _. read last (types_at d (top_count d) (top_at d))))
            (passed-lost (reader_names [] 0 (types_at d (top_count d) (top_at d))) r (e ∙ judged));
      }

      pub names-got : Ok tt ≡ passed (reader_names [] 0 (types_at reader.d.now reader.count (top_at reader.d.now)))
          → Naming reader.count reader.names.now → NamesRight d reader
      names-got e named =
          let got = passed-got (reader_names [] 0 (types_at d (top_count d) (top_at d))) (e ∙ judged) in
          record {
            cluster = yes-cluster;
            of = of;
            all = all;
            named = named;
            last = got.0;
            is =
                readers
                ∙ ap (λ (o : Outcome (List (List ℕ))). and_then o (λ last _. read last (types_at d (top_count d) (top_at d)))) got.1.1
                ∙ ap (λ (n : ℕ). read got.0 (types_at d n (top_at d))) (sym all);
          }

  -- where it is not
  module _ (no-cluster : is_cluster d ≡ false) where
    pub top-single : TopRow d (record { at = 0; count = 0; children = 1 })
    unfolding walk_all
    top-single =
        let one = alone d 0 depth_limit stands in
        record {
          row = record { row = one.0; few = omega arith; short = top-short };
          walks = λ s. ap end_of (ap (λ (f : Forest). walk_all big f s 0) one.1 ∙ follow-last (walk big (type_at d 0) s 0));
          cluster = λ e. impossible (sym no-cluster ∙ e);
        }

    fields-no : is_members it.fields ≡ false
    fields-no = ap is_members (sym (fields-is d top-here)) ∙ no-cluster

    pub names-none : NamesWrong d (refusal_at 40 0)
    names-none = record { place = omega arith; is = ap reader_members it.tree ∙ no-readers it.fields it.inner fields-no }

    pub writers-none : (s : List ℕ) → writer_members (type_at d 0) s ≡ refused 41 0
    writers-none s = ap (λ (t : Tree). writer_members t s) it.tree ∙ no-writers it.fields it.inner s fields-no

  -- the walk of data
  module _ (s : List ℕ) where
    abbrev whole : Result (Unit {0}) Refusal
    whole = passed (walked big (type_at d 0) s)

    pub data-long : data_limit < length s → Err (refusal_at 20 0) ≡ whole
    unfolding walked
    data-long h = sym (simp (lt-leb (length s) data_limit h))

    module _ (short : length s ≤ data_limit) (top : Inside) (row : TopRow d top) where
      -- is refused
      module _ (r : Refusal) (e : Err r ≡ end_of (walk_all big (types_at d top.children top.at) s 0)) where
        stopped : walk big (type_at d 0) s 0 ≡ refused r.number r.place
        stopped = end-lost (walk big (type_at d 0) s 0) r (e ∙ row.walks s)

        pub data-lost : Err r ≡ whole
        unfolding walked
        data-lost = sym (simp (le-leb (length s) data_limit short, stopped))

        pub data-place : r.place ≤ data_limit
        data-place = let h = walk-place s big (type_at d 0) 0 r.number r.place (omega arith) stopped in omega arith

      -- or ends
      module _ (end : ℕ) (e : Ok end ≡ end_of (walk_all big (types_at d top.children top.at) s 0)) where
        ended : (ts : List Token) × (walk big (type_at d 0) s 0 ≡ read end ts)
        ended = end-got (walk big (type_at d 0) s 0) end (e ∙ row.walks s)

        pub data-end : end ≤ data_limit
        data-end =
            let f = holds_read ended.1 (walk-forward s (type_at d 0) (type-solid d 0 depth_limit stands) big 0 (omega arith)) in
            omega (arith, f.inside)

        pub data-over : (end ≡ length s → ⊥) → Err (refusal_at 25 end) ≡ whole
        unfolding walked
        data-over h = sym (simp (le-leb (length s) data_limit short, ended.1, ne_eqb end (length s) h))

        pub data-whole : end ≡ length s → Ok tt ≡ whole
        unfolding walked
        data-whole h = sym (simp (le-leb (length s) data_limit short, ended.1, eq-eqb end (length s) h))

-- what the top finds its answers with
pub ruleset top_laws = (accepted_of, header-room, top-cluster, top-single, names-none, names-lost, names-got, data-long, data-lost, data-place, data-end, data-over, data-whole)
