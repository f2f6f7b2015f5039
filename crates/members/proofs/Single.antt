-- The row of one descriptor that stands somewhere, and its name by its place. Rests on the descriptor crate's laws of what stands where.
use mathlib.Core.Path.{◌≡◌, refl, sym, ap, subst, ◌∙◌}
use mathlib.Core.Bool.{Bool, cond, ◌||◌}
use mathlib.Core.List.{List}
use Prim.Native.Nat.{ℕ, zero, suc, ◌+◌, ◌-◌, ◌%◌, ◌≤◌, ◌<◌}
use native.Mathlib.Omega.{arith}
use borrow.Author.Tests.{eq-eqb, ne_eqb, eqb-true}
use lib.Dec.{eqb}
use lib.ListN.{length, get_or}
use lib.Seq.{slice}
use Rattle.descriptor.specs.Limits.{depth_limit}
use Rattle.descriptor.specs.Codes.{kind_of}
use Rattle.descriptor.specs.Header.{body_at, size_in, code_in}
use Rattle.descriptor.specs.Tree.{Name, named, Tree, node, count_of, child_count, inside_at, tree_size, forest_size}
use Rattle.descriptor.specs.Outcome.{read}
use Rattle.descriptor.specs.Check.{name_at}
use Rattle.descriptor.specs.Table.{place_of_name, row_of}
use Rattle.descriptor.specs.inner.Standing.{standing, standing_row, is_read, next_of, forest_of, fields_of, shape_of}
use Rattle.descriptor.specs.inner.Filling.{row_read, RowPre}
use Rattle.descriptor.specs.declared.answer.Row.{Row}
use Rattle.descriptor.specs.declared.inside.Inside.{Inside}
use Rattle.descriptor.proofs.Bodies.{Seen, seen, header-room}
use Rattle.descriptor.proofs.Filling.{name-numbers, fields-count}
use Rattle.descriptor.proofs.Outcomes.{Holds, found, holds_read, holds-cond, holds-require}
use Rattle.descriptor.proofs.Standing.{standing-ends}
use Rattle.flattened.specs.inner.Types.{type_of, type_at, RowStands}
use Rattle.members.specs.inner.Members.{Inner}
use Rattle.members.specs.inner.Names.{name_of, chars_at, named_at, NameFits}

-- a name at a place that is not 0
pub named-at : (d : List ℕ) (x : ℕ) → 0 < x → named_at d x ≡ named (chars_at d x)
unfolding named_at
named-at d zero h = absurd (omega arith)
named-at d (suc x) h = refl

-- the place of a name, and the name there
record Placed (d : List ℕ) (x : ℕ) (m : Name) : Type 0 where
  is : named_at d x ≡ m
  within : 0 < x → x + get_or d (x - 1) 0 ≤ length d

name-placed : (d : List ℕ) (p stop at : ℕ) → stop ≤ length d → Holds (λ q m. Placed d (place_of_name at m) m) (name_at d stop at)
unfolding name_at place_of_name named_at chars_at
name-placed d p stop at inside =
    holds-cond (eqb at stop) (λ _. found (record { is = refl; within = λ h. absurd (omega arith) }))
    (λ _.
    holds-require (eqb (at + 1 + get_or d at 0 + (1 + get_or d at 0) % 2) stop) _ _ (λ whole.
    holds-require (eqb ((1 + get_or d at 0) % 2) 0 || eqb (get_or d (at + 1 + get_or d at 0) 0) 0) _ _ (λ _.
    let w : at + 1 + get_or d at 0 + (1 + get_or d at 0) % 2 ≡ stop = eqb-true _ _ whole in
    let back : at + 1 - 1 ≡ at = omega arith in
    let before : get_or d (at + 1 - 1) 0 ≡ get_or d at 0 = ap (λ (j : ℕ). get_or d j 0) back in
    found (record {
      is = named-at d (at + 1) (omega arith) ∙ ap (λ (j : ℕ). named (slice (at + 1) (at + 1 + j) d)) before;
      within = λ _. omega (arith, before);
    }))))

module _ (d : List ℕ) (p : ℕ) (inner : Inner d p) where
  it : Seen d p
  it = seen d p inner.here.is

  abbrev tree : Tree
  tree = node it.code it.fields it.inside it.name

  abbrev after : ℕ
  after = inside_at p it.fields + forest_size it.inside

  type-is : type_at d p ≡ tree
  unfolding type_of
  type-is = ap type_of it.eq

  -- the descriptor's bytes
  pub single-size : p + size_in d p ≤ length d
  single-size = omega (arith, it.opened.size, it.opened.inside)

  -- what the code has read of it
  module _ (b : Inside) (eb : b ≡ shape_of d p) where
    shaped : b ≡ record { at = inside_at p it.fields; count = count_of it.fields; children = child_count it.fields }
    unfolding shape_of fields_of
    shaped =
        let is : fields_of (standing d p) ≡ it.fields = ap fields_of it.eq in
        eb ∙ λ i. record { at = inside_at p (is i); count = count_of (is i); children = child_count (is i) }

    children : standing_row d b.children b.at ≡ read after it.inside
    children = ap (λ (x : Inside). standing_row d x.children x.at) shaped ∙ it.opened.children

    -- the descriptors in it
    pub single-row : RowStands d b.children b.at depth_limit
    unfolding is_read forest_of
    single-row =
        let at : b.at ≡ inside_at p it.fields = ap (λ (x : Inside). x.at) shaped in
        record {
          are = ap is_read children;
          from = omega (arith, at, it.opened.body, it.opened.inside);
          small = inner.here.small;
          low = rw (ap forest_of children) (omega (arith, it.opened.low));
        }

    module _ (at : ℕ) (ea : at ≡ next_of (standing_row d b.children b.at)) where
      ends : at ≡ after
      unfolding next_of
      ends = ea ∙ ap next_of children

      module _ (size : ℕ) (es : size ≡ size_in d p) where
        pub single-fits : RowPre d 2 p size b.count at
        single-fits =
            let count : b.count ≡ count_of it.fields = ap (λ (x : Inside). x.count) shaped in
            let most = holds_read it.opened.fields (fields-count (kind_of it.code) d p (body_at p) it.end it.opened.inside) in
            record {
              inside = omega (arith, es, it.opened.size, it.opened.inside);
              small = omega (arith, inner.short);
              name = omega (arith, ends, es, it.opened.size, it.opened.within);
              shallow = omega arith;
              counted = omega (arith, count, most);
            }

        -- is its row
        pub single-is : (code : ℕ) → code ≡ code_in d p → row_read d 2 p code size b.count at ≡ row_of p 2 (type_at d p)
        unfolding row_read row_of
        single-is code ec =
            let sized : size ≡ tree_size tree = omega (arith, es, it.opened.size, (standing-ends d p it.end tree it.eq).at) in
            let numbers = holds_read it.opened.name (name-numbers d p it.end after it.opened.inside) in
            let stop : p + size ≡ it.end = omega (arith, es, it.opened.size) in
            (λ i. record {
              code = (ec ∙ sym it.opened.code) i;
              start = p;
              size = sized i;
              depth = 2;
              count = ap (λ (x : Inside). x.count) shaped i;
              name_place = ((λ j. cond (eqb (ends j) (stop j)) 0 (ends j + 1)) ∙ numbers.0) i;
              name_length = ((λ j. cond (eqb (ends j) (stop j)) 0 (get_or d (ends j) 0)) ∙ numbers.1) i;
            })
            ∙ ap (λ (t : Tree). row_of p 2 t) (sym type-is)

        -- whose name, by its place, is none where nothing is left, and else starts after its length
        place_is : cond (eqb at (p + size)) 0 (at + 1) ≡ (row_of p 2 (type_at d p)).name_place
        unfolding row_read
        place_is = ap (λ (r : Row). r.name_place) (single-is (code_in d p) refl)

        pub single-unnamed : at ≡ p + size → 0 ≡ (row_of p 2 (type_at d p)).name_place
        single-unnamed e = sym (ap (λ (b : Bool). cond b 0 (at + 1)) (eq-eqb at (p + size) e)) ∙ place_is

        pub single-named : (at ≡ p + size → ⊥) → at + 1 ≡ (row_of p 2 (type_at d p)).name_place
        single-named e = sym (ap (λ (b : Bool). cond b 0 (at + 1)) (ne_eqb at (p + size) e)) ∙ place_is

  placed : Placed d (row_of p 2 tree).name_place it.name
  unfolding row_of
  placed = holds_read it.opened.name (name-placed d p it.end after it.opened.inside)

  row_same : (row_of p 2 (type_at d p)).name_place ≡ (row_of p 2 tree).name_place
  row_same = ap (λ (t : Tree). (row_of p 2 t).name_place) type-is

  -- the name that its row places is its name
  pub single-name : named_at d (row_of p 2 (type_at d p)).name_place ≡ name_of (type_at d p)
  unfolding name_of
  single-name = ap (named_at d) row_same ∙ placed.is ∙ ap name_of (sym type-is)

  -- and lies in the bytes
  pub single-within : NameFits d (row_of p 2 (type_at d p)).name_place
  single-within = subst (λ (x : ℕ). NameFits d x) (sym row_same) (record { within = placed.within; short = inner.short })

-- what the row of a member finds its answers with
pub ruleset single_laws = (header-room, single-size, single-row, single-fits, single-is, single-unnamed, single-named)
