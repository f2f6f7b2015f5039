-- A step into a value of accepted data, by the kind of its type: into an array, into a compound, or nowhere. Rests on what types are made of.
use mathlib.Core.Path.{◌≡◌, refl, sym, ap, subst, ◌∙◌}
use mathlib.Core.Bool.{true, false}
use mathlib.Core.List.{List}
use Prim.Native.Nat.{ℕ, ◌+◌, ◌-◌, ◌<◌, ◌≤◌}
use native.Mathlib.Omega.{arith}
use Rattle.std.specs.Prelude.{Result, Err}
use Rattle.descriptor.specs.Codes.{array, kind_of}
use Rattle.descriptor.specs.Header.{code_in}
use Rattle.descriptor.specs.Limits.{depth_limit, dimension_limit}
use Rattle.descriptor.specs.Outcome.{Outcome, refused}
use Rattle.descriptor.specs.Tree.{Fields, empty, items, pairs, text, dimensions, members, subtype, Tree, node, Forest, nil, cons, count_of, child_count}
use Rattle.descriptor.specs.inner.Steps.{is_compound}
use Rattle.descriptor.specs.inner.Standing.{is_read, next_of, inside_of}
use Rattle.descriptor.specs.declared.inside.Inside.{Inside}
use Rattle.descriptor.proofs.Steps.{impossible}
use Rattle.flattened.specs.Order.{big}
use Rattle.flattened.specs.Token.{Token}
use Rattle.flattened.specs.Walk.{walk, walk_all}
use Rattle.flattened.specs.inner.Arrays.{elements_at}
use Rattle.flattened.specs.inner.Cursor.{cursor}
use Rattle.flattened.specs.inner.Types.{type_at, types_at, TypeStands, RowStands, fields_kind}
use Rattle.flattened.proofs.Arms.{walk-array, walk-compound, walk-one}
use Rattle.flattened.proofs.Cases.{has_inside, compound-inside, counted-inside, types-inside, row_inside}
use Rattle.flattened.proofs.Types.{TypeMade, type-made, type-deep, Counted}
use Rattle.access.specs.Path.{member_at, step_at, step_into}
use Rattle.access.specs.inner.Past.{past_values, past_array}
use Rattle.access.specs.inner.Spots.{Lies, ArrayLies, RowLies, reached, Known, Reaches}
use Rattle.access.specs.declared.spot.Spot.{Spot}
use Rattle.access.proofs.Runs.{one_value}
use Rattle.access.proofs.Types.{only-type}

module _ (i : ℕ) (f : Forest) (k : ℕ) (s : List ℕ) (at : ℕ) where
  -- a step by the fields of a kind
  step-array : (b : Fields) → fields_kind b ≡ array → step_at i b f k s at ≡ step_at i (dimensions (count_of b)) f k s at
  unfolding fields_kind count_of
  step-array empty e = cc
  step-array (items xs) e = cc
  step-array (pairs ps) e = cc
  step-array text e = cc
  step-array (dimensions n) e = refl
  step-array (members n) e = cc
  step-array subtype e = cc

  step-compound : (b : Fields) → is_compound (fields_kind b) ≡ true → step_at i b f k s at ≡ member_at i f k s at
  unfolding fields_kind step_at
  step-compound empty e = impossible e
  step-compound (items xs) e = impossible e
  step-compound (pairs ps) e = impossible e
  step-compound text e = impossible e
  step-compound (dimensions n) e = impossible e
  step-compound (members n) e = refl
  step-compound subtype e = refl

  step_other : (b : Fields) → (array ≡ fields_kind b → ⊥) → is_compound (fields_kind b) ≡ false → step_at i b f k s at ≡ refused 30 i
  unfolding fields_kind step_at
  step_other empty a c = refl
  step_other (items xs) a c = refl
  step_other (pairs ps) a c = refl
  step_other text a c = refl
  step_other (dimensions n) a c = absurd (a refl)
  step_other (members n) a c = impossible (sym c)
  step_other subtype a c = impossible (sym c)

-- an array has one type inside, and from one to four dimensions
array-children : (b : Fields) → fields_kind b ≡ array → child_count b ≡ 1
unfolding fields_kind child_count
array-children empty e = cc
array-children (items xs) e = cc
array-children (pairs ps) e = cc
array-children text e = cc
array-children (dimensions n) e = refl
array-children (members n) e = cc
array-children subtype e = cc

array-few : (b : Fields) → fields_kind b ≡ array → Counted b → count_of b ≤ dimension_limit
unfolding fields_kind count_of Counted
array-few empty e c = omega arith
array-few (items xs) e c = absurd (let z : ◌≡◌ {A = ℕ} 0 1 = cc in omega arith)
array-few (pairs ps) e c = absurd (let z : ◌≡◌ {A = ℕ} 0 1 = cc in omega arith)
array-few text e c = omega arith
array-few (dimensions n) e c = c.1
array-few (members n) e c = absurd (let z : ◌≡◌ {A = ℕ} 0 1 = cc in omega arith)
array-few subtype e c = omega arith

-- the steps before leave at least one level
pub shallow : {d : List ℕ} {p i : ℕ} → TypeStands d p (depth_limit - i) → i < depth_limit
shallow {d} {p} {i} type = omega (arith, type-deep d p (depth_limit - i) type)

module _ (d : List ℕ) (p i k : ℕ) (s : List ℕ) (at : ℕ) (lies : Lies d p (depth_limit - i) s at) where
  abbrev made : TypeMade d p
  made = type-made d p lies.type.here

  stepped : step_into i (type_at d p) k s at ≡ step_at i made.fields made.inner k s at
  stepped = ap (λ (t : Tree). step_into i t k s at) made.tree

  whole : is_read (walk big (node made.code made.fields made.inner made.name) s at) ≡ true
  whole = ap (λ (t : Tree). is_read (walk big t s at)) (sym made.tree) ∙ lies.read

  -- nothing stands inside
  pub step_none : (array ≡ kind_of (code_in d p) → ⊥) → is_compound (kind_of (code_in d p)) ≡ false → Reaches d (depth_limit - (i + 1)) s (step_into i (type_at d p) k s at) (Err i)
  unfolding reached Known
  step_none a c = record {
    eq = sym (stepped ∙ step_other i made.inner k s at made.fields (λ e. a (e ∙ made.kind)) (ap is_compound made.kind ∙ c));
    known = shallow lies.type;
  }

  module _ (inside : Inside) (seen : inside ≡ inside_of d p) where
    less : depth_limit - i - 1 ≡ depth_limit - (i + 1)
    less = omega arith

    row : has_inside (kind_of (code_in d p)) ≡ true → RowStands d inside.children inside.at (depth_limit - (i + 1))
    row has = subst (λ (n : ℕ). RowStands d inside.children inside.at n) less (row_inside d p (depth_limit - i) lies.type inside seen has)

    -- a compound
    module _ (kind : is_compound (kind_of (code_in d p)) ≡ true) where
      inner : types_at d inside.children inside.at ≡ made.inner
      inner = types-inside d p lies.type.here inside seen (compound-inside _ kind)

      pub compound_lies : RowLies d inside.children inside.at (depth_limit - (i + 1)) s at
      compound_lies = record {
        row = row (compound-inside _ kind);
        bytes = lies.bytes;
        read =
            ap (λ (f : Forest). is_read (walk_all big f s at)) inner
            ∙ ap is_read (sym (walk-compound made.code made.fields made.inner made.name big s at (ap is_compound made.kind ∙ kind)))
            ∙ whole;
      }

      pub compound_reached : (r : Result Spot ℕ) → Reaches d (depth_limit - (i + 1)) s (member_at i (types_at d inside.children inside.at) k s at) r
          → Reaches d (depth_limit - (i + 1)) s (step_into i (type_at d p) k s at) r
      compound_reached r met = record {
        eq = met.eq
            ∙ ap (λ (f : Forest). member_at i f k s at) inner
            ∙ sym (stepped ∙ step-compound i made.inner k s at made.fields (ap is_compound made.kind ∙ kind));
        known = met.known;
      }

    -- an array
    module _ (kind : array ≡ kind_of (code_in d p)) where
      one : inside.children ≡ 1
      one = ap (λ (x : Inside). x.children) (seen ∙ made.inside) ∙ array-children made.fields (made.kind ∙ sym kind)

      alone : TypeStands d inside.at (depth_limit - (i + 1)) × (types_at d 1 inside.at ≡ cons (type_at d inside.at) nil)
      unfolding has_inside
      alone = only-type d inside.at (depth_limit - (i + 1)) (subst (λ (n : ℕ). RowStands d n inside.at (depth_limit - (i + 1))) one (row (sym (ap has_inside kind))))

      element : made.inner ≡ cons (type_at d inside.at) nil
      unfolding has_inside
      element =
          sym (types-inside d p lies.type.here inside seen (sym (ap has_inside kind)))
          ∙ ap (λ (n : ℕ). types_at d n inside.at) one
          ∙ alone.1

      dims : inside.count ≡ count_of made.fields
      dims = counted-inside d p lies.type.here inside seen

      pub array-walk : walk big (type_at d p) s at ≡ elements_at big inside.count (λ a. walk big (type_at d inside.at) s a) s at
      array-walk =
          ap (λ (t : Tree). walk big t s at) made.tree
          ∙ walk-array made.code made.fields made.inner made.name big s at (made.kind ∙ sym kind)
          ∙ (λ j. elements_at big (count_of made.fields) (λ a. walk_all big (element j) s a) s at)
          ∙ (λ j. elements_at big (sym dims j) (λ a. walk-one big (type_at d inside.at) s a j) s at)

      pub array_lies : ArrayLies d inside.at inside.count (depth_limit - (i + 1)) s at
      array_lies = record {
        type = alone.0;
        few = omega (arith, dims, array-few made.fields (made.kind ∙ sym kind) made.counted);
        bytes = lies.bytes;
        read = ap is_read (sym array-walk) ∙ lies.read;
      }

      -- it ends where its elements do
      pub array_one : past_values d p 1 s at ≡ past_array d inside.at inside.count s at
      unfolding past_array past_values
      array_one = ap (λ (o : Outcome (List Token)). cursor (next_of o)) (one_value d p s at ∙ array-walk)

      pub array_reached : (r : Result Spot ℕ)
          → Reaches d (depth_limit - (i + 1)) s (step_at i (dimensions inside.count) (cons (type_at d inside.at) nil) k s at) r
          → Reaches d (depth_limit - (i + 1)) s (step_into i (type_at d p) k s at) r
      array_reached r met = record {
        eq = met.eq
            ∙ (λ j. step_at i (dimensions (dims j)) (sym element j) k s at)
            ∙ sym (stepped ∙ step-array i made.inner k s at made.fields (made.kind ∙ sym kind));
        known = met.known;
      }
