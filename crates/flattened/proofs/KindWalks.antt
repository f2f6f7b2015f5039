-- The walk of a type that stands in accepted bytes, by its kind: one value, and n of them. Rests on what types are made of.
use mathlib.Core.Path.{◌≡◌, refl, sym, ap, subst, ◌∙◌}
use mathlib.Core.Bool.{true}
use mathlib.Core.List.{List}
use Prim.Native.Nat.{ℕ, ◌-◌, ◌≤◌}
use native.Mathlib.Omega.{arith}
use Rattle.descriptor.specs.Limits.{dimension_limit}
use Rattle.descriptor.specs.Codes.{string, array, kind_of}
use Rattle.descriptor.specs.Header.{code_in}
use Rattle.descriptor.specs.Tree.{Fields, empty, items, pairs, text, dimensions, members, subtype, Tree, Forest, nil, cons, count_of, child_count}
use Rattle.descriptor.specs.Outcome.{Outcome}
use Rattle.descriptor.specs.inner.Steps.{is_compound}
use Rattle.descriptor.specs.inner.Standing.{forest_of, inside_of, Stands}
use Rattle.descriptor.specs.declared.inside.Inside.{Inside}
use Rattle.descriptor.proofs.Standing.{row-none}
use Rattle.flattened.specs.Order.{Order}
use Rattle.flattened.specs.Token.{Token}
use Rattle.flattened.specs.Walk.{text_at, repeat, walk, walk_all}
use Rattle.flattened.specs.inner.Types.{type_at, types_at, TypeStands, RowStands, fields_kind}
use Rattle.flattened.specs.inner.Arrays.{elements_at}
use Rattle.flattened.proofs.Arms.{walk-text, walk-array, walk-compound, walk-one}
use Rattle.flattened.proofs.Cases.{it, has_inside, compound-inside, counted-inside, types-inside, row_inside}
use Rattle.flattened.proofs.Types.{Counted, row-turn, alone}

-- the walk by kinds
module _ (d : List ℕ) (p : ℕ) (here : Stands d p) (o : Order) (s : List ℕ) (at : ℕ) where
  walk-made : walk o (type_at d p) s at ≡ walk o (Tree.node (it d p here).code (it d p here).fields (it d p here).inner (it d p here).name) s at
  walk-made = ap (λ (t : Tree). walk o t s at) (it d p here).tree

  pub value-text : string ≡ kind_of (code_in d p) → walk o (type_at d p) s at ≡ text_at o s at
  value-text k = walk-made ∙ walk-text _ _ _ _ o s at ((it d p here).kind ∙ sym k)

  module _ (i : Inside) (read : i ≡ inside_of d p) where
    pub value-compound : is_compound (kind_of (code_in d p)) ≡ true → walk o (type_at d p) s at ≡ walk_all o (types_at d i.children i.at) s at
    value-compound k =
        walk-made
        ∙ walk-compound _ _ _ _ o s at (ap is_compound (it d p here).kind ∙ k)
        ∙ ap (λ (f : Forest). walk_all o f s at) (sym (types-inside d p here i read (compound-inside _ k)))

-- of a row of one, the type
only : (d : List ℕ) (p left : ℕ) → RowStands d 1 p left → TypeStands d p left × (types_at d 1 p ≡ cons (type_at d p) nil)
unfolding forest_of
only d p left row =
    let turn = row-turn d 0 p left row in
    (turn.first, turn.types ∙ ap (λ (f : Forest). cons (type_at d p) f) (ap forest_of (row-none d _)))

-- an array has one type inside, and from one to four dimensions
array-counts : (b : Fields) → array ≡ fields_kind b → Counted b → (child_count b ≡ 1) × (1 ≤ count_of b) × (count_of b ≤ dimension_limit)
unfolding fields_kind Counted child_count count_of
array-counts empty e c = absurd (let z : ◌≡◌ {A = ℕ} 0 1 = cc in omega arith)
array-counts (items xs) e c = absurd (let z : ◌≡◌ {A = ℕ} 0 1 = cc in omega arith)
array-counts (pairs ps) e c = absurd (let z : ◌≡◌ {A = ℕ} 0 1 = cc in omega arith)
array-counts text e c = absurd (let z : ◌≡◌ {A = ℕ} 0 1 = cc in omega arith)
array-counts (dimensions k) e c = (refl, c.0, c.1)
array-counts (members k) e c = absurd (let z : ◌≡◌ {A = ℕ} 0 1 = cc in omega arith)
array-counts subtype e c = absurd (let z : ◌≡◌ {A = ℕ} 0 1 = cc in omega arith)

-- what the code knows of an array at p
pub record ArrayAt (d : List ℕ) (p left : ℕ) (i : Inside) : Type 0 where
  pub element : TypeStands d i.at (left - 1)
  pub least : 1 ≤ i.count
  pub most : i.count ≤ dimension_limit
  pub walked : (o : Order) (s : List ℕ) (at : ℕ) → walk o (type_at d p) s at ≡ elements_at o i.count (λ a. walk o (type_at d i.at) s a) s at

pub value-array : (d : List ℕ) (p left : ℕ) → TypeStands d p left → (i : Inside) → i ≡ inside_of d p → array ≡ kind_of (code_in d p) → ArrayAt d p left i
unfolding has_inside
value-array d p left type i read k =
    let x = it d p type.here in
    let has : has_inside (kind_of (code_in d p)) ≡ true = sym (ap has_inside k) in
    let counts = array-counts x.fields (k ∙ sym x.kind) x.counted in
    let one : i.children ≡ 1 = ap (λ (y : Inside). y.children) (read ∙ x.inside) ∙ counts.0 in
    let dims : i.count ≡ count_of x.fields = counted-inside d p type.here i read in
    let single = only d i.at (left - 1) (subst (λ (n : ℕ). RowStands d n i.at (left - 1)) one (row_inside d p left type i read has)) in
    let inner : x.inner ≡ cons (type_at d i.at) nil =
    sym (types-inside d p type.here i read has) ∙ ap (λ (n : ℕ). types_at d n i.at) one ∙ single.1 in
    record {
      element = single.0;
      least = omega (arith, counts.1);
      most = omega (arith, counts.2);
      walked = λ o s at.
          walk-made d p type.here o s at
          ∙ walk-array _ _ _ _ o s at (x.kind ∙ sym k)
          ∙ (λ j. elements_at o (sym dims j) (λ a. walk_all o (inner j) s a) s at)
          ∙ λ j. elements_at o i.count (λ a. walk-one o (type_at d i.at) s a j) s at;
    }

-- a row of one type
pub value-alone : (d : List ℕ) (p left : ℕ) → TypeStands d p left → (o : Order) (s : List ℕ) (at : ℕ) → walk_all o (types_at d 1 p) s at ≡ walk o (type_at d p) s at
value-alone d p left type o s at = ap (λ (f : Forest). walk_all o f s at) (alone d p left type).1 ∙ walk-one o (type_at d p) s at

-- n values of one type
module _ (d : List ℕ) (p left : ℕ) (type : TypeStands d p left) (o : Order) (s : List ℕ) (n from : ℕ) where
  abbrev values : Outcome (List Token)
  values = repeat (λ a. walk o (type_at d p) s a) n from

  pub walk-texts : string ≡ kind_of (code_in d p) → repeat (λ a. text_at o s a) n from ≡ values
  walk-texts k i = repeat (λ a. sym (value-text d p type.here o s a k) i) n from

  pub walk-compounds : (i : Inside) → i ≡ inside_of d p → is_compound (kind_of (code_in d p)) ≡ true
      → repeat (λ a. walk_all o (types_at d i.children i.at) s a) n from ≡ values
  walk-compounds x read k i = repeat (λ a. sym (value-compound d p type.here o s a x read k) i) n from

  pub walk-alone : repeat (λ a. walk_all o (types_at d 1 p) s a) n from ≡ values
  walk-alone i = repeat (λ a. value-alone d p left type o s a i) n from
