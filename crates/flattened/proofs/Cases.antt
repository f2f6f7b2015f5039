-- The walk, the rule and the extent of a type that stands in accepted bytes, by what the code reads of it. Rests on what such a type is made of.
use mathlib.Core.Path.{◌≡◌, refl, sym, ap, ◌∙◌}
use mathlib.Core.Bool.{Bool, true, false}
use mathlib.Core.List.{List}
use Prim.Native.Nat.{ℕ, ◌-◌, ◌<◌}
use native.Mathlib.Omega.{arith}
use Rattle.descriptor.specs.Codes.{Kind, plain, enumeration, quantity, string, array, cluster, stamp, unknown, kind_of}
use Rattle.descriptor.specs.Header.{code_in}
use Rattle.descriptor.specs.Tree.{Name, Fields, empty, items, pairs, text, dimensions, members, subtype, Tree, node, Forest, count_of, child_count, inside_at}
use Rattle.descriptor.specs.Width.{width_of}
use Rattle.descriptor.specs.inner.Steps.{is_compound}
use Rattle.descriptor.proofs.Steps.{impossible}
use Rattle.descriptor.specs.inner.Standing.{contents_start, inside_of, Stands}
use Rattle.descriptor.specs.declared.inside.Inside.{Inside}
use Rattle.flattened.specs.Order.{Order}
use Rattle.flattened.specs.Walk.{walk}
use Rattle.flattened.specs.inner.Order.{Narrow}
use Rattle.flattened.specs.inner.Types.{type_at, types_at, TypeStands, RowStands, fields_kind}
use Rattle.flattened.specs.inner.Extent.{limit_of, type_limit, extent_fields, extent_of, extent_all}
use Rattle.std.specs.Prelude.{is_some, Option, Some, None}
use Rattle.flattened.specs.declared.extent.Extent.TheVariants.{Varies, Fixed, Around}
use Rattle.flattened.proofs.Codes.{is_measured, some-width, no-width, enumeration-narrow}
use Rattle.flattened.proofs.Judged.{ruled_at}
use Rattle.flattened.proofs.Arms.{walk-scalar, rule-enumeration, rule-other, below-kind, extent-scalar, extent-compound}
use Rattle.flattened.proofs.Types.{TypeMade, type-made, type-inside}

-- whether descriptors stand in bodies of the kind
unfoldable pub has_inside : Kind → Bool
has_inside plain = false
has_inside enumeration = false
has_inside quantity = false
has_inside string = false
has_inside array = true
has_inside cluster = true
has_inside stamp = true
has_inside unknown = false

-- whose data, but for an array's, is that of these descriptors
pub compound-inside : (k : Kind) → is_compound k ≡ true → has_inside k ≡ true
unfolding has_inside
compound-inside plain e = e
compound-inside enumeration e = e
compound-inside quantity e = e
compound-inside string e = e
compound-inside array e = refl
compound-inside cluster e = refl
compound-inside stamp e = refl
compound-inside unknown e = e

-- they start right after the fields
start-same : (p : ℕ) (b : Fields) → has_inside (fields_kind b) ≡ true → contents_start p b ≡ inside_at p b
unfolding has_inside fields_kind contents_start
start-same p empty e = cc
start-same p (items xs) e = cc
start-same p (pairs ps) e = cc
start-same p text e = cc
start-same p (dimensions k) e = refl
start-same p (members k) e = refl
start-same p subtype e = refl

-- fields that are no scalar's, no string's and no array's
rest-compound : (b : Fields) → is_measured (fields_kind b) ≡ false → (string ≡ fields_kind b → ⊥) → (array ≡ fields_kind b → ⊥) → is_compound (fields_kind b) ≡ true
unfolding is_measured fields_kind
rest-compound empty e s a = cc
rest-compound (items xs) e s a = cc
rest-compound (pairs ps) e s a = cc
rest-compound text e s a = absurd (s refl)
rest-compound (dimensions k) e s a = absurd (a refl)
rest-compound (members k) e s a = refl
rest-compound subtype e s a = refl

-- fields that are no scalar's, no string's and not those of a compound have no extent
rest-varies : (c : ℕ) (b : Fields) (f : Forest) (m : Name) → is_measured (fields_kind b) ≡ false → (string ≡ fields_kind b → ⊥)
    → is_compound (fields_kind b) ≡ false → extent_of (node c b f m) ≡ Varies
unfolding is_measured fields_kind extent_of extent_fields
rest-varies c empty f m e s h = cc
rest-varies c (items xs) f m e s h = cc
rest-varies c (pairs ps) f m e s h = cc
rest-varies c text f m e s h = absurd (s refl)
rest-varies c (dimensions k) f m e s h = refl
rest-varies c (members k) f m e s h = impossible (sym h)
rest-varies c subtype f m e s h = impossible (sym h)

-- a string's
text-around : (c : ℕ) (b : Fields) (f : Forest) (m : Name) → fields_kind b ≡ string → extent_of (node c b f m) ≡ Around 0 0 1 false
unfolding fields_kind extent_of extent_fields
text-around c empty f m e = cc
text-around c (items xs) f m e = cc
text-around c (pairs ps) f m e = cc
text-around c text f m e = refl
text-around c (dimensions k) f m e = cc
text-around c (members k) f m e = cc
text-around c subtype f m e = cc

module _ (d : List ℕ) (p : ℕ) (here : Stands d p) where
  abbrev pub it : TypeMade d p
  it = type-made d p here

  -- the rule of the fields, by the code that was read
  pub ruled : type_limit (type_at d p) ≡ limit_of it.fields
  unfolding type_limit
  ruled = ap type_limit it.tree

  pub rule-items : enumeration ≡ kind_of (code_in d p) → (i : Inside) → i ≡ inside_of d p → Some i.count ≡ type_limit (type_at d p)
  rule-items k i e =
      ap (λ (x : Inside). Some x.count) (e ∙ it.inside)
      ∙ sym (rule-enumeration it.fields (it.kind ∙ sym k))
      ∙ sym ruled

  pub rule-any : (enumeration ≡ kind_of (code_in d p) → ⊥) → None ≡ type_limit (type_at d p)
  rule-any other = sym (ruled ∙ rule-other it.fields (λ e. other (sym e ∙ it.kind)))

  -- a code that has a width is a scalar's
  pub is-measured : 0 < width_of (code_in d p) → is_measured (fields_kind it.fields) ≡ true
  is-measured h = go (is_measured (kind_of (code_in d p))) refl
    where
      go : (b : Bool) → is_measured (kind_of (code_in d p)) ≡ b → is_measured (fields_kind it.fields) ≡ true
      go true e = ap is_measured it.kind ∙ e
      go false e = absurd (omega (arith, no-width (code_in d p) e))

  pub extent-number : 0 < width_of (code_in d p) → Fixed (width_of (code_in d p)) 1 (is_some (type_limit (type_at d p))) ≡ extent_of (type_at d p)
  extent-number h =
      ap (λ (r : Option ℕ). Fixed (width_of (code_in d p)) 1 (is_some r)) ruled
      ∙ ap (λ (c : ℕ). Fixed (width_of c) 1 (is_some (limit_of it.fields))) (sym it.coded)
      ∙ sym (ap extent_of it.tree ∙ extent-scalar it.code it.fields it.inner it.name (is-measured h))

  -- the walk of a scalar, by its rule
  pub walk-number : 0 < width_of (code_in d p) → (o : Order) (s : List ℕ) (at : ℕ)
      → walk o (type_at d p) s at ≡ ruled_at o (code_in d p) s at (type_limit (type_at d p))
  walk-number h o s at =
      ap (λ (t : Tree). walk o t s at) it.tree
      ∙ walk-scalar it.code it.fields it.inner it.name o s at (is-measured h)
      ∙ ap (λ (c : ℕ). ruled_at o c s at (limit_of it.fields)) it.coded
      ∙ ap (λ (r : Option ℕ). ruled_at o (code_in d p) s at r) (sym ruled)

  -- a type that has a rule is of one, two or four bytes
  pub rule-narrow : (limit : ℕ) → Some limit ≡ type_limit (type_at d p) → Narrow (width_of (code_in d p))
  rule-narrow limit rule = enumeration-narrow (code_in d p) (sym (below-kind (kind_of (code_in d p)) it.fields limit it.kind (rule ∙ ruled)))

  -- a code without a width is none's
  pub not-measured : width_of (code_in d p) ≡ 0 → is_measured (fields_kind it.fields) ≡ false
  not-measured e = go (is_measured (kind_of (code_in d p))) refl
    where
      go : (b : Bool) → is_measured (kind_of (code_in d p)) ≡ b → is_measured (fields_kind it.fields) ≡ false
      go true h = absurd (omega (arith, some-width (code_in d p) h))
      go false h = ap is_measured it.kind ∙ h

  -- it is a compound where it is no string and no array
  pub compound : width_of (code_in d p) ≡ 0 → (string ≡ kind_of (code_in d p) → ⊥) → (array ≡ kind_of (code_in d p) → ⊥) → is_compound (kind_of (code_in d p)) ≡ true
  compound e s a = ap is_compound (sym it.kind) ∙ rest-compound it.fields (not-measured e) (λ h. s (h ∙ it.kind)) (λ h. a (h ∙ it.kind))

  pub extent-text : string ≡ kind_of (code_in d p) → Around 0 0 1 false ≡ extent_of (type_at d p)
  extent-text k = sym (ap extent_of it.tree ∙ text-around it.code it.fields it.inner it.name (it.kind ∙ sym k))

  pub extent-other : width_of (code_in d p) ≡ 0 → (string ≡ kind_of (code_in d p) → ⊥) → is_compound (kind_of (code_in d p)) ≡ false → Varies ≡ extent_of (type_at d p)
  extent-other e s h =
      sym (ap extent_of it.tree
      ∙ rest-varies it.code it.fields it.inner it.name (not-measured e) (λ k. s (k ∙ it.kind)) (ap is_compound it.kind ∙ h))

  -- what stands inside, where descriptors do, as the code reads it
  module _ (i : Inside) (read : i ≡ inside_of d p) where
    children : i.children ≡ child_count it.fields
    children = ap (λ (x : Inside). x.children) (read ∙ it.inside)

    pub counted-inside : i.count ≡ count_of it.fields
    counted-inside = ap (λ (x : Inside). x.count) (read ∙ it.inside)

    module _ (has : has_inside (kind_of (code_in d p)) ≡ true) where
      pub start : i.at ≡ inside_at p it.fields
      start = ap (λ (x : Inside). x.at) (read ∙ it.inside) ∙ start-same p it.fields (ap has_inside it.kind ∙ has)

      pub types-inside : types_at d i.children i.at ≡ it.inner
      types-inside = (λ j. types_at d (children j) (start j)) ∙ it.types

    pub extent-members : is_compound (kind_of (code_in d p)) ≡ true → extent_all (types_at d i.children i.at) ≡ extent_of (type_at d p)
    extent-members k =
        ap extent_all (types-inside (compound-inside _ k))
        ∙ sym (ap extent_of it.tree ∙ extent-compound it.code it.fields it.inner it.name (ap is_compound it.kind ∙ k))

-- the types inside a type have the levels that it leaves
pub row_inside : (d : List ℕ) (p left : ℕ) (type : TypeStands d p left) (i : Inside) → i ≡ inside_of d p → has_inside (kind_of (code_in d p)) ≡ true
    → RowStands d i.children i.at (left - 1)
row_inside d p left type i e has =
    rw (children d p type.here i e, start d p type.here i e has) (type-inside d p left type)
