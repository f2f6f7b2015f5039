-- The walk, the rule and the extent of a type by the kind of its code. Rests on the definitions, and on how a scalar is judged.
use mathlib.Core.Path.{◌≡◌, refl, ap}
use mathlib.Core.Bool.{true}
use mathlib.Core.List.{List}
use Prim.Native.Nat.{ℕ}
use Rattle.std.specs.Prelude.{is_some, Some, None}
use native.Mathlib.Omega.{arith}
use Rattle.descriptor.specs.Codes.{Kind, enumeration, string, array}
use Rattle.descriptor.specs.Tree.{Name, Fields, empty, items, pairs, text, dimensions, members, subtype, Tree, node, Forest, nil, cons, count_of}
use Rattle.descriptor.specs.Width.{width_of}
use Rattle.descriptor.specs.inner.Steps.{is_compound}
use Rattle.descriptor.proofs.Steps.{impossible}
use Rattle.flattened.specs.Order.{Order}
use Rattle.flattened.specs.Walk.{text_at, walk_fields, walk, walk_all}
use Rattle.flattened.specs.inner.Extent.{is_scalar, limit_of, extent_fields, extent_of, extent_all}
use Rattle.flattened.specs.inner.Arrays.{elements_at}
use Rattle.flattened.specs.inner.Types.{fields_kind}
use Rattle.flattened.specs.declared.extent.Extent.TheVariants.{Fixed}
use Rattle.flattened.proofs.Codes.{is_measured}
use Rattle.flattened.proofs.Judged.{ruled_at, scalar-ruled}
use Rattle.flattened.proofs.Repeats.{follow-last}

-- a kind of numbers and flags is a scalar's
measured-scalar : (b : Fields) → is_measured (fields_kind b) ≡ true → is_scalar b ≡ true
unfolding is_measured fields_kind is_scalar
measured-scalar empty e = refl
measured-scalar (items xs) e = refl
measured-scalar (pairs ps) e = refl
measured-scalar text e = e
measured-scalar (dimensions k) e = e
measured-scalar (members k) e = e
measured-scalar subtype e = e

-- the fields that a kind has
is-text : (b : Fields) → fields_kind b ≡ string → b ≡ text
unfolding fields_kind
is-text empty e = cc
is-text (items xs) e = cc
is-text (pairs ps) e = cc
is-text text e = refl
is-text (dimensions k) e = cc
is-text (members k) e = cc
is-text subtype e = cc

is-dimensions : (b : Fields) → fields_kind b ≡ array → b ≡ dimensions (count_of b)
unfolding fields_kind count_of
is-dimensions empty e = cc
is-dimensions (items xs) e = cc
is-dimensions (pairs ps) e = cc
is-dimensions text e = cc
is-dimensions (dimensions k) e = refl
is-dimensions (members k) e = cc
is-dimensions subtype e = cc

module _ (c : ℕ) (b : Fields) (f : Forest) (m : Name) where
  module _ (o : Order) (s : List ℕ) (at : ℕ) where
    -- the walk
    pub walk-scalar : is_measured (fields_kind b) ≡ true → walk o (node c b f m) s at ≡ ruled_at o c s at (limit_of b)
    unfolding walk
    walk-scalar e = scalar-ruled o c s at b (λ p. walk_all o f s p) (measured-scalar b e)

    pub walk-text : fields_kind b ≡ string → walk o (node c b f m) s at ≡ text_at o s at
    unfolding walk walk_fields
    walk-text e = ap (λ (x : Fields). walk o (node c x f m) s at) (is-text b e)

    pub walk-array : fields_kind b ≡ array → walk o (node c b f m) s at ≡ elements_at o (count_of b) (λ p. walk_all o f s p) s at
    unfolding walk walk_fields
    walk-array e = ap (λ (x : Fields). walk o (node c x f m) s at) (is-dimensions b e)

    pub walk-compound : is_compound (fields_kind b) ≡ true → walk o (node c b f m) s at ≡ walk_all o f s at
    unfolding walk walk_fields fields_kind
    walk-compound e = go b e
      where
        go : (b : Fields) → is_compound (fields_kind b) ≡ true → walk o (node c b f m) s at ≡ walk_all o f s at
        go empty e = impossible e
        go (items xs) e = impossible e
        go (pairs ps) e = impossible e
        go text e = impossible e
        go (dimensions k) e = impossible e
        go (members k) e = refl
        go subtype e = refl

  -- the extent
  pub extent-scalar : is_measured (fields_kind b) ≡ true → extent_of (node c b f m) ≡ Fixed (width_of c) 1 (is_some (limit_of b))
  unfolding extent_of extent_fields is_measured fields_kind
  extent-scalar e = go b e
    where
      go : (b : Fields) → is_measured (fields_kind b) ≡ true → extent_fields c b (extent_all f) ≡ Fixed (width_of c) 1 (is_some (limit_of b))
      go empty e = refl
      go (items xs) e = refl
      go (pairs ps) e = refl
      go text e = cc
      go (dimensions k) e = cc
      go (members k) e = cc
      go subtype e = cc

  pub extent-compound : is_compound (fields_kind b) ≡ true → extent_of (node c b f m) ≡ extent_all f
  unfolding extent_of extent_fields fields_kind
  extent-compound e = go b e
    where
      go : (b : Fields) → is_compound (fields_kind b) ≡ true → extent_of (node c b f m) ≡ extent_all f
      go empty e = impossible e
      go (items xs) e = impossible e
      go (pairs ps) e = impossible e
      go text e = impossible e
      go (dimensions k) e = impossible e
      go (members k) e = refl
      go subtype e = refl

-- the rule
pub rule-enumeration : (b : Fields) → fields_kind b ≡ enumeration → limit_of b ≡ Some (count_of b)
unfolding fields_kind limit_of count_of
rule-enumeration empty e = cc
rule-enumeration (items xs) e = refl
rule-enumeration (pairs ps) e = cc
rule-enumeration text e = cc
rule-enumeration (dimensions k) e = cc
rule-enumeration (members k) e = cc
rule-enumeration subtype e = cc

pub rule-other : (b : Fields) → (fields_kind b ≡ enumeration → ⊥) → limit_of b ≡ None
unfolding fields_kind limit_of
rule-other empty h = refl
rule-other (items xs) h = absurd (h refl)
rule-other (pairs ps) h = refl
rule-other text h = refl
rule-other (dimensions k) h = refl
rule-other (members k) h = refl
rule-other subtype h = refl

-- only an enumeration has a rule
pub below-kind : (k : Kind) (b : Fields) (limit : ℕ) → fields_kind b ≡ k → Some limit ≡ limit_of b → enumeration ≡ k
unfolding fields_kind limit_of
below-kind k empty limit h e = absurd (let z : ◌≡◌ {A = ℕ} 0 1 = cc in omega arith)
below-kind k (items xs) limit h e = h
below-kind k (pairs ps) limit h e = absurd (let z : ◌≡◌ {A = ℕ} 0 1 = cc in omega arith)
below-kind k text limit h e = absurd (let z : ◌≡◌ {A = ℕ} 0 1 = cc in omega arith)
below-kind k (dimensions n) limit h e = absurd (let z : ◌≡◌ {A = ℕ} 0 1 = cc in omega arith)
below-kind k (members n) limit h e = absurd (let z : ◌≡◌ {A = ℕ} 0 1 = cc in omega arith)
below-kind k subtype limit h e = absurd (let z : ◌≡◌ {A = ℕ} 0 1 = cc in omega arith)

-- one type in a row
pub walk-one : (o : Order) (t : Tree) (s : List ℕ) (at : ℕ) → walk_all o (cons t nil) s at ≡ walk o t s at
unfolding walk_all
walk-one o t s at = follow-last (walk o t s at)
