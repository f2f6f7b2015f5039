-- What stands inside a time stamp: that cluster passes the check's test, and well-formed descriptors that pass it are that cluster.
-- Rests on the definitions alone.
use mathlib.Core.Path.{◌≡◌, refl, sym, ap, ◌∙◌}
use mathlib.Core.Bool.{Bool, true, false, not, ◌&&◌, ◌||◌}
use mathlib.Core.List.{List, [], ◌∷◌}
use Prim.Native.Nat.{ℕ}
use native.Mathlib.Omega.{arith}
use borrow.Author.Tests.{eqb-true}
use lib.Dec.{eqb}
use Rattle.descriptor.specs.Codes.{Kind, plain, cluster, kind_of, cluster_code, is_stamp}
use Rattle.descriptor.specs.Tree.{Name, unnamed, named, Fields, empty, items, pairs, text, dimensions, members, subtype, Tree, node, Forest, nil, cons, child_count, forest_length}
use Rattle.descriptor.specs.Encoding.{FieldsFit, WellFormed, AllWellFormed}
use Rattle.descriptor.specs.Stamp.{stamp_codes, integers, stamp_inside, is_unnamed, are_unnamed, is_stamp_cluster, is_stamp_inside, inside_fits}
use Rattle.descriptor.proofs.CodeKinds.{AllPlain, stamp-plain}
use Rattle.descriptor.proofs.Sizes.{and-true}
use Rattle.descriptor.proofs.Steps.{impossible}

-- that cluster passes, in a descriptor of any kind
pub stamp-passes : (k : Kind) (f : Forest) → (is_stamp k ≡ true → f ≡ stamp_inside) → inside_fits k f ≡ true
unfolding stamp_inside integers is_stamp_inside is_stamp_cluster are_unnamed is_unnamed
stamp-passes k f is = go (is_stamp k) is
  where
    go : (i : Bool) → (i ≡ true → f ≡ stamp_inside) → (not i || is_stamp_inside f) ≡ true
    go false h = refl
    go true h = ap is_stamp_inside (h refl)

-- no name
unnamed-is : (m : Name) → is_unnamed m ≡ true → m ≡ unnamed
unfolding is_unnamed
unnamed-is unnamed e = refl
unnamed-is (named x) e = impossible e

-- no descriptors
none_is : (f : Forest) → forest_length f ≡ 0 → f ≡ nil
unfolding forest_length
none_is nil e = refl
none_is (cons t f) e = absurd (omega arith)

-- the fields of a plain code
plain-is : (k : Kind) (b : Fields) → k ≡ plain → FieldsFit k b → b ≡ empty
unfolding FieldsFit
plain-is k empty e fit = refl
plain-is k (items xs) e fit = let z = fit.0 in cc
plain-is k (pairs ps) e fit = let z = fit.0 in cc
plain-is k text e fit = cc
plain-is k (dimensions d) e fit = let z = fit.0 in cc
plain-is k (members j) e fit = let z = fit.0 in cc
plain-is k subtype e fit = cc

-- and those of a cluster
cluster-is : (k : Kind) (b : Fields) → k ≡ cluster → FieldsFit k b → b ≡ members (child_count b)
unfolding FieldsFit child_count
cluster-is k empty e fit = cc
cluster-is k (items xs) e fit = let z = fit.0 in cc
cluster-is k (pairs ps) e fit = let z = fit.0 in cc
cluster-is k text e fit = cc
cluster-is k (dimensions d) e fit = let z = fit.0 in cc
cluster-is k (members j) e fit = refl
cluster-is k subtype e fit = cc

-- well-formed unnamed descriptors of plain codes
integers-are : (cs : List ℕ) → AllPlain cs → (a : Bool) (f : Forest) → AllWellFormed a f → are_unnamed cs f ≡ true → f ≡ integers cs
unfolding AllPlain WellFormed are_unnamed integers child_count
integers-are [] plains a nil formed u = refl
integers-are [] plains a (cons t f) formed u = impossible u
integers-are (c ∷ cs) plains a nil formed u = impossible u
integers-are (c ∷ cs) plains a (cons (node d b g m) f) formed u =
    let parts = and-true (eqb d c) (is_unnamed m && are_unnamed cs f) u in
    let rest = and-true (is_unnamed m) (are_unnamed cs f) parts.1 in
    let code : d ≡ c = eqb-true d c parts.0 in
    let bare : b ≡ empty = plain-is (kind_of d) b (ap kind_of code ∙ plains.0) formed.0.fields in
    let none : g ≡ nil = none_is g (formed.0.children ∙ ap child_count bare) in
    let alone : m ≡ unnamed = unnamed-is m rest.0 in
    let others : f ≡ integers cs = integers-are cs plains.1 a f formed.1 rest.1 in
    (λ i. cons (node (code i) (bare i) (none i) (alone i)) (others i))

-- a well-formed cluster of those of a time stamp
cluster-alone : (a : Bool) (t : Tree) → WellFormed a t → is_stamp_cluster t ≡ true → t ≡ node cluster_code (members 4) (integers stamp_codes) unnamed
unfolding WellFormed is_stamp_cluster kind_of integers forest_length
cluster-alone a (node c b f m) formed u =
    let parts = and-true (eqb c cluster_code) (are_unnamed stamp_codes f && is_unnamed m) u in
    let rest = and-true (are_unnamed stamp_codes f) (is_unnamed m) parts.1 in
    let code : c ≡ cluster_code = eqb-true c cluster_code parts.0 in
    let inner : f ≡ integers stamp_codes = integers-are stamp_codes stamp-plain _ f formed.inside rest.0 in
    let four : child_count b ≡ 4 = sym formed.children ∙ ap forest_length inner in
    let body : b ≡ members 4 = cluster-is (kind_of c) b (ap kind_of code) formed.fields ∙ ap members four in
    let alone : m ≡ unnamed = unnamed-is m rest.1 in
    (λ i. node (code i) (body i) (inner i) (alone i))

-- well-formed descriptors that pass
inside_is : (a : Bool) (f : Forest) → AllWellFormed a f → is_stamp_inside f ≡ true → f ≡ stamp_inside
unfolding WellFormed is_stamp_inside stamp_inside
inside_is a nil formed u = impossible u
inside_is a (cons t nil) formed u = ap (λ (x : Tree). cons x nil) (cluster-alone a t formed.0 u)
inside_is a (cons t (cons v f)) formed u = impossible u

-- are that cluster where they stand in a time stamp
pub passes-stamp : (k : Kind) (a : Bool) (f : Forest) → AllWellFormed a f → inside_fits k f ≡ true → is_stamp k ≡ true → f ≡ stamp_inside
passes-stamp k a f formed u is = go (is_stamp k) is u
  where
    go : (i : Bool) → i ≡ true → (not i || is_stamp_inside f) ≡ true → f ≡ stamp_inside
    go false h u = impossible h
    go true h u = inside_is a f formed u
