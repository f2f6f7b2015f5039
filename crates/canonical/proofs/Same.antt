-- The comparison of trees decides their equality, where they are well formed. Rests on the definitions alone.
use mathlib.Core.Path.{◌≡◌, refl, sym, ap, ◌∙◌}
use mathlib.Core.Bool.{Bool, true}
use mathlib.Core.List.{List, [], ◌∷◌}
use Prim.Native.Nat.{ℕ}
use borrow.Author.Tests.{eqb-true, eq-eqb}
use lib.Dec.{eqb}
use Rattle.descriptor.specs.Codes.{Kind, plain, enumeration, quantity, string, array, cluster, stamp, unknown, kind_of}
use Rattle.descriptor.specs.Tree.{Name, unnamed, named, Pair, Fields, empty, items, pairs, text, dimensions, members, subtype, Tree, node, Forest, nil, cons, count_of}
use Rattle.descriptor.specs.Encoding.{FieldsFit, WellFormed, AllWellFormed}
use Rattle.descriptor.proofs.Sizes.{and-true, both_true}
use Rattle.descriptor.proofs.Steps.{impossible}
use Rattle.canonical.proofs.Lists.{part_slice}
use Rattle.canonical.specs.Equality.{same_list, same_chars, same_pair, same_name, items_of, pairs_of, same_fields, same_tree, same_forest}

-- a number is itself
eqb_refl : (n : ℕ) → eqb n n ≡ true
eqb_refl n = eq-eqb n n refl

-- lists of the same elements are equal
list_same : {A : Type 0} (f : A → A → Bool) → ((x y : A) → f x y ≡ true → x ≡ y) → (xs ys : List A) → same_list f xs ys ≡ true → xs ≡ ys
unfolding same_list
list_same f same [] [] e = refl
list_same f same [] (y ∷ ys) e = impossible e
list_same f same (x ∷ xs) [] e = impossible e
list_same f same (x ∷ xs) (y ∷ ys) e =
    let h = and-true _ _ e in
    let first = same x y h.0 in
    let rest = list_same f same xs ys h.1 in
    (λ j. first j ∷ rest j)

-- and a list has its own elements
list-refl : {A : Type 0} (f : A → A → Bool) → ((x : A) → f x x ≡ true) → (xs : List A) → same_list f xs xs ≡ true
unfolding same_list
list-refl f same [] = refl
list-refl f same (x ∷ xs) = both_true (same x) (list-refl f same xs)

-- characters that compare equal are equal
pub chars-same : (x y : List ℕ) → same_chars x y ≡ true → x ≡ y
chars-same x y e = list_same eqb eqb-true x y e

-- and characters compare equal to themselves
pub chars-refl : (x : List ℕ) → same_chars x x ≡ true
chars-refl x = list-refl eqb eqb_refl x

-- so for a unit pair
pair_same : (x y : Pair) → same_pair x y ≡ true → x ≡ y
pair_same x y e =
    let h = and-true _ _ e in
    let b : x.base ≡ y.base = eqb-true _ _ h.0 in
    let n : x.exponent ≡ y.exponent = eqb-true _ _ h.1 in
    (λ j. record { base = b j; exponent = n j })

-- and itself
pair-refl : (x : Pair) → same_pair x x ≡ true
pair-refl x = both_true (eqb_refl x.base) (eqb_refl x.exponent)

-- so for a name
pub name-same : (m n : Name) → same_name m n ≡ true → m ≡ n
unfolding same_name
name-same unnamed unnamed e = refl
name-same unnamed (named y) e = impossible e
name-same (named x) unnamed e = impossible e
name-same (named x) (named y) e = ap named (chars-same x y e)

-- and itself
pub name-refl : (m : Name) → same_name m m ≡ true
unfolding same_name
name-refl unnamed = refl
name-refl (named x) = chars-refl x

-- the fields of a body, by the code's kind, their count, items and pairs
rebuilt : Kind → ℕ → List (List ℕ) → List Pair → Fields
rebuilt plain n xs ps = empty
rebuilt enumeration n xs ps = items xs
rebuilt quantity n xs ps = pairs ps
rebuilt string n xs ps = text
rebuilt array n xs ps = dimensions n
rebuilt cluster n xs ps = members n
rebuilt stamp n xs ps = subtype
rebuilt unknown n xs ps = empty

-- fields that fit their kind are what these say
fields-rebuilt : (k : Kind) (b : Fields) → FieldsFit k b → rebuilt k (count_of b) (items_of b) (pairs_of b) ≡ b
unfolding rebuilt FieldsFit count_of items_of pairs_of
fields-rebuilt k empty e = ap (λ (j : Kind). rebuilt j 0 [] []) e
fields-rebuilt k (items xs) e = ap (λ (j : Kind). rebuilt j (count_of (items xs)) xs []) e.0
fields-rebuilt k (pairs ps) e = ap (λ (j : Kind). rebuilt j (count_of (pairs ps)) [] ps) e.0
fields-rebuilt k text e = ap (λ (j : Kind). rebuilt j 0 [] []) e
fields-rebuilt k (dimensions d) e = ap (λ (j : Kind). rebuilt j d [] []) e.0
fields-rebuilt k (members n) e = ap (λ (j : Kind). rebuilt j n [] []) e.0
fields-rebuilt k subtype e = ap (λ (j : Kind). rebuilt j 0 [] []) e

-- the fields of two bodies of one kind that compare equal are equal
fields-same : (k l : Kind) (a b : Fields) → k ≡ l → FieldsFit k a → FieldsFit l b → same_fields a b ≡ true → a ≡ b
fields-same k l a b ek fa fb e =
    let h = and-true _ _ e in
    let g = and-true _ _ h.1 in
    let n : count_of a ≡ count_of b = eqb-true _ _ h.0 in
    let xs : items_of a ≡ items_of b = list_same same_chars chars-same (items_of a) (items_of b) g.0 in
    let ps : pairs_of a ≡ pairs_of b = list_same same_pair pair_same (pairs_of a) (pairs_of b) g.1 in
    sym (fields-rebuilt k a fa) ∙ (λ j. rebuilt (ek j) (n j) (xs j) (ps j)) ∙ fields-rebuilt l b fb

-- and fields compare equal to themselves
fields-refl : (a : Fields) → same_fields a a ≡ true
fields-refl a =
    both_true (eqb_refl (count_of a)) (both_true (list-refl same_chars chars-refl (items_of a)) (list-refl same_pair pair-refl (pairs_of a)))

mutual
  unfolding same_tree WellFormed

  -- well-formed trees that compare equal are equal
  pub same-tree : (t u : Tree) (a b : Bool) → WellFormed a t → WellFormed b u → same_tree t u ≡ true → t ≡ u
  same-tree (node c k f m) (node d l g n) a b wt wu e =
      let h = and-true _ _ e in
      let i = and-true _ _ h.1 in
      let j = and-true _ _ i.1 in
      let ec : c ≡ d = eqb-true c d h.0 in
      let ek : k ≡ l = fields-same (kind_of c) (kind_of d) k l (ap kind_of ec) wt.fields wu.fields i.0 in
      let em : m ≡ n = name-same m n j.0 in
      let ef : f ≡ g = same-forest f g _ _ wt.inside wu.inside j.1 in
      (λ x. node (ec x) (ek x) (ef x) (em x))

  -- and so are descriptors in a row
  pub same-forest : (f g : Forest) (a b : Bool) → AllWellFormed a f → AllWellFormed b g → same_forest f g ≡ true → f ≡ g
  same-forest nil nil a b wf wg e = refl
  same-forest nil (cons u g) a b wf wg e = impossible e
  same-forest (cons t f) nil a b wf wg e = impossible e
  same-forest (cons t f) (cons u g) a b wf wg e =
      let h = and-true _ _ e in
      let et = same-tree t u a b wf.0 wg.0 h.0 in
      let ef = same-forest f g a b wf.1 wg.1 h.1 in
      (λ x. cons (et x) (ef x))

mutual
  unfolding same_tree

  -- every tree compares equal to itself
  pub same_refl : (t : Tree) → same_tree t t ≡ true
  same_refl (node c b f m) = both_true (eqb_refl c) (both_true (fields-refl b) (both_true (name-refl m) (same-forest-refl f)))

  -- and so do descriptors in a row
  pub same-forest-refl : (f : Forest) → same_forest f f ≡ true
  same-forest-refl nil = refl
  same-forest-refl (cons t f) = both_true (same_refl t) (same-forest-refl f)

-- what a comparison of two parts tells
pub ruleset run_laws = (part_slice, chars-same, chars-refl)
