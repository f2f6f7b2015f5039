-- What stands inside a time stamp, by its bytes: the test of the bytes agrees with the test of what was read there. Rests on `Standing`.
use mathlib.Core.Path.{◌≡◌, refl, ap, sym, ◌∙◌}
use mathlib.Core.Bool.{Bool, true, false, not, ◌&&◌, ◌||◌}
use mathlib.Core.List.{List, [], ◌∷◌}
use Prim.Native.Nat.{ℕ, zero, suc, ◌+◌, ◌*◌, ◌≤◌}
use native.Mathlib.Omega.{arith}
use borrow.Author.Tests.{eq-eqb, eqb-true}
use lib.Dec.{leb, eqb}
use lib.ListN.{length}
use Rattle.number.specs.Endian.{be}
use Rattle.descriptor.specs.Limits.{count_limit}
use Rattle.descriptor.specs.Codes.{Kind, plain, cluster, stamp, kind_of, cluster_code, is_stamp}
use Rattle.descriptor.specs.Header.{header_size, body_at, size_in, code_in}
use Rattle.descriptor.specs.Tree.{Name, unnamed, named, Fields, empty, members, subtype, Tree, node, Forest, nil, cons, child_count, inside_at, fields_size, name_size, tree_size, forest_size, forest_length}
use Rattle.descriptor.specs.Outcome.{read}
use Rattle.descriptor.specs.Stamp.{stamp_subtype, stamp_codes, is_unnamed, are_unnamed, is_stamp_cluster, is_stamp_inside, inside_fits}
use Rattle.descriptor.specs.Check.{fields_at}
use Rattle.descriptor.specs.inner.Standing.{standing, standing_row}
use Rattle.descriptor.proofs.Outcomes.{Holds, found, holds_read, holds-require, holds-and_then}
use Rattle.descriptor.proofs.CodeKinds.{AllPlain, stamp-plain}
use Rattle.descriptor.proofs.Sizes.{and-true, both_true, count_fits}
use Rattle.descriptor.proofs.Standing.{Opened, open-standing, standing-ends, row-split, row_first, row-none, row_ends}
use Rattle.descriptor.proofs.FieldKinds.{plain-fields, cluster-fields, stamp-fields}
use Rattle.descriptor.proofs.Steps.{impossible}
use Rattle.validation.specs.inner.Rest.{bare_at, bares_at, stamp_cluster_size, stamp_at, Lies}

-- two tests that pass together are the same
same_test : (a b : Bool) → (a ≡ true → b ≡ true) → (b ≡ true → a ≡ true) → a ≡ b
same_test true true f g = refl
same_test false false f g = refl
same_test true false f g = impossible (f refl)
same_test false true f g = impossible (g refl)

-- a name has no bytes exactly where there is none
unnamed-size : (m : Name) → is_unnamed m ≡ true → name_size m ≡ 0
unfolding is_unnamed name_size
unnamed-size unnamed e = refl
unnamed-size (named x) e = impossible e

size-unnamed : (m : Name) → name_size m ≡ 0 → is_unnamed m ≡ true
unfolding is_unnamed name_size
size-unnamed unnamed e = refl
size-unnamed (named x) e = absurd (omega arith)

-- no descriptors have no bytes
no_bytes : (f : Forest) → forest_length f ≡ 0 → forest_size f ≡ 0
unfolding forest_length forest_size
no_bytes nil e = refl
no_bytes (cons t f) e = absurd (omega arith)

-- the fields of a plain code, of a cluster and of a time stamp
module _ (s : List ℕ) (p at stop : ℕ) where
  plain-empty : Holds (λ q b. b ≡ empty) (fields_at plain s p at stop)
  plain-empty = rw (plain-fields s p at stop) (found refl)

  cluster-members : Holds (λ q b. b ≡ members (be s at 2)) (fields_at cluster s p at stop)
  cluster-members = rw (cluster-fields s p at stop) (holds-and_then (count_fits s at stop count_limit) (λ last k c. found (ap members c.word)))

  stamp-subtype : Holds (λ q b. b ≡ subtype) (fields_at stamp s p at stop)
  stamp-subtype = rw (stamp-fields s p at stop) (holds-require (leb (at + 2) stop) _ _ (λ _. holds-require (eqb (be s at 2) stamp_subtype) _ _ (λ _. found refl)))

-- a descriptor that stands at p
module _ (s : List ℕ) (p q c : ℕ) (b : Fields) (f : Forest) (m : Name) (e : standing s p ≡ read q (node c b f m)) where
  abbrev opened : Opened s p q c b f m
  opened = open-standing s p q c b f m e

  -- its size
  size_is : size_in s p ≡ header_size + fields_size b + forest_size f + name_size m
  unfolding tree_size
  size_is = omega (arith, opened.size, (standing-ends s p q (node c b f m) e).at)

  -- it lies in the bytes
  pub standing-lies : Lies s p
  standing-lies = record { header = omega (arith, opened.size, opened.least, opened.inside); whole = omega (arith, opened.size, opened.inside) }

  fields-by : (k : Kind) → kind_of c ≡ k → fields_at k s p (body_at p) q ≡ read (inside_at p b) b
  fields-by k ek = ap (λ (j : Kind). fields_at j s p (body_at p) q) (sym ek) ∙ opened.fields

  -- of a plain code it has nothing but a name
  plain_size : kind_of c ≡ plain → size_in s p ≡ header_size + name_size m
  unfolding fields_size child_count
  plain_size ek =
      let is : b ≡ empty = holds_read (fields-by plain ek) (plain-empty s p (body_at p) q) in
      let none : forest_length f ≡ 0 = opened.count ∙ ap child_count is in
      let nobody : fields_size b ≡ 0 = ap fields_size is in
      omega (arith, size_is, no_bytes f none)

module _ (s : List ℕ) where
  -- unnamed descriptors of plain codes, by what was read
  there : (cs : List ℕ) → AllPlain cs → (k p r : ℕ) (f : Forest) → p ≤ length s → standing_row s k p ≡ read r f → are_unnamed cs f ≡ true
      → (bares_at s cs p ≡ true) × ((forest_size f ≡ header_size * length cs) × (k ≡ length cs))
  unfolding AllPlain are_unnamed bares_at forest_size forest_length
  there [] plains k p r nil inside e u = (refl, (omega arith, sym (row_ends s k p r nil inside e).1))
  there [] plains k p r (cons t f) inside e u = impossible u
  there (c ∷ cs) plains k p r nil inside e u = impossible u
  there (c ∷ cs) plains zero p r (cons (node d b g m) f) inside e u = absurd (omega (arith, (row_ends s zero p r (cons (node d b g m) f) inside e).1))
  there (c ∷ cs) plains (suc k) p r (cons (node d b g m) f) inside e u =
      let parts = and-true (eqb d c) (is_unnamed m && are_unnamed cs f) u in
      let rest = and-true (is_unnamed m) (are_unnamed cs f) parts.1 in
      let row = row_first s k p r (node d b g m) f e in
      let code : d ≡ c = eqb-true d c parts.0 in
      let ends = standing-ends s p _ (node d b g m) row.0 in
      let size : size_in s p ≡ header_size = plain_size s p _ d b g m row.0 (ap kind_of code ∙ plains.0) ∙ omega (arith, unnamed-size m rest.0) in
      let o = open-standing s p _ d b g m row.0 in
      let whole : tree_size (node d b g m) ≡ header_size = omega (arith, o.size, size) in
      let others = there cs plains.1 k (p + header_size) r f (omega (arith, o.inside, o.size, size)) (ap (λ (n : ℕ). standing_row s k (p + n)) (sym whole) ∙ row.1) rest.1 in
      (both_true (both_true (eq-eqb _ _ size) (eq-eqb _ _ (sym o.code ∙ code))) others.0, (omega (arith, whole, others.1.0), omega (arith, others.1.1)))

  -- and by the bytes
  back : (cs : List ℕ) → AllPlain cs → (p r : ℕ) (f : Forest) → p ≤ length s → standing_row s (length cs) p ≡ read r f → bares_at s cs p ≡ true
      → (are_unnamed cs f ≡ true) × (forest_size f ≡ header_size * length cs)
  unfolding AllPlain are_unnamed bares_at forest_size forest_length
  back [] plains p r nil inside e u = (refl, omega arith)
  back [] plains p r (cons t f) inside e u = absurd (omega (arith, (row_ends s 0 p r (cons t f) inside e).1))
  back (c ∷ cs) plains p r nil inside e u = absurd (omega (arith, (row_ends s (suc (length cs)) p r nil inside e).1))
  back (c ∷ cs) plains p r (cons (node d b g m) f) inside e u =
      let parts = and-true (bare_at s c p) (bares_at s cs (p + header_size)) u in
      let bare = and-true (eqb (size_in s p) header_size) (eqb (code_in s p) c) parts.0 in
      let row = row_first s (length cs) p r (node d b g m) f e in
      let o = open-standing s p _ d b g m row.0 in
      let size : size_in s p ≡ header_size = eqb-true _ _ bare.0 in
      let code : d ≡ c = o.code ∙ eqb-true _ _ bare.1 in
      let whole : tree_size (node d b g m) ≡ header_size = omega (arith, o.size, size) in
      let alone : name_size m ≡ 0 = omega (arith, plain_size s p _ d b g m row.0 (ap kind_of code ∙ plains.0), size) in
      let others = back cs plains.1 (p + header_size) r f (omega (arith, o.inside, o.size, size)) (ap (λ (n : ℕ). standing_row s (length cs) (p + n)) (sym whole) ∙ row.1) parts.1 in
      (both_true (eq-eqb _ _ code) (both_true (size-unnamed m alone) others.0), omega (arith, whole, others.1))

  -- what stands at p is the cluster of a time stamp exactly where its bytes say so
  cluster-same : (p q : ℕ) (t : Tree) → standing s p ≡ read q t → is_stamp_cluster t ≡ stamp_at s p
  unfolding is_stamp_cluster stamp_at kind_of child_count fields_size
  cluster-same p q (node c b f m) e = same_test _ _ forth again
    where
      o : Opened s p q c b f m
      o = open-standing s p q c b f m e

      -- the body of a cluster
      body : c ≡ cluster_code → b ≡ members (be s (body_at p) 2)
      body code = holds_read (fields-by s p q c b f m e cluster (ap kind_of code)) (cluster-members s p (body_at p) q)

      inner : c ≡ cluster_code → standing_row s (be s (body_at p) 2) (body_at p + 2) ≡ read (inside_at p b + forest_size f) f
      inner code = ap (λ (x : Fields). standing_row s (child_count x) (inside_at p x)) (sym (body code)) ∙ o.children

      two : c ≡ cluster_code → fields_size b ≡ 2
      two code = ap fields_size (body code)

      forth : (eqb c cluster_code && (are_unnamed stamp_codes f && is_unnamed m)) ≡ true
          → (eqb (size_in s p) stamp_cluster_size && (eqb (code_in s p) cluster_code && (eqb (be s (body_at p) 2) 4 && bares_at s stamp_codes (body_at p + 2)))) ≡ true
      forth u =
          let parts = and-true (eqb c cluster_code) (are_unnamed stamp_codes f && is_unnamed m) u in
          let rest = and-true (are_unnamed stamp_codes f) (is_unnamed m) parts.1 in
          let code : c ≡ cluster_code = eqb-true _ _ parts.0 in
          let inside : body_at p + 2 ≤ length s = omega (arith, o.body, o.inside, two code) in
          let found = there stamp_codes stamp-plain (be s (body_at p) 2) (body_at p + 2) _ f inside (inner code) rest.0 in
          let size : size_in s p ≡ stamp_cluster_size = size_is s p q c b f m e ∙ omega (arith, two code, found.1.0, unnamed-size m rest.1) in
          both_true (eq-eqb _ _ size) (both_true (eq-eqb _ _ (sym o.code ∙ code)) (both_true (eq-eqb _ _ found.1.1) found.0))

      again : (eqb (size_in s p) stamp_cluster_size && (eqb (code_in s p) cluster_code && (eqb (be s (body_at p) 2) 4 && bares_at s stamp_codes (body_at p + 2)))) ≡ true
          → (eqb c cluster_code && (are_unnamed stamp_codes f && is_unnamed m)) ≡ true
      again u =
          let first = and-true (eqb (size_in s p) stamp_cluster_size) (eqb (code_in s p) cluster_code && (eqb (be s (body_at p) 2) 4 && bares_at s stamp_codes (body_at p + 2))) u in
          let second = and-true (eqb (code_in s p) cluster_code) (eqb (be s (body_at p) 2) 4 && bares_at s stamp_codes (body_at p + 2)) first.1 in
          let third = and-true (eqb (be s (body_at p) 2) 4) (bares_at s stamp_codes (body_at p + 2)) second.1 in
          let code : c ≡ cluster_code = o.code ∙ eqb-true _ _ second.0 in
          let four : be s (body_at p) 2 ≡ 4 = eqb-true _ _ third.0 in
          let inside : body_at p + 2 ≤ length s = omega (arith, o.body, o.inside, two code) in
          let found = back stamp_codes stamp-plain (body_at p + 2) _ f inside (ap (λ (n : ℕ). standing_row s n (body_at p + 2)) (sym four) ∙ inner code) third.1 in
          let size : size_in s p ≡ stamp_cluster_size = eqb-true _ _ first.0 in
          let alone : name_size m ≡ 0 = omega (arith, size_is s p q c b f m e, size, two code, found.1) in
          both_true (eq-eqb _ _ code) (both_true found.0 (size-unnamed m alone))

  -- one descriptor alone
  one-alone : (p r : ℕ) (f : Forest) → standing_row s 1 p ≡ read r f → is_stamp_inside f ≡ stamp_at s p
  unfolding is_stamp_inside
  one-alone p r f e =
      let row = row-split s 0 p r f e in
      let none : row.others ≡ nil = let z : read (p + tree_size row.tree) nil ≡ read r row.others = sym (row-none s (p + tree_size row.tree)) ∙ row.rest in sym cc in
      let is : f ≡ cons row.tree nil = row.is ∙ ap (λ (g : Forest). cons row.tree g) none in
      ap is_stamp_inside is ∙ cluster-same p _ row.tree row.first

  -- what stands inside a descriptor, of which a time stamp has one
  pub inside-same : (k : Kind) (n p r : ℕ) (f : Forest) → (is_stamp k ≡ true → n ≡ 1) → standing_row s n p ≡ read r f
      → inside_fits k f ≡ (not (is_stamp k) || stamp_at s p)
  inside-same k n p r f one e = go (is_stamp k) one
    where
      go : (i : Bool) → (i ≡ true → n ≡ 1) → (not i || is_stamp_inside f) ≡ (not i || stamp_at s p)
      go false h = refl
      go true h = one-alone p r f (ap (λ (j : ℕ). standing_row s j p) (sym (h refl)) ∙ e)

  -- where it stands, it lies in the bytes
  pub inside-lies : (p r : ℕ) (f : Forest) → standing_row s 1 p ≡ read r f → Lies s p
  inside-lies p r f e =
      let row = row-split s 0 p r f e in
      lies row.tree row.first
    where
      lies : (t : Tree) → {q : ℕ} → standing s p ≡ read q t → Lies s p
      lies (node c b g m) h = standing-lies s p _ c b g m h

  -- a time stamp's fields tell of one descriptor
  pub stamp-one : (k : Kind) (p at stop q : ℕ) (b : Fields) → is_stamp k ≡ true → fields_at k s p at stop ≡ read q b → child_count b ≡ 1
  unfolding child_count
  stamp-one k p at stop q b i e = ap child_count (is k i e)
    where
      is : (k : Kind) → is_stamp k ≡ true → fields_at k s p at stop ≡ read q b → b ≡ subtype
      is stamp i e = holds_read e (stamp-subtype s p at stop)
      is plain i e = impossible i
      is Kind.enumeration i e = impossible i
      is Kind.quantity i e = impossible i
      is Kind.string i e = impossible i
      is Kind.array i e = impossible i
      is cluster i e = impossible i
      is Kind.unknown i e = impossible i
