-- What a type that stands in accepted bytes is made of, and the types of a row one by one: the kind of its code has its fields, and every
-- token of it takes at least one byte. Rests on the descriptor crate's laws of what stands inside accepted bytes.
use mathlib.Core.Path.{◌≡◌, refl, sym, ap, ◌∙◌}
use mathlib.Core.Bool.{true}
use mathlib.Core.List.{List}
use Prim.Native.Nat.{ℕ, zero, suc, ◌+◌, ◌-◌, ◌<◌, ◌≤◌}
use native.Mathlib.Omega.{arith}
use lib.Dec.{leb, eqb}
use lib.ListN.{length}
use Rattle.descriptor.specs.Limits.{dimension_limit, pair_limit, count_limit}
use Rattle.descriptor.specs.Codes.{Kind, plain, enumeration, quantity, string, array, cluster, stamp, unknown, kind_of}
use Rattle.descriptor.specs.Header.{body_at, size_in, code_in}
use Rattle.descriptor.specs.Tree.{Name, Fields, empty, items, pairs, text, dimensions, members, subtype, Tree, node, Forest, nil, cons, count_of, child_count, inside_at, tree_size, forest_length, height, forest_height}
use Rattle.number.specs.Endian.{be}
use Rattle.descriptor.specs.Stamp.{stamp_subtype}
use Rattle.descriptor.specs.Outcome.{Outcome, refused, read, and_then}
use Rattle.descriptor.specs.Check.{count_at, run_at, items_at, fields_read, contents_at, filled_at, fields_at, members_at}
use Rattle.descriptor.specs.inner.Standing.{standing, standing_row, is_read, next_of, forest_of, fields_of, contents_start, inside_of, Stands}
use Rattle.descriptor.proofs.Outcomes.{Holds, nothing, found, holds_read, holds-self, holds-require, holds-and_then}
use Rattle.descriptor.proofs.Sizes.{count_fits, run_fits}
use Rattle.descriptor.proofs.Bodies.{seen, header-room}
use Rattle.descriptor.proofs.Steps.{impossible}
use Rattle.descriptor.proofs.Standing.{open-standing, standing-ends, row-split, row_first, row_ends}
use Rattle.flattened.specs.inner.Types.{type_of, type_at, types_at, TypeStands, RowStands, fields_kind, SolidFields, Solid, AllSolid}
use Rattle.flattened.proofs.Codes.{is_measured, some-width}

-- the fields are those of the kind, and none of the counts that the walk goes by is 0
unfoldable pub Counted : Fields → Type 0
Counted empty = Unit {0}
Counted (items xs) = Unit {0}
Counted (pairs ps) = Unit {0}
Counted text = Unit {0}
Counted (dimensions k) = (1 ≤ k) × (k ≤ dimension_limit)
Counted (members k) = 1 ≤ k
Counted subtype = Unit {0}

read-kind : (k : Kind) (s : List ℕ) (p at stop : ℕ) → Holds (λ q b. (fields_kind b ≡ k) × Counted b) (fields_read k s p at stop)
unfolding fields_read fields_kind Counted
read-kind plain s p at stop = found (refl, tt)
read-kind enumeration s p at stop =
    holds-and_then (holds-self (count_at s at stop count_limit)) (λ next k _. holds-and_then (holds-self (items_at s stop k next)) (λ _ xs _. found (refl, tt)))
read-kind quantity s p at stop = holds-and_then (holds-self (run_at s at stop pair_limit)) (λ _ k _. found (refl, tt))
read-kind string s p at stop = holds-require (leb (at + 4) stop) _ _ (λ _. found (refl, tt))
read-kind array s p at stop = holds-and_then (run_fits s at stop dimension_limit) (λ _ k fits. found (refl, (fits.least, fits.limit)))
read-kind cluster s p at stop = holds-and_then (count_fits s at stop count_limit) (λ _ k fits. found (refl, fits.least))
read-kind stamp s p at stop = holds-require (leb (at + 2) stop) _ _ (λ _. holds-require (eqb (be s at 2) stamp_subtype) _ _ (λ _. found (refl, tt)))
read-kind unknown s p at stop = nothing

fields-kind : (k : Kind) (s : List ℕ) (p at stop : ℕ) → Holds (λ q b. (fields_kind b ≡ k) × Counted b) (fields_at k s p at stop)
unfolding fields_at
fields-kind k s p at stop =
    holds-and_then (read-kind k s p at stop) (λ next b e.
    holds-and_then (holds-self (contents_at s at b)) (λ _ _ _. holds-and_then (holds-self (filled_at s p stop next b)) (λ last _ _. found e)))

-- the fields of a kind whose counts are not 0, and as many descriptors inside as they say
fields-solid : (c : ℕ) (b : Fields) (f : Forest) → fields_kind b ≡ kind_of c → Counted b → forest_length f ≡ child_count b → SolidFields c b f
unfolding fields_kind Counted SolidFields child_count is_measured
fields-solid c empty f e counted many = some-width c (sym (ap is_measured e))
fields-solid c (items xs) f e counted many = some-width c (sym (ap is_measured e))
fields-solid c (pairs ps) f e counted many = some-width c (sym (ap is_measured e))
fields-solid c text f e counted many = tt
fields-solid c (dimensions k) f e counted many = (counted.0, omega arith)
fields-solid c (members k) f e counted many = omega arith
fields-solid c subtype f e counted many = omega arith

module _ (d : List ℕ) where
  -- a type that stands somewhere
  standing-kind : (p q c : ℕ) (b : Fields) (f : Forest) (m : Name) → standing d p ≡ read q (node c b f m) → (fields_kind b ≡ kind_of c) × Counted b
  standing-kind p q c b f m e = let o = open-standing d p q c b f m e in holds_read o.fields (fields-kind (kind_of c) d p (body_at p) q)

  mutual
    unfolding Solid forest_length

    -- is solid
    pub standing-solid : (t : Tree) (p q : ℕ) → standing d p ≡ read q t → Solid t
    standing-solid (node c b f m) p q e =
        let o = open-standing d p q c b f m e in
        let kind = standing-kind p q c b f m e in
        (fields-solid c b f kind.0 kind.1 o.count, row-solid f (child_count b) (inside_at p b) _ (omega (arith, o.body, o.inside)) o.children)

    -- and so are types in a row
    pub row-solid : (f : Forest) (k p r : ℕ) → p ≤ length d → standing_row d k p ≡ read r f → AllSolid f
    row-solid nil k p r inside e = tt
    row-solid (cons t f) zero p r inside e = absurd (omega (arith, (row_ends d zero p r (cons t f) inside e).1))
    row-solid (cons t f) (suc k) p r inside e =
        let first = row_first d k p r t f e in
        (standing-solid t p _ first.0, row-solid f k _ r (standing-ends d p _ t first.0).within first.1)

-- what was read
pub type-read : (o : Outcome Tree) → is_read o ≡ true → o ≡ read (next_of o) (type_of o)
unfolding is_read next_of type_of
type-read (refused number place) e = impossible e
type-read (read next t) e = refl

pub row_read-is : (o : Outcome Forest) → is_read o ≡ true → o ≡ read (next_of o) (forest_of o)
unfolding is_read next_of forest_of
row_read-is (refused number place) e = impossible e
row_read-is (read next f) e = refl

-- what the type that stands at p is made of
pub record TypeMade (d : List ℕ) (p : ℕ) : Type 0 where
  pub code : ℕ
  pub fields : Fields
  pub inner : Forest
  pub name : Name
  pub tree : type_at d p ≡ node code fields inner name
  pub coded : code ≡ code_in d p
  pub kind : fields_kind fields ≡ kind_of (code_in d p)
  pub counted : Counted fields
  pub fits : inside_at p fields ≤ length d
  -- what stands inside it, as the code reads it
  pub inside : inside_of d p ≡ record { at = contents_start p fields; count = count_of fields; children = child_count fields }
  pub row : is_read (standing_row d (child_count fields) (inside_at p fields)) ≡ true
  pub types : types_at d (child_count fields) (inside_at p fields) ≡ inner

pub type-made : (d : List ℕ) (p : ℕ) → Stands d p → TypeMade d p
unfolding type_of is_read forest_of fields_of inside_of
type-made d p here =
    let it = seen d p here.is in
    let o = it.opened in
    let kind = standing-kind d p it.end it.code it.fields it.inside it.name it.eq in
    record {
      code = it.code;
      fields = it.fields;
      inner = it.inside;
      name = it.name;
      tree = ap type_of it.eq;
      coded = o.code;
      kind = kind.0 ∙ ap kind_of o.code;
      counted = kind.1;
      fits = omega (arith, o.body, o.inside);
      inside =
          ap (λ (b : Fields). record { at = contents_start p b; count = count_of b; children = child_count b }) (ap fields_of it.eq);
      row = ap is_read o.children;
      types = ap forest_of o.children;
    }

module _ (d : List ℕ) (p left : ℕ) (type : TypeStands d p left) where
  made : TypeMade d p
  made = type-made d p type.here

  low : suc (forest_height made.inner) ≤ left
  unfolding height
  low = rw made.tree at type.low

  -- it takes one of the levels that are left
  pub type-deep : 0 < left
  type-deep = omega (arith, low)

  -- the types inside it have the others
  pub type-inside : RowStands d (child_count (type-made d p type.here).fields) (inside_at p (type-made d p type.here).fields) (left - 1)
  unfolding made
  type-inside = record { are = made.row; from = made.fits; small = type.here.small; low = rw made.types (omega (arith, low)) }

  -- its bytes lie in the list
  pub type-size : p + tree_size (type_at d p) ≤ length d
  type-size =
      let ends = standing-ends d p _ (type_at d p) (type-read (standing d p) type.here.is) in
      omega (arith, ends.at, ends.within)

  -- every token of it takes at least one byte
  pub type-solid : Solid (type_at d p)
  type-solid = standing-solid d (type_at d p) p _ (type-read (standing d p) type.here.is)

-- the first of k + 1 types in a row from p on, and the others
pub record RowTurn (d : List ℕ) (k p left : ℕ) : Type 0 where
  pub first : TypeStands d p left
  pub rest : RowStands d k (p + size_in d p) left
  pub types : types_at d (suc k) p ≡ cons (type_at d p) (types_at d k (p + size_in d p))
  -- the first's bytes
  pub size : tree_size (type_at d p) ≡ size_in d p
  pub within : p + size_in d p ≤ length d

module _ (d : List ℕ) (k p left : ℕ) (row : RowStands d (suc k) p left) where
  turn-of : (c : ℕ) (b : Fields) (f : Forest) (m : Name) (others : Forest) (r : ℕ) → types_at d (suc k) p ≡ cons (node c b f m) others
      → standing d p ≡ read (p + tree_size (node c b f m)) (node c b f m) → standing_row d k (p + tree_size (node c b f m)) ≡ read r others
      → RowTurn d k p left
  unfolding type_of is_read forest_of height
  turn-of c b f m others r is e es =
      let o = open-standing d p _ c b f m e in
      let sized : tree_size (node c b f m) ≡ size_in d p = omega (arith, o.size) in
      let tree : type_at d p ≡ node c b f m = ap type_of e in
      let after : standing_row d k (p + size_in d p) ≡ read r others = ap (λ (n : ℕ). standing_row d k (p + n)) (sym sized) ∙ es in
      let low : forest_height (cons (node c b f m) others) ≤ left = rw is at row.low in
      let rest : types_at d k (p + size_in d p) ≡ others = ap forest_of after in
      record {
        first = record { here = record { is = ap is_read e; small = row.small }; low = rw tree (omega arith) };
        rest = record { are = ap is_read after; from = omega (arith, o.size, o.inside); small = row.small; low = rw rest (omega arith) };
        types = is ∙ λ i. cons (sym tree i) (sym rest i);
        size = ap tree_size tree ∙ sized;
        within = omega (arith, o.size, o.inside);
      }

  turn-tree : (t : Tree) (others : Forest) (r : ℕ) → types_at d (suc k) p ≡ cons t others → standing d p ≡ read (p + tree_size t) t
      → standing_row d k (p + tree_size t) ≡ read r others → RowTurn d k p left
  turn-tree (node c b f m) others r is e es = turn-of c b f m others r is e es

  pub row-turn : RowTurn d k p left
  row-turn =
      let s = row-split d k p _ _ (row_read-is (standing_row d (suc k) p) row.are) in
      turn-tree s.tree s.others _ s.is s.first s.rest

-- every token of the types in a row takes at least one byte
pub types-solid : (d : List ℕ) (k p left : ℕ) → RowStands d k p left → AllSolid (types_at d k p)
types-solid d k p left row = row-solid d (types_at d k p) k p _ row.from (row_read-is (standing_row d k p) row.are)

-- one type is a row of one
row-of-one : (o : Outcome Tree) → is_read o ≡ true → and_then o (λ q t. and_then (read q nil) (λ r ts. read r (cons t ts))) ≡ read (next_of o) (cons (type_of o) nil)
unfolding is_read next_of type_of
row-of-one (refused number place) e = impossible e
row-of-one (read next t) e = refl

pub alone : (d : List ℕ) (p left : ℕ) → TypeStands d p left → RowStands d 1 p left × (types_at d 1 p ≡ cons (type_at d p) nil)
unfolding standing_row members_at is_read forest_of forest_height
alone d p left type =
    let e : standing_row d 1 p ≡ read (next_of (standing d p)) (cons (type_at d p) nil) = row-of-one (standing d p) type.here.is in
    let types : types_at d 1 p ≡ cons (type_at d p) nil = ap forest_of e in (
      record { are = ap is_read e; from = omega (arith, header-room d p type.here); small = type.here.small; low = rw types (omega (arith, type.low)) },
      types,
    )
