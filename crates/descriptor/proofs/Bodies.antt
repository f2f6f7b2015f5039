-- What stands inside an accepted descriptor, by its count word alone: what was read and judged agrees with it. Rests on `Standing`.
use mathlib.Core.Path.{◌≡◌, refl, ap, sym, ◌∙◌}
use mathlib.Core.Bool.{Bool, true, false}
use mathlib.Core.List.{List}
use Prim.Native.Nat.{ℕ, ◌+◌, ◌-◌, ◌*◌, ◌%◌, ◌≤◌}
use native.Mathlib.Omega.{arith}
use lib.Dec.{leb, eqb}
use lib.ListN.{length}
use Rattle.number.specs.Endian.{be}
use Rattle.descriptor.specs.Limits.{count_limit, pair_limit, dimension_limit}
use Rattle.descriptor.specs.Codes.{Kind, plain, enumeration, quantity, string, array, cluster, stamp, unknown, kind_of}
use Rattle.descriptor.specs.Header.{body_at, code_in}
use Rattle.descriptor.specs.Tree.{Name, Fields, empty, items, pairs, text, dimensions, members, subtype, Tree, node, Forest, count_of, child_count, inside_at, items_size, fields_size}
use Rattle.descriptor.specs.Stamp.{stamp_subtype}
use Rattle.descriptor.specs.Outcome.{Outcome, refused, read}
use Rattle.descriptor.specs.Check.{count_at, run_at, items_at, pairs_at, fields_read, contents_at, filled_at, fields_at}
use Rattle.descriptor.specs.inner.Steps.{is_enumeration}
use Rattle.descriptor.specs.inner.Standing.{standing, is_read, fields_of, contents_start, leaf_inside, inside_of, shape_of, Stands}
use Rattle.descriptor.specs.declared.inside.Inside.{Inside}
use Rattle.descriptor.proofs.Outcomes.{Holds, nothing, found, holds_read, holds-require, holds-and_then, holds-self, holds-both}
use Rattle.descriptor.proofs.Sizes.{count_fits, run_fits, items-end, length-pairs_at}
use Rattle.descriptor.proofs.Standing.{Opened, open-standing}
use Rattle.descriptor.proofs.Steps.{impossible}

-- the descriptor that stands at p: its end and its parts
pub record Seen (s : List ℕ) (p : ℕ) : Type 0 where
  pub end : ℕ
  pub code : ℕ
  pub fields : Fields
  pub inside : Forest
  pub name : Name
  pub eq : standing s p ≡ read end (node code fields inside name)
  pub opened : Opened s p end code fields inside name

pub seen : (s : List ℕ) (p : ℕ) → is_read (standing s p) ≡ true → Seen s p
unfolding is_read
seen s p h = go (standing s p) refl h
  where
    go : (o : Outcome Tree) → standing s p ≡ o → is_read o ≡ true → Seen s p
    go (refused number place) e q = impossible q
    go (read q (node c b f m)) e _ =
        record { end = q; code = c; fields = b; inside = f; name = m; eq = e; opened = open-standing s p q c b f m e }

-- whether a body of the kind starts with a count
unfoldable pub has_count : Kind → Bool
has_count plain = false
has_count enumeration = true
has_count quantity = true
has_count string = false
has_count array = true
has_count cluster = true
has_count stamp = false
has_count unknown = false

-- what a body of the kind that starts at `at` has in it, by its count word
unfoldable pub inside_by : Kind → List ℕ → ℕ → Inside
inside_by plain s at = leaf_inside at
inside_by enumeration s at = record { at = at + 2; count = be s at 2; children = 0 }
inside_by quantity s at = record { at = at + 2 + 4 * be s at 2; count = be s at 2; children = 0 }
inside_by string s at = leaf_inside (at + 4)
inside_by array s at = record { at = at + 2 + 4 * be s at 2; count = be s at 2; children = 1 }
inside_by cluster s at = record { at = at + 2; count = be s at 2; children = be s at 2 }
inside_by stamp s at = record { at = at + 2; count = 0; children = 1 }
inside_by unknown s at = leaf_inside at

-- what the fields of the descriptor at p have in them
abbrev pub inside_fields : ℕ → Fields → Inside
inside_fields p b = record { at = contents_start p b; count = count_of b; children = child_count b }

module _ (s : List ℕ) (p stop : ℕ) (within : stop ≤ length s) where
  -- what was read agrees with the count word, which lies within the descriptor
  pub record Agrees (k : Kind) (b : Fields) : Type 0 where
    pub same : inside_fields p b ≡ inside_by k s (body_at p)
    pub word : has_count k ≡ true → body_at p + 2 ≤ stop

  read-agrees : (k : Kind) → Holds (λ q b. Agrees k b) (fields_read k s p (body_at p) stop)
  unfolding fields_read contents_start count_of child_count fields_size inside_by has_count
  read-agrees plain = found (record { same = let z : inside_at p empty ≡ body_at p = omega arith in ap (λ (n : ℕ). leaf_inside n) z; word = λ e. impossible e })
  read-agrees enumeration =
      holds-and_then (count_fits s (body_at p) stop count_limit) (λ next k c.
      holds-and_then (items-end s p stop within k next c.within) (λ last xs i.
      let n : length xs ≡ be s (body_at p) 2 = i.1 ∙ c.word in
      found (record { same = λ j. record { at = body_at p + 2; count = n j; children = 0 }; word = λ _. omega (arith, c.next, c.within) })))
  read-agrees quantity =
      holds-and_then (run_fits s (body_at p) stop pair_limit) (λ last k r.
      let n : length (pairs_at s k (body_at p + 2)) ≡ be s (body_at p) 2 = length-pairs_at s k (body_at p + 2) ∙ r.word in
      let z : (j : ℕ) → body_at p + (2 + 4 * j) ≡ body_at p + 2 + 4 * j = λ j. omega arith in
      found (record {
        same = λ i. record { at = (z (length (pairs_at s k (body_at p + 2))) ∙ ap (λ (j : ℕ). body_at p + 2 + 4 * j) n) i; count = n i; children = 0 };
        word = λ _. omega (arith, r.next, r.within);
      }))
  read-agrees string = holds-require (leb (body_at p + 4) stop) _ _ (λ _. found (record { same = refl; word = λ e. impossible e }))
  read-agrees array =
      holds-and_then (run_fits s (body_at p) stop dimension_limit) (λ last k r.
      let z : (j : ℕ) → body_at p + (2 + 4 * j) ≡ body_at p + 2 + 4 * j = λ j. omega arith in
      found (record {
        same = λ i. record { at = (z k ∙ ap (λ (j : ℕ). body_at p + 2 + 4 * j) r.word) i; count = r.word i; children = 1 };
        word = λ _. omega (arith, r.next, r.within);
      }))
  read-agrees cluster =
      holds-and_then (count_fits s (body_at p) stop count_limit) (λ last k c.
      found (record { same = λ i. record { at = body_at p + 2; count = c.word i; children = c.word i }; word = λ _. omega (arith, c.next, c.within) }))
  read-agrees stamp =
      holds-require (leb (body_at p + 2) stop) _ _ (λ _.
      holds-require (eqb (be s (body_at p) 2) stamp_subtype) _ _ (λ _. found (record { same = refl; word = λ e. impossible e })))
  read-agrees unknown = nothing

  pub fields-agree : (k : Kind) → Holds (λ q b. Agrees k b) (fields_at k s p (body_at p) stop)
  unfolding fields_at
  fields-agree k =
      holds-and_then (read-agrees k) (λ next b a.
      holds-and_then (holds-self (contents_at s (body_at p) b)) (λ _ _ _. holds-and_then (holds-self (filled_at s p stop next b)) (λ last _ _. found a)))

  -- an enumeration's items, where they were read
  pub record ItemsSeen (b : Fields) : Type 0 where
    pub last : ℕ
    pub all : List (List ℕ)
    pub is : b ≡ items all
    pub eq : items_at s stop (be s (body_at p) 2) (body_at p + 2) ≡ read last all
    pub ends : last ≡ body_at p + 2 + items_size all
    pub room : body_at p + 2 ≤ stop

  pub items-seen : Holds (λ q b. ItemsSeen b) (fields_at enumeration s p (body_at p) stop)
  unfolding fields_at fields_read
  items-seen =
      holds-and_then
      (holds-and_then (count_fits s (body_at p) stop count_limit) (λ next k c.
      holds-and_then (holds-both (items-end s p stop within k next c.within) (holds-self (items_at s stop k next))) (λ last xs i.
      found {P = λ q b. ItemsSeen b} (record {
        last = last;
        all = xs;
        is = refl;
        eq = (λ j. items_at s stop (sym c.word j) (sym c.next j)) ∙ i.1;
        ends = omega (arith, i.0.0.at, c.next);
        room = omega (arith, c.next, c.within);
      })))) (λ next b a.
      holds-and_then (holds-self (contents_at s (body_at p) b)) (λ _ _ _. holds-and_then (holds-self (filled_at s p stop next b)) (λ last _ _. found a)))

-- fields without items are as long as their words say
unfoldable is_items : Fields → Bool
is_items empty = false
is_items (items xs) = true
is_items (pairs ps) = false
is_items text = false
is_items (dimensions k) = false
is_items (members k) = false
is_items subtype = false

starts-same : (p : ℕ) (b : Fields) → is_items b ≡ false → contents_start p b ≡ inside_at p b
unfolding is_items contents_start
starts-same p empty e = refl
starts-same p (items xs) e = impossible (sym e)
starts-same p (pairs ps) e = refl
starts-same p text e = refl
starts-same p (dimensions k) e = refl
starts-same p (members k) e = refl
starts-same p subtype e = refl

read-items : (k : Kind) (s : List ℕ) (p at stop : ℕ) → Holds (λ q b. is_items b ≡ is_enumeration k) (fields_read k s p at stop)
unfolding fields_read is_items
read-items plain s p at stop = found refl
read-items enumeration s p at stop =
    holds-and_then (holds-self (count_at s at stop count_limit)) (λ next k _. holds-and_then (holds-self (items_at s stop k next)) (λ _ xs _. found refl))
read-items quantity s p at stop = holds-and_then (holds-self (run_at s at stop pair_limit)) (λ _ k _. found refl)
read-items string s p at stop = holds-require (leb (at + 4) stop) _ _ (λ _. found refl)
read-items array s p at stop = holds-and_then (holds-self (run_at s at stop dimension_limit)) (λ _ k _. found refl)
read-items cluster s p at stop = holds-and_then (holds-self (count_at s at stop count_limit)) (λ _ k _. found refl)
read-items stamp s p at stop = holds-require (leb (at + 2) stop) _ _ (λ _. holds-require (eqb (be s at 2) stamp_subtype) _ _ (λ _. found refl))
read-items unknown s p at stop = nothing

fields-items : (k : Kind) (s : List ℕ) (p at stop : ℕ) → Holds (λ q b. is_items b ≡ is_enumeration k) (fields_at k s p at stop)
unfolding fields_at
fields-items k s p at stop =
    holds-and_then (read-items k s p at stop) (λ next b a.
    holds-and_then (holds-self (contents_at s at b)) (λ _ _ _. holds-and_then (holds-self (filled_at s p stop next b)) (λ last _ _. found a)))

module _ (s : List ℕ) (p : ℕ) (st : Stands s p) where
  abbrev pub it : Seen s p
  it = seen s p st.is

  fields-are : fields_of (standing s p) ≡ it.fields
  unfolding fields_of
  fields-are = ap fields_of it.eq

  agreed : Agrees s p it.end it.opened.inside (kind_of it.code) it.fields
  agreed = holds_read it.opened.fields (fields-agree s p it.end it.opened.inside (kind_of it.code))

  -- the header lies in the bytes
  pub header-room : body_at p ≤ length s
  header-room = omega (arith, it.opened.size, it.opened.least, it.opened.inside)

  module _ (k : Kind) (ek : k ≡ kind_of (code_in s p)) where
    same_kind : k ≡ kind_of it.code
    same_kind = ek ∙ ap kind_of (sym it.opened.code)

    -- what stands inside, by the count word
    pub inside_is : inside_by k s (body_at p) ≡ inside_of s p
    unfolding inside_of
    inside_is =
        ap (λ (j : Kind). inside_by j s (body_at p)) same_kind ∙ sym agreed.same ∙ ap (λ (b : Fields). inside_fields p b) (sym fields-are)

    -- which lies in the bytes
    pub word_room : has_count k ≡ true → body_at p + 2 ≤ length s
    word_room h = let w = agreed.word (ap has_count (sym same_kind) ∙ h) in omega (arith, it.opened.inside)

    -- the first byte after the fields is the same where there are no items
    pub shape_same : is_enumeration k ≡ false → inside_of s p ≡ shape_of s p
    unfolding inside_of shape_of
    shape_same h =
        let none : is_items (fields_of (standing s p)) ≡ false =
        ap is_items fields-are ∙ holds_read it.opened.fields (fields-items (kind_of it.code) s p (body_at p) it.end) ∙ ap is_enumeration (sym same_kind) ∙ h in
        λ i. record {
          at = starts-same p (fields_of (standing s p)) none i;
          count = count_of (fields_of (standing s p));
          children = child_count (fields_of (standing s p));
        }

  -- an enumeration's items, and what its shape is
  module _ (ek : enumeration ≡ kind_of (code_in s p)) where
    pub items_of : ItemsSeen s p it.end it.opened.inside it.fields
    items_of =
        holds_read (ap (λ (j : Kind). fields_at j s p (body_at p) it.end) (same_kind enumeration ek) ∙ it.opened.fields)
        (items-seen s p it.end it.opened.inside)

    pub items-shape : (last : ℕ) → last ≡ items_of.last → record { at = last + (last - p) % 2; count = be s (body_at p) 2; children = 0 } ≡ shape_of s p
    unfolding shape_of inside_of inside_by fields_size
    items-shape last e =
        let x = items_of in
        let is : fields_of (standing s p) ≡ items x.all = fields-are ∙ x.is in
        let at : last + (last - p) % 2 ≡ inside_at p (items x.all) = omega (arith, e, x.ends) in
        let known = inside_is enumeration ek in
        λ i. record {
          at = (at ∙ ap (λ (b : Fields). inside_at p b) (sym is)) i;
          count = ap (λ (y : Inside). y.count) known i;
          children = ap (λ (y : Inside). y.children) known i;
        }
