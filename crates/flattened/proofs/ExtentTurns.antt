-- What the loop over the types of a row keeps: their extent so far, and that of the types that are left, are the extent of all. Each
-- scalar has a header of four bytes for its at most 32 bytes of data, so the sums stay small. Rests on what types are made of.
use mathlib.Core.Path.{◌≡◌, refl, sym, ap, subst, ◌∙◌}
use mathlib.Core.Bool.{Bool, true, false, ◌||◌}
use mathlib.Core.List.{List}
use Prim.Native.Nat.{ℕ, suc, ◌+◌, ◌-◌, ◌*◌, ◌<◌, ◌≤◌}
use native.Mathlib.Nat.{sub-zero}
use native.Mathlib.Omega.{arith}
use Rattle.descriptor.specs.Header.{size_in}
use Rattle.descriptor.specs.Tree.{empty, items, pairs, text, dimensions, members, subtype, Tree, node, Forest, nil, cons, tree_size, forest_size, forest_length}
use Rattle.descriptor.specs.inner.Standing.{forest_of}
use Rattle.descriptor.proofs.Standing.{row-none}
use Rattle.flattened.specs.inner.Types.{type_at, types_at, TypeStands, RowStands, SolidFields, Solid, AllSolid}
use Rattle.flattened.specs.inner.Extent.{joint, least, tokens_in, extent_fields, extent_of, extent_all}
use Rattle.flattened.specs.declared.extent.Extent.{Extent}
use Rattle.flattened.specs.declared.extent.Extent.TheVariants.{Varies, Fixed, Around}
use Rattle.flattened.proofs.Codes.{width-most}
use Rattle.flattened.proofs.Extents.{joint-assoc}
use Rattle.flattened.proofs.Types.{RowTurn, row-turn, type-solid}

-- eight bytes of data at most for each byte of descriptors, no more tokens than bytes, and at least so many tokens
pub record Few (least w k size : ℕ) : Type 0 where
  pub bytes : w ≤ 8 * size
  pub tokens : k ≤ w
  pub many : least ≤ k

-- what that says of an extent
unfoldable pub Small : ℕ → Extent → ℕ → Type 0
Small n Varies size = Unit {0}
Small n (Fixed w k j) size = Few n w k size
Small n (Around b a k j) size = Few n (b + 4 + a) k size

small-joint : (a b : ℕ) (x y : Extent) (m n : ℕ) → Small a x m → Small b y n → Small (a + b) (joint x y) (m + n)
unfolding Small joint
small-joint a b Varies y m n h l = tt
small-joint a b (Fixed w k j) Varies m n h l = tt
small-joint a b (Fixed w k j) (Fixed v i g) m n h l =
    record { bytes = omega (arith, h.bytes, l.bytes); tokens = omega (arith, h.tokens, l.tokens); many = omega (arith, h.many, l.many) }
small-joint a b (Fixed w k j) (Around v u i g) m n h l =
    record { bytes = omega (arith, h.bytes, l.bytes); tokens = omega (arith, h.tokens, l.tokens); many = omega (arith, h.many, l.many) }
small-joint a b (Around v u i g) Varies m n h l = tt
small-joint a b (Around v u i g) (Fixed w k j) m n h l =
    record { bytes = omega (arith, h.bytes, l.bytes); tokens = omega (arith, h.tokens, l.tokens); many = omega (arith, h.many, l.many) }
small-joint a b (Around v u i g) (Around w e k j) m n h l = tt

few-more : (a b w k m n : ℕ) → b ≤ a → m ≤ n → Few a w k m → Few b w k n
few-more a b w k m n least e h = record { bytes = omega (arith, h.bytes); tokens = h.tokens; many = omega (arith, h.many) }

small-more : (a b : ℕ) (x : Extent) (m n : ℕ) → b ≤ a → m ≤ n → Small a x m → Small b x n
unfolding Small
small-more a b Varies m n least e h = tt
small-more a b (Fixed w k j) m n least e h = few-more a b w k m n least e h
small-more a b (Around v u k j) m n least e h = few-more a b (v + 4 + u) k m n least e h

-- the sums that the code makes of it
pub small_least : (n : ℕ) (x : Extent) (size : ℕ) → Small n x size → (least x ≤ 8 * size) × (tokens_in x ≤ 8 * size)
unfolding Small least tokens_in
small_least n Varies size h = (omega arith, omega arith)
small_least n (Fixed w k j) size h = (h.bytes, omega (arith, h.bytes, h.tokens))
small_least n (Around b a k j) size h = (h.bytes, omega (arith, h.bytes, h.tokens))

mutual
  unfolding extent_of extent_fields Small Solid SolidFields tree_size forest_length

  type-small : (t : Tree) → Solid t → Small 1 (extent_of t) (tree_size t)
  type-small (node c empty f m) solid = record { bytes = omega (arith, width-most c); tokens = solid.0; many = omega arith }
  type-small (node c (items xs) f m) solid = record { bytes = omega (arith, width-most c); tokens = solid.0; many = omega arith }
  type-small (node c (pairs ps) f m) solid = record { bytes = omega (arith, width-most c); tokens = solid.0; many = omega arith }
  type-small (node c text f m) solid = record { bytes = omega arith; tokens = omega arith; many = omega arith }
  type-small (node c (dimensions k) f m) solid = tt
  type-small (node c (members k) f m) solid =
      small-more (forest_length f) 1 (extent_all f) (forest_size f) _ solid.0 (omega arith) (row_small f solid.1)
  type-small (node c subtype f m) solid =
      small-more (forest_length f) 1 (extent_all f) (forest_size f) _ solid.0 (omega arith) (row_small f solid.1)

  row_small : (f : Forest) → AllSolid f → Small (forest_length f) (extent_all f) (forest_size f)
  row_small nil solid = record { bytes = omega arith; tokens = omega arith; many = omega arith }
  row_small (cons t f) solid =
      small-more (1 + forest_length f) (suc (forest_length f)) (joint (extent_of t) (extent_all f)) (tree_size t + forest_size f) _ (omega arith) (omega arith)
      (small-joint 1 (forest_length f) (extent_of t) (extent_all f) (tree_size t) (forest_size f) (type-small t solid.0) (row_small f solid.1))

-- the extent of a type that stands somewhere
pub type-few : (d : List ℕ) (p left : ℕ) → TypeStands d p left → Small 1 (extent_of (type_at d p)) (tree_size (type_at d p))
type-few d p left type = type-small (type_at d p) (type-solid d p left type)

-- a test, or one that fails
or-false : (a : Bool) → (a || false) ≡ a
or-false true = refl
or-false false = refl

-- nothing, and then an extent
pub none-joint : (x : Extent) → x ≡ joint (Fixed 0 0 false) x
unfolding joint
none-joint Varies = refl
none-joint (Fixed w n j) =
    let bytes : w ≡ 0 + w = omega arith in
    let tokens : n ≡ 0 + n = omega arith in
    λ i. Fixed (bytes i) (tokens i) j
none-joint (Around b a n j) =
    let bytes : b ≡ 0 + b = omega arith in
    let tokens : n ≡ 0 + n = omega arith in
    λ i. Around (bytes i) a (tokens i) j

-- an extent, and then nothing
joint-none : (x : Extent) → joint x (Fixed 0 0 false) ≡ x
unfolding joint
joint-none Varies = refl
joint-none (Fixed w n j) =
    let bytes : w + 0 ≡ w = omega arith in
    let tokens : n + 0 ≡ n = omega arith in
    λ i. Fixed (bytes i) (tokens i) (or-false j i)
joint-none (Around b a n j) =
    let bytes : a + 0 ≡ a = omega arith in
    let tokens : n + 0 ≡ n = omega arith in
    λ i. Around b (bytes i) (tokens i) (or-false j i)

module _ (d : List ℕ) (k start left : ℕ) where
  -- i of the types have been passed, up to p
  pub record ExtentLoop (p : ℕ) (extent : Extent) (i : ℕ) : Type 0 where
    pub most : i ≤ k
    pub row : RowStands d (k - i) p left
    pub few : Small 0 extent p
    pub same : extent_all (types_at d k start) ≡ joint extent (extent_all (types_at d (k - i) p))

  pub extent-begin : RowStands d k start left → ExtentLoop start (Fixed 0 0 false) 0
  unfolding Small
  extent-begin row = record {
    most = omega arith;
    row = subst (λ (n : ℕ). RowStands d n start left) (sym (sub-zero k)) row;
    few = record { bytes = omega arith; tokens = omega arith; many = omega arith };
    same =
        none-joint (extent_all (types_at d k start))
        ∙ ap (λ (n : ℕ). joint (Fixed 0 0 false) (extent_all (types_at d n start))) (sym (sub-zero k));
  }

  module _ (p : ℕ) (extent : Extent) (i : ℕ) (loop : ExtentLoop p extent i) where
    module _ (more : i < k) where
      -- the next type of the row
      pub extent-turn : RowTurn d (k - (i + 1)) p left
      extent-turn =
          let e : k - i ≡ suc (k - (i + 1)) = omega arith in
          row-turn d (k - (i + 1)) p left (subst (λ (n : ℕ). RowStands d n p left) e loop.row)

      -- its extent
      pub extent-few : Small 1 (extent_of (type_at d p)) (size_in d p)
      extent-few = subst (λ (size : ℕ). Small 1 (extent_of (type_at d p)) size) extent-turn.size (type-few d p left extent-turn.first)

      pub extent-next : ExtentLoop (p + size_in d p) (joint extent (extent_of (type_at d p))) (i + 1)
      unfolding extent_of
      extent-next = record {
        most = omega arith;
        row = extent-turn.rest;
        few = small-more (0 + 1) 0 _ (p + size_in d p) _ (omega arith) (omega arith) (small-joint 0 1 extent (extent_of (type_at d p)) p (size_in d p) loop.few extent-few);
        same =
            let e : k - i ≡ suc (k - (i + 1)) = omega arith in
            loop.same
            ∙ ap (λ (n : ℕ). joint extent (extent_all (types_at d n p))) e
            ∙ ap (λ (f : Forest). joint extent (extent_all f)) extent-turn.types
            ∙ sym (joint-assoc extent (extent_of (type_at d p)) (extent_all (types_at d (k - (i + 1)) (p + size_in d p))));
      }

    pub extent-done : k ≤ i → extent ≡ extent_all (types_at d k start)
    unfolding extent_of forest_of
    extent-done h =
        let e : k - i ≡ 0 = omega arith in
        let none : types_at d (k - i) p ≡ nil = ap (λ (n : ℕ). types_at d n p) e ∙ ap forest_of (row-none d p) in
        sym (loop.same ∙ ap (λ (f : Forest). joint extent (extent_all f)) none ∙ joint-none extent)
