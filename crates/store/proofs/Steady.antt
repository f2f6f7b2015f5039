-- Data that takes as many bytes whatever its values are: its length decides whether it is accepted, and each member of it stands at one place.
-- Rests on the laws of extents.
use mathlib.Core.Path.{◌≡◌, refl, sym, ap, ◌∙◌}
use mathlib.Core.Bool.{Bool, true, false}
use mathlib.Core.List.{List}
use Prim.Native.Nat.{ℕ, ◌+◌, ◌-◌, ◌*◌, ◌≤◌, ◌<◌}
use native.Mathlib.Numerals.{add-one}
use native.Mathlib.Omega.{arith}
use borrow.Author.Tests.{le-leb, eqb-true, eq-eqb}
use lib.Dec.{leb, eqb}
use lib.ListN.{length}
use Rattle.std.specs.Prelude.{Some}
use Rattle.descriptor.specs.Limits.{descriptor_limit, depth_limit, data_limit}
use Rattle.descriptor.specs.Header.{size_in}
use Rattle.descriptor.specs.Tree.{tree_size}
use Rattle.descriptor.specs.Outcome.{read}
use Rattle.descriptor.proofs.Outcomes.{found, holds_read, holds-require, holds-and_then, holds-self}
use Rattle.canonical.specs.inner.Walk.{Accepted}
use Rattle.flattened.specs.Order.{big}
use Rattle.flattened.specs.Token.{Token}
use Rattle.flattened.specs.Walk.{walk, walked}
use Rattle.flattened.specs.inner.Types.{type_at, TypeStands}
use Rattle.flattened.specs.inner.Extent.{extent_of}
use Rattle.flattened.specs.inner.Columns.{judged_in}
use Rattle.flattened.specs.declared.extent.Extent.{Extent}
use Rattle.flattened.specs.declared.extent.Extent.TheVariants.{Varies, Fixed, Around}
use Rattle.flattened.proofs.Types.{RowTurn, type-size}
use Rattle.flattened.proofs.Extents.{walk-takes}
use Rattle.flattened.proofs.ExtentTurns.{Small, type-few}
use Rattle.elements.proofs.Keeping.{calm-kept}
use Rattle.members.specs.inner.Members.{top_at, top_count, place_from, type_from}
use Rattle.members.proofs.InRow.{turn_at}
use Rattle.resolution.specs.inner.Data.{data_from}
use Rattle.records.proofs.Topmost.{stands, top-short, top-members}
use Rattle.records.proofs.Answering.{member-data}
use Rattle.store.specs.inner.Identity.{DataOf, Bears}
use Rattle.store.specs.inner.Steady.{steady_width, Steady}

-- an extent that does not vary and has no number that is judged
record Calm (e : Extent) (w : ℕ) : Type 0 where
  k : ℕ
  is : e ≡ Fixed w k false

calm : (e : Extent) (w : ℕ) → Some w ≡ steady_width e → Calm e w
unfolding steady_width
calm Varies w h = absurd (cc)
calm (Fixed v k true) w h = absurd (cc)
calm (Fixed v k false) w h = let same : w ≡ v = cc in record { k = k; is = ap (λ (n : ℕ). Fixed n k false) (sym same) }
calm (Around b a k j) w h = absurd (cc)

-- walked data, from its walk
walked-so : (d x : List ℕ) (q : ℕ) (ts : List Token) → walk big (type_at d 0) x 0 ≡ read q ts → q ≡ length x → length x ≤ data_limit → DataOf d x
unfolding walked
walked-so d x q ts e end short = record {
  end = q;
  tokens = ts;
  eq = rw (le-leb (length x) data_limit short, e, eq-eqb q (length x) end) refl;
}

-- and the walk, from walked data
record Walks (d x : List ℕ) : Type 0 where
  tokens : List Token
  eq : walk big (type_at d 0) x 0 ≡ read (length x) tokens

walks : (d x : List ℕ) → DataOf d x → Walks d x
unfolding walked
walks d x w =
    holds_read {P = λ _ _. Walks d x} w.eq
    (holds-require (leb (length x) data_limit) _ _ (λ _.
    holds-and_then (holds-self (walk big (type_at d 0) x 0)) (λ q ts e.
    holds-require (eqb q (length x)) _ _ (λ f.
    found (record { tokens = ts; eq = e ∙ ap (λ (n : ℕ). read n ts) (eqb-true q (length x) f) })))))

module _ (d : List ℕ) (width : ℕ) (is : Some width ≡ steady_width (extent_of (type_at d 0))) where
  known : Calm (extent_of (type_at d 0)) width
  known = calm (extent_of (type_at d 0)) width is

  -- data of this length is accepted
  steady-whole : width ≤ data_limit → (x : List ℕ) → length x ≡ width → DataOf d x
  unfolding judged_in
  steady-whole short x e =
      let takes = walk-takes x (type_at d 0) width known.k false known.is big 0 in
      let kept = calm-kept big x (type_at d 0) (ap judged_in known.is) 0 in
      let long : 0 + width ≡ length x = omega arith in
      let reads = takes.reads kept (omega arith) in
      walked-so d x (0 + width) reads.tokens reads.eq long (omega arith)

  -- and no other
  steady-long : (x : List ℕ) → DataOf d x → length x ≡ width
  steady-long x w =
      let all = walks d x w in
      let ends = holds_read all.eq (walk-takes x (type_at d 0) width known.k false known.is big 0).ends in
      omega (arith, ends.at)

-- its length, by the descriptor's
extent-small : (d : List ℕ) (p left : ℕ) → TypeStands d p left → (w k : ℕ) (j : Bool) → extent_of (type_at d p) ≡ Fixed w k j → w ≤ 8 * tree_size (type_at d p)
unfolding Small
extent-small d p left stands w k j e =
    let few : Small 1 (Fixed w k j) (tree_size (type_at d p)) = rw e at (type-few d p left stands) in
    few.bytes

-- the members of d before i take as many bytes in all data
pub record SpanLoop (d : List ℕ) (p place i : ℕ) : Type 0 where
  pub here : p ≡ place_from d (top_at d) i
  pub starts : (x : List ℕ) → DataOf d x → data_from d (top_at d) x i ≡ place
  pub small : place ≤ 8 * p

-- the accepted descriptor d, whose member m carries the identifier
module _ (d : List ℕ) (a : Accepted d) (m : ℕ) (bears : Bears d m) where
  pub span-begin : (p : ℕ) → p ≡ top_at d → SpanLoop d p 0 0
  unfolding place_from data_from
  span-begin p e = record { here = e; starts = λ x w. refl; small = omega arith }

  module _ (p place i : ℕ) (l : SpanLoop d p place i) (more : i < m) where
    turn : RowTurn d (top_count d - (i + 1)) (place_from d (top_at d) i) depth_limit
    turn = turn_at d (top_count d) (top_at d) depth_limit (top-members d a bears.cluster).row i (omega (arith, bears.within))

    pub span-type : TypeStands d p depth_limit
    span-type = rw l.here turn.first

    pub span-size : p + size_in d p ≤ length d
    span-size = rw l.here turn.within

    pub span-short : length d ≤ descriptor_limit
    span-short = top-short d a

    module _ (w k : ℕ) (j : Bool) (fixed : extent_of (type_at d p) ≡ Fixed w k j) where
      pub span-bytes : w ≤ 8 * size_in d p
      span-bytes =
          let size : tree_size (type_at d p) ≡ size_in d p = rw l.here turn.size in
          omega (arith, extent-small d p depth_limit span-type w k j fixed)

      pub span-again : (q : ℕ) → q ≡ p + size_in d p → SpanLoop d q (place + w) (i + 1)
      unfolding place_from
      span-again q e = record {
        here = rw (add-one i) (e ∙ ap (λ (n : ℕ). n + size_in d n) l.here);
        starts = λ x v.
            let walked = member-data d x a bears.cluster v.end v.tokens v.eq i (omega (arith, bears.within)) in
            let fix : extent_of (type_from d (top_at d) i) ≡ Fixed w k j = rw l.here at fixed in
            let ends = holds_read walked.1 (walk-takes x (type_from d (top_at d) i) w k j fix big (data_from d (top_at d) x i)).ends in
            omega (arith, ends.at, l.starts x v);
        small = omega (arith, l.small, span-bytes);
      }

  -- the span that was found
  pub span-done : (p place i : ℕ) → SpanLoop d p place i → i ≡ m → (width : ℕ) → Some width ≡ steady_width (extent_of (type_at d 0))
      → Steady d m (record { width = width; place = place })
  span-done p place i l all width is = record {
    whole = steady-whole d width is small;
    long = steady-long d width is;
    placed = λ x w. ap (λ (n : ℕ). data_from d (top_at d) x n) (sym all) ∙ l.starts x w;
  }
    where
      small : width ≤ data_limit
      small =
          let c = known d width is in
          let bytes = extent-small d 0 depth_limit (stands d a) width c.k false c.is in
          omega (arith, type-size d 0 depth_limit (stands d a), top-short d a)
