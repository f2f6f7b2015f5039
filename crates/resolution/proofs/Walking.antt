-- The walk of types in a row, member by member: where each one's data starts. Rests on the laws of types in a row and of walks.
use mathlib.Core.Path.{◌≡◌, refl, sym, ap, subst, ◌∙◌}
use mathlib.Core.List.{List, ◌++◌}
use Prim.Native.Nat.{ℕ, ◌+◌, ◌-◌, ◌≤◌, ◌<◌}
use native.Mathlib.Nat.{sub-zero}
use native.Mathlib.Numerals.{add-one}
use native.Mathlib.Omega.{arith}
use Rattle.std.specs.Prelude.{Ok, Err}
use lib.ListN.{length, set, length-set}
use Rattle.descriptor.specs.Limits.{depth_limit}
use Rattle.descriptor.specs.Header.{size_in}
use Rattle.descriptor.specs.Outcome.{Outcome, refused, read, and_then}
use Rattle.descriptor.specs.Tree.{Forest, cons}
use Rattle.descriptor.specs.inner.Standing.{next_of}
use Rattle.descriptor.specs.declared.refusal.Refusal.{Refusal}
use Rattle.descriptor.proofs.Bodies.{header-room}
use Rattle.descriptor.proofs.Outcomes.{holds_read}
use Rattle.flattened.specs.Order.{big}
use Rattle.flattened.specs.Token.{Token}
use Rattle.flattened.specs.Walk.{follow, walk, walk_all}
use Rattle.flattened.specs.inner.Progress.{progress}
use Rattle.flattened.specs.inner.Types.{type_at, types_at, TypeStands, DataAt}
use Rattle.flattened.specs.declared.progress.Walked.{Walked}
use Rattle.flattened.proofs.Forward.{walk-forward}
use Rattle.flattened.proofs.Progresses.{progress-reads, progress-refused}
use Rattle.flattened.proofs.Types.{type-solid}
use Rattle.flattened.proofs.Repeats.{repeat-one}
use Rattle.members.specs.inner.Members.{Members, place_from, type_from, Column}
use Rattle.members.proofs.Filled.{column-none, column-more}
use Rattle.members.proofs.InRow.{no-types, place-more, turn_at, types-at}
use Rattle.resolution.specs.inner.Data.{data_from, end_of}

-- the data of the next one starts where this one's ends
pub data-more : (d : List ℕ) (p : ℕ) (s : List ℕ) (i : ℕ) → data_from d p s (i + 1) ≡ next_of (walk big (type_from d p i) s (data_from d p s i))
unfolding data_from
data-more d p s i = ap (data_from d p s) (add-one i)

-- after one walk, the next
end-follow : (ts : List Token) (o : Outcome (List Token)) → end_of (and_then o (λ last us. read last (ts ++ us))) ≡ end_of o
end-follow ts (refused number place) = refl
end-follow ts (read q us) = refl

-- What the loop keeps, i of the k types having been walked, their data's starts in the column: the answer from here is the answer from the
-- start.
pub record WalkLoop (d : List ℕ) (k start : ℕ) (s starts : List ℕ) (p at i : ℕ) : Type 0 where
  pub place : p ≡ place_from d start i
  pub here : at ≡ data_from d start s i
  pub bytes : DataAt s at
  pub column : Column (data_from d start s) i starts
  pub long : length starts ≡ 257
  pub same : end_of (walk_all big (types_at d k start) s 0) ≡ end_of (walk_all big (types_at d (k - i) p) s at)

module _ (d : List ℕ) (k start : ℕ) (s : List ℕ) (all : Members d k start) where
  pub walk-begin : DataAt s 0 → (starts : List ℕ) → length starts ≡ 257 → WalkLoop d k start s starts start 0 0
  unfolding place_from data_from
  walk-begin bytes starts long = record {
    place = refl;
    here = refl;
    bytes = bytes;
    column = column-none _ starts;
    long = long;
    same = ap (λ (n : ℕ). end_of (walk_all big (types_at d n start) s 0)) (sym (sub-zero k));
  }

  module _ (starts : List ℕ) (p at i : ℕ) (l : WalkLoop d k start s starts p at i) where
    module _ (more : i < k) where
      -- the type at p
      pub walk-type : TypeStands d p depth_limit
      walk-type = subst (λ (q : ℕ). TypeStands d q depth_limit) (sym l.place) (turn_at d k start depth_limit all.row i more).first

      pub walk-size : p + size_in d p ≤ length d
      walk-size = subst (λ (q : ℕ). q + size_in d q ≤ length d) (sym l.place) (turn_at d k start depth_limit all.row i more).within

      split : end_of (walk_all big (types_at d k start) s 0)
          ≡ end_of (follow (walk big (type_at d p) s at) (λ a. walk_all big (types_at d (k - (i + 1)) (place_from d start (i + 1))) s a))
      unfolding walk_all
      split =
          l.same
          ∙ (λ j. end_of (walk_all big (types_at d (k - i) (l.place j)) s at))
          ∙ ap (λ (f : Forest). end_of (walk_all big f s at)) (types-at d k start depth_limit all.row i more)
          ∙ (λ j. end_of (walk_all big (cons (type_at d (sym l.place j)) (types_at d (k - (i + 1)) (place_from d start (i + 1)))) s at))

      -- is refused
      pub walk-lost : (r : Refusal) → Err r ≡ progress (walk big (type_at d p) s at) → Err r ≡ end_of (walk_all big (types_at d k start) s 0)
      walk-lost r e =
          let one = progress-refused (walk big (type_at d p) s at) r.number r.place e in
          sym (split ∙ ap (λ (o : Outcome (List Token)). end_of (follow o (λ a. walk_all big (types_at d (k - (i + 1)) (place_from d start (i + 1))) s a))) one)

      -- or is walked
      pub walk-again : (w : Walked) → Ok w ≡ progress (walk big (type_at d p) s at)
          → (q : ℕ) → q ≡ p + size_in d p → i < 257 → WalkLoop d k start s (set starts i at) q w.next.at (i + 1)
      unfolding next_of
      walk-again w e q there room =
          let reads = progress-reads (walk big (type_at d p) s at) w.next w.tokens e in
          let ends = holds_read reads.eq (walk-forward s (type_at d p) (type-solid d p depth_limit walk-type) big at l.bytes.inside) in
          let next : q ≡ place_from d start (i + 1) = there ∙ ap (λ (x : ℕ). x + size_in d x) l.place ∙ sym (place-more d start i) in
          record {
            place = next;
            here =
                sym (data-more d start s i
                ∙ (λ j. next_of (walk big (type_at d (sym l.place j)) s (sym l.here j)))
                ∙ ap next_of reads.eq);
            bytes = record { inside = ends.inside; short = l.bytes.short };
            column = column-more (data_from d start s) i at starts l.column (omega (arith, l.long)) l.here;
            long = length-set starts i at ∙ l.long;
            same =
                split
                ∙ ap (λ (o : Outcome (List Token)). end_of (follow o (λ a. walk_all big (types_at d (k - (i + 1)) (place_from d start (i + 1))) s a))) reads.eq
                ∙ end-follow reads.tokens (walk_all big (types_at d (k - (i + 1)) (place_from d start (i + 1))) s w.next.at)
                ∙ ap (λ (x : ℕ). end_of (walk_all big (types_at d (k - (i + 1)) x) s w.next.at)) (sym next);
          }

    -- the last is walked
    module _ (last : i ≡ k) where
      pub walk-done : Ok at ≡ end_of (walk_all big (types_at d k start) s 0)
      unfolding walk_all
      walk-done = sym (l.same ∙ ap (λ (f : Forest). end_of (walk_all big f s at)) (no-types d (k - i) p (omega arith)))

-- what the walks find their answers with
pub ruleset walk_laws = (header-room, repeat-one, walk-type, walk-size, walk-lost, walk-again, walk-done)
