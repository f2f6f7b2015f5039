-- From the walk to the answer of a data check: the first refusal of the descriptor or of the data, or how many tokens there are.
-- Rests on what an accepted descriptor's type is, and on what the walk comes to.
use mathlib.Core.Path.{◌≡◌, refl, sym, ap, ◌∙◌}
use mathlib.Core.List.{List}
use Prim.Native.Nat.{ℕ, ◌<◌, ◌≤◌}
use Rattle.std.specs.Prelude.{Ok, Err}
use Rattle.descriptor.specs.inner.Steps.{counted}
use Rattle.descriptor.specs.declared.refusal.Refusal.{Refusal}
use Rattle.descriptor.specs.declared.step.Step.{Step}
use Rattle.flattened.specs.declared.progress.Walked.{Walked}
use native.Mathlib.Omega.{arith}
use borrow.Author.Tests.{le-leb, lt-leb, eq-eqb, ne_eqb}
use lib.ListN.{length}
use Rattle.descriptor.specs.Limits.{depth_limit, descriptor_limit, data_limit}
use Rattle.descriptor.specs.Tree.{Tree, row_count}
use Rattle.descriptor.specs.Outcome.{refused, read}
use Rattle.descriptor.specs.Check.{checked}
use Rattle.descriptor.specs.Answers.{refusal, accepted}
use Rattle.descriptor.specs.inner.Standing.{is_read}
use Rattle.descriptor.proofs.Checked.{judged-refused, judged-place}
use Rattle.descriptor.proofs.Steps.{Got, got}
use Rattle.descriptor.proofs.Standing.{accepted-standing, standing-low}
use Rattle.flattened.specs.Order.{Order, big}
use Rattle.flattened.specs.Walk.{walk, walked}
use Rattle.flattened.specs.Answers.{data_check}
use Rattle.flattened.specs.inner.Checks.{ordered_check}
use Rattle.flattened.specs.inner.Progress.{progress, Reads}
use Rattle.flattened.specs.inner.Types.{type_of, type_at, TypeStands}
use Rattle.flattened.proofs.Progresses.{progress-reads, progress-refused}
use Rattle.flattened.proofs.Refusals.{walk-place}
use Rattle.flattened.proofs.Repeats.{repeat-one}
use Rattle.walking.proofs.Walks.{Ahead, values-ahead}

-- a descriptor that is refused
module _ (o : Order) (d s : List ℕ) (r : Refusal) (e : Err r ≡ counted row_count (checked d)) where
  pub top_place : r.place ≤ descriptor_limit
  top_place = judged-place d r e

  pub top_refused : refusal r.number 1 r.place ≡ ordered_check o d s
  unfolding ordered_check
  top_refused = sym (rw (judged-refused d r e) refl)

-- the type of an accepted descriptor stands at the first byte
module _ (o : Order) (d s : List ℕ) (q : ℕ) (t : Tree) (known : checked d ≡ read q t) where
  top : type_at d 0 ≡ t
  unfolding type_of
  top = ap type_of (accepted-standing d q t known).0

  pub top-stands : TypeStands d 0 depth_limit
  unfolding is_read
  top-stands =
      let stands = accepted-standing d q t known in
      record { here = record { is = ap is_read stands.0; small = omega (arith, stands.1.1) }; low = rw top (standing-low d 0 q t stands.0) }

-- one that is read
module _ (o : Order) (d s : List ℕ) (v : Step) (known : Ok v ≡ counted row_count (checked d)) where
  g : Got row_count (λ _. 0) (checked d) v
  g = got row_count (λ _. 0) (checked d) v known

  pub top_stands : TypeStands d 0 depth_limit
  top_stands = top-stands o d s v.next g.value g.eq

  -- the walk of the type that stands there
  same : progress (walk o (type_at d 0) s 0) ≡ progress (walk o g.value s 0)
  same = ap (λ (x : Tree). progress (walk o x s 0)) (top o d s v.next g.value g.eq)

  -- data that is too long
  pub data_long : data_limit < length s → refusal 20 3 0 ≡ ordered_check o d s
  unfolding ordered_check walked
  data_long h = sym (rw g.eq (simp (lt-leb (length s) data_limit h)))

  module _ (short : length s ≤ data_limit) where
    -- a walk that is refused
    module _ (r : Refusal) (e : Err r ≡ progress (walk o (type_at d 0) s 0)) where
      stopped : walk o g.value s 0 ≡ refused r.number r.place
      stopped = progress-refused (walk o g.value s 0) r.number r.place (e ∙ same)

      pub data_place : r.place ≤ length s
      data_place = walk-place s o g.value 0 r.number r.place (omega arith) stopped

      pub data_refused : refusal r.number 3 r.place ≡ ordered_check o d s
      unfolding ordered_check walked
      data_refused = sym (rw g.eq (simp (le-leb (length s) data_limit short, stopped)))

    -- a walk that reads
    module _ (w : Walked) (e : Ok w ≡ progress (walk o (type_at d 0) s 0)) where
      ahead : Ahead s 0 w.tokens w.next.at
      ahead = values-ahead d 0 depth_limit top_stands o s 1 0 (omega arith) w (e ∙ ap progress (sym (repeat-one (λ a. walk o (type_at d 0) s a) 0)))

      pub data_inside : w.next.at ≤ length s
      data_inside = ahead.inside

      pub data_tokens : w.tokens ≤ length s
      data_tokens = omega (arith, ahead.tokens, ahead.inside)

      reads : Reads (walk o g.value s 0) w.next.at w.tokens
      reads = progress-reads (walk o g.value s 0) w.next w.tokens (e ∙ same)

      pub data_over : (w.next.at ≡ length s → ⊥) → refusal 25 3 w.next.at ≡ ordered_check o d s
      unfolding ordered_check walked
      data_over h = sym (rw g.eq (simp (le-leb (length s) data_limit short, reads.eq, ne_eqb w.next.at (length s) h)))

      pub data_whole : w.next.at ≡ length s → refusal 0 0 w.tokens ≡ ordered_check o d s
      unfolding ordered_check walked
      data_whole h =
          ap accepted (sym reads.count) ∙ sym (rw g.eq (simp (le-leb (length s) data_limit short, reads.eq, eq-eqb w.next.at (length s) h)))

pub ruleset check_laws =
    (top_place, top_refused, top_stands, data_long, data_place, data_refused, data_inside, data_tokens, data_over, data_whole)

-- the data check is that in big-endian order
pub check_big : (d s : List ℕ) → ordered_check big d s ≡ data_check d s
unfolding ordered_check data_check
check_big d s = refl
