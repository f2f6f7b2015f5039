-- The answer to a view: a refusal of the descriptor or of the data, a step that leads nowhere, or the part up to where its type's data
-- ends. Rests on the laws of answers.
use mathlib.Core.Path.{◌≡◌, sym, ap, ◌∙◌}
use mathlib.Core.List.{List}
use Prim.Native.Nat.{ℕ, ◌+◌, ◌-◌, ◌<◌, ◌≤◌}
use native.Mathlib.Omega.{arith}
use Rattle.std.specs.Prelude.{Ok, Err}
use lib.ListN.{length, take, drop}
use lib.Seq.{slice, take-add, drop_at, length-take-le}
use Rattle.descriptor.specs.Limits.{depth_limit}
use Rattle.descriptor.specs.Outcome.{Outcome, read, and_then, judge}
use Rattle.descriptor.specs.Answers.{accepted}
use Rattle.descriptor.specs.inner.Standing.{is_read, next_of}
use Rattle.descriptor.specs.declared.answer.Answer.{Answer}
use Rattle.flattened.specs.Answers.{data_check}
use Rattle.flattened.specs.Order.{big}
use Rattle.flattened.specs.Walk.{walk}
use Rattle.flattened.specs.inner.Types.{type_at}
use Rattle.access.specs.Path.{Spot, spot_of, no_part, part_of, located}
use Rattle.access.specs.inner.Past.{Values, past_values}
use Rattle.access.specs.inner.Spots.{Lies, reached, Known, Reaches}
use Rattle.access.specs.declared.part.Part.{Part}
use Rattle.access.specs.declared.spot.Spot.{Spot as CodeSpot}
use Rattle.access.proofs.Outcomes.{then_next}
use Rattle.access.proofs.Runs.{values-inside, one_value}
use Rattle.access.proofs.Answers.{asked-refused, Accepted, asked-accepted}

-- what was reached is a spot, or its step is one of the first eight
pub lost_shallow : {d s : List ℕ} {o : Outcome Spot} {i : ℕ} → Reaches d depth_limit s o (Err i) → i < depth_limit
unfolding Known
lost_shallow met = met.known

pub found_lies : {d s : List ℕ} {o : Outcome Spot} {x : CodeSpot} → Reaches d depth_limit s o (Ok x) → Lies d x.place depth_limit s x.start.at
unfolding Known
found_lies met = met.known

-- one value, where a value lies
pub lying_value : (d : List ℕ) (p : ℕ) (s : List ℕ) (at : ℕ) → Lies d p depth_limit s at → Values d p 1 s at
lying_value d p s at lies = record { type = lies.type; bytes = lies.bytes; read = ap is_read (one_value d p s at) ∙ lies.read }

-- it ends in the data
module _ (d : List ℕ) (p : ℕ) (s : List ℕ) (at : ℕ) (lies : Lies d p depth_limit s at) where
  pub lying_after : at ≤ (past_values d p 1 s at).at
  unfolding past_values
  lying_after = (values-inside d p 1 s at (lying_value d p s at lies)).after

  pub lying_within : (past_values d p 1 s at).at ≤ length s
  unfolding past_values
  lying_within = (values-inside d p 1 s at (lying_value d p s at lies)).within

module _ (d s path : List ℕ) (a : Answer) (checks : a ≡ data_check d s) where
  -- the part at the path in the data of a type
  abbrev part_in : Outcome Spot → Part
  part_in o = judge no_part 4 (and_then o (λ _ x. part_of s x)) (λ part. part)

  pub part_refused : (a.number ≡ 0 → ⊥) → located d s path ≡ no_part a.number a.input a.place
  unfolding located
  part_refused h = sym (asked-refused d s no_part (λ t. part_in (spot_of path t s)) a checks h)

  module _ (z : a.number ≡ 0) where
    whole : Accepted d s no_part (λ t. part_in (spot_of path t s)) a checks
    whole = asked-accepted d s no_part (λ t. part_in (spot_of path t s)) a checks z

    pub part_lies : Lies d 0 depth_limit s 0
    part_lies = whole.lies

    pub part_lost : (i : ℕ) → Reaches d depth_limit s (spot_of path (type_at d 0) s) (Err i) → located d s path ≡ no_part 30 4 i
    unfolding located reached
    part_lost i met = sym (ap part_in met.eq ∙ whole.eq)

    pub part_found : (x : CodeSpot) → Reaches d depth_limit s (spot_of path (type_at d 0) s) (Ok x)
        → located d s path ≡ record { answer = accepted 0; start = x.start.at; length = (past_values d x.place 1 s x.start.at).at - x.start.at }
    unfolding located reached part_of past_values
    part_found x met =
        let at = x.start.at in
        sym (
        (λ j. record { answer = accepted 0; start = at; length = next_of (one_value d x.place s at j) - at })
        ∙ ap (λ (o : Outcome Part). judge no_part 4 o (λ part. part))
        (sym (then_next (walk big (type_at d x.place) s at) (λ q. read q (record { answer = accepted 0; start = at; length = q - at })) (found_lies met).read))
        ∙ ap part_in met.eq
        ∙ whole.eq
        )

pub ruleset part_laws = (lost_shallow, found_lies, lying_after, lying_within, part_refused, part_lost, part_found)

-- n bytes from a place on, cut in either order
pub cut-same : (start n : ℕ) (s : List ℕ) → start + n ≤ length s → take (start + n - start) (drop start s) ≡ slice start (start + n) s
cut-same start n s h =
    let count : start + n - start ≡ n = omega arith in
    ap (λ (k : ℕ). take k (drop start s)) count
    ∙ sym (ap (λ (x : List ℕ). drop start x) (take-add start n s) ∙ drop_at (take start s) (take n (drop start s)) start (length-take-le start s (omega arith)))
