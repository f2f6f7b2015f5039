-- A path in accepted data: what the loop over its steps keeps is that the spot from here on is the spot from the start.
-- Rests on what a step reaches.
use mathlib.Core.Path.{◌≡◌, sym, ap, ◌∙◌}
use mathlib.Core.List.{List}
use Prim.Native.Nat.{ℕ, ◌+◌, ◌-◌, ◌<◌, ◌≤◌}
use Rattle.std.specs.Prelude.{Ok, Err}
use native.Mathlib.Numerals.{add-one}
use native.Mathlib.Omega.{arith}
use lib.ListN.{length, get_or, drop, drop_of_length-le}
use lib.Seq.{drop-cons}
use Rattle.descriptor.specs.Limits.{depth_limit}
use Rattle.descriptor.specs.Outcome.{Outcome, and_then}
use Rattle.flattened.specs.inner.Types.{type_at}
use Rattle.access.specs.Path.{Spot, step_into, spot_at, spot_of}
use Rattle.access.specs.inner.Spots.{Lies, spot, reached, Known, Reaches}
use Rattle.access.specs.declared.spot.Spot.{Spot as CodeSpot}
use Rattle.access.proofs.Types.{deeper}

-- i steps have been taken, to the spot x
pub record PathLoop (d s path : List ℕ) (x : CodeSpot) (i : ℕ) : Type 0 where
  pub lies : Lies d x.place (depth_limit - i) s x.start.at
  pub same : spot_of path (type_at d 0) s ≡ spot_at (drop i path) i s (spot d x.place x.start.at)

module _ {d s path : List ℕ} {x : CodeSpot} {i : ℕ} (loop : PathLoop d s path x i) where
  module _ (h : i < length path) where
    step : spot_of path (type_at d 0) s ≡ and_then (step_into i (type_at d x.place) (get_or path i 0) s x.start.at) (λ _ y. spot_at (drop (i + 1) path) (i + 1) s y)
    unfolding spot_at
    step =
        loop.same
        ∙ ap (λ (ks : List ℕ). spot_at ks i s (spot d x.place x.start.at)) (drop-cons path i 0 h)
        ∙ ap (λ (j : ℕ). and_then (step_into i (type_at d x.place) (get_or path i 0) s x.start.at) (λ _ y. spot_at (drop j path) (i + 1) s y)) (sym (add-one i))

    -- a step that leads on
    pub path-again : (y : CodeSpot) → Reaches d (depth_limit - (i + 1)) s (step_into i (type_at d x.place) (get_or path i 0) s x.start.at) (Ok y)
        → PathLoop d s path y (i + 1)
    unfolding reached Known
    path-again y met = record {
      lies = met.known;
      same = step ∙ ap (λ (o : Outcome Spot). and_then o (λ _ y. spot_at (drop (i + 1) path) (i + 1) s y)) (sym met.eq);
    }

    -- a step that leads nowhere
    pub path-lost : (j : ℕ) → Reaches d (depth_limit - (i + 1)) s (step_into i (type_at d x.place) (get_or path i 0) s x.start.at) (Err j)
        → Reaches d depth_limit s (spot_of path (type_at d 0) s) (Err j)
    unfolding reached Known
    path-lost j met = record {
      eq = sym (step ∙ ap (λ (o : Outcome Spot). and_then o (λ _ y. spot_at (drop (i + 1) path) (i + 1) s y)) (sym met.eq));
      known = met.known;
    }

  -- no step is left
  pub path-done : length path ≤ i → Reaches d depth_limit s (spot_of path (type_at d 0) s) (Ok x)
  unfolding reached Known spot_at
  path-done h = record {
    eq = sym (loop.same ∙ ap (λ (ks : List ℕ). spot_at ks i s (spot d x.place x.start.at)) (drop_of_length-le path h));
    known = record { type = deeper loop.lies.type (omega arith); bytes = loop.lies.bytes; read = loop.lies.read };
  }
