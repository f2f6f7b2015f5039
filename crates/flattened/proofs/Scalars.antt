-- A scalar's progress by the steps of the code: its bytes are there, and its number keeps its rule. Rests on how a scalar is judged.
use mathlib.Core.Path.{◌≡◌, refl, sym, ap, ◌∙◌}
use mathlib.Core.List.{List}
use Prim.Native.Nat.{ℕ, ◌+◌, ◌<◌, ◌≤◌}
use Rattle.std.specs.Prelude.{Option, Some, None, Ok, Err}
use Rattle.descriptor.specs.inner.Steps.{refusal_at}
use native.Mathlib.Omega.{arith}
use borrow.Author.Tests.{lt-ltb, le-ltb}
use lib.ListN.{length}
use Rattle.descriptor.specs.Header.{code_in}
use Rattle.descriptor.specs.Width.{width_of}
use Rattle.descriptor.specs.inner.Standing.{Stands}
use Rattle.flattened.specs.Order.{Order, number_at}
use Rattle.flattened.specs.Walk.{walk}
use Rattle.flattened.specs.inner.Cursor.{cursor}
use Rattle.flattened.specs.inner.Extent.{type_limit, keeps}
use Rattle.flattened.specs.inner.Progress.{walked_to, progress}
use Rattle.flattened.specs.inner.Types.{type_at}
use Rattle.flattened.specs.declared.cursor.Cursor.{Cursor}
use Rattle.flattened.proofs.Cases.{walk-number}
use Rattle.flattened.proofs.Judged.{ruled_at, ruled-cut, ruled-refused, ruled-read}
use Rattle.flattened.proofs.Steps.{Skipped}

module _ (d : List ℕ) (p : ℕ) (here : Stands d p) (w : ℕ) (wide : w ≡ width_of (code_in d p)) (some : 0 < w) (o : Order) (s : List ℕ) (at : ℕ) where
  ruled : (r : Option ℕ) → r ≡ type_limit (type_at d p) → walk o (type_at d p) s at ≡ ruled_at o (code_in d p) s at r
  ruled r e = walk-number d p here (omega arith) o s at ∙ ap (λ (x : Option ℕ). ruled_at o (code_in d p) s at x) (sym e)

  pub scalar-cut : length s < at + w → Err (refusal_at 21 at) ≡ progress (walk o (type_at d p) s at)
  unfolding progress
  scalar-cut h = sym (ap progress (ruled _ refl ∙ ruled-cut o (code_in d p) s at (type_limit (type_at d p)) (omega arith)))

  module _ (next : Cursor) (skip : Skipped s at w next) where
    fits : at + width_of (code_in d p) ≤ length s
    fits = omega (arith, skip.fits)

    walked : walked_to next 1 ≡ walked_to (cursor (at + width_of (code_in d p))) 1
    walked = ap (λ (c : Cursor). walked_to c 1) skip.next ∙ ap (λ (n : ℕ). walked_to (cursor (at + n)) 1) wide

    pub scalar-any : None ≡ type_limit (type_at d p) → Ok (walked_to next 1) ≡ progress (walk o (type_at d p) s at)
    unfolding progress keeps
    scalar-any e = ap Ok walked ∙ sym (ap progress (ruled None e ∙ ruled-read o (code_in d p) s at None fits refl))

    module _ (limit : ℕ) (rule : Some limit ≡ type_limit (type_at d p)) (v : ℕ) (is : v ≡ number_at o s at w) where
      same : number_at o s at (width_of (code_in d p)) ≡ v
      same = sym (is ∙ ap (λ (n : ℕ). number_at o s at n) wide)

      pub scalar-kept : v < limit → Ok (walked_to next 1) ≡ progress (walk o (type_at d p) s at)
      unfolding progress keeps
      scalar-kept h =
          ap Ok walked
          ∙ sym (ap progress
          (ruled (Some limit) rule ∙ ruled-read o (code_in d p) s at (Some limit) fits (lt-ltb _ limit (omega (arith, same)))))

      pub scalar-refused : limit ≤ v → Err (refusal_at 23 at) ≡ progress (walk o (type_at d p) s at)
      unfolding progress keeps
      scalar-refused h =
          sym (ap progress
          (ruled (Some limit) rule ∙ ruled-refused o (code_in d p) s at (Some limit) fits (le-ltb _ limit (omega (arith, same)))))
