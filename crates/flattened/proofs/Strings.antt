-- A string's progress by the steps of the cursor: its length word, a length that is carried, its characters. Rests on the definition of
-- the walk and on what the cursor's steps say.
use mathlib.Core.Path.{◌≡◌, ap, ◌∙◌}
use mathlib.Core.List.{List}
use Prim.Native.Nat.{ℕ, ◌+◌, ◌<◌, ◌≤◌}
use Rattle.std.specs.Prelude.{Ok, Err}
use Rattle.descriptor.specs.inner.Steps.{refusal_at}
use native.Mathlib.Omega.{arith}
use borrow.Author.Tests.{le-leb, lt-leb, lt-ltb, le-ltb}
use lib.ListN.{length}
use Rattle.descriptor.specs.Limits.{length_limit}
use Rattle.flattened.specs.Order.{Order, number_at}
use Rattle.flattened.specs.Walk.{text_at}
use Rattle.flattened.specs.inner.Cursor.{cursor}
use Rattle.flattened.specs.inner.Progress.{walked_to, progress}
use Rattle.flattened.specs.declared.cursor.Cursor.{Cursor}
use Rattle.flattened.proofs.Steps.{Skipped, WordRead}

module _ (o : Order) (s : List ℕ) (at : ℕ) where
  -- no length word
  pub text-none : length s < at + 4 → Err (refusal_at 21 at) ≡ progress (text_at o s at)
  unfolding text_at progress
  text-none h = simp (lt-leb (at + 4) (length s) h)

  module _ (v : ℕ) (c : Cursor) (word : WordRead o s at v c) where
    pub text-long : length_limit ≤ v → Err (refusal_at 22 at) ≡ progress (text_at o s at)
    unfolding text_at progress
    text-long high = simp (le-leb (at + 4) (length s) word.fits, le-ltb (number_at o s at 4) length_limit (omega (arith, word.value)))

    module _ (low : v < length_limit) where
      pub text-cut : length s < c.at + v → Err (refusal_at 21 at) ≡ progress (text_at o s at)
      unfolding text_at progress
      text-cut h =
          simp (
            le-leb (at + 4) (length s) word.fits,
            lt-ltb (number_at o s at 4) length_limit (omega (arith, word.value)),
            lt-leb (at + 4 + number_at o s at 4) (length s) (omega (arith, word.value, word.place)),
          )

      pub text-whole : (end : Cursor) → Skipped s c.at v end → Ok (walked_to end 1) ≡ progress (text_at o s at)
      unfolding text_at progress
      text-whole end skip =
          let there : c.at + v ≡ at + 4 + number_at o s at 4 = omega (arith, word.value, word.place) in
          ap (λ (x : Cursor). Ok (walked_to x 1)) (skip.next ∙ ap (λ (p : ℕ). cursor p) there)
          ∙ simp (
            le-leb (at + 4) (length s) word.fits,
            lt-ltb (number_at o s at 4) length_limit (omega (arith, word.value)),
            le-leb (at + 4 + number_at o s at 4) (length s) (omega (arith, skip.fits)),
          )
