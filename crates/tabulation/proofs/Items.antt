-- The items of an enumeration whose descriptor stands at p: they are passed up to its end, and what is left is what `shape` gives.
-- Rests on what stands in an accepted descriptor.
use mathlib.Core.Path.{◌≡◌, refl, ap, sym, ◌∙◌}
use mathlib.Core.Bool.{true, false}
use mathlib.Core.List.{List}
use Prim.Native.Nat.{ℕ, ◌+◌, ◌-◌, ◌%◌, ◌≤◌, ◌<◌, ◌^◌}
use native.Mathlib.Omega.{arith}
use lib.ListN.{length}
use Rattle.std.specs.Prelude.{Ok, IsOk}
use Rattle.descriptor.specs.Codes.{enumeration, kind_of}
use Rattle.descriptor.specs.Header.{body_at, code_in, size_in}
use Rattle.descriptor.specs.Check.{items_at}
use Rattle.descriptor.specs.inner.Steps.{is_enumeration, counted, read_step}
use Rattle.descriptor.specs.inner.Standing.{Stands, inside_of, shape_of}
use Rattle.descriptor.specs.inner.Promises.{Within}
use Rattle.descriptor.specs.declared.inside.Inside.{Inside}
use Rattle.descriptor.specs.declared.step.Step.{Step}
use Rattle.descriptor.proofs.CodeKinds.{enumeration-is}
use Rattle.descriptor.proofs.Outcomes.{holds_read}
use Rattle.descriptor.proofs.Sizes.{items-end}
use Rattle.descriptor.proofs.Bodies.{Seen, ItemsSeen, it, inside_by, inside_is, items_of, items-shape, header-room, shape_same}

module _ (s : List ℕ) (p : ℕ) (here : Stands s p) where
  abbrev whole : Seen s p
  whole = it s p here

  -- a descriptor without items
  pub no_items : is_enumeration (kind_of (code_in s p)) ≡ false → inside_of s p ≡ shape_of s p
  no_items e = shape_same s p here (kind_of (code_in s p)) refl e

  module _ (e : is_enumeration (kind_of (code_in s p)) ≡ true) (stop : ℕ) (ends : stop ≡ p + size_in s p) where
    abbrev kind : enumeration ≡ kind_of (code_in s p)
    kind = sym (enumeration-is _ e)

    abbrev items-there : ItemsSeen s p whole.end whole.opened.inside whole.fields
    items-there = items_of s p here kind

    known : inside_of s p ≡ inside_by enumeration s (body_at p)
    known = sym (inside_is s p here enumeration kind)

    -- where they start
    pub items_room : Within s (inside_of s p).at stop
    unfolding inside_by
    items_room =
        let at = ap (λ (y : Inside). y.at) known in
        record { from = omega (arith, at, items-there.room, ends, whole.opened.size); inside = omega (arith, ends, whole.opened.size, whole.opened.inside); small = here.small }

    passed : counted length (items_at s stop (inside_of s p).count (inside_of s p).at) ≡ Ok (read_step items-there.last (length items-there.all) 0)
    unfolding inside_by
    passed =
        let end : stop ≡ whole.end = omega (arith, ends, whole.opened.size) in
        (λ i. counted length (items_at s (end i) (ap (λ (y : Inside). y.count) known i) (ap (λ (y : Inside). y.at) known i)))
        ∙ ap (λ o. counted length o) items-there.eq

    -- they are passed
    pub items_pass : IsOk (counted length (items_at s stop (inside_of s p).count (inside_of s p).at))
    items_pass = rw passed refl

    module _ (w : Step) (ew : Ok w ≡ counted length (items_at s stop (inside_of s p).count (inside_of s p).at)) where
      next : w.next ≡ items-there.last
      next =
          let same : Ok w ≡ Ok (read_step items-there.last (length items-there.all) 0) = ew ∙ passed in
          let step : w ≡ read_step items-there.last (length items-there.all) 0 = cc in
          ap (λ (y : Step). y.next) step

      pub items_past : p ≤ w.next
      items_past = omega (arith, next, items-there.ends)

      pub items_fit : w.next + (w.next - p) % 2 < 2 ^ 64
      items_fit =
          let most = (holds_read items-there.eq (items-end s p whole.end whole.opened.inside _ _ items-there.room)).0 in
          omega (arith, next, most.within, whole.opened.inside, here.small)

      -- and what is left
      pub items_left : shape_of s p ≡ record { at = w.next + (w.next - p) % 2; count = (inside_of s p).count; children = (inside_of s p).children }
      unfolding inside_by
      items_left =
          sym (items-shape s p here kind w.next next)
          ∙ λ i. record {
            at = w.next + (w.next - p) % 2;
            count = sym (ap (λ (y : Inside). y.count) known) i;
            children = sym (ap (λ (y : Inside). y.children) known) i;
          }

pub ruleset shape_laws = (header-room, no_items, items_room, items_pass, items_past, items_fit, items_left)
