-- Descriptors that were judged, and what their data says: what each case says of a record's identifier. Rests on the laws of identifiers and of
-- spans.
use mathlib.Core.Path.{◌≡◌, refl, sym, ap, ◌∙◌}
use mathlib.Core.Bool.{true, false}
use mathlib.Core.List.{List}
use Prim.Native.Nat.{ℕ, ◌+◌, ◌≤◌, ◌<◌}
use native.Mathlib.Omega.{arith}
use lib.Dec.{eqb}
use lib.ListN.{length, get_or}
use Rattle.std.specs.Prelude.{Option, Some, Result, Ok, Err}
use Rattle.std.specs.Result.{is_err}
use Rattle.std.proofs.Math.Bool.{Bool-set}
use Rattle.std.proofs.Math.Bridge.{le_prop}
use Rattle.std.proofs.Math.Logic.{∥∥₁_elim}
use Rattle.std.proofs.lemmas.Grind.{not_there}
use Rattle.number.specs.Endian.{be}
use Rattle.descriptor.specs.Tree.{Tree}
use Rattle.descriptor.specs.Outcome.{Outcome, refused, read, Verdict, denied}
use Rattle.descriptor.specs.Check.{checked}
use Rattle.descriptor.specs.declared.answer.Answer.{Answer}
use Rattle.descriptor.specs.declared.refusal.Refusal.{Refusal}
use Rattle.canonical.specs.inner.Walk.{Accepted}
use Rattle.flattened.specs.Order.{big}
use Rattle.flattened.specs.Token.{Token}
use Rattle.flattened.specs.Walk.{walked}
use Rattle.flattened.specs.inner.Types.{type_at}
use Rattle.members.specs.inner.Members.{top_at}
use Rattle.resolution.specs.inner.Data.{data_from, passed}
use Rattle.resolution.specs.inner.Tops.{TopStarts}
use Rattle.store.specs.Book.{identified}
use Rattle.store.specs.Check.{says}
use Rattle.store.specs.inner.Identity.{DataOf, Bare}
use Rattle.store.specs.inner.Steady.{Steady}
use Rattle.store.specs.inner.Judging.{Good, Mute}
use Rattle.store.specs.declared.fixed.Span.{Span}
use Rattle.store.proofs.Identified.{data-denied, descriptor-denied, walk-denied, walked-data, starts-few}

-- where a result is no error
pub at-ok : {A E P : Type 0} (r : Result A E) → is_err r ≡ false → ((x : A) → r ≡ Ok x → P) → P
at-ok (Ok x) e f = f x refl
at-ok (Err y) e f = absurd (cc)

-- where it is one
pub at-err : {A E P : Type 0} (r : Result A E) → is_err r ≡ true → ((y : E) → r ≡ Err y → P) → P
at-err (Ok x) e f = absurd (cc)
at-err (Err y) e f = f y refl

ok-unit : {E : Type 0} (r : Result (Unit {0}) E) → is_err r ≡ false → r ≡ Ok tt
ok-unit (Ok tt) e = refl
ok-unit (Err y) e = absurd (cc)

-- nothing that was refused says an identifier
denied-says : (id : ℕ) (v : Verdict ℕ) (number input place : ℕ) → v ≡ denied number input place → says id v ≡ false
unfolding says
denied-says id v number input place e = ap (says id) e

-- a descriptor that is refused says none
pub mute-refused : (d : List ℕ) (number place : ℕ) → checked d ≡ refused number place → Mute d
mute-refused d number place e = record { none = λ x id. denied-says id (identified d x) number 1 place (descriptor-denied d x number place e) }

-- what is data of an accepted one decides
by-data : (d x : List ℕ) (a : Accepted d) (id : ℕ) → (DataOf d x → says id (identified d x) ≡ false) → says id (identified d x) ≡ false
by-data d x a id h = of (walked big (type_at d 0) x) refl
  where
    of : (o : Outcome (List Token)) → walked big (type_at d 0) x ≡ o → says id (identified d x) ≡ false
    of (refused number place) e = denied-says id (identified d x) number 3 place (data-denied d a x number place e)
    of (read q ts) e = h (record { end = q; tokens = ts; eq = e })

-- nor does one of which no member carries it
pub mute-bare : (d : List ℕ) → Accepted d → (a : Answer) → Bare d a → Mute d
mute-bare d accepted a bare = record {
  none = λ x id. by-data d x accepted id (λ w. denied-says id (identified d x) a.number a.input a.place (bare.lost x w));
}

-- a descriptor of which is merely known that it is right
module _ (d : List ℕ) (m : ℕ) (span : Option Span) (good : ∥ Good d m span ∥₁) where
  pub good-accepted : Accepted d
  good-accepted = of (checked d) refl
    where
      of : (o : Outcome Tree) → checked d ≡ o → Accepted d
      of (refused number place) e = absurd (not_there good (λ g. let other = sym e ∙ g.accepted.eq in cc))
      of (read q t) e = record { at = q; tree = t; eq = e }

  pub good-few : m < 256
  good-few = ∥∥₁_elim good le_prop (λ g. starts-few d g.accepted m g.bears)

  -- data under it
  module _ (x : List ℕ) (id : ℕ) where
    -- that is data of it, and in which the member starts at `at`
    module _ (at : ℕ) (data_so : Good d m span → DataOf d x) (is : Good d m span → data_from d (top_at d) x m ≡ at) where
      room : at + 4 ≤ length x
      room = ∥∥₁_elim good le_prop (λ g. omega (arith, is g, g.bears.room x (data_so g)))

      said : (n : ℕ) → n ≡ be x at 4 → eqb n id ≡ says id (identified d x)
      unfolding says
      said n e =
          ∥∥₁_elim good (Bool-set _ _)
          (λ g. ap (λ (v : ℕ). eqb v id) (e ∙ ap (λ (p : ℕ). be x p 4) (sym (is g))) ∙ ap (says id) (sym (g.bears.says x (data_so g))))

    -- where all of its data has a span
    module _ (once : Span) (so : span ≡ Some once) where
      steady : Good d m span → Steady d m once
      steady g = rw so at g.steady

      -- this has another length
      pub once-short : (length x ≡ once.width → ⊥) → false ≡ says id (identified d x)
      once-short differ =
          ∥∥₁_elim good (Bool-set _ _) (λ g. sym (by-data d x g.accepted id (λ w. absurd (differ ((steady g).long x w)))))

      -- this has its length
      module _ (same : length x ≡ once.width) where
        fine : Good d m span → DataOf d x
        fine g = (steady g).whole x same

        pub once-room : once.place + 4 ≤ length x
        once-room = room once.place fine (λ g. (steady g).placed x (fine g))

        pub once-said : (n : ℕ) → n ≡ be x once.place 4 → eqb n id ≡ says id (identified d x)
        once-said = said once.place fine (λ g. (steady g).placed x (fine g))

    -- where it was walked
    module _ (w : Result (Unit {0}) Refusal) (walks : w ≡ passed (walked big (type_at d 0) x)) where
      pub walked-lost : is_err w ≡ true → false ≡ says id (identified d x)
      walked-lost off = at-err w off (λ e is. sym (denied-says id (identified d x) e.number 3 e.place (walk-denied d x good-accepted e (sym is ∙ walks))))

      module _ (on : is_err w ≡ false) (starts : List ℕ) (begun : TopStarts d x starts w) (at : ℕ) (so : at ≡ get_or starts m 0) where
        fits : DataOf d x
        fits = walked-data d x (sym (ok-unit w on) ∙ walks)

        place : Good d m span → data_from d (top_at d) x m ≡ at
        place g = sym (so ∙ ((rw (ok-unit w on) at begun) g.bears.cluster).at m (omega (arith, g.bears.within)))

        pub walked-room : at + 4 ≤ length x
        walked-room = room at (λ _. fits) place

        pub walked-said : (n : ℕ) → n ≡ be x at 4 → eqb n id ≡ says id (identified d x)
        walked-said = said at (λ _. fits) place
