-- Descriptors of records, as the code judges them once for all their data.
use Rattle.std.specs.Prelude.{◌≡◌, false, List, ℕ, Option, IfSome}
use Rattle.canonical.specs.inner.Walk.{Accepted}
use Rattle.store.specs.Book.{identified}
use Rattle.store.specs.Check.{says}
use Rattle.store.specs.inner.Identity.{Bears}
use Rattle.store.specs.inner.Steady.{Steady}
use Rattle.store.specs.declared.fixed.Span.{Span}

-- a descriptor d that is right: its member m carries the identifier, and all of its data has this span, where there is one
pub record Good (d : List ℕ) (m : ℕ) (span : Option Span) : Type 0 where
  pub accepted : Accepted d
  pub bears : Bears d m
  pub steady : IfSome span (Steady d m)

-- one that is not: no data of it says an identifier
pub record Mute (d : List ℕ) : Type 0 where
  pub none : (x : List ℕ) (id : ℕ) → says id (identified d x) ≡ false
