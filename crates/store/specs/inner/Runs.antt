-- Entries that follow each other, as the code goes over them.
use Rattle.std.specs.Prelude.{◌≡◌, Bool, List, ℕ, ◌-◌, ◌≤◌, Result}
use Rattle.descriptor.specs.declared.refusal.Refusal.{Refusal}
use Rattle.resolution.specs.inner.Data.{end_of}
use Rattle.store.specs.Check.{entries_at}
use Rattle.store.specs.inner.Entries.{seen_before}
use Rattle.store.specs.inner.Marks.{Marked}
use Rattle.store.specs.declared.runs.Run.{Run}

-- the entries before that after the run, of n, are good and have left their marks, and the body before its own ended with the run: the rest
-- decides the whole
pub record Left (s : List ℕ) (n : ℕ) (whole : Result ℕ Refusal) (marks : List Bool) (run : Run) : Type 0 where
  pub most : run.next ≤ n
  pub marked : Marked s run.next marks
  pub rest : end_of (entries_at s (seen_before s run.next) (n - run.next) run.next run.at) ≡ whole

-- so it does after a run that goes on, whatever the whole is
pub record Ran (s : List ℕ) (n : ℕ) (marks : List Bool) (run : Run) (later : List Bool) (on : Run) : Type 0 where
  pub onward : run.next ≤ on.next
  pub so : (whole : Result ℕ Refusal) → Left s n whole marks run → Left s n whole later on
