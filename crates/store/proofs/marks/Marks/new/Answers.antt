-- The marks are laid down unmet.
use mathlib.Core.Path.{refl}
use Rattle.store.specs.inner.Marks.{NoneLeft}
use Rattle.store.proofs.marks.Marks.new.Goals as goal

pub returns : goal.returns
unfolding NoneLeft
returns c = refl
