-- `copy_picked` copies one member's bytes after another's. Rests on `Joined`.
use Rattle.members.proofs.Joined.{CopyLoop}
use Rattle.members.proofs.joining.copy_picked.Given as goal

abbrev pub invariant-loop-pick : goal.invariant-loop-pick
invariant-loop-pick l = CopyLoop l.s l.starts l.picks l.initial.out l.out l.at l.pick-index
