-- `judge_new` judges the bytes of a descriptor. Rests on `Judging`.
use mathlib.Core.Path.{subst}
use mathlib.Core.List.{List}
use Prim.Native.Nat.{ℕ}
use Rattle.canonical.proofs.Whole.{accepted_of}
use Rattle.store.proofs.Judging.{mute-refused, mute-bare}
use Rattle.store.specs.inner.Judging.{Mute}
use Rattle.store.proofs.judged.judge_new.Goals as goal

pub returns-in_default : goal.returns-in_default
returns-in_default c = mute-refused c.args.d.now _ _ c.in_default.ensures

pub returns-in_default-carrier : goal.returns-in_default-carrier
returns-in_default-carrier c =
    let d = c.in-Ok.descriptor in
    subst (λ (s : List ℕ). Mute s) c.in-Ok.ensures (mute-bare d.bytes.now (accepted_of _ d.accepted) _ c.in_default-carrier.ensures)

pub invariant_of-result : goal.invariant_of-result
invariant_of-result c =
    let d = c.in-Ok.descriptor in
    record { good = ∣ record { accepted = accepted_of _ d.accepted; bears = c.in-Ok-carrier.ensures; steady = c.span_of.ensures } ∣₁ }
