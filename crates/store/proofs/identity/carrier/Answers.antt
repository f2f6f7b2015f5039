-- `carrier` searches for the member that the shape asks for. Rests on `Identified`.
use mathlib.Core.Path.{sym}
use Rattle.members.proofs.Chaining.{fresh-chains}
use Rattle.canonical.proofs.Whole.{accepted_of}
use Rattle.records.proofs.Topmost.{top-here, top-members}
use Rattle.store.proofs.Identified.{shape-called, carries-none, carries-lost, carries-got}
use Rattle.store.proofs.identity.carrier.Goals as goal

pub is_cluster-requires : goal.is_cluster-requires
is_cluster-requires c = top-here c.args.d.bytes.now (accepted_of _ c.args.d.accepted)

pub returns-then-not-is_cluster : goal.returns-then-not-is_cluster
returns-then-not-is_cluster c = rw c.refused.ensures (carries-none c.args.d.bytes.now (accepted_of _ c.args.d.accepted) (sym c.if-not-is_cluster.ensures))

pub list-roster-requires-clause-stands : goal.list-roster-requires-clause-stands
list-roster-requires-clause-stands c = top-here c.args.d.bytes.now (accepted_of _ c.args.d.accepted)

pub list-roster-requires-clause-members : goal.list-roster-requires-clause-members
list-roster-requires-clause-members c = top-members c.args.d.bytes.now (accepted_of _ c.args.d.accepted) (sym c.if-not-is_cluster.ensures)

pub of-chains-requires : goal.of-chains-requires
of-chains-requires c = fresh-chains

pub pick-requires : goal.pick-requires
pick-requires c = shape-called

pub returns-in-Ok : goal.returns-in-Ok
returns-in-Ok c =
    let d = c.args.d.bytes.now in
    carries-got d (accepted_of _ c.args.d.accepted) (sym c.if-not-is_cluster.ensures) c.in-Ok.member
    (rw (c.of-chains.ensures, c.list-roster.ensures.of, c.list-roster.ensures.all) at c.in-Ok.ensures) c.args.d.small

pub returns-in-Err : goal.returns-in-Err
returns-in-Err c =
    let d = c.args.d.bytes.now in
    rw c.of.ensures
    (carries-lost d (accepted_of _ c.args.d.accepted) (sym c.if-not-is_cluster.ensures) c.in-Err.refusal
    (rw (c.of-chains.ensures, c.list-roster.ensures.of, c.list-roster.ensures.all) at c.in-Err.ensures))
