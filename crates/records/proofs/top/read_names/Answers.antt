-- `read_names` lists the members and judges their names. Rests on `Topmost`.
use mathlib.Core.Path.{sym, ◌∙◌}
use Rattle.canonical.proofs.Whole.{accepted_of}
use Rattle.records.proofs.Topmost.{top-here, top-members}
use Rattle.records.proofs.top.read_names.Goals as goal

pub is_cluster-requires : goal.is_cluster-requires
is_cluster-requires c = top-here c.args.d.bytes.now (accepted_of _ c.args.d.accepted)

pub list-reader-requires-clause-stands : goal.list-reader-requires-clause-stands
list-reader-requires-clause-stands c = top-here c.args.d.bytes.now (accepted_of _ c.args.d.accepted)

pub list-reader-requires-clause-members : goal.list-reader-requires-clause-members
list-reader-requires-clause-members c =
    let d = c.args.d.bytes.now in
    let top = sym c.is_cluster.ensures ∙ c.if-not-is_cluster.false in
    top-members d (accepted_of _ c.args.d.accepted) top
