-- `top_row` is a cluster's members, or the type itself. Rests on `Topmost`.
use mathlib.Core.Path.{sym, ◌∙◌}
use Rattle.canonical.proofs.Whole.{accepted_of}
use Rattle.records.proofs.Topmost.{top-here, top-cluster, top-single}
use Rattle.records.proofs.top.top_row.Goals as goal

pub is_cluster-requires : goal.is_cluster-requires
is_cluster-requires c = top-here c.args.d.bytes.now (accepted_of _ c.args.d.accepted)

pub inside_of-requires : goal.inside_of-requires
inside_of-requires c = top-here c.args.d.bytes.now (accepted_of _ c.args.d.accepted)

pub returns-then-is_cluster : goal.returns-then-is_cluster
returns-then-is_cluster c = top-cluster c.args.d.bytes.now (accepted_of _ c.args.d.accepted) (sym c.is_cluster.ensures ∙ c.if-is_cluster.true) _ c.inside_of.ensures

pub returns : goal.returns
returns c = top-single c.args.d.bytes.now (accepted_of _ c.args.d.accepted) (sym c.is_cluster.ensures ∙ c.if-is_cluster.false)
