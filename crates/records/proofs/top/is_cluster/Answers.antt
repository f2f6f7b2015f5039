-- `is_cluster` asks for the kind of the code. Rests on `Topmost`.
use mathlib.Core.Path.{sym, ap, ◌∙◌}
use Rattle.descriptor.specs.Codes.{kind_of}
use Rattle.descriptor.specs.inner.Steps.{kind_is}
use Rattle.descriptor.specs.declared.codes.Kind.TheVariants as kinds
use Rattle.descriptor.proofs.CodeKinds.{known}
use Rattle.records.proofs.Topmost.{cluster-so, cluster-not}
use Rattle.records.proofs.top.is_cluster.Goals as goal

pub returns-in-Cluster : goal.returns-in-Cluster
returns-in-Cluster c =
    cluster-so c.args.d.now c.requires
    (known _ kinds.Cluster (kind_of c.code_at.result) c.kind_of.ensures c.in-Cluster.is ∙ ap kind_of c.code_at.ensures)

pub returns-in_default : goal.returns-in_default
unfolding kind_is
returns-in_default c =
    cluster-not c.args.d.now c.requires
    (λ e. c.in_default.not-Cluster (c.kind_of.ensures ∙ ap (λ x. kind_is (kind_of x)) c.code_at.ensures ∙ ap kind_is (sym e)))
