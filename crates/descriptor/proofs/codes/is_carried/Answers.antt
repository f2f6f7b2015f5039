-- `is_carried` goes by the kind of the code. Assumes nothing.
use mathlib.Core.Path.{ap}
use Rattle.descriptor.specs.Codes.{kind_of, is_carried}
use Rattle.descriptor.specs.declared.codes.Kind.TheVariants as kinds
use Rattle.descriptor.proofs.CodeKinds.{kind_named, known}
use Rattle.descriptor.proofs.codes.is_carried.Goals as goal

pub returns-in-Plain : goal.returns-in-Plain
returns-in-Plain c = ap is_carried (known _ kinds.Plain (kind_of c.args.code) c.kind_of-k.ensures c.in-Plain.is)

pub returns-in-Enumeration : goal.returns-in-Enumeration
returns-in-Enumeration c = ap is_carried (known _ kinds.Enumeration (kind_of c.args.code) c.kind_of-k.ensures c.in-Enumeration.is)

pub returns-in-Quantity : goal.returns-in-Quantity
returns-in-Quantity c = ap is_carried (known _ kinds.Quantity (kind_of c.args.code) c.kind_of-k.ensures c.in-Quantity.is)

pub returns-in-Text : goal.returns-in-Text
returns-in-Text c = ap is_carried (known _ kinds.Text (kind_of c.args.code) c.kind_of-k.ensures c.in-Text.is)

pub returns-in-Array : goal.returns-in-Array
returns-in-Array c = ap is_carried (known _ kinds.Array (kind_of c.args.code) c.kind_of-k.ensures c.in-Array.is)

pub returns-in-Cluster : goal.returns-in-Cluster
returns-in-Cluster c = ap is_carried (known _ kinds.Cluster (kind_of c.args.code) c.kind_of-k.ensures c.in-Cluster.is)

pub returns-in-Stamp : goal.returns-in-Stamp
returns-in-Stamp c = ap is_carried (known _ kinds.Stamp (kind_of c.args.code) c.kind_of-k.ensures c.in-Stamp.is)

pub returns-in-Unknown : goal.returns-in-Unknown
returns-in-Unknown c = ap is_carried (known _ kinds.Unknown (kind_of c.args.code) c.kind_of-k.ensures c.in-Unknown.is)
