-- `inside_of` goes by the kind of the code and the count word. Assumes nothing.
use mathlib.Core.Path.{refl, ap, ◌∙◌}
use Prim.Native.Nat.{◌+◌, ◌*◌}
use native.Mathlib.Omega.{arith}
use Rattle.number.specs.Endian.{be}
use Rattle.descriptor.specs.Codes.{plain, enumeration, quantity, string, array, cluster, stamp, unknown, kind_of}
use Rattle.descriptor.specs.inner.Standing.{leaf_inside}
use Rattle.descriptor.specs.declared.codes.Kind.TheVariants as kinds
use Rattle.descriptor.proofs.CodeKinds.{kind_named, known}
use Rattle.descriptor.proofs.Bodies.{has_count, inside_by, header-room, inside_is, word_room}
use Rattle.descriptor.proofs.inside.inside_of.Goals as goal

pub body_at-body-requires : goal.body_at-body-requires
body_at-body-requires c = omega (arith, header-room c.args.d.now c.args.p c.requires, c.requires.small)

pub code_at-requires : goal.code_at-requires
code_at-requires c = header-room c.args.d.now c.args.p c.requires

pub be16-n-requires : goal.be16-n-requires
unfolding has_count
be16-n-requires c = let room = word_room c.args.d.now c.args.p c.requires enumeration (known _ kinds.Enumeration (kind_of c.code_at.result) c.kind_of-k.ensures c.in-Enumeration.is ∙ ap kind_of c.code_at.ensures) refl in omega (arith, c.body_at-body.ensures)

pub overflow_add-result : goal.overflow_add-result
overflow_add-result c = omega (arith, header-room c.args.d.now c.args.p c.requires, c.requires.small, c.body_at-body.ensures)

pub be16-n-requires-in-Quantity : goal.be16-n-requires-in-Quantity
unfolding has_count
be16-n-requires-in-Quantity c = let room = word_room c.args.d.now c.args.p c.requires quantity (known _ kinds.Quantity (kind_of c.code_at.result) c.kind_of-k.ensures c.in-Quantity.is ∙ ap kind_of c.code_at.ensures) refl in omega (arith, c.body_at-body.ensures)

pub overflow_add-result-in-Quantity : goal.overflow_add-result-in-Quantity
overflow_add-result-in-Quantity c = omega (arith, header-room c.args.d.now c.args.p c.requires, c.requires.small, c.body_at-body.ensures)

pub overflow_add-result-in-Quantity-2 : goal.overflow_add-result-in-Quantity-2
overflow_add-result-in-Quantity-2 c = omega (arith, header-room c.args.d.now c.args.p c.requires, c.requires.small, c.body_at-body.ensures, c.be16-n-in-Quantity.ensures.below)

pub overflow_add-body : goal.overflow_add-body
overflow_add-body c = omega (arith, header-room c.args.d.now c.args.p c.requires, c.requires.small, c.body_at-body.ensures)

pub be16-n-requires-in-Array : goal.be16-n-requires-in-Array
unfolding has_count
be16-n-requires-in-Array c = let room = word_room c.args.d.now c.args.p c.requires array (known _ kinds.Array (kind_of c.code_at.result) c.kind_of-k.ensures c.in-Array.is ∙ ap kind_of c.code_at.ensures) refl in omega (arith, c.body_at-body.ensures)

pub overflow_add-result-in-Array : goal.overflow_add-result-in-Array
overflow_add-result-in-Array c = omega (arith, header-room c.args.d.now c.args.p c.requires, c.requires.small, c.body_at-body.ensures)

pub overflow_add-result-in-Array-2 : goal.overflow_add-result-in-Array-2
overflow_add-result-in-Array-2 c = omega (arith, header-room c.args.d.now c.args.p c.requires, c.requires.small, c.body_at-body.ensures, c.be16-n-in-Array.ensures.below)

pub be16-n-requires-in-Cluster : goal.be16-n-requires-in-Cluster
unfolding has_count
be16-n-requires-in-Cluster c = let room = word_room c.args.d.now c.args.p c.requires cluster (known _ kinds.Cluster (kind_of c.code_at.result) c.kind_of-k.ensures c.in-Cluster.is ∙ ap kind_of c.code_at.ensures) refl in omega (arith, c.body_at-body.ensures)

pub overflow_add-result-in-Cluster : goal.overflow_add-result-in-Cluster
overflow_add-result-in-Cluster c = omega (arith, header-room c.args.d.now c.args.p c.requires, c.requires.small, c.body_at-body.ensures)

pub overflow_add-result-in-Stamp : goal.overflow_add-result-in-Stamp
overflow_add-result-in-Stamp c = omega (arith, header-room c.args.d.now c.args.p c.requires, c.requires.small, c.body_at-body.ensures)

pub returns-in-Plain : goal.returns-in-Plain
unfolding inside_by
returns-in-Plain c = c.leaf.ensures ∙ (ap (λ x. leaf_inside x) c.body_at-body.ensures ∙ inside_is c.args.d.now c.args.p c.requires plain (known _ kinds.Plain (kind_of c.code_at.result) c.kind_of-k.ensures c.in-Plain.is ∙ ap kind_of c.code_at.ensures))

pub returns-in-Enumeration : goal.returns-in-Enumeration
unfolding inside_by
returns-in-Enumeration c = (λ i. record { at = c.body_at-body.ensures i + 2; count = (c.be16-n.ensures.eq ∙ ap (λ x. be c.args.d.now x 2) c.body_at-body.ensures) i; children = 0 }) ∙ inside_is c.args.d.now c.args.p c.requires enumeration (known _ kinds.Enumeration (kind_of c.code_at.result) c.kind_of-k.ensures c.in-Enumeration.is ∙ ap kind_of c.code_at.ensures)

pub returns-in-Quantity : goal.returns-in-Quantity
unfolding inside_by
returns-in-Quantity c = (λ i. record { at = c.body_at-body.ensures i + 2 + 4 * (c.be16-n-in-Quantity.ensures.eq ∙ ap (λ x. be c.args.d.now x 2) c.body_at-body.ensures) i; count = (c.be16-n-in-Quantity.ensures.eq ∙ ap (λ x. be c.args.d.now x 2) c.body_at-body.ensures) i; children = 0 }) ∙ inside_is c.args.d.now c.args.p c.requires quantity (known _ kinds.Quantity (kind_of c.code_at.result) c.kind_of-k.ensures c.in-Quantity.is ∙ ap kind_of c.code_at.ensures)

pub returns-in-Text : goal.returns-in-Text
unfolding inside_by
returns-in-Text c = c.leaf-in-Text.ensures ∙ (ap (λ x. leaf_inside (x + 4)) c.body_at-body.ensures ∙ inside_is c.args.d.now c.args.p c.requires string (known _ kinds.Text (kind_of c.code_at.result) c.kind_of-k.ensures c.in-Text.is ∙ ap kind_of c.code_at.ensures))

pub returns-in-Array : goal.returns-in-Array
unfolding inside_by
returns-in-Array c = (λ i. record { at = c.body_at-body.ensures i + 2 + 4 * (c.be16-n-in-Array.ensures.eq ∙ ap (λ x. be c.args.d.now x 2) c.body_at-body.ensures) i; count = (c.be16-n-in-Array.ensures.eq ∙ ap (λ x. be c.args.d.now x 2) c.body_at-body.ensures) i; children = 1 }) ∙ inside_is c.args.d.now c.args.p c.requires array (known _ kinds.Array (kind_of c.code_at.result) c.kind_of-k.ensures c.in-Array.is ∙ ap kind_of c.code_at.ensures)

pub returns-in-Cluster : goal.returns-in-Cluster
unfolding inside_by
returns-in-Cluster c = (λ i. record { at = c.body_at-body.ensures i + 2; count = (c.be16-n-in-Cluster.ensures.eq ∙ ap (λ x. be c.args.d.now x 2) c.body_at-body.ensures) i; children = (c.be16-n-in-Cluster.ensures.eq ∙ ap (λ x. be c.args.d.now x 2) c.body_at-body.ensures) i }) ∙ inside_is c.args.d.now c.args.p c.requires cluster (known _ kinds.Cluster (kind_of c.code_at.result) c.kind_of-k.ensures c.in-Cluster.is ∙ ap kind_of c.code_at.ensures)

pub returns-in-Stamp : goal.returns-in-Stamp
unfolding inside_by
returns-in-Stamp c = (λ i. record { at = c.body_at-body.ensures i + 2; count = 0; children = 1 }) ∙ inside_is c.args.d.now c.args.p c.requires stamp (known _ kinds.Stamp (kind_of c.code_at.result) c.kind_of-k.ensures c.in-Stamp.is ∙ ap kind_of c.code_at.ensures)

pub returns-in-Unknown : goal.returns-in-Unknown
unfolding inside_by
returns-in-Unknown c = c.leaf-in-Unknown.ensures ∙ (ap (λ x. leaf_inside x) c.body_at-body.ensures ∙ inside_is c.args.d.now c.args.p c.requires unknown (known _ kinds.Unknown (kind_of c.code_at.result) c.kind_of-k.ensures c.in-Unknown.is ∙ ap kind_of c.code_at.ensures))
