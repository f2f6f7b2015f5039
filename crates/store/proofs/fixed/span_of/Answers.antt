-- `span_of` adds up the widths of the members before the one that carries the identifier. Rests on `Steady`.
use mathlib.Core.Path.{sym, ap, ◌∙◌}
use Prim.Native.Nat.{ℕ, ◌+◌}
use native.Mathlib.Omega.{arith}
use Rattle.descriptor.specs.declared.inside.Inside.{Inside}
use Rattle.descriptor.proofs.Bodies.{header-room}
use Rattle.canonical.proofs.Whole.{accepted_of}
use Rattle.records.proofs.Topmost.{top-here}
use Rattle.store.proofs.Steady.{span-begin, span-type, span-size, span-short, span-bytes, span-again, span-done}
use Rattle.store.proofs.fixed.span_of.Goals as goal

pub inside_of-p-requires : goal.inside_of-p-requires
inside_of-p-requires c = top-here c.args.d.bytes.now (accepted_of _ c.args.d.accepted)

pub loop-init : goal.loop-init
loop-init c = span-begin c.args.d.bytes.now (accepted_of _ c.args.d.accepted) c.args.m c.requires _ (ap (λ (x : Inside). x.at) c.inside_of-p.ensures)

pub extent_of-requires : goal.extent_of-requires
extent_of-requires c =
    let l = c.loop in
    span-type c.args.d.bytes.now (accepted_of _ c.args.d.accepted) c.args.m c.requires l.p l.place l.counter l.invariant c.loop-test.true

pub overflow_add-place : goal.overflow_add-place
overflow_add-place c =
    let d = c.args.d.bytes.now in
    let l = c.loop in
    let fixed = sym c.extent_of.ensures ∙ c.in-Fixed.is in
    omega (arith, l.invariant.small, span-bytes d (accepted_of _ c.args.d.accepted) c.args.m c.requires l.p l.place l.counter l.invariant c.loop-test.true _ _ _ fixed, span-size d (accepted_of _ c.args.d.accepted) c.args.m c.requires l.p l.place l.counter l.invariant c.loop-test.true, span-short d (accepted_of _ c.args.d.accepted) c.args.m c.requires l.p l.place l.counter l.invariant c.loop-test.true)

pub size_at-p-requires : goal.size_at-p-requires
size_at-p-requires c =
    let l = c.loop in
    header-room c.args.d.bytes.now l.p (span-type c.args.d.bytes.now (accepted_of _ c.args.d.accepted) c.args.m c.requires l.p l.place l.counter l.invariant c.loop-test.true).here

pub overflow_add-p : goal.overflow_add-p
overflow_add-p c =
    let d = c.args.d.bytes.now in
    let l = c.loop in
    omega (arith, c.size_at-p.ensures.eq, span-size d (accepted_of _ c.args.d.accepted) c.args.m c.requires l.p l.place l.counter l.invariant c.loop-test.true, span-short d (accepted_of _ c.args.d.accepted) c.args.m c.requires l.p l.place l.counter l.invariant c.loop-test.true)

pub loop-preserved : goal.loop-preserved
loop-preserved c =
    let l = c.loop in
    span-again c.args.d.bytes.now (accepted_of _ c.args.d.accepted) c.args.m c.requires l.p l.place l.counter l.invariant c.loop-test.true _ _ _
    (sym c.extent_of.ensures ∙ c.in-Fixed.is) _ (ap (λ (x : ℕ). l.p + x) c.size_at-p.ensures.eq)

pub returns : goal.returns
returns c =
    let l = c.loop in
    span-done c.args.d.bytes.now (accepted_of _ c.args.d.accepted) c.args.m c.requires l.p l.place l.counter l.invariant (omega arith) _ c.in_ok-width.ensures
