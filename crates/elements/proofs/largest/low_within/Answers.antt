-- The answers to the goals of `low_within`.
use Prim.Native.Nat.{◌/◌}
use native.Mathlib.Omega.{arith}
use lib.ListN.{length}
use Rattle.flattened.specs.inner.Order.{order_of}
use Rattle.elements.proofs.Maxima.{apart_more, each-low, low-more}
use Rattle.elements.proofs.largest.low_within.Goals as goal

pub returns-then-largest-limit : goal.returns-then-largest-limit
returns-then-largest-limit c =
    let a = c.args in
    (omega arith, each-low a.limit (order_of a.o) a.s.now a.w a.step a.at a.n (omega (arith, c.largest.ensures, c.if-largest-limit.true)))

pub largest-requires-in-loop-span : goal.largest-requires-in-loop-span
largest-requires-in-loop-span c =
    let a = c.args in
    let l = c.loop-span in
    record { narrow = c.requires.narrow; apart = apart_more a.w a.step a.at (length a.s.now) l.count (l.span / 2) a.n (omega (arith, l.invariant.0)) c.requires.apart }

pub loop-span-preserved-then-largest-limit-2 : goal.loop-span-preserved-then-largest-limit-2
loop-span-preserved-then-largest-limit-2 c =
    let a = c.args in
    let l = c.loop-span in (
      omega (arith, l.invariant.0),
      low-more a.limit (order_of a.o) a.s.now a.w a.step a.at l.count (l.span / 2) l.invariant.1
          (each-low a.limit (order_of a.o) a.s.now a.w a.step _ (l.span / 2) (omega (arith, c.largest-in-loop-span.ensures, c.if-largest-limit-2.true))),
    )
