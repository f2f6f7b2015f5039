-- The answers to the goals of `low`.
use native.Mathlib.Omega.{arith}
use lib.ListN.{length}
use Rattle.flattened.specs.inner.Order.{order_of}
use Rattle.elements.proofs.Maxima.{apart_more, low-more}
use Rattle.elements.proofs.largest.low.Goals as goal

pub low_within-more-requires : goal.low_within-more-requires
low_within-more-requires c =
    let a = c.args in
    let l = c.loop-count in
    record { narrow = c.requires.narrow; apart = apart_more a.w a.step a.at (length a.s.now) l.count c.min-span.result a.n (grind arith) c.requires.apart }

pub returns-then-more-span : goal.returns-then-more-span
returns-then-more-span c =
    let a = c.args in
    let l = c.loop-count in
    let more = c.low_within-more in (
      grind arith,
      low-more a.limit (order_of a.o) a.s.now a.w a.step a.at l.count more.result l.invariant.1.1 more.ensures.1,
    )

pub loop-count-preserved : goal.loop-count-preserved
loop-count-preserved c =
    let a = c.args in
    let l = c.loop-count in
    let more = c.low_within-more in (
      c.longer-stretch.ensures,
      (
        grind arith,
        low-more a.limit (order_of a.o) a.s.now a.w a.step a.at l.count more.result l.invariant.1.1 more.ensures.1,
      ),
    )
