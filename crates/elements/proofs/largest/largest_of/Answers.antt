use mathlib.Core.Path.{◌≡◌}
use Prim.Native.Nat.{max}
use Rattle.flattened.specs.inner.Order.{order_of}
use Rattle.elements.specs.inner.Largest.{largest}
use Rattle.elements.proofs.Maxima.{larger, not-larger, largest-more}
use Rattle.elements.proofs.largest.largest_of.Goals as goal
use Rattle.elements.proofs.largest.largest_of.Goals.{then-lt, else-lt}

pub loop-i-init : goal.loop-i-init
unfolding largest
loop-i-init g c = g.met.N.Number.starts c.default-most.result c.default-most.ensures

pub loop-i-preserved : goal.loop-i-preserved
loop-i-preserved g c =
    let a = c.args in
    let value = g.N.Number.value in
    let cmp = g.N.PartialOrd.partial_cmp in
    let ordered = g.met.N.Number.ordered in
    let most = c.loop-i.most in
    let v = c.read-v.result in
    let m : value c.if-lt.most ≡ max (value most) (value v) =
    elim c.if-lt.branch [
      | then-lt w ↦ cc (w.most-is, larger value cmp ordered most v w.if-lt.ensures)
      | else-lt w ↦ cc (w.most-is, not-larger value cmp ordered most v w.if-lt.ensures)
    ] in
    cc (m, largest-more (order_of a.o) a.s.now g.N.Number.WIDTH a.step a.at c.loop-i.i, c.read-v.ensures)
