-- `size_words` meets its contract. The invariant: the sizes that are left, and the capped product so far, stand for all.
use Rattle.flattened.specs.inner.Order.{order_of}
use Rattle.flattened.proofs.Products.{SizesLoop}
use Rattle.flattened.proofs.sizes.size_words.Given as goal

abbrev pub invariant-loop-i : goal.invariant-loop-i
invariant-loop-i l = SizesLoop (order_of l.o) l.s l.dims l.at l.count l.i
