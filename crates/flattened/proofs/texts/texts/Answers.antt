-- The answers to the goals of `texts`.
use mathlib.Core.Path.{◌≡◌, sym, ap, ◌∙◌}
use Prim.Native.Nat.{ℕ}
use Rattle.std.specs.Prelude.{Ok}
use native.Mathlib.Omega.{arith}
use Rattle.flattened.specs.Walk.{text_at}
use Rattle.flattened.specs.inner.Order.{order_of}
use Rattle.flattened.specs.inner.Progress.{walked_to}
use Rattle.flattened.proofs.Steps.{word_read, word_cut, skip-to, skip-cut}
use Rattle.flattened.proofs.Strings.{text-none, text-long, text-cut, text-whole}
use Rattle.flattened.proofs.Turns.{repeat-begin, repeat-next, repeat-stop, repeat-end}
use Rattle.flattened.proofs.texts.texts.Goals as goal

pub loop-init : goal.loop-init
loop-init c = let a = c.args in (repeat-begin (λ p. text_at (order_of a.o) a.s.now p) a.n a.from.at, c.requires)

pub word-requires : goal.word-requires
word-requires c = c.loop.invariant.1

pub returns-in_default : goal.returns-in_default
returns-in_default c =
    let a = c.args in
    let l = c.loop in
    rw c.at.ensures (repeat-stop (λ p. text_at (order_of a.o) a.s.now p) a.n a.from.at l.counter _ _ l.invariant.0 c.loop-test.true 21 _
    (text-none (order_of a.o) a.s.now l.next.at (word_cut (order_of a.o) a.s.now l.next.at (sym c.in_default.is ∙ c.word.ensures))))

pub returns-then-length-ge-LENGTH_LIMIT : goal.returns-then-length-ge-LENGTH_LIMIT
returns-then-length-ge-LENGTH_LIMIT c =
    let a = c.args in
    let l = c.loop in
    let word = word_read (order_of a.o) a.s.now l.next.at _ _ (sym c.in-Some.is ∙ c.word.ensures) in
    rw c.at-then-length-ge-LENGTH_LIMIT.ensures
    (repeat-stop (λ p. text_at (order_of a.o) a.s.now p) a.n a.from.at l.counter _ _ l.invariant.0 c.loop-test.true 22 _ (text-long (order_of a.o) a.s.now l.next.at _ _ word c.if-length-ge-LENGTH_LIMIT.true))

pub skip-requires : goal.skip-requires
skip-requires c =
    let a = c.args in
    let l = c.loop in
    let word = word_read (order_of a.o) a.s.now l.next.at _ _ (sym c.in-Some.is ∙ c.word.ensures) in
    omega (arith, word.place, word.fits)

pub returns-in_default-skip : goal.returns-in_default-skip
returns-in_default-skip c =
    let a = c.args in
    let l = c.loop in
    let word = word_read (order_of a.o) a.s.now l.next.at _ _ (sym c.in-Some.is ∙ c.word.ensures) in
    rw c.at-in_default-skip.ensures (repeat-stop (λ p. text_at (order_of a.o) a.s.now p) a.n a.from.at l.counter _ _ l.invariant.0 c.loop-test.true 21 _
    (text-cut (order_of a.o) a.s.now l.next.at _ _ word (omega (arith, c.if-length-ge-LENGTH_LIMIT.false)) (skip-cut a.s.now _ _ (sym c.in_default-skip.is ∙ c.skip.ensures))))

pub loop-preserved : goal.loop-preserved
loop-preserved c =
    let a = c.args in
    let l = c.loop in
    let word = word_read (order_of a.o) a.s.now l.next.at _ _ (sym c.in-Some.is ∙ c.word.ensures) in
    let skip = skip-to a.s.now _ _ _ (sym c.in-Some-skip.is ∙ c.skip.ensures) in
    (repeat-next (λ p. text_at (order_of a.o) a.s.now p) a.n a.from.at l.counter _ _ l.invariant.0 c.loop-test.true _ 1 (text-whole (order_of a.o) a.s.now l.next.at _ _ word (omega (arith, c.if-length-ge-LENGTH_LIMIT.false)) _ skip), omega (arith, skip.fits, skip.place))

pub returns : goal.returns
returns c =
    let a = c.args in
    let l = c.loop in
    let all : l.counter ≡ a.n = omega (arith, l.invariant.0.most) in
    ap (λ (k : ℕ). Ok (walked_to l.next k)) (sym all) ∙ repeat-end (λ p. text_at (order_of a.o) a.s.now p) a.n a.from.at l.counter _ _ l.invariant.0 (omega (arith, c.loop-test.false))
