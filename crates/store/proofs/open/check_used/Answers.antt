-- The answers to the goals of `check_used`.
use mathlib.Core.Path.{sym}
use native.Mathlib.Omega.{arith}
use Rattle.store.proofs.Laying.{laid-stop}
use Rattle.store.proofs.Opening.{mute-blank, said-blank, left-done, left-marked, left-away, left-bad, left-doubled, left-next, left-begin}
use Rattle.store.proofs.open.check_used.Goals as goal

pub loop-run-init : goal.loop-run-init
loop-run-init c = left-begin c.args.entries.bytes.now c.args.entries.count c.args.from c.args.marks.now.met

pub returns-in_default-clause-used : goal.returns-in_default-clause-used
returns-in_default-clause-used c =
    let e = c.args.entries in
    let l = c.loop-run in
    rw c.at.ensures (left-away e.bytes.now e.count _ l.marks.met l.run l.invariant c.loop-run-test.true c.in_default.ensures)

pub returns-in_default-judge-clause-used : goal.returns-in_default-judge-clause-used
returns-in_default-judge-clause-used c =
    let e = c.args.entries in
    let l = c.loop-run in
    let r = c.in-Some.r in
    rw c.at-in_default-judge.ensures
    (left-bad e.bytes.now e.count _ l.marks.met l.run l.invariant c.loop-run-test.true r c.in-Some.ensures (mute-blank r c.in_default-judge.ensures))

pub returns-then-not-says_walked-clause-used : goal.returns-then-not-says_walked-clause-used
returns-then-not-says_walked-clause-used c =
    let e = c.args.entries in
    let l = c.loop-run in
    let r = c.in-Some.r in
    rw c.at-then-not-says_walked.ensures
    (left-bad e.bytes.now e.count _ l.marks.met l.run l.invariant c.loop-run-test.true r c.in-Some.ensures
    (sym (said-blank r _ c.in-Some-judge.ensures _ c.if-not-says_walked.ensures)))

pub is_new-requires : goal.is_new-requires
is_new-requires c = rw (c.first.ensures.bytes, c.first.ensures.count) c.loop-run.invariant.marked

pub returns-then-not-is_new-clause-used : goal.returns-then-not-is_new-clause-used
returns-then-not-is_new-clause-used c =
    let e = c.args.entries in
    let l = c.loop-run in
    let r = c.in-Some.r in
    rw c.at-then-not-is_new.ensures
    (left-doubled e.bytes.now e.count _ l.marks.met l.run l.invariant c.loop-run-test.true r c.in-Some.ensures
    (sym (said-blank r _ c.in-Some-judge.ensures _ c.if-not-says_walked.ensures))
    (rw (c.first.ensures.bytes, c.first.ensures.count) at c.if-not-is_new.ensures.fresh))

pub stop-requires : goal.stop-requires
stop-requires c = omega (arith, laid-stop c.args.entries.bytes.now c.loop-run.run.next c.loop-run.run.at c.in-Some.r c.in-Some.ensures)

pub loop-run-preserved : goal.loop-run-preserved
loop-run-preserved c =
    let e = c.args.entries in
    let l = c.loop-run in
    let r = c.in-Some.r in
    let here =
    left-next e.bytes.now e.count _ l.marks.met l.run l.invariant c.loop-run-test.true r c.in-Some.ensures
    (sym (said-blank r _ c.in-Some-judge.ensures _ c.if-not-says_walked.ensures))
    (rw (c.first.ensures.bytes, c.first.ensures.count) at c.if-not-is_new.ensures.fresh) l.marks.long _ c.stop.ensures in
    c.run_on-run.ensures.so _ (rw c.is_new.ensures.marked here)

pub returns-clause-used : goal.returns-clause-used
returns-clause-used c =
    let e = c.args.entries in
    let l = c.loop-run in
    left-done e.bytes.now e.count _ l.marks.met l.run l.invariant c.loop-run-test.false

pub returns-clause-marked : goal.returns-clause-marked
returns-clause-marked c =
    let e = c.args.entries in
    let l = c.loop-run in
    left-marked e.bytes.now e.count _ l.marks.met l.run l.invariant c.loop-run-test.false
