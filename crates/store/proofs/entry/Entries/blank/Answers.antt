-- `Entries::blank` asks where a body starts and ends. Rests on `Laying`.
use mathlib.Core.Path.{refl}
use Rattle.store.proofs.Laying.{lies-elsewhere, lies-outside, lies-laid}
use Rattle.store.proofs.entry.Entries.blank.Goals as goal

pub returns-then-start-at : goal.returns-then-start-at
returns-then-start-at c = lies-elsewhere c.args.self.bytes.now c.args.i c.args.at _ c.at-e.ensures c.if-start-at.true

pub returns-then-self-stop : goal.returns-then-self-stop
returns-then-self-stop c = lies-outside c.args.self.bytes.now c.args.i c.args.at _ c.at-e.ensures c.if-start-at.false c.if-self-stop.true

pub returns : goal.returns
returns c =
    lies-laid c.args.self.bytes.now c.args.i c.args.at _ c.at-e.ensures c.if-start-at.false c.if-self-stop.false _ refl refl refl refl
