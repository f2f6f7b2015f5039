-- `pick` searches by name and compares the types. Rests on `Chosen`.
use Rattle.flattened.specs.inner.Types.{type_at}
use Rattle.resolution.proofs.Chosen.{pick-none, pick-other, pick-same}
use Rattle.resolution.proofs.picking.pick.Goals as goal

pub returns-in_default : goal.returns-in_default
returns-in_default c =
    let w = c.args.w.now.roster in
    let t = type_at c.args.r.now c.args.q in
    pick-none w.d.now w.count t c.args.j w.places.now w.names.now c.args.name.now w.listed c.requires.name c.search-found.result c.search-found.ensures c.in_default.not-Found _ c.search_number.ensures

pub returns-then-not-same_type : goal.returns-then-not-same_type
returns-then-not-same_type c =
    let w = c.args.w.now.roster in
    let t = type_at c.args.r.now c.args.q in
    pick-other w.d.now w.count t c.args.j w.places.now w.names.now c.args.name.now w.listed c.requires.name _ c.last_named-last.ensures _ c.unwrap-i.ensures _ c.in-Found.ensures _ c.from.ensures _ c.same_type.ensures c.if-not-same_type.true _ c.at.ensures

pub returns : goal.returns
returns c =
    let w = c.args.w.now.roster in
    let t = type_at c.args.r.now c.args.q in
    pick-same w.d.now w.count t c.args.j w.places.now w.names.now c.args.name.now w.listed c.requires.name _ c.last_named-last.ensures _ c.unwrap-i.ensures _ c.in-Found.ensures _ c.from.ensures _ c.same_type.ensures c.if-not-same_type.false
