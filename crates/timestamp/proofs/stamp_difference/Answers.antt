use Rattle.std.proofs.Common.{◌≡◌, ◌+◌, ◌-◌, ◌%◌, ◌^◌, ltb, pos, ◌-ℤ◌, ◌∙◌, arith, w64, SFits, to_z, of_z, to_z-of_z}
use Rattle.timestamp.specs.Difference.{time_of, less, difference}
use Rattle.timestamp.proofs.Taking.{wide, borrowed-few, borrowed-is, less-fits, less-is, seconds-handed, fraction-is, given-fit, given-far}
use Rattle.timestamp.proofs.stamp_difference.Goals as goal
use Rattle.timestamp.proofs.stamp_difference.Goals.{After-from-2}

-- the seconds that are given or refused
seconds : (c : After-from-2) → let a = c.args in
    wide (wide (wide c.from.result -ℤ wide c.from-2.result) -ℤ wide c.from-borrowed.result) ≡ (less (time_of a.a a.b a.c a.d) (time_of a.e a.f a.g a.h)).seconds
seconds c =
    let a = c.args in
    let r = c.ranges in
    let whole = less-is c.seconds_of.result c.seconds_of-2.result c.seconds_of.type_inv c.seconds_of-2.type_inv (borrowed-few _) c.from.ensures c.from-2.ensures c.from-borrowed.ensures in
    let first = c.seconds_of.ensures ∙ seconds-handed a.a a.b r.a r.b in
    let second = c.seconds_of-2.ensures ∙ seconds-handed a.e a.f r.e r.f in
    cc (borrowed-is (ltb c.fraction_of-x.result c.fraction_of-y.result))

pub overflow_sub-seconds-2 : goal.overflow_sub-seconds-2
overflow_sub-seconds-2 c = less-fits c.seconds_of.result c.seconds_of-2.result c.seconds_of.type_inv c.seconds_of-2.type_inv (borrowed-few _) c.from.ensures c.from-2.ensures c.from-borrowed.ensures

pub returns-in-Ok : goal.returns-in-Ok
unfolding difference
returns-in-Ok c =
    let a = c.args in
    let t = less (time_of a.a a.b a.c a.d) (time_of a.e a.f a.g a.h) in
    let s = seconds (goal.at.returns-in-Ok c).After-from-2 in
    let fits : SFits w64 t.seconds = rw s at c.in-Ok.ensures.0 in
    let given : to_z w64 (of_z w64 c.in-Ok.seconds) ≡ t.seconds = cc (c.in-Ok.ensures.1, to_z-of_z fits) in
    let x = c.fraction_of-x.result in
    let y = c.fraction_of-y.result in
    let wrapped = (x + (2 ^ 64 - y)) % 2 ^ 64 in
    let fraction : wrapped ≡ t.fraction = fraction-is wrapped x y (omega arith) (omega arith) (omega arith) ∙ cc (c.fraction_of-x.ensures, c.fraction_of-y.ensures) in
    (λ i. record { answer = c.accepted.ensures i; seconds = given i; fraction = fraction i }) ∙ given-fit t fits

pub returns-in-Err : goal.returns-in-Err
unfolding difference
returns-in-Err c =
    let a = c.args in
    let t = less (time_of a.a a.b a.c a.d) (time_of a.e a.f a.g a.h) in
    let s = seconds (goal.at.returns-in-Err c).After-from-2 in
    (λ i. record { answer = c.refused.ensures i; seconds = pos 0; fraction = 0 }) ∙ given-far t (rw s at c.in-Err.ensures)
