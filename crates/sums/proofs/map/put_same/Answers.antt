-- `sums::map::put_same` meets its contract: at the key's place the coefficient is merged, tested, and written.
use Rattle.std.proofs.Common.{sym, rules}
use Rattle.cells.proofs.Laws.{Fitting, insides-one}
use Rattle.sums.proofs.map.Putting.{told-levels, answer-not, answer-deep, same_read, same_write, same-coef, same-done}
use Rattle.sums.proofs.map.put_same.Goals as goal

pub load-y-requires : goal.load-y-requires
load-y-requires c = same_read c.args.how c.requires.2

-- it is not finite
pub returns-then-not-is_finite-clause-puts : goal.returns-then-not-is_finite-clause-puts
returns-then-not-is_finite-clause-puts c s t P = answer-not c.args.how P (same-coef c.args.how P c.load-y.ensures c.merge-v.ensures) (sym c.if-not-is_finite.ensures)

-- its inside has too many levels
pub returns-then-not-nests_within-clause-puts : goal.returns-then-not-nests_within-clause-puts
returns-then-not-nests_within-clause-puts c s t P =
    let deep = told-levels P (rw (insides-one c.cells.ensures) at c.nests_within.ensures) c.if-not-nests_within.true in
    answer-deep c.args.how P (same-coef c.args.how P c.load-y.ensures c.merge-v.ensures) (sym c.if-not-is_finite.ensures) deep

pub store-requires : goal.store-requires
store-requires c = same_write c.args.how c.requires.2 c.load-y.ensures (sym c.if-not-is_finite.ensures)

-- it is written
pub returns-clause-puts : goal.returns-clause-puts
returns-clause-puts c s t P =
    let fitting : Fitting c.args.x = record { num = search rules; re = search rules; im = search rules } in
    let few-levels = told-levels P (rw (insides-one c.cells.ensures) at c.nests_within.ensures) c.if-not-nests_within.false in
    same-done c.args.how P fitting c.load-y.ensures c.merge-v.ensures (sym c.if-not-is_finite.ensures) few-levels c.store.ensures.put
