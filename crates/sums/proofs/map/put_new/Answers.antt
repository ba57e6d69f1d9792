-- `sums::map::put_new` meets its contract: the coefficient starts from +0, is tested, and the term goes in where there is room.
use Rattle.std.proofs.Common.{sym, rules}
use Rattle.cells.proofs.Laws.{Fitting, insides-one}
use Rattle.sums.proofs.map.Putting.{told-levels, answer-not, answer-deep, new-write, new_apart, new-coef, new-full, new-done}
use Rattle.sums.proofs.map.put_new.Goals as goal

-- the coefficient is not finite
pub returns-then-not-is_finite-clause-puts : goal.returns-then-not-is_finite-clause-puts
returns-then-not-is_finite-clause-puts c s t P = answer-not c.args.how P (new-coef c.args.how P c.merge-c.ensures) (sym c.if-not-is_finite.ensures)

-- the inside has too many levels
pub returns-then-not-nests_within-clause-puts : goal.returns-then-not-nests_within-clause-puts
returns-then-not-nests_within-clause-puts c s t P =
    let deep = told-levels P (rw (insides-one c.cells.ensures) at c.nests_within.ensures) c.if-not-nests_within.true in
    answer-deep c.args.how P (new-coef c.args.how P c.merge-c.ensures) (sym c.if-not-is_finite.ensures) deep

-- there would be more than sum_entries entries
pub returns-then-m-gt-SUM_ENTRIES-clause-puts : goal.returns-then-m-gt-SUM_ENTRIES-clause-puts
returns-then-m-gt-SUM_ENTRIES-clause-puts c s t P =
    let few-levels = told-levels P (rw (insides-one c.cells.ensures) at c.nests_within.ensures) c.if-not-nests_within.false in
    new-full c.args.how P c.merge-c.ensures (sym c.if-not-is_finite.ensures) few-levels c.if-m-gt-SUM_ENTRIES.true

pub insert-requires-clause-plain : goal.insert-requires-clause-plain
insert-requires-clause-plain c =
    let few = c.if-m-gt-SUM_ENTRIES.false in
    let write = new-write c.args.how c.requires.0.2 (sym c.if-not-is_finite.ensures) few in
    (write.0.0, write.0.1, new_apart c.args.how c.requires.0.2 few c.requires.1)

pub insert-requires-clause-k_le_e : goal.insert-requires-clause-k_le_e
insert-requires-clause-k_le_e c = let write = new-write c.args.how c.requires.0.2 (sym c.if-not-is_finite.ensures) c.if-m-gt-SUM_ENTRIES.false in write.1

pub returns-clause-puts : goal.returns-clause-puts
returns-clause-puts c s t P =
    let fitting : Fitting c.args.x = record { num = search rules; re = search rules; im = search rules } in
    let few-levels = told-levels P (rw (insides-one c.cells.ensures) at c.nests_within.ensures) c.if-not-nests_within.false in
    new-done c.args.how P fitting c.merge-c.ensures (sym c.if-not-is_finite.ensures) few-levels c.if-m-gt-SUM_ENTRIES.false c.insert.ensures.inserted
