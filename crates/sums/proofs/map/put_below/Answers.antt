-- `sums::map::put_below` meets its contract: the number is tested, the power's place is found, and there the power is put.
use Rattle.std.proofs.Common.{refl, sym, arith}
use Rattle.cells.specs.Contract.Book.{seen}
use Rattle.cells.specs.Contract.Moves.{under}
use Rattle.limits.specs.declared.Refusal.TheVariants.{PowerNotFinite}
use Rattle.sums.specs.Tree.Kinds.{X}
use Rattle.sums.specs.Tree.Sums.{none, entry}
use Rattle.sums.proofs.map.Putting.{formed-number, answer-refused, power-putting}
use Rattle.sums.proofs.map.put_below.Goals as goal

-- the number is not finite
pub returns-then-not-is_finite-clause-of_one_2 : goal.returns-then-not-is_finite-clause-of_one_2
returns-then-not-is_finite-clause-of_one_2 c s l =
    let x = entry X 0 c.args.num c.args.c in
    let answer = answer-refused c.args.how x (seen c.args.book.now) c.args.p s none PowerNotFinite (formed-number c.args.how x none s (sym c.if-not-is_finite.ensures)) in
    answer.1

-- it stands there
pub put_same-requires : goal.put_same-requires
put_same-requires c =
    let pre = c.requires.n_le_sum_entries in
    let l = pre.2.1 in
    (pre.2.0, none, power-putting (sym c.if-not-is_finite.ensures) pre.0 pre.1 l (sym ((rw c.cells.ensures at c.in-Same.ensures) _ _ l refl refl)))

pub returns-in-Same-clause-kept : goal.returns-in-Same-clause-kept
returns-in-Same-clause-kept c =
    let pre = c.requires.n_le_sum_entries in
    let l = pre.2.1 in
    let answer = c.put_same.ensures.puts _ _ (power-putting (sym c.if-not-is_finite.ensures) pre.0 pre.1 l (sym ((rw c.cells.ensures at c.in-Same.ensures) _ _ l refl refl))) in
    answer.0

pub returns-in-Same-clause-of_one_2 : goal.returns-in-Same-clause-of_one_2
returns-in-Same-clause-of_one_2 c s l =
    let pre = c.requires.n_le_sum_entries in
    let answer = c.put_same.ensures.puts _ _ (power-putting (sym c.if-not-is_finite.ensures) pre.0 pre.1 l (sym ((rw c.cells.ensures at c.in-Same.ensures) _ _ l refl refl))) in
    answer.1

-- it is new
pub put_new-requires : goal.put_new-requires
put_new-requires c =
    let pre = c.requires.n_le_sum_entries in
    let l = pre.2.1 in
    ((pre.2.0, none, power-putting (sym c.if-not-is_finite.ensures) pre.0 pre.1 l (sym ((rw c.cells.ensures at c.in-Before.ensures) _ _ l refl refl))), under (omega arith))

pub returns-in-Before-clause-kept : goal.returns-in-Before-clause-kept
returns-in-Before-clause-kept c =
    let pre = c.requires.n_le_sum_entries in
    let l = pre.2.1 in
    let answer = c.put_new.ensures.puts _ _ (power-putting (sym c.if-not-is_finite.ensures) pre.0 pre.1 l (sym ((rw c.cells.ensures at c.in-Before.ensures) _ _ l refl refl))) in
    answer.0

pub returns-in-Before-clause-of_one_2 : goal.returns-in-Before-clause-of_one_2
returns-in-Before-clause-of_one_2 c s l =
    let pre = c.requires.n_le_sum_entries in
    let answer = c.put_new.ensures.puts _ _ (power-putting (sym c.if-not-is_finite.ensures) pre.0 pre.1 l (sym ((rw c.cells.ensures at c.in-Before.ensures) _ _ l refl refl))) in
    answer.1
