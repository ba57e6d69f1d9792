-- `sums::map::put_block` meets its contract: the number is tested, the term's place is found, and there the term is put.
use Rattle.std.proofs.Common.{sym, ap, ◌∙◌}
use Rattle.cells.specs.Contract.Book.{seen}
use Rattle.sums.specs.Tree.Map.{refused}
use Rattle.sums.proofs.map.Putting.{formed-number, answer-refused, putting}
use Rattle.sums.proofs.map.put_block.Goals as goal

pub returns-then-not-is_finite-clause-of_two : goal.returns-then-not-is_finite-clause-of_two
returns-then-not-is_finite-clause-of_two c s t ls lt =
    let is = formed-number c.args.how c.args.x t s (sym c.if-not-is_finite.ensures) ∙ ap refused (sym c.not_finite-why.ensures) in
    let answer = answer-refused c.args.how c.args.x (seen c.args.book.now) c.args.p s t _ is in
    answer.1

pub returns-in-Same-clause-kept : goal.returns-in-Same-clause-kept
returns-in-Same-clause-kept c =
    let x = c.requires.good_head in
    let sum = c.requires.n_le_sum_entries in
    let P = putting x.0 (sym c.if-not-is_finite.ensures) sum.0 sum.1 sum.2.1 x.1.1 ((rw c.cells.ensures at c.in-Same.ensures) _ _ sum.2.1 x.1.1) in
    let answer = c.put_same.ensures.puts _ _ P in
    answer.0

pub returns-in-Before-clause-kept : goal.returns-in-Before-clause-kept
returns-in-Before-clause-kept c =
    let x = c.requires.good_head in
    let sum = c.requires.n_le_sum_entries in
    let P = putting x.0 (sym c.if-not-is_finite.ensures) sum.0 sum.1 sum.2.1 x.1.1 ((rw c.cells.ensures at c.in-Before.ensures) _ _ sum.2.1 x.1.1) in
    let answer = c.put_new.ensures.puts _ _ P in
    answer.0
