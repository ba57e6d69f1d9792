-- Each entry is read, and derived into the sum that grows apart from it.
use Rattle.std.proofs.Common.{◌+◌, arith, rules, refl}
use Rattle.std.proofs.lemmas.Result.{err_from_is_err_and}
use Rattle.cells.specs.Contract.Book.{seen}
use Rattle.calculus.specs.Derivative.{derive_into}
use Rattle.calculus.proofs.Eaching.{Turn, each_start, each-end, each-readable, turn-asks, turn-stop, turn-next}
use Rattle.calculus.proofs.derivative.derive_each.Goals as goal
use Rattle.calculus.proofs.derivative.derive_each.Goals.{After-load-x}

-- the next entry was read
turn : (c : After-load-x) → Turn derive_into (64 + 64) (seen c.args.book.now) (seen c.loop-q.book) c.args.j c.args.m c.args.w c.loop-q.q c.loop-q.len c.load-x.result
turn c =
    record {
      given = record { source = c.requires.0; room = c.requires.1 };
      fits = omega arith;
      each = c.loop-q.invariant.0;
      read = c.load-x.ensures;
      more = c.loop-q-test.true;
    }

pub loop-q-init : goal.loop-q-init
loop-q-init c = (each_start derive_into (64 + 64) c.args.j c.args.m c.args.w c.requires.1, refl)

pub load-x-requires : goal.load-x-requires
load-x-requires c = each-readable derive_into (64 + 64) (record { source = c.requires.0; room = c.requires.1 }) c.loop-q.invariant.0 c.loop-q-test.true

pub derive_entry-requires : goal.derive_entry-requires
derive_entry-requires c = turn-asks derive_into (64 + 64) (turn (goal.at.derive_entry-requires c).After-load-x)

pub returns-in_err-len-clause-of_one : goal.returns-in_err-len-clause-of_one
returns-in_err-len-clause-of_one c =
    let p = err_from_is_err_and c.from_residual.result c.from_residual.ensures.1 in
    rw (p.1, p.2)
    (turn-stop derive_into (64 + 64) (turn (goal.at.returns-in_err-len-clause-of_one c).After-load-x) c.derive_entry.ensures.into c.in_err-len.was).1

pub loop-q-preserved : goal.loop-q-preserved
loop-q-preserved c =
    let next = turn-next derive_into (64 + 64) (turn (goal.at.loop-q-preserved c).After-load-x) c.derive_entry.ensures.into c.in_ok-len.was in
    (next, search rules)

pub returns-clause-of_one : goal.returns-clause-of_one
returns-clause-of_one c = each-end derive_into (64 + 64) c.loop-q.invariant.0 c.loop-q-test.false
