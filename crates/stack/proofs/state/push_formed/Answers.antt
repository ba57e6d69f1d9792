-- A sum is put on the stack, a refusal is given.
use Rattle.std.proofs.Common.{◌-◌, ap, arith}
use Rattle.stack.specs.Contract.Agree.{ran_of}
use Rattle.stack.proofs.slots.Laws.{stacked-le}
use Rattle.stack.proofs.state.Laws.{push-done, push-refused, does-stop}
use Rattle.stack.proofs.state.Forming.{filled-done}
use Rattle.stack.proofs.state.push_formed.Goals as goal

pub push_cells-requires : goal.push_cells-requires
push_cells-requires c =
    let few = filled-done c.args.f c.in-Ok.n c.in-Ok.is c.requires.0 in
    let low = stacked-le c.requires.1.some.1.stack in
    (few.0, few.1, omega arith, (c.args.handled, c.requires.1))

pub returns-in-Ok-clause-agrees : goal.returns-in-Ok-clause-agrees
returns-in-Ok-clause-agrees c o at g complex pairs =
    push-done _ at (1152 - c.args.v) c.in-Ok.n c.args.f o c.in-Ok.is (λ s l. c.push_cells.ensures.of_one s l at c.args.handled complex pairs) g

pub returns-in-Err-clause-agrees : goal.returns-in-Err-clause-agrees
returns-in-Err-clause-agrees c o at g complex pairs =
    push-refused _ at (1152 - c.args.v) c.in-Err.q c.args.f o c.in-Err.is
    (does-stop (λ ss k. ap (ran_of at c.args.handled complex pairs) ((rw (c.cells.ensures, c.sizes.ensures) at c.halt.ensures) ss k))) g
