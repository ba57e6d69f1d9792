-- The bits are of a finite number, or a refusal is given.
use Rattle.std.proofs.Common.{◌-◌, ◌≡◌, ap, arith}
use Rattle.sums.specs.Tree.Map.{sum}
use Rattle.stack.specs.Steps.{constant_of}
use Rattle.stack.specs.Contract.Agree.{ran_of}
use Rattle.stack.specs.Contract.Arena.{slots}
use Rattle.stack.proofs.Forming.{not_finite}
use Rattle.stack.proofs.slots.Laws.{space-less}
use Rattle.stack.proofs.state.Laws.{does-push, does-full, does-stop, push-none}
use Rattle.stack.proofs.state.Numbers.{of-bits, constant-formed, number_size, numbered-outside, numbered-top}
use Rattle.stack.proofs.state.push_number.Goals as goal
use Rattle.stack.proofs.state.push_number.Goals.{Else-not-finite_bits}

-- past the test the constant is formed as it is
made : (c : Else-not-finite_bits) → constant_of c.args.re c.args.im ≡ sum (of-bits c.args.re c.args.im)
made c = constant-formed _ _ c.finite_bits.ensures c.finite_bits-2.ensures c.if-not-finite_bits.false

pub returns-then-not-finite_bits-clause-acts : goal.returns-then-not-finite_bits-clause-acts
returns-then-not-finite_bits-clause-acts c at complex pairs =
    let x = c.args in
    let none = not_finite x.re x.im c.finite_bits.ensures c.finite_bits-2.ensures c.if-not-finite_bits.true in
    push-none at (1152 - x.v) none (does-stop (λ ss k. ap (ran_of at x.handled complex pairs) ((rw (c.cells.ensures, c.sizes.ensures) at c.halt.ensures) ss k)))

pub returns-then-v-used-clause-acts : goal.returns-then-v-used-clause-acts
returns-then-v-used-clause-acts c at complex pairs =
    let x = c.args in
    let full = c.if-v-used.true in
    rw (made (goal.at.returns-then-v-used-clause-acts c).Else-not-finite_bits) (does-full {n = 1} at (of-bits x.re x.im) c.requires.within (number_size x.re x.im) (omega arith))

pub returns-clause-acts : goal.returns-clause-acts
returns-clause-acts c at complex pairs =
    let x = c.args in
    let room = c.if-v-used.false in
    let is = made (goal.at.returns-clause-acts c).Else-not-finite_bits in
    let a = slots x.arena.now in
    let top = numbered-top a x.used x.re x.im (space-less (omega arith) c.requires.space) is in
    rw is (does-push {n = 1} at (of-bits x.re x.im) c.requires.within (number_size x.re x.im) (omega arith) (numbered-outside a x.used x.re x.im) top)
