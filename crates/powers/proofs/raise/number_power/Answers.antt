-- The number is written to the first cell of another book, and its power is copied out.
use Rattle.std.proofs.Common.{◌+◌, arith, rules}
use Rattle.std.proofs.lemmas.Result.{err_from_is_err_and}
use lib.Dec.{T}
use lib.Ieee.{binary64, fits}
use Rattle.numbers.specs.Complex.Arith.{real}
use Rattle.cells.specs.Contract.Book.{seen, Room}
use Rattle.cells.specs.Contract.Moves.{under}
use Rattle.cells.proofs.Laws.{room-less, room-same, room-fresh, kept-wider, copied-kept}
use Rattle.sums.specs.Contract.Lies.{Lies, Agrees}
use Rattle.sums.proofs.order.Walk.{lies-copied}
use Rattle.arithmetic.specs.Singles.{constant}
use Rattle.arithmetic.specs.Power.{power}
use Rattle.arithmetic.proofs.add.Lying.{Agreed, agreed-done, agreed-refused, agree-done, agree-refused}
use Rattle.powers.proofs.raise.Constants.{constant-lies}
use Rattle.powers.proofs.raise.number_power.Goals as goal
use Rattle.powers.proofs.raise.number_power.Goals.{Start, After-store, After-power_by-raised, In_ok-m}

fitting : (c : Start) → T (fits binary64 c.args.base)
fitting c = search rules

room-there : (c : After-store) → Room (seen c.store.new.self) 192
room-there c = room-same c.store.ensures.put.long (room-fresh 192)

number : (c : After-store) → Lies (seen c.store.new.self) 0 (0 + 1) 4 (constant (real c.args.base))
number c = constant-lies _ c.requires.0 0 (room-less {n = 192} (omega arith) (room-fresh 192)) (fitting (goal.at.After-store c).Start) c.store.ensures.put

told : (c : After-power_by-raised) → Agrees c.power_by-raised.result.formed (seen c.power_by-raised.new.book) 64 (power (constant (real c.args.base)) c.args.e)
told c = c.power_by-raised.ensures.of_one _ (number (goal.at.After-power_by-raised c).After-store)

made : (c : In_ok-m) → Agreed (seen c.power_by-raised.new.book) 64 c.in_ok-m.m (power (constant (real c.args.base)) c.args.e)
made c = agreed-done (seen c.power_by-raised.new.book) 64 _ c.power_by-raised.result.formed _ (told (goal.at.In_ok-m c).After-power_by-raised) c.in_ok-m.was

pub power_by-raised-requires : goal.power_by-raised-requires
power_by-raised-requires c =
    let d = (goal.at.power_by-raised-requires c).After-store in
    (c.requires.1, record { few = omega arith; held = (_, number d); apart = under (omega arith) }, room-there d)

pub returns-in_err-m-clause-agrees : goal.returns-in_err-m-clause-agrees
returns-in_err-m-clause-agrees c =
    let d = (goal.at.returns-in_err-m-clause-agrees c).After-power_by-raised in
    let p = err_from_is_err_and c.from_residual.result c.from_residual.ensures.1 in
    rw (p.1, p.2)
    (agree-refused (seen c.args.book.now) c.args.p _ _ (agreed-refused (seen c.power_by-raised.new.book) 64 _ c.power_by-raised.result.formed _ (told d) c.in_err-m.was))

pub copy_in-requires : goal.copy_in-requires
copy_in-requires c =
    let g = goal.at.copy_in-requires c in
    let few = (made g.In_ok-m).few in
    rw c.cells.ensures (room-less {n = 192} (omega arith) (room-same c.power_by-raised.ensures.kept.long (room-there g.After-store)), room-less {n = c.args.p + 64} (omega arith) c.requires.2)

pub returns-clause-kept : goal.returns-clause-kept
returns-clause-kept c = let few = (made (goal.at.returns-clause-kept c).In_ok-m).few in kept-wider (omega arith) (omega arith) (copied-kept c.copy_in.ensures.copied)

pub returns-clause-agrees : goal.returns-clause-agrees
returns-clause-agrees c =
    let a = made (goal.at.returns-clause-agrees c).In_ok-m in
    let few = a.few in
    agree-done (seen c.copy_in.new.self) c.args.p _ _ a.s a.is a.few (lies-copied (rw c.cells.ensures at c.copy_in.ensures.copied) (room-less {n = c.args.p + 64} (omega arith) c.requires.2) a.lies)
