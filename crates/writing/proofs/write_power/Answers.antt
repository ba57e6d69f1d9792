-- `write_power` meets its contract: by the power, as the Rust compares it.
use Rattle.std.proofs.Common.{arith}
use Rattle.writing.proofs.draft.Growing.{drawn-done, spoken-none, spoken-more}
use Rattle.writing.proofs.Parts.{form-constant, form-root, form-bare, form-square, form-power, power-as}
use Rattle.writing.proofs.write_power.Goals as goal

pub returns-then-p : goal.returns-then-p
returns-then-p c = power-as c.args.p c.args.complex c.args.c (form-constant c.args.p c.if-p.true) c.write_constant.ensures

pub returns-then-p-2 : goal.returns-then-p-2
returns-then-p-2 c =
    power-as c.args.p c.args.complex c.args.c (form-root c.args.p c.if-p.false c.if-p-2.true) (spoken-more (drawn-done c.say_primitive.ensures) 0 4 (omega arith) (omega arith))

pub returns-then-p-3 : goal.returns-then-p-3
returns-then-p-3 c =
    power-as c.args.p c.args.complex c.args.c (form-bare c.args.p c.if-p.false c.if-p-2.false c.if-p-3.true) (spoken-more spoken-none 0 4 (omega arith) (omega arith))

pub returns-then-p-4 : goal.returns-then-p-4
returns-then-p-4 c =
    power-as c.args.p c.args.complex c.args.c (form-square c.args.p c.if-p.false c.if-p-2.false c.if-p-3.false c.if-p-4.true)
    (spoken-more (drawn-done c.say_both.ensures) 0 4 (omega arith) (omega arith))

pub returns : goal.returns
returns c =
    power-as c.args.p c.args.complex c.args.c (form-power c.args.p c.if-p.false c.if-p-2.false c.if-p-3.false c.if-p-4.false)
    (spoken-more (drawn-done c.say_with.ensures) 0 4 (omega arith) (omega arith))
