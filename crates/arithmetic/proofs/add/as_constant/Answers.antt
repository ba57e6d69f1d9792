-- A sum of one cell is one term, which decides.
use Rattle.std.proofs.Common.{sym, ap, ◌∙◌, Bool, cond, arith}
use Rattle.sums.specs.Tree.Map as map
use Rattle.sums.proofs.order.Walk.{next-at}
use Rattle.arithmetic.specs.Add.Contract.Operands.{constant_of}
use Rattle.arithmetic.proofs.add.Reading.{not-one, one}
use Rattle.arithmetic.proofs.add.as_constant.Goals as goal

pub returns-then-n-ne1 : goal.returns-then-n-ne1
returns-then-n-ne1 c s ls = ap constant_of (sym (not-one ls (λ e. omega arith)).0)

pub load-x-requires : goal.load-x-requires
load-x-requires c =
    let n = next-at _ _ _ 4 c.requires.0 c.requires.1 (omega arith) in
    (n.readable, n.first.plain)

pub returns-then-is_one : goal.returns-then-is_one
returns-then-is_one c s ls =
    let x = c.load-x.result in
    let read = (one x c.load-x.ensures ls (omega arith)).0 in
    ap constant_of (sym (read ∙ ap (λ (v : Bool). cond v (map.at x.coef) map.absent) (sym c.if-is_one.ensures)))

pub returns-else-is_one : goal.returns-else-is_one
returns-else-is_one c s ls =
    let x = c.load-x.result in
    let read = (one x c.load-x.ensures ls (omega arith)).0 in
    ap constant_of (sym (read ∙ ap (λ (v : Bool). cond v (map.at x.coef) map.absent) (sym c.if-is_one.ensures)))
