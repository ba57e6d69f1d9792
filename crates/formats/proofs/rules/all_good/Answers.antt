-- All are simple, or all that come after the simple ones stand as they may. Assumes nothing.
use native.Mathlib.Omega.{arith}
use mathlib.Core.Path.{refl}
use mathlib.Core.Bool.{false}
use Rattle.formats.proofs.record.Stands.{low-none}
use Rattle.formats.proofs.rules.all_good.Goals as goal

pub returns-then-from-n : goal.returns-then-from-n
returns-then-from-n c =
    let a = c.args in
    let p = c.past_simple-from in
    (λ _. (p.ensures.2 129 (omega arith)).0 (low-none a.list.now p.result a.n false 129 (omega arith)), λ _. refl)

pub returns : goal.returns
returns c =
    let i = c.past_simple-from.ensures.2 129 (omega arith) in
    let o = c.all_stand.ensures in
    (λ e. i.0 (o.0 e), λ y. o.1 (i.1 y))
