-- x alone is on the stack at the start. Assumes nothing.
use native.Mathlib.Omega.{arith}
use Prim.Native.Nat.{◌<◌}
use mathlib.Core.Path.{◌≡◌, refl, ap, ◌∙◌}
use mathlib.Core.List.{List}
use lib.ListN.{length, set, length-set}
use lib.Ieee.{Float}
use Rattle.formats.specs.Tree.{forest, parse}
use Rattle.running.specs.Running.{runs, start, ended, run_nodes}
use Rattle.running.specs.Contract.Views.{stack_of, view_state}
use Rattle.running.proofs.Stack.{stack_push}
use Rattle.running.proofs.Walks.{start-ready}
use Rattle.std.proofs.lemmas.Result.{err_from_is_err_and}
use Rattle.running.proofs.run.run_in.Goals as goal

x-alone : (xs : List Float) (x : Float) → 0 < length xs → view_state (set xs 0 x) (record { n = 1; steps = 0; peak = 1 }) ≡ start x
unfolding stack_of
x-alone xs x h = ap (λ s. record { stack = s; steps = 0; peak = 1 }) (stack_push xs 0 x h)

pub walk-requires : goal.walk-requires
walk-requires c =
    let a = c.args in
    let p = c.requires in
    rw p.1 (start-ready a.list.now p.0 (set a.stack.now 0 a.x) (simp length-set (omega arith)) _ refl refl)

pub returns-in_err-end : goal.returns-in_err-end
unfolding run_nodes parse
returns-in_err-end c =
    let a = c.args in
    let q = err_from_is_err_and c.from_residual.result c.from_residual.ensures.1 in
    rw (q.1, q.2)
    (ap ended (c.in_err-end.ensures.result_after
    ∙ ap (λ n. runs (forest a.list.now 0 n) 0 0 (view_state (set a.stack.now 0 a.x) (record { n = 1; steps = 0; peak = 1 }))) c.requires.1
    ∙ ap (runs (parse a.list.now) 0 0) (x-alone a.stack.now a.x (omega arith))))

pub returns : goal.returns
unfolding run_nodes parse
returns c =
    let a = c.args in
    c.last_of.ensures
    ∙ ap ended (c.in_ok-end.ensures.result_after
    ∙ ap (λ n. runs (forest a.list.now 0 n) 0 0 (view_state (set a.stack.now 0 a.x) (record { n = 1; steps = 0; peak = 1 }))) c.requires.1
    ∙ ap (runs (parse a.list.now) 0 0) (x-alone a.stack.now a.x (omega arith)))
