-- The stack of so many numbers is as long. Assumes nothing.
use mathlib.Core.Path.{sym, ◌∙◌}
use borrow.Author.Tests.{le-leb, lt-leb}
use Rattle.running.specs.Contract.Views.{view_state}
use Rattle.running.proofs.Laws.{settle-went}
use Rattle.running.proofs.run.settled.Goals as goal

pub returns-then-m-held-le-RUN_VALUES-clause-result_value : goal.returns-then-m-held-le-RUN_VALUES-clause-result_value
returns-then-m-held-le-RUN_VALUES-clause-result_value c =
    let a = c.args in
    λ xs. rw c.in-Ok.is (sym (settle-went xs a.held a.at (view_state xs a.st) c.in-Ok.m ∙ rw (le-leb _ _ c.if-m-held-le-RUN_VALUES.true, ← c.max-peak.ensures)))

pub returns-else-m-held-le-RUN_VALUES-clause-result_value : goal.returns-else-m-held-le-RUN_VALUES-clause-result_value
returns-else-m-held-le-RUN_VALUES-clause-result_value c =
    let a = c.args in
    λ xs. rw c.in-Ok.is (sym (settle-went xs a.held a.at (view_state xs a.st) c.in-Ok.m ∙ rw (lt-leb _ _ c.if-m-held-le-RUN_VALUES.false)))
