-- Each answer is the verdict under the tests that led to it. Assumes nothing.
use mathlib.Core.Path.{sym, ◌∙◌}
use mathlib.Core.Bool.{true≢false}
use mathlib.Core.Logic.{⊎_elim}
use Prim.Native.Nat.{◌%◌, ◌/◌, ◌≤◌, ◌<◌}
use native.Mathlib.Omega.{arith}
use lib.ListN.{length}
use borrow.Author.Tests.{eq-eqb, ne_eqb, le-leb, lt-leb}
use Rattle.formats.specs.Tree.{height, forest, parse}
use Rattle.formats.specs.Rules.{shape_of, verdict}
use Rattle.formats.proofs.record.Forest.{below}
use Rattle.formats.proofs.rules.judged.Goals as goal

pub returns-then-list-ne0 : goal.returns-then-list-ne0
unfolding verdict
returns-then-list-ne0 c = rw (ne_eqb (length c.args.list.now % 24) 0 c.if-list-ne0.true)

pub returns-then-n-gt-LIST_RECORDS : goal.returns-then-n-gt-LIST_RECORDS
unfolding verdict
returns-then-n-gt-LIST_RECORDS c = let n = length c.args.list.now in rw (eq-eqb (n % 24) 0 (omega arith), lt-leb (n / 24) 2048 (omega arith))

pub returns-then-all_good : goal.returns-then-all_good
unfolding verdict parse shape_of
returns-then-all_good c =
    let n = length c.args.list.now in
    let y = c.all_good.ensures.0 c.if-all_good.true in
    rw (eq-eqb (n % 24) 0 (omega arith), le-leb (n / 24) 2048 (omega arith), y.ok, le-leb _ _ y.low)

-- well-formed, and not low
pub returns-then-all_nest : goal.returns-then-all_nest
unfolding verdict parse shape_of
returns-then-all_nest c =
    let s = c.args.list.now in
    let n = length s in
    let o = sym c.all_nest.ensures ∙ c.if-all_nest.true in
    let t = forest s 0 (n / 24) in
    let never : height t ≤ 129 → ⊥ = λ k. true≢false (sym (c.all_good.ensures.1 (record { ok = o; low = k })) ∙ c.if-all_good.false) in
    let h : 129 < height t = ⊎_elim (λ k. k) (λ k. absurd (never k)) (below 129 (height t)) in
    rw (eq-eqb (n % 24) 0 (omega arith), le-leb (n / 24) 2048 (omega arith), o, lt-leb _ _ h)

pub returns : goal.returns
unfolding verdict parse shape_of
returns c =
    let n = length c.args.list.now in
    rw (eq-eqb (n % 24) 0 (omega arith), le-leb (n / 24) 2048 (omega arith), sym c.all_nest.ensures ∙ c.if-all_nest.false)
