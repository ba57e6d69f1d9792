-- The loop's invariant: what is inside each record from i on is well-formed. Assumes nothing.
use mathlib.Core.Path.{◌≡◌, ap, sym, ◌∙◌}
use Prim.Native.Nat.{ℕ, ◌+◌, ◌-◌}
use native.Mathlib.Omega.{arith}
use Rattle.formats.specs.declared.record.Record.{Record}
use Rattle.formats.proofs.record.Nest.{inside-more, too_long, bad-inside, inner-ok}
use Rattle.formats.proofs.rules.all_nest.Goals as goal

pub returns-then-n-next : goal.returns-then-n-next
returns-then-n-next c =
    let a = c.args in
    let i : ℕ = c.loop-i.i - 1 in
    let e = ap (λ (x : Record). x.inside) c.record_at-r.ensures.0 in
    sym (too_long a.list.now i a.n (omega arith) (omega arith))

pub returns-then-not-stretch_ok : goal.returns-then-not-stretch_ok
returns-then-not-stretch_ok c =
    let a = c.args in
    let i : ℕ = c.loop-i.i - 1 in
    let r = c.record_at-r in
    let m = c.is_a in
    let x = c.stretch_ok in
    let o = inner-ok a.list.now i r.result m.result x.result r.ensures.0 m.ensures x.ensures in
    sym (bad-inside a.list.now i a.n (omega arith) (o ∙ c.if-not-stretch_ok.true))

pub loop-i-preserved : goal.loop-i-preserved
loop-i-preserved c =
    let a = c.args in
    let l = c.loop-i in
    let i : ℕ = l.i - 1 in
    let r = c.record_at-r in
    let m = c.is_a in
    let x = c.stretch_ok in
    let o = inner-ok a.list.now i r.result m.result x.result r.ensures.0 m.ensures x.ensures in
    let q : i + 1 ≡ l.i = omega arith in
    inside-more a.list.now i a.n (o ∙ c.if-not-stretch_ok.false) (rw q l.invariant)
