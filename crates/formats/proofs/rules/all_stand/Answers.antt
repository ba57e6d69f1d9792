-- The loop's invariant: the whole is low where what is left of the stretch is, and of those around it. Assumes nothing.
use mathlib.Core.Path.{◌≡◌, refl, sym, ◌∙◌}
use mathlib.Core.Bool.{true≢false}
use Prim.Native.Nat.{ℕ, ◌+◌, ◌-◌, ◌≤◌, ◌<◌}
use native.Mathlib.Omega.{arith}
use lib.ListN.{length-set}
use Rattle.formats.specs.Tree.{rec_at}
use Rattle.formats.specs.Rules.{is_a}
use Rattle.formats.specs.declared.record.Kind.TheVariants.{Modifier}
use Rattle.formats.proofs.record.Stands.{low-none, low-more, low-split, low-leaf, stands-within, within_none, within_all, within-push, within-pop, owed_none, owed-push, owed-pop}
use Rattle.formats.proofs.rules.all_stand.Goals as goal

-- no stretch lies around the one that ends here
pub returns-then-depth-eq0 : goal.returns-then-depth-eq0
returns-then-depth-eq0 c =
    let a = c.args in
    let l = c.loop-at in
    let p = c.past_simple-at in
    let k : 0 < 129 - l.depth = omega arith in
    let i = p.ensures.2 (129 - l.depth) k in
    let y = i.0 (low-none a.list.now p.result l.end l.bodies (129 - l.depth) (omega arith)) in
    (λ _. l.invariant.5.0 (y, owed_none a.list.now l.ends l.of_bodies l.depth l.end c.if-depth-eq0.true), λ _. refl)

-- the one around it goes on
pub loop-at-preserved-then-at-end : goal.loop-at-preserved-then-at-end
loop-at-preserved-then-at-end c =
    let a = c.args in
    let l = c.loop-at in
    let p = c.past_simple-at in
    let k : 0 < 129 - l.depth = omega arith in
    let i = p.ensures.2 (129 - l.depth) k in
    let w = within-pop l.ends a.n l.depth l.end (omega arith) l.invariant.1 in
    let o = owed-pop a.list.now l.ends l.of_bodies l.depth l.end (omega arith) in
    let q = c.if-at-end.true in
    let z = i.0 (low-none a.list.now p.result l.end l.bodies (129 - l.depth) (omega arith)) in (
      omega (arith, w.0),
      w.1,
      omega arith,
      l.invariant.3,
      l.invariant.4,
      (λ y. l.invariant.5.0 (z, o.1 (rw q at y.0, y.1)), λ y. let u = o.0 (l.invariant.5.1 y).1 in (rw q u.0, u.1)),
    )

-- a record that may not stand there
pub returns-then-not-may_stand : goal.returns-then-not-may_stand
returns-then-not-may_stand c =
    let a = c.args in
    let l = c.loop-at in
    let p = c.past_simple-at in
    let k : 0 < 129 - l.depth = omega arith in
    let i = p.ensures.2 (129 - l.depth) k in
    let r = c.record_at-r in
    let h : p.result < l.end = omega arith in
    let m = sym c.may_stand.ensures ∙ c.if-not-may_stand.true in
    let t = low-split a.list.now p.result l.end l.bodies (129 - l.depth) r.result h r.ensures.0 in
    (λ e. absurd (true≢false (sym e)), λ y. absurd (true≢false (sym (t (i.1 (l.invariant.5.1 y).0)).1 ∙ m)))

-- a record that holds nothing
pub loop-at-preserved-then-r-eq0 : goal.loop-at-preserved-then-r-eq0
loop-at-preserved-then-r-eq0 c =
    let a = c.args in
    let l = c.loop-at in
    let p = c.past_simple-at in
    let k : 0 < 129 - l.depth = omega arith in
    let i = p.ensures.2 (129 - l.depth) k in
    let r = c.record_at-r in
    let m = sym c.may_stand.ensures ∙ c.if-not-may_stand.false in
    let g = low-leaf a.list.now p.result l.end l.bodies (129 - l.depth) r.result (omega arith) r.ensures.0 m (omega arith) k in (
      omega (arith, stands-within r.result p.result l.end l.bodies m),
      l.invariant.1,
      l.invariant.2,
      l.invariant.3,
      l.invariant.4,
      (λ y. l.invariant.5.0 (i.0 (g.0 y.0), y.1), λ y. let u = l.invariant.5.1 y in (g.1 (i.1 u.0), u.1)),
    )

-- a record that holds others, and lies inside as many as may be
pub returns-then-depth-eq-NODE_INSIDE : goal.returns-then-depth-eq-NODE_INSIDE
returns-then-depth-eq-NODE_INSIDE c =
    let a = c.args in
    let l = c.loop-at in
    let p = c.past_simple-at in
    let k : 0 < 129 - l.depth = omega arith in
    let i = p.ensures.2 (129 - l.depth) k in
    let r = c.record_at-r in
    let h : p.result < l.end = omega arith in (
      λ e. absurd (true≢false (sym e)),
      λ y.
          let t = low-split a.list.now p.result l.end l.bodies (129 - l.depth) r.result h r.ensures.0 (i.1 (l.invariant.5.1 y).0) in
          let x : ℕ = p.result + 1 in
          let o = low-split a.list.now x (x + r.result.inside) (is_a r.result Modifier) (129 - l.depth - 1) (rec_at a.list.now x) (omega arith) refl t.2 in
          absurd (omega (arith, o.0)),
    )

-- a record that holds others
pub loop-at-preserved : goal.loop-at-preserved
loop-at-preserved c =
    let a = c.args in
    let l = c.loop-at in
    let p = c.past_simple-at in
    let k : 0 < 129 - l.depth = omega arith in
    let i = p.ensures.2 (129 - l.depth) k in
    let r = c.record_at-r in
    let h : p.result < l.end = omega arith in
    let m = sym c.may_stand.ensures ∙ c.if-not-may_stand.false in
    let x : ℕ = p.result + 1 + r.result.inside in
    let f : x ≤ l.end = stands-within r.result p.result l.end l.bodies m in
    let d : l.depth < 128 = omega arith in
    let q : 129 - (l.depth + 1) ≡ 129 - l.depth - 1 = omega arith in
    let u = owed-push a.list.now l.ends l.of_bodies l.depth l.end x l.bodies (omega arith) (omega arith) in (
      omega arith,
      within-push l.ends a.n l.depth l.end x (omega arith) f l.invariant.1,
      omega arith,
      length-set l.ends l.depth l.end ∙ l.invariant.3,
      length-set l.of_bodies l.depth l.bodies ∙ l.invariant.4,
      (
        λ y.
            let v = u.0 y.1 in
            l.invariant.5.0
            (i.0 (low-more a.list.now p.result l.end l.bodies (129 - l.depth) r.result h r.ensures.0 k m (rw (c.is_a-bodies.ensures, q) at y.0) v.0), v.1),
        λ y.
            let v = l.invariant.5.1 y in
            let t = low-split a.list.now p.result l.end l.bodies (129 - l.depth) r.result h r.ensures.0 (i.1 v.0) in
            (rw (c.is_a-bodies.ensures, q) t.2, u.1 (t.3, v.1)),
      ),
    )

pub loop-at-init : goal.loop-at-init
loop-at-init c = (omega arith, within_none _ _ _ (omega arith), omega arith, refl, refl, (λ y. y.0, λ y. (y, owed_none _ _ _ _ _ refl)))

pub past_simple-at-requires : goal.past_simple-at-requires
past_simple-at-requires c = let w = within_all _ _ _ _ c.loop-at.invariant.1 in (omega arith, omega arith, omega arith)

pub record_at-r-requires : goal.record_at-r-requires
record_at-r-requires c = omega (arith, within_all _ _ _ _ c.loop-at.invariant.1)

pub may_stand-requires : goal.may_stand-requires
may_stand-requires c = let w = within_all _ _ _ _ c.loop-at.invariant.1 in (omega arith, omega arith, omega arith)

pub loop-at-smaller-then-r-eq0 : goal.loop-at-smaller-then-r-eq0
loop-at-smaller-then-r-eq0 c = omega (arith, within_all _ _ _ _ c.loop-at.invariant.1)

pub overflow_cast-ends : goal.overflow_cast-ends
overflow_cast-ends c = omega (arith, within_all _ _ _ _ c.loop-at.invariant.1)

pub overflow_add-end : goal.overflow_add-end
overflow_add-end c =
    let f = stands-within _ _ _ _ (sym c.may_stand.ensures ∙ c.if-not-may_stand.false) in
    omega (arith, within_all _ _ _ _ c.loop-at.invariant.1)

pub loop-at-smaller : goal.loop-at-smaller
loop-at-smaller c =
    let f = stands-within _ _ _ _ (sym c.may_stand.ensures ∙ c.if-not-may_stand.false) in
    omega (arith, within_all _ _ _ _ c.loop-at.invariant.1)
