-- The next term that is left is met, and what is left goes on behind it.
use native.Mathlib.Omega.{arith}
use Rattle.std.proofs.Common.{◌<◌}
use Rattle.cells.specs.Contract.Book.{shown}
use Rattle.sums.proofs.order.Walk.{next-at}
use Rattle.values.proofs.Walk.{goes-start, rest-next, rest_end}
use Rattle.values.proofs.find.Goals as goal

pub loop-i-init : goal.loop-i-init
loop-i-init c = (omega arith, c.nothing_found-f.ensures.reached, λ s l. record { rest = s; lies = l; goes = goes-start c.nothing_found-f.ensures })

pub load-e-requires : goal.load-e-requires
load-e-requires c =
    let w = c.loop-i.invariant.2 c.requires.0 c.requires.1 in
    let h = next-at (shown c.args.book.now) c.loop-i.i c.args.n 4 w.rest w.lies (omega (arith, c.loop-i-test.true)) in
    (h.readable, h.first.plain)

pub loop-i-preserved : goal.loop-i-preserved
loop-i-preserved c =
    let i<n : c.loop-i.i < c.args.n = omega (arith, c.loop-i-test.true) in
    let w = c.loop-i.invariant.2 c.requires.0 c.requires.1 in
    let h = next-at (shown c.args.book.now) c.loop-i.i c.args.n 4 w.rest w.lies i<n in (
      rw c.load-e.ensures h.within,
      c.take_term-f.ensures.reached,
      λ s lies. rest-next c.load-e.result c.load-e.ensures c.take_term-f.ensures i<n (c.loop-i.invariant.2 s lies),
    )

pub returns : goal.returns
returns c s l = rest_end (omega (arith, c.loop-i-test.false)) (c.loop-i.invariant.2 s l)
