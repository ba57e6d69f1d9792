-- What is left of a sum is tested entry by entry, and the first that fails decides; each time round there is one level less left.
use Rattle.std.proofs.Common.{arith}
use Rattle.arithmetic.specs.Product.{pairable, rowable, mulable}
use Rattle.arithmetic.proofs.multiply.Shapes.{part, tested, test-no, test_on, test-end, row-and, row-none, sum-and, sum-none}
use Rattle.arithmetic.proofs.multiply.+can_mul_can_pair_can_row.Goals as goal

-- ---- can_mul

pub can_mul-can_row-requires : goal.can_mul-can_row-requires
can_mul-can_row-requires t c =
    let left = c.loop-q.invariant _ _ c.requires.0.1 c.requires.1.1 in
    let w = part _ _ _ _ _ left.s' left.shape c.loop-q-test.true in
    (omega arith, ((w.least, w.most), ((w.inner, w.shape-inner), c.requires.1)))

pub can_mul-returns-then-not-can_row : goal.can_mul-returns-then-not-can_row
can_mul-returns-then-not-can_row t c s v a b =
    test-no
    (tested _ _ _ _ _ (λ u. mulable u v) (λ k i. rowable k (mulable i) v) s _ (sum-and v) (c.loop-q.invariant s v a b) c.loop-q-test.true (λ i l. c.can_row.ensures i v l b))
    c.if-not-can_row.true

pub can_mul-loop-q-preserved : goal.can_mul-loop-q-preserved
can_mul-loop-q-preserved t c s v a b =
    test_on
    (tested _ _ _ _ _ (λ u. mulable u v) (λ k i. rowable k (mulable i) v) s _ (sum-and v) (c.loop-q.invariant s v a b) c.loop-q-test.true (λ i l. c.can_row.ensures i v l b))
    c.if-not-can_row.false

pub can_mul-returns : goal.can_mul-returns
can_mul-returns t c s v a b = test-end (sum-none v) (c.loop-q.invariant s v a b) c.loop-q-test.false

-- ---- can_row

pub can_row-overflow_sub-left : goal.can_row-overflow_sub-left
can_row-overflow_sub-left t c =
    let left = c.loop-q.invariant _ _ c.requires.shaped.0.1 c.requires.shaped.1.1 in
    (part _ _ _ _ _ left.s' left.shape c.loop-q-test.true).deep

pub can_row-can_pair-requires : goal.can_row-can_pair-requires
can_row-can_pair-requires t c =
    let left = c.loop-q.invariant _ _ c.requires.shaped.0.1 c.requires.shaped.1.1 in
    let w = part _ _ _ _ _ left.s' left.shape c.loop-q-test.true in (
      omega (arith, w.deep),
      ((c.requires.le_k.0, c.requires.le_k.1, w.least, w.most), (c.requires.shaped.0, (w.inner, w.shape-inner))),
    )

pub can_row-returns-then-not-can_pair : goal.can_row-returns-then-not-can_pair
can_row-returns-then-not-can_pair t c u v a b =
    let f = mulable u in
    test-no
    (tested _ _ _ _ _ (rowable c.args.k f) (pairable c.args.k f) v _ (row-and c.args.k f) (c.loop-q.invariant u v a b) c.loop-q-test.true (λ i l. c.can_pair.ensures u i a l))
    c.if-not-can_pair.true

pub can_row-loop-q-preserved : goal.can_row-loop-q-preserved
can_row-loop-q-preserved t c u v a b =
    let f = mulable u in
    test_on
    (tested _ _ _ _ _ (rowable c.args.k f) (pairable c.args.k f) v _ (row-and c.args.k f) (c.loop-q.invariant u v a b) c.loop-q-test.true (λ i l. c.can_pair.ensures u i a l))
    c.if-not-can_pair.false

pub can_row-returns : goal.can_row-returns
can_row-returns t c u v a b = test-end (row-none _ _) (c.loop-q.invariant u v a b) c.loop-q-test.false
