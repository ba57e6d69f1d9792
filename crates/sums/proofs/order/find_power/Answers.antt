-- `sums::order::find_power` meets its contract: the power before j is read in each turn, and the three orders are three lemmas.
use Rattle.std.proofs.Common.{ℕ, ◌+◌, ◌-◌, ◌≡◌, ◌≤◌, ◌<◌, ap, ◌∙◌, arith}
use lib.Ieee.Bits.{nan_bits_is}
use Rattle.limits.specs.Limits.{sum_levels}
use Rattle.cells.specs.Contract.Book.{Book, at, Plain}
use Rattle.numbers.proofs.Bits.{no_nan}
use Rattle.sums.specs.Tree.Sums.{Sum}
use Rattle.sums.specs.declared.order.Found.TheVariants.{Before}
use Rattle.sums.specs.Contract.Lies.{Lies}
use Rattle.sums.proofs.order.Walk.{plain_at}
use Rattle.sums.proofs.order.Powers.{powers-size, down-after, down-same, down-first}
use Rattle.sums.proofs.order.find_power.Goals as goal

-- the power before k holds finite numbers
plain_before : {b : Book} {p e k : ℕ} {s : Sum} → Lies b p e sum_levels s → p < k → k ≤ e → Plain (at b (k - 1))
plain_before {b} {p} {e} {k} {s} l lo hi = let ends = l.ends in plain_at (at b) p sum_levels s l.laid l.good (k - 1) (omega arith) (omega arith)

pub loop-j-init : goal.loop-j-init
loop-j-init c =
    let lies = c.requires.t.1.1 in
    let ends = lies.ends in
    let end = c.requires.of_one c.requires.t.1.0 lies in
    let most = powers-size c.requires.t.1.0 in
    (omega arith, λ s l. let is = c.requires.of_one s l in record { low = omega arith; most = omega arith; next = λ m. absurd (omega arith) })

pub float_from_bits-words : goal.float_from_bits-words
float_from_bits-words c = rw nan_bits_is (no_nan _ (plain_before c.requires.t.1.1 c.loop-j-test.true c.loop-j.invariant.0).num)

-- it comes after the power before k
pub returns-in-Greater : goal.returns-in-Greater
returns-in-Greater c s x l power is =
    let back : c.loop-j.j - 1 + 1 ≡ c.loop-j.j = omega arith in
    ap Before back ∙ down-after (c.loop-j.invariant.1 s l) l.laid l.good x power is c.loop-j-test.true c.cmp.ensures c.in-Greater.is

-- it is that power
pub returns-in-Equal : goal.returns-in-Equal
returns-in-Equal c s x l power is =
    let plain = plain_before c.requires.t.1.1 c.loop-j-test.true c.loop-j.invariant.0 in
    down-same (c.loop-j.invariant.1 s l) l.laid l.good x power is c.loop-j-test.true c.requires.t.0 plain.num c.cmp.ensures c.in-Equal.is

-- none is left
pub returns : goal.returns
returns c s x l power is =
    let low = (c.loop-j.invariant.1 s l).low in
    let here : c.args.p ≡ c.loop-j.j = omega arith in
    ap Before here ∙ down-first (c.loop-j.invariant.1 s l) l.laid l.good x power is c.loop-j-test.false
