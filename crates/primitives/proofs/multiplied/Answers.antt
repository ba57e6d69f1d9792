-- Each term of the one sum meets each of the other.
use Rattle.std.proofs.Common.{◌*◌, ◌+◌, ◌≤◌, ◌≡◌, refl, sym, ap₂, ◌∙◌, arith}
use Rattle.cells.specs.Contract.Book.{seen, at}
use Rattle.cells.proofs.Laws.{insides-one}
use Rattle.sums.specs.Tree.Sums.{Sum, len}
use Rattle.sums.specs.Contract.Lies.{Lies}
use Rattle.arithmetic.proofs.Pairs.{pairs_len, len-most, product-most}
use Rattle.primitives.proofs.multiplied.Goals as goal
use Rattle.primitives.proofs.multiplied.Goals.{After-count-2}

-- how many terms the first has
first : (c : After-count-2) (b : Sum) → Lies (seen c.args.book.now) c.args.i (c.args.i + c.args.n) 4 b → c.count.result ≡ len b
first c b l = (rw (insides-one c.cells-cells.ensures) at c.count.ensures) (at (seen c.args.book.now)) b (λ j. refl) l.laid (let e = l.ends in omega arith)

-- and the second
second : (c : After-count-2) (a : Sum) → Lies (seen c.args.book.now) c.args.j (c.args.j + c.args.m) 4 a → c.count-2.result ≡ len a
second c a l = (rw (insides-one c.cells-cells.ensures) at c.count-2.ensures) (at (seen c.args.book.now)) a (λ j. refl) l.laid (let e = l.ends in omega arith)

few : (c : After-count-2) → c.count.result * c.count-2.result ≤ 4096
few c =
    let left = c.requires.0.held in
    let right = c.requires.1.held in
    product-most (omega (arith, first c left.0 left.1, len-most left.0, left.1.ends, c.requires.0.few))
    (omega (arith, second c right.0 right.1, len-most right.0, right.1.ends, c.requires.1.few))

pub overflow_mul-pairs : goal.overflow_mul-pairs
overflow_mul-pairs c = omega (arith, few (goal.at.overflow_mul-pairs c).After-count-2)

pub returns-clause-of_two_2 : goal.returns-clause-of_two_2
returns-clause-of_two_2 c b a lb la n e =
    let d = (goal.at.returns-clause-of_two_2 c).After-count-2 in
    ap₂ ◌*◌ (first d b lb) (second d a la) ∙ sym (pairs_len b a)
