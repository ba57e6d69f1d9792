-- Of nothing but powers the product is formed row by row; of any others whether there is one is asked first, and then it is formed.
use Rattle.std.proofs.Common.{sym}
use Rattle.cells.specs.Contract.Book.{seen}
use Rattle.cells.proofs.Laws.{kinds-one, insides-one}
use Rattle.arithmetic.proofs.multiply.Shapes.{shape_of}
use Rattle.arithmetic.proofs.multiply.Laws.{whole, product-able, product-not}
use Rattle.arithmetic.proofs.multiply.mul_some.Goals as goal

pub returns-then-not-can_mul-clause-of_two : goal.returns-then-not-can_mul-clause-of_two
returns-then-not-can_mul-clause-of_two c s t ls lt =
    product-not (seen c.args.book.now) c.args.p s t (sym ((rw (kinds-one c.cells-cells.ensures, insides-one c.cells-cells.ensures) at c.if-not-can_mul.ensures) s t (shape_of ls) (shape_of lt)))

pub expr_mul-requires : goal.expr_mul-requires
expr_mul-requires c =
    let s = c.requires.0.held in
    let t = c.requires.1.held in
    (whole c.requires.0 c.requires.1 (sym ((rw (kinds-one c.cells-cells.ensures, insides-one c.cells-cells.ensures) at c.if-not-can_mul.ensures) s.0 t.0 (shape_of s.1) (shape_of t.1))), c.requires.2)

pub returns-clause-of_two : goal.returns-clause-of_two
returns-clause-of_two c s t ls lt =
    product-able (seen c.expr_mul.new.book) c.args.p s t c.expr_mul.result
    (sym ((rw (kinds-one c.cells-cells.ensures, insides-one c.cells-cells.ensures) at c.if-not-can_mul.ensures) s t (shape_of ls) (shape_of lt)))
    (c.expr_mul.ensures.of_two s t ls lt)
