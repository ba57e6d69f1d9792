-- The term that is put in is the one that the definition has where the argument is a multiple of x.
use Rattle.std.proofs.Common.{◌≡◌, refl, sym, ap, subst, ◌∙◌, arith}
use Rattle.numbers.specs.Complex.Arith as complex
use Rattle.cells.specs.Contract.Book.{seen}
use Rattle.sums.specs.Tree.Sums.{size}
use Rattle.sums.specs.Contract.Lies.{Agrees}
use Rattle.arithmetic.proofs.add.Lying.{readable}
use Rattle.calculus.proofs.derivative.Steps.{turned_as, exp-is, first-coef}
use Rattle.calculus.proofs.derivative.derive_exp.Goals as goal

pub load-argument-requires : goal.load-argument-requires
load-argument-requires c = readable c.args.i c.requires.0.argument.held.1 (omega arith) (omega (arith, c.requires.1))

pub returns-clause-into : goal.returns-clause-into
returns-clause-into c =
    record {
      kept = c.put_block.ensures.kept;
      agrees =
          λ s t ls lt.
          let sized : c.args.x.inside ≡ size t = omega (arith, lt.ends) in
          let coef = c.mul.ensures ∙ ap (complex.times c.args.x.coef) (first-coef c.load-argument.result c.load-argument.ensures c.requires.1 lt) in
          subst (Agrees c.put_block.result (seen c.put_block.new.book) c.args.w)
          (turned_as t s refl refl coef sized ∙ sym (exp-is c.args.x t s ((rw c.cells.ensures at c.is_x.ensures) t lt) c.if-not-is_x.false))
          (c.put_block.ensures.of_two s t ls lt);
    }
