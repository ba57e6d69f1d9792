-- A function is stored over x where its argument is x, and refused where it is not.
use Rattle.std.proofs.Common.{subst}
use Rattle.cells.specs.Contract.Book.{seen}
use Rattle.calculus.specs.Integral.{x}
use Rattle.sums.specs.Contract.Lies.{Agrees}
use Rattle.calculus.proofs.Into.{into-refused}
use Rattle.calculus.proofs.integral.Storing.{wave-not, wave-stored}
use Rattle.calculus.proofs.integral.integrate_wave.Goals as goal

pub returns-then-not-is_x-clause-into : goal.returns-then-not-is_x-clause-into
returns-then-not-is_x-clause-into c =
    into-refused (λ t lt s. wave-not c.args.x t s c.requires.2 c.requires.0.head.most ((rw c.cells.ensures at c.is_x.ensures) t lt) lt.good c.if-not-is_x.true)

pub returns-clause-into : goal.returns-clause-into
returns-clause-into c =
    record {
      kept = c.put_block.ensures.kept;
      agrees =
          λ s t ls lt.
          subst (Agrees c.put_block.result (seen c.put_block.new.book) c.args.w)
          (wave-stored c.args.x t s c.requires.2 c.requires.0.head.most ((rw c.cells.ensures at c.is_x.ensures) t lt) lt.good c.if-not-is_x.false c.turned_kind-kind.ensures c.turned_coef-c.ensures)
          (c.put_block.ensures.of_two s x ls c.requires.1);
    }
