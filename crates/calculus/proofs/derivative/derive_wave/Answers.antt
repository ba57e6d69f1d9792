-- The term that is put in is the one that the definition has where the argument's derivative is a constant.
use Rattle.std.proofs.Common.{◌≡◌, sym, subst, ◌∙◌, arith}
use Rattle.numbers.specs.declared.complex.Complex.{Complex}
use Rattle.numbers.specs.Complex.Arith as complex
use Rattle.cells.specs.declared.Entry.{Entry}
use Rattle.cells.specs.Contract.Book.{seen}
use Rattle.sums.specs.Tree.Sums.{Sum, size}
use Rattle.sums.specs.Tree.Map.{Outcome}
use Rattle.calculus.specs.Derivative.{turned_to}
use Rattle.calculus.specs.Contract.Turned.{turned_kind, turned_how}
use Rattle.sums.specs.Contract.Lies.{Agrees}
use Rattle.calculus.proofs.derivative.Steps.{turned_as, prime-is}
use Rattle.calculus.proofs.derivative.derive_wave.Goals as goal

-- what becomes of the argument and the sum, with the argument's derivative
abbrev with-prime : Entry → Sum → Sum → Complex → Outcome
with-prime x t s d = turned_to (turned_kind x.kind) (complex.times x.coef d) t (turned_how x.kind) s

pub returns-clause-into : goal.returns-clause-into
returns-clause-into c =
    record {
      kept = c.put_block.ensures.kept;
      agrees =
          λ s t ls lt.
          let sized : c.args.x.inside ≡ size t = omega (arith, lt.ends) in
          subst (Agrees c.put_block.result (seen c.put_block.new.book) c.args.w)
          (turned_as t s c.turned_kind-kind.ensures c.turned_how-how.ensures c.mul.ensures sized
          ∙ sym (prime-is t (with-prime c.args.x t s) ((rw c.cells.ensures at c.prime_of.ensures) t lt) c.in-Some.is))
          (c.put_block.ensures.of_two s t ls lt);
    }
