-- The term that is put in is the one that the definition has where the argument's derivative is a constant and the base's logarithm is known.
use Rattle.std.proofs.Common.{◌≡◌, refl, sym, ap, subst, ◌∙◌, arith}
use lib.Ieee.{Float}
use Rattle.numbers.specs.declared.complex.Complex.{Complex}
use Rattle.numbers.specs.Complex.Arith as complex
use Rattle.cells.specs.declared.Entry.{Entry}
use Rattle.cells.specs.Contract.Book.{seen}
use Rattle.sums.specs.declared.tree.Merge.TheVariants.{Add}
use Rattle.sums.specs.Tree.Kinds as kinds
use Rattle.sums.specs.Tree.Sums.{Sum, size}
use Rattle.sums.specs.Tree.Map.{Outcome}
use Rattle.calculus.specs.Derivative.{turned_to, by_ln, ln_of}
use Rattle.sums.specs.Contract.Lies.{Agrees}
use Rattle.calculus.proofs.derivative.Steps.{turned_as, prime-is, ln-is}
use Rattle.calculus.proofs.derivative.derive_log.Goals as goal

-- what becomes of the argument and the sum, with the argument's derivative and the base's logarithm
abbrev with-ln : Entry → Complex → Sum → Sum → Float → Outcome
with-ln x d t s l = turned_to kinds.Div (complex.over_real (complex.times x.coef d) l) t Add s

abbrev with-prime : Entry → Sum → Sum → Complex → Outcome
with-prime x t s d = by_ln (ln_of x.num) (with-ln x d t s)

pub returns-clause-into : goal.returns-clause-into
returns-clause-into c =
    let x = c.args.x in
    record {
      kept = c.put_block.ensures.kept;
      agrees =
          λ s t ls lt.
          let sized : x.inside ≡ size t = omega (arith, lt.ends) in
          let coef = c.div_real.ensures ∙ ap (λ (z : Complex). complex.over_real z c.in-Some-ln_of.l) c.mul.ensures in
          subst (Agrees c.put_block.result (seen c.put_block.new.book) c.args.w)
          (turned_as t s refl refl coef sized
          ∙ sym (prime-is t (with-prime x t s) ((rw c.cells.ensures at c.prime_of.ensures) t lt) c.in-Some.is ∙ ln-is x.num (with-ln x c.in-Some.d t s) c.ln_of.ensures c.in-Some-ln_of.is))
          (c.put_block.ensures.of_two s t ls lt);
    }
