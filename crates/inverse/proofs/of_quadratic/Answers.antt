-- `of_quadratic` meets its contract: by which coefficients are zero.
use Rattle.inverse.proofs.Words.{told-as}
use Rattle.inverse.proofs.Forms.{is-full}
use Rattle.inverse.proofs.of_quadratic.Goals as goal

pub returns : goal.returns
returns c =
    told-as c.full_quadratic.ensures _
    (is-full c.args.complex c.args.a c.args.q c.args.c c.is_zero-2.ensures c.is_zero.ensures c.if-is_zero-3.false c.if-is_zero.false)
