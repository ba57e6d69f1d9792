-- Zero is its own root; any other number is taken apart, and its root is rounded. Assumes nothing.
use mathlib.Core.Path.{sym, ◌∙◌}
use mathlib.Core.Bool.{true≢false}
use native.Mathlib.Omega.{arith}
use borrow.Author.Rules.{rules}
use Rattle.numbers.specs.Signs.{Zero}
use Rattle.numbers.proofs.Bits.{no_nan}
use Rattle.numbers.proofs.Zeros.{zero_test}
use Rattle.numbers.specs.Radical.Root.{root}
use Rattle.numbers.proofs.radical.Patterns.{positive-bits, no-nan-bits, number-count}
use Rattle.numbers.proofs.radical.Scaling.{rooted, evened}
use Rattle.numbers.proofs.radical.Function.{root-nearest}
use Rattle.numbers.proofs.radical.Laws.{one-root, root-zero}
use Rattle.numbers.proofs.radical.sqrt.Goals as goal

pub returns-then-x : goal.returns-then-x
returns-then-x c = sym (root-zero c.args.x (search rules) ((zero_test c.args.x).0 c.if-x.true))

pub float_to_bits-x : goal.float_to_bits-x
float_to_bits-x c = no_nan c.args.x c.requires.0

pub scale-requires : goal.scale-requires
scale-requires c =
    let x = c.args.x in
    positive-bits x (search rules) c.requires.0 c.requires.1 (λ z. true≢false (sym ((zero_test x).1 z) ∙ c.if-x.false))

pub float_from_bits-result : goal.float_from_bits-result
float_from_bits-result c = no-nan-bits c.rounded.result c.rounded.ensures.fits

pub returns : goal.returns
returns c =
    let start = c in
    let x = start.args.x in
    let zero : Zero x → ⊥ = λ z. true≢false (sym ((zero_test x).1 z) ∙ c.if-x.false) in
    let s = c.scale.ensures in
    let b = positive-bits x (search rules) start.requires.0 start.requires.1 zero in
    one-root x _ (root x)
    (rooted x _ _ _ _ (number-count x (search rules) b.1) (evened _ _ _ _ _ (omega arith) (omega (arith, s.low)) s.is) c.rounded.ensures)
    (root-nearest x (search rules) start.requires.0 start.requires.1 zero)
