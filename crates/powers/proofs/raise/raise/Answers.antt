-- No product is a copy.
use Rattle.std.proofs.Common.{ℕ, ◌+◌, sym, ap, ◌∙◌, arith}
use Rattle.cells.specs.Contract.Book.{seen}
use Rattle.cells.proofs.Laws.{room-less}
use Rattle.sums.proofs.order.Walk.{lies-copied}
use Rattle.arithmetic.specs.Pairs.{raised_pairs}
use Rattle.arithmetic.specs.Power.{raised}
use Rattle.arithmetic.proofs.Agree.{raised-none}
use Rattle.arithmetic.proofs.Pairs.{raised-pairs-none}
use Rattle.arithmetic.proofs.add.Lying.{agree-done}
use Rattle.powers.proofs.raise.Pairs.{counted-agrees, counted_is}
use Rattle.powers.proofs.raise.raise.Goals as goal

pub returns-then-times-eq0-clause-of_one : goal.returns-then-times-eq0-clause-of_one
returns-then-times-eq0-clause-of_one c s ls =
    let after = seen c.copy_within.new.self in
    let few = c.requires.1.few in
    counted-agrees after c.args.w _ _ c.counted.ensures
    (agree-done after c.args.w c.args.n _ s (ap (λ (m : ℕ). raised m s s) c.if-times-eq0.true ∙ raised-none s s) few
    (lies-copied c.copy_within.ensures.copied (room-less {n = c.args.w + (64 + 64)} (omega arith) c.requires.2) ls))

pub returns-then-times-eq0-clause-of_one_2 : goal.returns-then-times-eq0-clause-of_one_2
returns-then-times-eq0-clause-of_one_2 c s ls = counted_is c.counted.ensures (sym (ap (λ (m : ℕ). raised_pairs m s s) c.if-times-eq0.true ∙ raised-pairs-none s s))
