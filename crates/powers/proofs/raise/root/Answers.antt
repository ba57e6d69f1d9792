-- The sum is copied, and each cell becomes its root.
use Rattle.std.proofs.Common.{◌+◌, arith}
use Rattle.cells.specs.Contract.Book.{seen}
use Rattle.cells.proofs.Laws.{room-less}
use Rattle.sums.specs.Tree.Sums.{Sum}
use Rattle.powers.specs.Raise.Contract.Roots.{Rooting}
use Rattle.powers.proofs.raise.Rooting.{rooting-copied}
use Rattle.powers.proofs.raise.root.Goals as goal
use Rattle.powers.proofs.raise.root.Goals.{After-copy_within}

copied : (c : After-copy_within) (s : Sum) → Rooting (seen c.args.book.now) c.args.i c.args.n s → Rooting (seen c.copy_within.new.self) c.args.p c.args.n s
copied c s r = rooting-copied c.copy_within.ensures.copied (room-less {n = c.args.p + 64} (omega (arith, r.few)) c.requires.3) r

pub root_each-requires : goal.root_each-requires
root_each-requires c = let held = c.requires.1 in (c.requires.0, (held.0, copied (goal.at.root_each-requires c).After-copy_within held.0 held.1))

pub returns-clause-agrees : goal.returns-clause-agrees
returns-clause-agrees c s r = c.root_each.ensures.agrees s (copied (goal.at.returns-clause-agrees c).After-copy_within s r)
