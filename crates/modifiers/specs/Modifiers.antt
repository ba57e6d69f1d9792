-- Records run in turn, and modifiers over the bodies inside them, in the Rust's order of pops, pushes and bodies.
use Rattle.std.specs.Prelude.{ℕ, ◌+◌, max, List, [], ◌∷◌}
use Rattle.limits.specs.declared.Refusal.TheVariants.{NotSupported, InterpreterBug}
use Rattle.sums.specs.Tree.Sums.{Sum}
use Rattle.formats.specs.declared.record.Modifier.{Modifier}
use Rattle.formats.specs.declared.record.Modifier.TheVariants.{Dip, Gap, On, By, Both, Bracket, Fork, Unlisted}
use Rattle.stack.specs.Stack.{total}
use Rattle.stack.specs.State.{State, Walked, went, and_then, stop, taking, lend}
use Rattle.modifiers.specs.Holding.{deepest, back_to, holding, dropping, copying}

-- a node as it is run: of a body how many arguments it takes; and what comes of running it with h entries held
pub record Runner : Type 0 where
  pub args : ℕ
  pub run : ℕ → State → Walked

unfoldable pub run_all : List Runner → ℕ → State → Walked
run_all [] h st = went st
run_all (f ∷ fs) h st = and_then (f.run h st) (λ st'. run_all fs h st')

-- a modifier that begins in one of these ways: g runs, what is held is put back, and f runs
abbrev pub around : ℕ → ((List Sum → State → Walked) → Walked) → (ℕ → State → Walked) → (State → Walked) → Walked
around h begin g f = begin (λ ss st. and_then (g (h + total ss) st) (λ st'. f (back_to ss st')))

-- each body, the last of them first, gets copies of the deepest of the sums held, as many as it takes
unfoldable pub forked : ℕ → ℕ → List Sum → List Runner → State → Walked
forked at h ss [] st = went st
forked at h ss (f ∷ fs) st = and_then (forked at h ss fs st) (λ st'. and_then (lend at h (deepest f.args ss) st') (f.run h))

-- as many as the body that takes most
unfoldable pub most : List Runner → ℕ
most [] = 0
most (f ∷ fs) = max f.args (most fs)

-- exactly one body, or exactly two; else 8
abbrev pub one_body : ℕ → List Runner → State → (Runner → Walked) → Walked
one_body at [] st k = stop at InterpreterBug st
one_body at (f ∷ []) st k = k f
one_body at (f ∷ g ∷ fs) st k = stop at InterpreterBug st

abbrev pub two_bodies : ℕ → List Runner → State → (Runner → Runner → Walked) → Walked
two_bodies at [] st k = stop at InterpreterBug st
two_bodies at (f ∷ []) st k = stop at InterpreterBug st
two_bodies at (f ∷ g ∷ []) st k = k f g
two_bodies at (f ∷ g ∷ e ∷ fs) st k = stop at InterpreterBug st

unfoldable pub modifier : ℕ → Modifier → List Runner → ℕ → State → Walked
modifier at Dip fs h st = one_body at fs st (λ f. around h (holding at 1 0 h st) f.run went)
modifier at Gap fs h st = one_body at fs st (λ f. around h (dropping at st) f.run went)
modifier at On fs h st = one_body at fs st (λ f. around h (holding at 1 1 h st) f.run went)
modifier at By fs h st = one_body at fs st (λ f. around h (copying at f.args h st) f.run went)
modifier at Both fs h st = one_body at fs st (λ f. around h (holding at f.args 0 h st) f.run (f.run h))
modifier at Bracket fs h st = two_bodies at fs st (λ f g. around h (holding at f.args 0 h st) g.run (f.run h))
modifier at Fork fs h st = taking at (most fs) st (λ ss st'. forked at (h + total ss) ss fs st')
modifier at Unlisted fs h st = stop at NotSupported st
