-- What reading a list answers, held to the definition.
use Rattle.std.specs.Prelude.{ℕ, ◌+◌, ◌≤◌, ◌<◌, min, ◌≡◌}
use Rattle.limits.specs.Limits.{sum_levels}
use Rattle.cells.specs.Contract.Book.{Book}
use Rattle.arithmetic.specs.Singles.{GoodSum}
use Rattle.sums.specs.Tree.Sums.{Sum}
use Rattle.sums.specs.Contract.Lies.{Lies}
use Rattle.stack.specs.State.{most_pairs}
use Rattle.stack.specs.Contract.Arena.{Arena, Space, working, places}
use Rattle.stack.specs.Contract.Agree.{Same}
use Rattle.modifiers.specs.Reading.{Read, done, refused_at}
use Rattle.reading.specs.declared.env.AlgebraData.{AlgebraData}
use Rattle.reading.specs.declared.env.AlgebraData.TheVariants as answer

-- an arena of `top` places in which a list can be read: x has one, and there are no more than there may be
pub record Reaches (a : Arena) (top : ℕ) : Type 0 where
  pub space : Space a top
  pub some : working < top
  pub most : top ≤ places

-- the sum that was read lies in n cells behind the working places
pub record Given (b : Book) (n : ℕ) (s : Sum) : Type 0 where
  pub lies : Lies b working (working + n) sum_levels s
  pub good : GoodSum s

abbrev pub DataAs : AlgebraData → Book → Read → Type 0
DataAs (answer.Sum n c h k) b (done s c' h' k') = Given b n s × (c ≡ c') × (h ≡ h') × (k ≡ min most_pairs k')
DataAs (answer.Sum n c h k) b (refused_at q at h') = ⊥
DataAs (answer.Refused q at h) b (done s c' h' k') = ⊥
DataAs (answer.Refused q at h) b (refused_at q' at' h') = Same q at h q' at' h'
