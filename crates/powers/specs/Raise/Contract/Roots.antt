-- A sum that has a root with no mathematics: one term, an X or a Div of such a sum, whose coefficients are all 1; and what becomes of each of its cells.
use Rattle.std.specs.Prelude.{ℕ, ◌+◌, ◌≤◌, ◌≡◌, true, cond, eqb, Float}
use Rattle.limits.specs.Limits.{sum_entries, sum_levels}
use Rattle.numbers.specs.Ops.{◌⊗◌}
use Rattle.numbers.specs.Signs.{zero64}
use Rattle.cells.specs.declared.Entry.{Entry}
use Rattle.cells.specs.Contract.Book.{Book}
use Rattle.sums.specs.Tree.Kinds.{X}
use Rattle.sums.specs.Tree.Sums.{Sum, entry}
use Rattle.arithmetic.specs.Power.{rootable, unit_coefs, root_of_one}
use Rattle.sums.specs.Contract.Lies.{Lies}

-- such a sum lies in the n cells from i on
pub record Rooting (b : Book) (i n : ℕ) (s : Sum) : Type 0 where
  pub lies : Lies b i (i + n) sum_levels s
  pub few : n ≤ sum_entries
  pub single : rootable s ≡ true
  pub units : unit_coefs s ≡ true

-- an X's power times e, and each coefficient's root
abbrev pub root_entry : Float → Entry → Entry
root_entry e x = entry x.kind x.inside (cond (eqb x.kind X) (x.num ⊗ e) zero64) (root_of_one x.coef e)
