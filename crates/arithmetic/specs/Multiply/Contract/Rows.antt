-- What is multiplied row by row: sums that are powers of x and nothing else.
use Rattle.std.specs.Prelude.{ℕ, ◌+◌, Result, Ok, Err}
use Rattle.numbers.specs.Ops.{◌⊕◌}
use Rattle.numbers.specs.Complex.Arith as complex
use Rattle.cells.specs.declared.Entry.{Entry}
use Rattle.cells.specs.Contract.Book.{Book}
use Rattle.sums.specs.declared.tree.Merge.TheVariants.{Add}
use Rattle.limits.specs.declared.Refusal.{Refusal}
use Rattle.sums.specs.Tree.Kinds.{X}
use Rattle.sums.specs.Tree.Sums.{Sum, none, entry}
use Rattle.sums.specs.Tree.Map.{Outcome, formed}
use Rattle.sums.specs.Contract.Place.{OnlyPowers}
use Rattle.arithmetic.specs.Add.Contract.Operands.{Operand, Growing}

-- an operand of powers alone
pub record PowerOperand (b : Book) (i n p : ℕ) : Type 0 where
  pub operand : Operand b i n p
  pub only : OnlyPowers b.kinds i (i + n)

-- a sum of powers alone that grows
pub record PowersGrow (b : Book) (p n : ℕ) : Type 0 where
  pub growing : Growing b p n
  pub only : OnlyPowers b.kinds p (p + n)

-- what was formed is of powers alone
abbrev pub FormedPowers : Result ℕ Refusal → Book → ℕ → Type 0
FormedPowers (Ok n) b p = OnlyPowers b.kinds p (p + n)
FormedPowers (Err r) b p = Unit {0}

-- the product of the powers x and y is added into s; v, what is inside y, is nothing
abbrev pub power_into : Entry → Entry → Sum → Sum → Outcome
power_into x y v s = formed Add (entry X 0 (x.num ⊕ y.num) (complex.times x.coef y.coef)) none s
