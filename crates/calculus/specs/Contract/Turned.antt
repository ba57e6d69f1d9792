-- The kind that a function of another kind is derived or integrated to.
use Rattle.std.specs.Prelude.{ℕ, cond, eqb}
use Rattle.sums.specs.declared.tree.Merge.{Merge}
use Rattle.sums.specs.declared.tree.Merge.TheVariants.{Add, Take}
use Rattle.sums.specs.Tree.Kinds as kinds

-- the kind that the derivative of sin, cos, sinh or cosh is of, and how it is put in
abbrev pub turned_kind : ℕ → ℕ
turned_kind k = cond (eqb k kinds.Sin) kinds.Cos (cond (eqb k kinds.Cos) kinds.Sin (cond (eqb k kinds.SinH) kinds.CosH kinds.SinH))

abbrev pub turned_how : ℕ → Merge
turned_how k = cond (eqb k kinds.Cos) Take Add
