-- The kinds of a term, as document 01 numbers them. X and Log have a number, a power or a base; X has no inside, and every other kind has one.
use Rattle.std.specs.Prelude.{ℕ, Bool, ◌||◌, eqb}

abbrev pub X : ℕ
X = 1

abbrev pub Div : ℕ
Div = 2

abbrev pub Log : ℕ
Log = 3

abbrev pub Exp : ℕ
Exp = 4

abbrev pub Sin : ℕ
Sin = 5

abbrev pub Cos : ℕ
Cos = 6

abbrev pub SinH : ℕ
SinH = 7

abbrev pub CosH : ℕ
CosH = 8

abbrev pub has_number : ℕ → Bool
has_number k = eqb k X || eqb k Log
