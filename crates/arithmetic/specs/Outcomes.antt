-- What becomes of two terms by their kinds: of a product, and of a quotient, left kind first.
use Rattle.std.specs.Prelude.{ℕ, Bool, ◌&&◌, cond, eqb}
use Rattle.sums.specs.Tree.Kinds.{X, Div}

-- a product: there is none, the powers are added, or the insides are multiplied
abbrev pub no_product : ℕ
no_product = 0

abbrev pub add_powers : ℕ
add_powers = 1

abbrev pub mul_insides : ℕ
mul_insides = 2

abbrev pub product_code : ℕ → ℕ → ℕ
product_code k l = cond (eqb k X && eqb l X) add_powers (cond (eqb k Div && eqb l Div) mul_insides no_product)

-- a quotient: there is none, X by X, X by Div, X by another kind, or two of one kind
abbrev pub no_quotient : ℕ
no_quotient = 0

abbrev pub x_by_x : ℕ
x_by_x = 1

abbrev pub x_by_div : ℕ
x_by_div = 2

abbrev pub x_by_other : ℕ
x_by_other = 3

abbrev pub alike : ℕ
alike = 4

abbrev pub quotient_code : ℕ → ℕ → ℕ
quotient_code k l = cond (eqb k X) (cond (eqb l X) x_by_x (cond (eqb l Div) x_by_div x_by_other)) (cond (eqb k l) alike no_quotient)
