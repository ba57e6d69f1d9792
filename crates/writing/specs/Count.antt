-- How many records a sum of powers is written as, in document 01's words.
use Rattle.std.specs.Prelude.{ℕ, ◌+◌, ◌-◌, ◌*◌, ◌≡◌, Bool, true, false, cond, List, [], ◌∷◌, length, Float}
use Rattle.numbers.specs.declared.complex.Complex.{Complex}
use Rattle.numbers.specs.Complex.Arith as complex
use Rattle.sums.specs.Tree.Kinds as kinds
use Rattle.sums.specs.Tree.Sums.{Sum, none, and}
use Rattle.formats.specs.Tree.{Nodes, size}
use Rattle.writing.specs.Draft.Writing.{can_write, wrote}
use Rattle.writing.specs.ToNodes.{Form, constant, root, bare, square, power, form, write}

-- a term that isn't zero: which arm of the match its power takes, and whether its coefficient is 1
pub data Shape : Type 0 where
  shape : Form → Bool → Shape

-- power 0: 4; 0.5: 1; 1: 0; other: 2; and 2 more if the coefficient isn't 1, but not for power 0
unfoldable pub cost : Form → Bool → ℕ
cost constant unit = 4
cost root unit = cond unit 1 3
cost bare unit = cond unit 0 2
cost square unit = cond unit 2 4
cost power unit = cond unit 2 4

unfoldable pub costs : List Shape → ℕ
costs [] = 0
costs (shape m unit ∷ ts) = cost m unit + costs ts

-- x itself
abbrev pub bare_x : Form → Bool → Bool
bare_x constant unit = false
bare_x root unit = false
bare_x bare unit = unit
bare_x square unit = false
bare_x power unit = false

-- no terms: 2; bare x alone: 1; else the costs and 3 for each term but the first, less 1 if the first of two or more is bare x
unfoldable pub records_for : List Shape → ℕ
records_for [] = 2
records_for (shape m unit ∷ []) = cond (bare_x m unit) 1 (cost m unit)
records_for (shape m unit ∷ t ∷ ts) = costs (shape m unit ∷ t ∷ ts) + 3 * length (t ∷ ts) - cond (bare_x m unit) 1 0

-- the terms of the sum that aren't zero are powers of x whose coefficients can be written, and ts lists them
pub data Powers (flag : Bool) : Sum → List Shape → Type 0 where
  nothing : Powers flag none []
  zero : {k : ℕ} {p : Float} {j : Sum} {c : Complex} {r : Sum} {ts : List Shape}
      → complex.same c complex.zero ≡ true → Powers flag r ts → Powers flag (and k p j c r) ts
  term : {p : Float} {j : Sum} {c : Complex} {r : Sum} {ts : List Shape}
      → complex.same c complex.zero ≡ false → can_write flag c ≡ true → Powers flag r ts
      → Powers flag (and kinds.X p j c r) (shape (form p) (complex.same c complex.one) ∷ ts)

-- the sum, written after the list so far, makes a list of n records; id says whether x alone was met
pub record Counted (flag : Bool) (s : Sum) (id : Bool) (ns : Nodes) (n : ℕ) : Type 0 where
  pub list : Nodes
  pub written : write flag s id ns ≡ wrote list
  pub counted : size list ≡ n
