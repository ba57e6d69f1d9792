-- What a good sum is: one that the Rust's map could hold, within document 01's limits.
use Rattle.std.specs.Prelude.{ℕ, zero, suc, ◌≤◌, ◌≡◌, Bool, true, false, ◌&&◌, T, eqb, pos, Float}
use Rattle.std.specs.Float.{fin, binary64}
use Rattle.std.specs.Float.Ieee.{fits}
use Rattle.std.specs.Float.Ieee.Scale.{finite}
use Rattle.numbers.specs.declared.complex.Complex.{Complex}
use Rattle.numbers.specs.Complex.Arith as complex
use Rattle.std.specs.declared.cmp.Ordering.TheVariants.{Less}
use Rattle.sums.specs.Tree.Kinds.{X, has_number}
use Rattle.sums.specs.Tree.Sums.{Sum, none, and, size, entry}
use Rattle.sums.specs.Tree.Order.{cmp_term}

-- a finite binary64 number
abbrev pub is_number : Float → Bool
is_number x = finite x && fits binary64 x

abbrev pub is_empty : Sum → Bool
is_empty none = true
is_empty (and k p i c r) = false

-- one entry by itself: its kind is 1 to 8; its numbers are finite, and +0 where the kind has none; it has an inside unless it is an X
pub record GoodEntry (k : ℕ) (p : Float) (i : Sum) (c : Complex) : Type 0 where
  pub least : 1 ≤ k
  pub most : k ≤ 8
  pub number : T (is_number p)
  pub none_else : has_number k ≡ false → p ≡ fin false 0 (pos 0)
  pub re : T (is_number c.re)
  pub im : T (is_number c.im)
  pub inside : is_empty i ≡ eqb k X

-- the term comes before the first of s
abbrev pub Before : ℕ → Float → Sum → Sum → Type 0
Before k p i none = Unit {0}
Before k p i (and l q j d s) = cmp_term (entry k (size i) p complex.zero) i (entry l (size j) q complex.zero) j ≡ Less

-- each entry is good, each level strictly rises, and no entry lies inside as many as `left` others; the outermost level may be empty
unfoldable pub Good : ℕ → Sum → Type 0
Good left none = Unit {0}
Good zero (and k p i c r) = ⊥
Good (suc left) (and k p i c r) = GoodEntry k p i c × Good left i × Before k p i r × Good (suc left) r
