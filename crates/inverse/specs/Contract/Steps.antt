-- The steps by which a sum is undone, named for the contracts of the functions that take them.
use Rattle.std.specs.Prelude.{ℕ, ◌+◌, ◌≡◌, Bool, ◌&&◌, cond, List, eqb, Float, length, Result, Ok, Err}
use Rattle.numbers.specs.declared.complex.Complex.{Complex}
use Rattle.numbers.specs.Complex.Arith as complex
use Rattle.cells.specs.declared.Entry.{Entry}
use Rattle.limits.specs.declared.Refusal.TheVariants.{TooComplex}
use Rattle.sums.specs.Tree.Kinds as kinds
use Rattle.sums.specs.Tree.Sums.{Sum, none, and}
use Rattle.limits.specs.declared.Refusal.{Refusal}
use Rattle.writing.specs.declared.draft.Draft.{Draft}
use Rattle.writing.specs.Draft.Writing.{Written, refused, and_then}
use Rattle.writing.specs.Draft.Contract.Lying.{SaidAs}
use Rattle.writing.specs.Draft.Contract.Growing.{Ready}
use Rattle.inverse.specs.Inverse.{Word, spell, low, of_quadratic, of_power}
use Rattle.inverse.specs.declared.Others.{Others}
use Rattle.inverse.specs.declared.Others.TheVariants.{Nothing, Power, TooMuch}

-- the longest list that undoes a sum: a root of 8 records, the larger of two in 8 more, and a division in 2
abbrev pub inverse_records : ℕ
inverse_records = 8 + 8 + 2

-- ---- what there is besides x to the 0, 1 and 2

-- one more entry
abbrev pub one_more : Others → ℕ → Float → Complex → Others
one_more Nothing k p c = cond (eqb k kinds.X) (Power p c) TooMuch
one_more (Power q d) k p c = TooMuch
one_more TooMuch k p c = TooMuch

abbrev pub next_other : Others → Entry → Others
next_other o x = cond (low x.kind x.num) o (one_more o x.kind x.num x.coef)

-- what the other entries of a sum are
abbrev pub others_of : Sum → Others
others_of none = Nothing
others_of (and k p i c none) = cond (eqb k kinds.X) (Power p c) TooMuch
others_of (and k p i c (and l q j d r)) = TooMuch

abbrev pub by_others : Bool → Complex → Complex → Complex → Others → Written
by_others flag a b c Nothing = of_quadratic flag a b c
by_others flag a b c (Power p d) = cond (complex.same b complex.zero && complex.same a complex.zero) (of_power flag d p c) (refused TooComplex)
by_others flag a b c TooMuch = refused TooComplex

-- ---- words, one after the other; nothing follows a refusal

abbrev pub ReadyTo : List ℕ → Result Draft Refusal → ℕ → Type 0
ReadyTo b (Ok d) n = Ready b d 0 n
ReadyTo b (Err q) n = Unit {0}

-- at most n words are said
pub record Spelt (b b' : List ℕ) (s r : Result Draft Refusal) (n : ℕ) (flag : Bool) (ws : List Word) : Type 0 where
  pub ready : (more : ℕ) → ReadyTo b s (n + more) → ReadyTo b' r more
  pub long : length b' ≡ length b
  pub lies : (w : Written) → SaidAs s b w → SaidAs r b' (and_then w (λ ns. spell flag ws ns))

-- a whole list is said
pub record Told (b b' : List ℕ) (r : Result Draft Refusal) (w : Written) : Type 0 where
  pub long : length b' ≡ length b
  pub lies : SaidAs r b' w
