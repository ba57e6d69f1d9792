-- The map of terms to coefficients: looking up, and putting a term in. Zero coefficients stay; where the key is there already, the key that was there stays.
use Rattle.std.specs.Prelude.{ℕ, ◌-◌, Bool, true, false, cond, leb, eqb, Float}
use Rattle.std.specs.Float.Ieee.Scale.{finite}
use Rattle.limits.specs.Limits.{sum_entries, sum_levels}
use Rattle.std.specs.declared.cmp.Ordering.{Ordering}
use Rattle.std.specs.declared.cmp.Ordering.TheVariants.{Less, Equal, Greater}
use Rattle.numbers.specs.declared.complex.Complex.{Complex}
use Rattle.numbers.specs.Complex.Arith as complex
use Rattle.cells.specs.declared.Entry.{Entry}
use Rattle.sums.specs.declared.tree.Merge.{Merge}
use Rattle.sums.specs.declared.tree.Merge.TheVariants.{Add, Take, Store}
use Rattle.limits.specs.declared.Refusal.{Refusal}
use Rattle.limits.specs.declared.Refusal.TheVariants.{NoRoom, TooDeep, NotFinite, PowerNotFinite}
use Rattle.sums.specs.Tree.Kinds.{X}
use Rattle.sums.specs.Tree.Sums.{Sum, none, and, size, levels, entry}
use Rattle.sums.specs.Tree.Order.{cmp_term}

abbrev pub by_order : {A : Type 0} → Ordering → A → A → A → A
by_order Less a b c = a
by_order Equal a b c = b
by_order Greater a b c = c

-- what a key's coefficient becomes; a new key starts from +0
abbrev pub merged : Merge → Complex → Complex → Complex
merged Add old c = complex.plus old c
merged Take old c = complex.minus old c
merged Store old c = c

-- the coefficient that the term of head x and inside t then has in the sum
unfoldable pub coef_in : Merge → Entry → Sum → Sum → Complex
coef_in m x t none = merged m complex.zero x.coef
coef_in m x t (and l q j d r) =
    by_order (cmp_term x t (entry l (size j) q d) j) (merged m complex.zero x.coef) (merged m d x.coef) (coef_in m x t r)

-- the sum with the term put in
unfoldable pub put_in : Merge → Entry → Sum → Sum → Sum
put_in m x t none = and x.kind x.num t (merged m complex.zero x.coef) none
put_in m x t (and l q j d r) =
    by_order (cmp_term x t (entry l (size j) q d) j)
    (and x.kind x.num t (merged m complex.zero x.coef) (and l q j d r))
    (and l q j (merged m d x.coef) r)
    (and l q j d (put_in m x t r))

-- a sum, or a refusal
pub data Outcome : Type 0 where
  sum : Sum → Outcome
  refused : Refusal → Outcome

-- the first refusal, or what comes next
abbrev pub and_then_sum : Outcome → (Sum → Outcome) → Outcome
and_then_sum (sum s) f = f s
and_then_sum (refused r) f = refused r

abbrev pub unless : Bool → Refusal → Outcome → Outcome
unless true r o = o
unless false r o = refused r

-- why a term's number can't be: 18 for the power of an X, 15 for a base
abbrev pub not_finite : ℕ → Refusal
not_finite k = cond (eqb k X) PowerNotFinite NotFinite

-- an entry formed in the sum s: 18 for its power or 15 for its base, then 15 for the coefficient that it then has, 13, 12
unfoldable pub formed : Merge → Entry → Sum → Sum → Outcome
formed m x t s =
    unless (finite x.num) (not_finite x.kind)
    (unless (complex.all_finite (coef_in m x t s)) NotFinite
    (unless (leb (levels t) (sum_levels - 1)) TooDeep
    (unless (leb (size (put_in m x t s)) sum_entries) NoRoom (sum (put_in m x t s)))))

-- each outermost entry of a sum in turn, given to a step that has what was formed so far
unfoldable pub each_into : (Entry → Sum → Sum → Outcome) → Sum → Sum → Outcome
each_into f s none = sum s
each_into f s (and l q j d r) = and_then_sum (f (entry l (size j) q d) j s) (λ s'. each_into f s' r)

-- ---- looking up
pub data Found : Type 0 where
  at : Complex → Found
  absent : Found

unfoldable pub lookup : Entry → Sum → Sum → Found
lookup x t none = absent
lookup x t (and l q j d r) = by_order (cmp_term x t (entry l (size j) q d) j) absent (at d) (lookup x t r)

-- an outermost entry of the sum
pub data Has (k : ℕ) (p : Float) (i : Sum) (c : Complex) : Sum → Type 0 where
  here : {r : Sum} → Has k p i c (and k p i c r)
  there : {l : ℕ} {q : Float} {j : Sum} {d : Complex} {r : Sum} → Has k p i c r → Has k p i c (and l q j d r)
