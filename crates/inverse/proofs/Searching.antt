-- Looking through the outermost entries of a sum: for a coefficient, and for what there is besides x to the 0, 1 and 2. Assumes nothing.
use Prim.Native.Nat.{ℕ, ◌+◌, ◌≤◌, ◌<◌}
use native.Mathlib.Omega.{arith}
use mathlib.Core.Path.{◌≡◌, refl, sym, ap, subst, ◌∙◌}
use mathlib.Core.Bool.{Bool, true, false, ◌&&◌, cond}
use lib.Dec.{eqb}
use borrow.Author.Tests.{eq-eqb, ne_eqb}
use lib.Ieee.{Float, eq}
use Rattle.numbers.specs.Constants.{two64}
use Rattle.numbers.specs.Signs.{zero64, one64}
use Rattle.numbers.specs.declared.complex.Complex.{Complex}
use Rattle.numbers.specs.Complex.Arith as complex
use Rattle.cells.specs.declared.Entry.{Entry}
use Rattle.cells.specs.Contract.Book.{Book}
use Rattle.cells.specs.Contract.Book as book
use Rattle.limits.specs.declared.Refusal.TheVariants.{TooComplex}
use Rattle.sums.specs.Tree.Kinds as kinds
use Rattle.sums.specs.Tree.Sums.{Sum, none, and}
use Rattle.sums.specs.Tree.Map.{at}
use Rattle.arithmetic.specs.Powers.{coef_at}
use Rattle.sums.specs.Contract.Lies.{Lies, Held}
use Rattle.sums.proofs.order.Walk.{Next, next, lies-none}
use Rattle.writing.specs.Draft.Writing.{refused}
use Rattle.inverse.specs.Inverse.{or_zero, coef_of, low, others, of_power, of_others, inverse}
use Rattle.inverse.proofs.Coefs.{coef-first}
use Rattle.inverse.specs.Contract.Steps.{one_more, next_other, others_of, by_others}
use Rattle.inverse.specs.declared.Others.{Others}
use Rattle.inverse.specs.declared.Others.TheVariants.{Nothing, Power, TooMuch}

-- ---- a turn of a loop: the entry at i, whose inside takes n cells

module _ (b : Book) (j m i : ℕ) (h : i < j + m) {x : Entry} (r : x ≡ book.at b i) (s : Sum) (l : Lies b i (j + m) 4 s) where
  opened : Next b i (j + m) 4 s x
  opened = next b i (j + m) 4 s x r l h

  module _ {n : ℕ} (z : n ≡ x.inside) where
    turn-within : i + 1 + n ≤ j + m
    turn-within = omega (arith, opened.within, z)

    turn-rest : Lies b (i + 1 + n) (j + m) 4 opened.rest
    turn-rest = subst (λ (k : ℕ). Lies b (i + 1 + k) (j + m) 4 opened.rest) (sym z) opened.lies-rest

-- ---- the coefficient of x to the q

abbrev pub Seeking : Book → ℕ → ℕ → Float → ℕ → Type 0
Seeking b j m q i = (s : Sum) → Lies b j (j + m) 4 s → (s' : Sum) × Lies b i (j + m) 4 s' × (coef_of q s ≡ coef_of q s')

module _ (b : Book) (j m : ℕ) (q : Float) where
  pub seek-start : Seeking b j m q j
  seek-start s l = (s, l, refl)

  pub seek-end : (i : ℕ) → Seeking b j m q i → j + m ≤ i → (s : Sum) → Lies b j (j + m) 4 s → complex.zero ≡ coef_of q s
  unfolding coef_of coef_at
  seek-end i g e s l = let w = g s l in sym (w.2 ∙ ap (coef_of q) (lies-none b i (j + m) 4 w.0 w.1 e))

  module _ (i : ℕ) (g : Seeking b j m q i) (h : i < j + m) {x : Entry} (r : x ≡ book.at b i) where
    seek-first : (s : Sum) (l : Lies b j (j + m) 4 s) → coef_of q s ≡ cond (eqb x.kind kinds.X && eq x.num q) x.coef (coef_of q (opened b j m i h r (g s l).0 (g s l).1).rest)
    seek-first s l = (g s l).2 ∙ ap (coef_of q) (opened b j m i h r (g s l).0 (g s l).1).is ∙ coef-first q _ _ _ _ _

    pub seek_found : eqb x.kind kinds.X && eq x.num q ≡ true → (s : Sum) → Lies b j (j + m) 4 s → x.coef ≡ coef_of q s
    seek_found t s l = sym (seek-first s l ∙ ap (λ (u : Bool). cond u x.coef (coef_of q (opened b j m i h r (g s l).0 (g s l).1).rest)) t)

    pub seek-next : {n : ℕ} → n ≡ x.inside → eqb x.kind kinds.X && eq x.num q ≡ false → Seeking b j m q (i + 1 + n)
    seek-next z t s l =
        let o = opened b j m i h r (g s l).0 (g s l).1 in
        (o.rest, turn-rest b j m i h r (g s l).0 (g s l).1 z, seek-first s l ∙ ap (λ (u : Bool). cond u x.coef (coef_of q o.rest)) t)

    pub seek-within : {n : ℕ} → n ≡ x.inside → Held b j (j + m) 4 → i + 1 + n ≤ j + m
    seek-within z (s, l) = turn-within b j m i h r (g s l).0 (g s l).1 z

-- ---- the others

-- each entry in turn
unfoldable pub others_from : Others → Sum → Others
others_from o none = o
others_from o (and k p i c r) = others_from (next_other o record { kind = k; inside = 0; num = p; coef = c }) r

too_much : (s : Sum) → others_from TooMuch s ≡ TooMuch
unfolding others_from
too_much none = refl
too_much (and k p i c r) = either (low k p) (too_much r)
  where
    either : (t : Bool) → others_from TooMuch r ≡ TooMuch → others_from (cond t TooMuch TooMuch) r ≡ TooMuch
    either true e = e
    either false e = e

-- after one power
abbrev power_then : Float → Complex → Sum → Others
power_then p c none = Power p c
power_then p c (and l q j d r) = TooMuch

after-power : (p : Float) (c : Complex) (s : Sum) → others_from (Power p c) s ≡ power_then p c (others s)
unfolding others_from others
after-power p c none = refl
after-power p c (and l q j d r) = either (low l q) (after-power p c r)
  where
    either : (t : Bool) → others_from (Power p c) r ≡ power_then p c (others r) → others_from (cond t (Power p c) TooMuch) r ≡ power_then p c (cond t (others r) (and l q j d (others r)))
    either true e = e
    either false e = too_much r

all_others : (s : Sum) → others_from Nothing s ≡ others_of (others s)
unfolding others_from others
all_others none = refl
all_others (and k p i c r) = either (low k p) (all_others r)
  where
    alone : (t : Bool) (u : Sum) → others_from (Power p c) r ≡ power_then p c u → eqb k kinds.X ≡ t → others_from (cond t (Power p c) TooMuch) r ≡ others_of (and k p i c u)
    alone true none e x = e ∙ sym (ap (λ (y : Bool). cond y (Power p c) TooMuch) x)
    alone true (and l q j d v) e x = e
    alone false none e x = too_much r ∙ sym (ap (λ (y : Bool). cond y (Power p c) TooMuch) x)
    alone false (and l q j d v) e x = too_much r

    either : (t : Bool) → others_from Nothing r ≡ others_of (others r)
        → others_from (cond t Nothing (cond (eqb k kinds.X) (Power p c) TooMuch)) r ≡ others_of (cond t (others r) (and k p i c (others r)))
    either true e = e
    either false e = alone (eqb k kinds.X) (others r) (after-power p c r) refl

-- what is left goes on from what was found
abbrev pub Looking : Book → ℕ → ℕ → ℕ → Others → Type 0
Looking b j m i o = (s : Sum) → Lies b j (j + m) 4 s → (s' : Sum) × Lies b i (j + m) 4 s' × (others_of (others s) ≡ others_from o s')

module _ (b : Book) (j m : ℕ) where
  pub look-start : Looking b j m j Nothing
  look-start s l = (s, l, sym (all_others s))

  pub look-end : (i : ℕ) (o : Others) → Looking b j m i o → j + m ≤ i → (s : Sum) → Lies b j (j + m) 4 s → o ≡ others_of (others s)
  unfolding others_from
  look-end i o g e s l = let w = g s l in sym (w.2 ∙ ap (others_from o) (lies-none b i (j + m) 4 w.0 w.1 e))

  module _ (i : ℕ) (o : Others) (g : Looking b j m i o) (h : i < j + m) {x : Entry} (r : x ≡ book.at b i) {n : ℕ} (z : n ≡ x.inside) where
    pub look-next : {o' : Others} → o' ≡ next_other o x → Looking b j m (i + 1 + n) o'
    unfolding others_from
    look-next e s l =
        let f = opened b j m i h r (g s l).0 (g s l).1 in
        (f.rest, turn-rest b j m i h r (g s l).0 (g s l).1 z, (g s l).2 ∙ ap (others_from o) f.is ∙ sym (ap (λ (y : Others). others_from y f.rest) e))

    pub look-within : Held b j (j + m) 4 → i + 1 + n ≤ j + m
    look-within (s, l) = turn-within b j m i h r (g s l).0 (g s l).1 z

-- ---- one entry

module _ (o : Others) (x : Entry) {t : Bool} (e : t ≡ low x.kind x.num) where
  pub next_low : t ≡ true → o ≡ next_other o x
  next_low h = sym (ap (λ (u : Bool). cond u o (one_more o x.kind x.num x.coef)) (sym e ∙ h))

  module _ (h : t ≡ false) where
    next-high : (y : Others) → o ≡ y → next_other o x ≡ one_more y x.kind x.num x.coef
    next-high y f = ap (λ (u : Bool). cond u o (one_more o x.kind x.num x.coef)) (sym e ∙ h) ∙ ap (λ (z : Others). one_more z x.kind x.num x.coef) f

    pub next_power : o ≡ Nothing → x.kind ≡ kinds.X → Power x.num x.coef ≡ next_other o x
    next_power f k = sym (next-high Nothing f ∙ ap (λ (u : Bool). cond u (Power x.num x.coef) TooMuch) (eq-eqb x.kind kinds.X k))

    pub next-function : o ≡ Nothing → (x.kind ≡ kinds.X → ⊥) → TooMuch ≡ next_other o x
    next-function f k = sym (next-high Nothing f ∙ ap (λ (u : Bool). cond u (Power x.num x.coef) TooMuch) (ne_eqb x.kind kinds.X k))

    pub next-second : (p : Float) (c : Complex) → o ≡ Power p c → TooMuch ≡ next_other o x
    next-second p c f = sym (next-high (Power p c) f)

    pub next-third : o ≡ TooMuch → TooMuch ≡ next_other o x
    next-third f = sym (next-high TooMuch f)

-- ---- the whole sum

by-others : (flag : Bool) (a b c : Complex) (s : Sum) → of_others flag a b c s ≡ by_others flag a b c (others_of s)
unfolding of_others
by-others flag a b c none = refl
by-others flag a b c (and k p i d none) = alone (eqb k kinds.X)
  where
    alone : (t : Bool) → cond (t && complex.same b complex.zero && complex.same a complex.zero) (of_power flag d p c) (refused TooComplex) ≡ by_others flag a b c (cond t (Power p d) TooMuch)
    alone true = refl
    alone false = refl
by-others flag a b c (and k p i d (and l q j e r)) = refl

pub inverse-is : (flag : Bool) (s : Sum) {a b c : Complex} {o : Others} → a ≡ coef_of two64 s → b ≡ coef_of one64 s → c ≡ coef_of zero64 s → o ≡ others_of (others s)
    → by_others flag a b c o ≡ inverse flag s
unfolding inverse
inverse-is flag s e f g h = rw (e, f, g, h) (sym (by-others flag (coef_of two64 s) (coef_of one64 s) (coef_of zero64 s) (others s)))
