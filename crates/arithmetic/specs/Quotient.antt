-- The Rust's quotient of two sums. By one term, each term of the first is divided in turn; by several, only the constants 0 and 1 are.
use Rattle.std.specs.Prelude.{ℕ, Bool, true, false, ◌&&◌, ◌||◌, cond, eqb, Float}
use Rattle.std.specs.Float.Ieee.{neg}
use Rattle.numbers.specs.Ops.{◌⊖◌}
use Rattle.numbers.specs.Signs.{zero64, one64}
use Rattle.numbers.specs.declared.complex.Complex.{Complex}
use Rattle.numbers.specs.Complex.Arith as complex
use Rattle.cells.specs.declared.Entry.{Entry}
use Rattle.sums.specs.declared.tree.Merge.TheVariants.{Add}
use Rattle.limits.specs.declared.Refusal.TheVariants.{TooComplex}
use Rattle.sums.specs.Tree.Kinds.{X, Div}
use Rattle.sums.specs.Tree.Sums.{Sum, none, and, size, entry}
use Rattle.sums.specs.Tree.Same.{same_term}
use Rattle.sums.specs.Tree.Map.{Outcome, sum, refused, Found, at, absent, and_then_sum, unless, formed, each_into}
use Rattle.arithmetic.specs.Outcomes.{quotient_code, x_by_x, x_by_div, x_by_other, alike}
use Rattle.arithmetic.specs.Singles.{is_one, single, alone, as_constant, with_coef}
use Rattle.arithmetic.specs.declared.Change.TheVariants.{Times}
use Rattle.arithmetic.specs.Adding.{add_each}
use Rattle.arithmetic.specs.Product.{mulable, product}

-- x to the p, times 1
abbrev pub x_to : Float → Sum
x_to p = single X p none complex.one

-- whether the term x, i has a quotient by the term y, j
abbrev pub divable : Entry → Sum → Entry → Sum → Bool
divable x i y j =
    let code = quotient_code x.kind y.kind in
    cond (eqb code x_by_x) true
    (cond (eqb code x_by_div) (is_one x.kind x.num || mulable (x_to x.num) j)
    (cond (eqb code x_by_other) (is_one x.kind x.num) (eqb code alike && same_term x i y j)))

unfoldable pub all_divable : Entry → Sum → Sum → Bool
all_divable y j none = true
all_divable y j (and k p i c r) = divable (entry k (size i) p c) i y j && all_divable y j r

-- each entry of w, its coefficient times c, is added into s
abbrev pub add_times : Complex → Sum → Sum → Outcome
add_times c s w = add_each (Times c) s w

-- the term x divided by y, j is added into s. 1/Div(b) is b; 1/X(p) is X(-p); 1/t is Div(t); X(a)/X(b) is X(a ⊖ b); X(a)/Div(b) is X(a) times b; terms that are == give X(1)
abbrev pub div_term : Entry → Sum → Entry → Sum → Outcome
div_term y j x s =
    let code = quotient_code x.kind y.kind in
    let one? = is_one x.kind x.num in
    let c = complex.over x.coef y.coef in
    let c1 = complex.times c complex.one in
    cond (eqb code x_by_x) (formed Add (entry X 0 (cond one? (neg y.num) (x.num ⊖ y.num)) c1) none s)
    (cond (eqb code x_by_div) (cond one? (add_times c s j) (and_then_sum (product (x_to x.num) j) (λ w. add_times c s w)))
    (cond (eqb code x_by_other) (formed Add (entry Div (size (single y.kind y.num j complex.one)) zero64 c1) (single y.kind y.num j complex.one) s)
    (formed Add (entry X 0 one64 c1) none s)))

-- by several terms
abbrev pub div_by_several : Sum → Sum → Found → Outcome
div_by_several a b absent = refused TooComplex
div_by_several a b (at c) = cond (complex.same c complex.zero) (sum a) (cond (complex.same c complex.one) (alone Div zero64 b complex.one) (refused TooComplex))

unfoldable pub quotient : Sum → Sum → Outcome
quotient a none = div_by_several a none (as_constant a)
quotient a (and l q j d none) = unless (all_divable (entry l (size j) q d) j a) TooComplex (each_into (λ x i s. div_term (entry l (size j) q d) j x s) none a)
quotient a (and l q j d (and m r k f s)) = div_by_several a (and l q j d (and m r k f s)) (as_constant a)
