-- The list that undoes a good sum is a good list: its records keep the rules, none stands inside another, and there are few. Assumes nothing.
use Prim.Native.Nat.{ℕ, zero, suc, ◌+◌}
use native.Mathlib.Omega.{arith}
use mathlib.Core.Path.{◌≡◌, subst}
use mathlib.Core.Bool.{Bool, true, false, not, ◌&&◌, cond}
use mathlib.Core.List.{List, [], ◌∷◌}
use lib.Dec.{T, eqb}
use lib.Ieee.{Float, eq, neg, binary64, fits}
use lib.Ieee.Scale.{finite}
use lib.Ieee.Fits.{and_r, mul-fits, div-fits}
use Rattle.std.specs.Prelude.{Ok}
use Rattle.numbers.specs.Constants.{half64, two64}
use Rattle.numbers.specs.Signs.{zero64, one64}
use Rattle.numbers.specs.Ops.{◌⊗◌}
use Rattle.numbers.specs.declared.complex.Complex.{Complex}
use Rattle.numbers.specs.Complex.Arith as complex
use Rattle.limits.specs.declared.Refusal.{Refusal}
use Rattle.limits.specs.declared.Refusal.TheVariants.{TooComplex, NeedsMath}
use Rattle.sums.specs.Tree.Kinds as kinds
use Rattle.sums.specs.Tree.Sums.{Sum, none, and}
use Rattle.sums.specs.Tree.Good as good
use Rattle.sums.proofs.tree.Keeps.{Fits}
use Rattle.arithmetic.specs.Powers.{coef_at}
use Rattle.arithmetic.proofs.Goodness.{fits-times, fits_bits}
use Rattle.formats.specs.declared.record.Primitive.{Primitive}
use Rattle.formats.specs.declared.record.Primitive.TheVariants as prim
use Rattle.formats.specs.Tree.{Nodes, end, encode}
use Rattle.formats.specs.Rules.{verdict}
use Rattle.writing.specs.Draft.Writing.{does, append, one, Written, wrote, refused, and_then, number_record, can_write, if_can}
use Rattle.writing.proofs.draft.Fine.{Fine, fine_more, fine_end, fine-say, fine-good, plain-does, plain-number}
use Rattle.inverse.proofs.Coefs.{coef-first}
use Rattle.inverse.specs.Inverse.{Word, num, act, spell, minus_four64, minus_one64, coef_of, low, others, less_constant, over_factor, unpower, is_int, simple_quadratic, full_quadratic, linear, of_quadratic, of_others, inverse}

-- ---- words

-- at most n words, whose numbers are binary64 numbers
data Fitting : ℕ → List Word → Type 0 where
  nothing : {n : ℕ} → Fitting n []
  says : {n : ℕ} {c : Complex} {ws : List Word} → Fits c → Fitting n ws → Fitting (suc n) (num c ∷ ws)
  acts : {n : ℕ} {p : Primitive} {ws : List Word} → Fitting n ws → Fitting (suc n) (act p ∷ ws)

more : {n : ℕ} {ws : List Word} → Fitting n ws → Fitting (suc n) ws
more nothing = nothing
more (says c f) = says c (more f)
more (acts f) = acts (more f)

either : {n : ℕ} {a b : List Word} (t : Bool) → Fitting n a → Fitting n b → Fitting n (cond t a b)
either true f g = f
either false f g = g

wrote-same : (a b : Nodes) → wrote a ≡ wrote b → a ≡ b
wrote-same a b e = cc

never : {A : Type 0} (q : Refusal) (ns : Nodes) → refused q ≡ wrote ns → A
never q ns e = let z : ◌≡◌ {A = ℕ} 0 1 = cc in absurd (omega arith)

said-fine : (t : Bool) (f : Nodes → Written) (ls ms : Nodes) (n : ℕ) → (f ls ≡ wrote ms → Fine n 1 ms) → and_then (if_can t (wrote ls)) f ≡ wrote ms → Fine n 1 ms
said-fine true f ls ms n h e = h e
said-fine false f ls ms n h e = never _ ms e

spell-fine : (flag : Bool) (n : ℕ) (ws : List Word) (m : ℕ) (ns ms : Nodes) → Fitting n ws → Fine m 1 ns → spell flag ws ns ≡ wrote ms → Fine (m + n) 1 ms
unfolding spell
spell-fine flag n [] m ns ms nothing f e = subst (Fine (m + n) 1) (wrote-same ns ms e) (fine_more (m + n) 1 f (omega arith) (omega arith))
spell-fine flag (suc n) (num c ∷ ws) m ns ms (says x w) f e =
    let ls : Nodes = append ns (one (number_record flag c)) in
    let g : Fine (m + 1) 1 ls = fine-say ns (number_record flag c) f (omega arith) (plain-number flag c x.re x.im) in
    said-fine (can_write flag c) (λ ks. spell flag ws ks) ls ms (m + suc n) (λ h. fine_more (m + suc n) 1 (spell-fine flag n ws (m + 1) ls ms w g h) (omega arith) (omega arith)) e
spell-fine flag (suc n) (act p ∷ ws) m ns ms (acts w) f e =
    fine_more (m + suc n) 1 (spell-fine flag n ws (m + 1) (append ns (one (does p))) ms w (fine-say ns (does p) f (omega arith) (plain-does p)) e) (omega arith) (omega arith)
spell-fine flag zero (_ ∷ ws) m ns ms x5 f e = elim x5 [ ]

-- ---- what is written is good

abbrev GoodList : Written → Type 0
GoodList w = (ns : Nodes) → w ≡ wrote ns → verdict (encode ns) ≡ Ok tt

spell-good : (flag : Bool) (ws : List Word) → Fitting 18 ws → GoodList (spell flag ws end)
spell-good flag ws f ns e = fine-good ns (omega arith) (omega arith) (spell-fine flag 18 ws 0 end ns f (fine_end 1) e)

refused-good : (q : Refusal) → GoodList (refused q)
refused-good q ns e = never q ns e

either-good : (t : Bool) (a b : Written) → GoodList a → GoodList b → GoodList (cond t a b)
either-good true a b f g = f
either-good false a b f g = g

-- ---- the forms

fits-scaled : (c : Complex) (x : Float) → Fits (complex.times_real c x)
fits-scaled c x = record { re = mul-fits binary64 c.re x; im = mul-fits binary64 c.im x }

fits-over : (b : Complex) → Fits (complex.real_over one64 b)
fits-over b = record { re = div-fits binary64 (one64 ⊗ b.re) (complex.norm b); im = div-fits binary64 (neg one64 ⊗ b.im) (complex.norm b) }

fits-real : (x : Float) → T (fits binary64 x) → Fits (complex.real x)
fits-real x f = record { re = f; im = (fits_bits 0).im }

fit-unpower : (p : Float) → T (fits binary64 p) → Fitting 14 (unpower p)
fit-unpower p f = either (eq p half64) (acts (acts nothing)) (either (eq p minus_one64) (acts nothing) (says (fits-real p f) (acts nothing)))

fit-power : (k c : Complex) (p : Float) → Fits k → Fits c → T (fits binary64 p) → Fitting 18 (less_constant c (over_factor k (unpower p)))
fit-power k c p fk fc fp =
    let w : Fitting 14 (unpower p) = fit-unpower p fp in
    let v : Fitting 16 (over_factor k (unpower p)) = either (complex.same k complex.one) (more (more w)) (says fk (acts w)) in
    either (complex.same c complex.zero) (more (more v)) (says fc (acts v))

fit-linear : (b c : Complex) → Fits b → Fits c → Fitting 18 (linear b c)
fit-linear b c fb fc =
    either (complex.same c complex.zero)
    (either (complex.same b complex.one) (acts nothing) (either (complex.abs_above_one b) (says fb (acts nothing)) (says (fits-over b) (acts nothing))))
    (says fc (acts (says fb (acts nothing))))

fit-simple : (a c : Complex) → Fits a → Fits c → Fitting 18 (simple_quadratic a c)
fit-simple a c fa fc = says fc (acts (says fa (acts (acts nothing))))

fit-full : (a b c : Complex) → Fits b → Fits c → Fitting 18 (full_quadratic a b c)
fit-full a b c fb fc =
    says fc (acts (acts (says (fits-scaled a minus_four64) (acts
    (says (fits-times b b) (acts (acts (acts (says fb (acts (acts (acts (says fb (acts (acts (says (fits-scaled a two64) (acts nothing)))))))))))))))))

quadratic-good : (flag : Bool) (a b c : Complex) → Fits a → Fits b → Fits c → GoodList (of_quadratic flag a b c)
quadratic-good flag a b c fa fb fc =
    either-good (complex.same a complex.zero) _ _
    (either-good (complex.same b complex.zero) _ _ (spell-good (not (eq c.im zero64)) (act prim.Pop ∷ num c ∷ []) (acts (says fc nothing))) (spell-good flag (linear b c) (fit-linear b c fb fc)))
    (either-good (complex.same b complex.zero) _ _ (spell-good flag (simple_quadratic a c) (fit-simple a c fa fc)) (spell-good flag (full_quadratic a b c) (fit-full a b c fb fc)))

-- ---- the whole sum

abbrev FitSum : Sum → Type 0
FitSum none = Unit {0}
FitSum (and k p i c r) = T (fits binary64 p) × Fits c × FitSum r

fit-sum : (left : ℕ) (s : Sum) → good.Good left s → FitSum s
unfolding good.Good
fit-sum left none g = tt
fit-sum zero (and k p i c r) g = absurd g
fit-sum (suc left) (and k p i c r) g =
    let e = g.0 in (
      and_r (finite p) (fits binary64 p) e.number,
      record { re = and_r (finite c.re) (fits binary64 c.re) e.re; im = and_r (finite c.im) (fits binary64 c.im) e.im },
      fit-sum (suc left) r g.3,
    )

fit-coef : (q : Float) (s : Sum) → FitSum s → Fits (coef_of q s)
unfolding coef_of coef_at
fit-coef q none f = fits_bits 0
fit-coef q (and k p i c r) f = rw (coef-first q k p i c r) (pick (eqb k kinds.X && eq p q) (fit-coef q r f.2))
  where
    pick : (t : Bool) → Fits (coef_of q r) → Fits (cond t c (coef_of q r))
    pick true g = f.1
    pick false g = g

fit-others : (s : Sum) → FitSum s → FitSum (others s)
unfolding others
fit-others none f = tt
fit-others (and k p i c r) f = pick (low k p) (fit-others r f.2)
  where
    pick : (t : Bool) → FitSum (others r) → FitSum (cond t (others r) (and k p i c (others r)))
    pick true g = g
    pick false g = (f.0, f.1, g)

others-good : (flag : Bool) (a b c : Complex) (s : Sum) → Fits a → Fits b → Fits c → FitSum s → GoodList (of_others flag a b c s)
unfolding of_others
others-good flag a b c none fa fb fc f = quadratic-good flag a b c fa fb fc
others-good flag a b c (and k p i d none) fa fb fc f =
    either-good (eqb k kinds.X && complex.same b complex.zero && complex.same a complex.zero) _ _
    (either-good (is_int d) _ _ (spell-good flag (less_constant c (over_factor d (unpower p))) (fit-power d c p f.1 fc f.0)) (refused-good NeedsMath))
    (refused-good TooComplex)
others-good flag a b c (and k p i d (and l q j e r)) fa fb fc f = refused-good TooComplex

-- what undoes a good sum can be read again
pub inverse-good : (flag : Bool) (left : ℕ) (s : Sum) → good.Good left s → (ns : Nodes) → inverse flag s ≡ wrote ns → verdict (encode ns) ≡ Ok tt
unfolding inverse
inverse-good flag left s g =
    let f : FitSum s = fit-sum left s g in
    others-good flag (coef_of two64 s) (coef_of one64 s) (coef_of zero64 s) (others s) (fit-coef two64 s f) (fit-coef one64 s f) (fit-coef zero64 s f) (fit-others s f)
