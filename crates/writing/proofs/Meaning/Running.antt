-- How what is written runs on the machine whose values are terms: one list after the other, and each record that a writer says. Assumes nothing.
use Prim.Native.Nat.{ℕ}
use mathlib.Core.Path.{◌≡◌, refl, ◌∙◌, subst}
use mathlib.Core.Bool.{Bool, true, false}
use mathlib.Core.List.{List, ◌∷◌}
use lib.Dec.{eqb}
use lib.Ieee.{Float}
use Rattle.numbers.specs.Signs.{zero64, one64}
use Rattle.numbers.specs.declared.complex.Complex.{Complex}
use Rattle.sums.specs.Tree.Kinds as kinds
use Rattle.formats.specs.declared.record.Primitive.TheVariants as prim
use Rattle.formats.specs.Names.{choose, kind_of, primitive_of}
use Rattle.formats.specs.Tree.{Nodes, end, rec, count}
use Rattle.writing.specs.Draft.Writing.{push, does, append, one, two, wrote, number, number_record, can_write}
use Rattle.writing.specs.ToNodes.{Form, constant, root, bare, square, power, primitive_for, over, function_of, before, write_power, times_coef, plus}
use Rattle.writing.specs.Meaning.{Term, x, unary, binary, Values, some, nothing, next, run_by, runs, numeral, coefficient, no_terms, of_function}
use Rattle.writing.proofs.Good.{wrote-is, then-wrote, if-wrote}

-- the list, run where x is on top, leaves t in its place
abbrev pub Yields : Nodes → Term → Type 0
Yields ns t = (s : List Term) → runs ns (x ∷ s) ≡ some (t ∷ s)

-- ---- one after the other

next-next : (v : Values) (f g k : List Term → Values) → ((s : List Term) → f s ≡ next (g s) k) → next v f ≡ next (next v g) k
next-next (some s) f g k h = h s
next-next nothing f g k h = refl

runs_append : (a b : Nodes) (s : List Term) → runs (append a b) s ≡ next (runs a s) (λ t. runs b t)
unfolding append runs
runs_append end b s = refl
runs_append (rec r ns ms) b s =
    next-next (run_by (kind_of r.kind) r ns (λ t. runs ns t) s) (λ t. runs (append ms b) t) (λ t. runs ms t) (λ t. runs b t) (λ t. runs_append ms b t)

pub after : (a b : Nodes) (s t : List Term) {v : Values} → runs a s ≡ some t → runs b t ≡ v → runs (append a b) s ≡ v
after a b s t e f = runs_append a b s ∙ rw e f

-- ---- records

pub zero-runs : (a : Term) (s : List Term) → runs (two (push zero64) (does prim.Mul)) (a ∷ s) ≡ some (binary prim.Mul a (numeral zero64) ∷ s)
unfolding runs kind_of primitive_of
zero-runs a s = refl

pub identity-yields : Yields (one (does prim.Identity)) x
unfolding runs kind_of primitive_of
identity-yields s = refl

coefficient-runs : (flag : Bool) (c : Complex) (s : List Term) → runs (one (number_record flag c)) s ≡ some (coefficient flag c ∷ s)
unfolding runs kind_of
coefficient-runs true c s = refl
coefficient-runs false c s = refl

-- ---- what a writer appends

module _ (flag : Bool) (c : Complex) (ns ms : Nodes) (s t : List Term) where
  number-runs : number flag c ns ≡ wrote ms → runs ns s ≡ some t → runs ms s ≡ some (coefficient flag c ∷ t)
  number-runs e h =
      subst (λ (l : Nodes). runs l s ≡ some (coefficient flag c ∷ t)) (wrote-is (if-wrote (can_write flag c) (wrote (append ns (one (number_record flag c)))) ms e))
      (after ns (one (number_record flag c)) s t h (coefficient-runs flag c t))

-- x to a power, for which its coefficient is told only where it is constant
abbrev pub base : Bool → Form → Float → Complex → Term
base flag constant p c = binary prim.Add no_terms (coefficient flag c)
base flag root p c = unary prim.Sqrt x
base flag bare p c = x
base flag square p c = binary prim.Mul x x
base flag power p c = binary prim.Pow x (numeral p)

module _ (flag : Bool) (p : Float) (c : Complex) (ns ms : Nodes) (s t : List Term) where
  said : (Q : Nodes) {u : List Term} → wrote (append ns Q) ≡ wrote ms → runs ns s ≡ some (x ∷ t) → runs Q (x ∷ t) ≡ some u → runs ms s ≡ some u
  said Q {u} e h f = subst (λ (l : Nodes). runs l s ≡ some u) (wrote-is e) (after ns Q s (x ∷ t) h f)

  pub power-runs : (m : Form) → write_power m p flag c ns ≡ wrote ms → runs ns s ≡ some (x ∷ t) → runs ms s ≡ some (base flag m p c ∷ t)
  unfolding runs kind_of primitive_of
  power-runs constant e h =
      let w = then-wrote (number flag c (append ns (two (push zero64) (does prim.Mul)))) (λ ls. wrote (append ls (one (does prim.Add)))) ms e in
      let n = number-runs flag c (append ns (two (push zero64) (does prim.Mul))) w.0 s (no_terms ∷ t) w.1 (after ns (two (push zero64) (does prim.Mul)) s (x ∷ t) h (zero-runs x t)) in
      subst (λ (l : Nodes). runs l s ≡ some (base flag constant p c ∷ t)) (wrote-is w.2) (after w.0 (one (does prim.Add)) s (coefficient flag c ∷ no_terms ∷ t) n refl)
  power-runs root e h = said (one (does prim.Sqrt)) e h refl
  power-runs bare e h = subst (λ (l : Nodes). runs l s ≡ some (x ∷ t)) (wrote-is e) h
  power-runs square e h = said (two (does prim.Dup) (does prim.Mul)) e h refl
  power-runs power e h = said (two (push p) (does prim.Pow)) e h refl

pub times-runs : (w flag : Bool) (c : Complex) (ns ms : Nodes) (s t : List Term) (a : Term) → times_coef w flag c ns ≡ wrote ms → runs ns s ≡ some (a ∷ t)
    → runs ms s ≡ some (choose w (binary prim.Mul a (coefficient flag c)) a ∷ t)
unfolding runs kind_of primitive_of
times-runs false flag c ns ms s t a e h = subst (λ (l : Nodes). runs l s ≡ some (a ∷ t)) (wrote-is e) h
times-runs true flag c ns ms s t a e h =
    let w = then-wrote (number flag c ns) (λ ls. wrote (append ls (one (does prim.Mul)))) ms e in
    subst (λ (l : Nodes). runs l s ≡ some (binary prim.Mul a (coefficient flag c) ∷ t)) (wrote-is w.2)
    (after w.0 (one (does prim.Mul)) s (coefficient flag c ∷ a ∷ t) (number-runs flag c ns w.0 s (a ∷ t) w.1 h) refl)

-- a function, by the tests of its kind
name_runs : (e s c h : Bool) (a : Term) (t : List Term)
    → let f = choose e prim.Exp (choose s prim.Sin (choose c prim.Cos (choose h prim.SinH prim.CosH))) in runs (one (does f)) (a ∷ t) ≡ some (unary f a ∷ t)
unfolding runs kind_of primitive_of
name_runs true s c h a t = refl
name_runs false true c h a t = refl
name_runs false false true h a t = refl
name_runs false false false true a t = refl
name_runs false false false false a t = refl

pub function-runs : (k : ℕ) (b : Float) (unit : Bool) (a : Term) (t : List Term) → runs (function_of k b unit) (a ∷ t) ≡ some (of_function k b unit a ∷ t)
unfolding runs kind_of primitive_of
function-runs k b unit a t = go (eqb k kinds.Div) (eqb k kinds.Log) unit
  where
    go : (div log unit : Bool)
        → runs (choose div (over unit) (choose log (two (push b) (does prim.Log)) (one (does (primitive_for k))))) (a ∷ t)
        ≡ some (choose div (choose unit (unary prim.Reciprocal a) (binary prim.Div (numeral one64) a)) (choose log (binary prim.Log a (numeral b)) (unary (primitive_for k) a)) ∷ t)
    go true log true = refl
    go true log false = refl
    go false true unit = refl
    go false false unit = name_runs (eqb k kinds.Exp) (eqb k kinds.Sin) (eqb k kinds.Cos) (eqb k kinds.SinH) a t

-- ---- a term that isn't the first: before it, x again above what came before; after it, Add

pub before-runs : (ns : Nodes) (a : Term) → Yields ns a → (s : List Term) → runs (before false ns) (x ∷ s) ≡ some (x ∷ a ∷ s)
unfolding runs kind_of primitive_of count
before-runs end a y s = let h = y s in cc
before-runs (rec r is ms) a y s = let h = y s in rw h

pub plus-runs : (ns : Nodes) (a b : Term) (s : List Term) → runs ns (x ∷ s) ≡ some (b ∷ a ∷ s) → runs (plus false ns) (x ∷ s) ≡ some (binary prim.Add a b ∷ s)
unfolding runs kind_of primitive_of
plus-runs ns a b s h = after ns (one (does prim.Add)) (x ∷ s) (b ∷ a ∷ s) h refl
