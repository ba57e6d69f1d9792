-- What the second writer writes means what the sum says. Assumes nothing.
use Prim.Native.Nat.{ℕ}
use mathlib.Core.Path.{◌≡◌, refl, ap, ◌∙◌, subst}
use mathlib.Core.Bool.{Bool, true, false, not, ◌&&◌, ◌||◌, and-false, true≢false}
use mathlib.Core.List.{List, [], ◌∷◌}
use lib.Dec.{eqb}
use lib.Ieee.{Float}
use Rattle.numbers.specs.declared.complex.Complex.{Complex}
use Rattle.numbers.specs.Complex.Arith as complex
use Rattle.sums.specs.Tree.Kinds as kinds
use Rattle.sums.specs.Tree.Sums.{Sum, none, and}
use Rattle.formats.specs.declared.record.Primitive.TheVariants as prim
use Rattle.formats.specs.Names.{choose}
use Rattle.formats.specs.Tree.{Nodes, end, rec}
use Rattle.writing.specs.Draft.Writing.{does, append, one, Written, wrote, and_then}
use Rattle.writing.specs.ToNodes.{Form, constant, root, bare, square, power, form, is_bare, is_constant, is_empty, function_of, before, write_term, times_coef, plus, close, turn}
use Rattle.writing.specs.Faithful.{behind, write_faithful}
use Rattle.writing.specs.Meaning.{Term, x, real, pair, unary, binary, some, runs, coefficient, times, of_power, of_function, add_to, total, pass_over, terms, Meant}
use Rattle.writing.proofs.Good.{wrote-is, then-wrote}
use Rattle.writing.proofs.Meaning.Running.{Yields, after, plus-runs, zero-runs, identity-yields, base, power-runs, times-runs, function-runs, before-runs}

-- ---- one term

-- the coefficient is written where the meaning has it
swapped : (unit : Bool) (a b : Term) → choose (not unit && true) b a ≡ choose unit a b
swapped true a b = refl
swapped false a b = refl

power-is : (flag : Bool) (m : Form) (p : Float) (c : Complex)
    → choose (not (complex.same c complex.one) && not (is_constant m)) (binary prim.Mul (base flag m p c) (coefficient flag c)) (base flag m p c) ≡ of_power flag m p c
power-is flag constant p c = rw (and-false (not (complex.same c complex.one)))
power-is flag root p c = swapped (complex.same c complex.one) _ _
power-is flag bare p c = swapped (complex.same c complex.one) _ _
power-is flag square p c = swapped (complex.same c complex.one) _ _
power-is flag power p c = swapped (complex.same c complex.one) _ _

-- a term, by whether it is a power of x
abbrev says : Bool → Form → ℕ → Float → Complex → Bool → Term → Term
says is_x m k p c flag a = choose is_x (of_power flag m p c) (times flag c (of_function k p (complex.same c complex.one) a))

-- an argument, appended, leaves a where x was
abbrev Argues : (Nodes → Written) → Term → Type 0
Argues inside a = (ns ms : Nodes) (s t : List Term) → inside ns ≡ wrote ms → runs ns s ≡ some (x ∷ t) → runs ms s ≡ some (a ∷ t)

-- one that was written apart
apart-argues : (w : Written) (a : Term) → ((ls : Nodes) → w ≡ wrote ls → Yields ls a) → Argues (λ ns. behind w ns) a
apart-argues w a y ns ms s t e h =
    let u = then-wrote w (λ ls. wrote (append ns ls)) ms e in
    subst (λ (l : Nodes). runs l s ≡ some (a ∷ t)) (wrote-is u.2) (after ns u.0 s (x ∷ t) h (y u.0 u.1 t))

term_runs : (is_x : Bool) (m : Form) (k : ℕ) (p : Float) (c : Complex) (flag : Bool) (inside : Nodes → Written) (a : Term) → Argues inside a
    → (ns ls ms : Nodes) (s t : List Term) → runs ns s ≡ some (x ∷ t) → write_term is_x m k p c flag inside ns ≡ wrote ls
    → times_coef (not (complex.same c complex.one) && not (is_x && is_constant m)) flag c ls ≡ wrote ms → runs ms s ≡ some (says is_x m k p c flag a ∷ t)
term_runs true m k p c flag inside a i ns ls ms s t h e f =
    times-runs (not (complex.same c complex.one) && not (is_constant m)) flag c ls ms s t (base flag m p c) f (power-runs flag p c ns ls s t m e h)
    ∙ ap (λ (b : Term). some (b ∷ t)) (power-is flag m p c)
term_runs false m k p c flag inside a i ns ls ms s t h e f =
    let unit = complex.same c complex.one in
    let w = then-wrote (inside ns) (λ ls. wrote (append ls (function_of k p unit))) ls e in
    let b = of_function k p unit a in
    let g = subst (λ (l : Nodes). runs l s ≡ some (b ∷ t)) (wrote-is w.2) (after w.0 (function_of k p unit) s (a ∷ t) (i ns w.0 s t w.1 h) (function-runs k p unit a t)) in
    times-runs (not unit && true) flag c ls ms s t b f g ∙ ap (λ (b : Term). some (b ∷ t)) (swapped unit b (binary prim.Mul b (coefficient flag c)))

-- ---- x alone needs no record, and nothing else does without

abbrev is_term_x : Term → Bool
is_term_x x = true
is_term_x (real n) = false
is_term_x (pair m n) = false
is_term_x (unary f a) = false
is_term_x (binary f a b) = false

choose-other : (b : Bool) (a d : Term) → is_term_x a ≡ false → is_term_x d ≡ false → is_term_x (choose b a d) ≡ false
choose-other true a d e f = e
choose-other false a d e f = f

says_other : (is_x : Bool) (m : Form) (k : ℕ) (p : Float) (c : Complex) (flag : Bool) (a : Term) → (not (is_x && is_bare m) && is_term_x (says is_x m k p c flag a)) ≡ false
says_other true constant k p c flag a = refl
says_other true root k p c flag a = choose-other (complex.same c complex.one) _ _ refl refl
says_other true bare k p c flag a = refl
says_other true square k p c flag a = choose-other (complex.same c complex.one) _ _ refl refl
says_other true power k p c flag a = choose-other (complex.same c complex.one) _ _ refl refl
says_other false m k p c flag a =
    let unit = complex.same c complex.one in
    choose-other unit _ _ (choose-other (eqb k kinds.Div) _ _ (choose-other unit _ _ refl refl) (choose-other (eqb k kinds.Log) _ _ refl refl)) refl

-- so a list that leaves something else isn't empty
not_first : (b : Bool) (ns : Nodes) (a : Term) → Yields ns a → (not b && is_term_x a) ≡ false → (not b && is_empty ns) ≡ false
unfolding runs
not_first true ns a y e = refl
not_first false (rec r is ms) a y e = refl
not_first false end a y e = let h = y [] in let i : x ≡ a = cc in ap is_term_x i ∙ e

full-append : (a b : Nodes) → is_empty b ≡ false → is_empty (append a b) ≡ false
unfolding append
full-append end b e = e
full-append (rec r is ms) b e = refl

-- ---- the whole sum

-- identity and the list so far, after these terms: none, or those of which the sum is left, where identity tells of x if nothing was written
data Stands : Bool → Nodes → List Term → Type 0 where
  none_yet : Stands false end []
  leaves : {id : Bool} {ns : Nodes} {a : Term} → Yields ns a → (not id && is_empty ns) ≡ false → Stands id ns (a ∷ [])

-- those terms with more behind them
abbrev joined : List Term → List Term → Term
joined [] ts = total ts
joined (a ∷ bs) ts = add_to a ts

-- a writer adds these terms
abbrev Means : (Bool → Nodes → Written) → List Term → Type 0
Means w ts = (id : Bool) (ns ms : Nodes) (so_far : List Term) → Stands id ns so_far → w id ns ≡ wrote ms → Yields ms (joined so_far ts)

close-leaves : (id : Bool) (ns : Nodes) (a : Term) → Yields ns a → (not id && is_empty ns) ≡ false → Yields (close id ns) a
unfolding runs
close-leaves id (rec r is ms) a y e s = y s
close-leaves true end a y e s = identity-yields s ∙ y s
close-leaves false end a y e s = absurd (true≢false e)

close-means : (id : Bool) (ns : Nodes) (so_far : List Term) → Stands id ns so_far → Yields (close id ns) (joined so_far [])
unfolding add_to
close-means id ns so_far none_yet s = zero-runs x s
close-means id ns so_far (leaves {a} y e) s = close-leaves id ns a y e s

module _ (is_x : Bool) (m : Form) (k : ℕ) (p : Float) (c : Complex) (flag : Bool) (inside : Nodes → Written) (a : Term) (i : Argues inside a) (rest : Bool → Nodes → Written) (ts : List Term)
    (more : Means rest ts) where
  turn-means : (zero : Bool) → Means (turn zero is_x m k p c flag inside rest) (pass_over zero (says is_x m k p c flag a) ts)
  unfolding runs add_to
  turn-means true id ns ms so_far st e = more id ns ms so_far st e
  turn-means false id ns ms so_far none_yet e =
      let met = is_x && is_bare m in
      let coef = not (complex.same c complex.one) && not (is_x && is_constant m) in
      let t = says is_x m k p c flag a in
      let w = then-wrote (write_term is_x m k p c flag inside end) (λ ls. and_then (times_coef coef flag c ls) (λ ks. rest met ks)) ms e in
      let v = then-wrote (times_coef coef flag c w.0) (λ ks. rest met ks) ms w.2 in
      let y : Yields v.0 t = λ s. term_runs is_x m k p c flag inside a i end w.0 v.0 (x ∷ s) s refl w.1 v.1 in
      more met v.0 ms (t ∷ []) (leaves y (not_first met v.0 t y (says_other is_x m k p c flag a))) v.2
  turn-means false id ns ms so_far (leaves {a = b} y f) e =
      let met = id || (is_x && is_bare m) in
      let coef = not (complex.same c complex.one) && not (is_x && is_constant m) in
      let t = says is_x m k p c flag a in
      let next : Nodes → Written = λ ks. rest met (plus false ks) in
      let w = then-wrote (write_term is_x m k p c flag inside (before false ns)) (λ ls. and_then (times_coef coef flag c ls) next) ms (rw f at e) in
      let v = then-wrote (times_coef coef flag c w.0) next ms w.2 in
      let y' : Yields (plus false v.0) (binary prim.Add b t) =
      λ s. plus-runs v.0 b t s (term_runs is_x m k p c flag inside a i (before false ns) w.0 v.0 (x ∷ s) (b ∷ s) (before-runs ns b y s) w.1 v.1) in
      more met (plus false v.0) ms (binary prim.Add b t ∷ []) (leaves y' (rw (full-append v.0 (one (does prim.Add)) refl) (and-false (not met)))) v.2

write-means : (flag : Bool) (s : Sum) → Means (write_faithful flag s) (terms flag s)
unfolding write_faithful terms
write-means flag none id ns ms so_far st e = subst (λ (l : Nodes). Yields l (joined so_far [])) (wrote-is e) (close-means id ns so_far st)
write-means flag (and k p i c r) id ns ms so_far st e =
    let a = total (terms flag i) in
    let w = write_faithful flag i false end in
    let y = apart-argues w a (λ ls e. write-means flag i false end ls [] none_yet e) in
    turn-means (eqb k kinds.X) (form p) k p c flag (λ ls. behind w ls) a y (λ id ls. write_faithful flag r id ls) (terms flag r) (write-means flag r)
    (complex.same c complex.zero) id ns ms so_far st e

pub meant : Meant
meant flag s ns e = write-means flag s false end ns [] none_yet e []
