-- The parts of a term, each as a step of writing: what its code leaves is what the definition says. Assumes nothing.
use Prim.Native.Nat.{ℕ, ◌+◌, ◌≤◌}
use native.Mathlib.Omega.{arith}
use mathlib.Core.Path.{◌≡◌, refl, sym, ap, subst, ◌∙◌}
use mathlib.Core.Bool.{Bool, true, false}
use mathlib.Core.List.{List}
use borrow.Author.Tests.{eq-eqb, ne_eqb}
use lib.Dec.{T, eqb}
use lib.Ieee.{Float, eq, of_bits}
use lib.Ieee.Scale.{finite}
use Rattle.numbers.specs.Constants.{half64, two64}
use Rattle.numbers.specs.Signs.{zero64, one64}
use Rattle.numbers.proofs.Order.{eq-transitive}
use Rattle.numbers.specs.declared.complex.Complex.{Complex}
use Rattle.sums.specs.Tree.Kinds as kinds
use Rattle.formats.specs.declared.record.Record.{Record}
use Rattle.formats.specs.declared.record.Primitive.{Primitive}
use Rattle.formats.specs.declared.record.Primitive.TheVariants as prim
use Rattle.formats.specs.Tree.{Nodes, end, rec, size}
use Rattle.writing.specs.declared.draft.Draft.{Draft}
use Rattle.std.specs.Prelude.{Result, Ok}
use Rattle.limits.specs.declared.Refusal.{Refusal}
use Rattle.writing.specs.Draft.Writing.{push, does, append, one, two, wrapped, Written}
use Rattle.writing.specs.Draft.Contract.Lying.{Lying, SaidAs}
use Rattle.writing.specs.Draft.Contract.Growing.{Drawn, Spoken}
use Rattle.writing.proofs.draft.Laws.{append-two, append-three}
use Rattle.writing.proofs.draft.Growing.{drawn-none, drawn-as, drawn-drawn, spoken-none, spoken-as, spoken-more}
use Rattle.writing.specs.ToNodes.{Form, constant, root, bare, square, power, form, is_bare, is_constant, primitive_for, over, function_of, is_empty, before, write_power, times_coef, plus, close}

-- ---- steps that look at what lies there

-- the draft is empty where it ends where it begins
pub empty-draft : (d : Draft) (ns : Nodes) → d.from + size ns ≡ d.end → is_empty ns ≡ eqb d.from d.end
unfolding size
empty-draft d end e = sym (eq-eqb d.from d.end (omega arith))
empty-draft d (rec r ns ms) e = sym (ne_eqb d.from d.end (λ q. omega (arith, q, e)))

pub lies-nothing : (d : Draft) (ns : Nodes) → d.from + size ns ≡ d.end → d.from ≡ d.end → ns ≡ end
unfolding size
lies-nothing d end e o = refl
lies-nothing d (rec r ns ms) e o = absurd (omega arith)

-- the same of every list, where there is one
some-list : (h g : Nodes → Nodes) (d : Draft) → ((r : Record) (xs ys : Nodes) → h (rec r xs ys) ≡ g (rec r xs ys)) → (d.from ≡ d.end → ⊥) → (ns : Nodes) → d.from + size ns ≡ d.end → h ns ≡ g ns
unfolding size
some-list h g d e o end l = absurd (o (omega arith))
some-list h g d e o (rec r xs ys) l = e r xs ys

no-list : (h g : Nodes → Nodes) (d : Draft) → h end ≡ g end → d.from ≡ d.end → (ns : Nodes) → d.from + size ns ≡ d.end → h ns ≡ g ns
no-list h g d e o ns l = ap h (lies-nothing d ns l o) ∙ e ∙ sym (ap g (lies-nothing d ns l o))

module _ {b b' : List ℕ} {d : Draft} {f r : ℕ} where
  pub drawn-more : {q : Draft} {h : Nodes → Nodes} → Drawn b b' d q f r h → (f' r' : ℕ) → f ≤ f' → r ≤ r' → Drawn b b' d q f' r' h
  drawn-more s f' r' x y = record { grown = record { begins = omega (arith, s.grown.begins); ends = omega (arith, s.grown.ends) }; long = s.long; lies = s.lies }

  pub drawn-where : {q : Draft} {h : Nodes → Nodes} → Drawn b b' d q f r h → (g : Nodes → Nodes) → ((ns : Nodes) → d.from + size ns ≡ d.end → h ns ≡ g ns) → Drawn b b' d q f r g
  drawn-where {q} s g e = record { grown = s.grown; long = s.long; lies = λ ns l. subst (Lying b' q) (e ns l.ends) (s.lies ns l) }

  pub spoken-where : {s : Result Draft Refusal} {h : Nodes → Written} → Spoken b b' d s f r h → (g : Nodes → Written) → ((ns : Nodes) → d.from + size ns ≡ d.end → h ns ≡ g ns) → Spoken b b' d s f r g
  spoken-where {s} k g e = record { grown = k.grown; long = k.long; lies = λ ns l. subst (SaidAs s b') (e ns l.ends) (k.lies ns l) }

-- ---- two records

pub both-drawn : {b b' b'' : List ℕ} {d e q : Draft} (x y : Record) → Drawn b b' d e 0 1 (λ ns. append ns (one x)) → Drawn b' b'' e q 0 1 (λ ns. append ns (one y))
    → Drawn b b'' d q 0 2 (λ ns. append ns (two x y))
both-drawn x y s t = drawn-as (drawn-drawn s t) (λ ns. append ns (two x y)) (λ ns. sym (append-two ns x y))

-- ---- powers

module _ (p : Float) where
  pub form-constant : eq p zero64 ≡ true → form p ≡ constant
  unfolding form
  form-constant a = rw a

  pub form-root : eq p zero64 ≡ false → eq p half64 ≡ true → form p ≡ root
  unfolding form
  form-root a b = rw (a, b)

  pub form-bare : eq p zero64 ≡ false → eq p half64 ≡ false → eq p one64 ≡ true → form p ≡ bare
  unfolding form
  form-bare a b c = rw (a, b, c)

  pub form-square : eq p zero64 ≡ false → eq p half64 ≡ false → eq p one64 ≡ false → eq p two64 ≡ true → form p ≡ square
  unfolding form
  form-square a b c d = rw (a, b, c, d)

  pub form-power : eq p zero64 ≡ false → eq p half64 ≡ false → eq p one64 ≡ false → eq p two64 ≡ false → form p ≡ power
  unfolding form
  form-power a b c d = rw (a, b, c, d)

  module _ {b b' : List ℕ} {d : Draft} (flag : Bool) (c : Complex) where
    pub power-as : {s : Result Draft Refusal} {m : Form} → form p ≡ m → Spoken b b' d s 0 4 (λ ns. write_power m p flag c ns) → Spoken b b' d s 0 4 (λ ns. write_power (form p) p flag c ns)
    power-as e k = spoken-as k (λ ns. write_power (form p) p flag c ns) (λ ns. ap (λ (m : Form). write_power m p flag c ns) (sym e))

pub finite-zero : T (finite zero64)
unfolding of_bits
finite-zero = tt

pub finite-one : T (finite one64)
unfolding of_bits
finite-one = tt

finite-half : T (finite half64)
unfolding of_bits
finite-half = tt

-- bare x, and the constant, by their powers
pub bare-is : (p : Float) → T (finite p) → eq p one64 ≡ is_bare (form p)
unfolding of_bits eq
bare-is p f = go (eq p one64) refl
  where
    go : (b : Bool) → eq p one64 ≡ b → b ≡ is_bare (form p)
    go true e = ap is_bare (sym (form-bare p (eq-transitive p one64 zero64 f finite-one finite-zero e) (eq-transitive p one64 half64 f finite-one finite-half e) e))
    go false e = not-bare (eq p zero64) (eq p half64) (eq p two64) refl refl refl
      where
        not-bare : (x y z : Bool) → eq p zero64 ≡ x → eq p half64 ≡ y → eq p two64 ≡ z → false ≡ is_bare (form p)
        not-bare true y z a b c = ap is_bare (sym (form-constant p a))
        not-bare false true z a b c = ap is_bare (sym (form-root p a b))
        not-bare false false true a b c = ap is_bare (sym (form-square p a b e c))
        not-bare false false false a b c = ap is_bare (sym (form-power p a b e c))

pub constant-is : (p : Float) → eq p zero64 ≡ is_constant (form p)
constant-is p = go (eq p zero64) (eq p half64) (eq p one64) (eq p two64) refl refl refl refl
  where
    go : (x y z w : Bool) → eq p zero64 ≡ x → eq p half64 ≡ y → eq p one64 ≡ z → eq p two64 ≡ w → eq p zero64 ≡ is_constant (form p)
    go true y z w a b c d = a ∙ ap is_constant (sym (form-constant p a))
    go false true z w a b c d = a ∙ ap is_constant (sym (form-root p a b))
    go false false true w a b c d = a ∙ ap is_constant (sym (form-bare p a b c))
    go false false false true a b c d = a ∙ ap is_constant (sym (form-square p a b c d))
    go false false false false a b c d = a ∙ ap is_constant (sym (form-power p a b c d))

-- ---- functions

module _ {b b' : List ℕ} {d q : Draft} where
  pub over-unit : {u : Bool} → u ≡ true → Drawn b b' d q 0 1 (λ ns. append ns (one (does prim.Reciprocal))) → Drawn b b' d q 0 3 (λ ns. append ns (over u))
  over-unit {u} e s = drawn-as (drawn-more s 0 3 (omega arith) (omega arith)) (λ ns. append ns (over u)) (λ ns. ap (λ (v : Bool). append ns (over v)) (sym e))

  pub over-long : {b'' : List ℕ} {r : Draft} {u : Bool} → u ≡ false → Drawn b b' d q 0 1 (λ ns. append ns (one (push one64)))
      → Drawn b' b'' q r 0 2 (λ ns. append ns (two (does prim.Flip) (does prim.Div)))
      → Drawn b b'' d r 0 3 (λ ns. append ns (over u))
  over-long {u = u} e s t =
      drawn-as (drawn-drawn s t) (λ ns. append ns (over u))
      (λ ns. append-two (append ns (one (push one64))) (does prim.Flip) (does prim.Div) ∙ sym (append-three ns (push one64) (does prim.Flip) (does prim.Div)) ∙ ap
      (λ (v : Bool). append ns (over v)) (sym e))

  module _ (k : ℕ) (x : Float) (u : Bool) where
    pub function-div : k ≡ kinds.Div → Drawn b b' d q 0 3 (λ ns. append ns (over u)) → Drawn b b' d q 0 3 (λ ns. append ns (function_of k x u))
    function-div e s = drawn-as s (λ ns. append ns (function_of k x u)) (λ ns. rw (eq-eqb k kinds.Div e))

    pub function-log : (k ≡ kinds.Div → ⊥) → k ≡ kinds.Log → Drawn b b' d q 0 2 (λ ns. append ns (two (push x) (does prim.Log))) → Drawn b b' d q 0 3 (λ ns. append ns (function_of k x u))
    function-log n e s = drawn-as (drawn-more s 0 3 (omega arith) (omega arith)) (λ ns. append ns (function_of k x u)) (λ ns. rw (ne_eqb k kinds.Div n, eq-eqb k kinds.Log e))

    pub function-other : {o : Primitive} → (k ≡ kinds.Div → ⊥) → (k ≡ kinds.Log → ⊥) → o ≡ primitive_for k → Drawn b b' d q 0 1 (λ ns. append ns (one (does o)))
        → Drawn b b' d q 0 3 (λ ns. append ns (function_of k x u))
    function-other {o} n m e s =
        drawn-as (drawn-more s 0 3 (omega arith) (omega arith)) (λ ns. append ns (function_of k x u))
        (λ ns. rw (ne_eqb k kinds.Div n, ne_eqb k kinds.Log m) (ap (λ (z : Primitive). append ns (one (does z))) e))

-- ---- around a term

-- with a list written, nothing more closes it
module _ {b : List ℕ} {d : Draft} where
  pub close-full : (w : Bool) → (d.from ≡ d.end → ⊥) → Drawn b b d d 0 2 (λ ns. close w ns)
  close-full w o = drawn-where (drawn-more drawn-none 0 2 (omega arith) (omega arith)) (λ ns. close w ns) (some-list (λ ns. ns) (λ ns. close w ns) d (λ r xs ys. refl) o)

module _ {b : List ℕ} {d : Draft} {w : Bool} where
  pub before-first : w ≡ true → Drawn b b d d 2 1 (λ ns. before w ns)
  before-first e = drawn-as (drawn-more drawn-none 2 1 (omega arith) (omega arith)) (λ ns. before w ns) (λ ns. ap (λ (v : Bool). before v ns) (sym e))

  pub before-x : {b' : List ℕ} {q : Draft} → w ≡ false → d.from ≡ d.end → Drawn b b' d q 0 1 (λ ns. append ns (one (does prim.Dup))) → Drawn b b' d q 2 1 (λ ns. before w ns)
  unfolding append
  before-x e o s =
      drawn-where (drawn-more s 2 1 (omega arith) (omega arith)) (λ ns. before w ns) (no-list (λ ns. append ns (one (does prim.Dup))) (λ ns. before w ns) d (ap (λ (v : Bool). before v end) (sym e)) o)

  pub before_more : {b' : List ℕ} {q : Draft} → w ≡ false → (d.from ≡ d.end → ⊥) → Drawn b b' d q 2 0 (λ ns. wrapped ns) → Drawn b b' d q 2 1 (λ ns. before w ns)
  before_more e o s =
      drawn-where (drawn-more s 2 1 (omega arith) (omega arith)) (λ ns. before w ns)
      (some-list (λ ns. wrapped ns) (λ ns. before w ns) d (λ r xs ys. ap (λ (v : Bool). before v (rec r xs ys)) (sym e)) o)

  pub plus-first : w ≡ true → Drawn b b d d 0 1 (λ ns. plus w ns)
  plus-first e = drawn-as (drawn-more drawn-none 0 1 (omega arith) (omega arith)) (λ ns. plus w ns) (λ ns. ap (λ (v : Bool). plus v ns) (sym e))

  pub plus-more : {b' : List ℕ} {q : Draft} → w ≡ false → Drawn b b' d q 0 1 (λ ns. append ns (one (does prim.Add))) → Drawn b b' d q 0 1 (λ ns. plus w ns)
  plus-more e s = drawn-as s (λ ns. plus w ns) (λ ns. ap (λ (v : Bool). plus v ns) (sym e))

  module _ (flag : Bool) (c : Complex) where
    pub times_none : w ≡ false → Spoken b b d (Ok d) 0 2 (λ ns. times_coef w flag c ns)
    times_none e = spoken-as (spoken-more spoken-none 0 2 (omega arith) (omega arith)) (λ ns. times_coef w flag c ns) (λ ns. ap (λ (v : Bool). times_coef v flag c ns) (sym e))

    pub times-as : {b' : List ℕ} {s : Result Draft Refusal} {f r : ℕ} {v : Bool} → v ≡ w → Spoken b b' d s f r (λ ns. times_coef v flag c ns) → Spoken b b' d s f r (λ ns. times_coef w flag c ns)
    times-as e k = spoken-as k (λ ns. times_coef w flag c ns) (λ ns. ap (λ (v : Bool). times_coef v flag c ns) e)

  pub close-x : {b' : List ℕ} {q : Draft} → d.from ≡ d.end → w ≡ true → Drawn b b' d q 0 1 (λ ns. append ns (one (does prim.Identity))) → Drawn b b' d q 0 2 (λ ns. close w ns)
  unfolding append
  close-x o e s =
      drawn-where (drawn-more s 0 2 (omega arith) (omega arith)) (λ ns. close w ns)
      (no-list (λ ns. append ns (one (does prim.Identity))) (λ ns. close w ns) d (ap (λ (v : Bool). close v end) (sym e)) o)

  pub close-zero : {b' : List ℕ} {q : Draft} → d.from ≡ d.end → w ≡ false → Drawn b b' d q 0 2 (λ ns. append ns (two (push zero64) (does prim.Mul))) → Drawn b b' d q 0 2 (λ ns. close w ns)
  unfolding append
  close-zero o e s = drawn-where s (λ ns. close w ns) (no-list (λ ns. append ns (two (push zero64) (does prim.Mul))) (λ ns. close w ns) d (ap (λ (v : Bool). close v end) (sym e)) o)
