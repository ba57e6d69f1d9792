-- How the records of a sum of powers run, one by one and one after the other: each is done, or refused with 15 at its place, or a root below zero with 14. Assumes nothing.
use Prim.Native.Nat.{ℕ, suc, ◌+◌, ◌≤◌, max}
use mathlib.Core.Path.{◌≡◌, refl, ap, ◌∙◌}
use mathlib.Core.Bool.{Bool, true, false}
use mathlib.Core.List.{List, ◌∷◌}
use mathlib.Core.Option.{Option, none, some}
use native.Mathlib.Omega.{arith}
use borrow.Author.Tests.{le-leb}
use lib.Dec.{T}
use lib.ListN.{length}
use lib.Ieee.{Float, binary64, fits, lt}
use lib.Ieee.Bits.{of_bits-to_bits, is_true}
use lib.Ieee.Fits.{and_l, and_r}
use lib.Ieee.Scale.{finite}
use Rattle.std.specs.Prelude.{Some}
use Rattle.numbers.specs.Signs.{zero64}
use Rattle.numbers.specs.Ops.{◌⊕◌, ◌⊗◌}
use Rattle.numbers.specs.Numbers.{small_whole}
use Rattle.sums.specs.Tree.Good.{is_number}
use Rattle.numbers.specs.Radical.Root.{root}
use Rattle.limits.specs.declared.Refusal.{Refusal}
use Rattle.limits.specs.declared.Refusal.TheVariants.{NeedsMath, NotFinite}
use Rattle.formats.specs.declared.record.Record.{Record}
use Rattle.formats.specs.declared.record.Primitive.TheVariants as prim
use Rattle.formats.specs.Names.{kind_of, primitive_of}
use Rattle.formats.specs.Tree.{Nodes, end, rec, size}
use Rattle.writing.specs.Draft.Writing.{push, does, append, one}
use Rattle.running.specs.Primitives.{times, power, root_unless, square_root, went, if_finite, leave, apply, way_of, act}
use Rattle.running.specs.Running.{Running, Out, done, refused_at, and_then, settle, run_by, runs}
use Rattle.theorems.specs.Places.{unless_finite}

-- ---- how a run ends

abbrev pub state : List Float → ℕ → ℕ → Running
state s n p = record { stack = s; steps = n; peak = p }

-- why a run is refused, and at which place
pub data Stop : Type 0 where
  stop_at : Refusal → ℕ → Stop

-- done, or refused
abbrev pub out : Option Stop → Running → Out
out none st = done st
out (some (stop_at q at)) st = refused_at q at

-- the first of two refusals, if there is one
abbrev pub or : Option Stop → Option Stop → Option Stop
or none b = b
or (some a) b = some a

pub or-none : (a : Option Stop) → or a none ≡ a
or-none none = refl
or-none (some a) = refl

pub or-join : (a b c : Option Stop) → or (or a b) c ≡ or a (or b c)
or-join none b c = refl
or-join (some a) b c = refl

-- 15 at the place, if there is one
abbrev pub fifteen : Option ℕ → Option Stop
fifteen none = none
fifteen (some at) = some (stop_at NotFinite at)

-- 15 at the place, unless the value is finite
abbrev pub bad : Float → ℕ → Option Stop
bad v at = fifteen (unless_finite (finite v) at none)

-- 14 at the place where a root is asked of a number below zero
abbrev pub unless_below : Bool → ℕ → Option Stop → Option Stop
unless_below true at o = some (stop_at NeedsMath at)
unless_below false at o = o

pub restate : {R : Out} (a : Option Stop) (s : List Float) {n p m q : ℕ} → n ≡ m → p ≡ q → R ≡ out a (state s n p) → R ≡ out a (state s m q)
restate a s en ep e = e ∙ (λ i. out a (state s (en i) (ep i)))

-- ---- one after the other

after : (a b : Option Stop) (R : Out) (f : Running → Out) (st st' : Running) → R ≡ out a st → f st ≡ out b st' → and_then R f ≡ out (or a b) st'
after none b R f st st' e h = rw e h
after (some (stop_at q at)) b R f st st' e h = rw e

-- the same where what follows can't be refused
pub then-done : (a : Option Stop) (R : Out) (f : Running → Out) (st st' : Running) → R ≡ out a st → f st ≡ done st' → and_then R f ≡ out a st'
then-done none R f st st' e h = rw e h
then-done (some (stop_at q at)) R f st st' e h = rw e

then-then : (R : Out) (f g k : Running → Out) → ((st : Running) → f st ≡ and_then (g st) k) → and_then R f ≡ and_then (and_then R g) k
then-then (done st) f g k h = h st
then-then (refused_at q at) f g k h = refl

runs_append : (a b : Nodes) (at h : ℕ) (st : Running) → runs (append a b) at h st ≡ and_then (runs a at h st) (runs b (at + size a) h)
unfolding append size runs
runs_append end b at h st = ap (λ (n : ℕ). runs b n h st) (omega arith)
runs_append (rec r ns ms) b at h st =
    then-then (run_by (way_of (kind_of r.kind)) r ns (runs ns (at + 1)) at h st)
    (runs (append ms b) (at + 1 + size ns) h) (runs ms (at + 1 + size ns) h) (runs b (at + suc (size ns + size ms)) h)
    (λ st'. runs_append ms b (at + 1 + size ns) h st' ∙ ap (λ (n : ℕ). and_then (runs ms (at + 1 + size ns) h st') (runs b n h)) (omega arith))

pub both : (A B : Nodes) (at h : ℕ) (a b : Option Stop) (st st₁ st₂ : Running) → runs A at h st ≡ out a st₁ → runs B (at + size A) h st₁ ≡ out b st₂
    → runs (append A B) at h st ≡ out (or a b) st₂
both A B at h a b st st₁ st₂ e f = runs_append A B at h st ∙ after a b (runs A at h st) (runs B (at + size A) h) st₁ st₂ e f

-- ---- one record

then-end : (R : Out) (f : Running → Out) → ((st : Running) → f st ≡ done st) → and_then R f ≡ R
then-end (done st) f h = h st
then-end (refused_at q at) f h = refl

one-runs : (r : Record) (at h : ℕ) (st : Running) → runs (one r) at h st ≡ run_by (way_of (kind_of r.kind)) r end (runs end (at + 1)) at h st
unfolding runs size
one-runs r at h st = then-end (run_by (way_of (kind_of r.kind)) r end (runs end (at + 1)) at h st) (runs end (at + 1 + 0) h) (λ st. refl)

roomy : (s r : List Float) (at h n p : ℕ) → length s + h ≤ 256 → settle h at (state r n p) (went s) ≡ done (state s (n + 1) (max p (length s + h)))
roomy s r at h n p b = rw (le-leb (length s + h) 256 b)

formed-out : (b : Bool) (v : Float) (s r : List Float) (at h n p : ℕ) → suc (length s) + h ≤ 256
    → settle h at (state r n p) (if_finite b v s) ≡ out (fifteen (unless_finite b at none)) (state (v ∷ s) (n + 1) (max p (suc (length s) + h)))
formed-out true v s r at h n p b = roomy (v ∷ s) r at h n p b
formed-out false v s r at h n p b = refl

pub number-finite : (v : Float) → T (is_number v) → finite v ≡ true
number-finite v t = is_true (finite v) (and_l (finite v) (fits binary64 v) t)

pub push-out : (v : Float) (s : List Float) (at h n p : ℕ) → T (is_number v) → suc (length s) + h ≤ 256
    → runs (one (push v)) at h (state s n p) ≡ done (state (v ∷ s) (n + 1) (max p (suc (length s) + h)))
unfolding kind_of act leave
push-out v s at h n p t b =
    one-runs (push v) at h (state s n p) ∙ rw (of_bits-to_bits binary64 v (and_r (finite v) (fits binary64 v) t), number-finite v t) (roomy (v ∷ s) s at h n p b)

pub dup-out : (v : Float) (s : List Float) (at h n p : ℕ) → suc (suc (length s)) + h ≤ 256
    → runs (one (does prim.Dup)) at h (state (v ∷ s) n p) ≡ done (state (v ∷ v ∷ s) (n + 1) (max p (suc (suc (length s)) + h)))
unfolding kind_of act apply leave primitive_of
dup-out v s at h n p b = one-runs (does prim.Dup) at h (state (v ∷ s) n p) ∙ roomy (v ∷ v ∷ s) (v ∷ s) at h n p b

pub identity-out : (v : Float) (s : List Float) (at h n p : ℕ) → T (finite v) → suc (length s) + h ≤ 256
    → runs (one (does prim.Identity)) at h (state (v ∷ s) n p) ≡ done (state (v ∷ s) (n + 1) (max p (suc (length s) + h)))
unfolding kind_of act apply leave primitive_of
identity-out v s at h n p t b = one-runs (does prim.Identity) at h (state (v ∷ s) n p) ∙ rw (is_true (finite v) t) (roomy (v ∷ s) (v ∷ s) at h n p b)

pub sqrt-out : (x : Float) (s : List Float) (at h n p : ℕ) → suc (length s) + h ≤ 256
    → runs (one (does prim.Sqrt)) at h (state (x ∷ s) n p) ≡ out (unless_below (lt x zero64) at (bad (root x) at)) (state (root x ∷ s) (n + 1) (max p (suc (length s) + h)))
unfolding kind_of act apply leave primitive_of square_root
sqrt-out x s at h n p b = one-runs (does prim.Sqrt) at h (state (x ∷ s) n p) ∙ go (lt x zero64)
  where
    go : (l : Bool) → settle h at (state (x ∷ s) n p) (leave (root_unless l x) s) ≡ out (unless_below l at (bad (root x) at)) (state (root x ∷ s) (n + 1) (max p (suc (length s) + h)))
    go true = refl
    go false = formed-out (finite (root x)) (root x) s (x ∷ s) at h n p b

-- the record takes t from the top and r below it, and forms v
pub record Forms (op : Record) (r t v : Float) : Type 0 where
  pub run : (s : List Float) (at h n p : ℕ) → suc (length s) + h ≤ 256
      → runs (one op) at h (state (t ∷ r ∷ s) n p) ≡ out (bad v at) (state (v ∷ s) (n + 1) (max p (suc (length s) + h)))

pub adds : (r t : Float) → Forms (does prim.Add) r t (r ⊕ t)
unfolding kind_of act apply leave primitive_of
adds r t = record {
  run = λ s at h n p b. one-runs (does prim.Add) at h (state (t ∷ r ∷ s) n p) ∙ formed-out (finite (r ⊕ t)) (r ⊕ t) s (t ∷ r ∷ s) at h n p b;
}

pub multiplies : (r t : Float) → Forms (does prim.Mul) r t (r ⊗ t)
unfolding kind_of act apply leave primitive_of
multiplies r t = record {
  run = λ s at h n p b. one-runs (does prim.Mul) at h (state (t ∷ r ∷ s) n p) ∙ formed-out (finite (r ⊗ t)) (r ⊗ t) s (t ∷ r ∷ s) at h n p b;
}

pub raises : (x t : Float) (n : ℕ) → small_whole t ≡ Some (suc n) → Forms (does prim.Pow) x t (times n x x)
unfolding kind_of act apply leave primitive_of power
raises x t k e = record {
  run = λ s at h n p b. one-runs (does prim.Pow) at h (state (t ∷ x ∷ s) n p) ∙ rw e (formed-out (finite (times k x x)) (times k x x) s (t ∷ x ∷ s) at h n p b);
}
