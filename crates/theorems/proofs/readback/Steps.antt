-- Reading, one record and one after the other, over any stack and with any number of entries held: what is taken, what is left, and how much room it takes. Assumes nothing.
use Prim.Native.Nat.{ℕ, suc, ◌+◌, ◌≤◌, min}
use mathlib.Core.Path.{◌≡◌, refl, sym, ap, ◌∙◌}
use mathlib.Core.Bool.{Bool, true, false, ◌||◌}
use mathlib.Core.List.{List, [], ◌∷◌, ◌++◌}
use native.Mathlib.Omega.{arith}
use borrow.Author.Tests.{le-leb}
use lib.Dec.{T, leb}
use lib.ListN.{length}
use lib.Ieee.{Float, binary64, fits, of_bits, to_bits}
use lib.Ieee.Bits.{of_bits-to_bits}
use lib.Ieee.Fits.{and_r}
use lib.Ieee.Scale.{finite}
use Rattle.numbers.specs.Signs.{zero64, one64}
use Rattle.numbers.proofs.Finite.{zero-is-finite}
use Rattle.numbers.specs.declared.complex.Complex.{Complex}
use Rattle.numbers.specs.Complex.Arith as complex
use Rattle.sums.specs.Tree.Kinds as kinds
use Rattle.sums.specs.Tree.Sums.{Sum, none, size, levels}
use Rattle.sums.specs.Tree.Map.{Outcome, sum, formed, coef_in, put_in}
use Rattle.sums.specs.Tree.Good.{is_number}
use Rattle.arithmetic.specs.Singles.{single, constant, alone}
use Rattle.formats.specs.declared.record.Record.{Record}
use Rattle.formats.specs.declared.record.Primitive.TheVariants as prim
use Rattle.formats.specs.Names.{kind_of, primitive_of, modifier_of}
use Rattle.formats.specs.Tree as tree
use Rattle.formats.specs.Tree.{Nodes, end, rec}
use Rattle.primitives.specs.Forms.{of_one, of_two, pairs_of}
use Rattle.stack.specs.Stack.{total}
use Rattle.stack.specs.State.{State, Walked, went, stopped, and_then, taking, lend}
use Rattle.stack.specs.State as states
use Rattle.stack.specs.Steps.{leaf_step, primitive}
use Rattle.modifiers.specs.Modifiers.{run_all, modifier}
use Rattle.modifiers.specs.Reading.{step_of, runners}
use Rattle.theorems.proofs.Speed.Steps.{number-finite}
use Rattle.writing.specs.Draft.Writing.{push, push_pair, does, append, one, wrapped}

-- how many primitives were handled, and how many pairs multiplied
abbrev pub Counts : Type 0
Counts = ℕ × ℕ

abbrev pub state : List Sum → Counts → Bool → State
state ss n f = record { stack = ss; handled = n.0; complex = f; pairs = n.1 }

-- x, with which the stack starts
abbrev pub x : Sum
x = single kinds.X one64 none complex.one

pub or-false : (b : Bool) → (b || false) ≡ b
or-false true = refl
or-false false = refl

pub or-join : (a b c : Bool) → ((a || b) || c) ≡ (a || (b || c))
or-join true b c = refl
or-join false b c = refl

-- ---- one after the other

then-then : (R : Walked) (f g k : State → Walked) → ((st : State) → f st ≡ and_then (g st) k) → and_then R f ≡ and_then (and_then R g) k
then-then (went st) f g k h = h st
then-then (stopped q at b) f g k h = refl

run-append : (a b : Nodes) (at h : ℕ) (st : State) → run_all (runners at (append a b)) h st ≡ and_then (run_all (runners at a) h st) (λ st'. run_all (runners (at + tree.size a) b) h st')
unfolding append tree.size run_all runners
run-append end b at h st = ap (λ (n : ℕ). run_all (runners n b) h st) (omega arith)
run-append (rec r ns ms) b at h st =
    then-then (step_of at r (runners (at + 1) ns) h st)
    (λ st'. run_all (runners (at + 1 + tree.size ns) (append ms b)) h st') (λ st'. run_all (runners (at + 1 + tree.size ns) ms) h st')
    (λ st'. run_all (runners (at + suc (tree.size ns + tree.size ms)) b) h st')
    (λ st'. run-append ms b (at + 1 + tree.size ns) h st' ∙ ap (λ (n : ℕ). and_then (run_all (runners (at + 1 + tree.size ns) ms) h st') (λ st''. run_all (runners n b) h st'')) (omega arith))

-- The records N make of the sums us on top of the stack the sums vs, wherever they stand and whatever lies below or is held, where there is room for k entries;
-- p says whether they set the flag
pub record Makes (N : Nodes) (us vs : List Sum) (k : ℕ) (p : Bool) : Type 0 where
  pub run : (ss : List Sum) (at h : ℕ) (n : Counts) (f : Bool) → h + total ss + k ≤ 1024 → (m : Counts) × (run_all (runners at N) h (state (us ++ ss) n f) ≡ went (state (vs ++ ss) m (f || p)))

-- with more room
pub makes-more : {N : Nodes} {us vs : List Sum} {k : ℕ} {p : Bool} (l : ℕ) → k ≤ l → Makes N us vs k p → Makes N us vs l p
makes-more l le g = record { run = λ ss at h n f i. g.run ss at h n f (omega arith) }

after : (R : Walked) (g : State → Walked) (st st' : State) → R ≡ went st → g st ≡ went st' → and_then R g ≡ went st'
after R g st st' e h = rw e h

pub makes_both : {A B : Nodes} {us vs ws : List Sum} {k : ℕ} {p q : Bool} → Makes A us vs k p → Makes B vs ws k q → Makes (append A B) us ws k (p || q)
makes_both {A} {B} {us} {vs} {ws} {k} {p} {q} a b = record {
  run = λ ss at h n f i.
      let e = a.run ss at h n f i in
      let g = b.run ss (at + tree.size A) h e.0 (f || p) i in
      let st = state (us ++ ss) n f in
      let B-run : State → Walked = λ st'. run_all (runners (at + tree.size A) B) h st' in (
        g.0,
        run-append A B at h st
            ∙ after (run_all (runners at A) h st) B-run (state (vs ++ ss) e.0 (f || p)) (state (ws ++ ss) g.0 ((f || p) || q)) e.1 g.1
            ∙ ap (λ (z : Bool). went (state (ws ++ ss) g.0 z)) (or-join f p q),
      );
}

pub makes-nothing : (us : List Sum) (k : ℕ) → Makes end us us k false
unfolding run_all runners
makes-nothing us k = record { run = λ ss at h n f i. (n, ap (λ (z : Bool). went (state (us ++ ss) n z)) (sym (or-false f))) }

-- the same over one sum more
pub makes-over : {N : Nodes} {a b : Sum} {k : ℕ} {p : Bool} (w : Sum) → Makes N (a ∷ []) (b ∷ []) k p → Makes N (a ∷ w ∷ []) (b ∷ w ∷ []) (size w + k) p
unfolding total
makes-over w g = record { run = λ ss at h n f i. g.run (w ∷ ss) at h n f (omega arith) }

pub makes-beside : {N : Nodes} {b : Sum} {k : ℕ} {p : Bool} (w : Sum) → Makes N [] (b ∷ []) k p → Makes N (w ∷ []) (b ∷ w ∷ []) (size w + k) p
unfolding total
makes-beside w g = record { run = λ ss at h n f i. g.run (w ∷ ss) at h n f (omega arith) }

-- ---- one record

-- how a record is run that has nothing inside
one-run : (r : Record) (at h : ℕ) (st st' : State) → step_of at r [] h st ≡ went st' → run_all (runners at (one r)) h st ≡ went st'
unfolding run_all runners
one-run r at h st st' e = rw e

lent : (at h : ℕ) (n : Counts) (f : Bool) (us ss : List Sum) → h + total us + total ss ≤ 1024 → lend at h us (state ss n f) ≡ went (state (us ++ ss) n f)
unfolding lend
lent at h n f us ss i = rw (le-leb (h + total us + total ss) 1024 i)

total-one : (c : Sum) → total (c ∷ []) ≡ size c
unfolding total
total-one c = omega arith

-- one more handled, and k more pairs
abbrev counted : Counts → Counts
counted n = (min 2 (suc n.0), n.1)

abbrev paired : ℕ → Counts → Counts
paired k n = (n.0, k + n.1)

one-there : (ss : List Sum) → leb 1 (suc (length ss)) ≡ true
one-there ss = le-leb 1 (suc (length ss)) (omega arith)

two-there : (ss : List Sum) → leb 2 (suc (suc (length ss))) ≡ true
two-there ss = le-leb 2 (suc (suc (length ss))) (omega arith)

-- a primitive that takes two sums, of which a was on top, and forms c
module _ (a b c : Sum) where
  two_run : (o : Outcome) (at h : ℕ) (n : Counts) (f : Bool) (ss : List Sum) → o ≡ sum c → h + size c + total ss ≤ 1024
      → and_then (states.push at h o (state ss n f)) (λ st. went (state st.stack (counted (st.handled, st.pairs)) (st.complex || false)))
      ≡ went (state (c ∷ ss) (counted n) (f || false))
  two_run o at h n f ss e i = rw (e, lent at h n f (c ∷ []) ss (omega (arith, total-one c)))

  pub makes-mul : of_two prim.Mul b a ≡ sum c → Makes (one (does prim.Mul)) (a ∷ b ∷ []) (c ∷ []) (size c) false
  unfolding step_of kind_of leaf_step primitive_of primitive taking
  makes-mul e = record {
    run = λ ss at h n f i. (
      counted (paired (pairs_of prim.Mul b a) n),
      one-run (does prim.Mul) at h (state (a ∷ b ∷ ss) n f) (state (c ∷ ss) (counted (paired (pairs_of prim.Mul b a) n)) (f || false))
          (rw (two-there ss) (two_run (of_two prim.Mul b a) at h (paired (pairs_of prim.Mul b a) n) f ss e (omega arith))),
    );
  }

  pub makes-add : of_two prim.Add b a ≡ sum c → Makes (one (does prim.Add)) (a ∷ b ∷ []) (c ∷ []) (size c) false
  unfolding step_of kind_of leaf_step primitive_of primitive taking
  makes-add e = record {
    run = λ ss at h n f i. (
      counted (paired (pairs_of prim.Add b a) n),
      one-run (does prim.Add) at h (state (a ∷ b ∷ ss) n f) (state (c ∷ ss) (counted (paired (pairs_of prim.Add b a) n)) (f || false))
          (rw (two-there ss) (two_run (of_two prim.Add b a) at h (paired (pairs_of prim.Add b a) n) f ss e (omega arith))),
    );
  }

  pub makes-pow : of_two prim.Pow b a ≡ sum c → Makes (one (does prim.Pow)) (a ∷ b ∷ []) (c ∷ []) (size c) false
  unfolding step_of kind_of leaf_step primitive_of primitive taking
  makes-pow e = record {
    run = λ ss at h n f i. (
      counted (paired (pairs_of prim.Pow b a) n),
      one-run (does prim.Pow) at h (state (a ∷ b ∷ ss) n f) (state (c ∷ ss) (counted (paired (pairs_of prim.Pow b a) n)) (f || false))
          (rw (two-there ss) (two_run (of_two prim.Pow b a) at h (paired (pairs_of prim.Pow b a) n) f ss e (omega arith))),
    );
  }

-- Sqrt and Identity take one sum
pub makes-sqrt : (a c : Sum) → of_one prim.Sqrt a ≡ sum c → Makes (one (does prim.Sqrt)) (a ∷ []) (c ∷ []) (size c) false
unfolding step_of kind_of leaf_step primitive_of primitive taking
makes-sqrt a c e = record {
  run = λ ss at h n f i. (
    counted n,
    one-run (does prim.Sqrt) at h (state (a ∷ ss) n f) (state (c ∷ ss) (counted n) (f || false)) (rw (one-there ss) (two_run a a c (of_one prim.Sqrt a) at h n f ss e (omega arith))),
  );
}

pub makes-identity : (a : Sum) → Makes (one (does prim.Identity)) (a ∷ []) (a ∷ []) (size a) false
unfolding step_of kind_of leaf_step primitive_of primitive taking
makes-identity a = record {
  run = λ ss at h n f i. (
    n,
    one-run (does prim.Identity) at h (state (a ∷ ss) n f) (state (a ∷ ss) n (f || false)) (rw (one-there ss, lent at h n f (a ∷ []) ss (omega (arith, total-one a)))),
  );
}

-- Dup leaves its sum twice
pub makes-dup : (a : Sum) → Makes (one (does prim.Dup)) (a ∷ []) (a ∷ a ∷ []) (size a + size a) false
unfolding step_of kind_of leaf_step primitive_of primitive taking total
makes-dup a = record {
  run = λ ss at h n f i. (
    n,
    one-run (does prim.Dup) at h (state (a ∷ ss) n f) (state (a ∷ a ∷ ss) n (f || false)) (rw (one-there ss, lent at h n f (a ∷ a ∷ []) ss (omega arith))),
  );
}

-- ---- numbers pushed

pub number_fits : (v : Float) → T (is_number v) → T (fits binary64 v)
number_fits v t = and_r (finite v) (fits binary64 v) t

bits_back : (v : Float) → T (is_number v) → of_bits binary64 (to_bits binary64 v) ≡ v
bits_back v t = of_bits-to_bits binary64 v (number_fits v t)

-- one term formed as a sum of its own
pub alone-formed : (q : Float) (c : Complex) → finite q ≡ true → complex.all_finite c ≡ true → alone kinds.X q none c ≡ sum (single kinds.X q none c)
unfolding formed coef_in put_in levels size
alone-formed q c e f = rw (e, f)

constant-formed : (c : Complex) → complex.all_finite c ≡ true → alone kinds.X zero64 none c ≡ sum (constant c)
constant-formed c e = alone-formed zero64 c zero-is-finite e

real-formed : (v : Float) → T (is_number v) → alone kinds.X zero64 none (complex.real v) ≡ sum (constant (complex.real v))
real-formed v t = constant-formed (complex.real v) (rw (number-finite v t, zero-is-finite))

pair-formed : (c : Complex) → T (is_number c.re) → T (is_number c.im) → alone kinds.X zero64 none c ≡ sum (constant c)
pair-formed c t u = constant-formed c (rw (number-finite c.re t, number-finite c.im u))

pub makes-push : (v : Float) → T (is_number v) → Makes (one (push v)) [] (constant (complex.real v) ∷ []) 1 false
unfolding step_of kind_of leaf_step size
makes-push v t = record {
  run = λ ss at h n f i. (
    n,
    one-run (push v) at h (state ss n f) (state (constant (complex.real v) ∷ ss) n (f || false))
        (rw (bits_back v t, real-formed v t, lent at h n f (constant (complex.real v) ∷ []) ss (omega (arith, total-one (constant (complex.real v)))))
        (ap (λ (z : Bool). went (state (constant (complex.real v) ∷ ss) n z)) (sym (or-false f)))),
  );
}

pub makes-pair : (c : Complex) → T (is_number c.re) → T (is_number c.im) → Makes (one (push_pair c)) [] (constant c ∷ []) 1 true
unfolding step_of kind_of leaf_step size
makes-pair c t u = record {
  run = λ ss at h n f i. (
    n,
    one-run (push_pair c) at h (state ss n f) (state (constant c ∷ ss) n (f || true))
        (rw (bits_back c.re t, bits_back c.im u, pair-formed c t u, lent at h n f (constant c ∷ []) ss (omega (arith, total-one (constant c))))),
  );
}

-- ---- On

-- everything so far in the body of an On: x is held, and comes back on top of what was made of its copy
pub makes-on : {N : Nodes} {u : Sum} {k : ℕ} {p : Bool} → 1 ≤ k → Makes N (x ∷ []) (u ∷ []) k p → Makes (wrapped N) (x ∷ []) (x ∷ u ∷ []) (suc k) p
unfolding run_all runners step_of kind_of modifier_of modifier taking size total
makes-on {N} {u} {k} {p} low g = record {
  run = λ ss at h n f i.
      let e = g.run ss (at + 1 + 1) (h + 1) n f (omega arith) in
      (e.0, rw (one-there ss, lent at (h + 1) n f (x ∷ []) ss (omega (arith, total-one x)), e.1));
}
