-- The engine is the run: a sum of whole powers is written and runs to its value, unless a coefficient can't be written as real, and then it is refused with 15. Over bytes
-- too. Assumes nothing.
use Prim.Native.Nat.{ℕ, ◌*◌, ◌≤◌}
use native.Mathlib.Omega.{arith}
use mathlib.Core.Path.{◌≡◌, refl, sym, ap, ◌∙◌}
use mathlib.Core.Bool.{Bool, true, false, not, ◌&&◌, ◌||◌, true≢false}
use mathlib.Core.List.{List}
use mathlib.Core.Option.{Option, none, some}
use lib.Dec.{T, eqb, eqb→eq}
use lib.ListN.{take}
use lib.Ieee.{Float, eq}
use lib.Ieee.Bits.{is_true}
use lib.Ieee.Scale.{finite}
use Rattle.numbers.specs.Signs.{zero64, one64}
use Rattle.numbers.specs.Numbers.{small_whole}
use Rattle.numbers.specs.declared.complex.Complex.{Complex}
use Rattle.numbers.specs.Complex.Arith as complex
use Rattle.numbers.proofs.Bools.{T_of}
use Rattle.numbers.proofs.Zeros.{zero_test}
use Rattle.limits.specs.declared.Refusal.{Refusal}
use Rattle.limits.specs.declared.Refusal.TheVariants.{NeedsMath, NotFinite, OutputRoom}
use Rattle.sums.specs.Tree.Kinds as kinds
use Rattle.sums.specs.Tree.Sums.{Sum, and, size as entries}
use Rattle.sums.specs.Tree.Good.{Good}
use Rattle.std.specs.Prelude.{Result, Ok, Err, Option as Maybe, Some, None}
use Rattle.sums.proofs.bytes.Theorem.{settled}
use Rattle.arithmetic.proofs.Steps.{and_both}
use Rattle.formats.specs.Rules.{verdict}
use Rattle.formats.specs.Tree.{Nodes, end, encode, records_in}
use Rattle.writing.specs.Draft.Writing.{append, one, Written, wrote, refused, and_then, number, number_record, can_write, if_can}
use Rattle.writing.specs.ToNodes.{Form, constant, root, bare, square, power, form, is_bare, is_constant, is_empty, before, write_power, times_coef, plus, write, to_nodes}
use Rattle.writing.proofs.Good.{wrote-is}
use Rattle.writing.proofs.Refusals.{only-15}
use Rattle.running.specs.Running as run
use Rattle.running.specs.Running.{run_nodes, run_list}
use Rattle.values.specs.Value.{Exponent, whole, Power, is_one, value}
use Rattle.theorems.specs.Terms.{TermsOf, nothing, zero_term, term, Terms}
use Rattle.values.specs.ValueOf.{is_zero, is_power, all_powers, all_real, unless_zero, powers_of, if_so, value_of, ValueOfBytes}
use Rattle.algebra.specs.declared.answer.Answer.{Answer}
use Rattle.algebra.specs.declared.answer.Answer.TheVariants as given
use Rattle.algebra.specs.Answer.Making as making
use Rattle.algebra.specs.Answer.Making.{refused_at, of_list, Gives, OfBytes}
use Rattle.algebra.proofs.answer.Told.{success, refusal, not_made, refused-same, list-refused}
use Rattle.theorems.specs.Contract.PowerSum.{PowerSum}
use Rattle.theorems.specs.Places.{in_all, first_not_finite}
use Rattle.theorems.specs.Engine.{unplaced, ran, EngineIsRun, ValueComposes}
use Rattle.theorems.proofs.Demand3.{widen, nothing-lacks}
use Rattle.theorems.proofs.Written.{list_written, writes-good}
use Rattle.theorems.proofs.Speed.Listed.{small-zero}
use Rattle.theorems.proofs.Speed.Finite.{value-finite}
use Rattle.theorems.proofs.Speed.Theorem.{power-sum}

-- ---- a coefficient that can't be written as real

-- 1 can be
unreal-one : (c : Complex) → complex.is_real c ≡ false → is_one c ≡ false
unreal-one c e = go (is_one c) refl
  where
    go : (b : Bool) → is_one c ≡ b → b ≡ false
    go true o = sym (small-zero c.im ((zero_test c.im).0 (and_both (eq c.re one64) (eq c.im zero64) o).1)) ∙ e
    go false o = refl

module _ (p : Float) (c : Complex) (f : Nodes → Written) where
  -- where whatever follows is refused with 15
  module _ (h : (ms : Nodes) → f ms ≡ refused NotFinite) where
    number-then : (ns : Nodes) (g : Nodes → Nodes) → and_then (and_then (number false c ns) (λ ms. wrote (g ms))) f ≡ refused NotFinite
    number-then ns g = go (can_write false c)
      where
        go : (b : Bool) → and_then (and_then (if_can b (wrote (append ns (one (number_record false c))))) (λ ms. wrote (g ms))) f ≡ refused NotFinite
        go true = h (g (append ns (one (number_record false c))))
        go false = refl

    times-then : (b : Bool) (ns : Nodes) → and_then (times_coef b false c ns) f ≡ refused NotFinite
    times-then true ns = number-then ns _
    times-then false ns = h ns

    power-then : (m : Form) (ns : Nodes) → and_then (write_power m p false c ns) f ≡ refused NotFinite
    power-then constant ns = number-then _ _
    power-then root ns = h _
    power-then bare ns = h ns
    power-then square ns = h _
    power-then power ns = h _

-- a term after a list, and what follows it
abbrev term_then : Float → Complex → (Nodes → Written) → Form → Nodes → Written
term_then p c f m ns = and_then (write_power m p false c ns) (λ ms. and_then (times_coef (not (is_one c) && not (is_constant m)) false c ms) f)

-- its coefficient can't be, or whatever follows is refused
term-refused : (p : Float) (c : Complex) (f : Nodes → Written) (m : Form) (ns : Nodes) → (complex.is_real c ≡ true → (ms : Nodes) → f ms ≡ refused NotFinite)
    → term_then p c f m ns ≡ refused NotFinite
term-refused p c f m ns h = go (complex.is_real c) refl
  where
    unreal : (m : Form) → complex.is_real c ≡ false → term_then p c f m ns ≡ refused NotFinite
    unreal constant e = rw e
    unreal root e = rw (unreal-one c e, e)
    unreal bare e = rw (unreal-one c e, e)
    unreal square e = rw (unreal-one c e, e)
    unreal power e = rw (unreal-one c e, e)

    go : (b : Bool) → complex.is_real c ≡ b → term_then p c f m ns ≡ refused NotFinite
    go true e = let times = not (is_one c) && not (is_constant m) in power-then p c (λ ms. and_then (times_coef times false c ms) f) (λ ms. times-then p c f (h e) times ms) m ns
    go false e = unreal m e

-- so the sum is refused
sum-refused : {A : Float → Exponent → Type 0} {s : Sum} {ts : List Power} → TermsOf A s ts → all_real s ≡ false → (id : Bool) (ns : Nodes) → write false s id ns ≡ refused NotFinite
unfolding write all_real
sum-refused nothing e id ns = absurd (true≢false e)
sum-refused (zero_term z t) e id ns = rw z (sum-refused t (rw z at e) id ns)
sum-refused (term {p} {k} {j} {c} {r} z w t) e id ns =
    let first = not id && is_empty ns in
    let met = id || is_bare (form p) in
    rw z (term-refused p c (λ ls. write false r met (plus first ls)) (form p) (before first ns) (λ b ls. sum-refused t (rw (z, b) at e) met (plus first ls)))

-- ---- a sum that passes the first test

terms-of : (s : Sum) → all_powers s ≡ true → Terms s (powers_of s)
unfolding all_powers powers_of
terms-of Sum.none e = nothing
terms-of (and k p i c r) e = go (is_zero c) refl (small_whole p) refl e (λ h. terms-of r h)
  where
    go : (z : Bool) → is_zero c ≡ z → (w : Maybe ℕ) → small_whole p ≡ w → (z || is_power k w) && all_powers r ≡ true → (all_powers r ≡ true → Terms r (powers_of r))
        → Terms (and k p i c r) (unless_zero z w c (powers_of r))
    go true z w e h t = zero_term z (t h)
    go false z (Some n) e h t =
        let b = and_both (eqb k kinds.X) (all_powers r) h in
        rw (eqb→eq k kinds.X (T_of b.0)) (term {k = whole n} z e (t b.1))
    go false z None e h t = absurd (true≢false (sym h))

module _ (s : Sum) (x : Float) (g : Good 4 s) (few : entries s ≤ 64) (fx : T (finite x)) (p : all_powers s ≡ true) where
  terms : Terms s (powers_of s)
  terms = terms-of s p

  list : all_real s ≡ true → (ns : Nodes) × PowerSum s (powers_of s) ns
  list e = power-sum 4 s (powers_of s) g few e (widen terms).0

  list-runs : {ns : Nodes} → all_real s ≡ true → PowerSum s (powers_of s) ns → value_of s x ≡ unplaced (run_nodes ns x)
  unfolding value_of
  list-runs {ns} e l = rw (is_true (finite x) fx, p, e) (by_value (finite (value x (powers_of s))) refl)
    where
      refuses : (o : Option ℕ) → first_not_finite (in_all x (powers_of s)) ≡ o → finite (value x (powers_of s)) ≡ false → Err NotFinite ≡ unplaced (run_nodes ns x)
      refuses none o n = absurd (true≢false (sym (is_true (finite (value x (powers_of s))) ((value-finite x fx (powers_of s)).0 o)) ∙ n))
      refuses (some at) o n = sym (ap unplaced (l.refuses x at fx (nothing-lacks x terms) o))

      by_value : (b : Bool) → finite (value x (powers_of s)) ≡ b → if_so b NotFinite (Ok (value x (powers_of s))) ≡ unplaced (run_nodes ns x)
      by_value true f = sym (ap unplaced (l.gives x fx (nothing-lacks x terms) ((value-finite x fx (powers_of s)).1 (T_of f))))
      by_value false f = refuses (first_not_finite (in_all x (powers_of s))) refl f

  is-run : value_of s x ≡ ran (to_nodes false s) x
  unfolding value_of
  is-run = go (all_real s) refl
    where
      go : (b : Bool) → all_real s ≡ b → value_of s x ≡ ran (to_nodes false s) x
      go true e = let l = (list e).1 in rw l.written (list-runs e l)
      go false e = rw (sum-refused terms e false end) (rw (is_true (finite x) fx, p, e))

  -- what was written runs as its bytes do
  bytes_run : {ns : Nodes} → to_nodes false s ≡ wrote ns → run_list (encode ns) x ≡ run_nodes ns x
  bytes_run {ns} w = go (all_real s) refl
    where
      go : (b : Bool) → all_real s ≡ b → run_list (encode ns) x ≡ run_nodes ns x
      go true e = let l = (list e).1 in rw (wrote-is (sym w ∙ l.written)) (l.bytes x fx)
      go false e = let z : ◌≡◌ {A = ℕ} 0 1 = (let o = sym w ∙ sum-refused terms e false end in cc) in absurd (omega arith)

-- unless it is refused with 14, a sum passes the first test
passes : (s : Sum) (x : Float) → T (finite x) → (value_of s x ≡ Err NeedsMath → ⊥) → all_powers s ≡ true
unfolding value_of
passes s x fx n = go (all_powers s) refl
  where
    go : (b : Bool) → all_powers s ≡ b → b ≡ true
    go true e = refl
    go false e = absurd (n (rw (is_true (finite x) fx, e)))

pub engine-is-run : EngineIsRun
engine-is-run s x g few fx n = is-run s x g few fx (passes s x fx n)

-- ---- over bytes

-- an x that isn't finite is refused with 15
not_finite : (s : Sum) (x : Float) → finite x ≡ false → value_of s x ≡ Err NotFinite
unfolding value_of
not_finite s x e = rw e

list-not-finite : (b : List ℕ) (x : Float) → verdict b ≡ Ok tt → finite x ≡ false → run_list b x ≡ run.Refused NotFinite 0
unfolding run_list
list-not-finite b x v e = rw (v, e)

-- the one sum that was handed over, and what was answered to it
record HandedOver (x : Float) (r : Result Float Refusal) (out out' : List ℕ) (a : Answer) : Type 0 where
  s : Sum
  good : Good 4 s
  few : entries s ≤ 64
  valued : r ≡ value_of s x
  gives : Gives records_in (of_list (to_nodes false s)) out out' a

module _ {l : List ℕ} {x : Float} {r : Result Float Refusal} {out out' : List ℕ} {a : Answer} (v : ValueOfBytes l x r) (b : OfBytes records_in (making.write false) l out out' a) where
  same : v.weight ≡ b.weight
  same = settled l v.weight b.weight v.weighed b.weighed

  handed : {n : ℕ} → b.weight ≡ Ok n → HandedOver x r out out' a
  unfolding making.write
  handed {n} e =
      let w = (b.weighed.good n).0 e in
      record { s = w.0; good = w.3; few = w.2.few; valued = v.takes n (same ∙ e) w.0 w.1 w.3; gives = b.takes n e w.0 w.1 w.3 }

value-runs : (l out out' : List ℕ) (x : Float) (m : ℕ) (r : Result Float Refusal) → (r ≡ Err NeedsMath → ⊥) → ValueOfBytes l x r
    → OfBytes records_in (making.write false) l out out' (given.Done m)
    → r ≡ unplaced (run_list (take (24 * m) out') x)
value-runs l out out' x m r n v b = by-weight b.weight refl
  where
    by-x : HandedOver x r out out' (given.Done m) → (f : Bool) → finite x ≡ f → r ≡ unplaced (run_list (take (24 * m) out') x)
    by-x h false e = h.valued ∙ not_finite h.s x e ∙ sym (ap unplaced (list-not-finite (take (24 * m) out') x (writes-good.write false l out out' m b) e))
    by-x h true e =
        let d = list_written (to_nodes false h.s) h.gives in
        let p = passes h.s x (T_of e) (λ i. n (h.valued ∙ i)) in
        h.valued
        ∙ is-run h.s x h.good h.few (T_of e) p
        ∙ ap (λ (w : Written). ran w x) d.is
        ∙ sym (ap unplaced (ap (λ (z : List ℕ). run_list z x) d.bytes ∙ bytes_run h.s x h.good h.few (T_of e) p d.is))

    by-weight : (t : Result ℕ Refusal) → b.weight ≡ t → r ≡ unplaced (run_list (take (24 * m) out') x)
    by-weight (Err q) e = absurd (not_made (success records_in (refused_at q 0) (b.refuses q e)).is)
    by-weight (Ok k) e = by-x (handed v b e) (finite x) refl

value-refuses : (l out out' : List ℕ) (x : Float) (q : Refusal) (at : ℕ) (r : Result Float Refusal) → (q ≡ OutputRoom → ⊥) → (r ≡ Err NeedsMath → ⊥) → ValueOfBytes l x r
    → OfBytes records_in (making.write false) l out out' (given.Refused q at) → r ≡ Err q
value-refuses l out out' x q at r k n v b = by-weight b.weight refl
  where
    by-x : (h : HandedOver x r out out' (given.Refused q at)) → to_nodes false h.s ≡ refused q → (f : Bool) → finite x ≡ f → r ≡ Err q
    by-x h w false e = h.valued ∙ not_finite h.s x e ∙ sym (ap Err (only-15 false h.s q w))
    by-x h w true e =
        h.valued ∙ engine-is-run h.s x h.good h.few (T_of e) (λ i. n (h.valued ∙ i)) ∙ ap (λ (z : Written). ran z x) w

    by-weight : (t : Result ℕ Refusal) → b.weight ≡ t → r ≡ Err q
    by-weight (Err p) e = v.refuses p (same v b ∙ e) ∙ ap Err (refused-same (refusal records_in (refused_at p 0) (b.refuses p e) k)).0
    by-weight (Ok m) e =
        let h = handed v b e in
        by-x h (list-refused (to_nodes false h.s) (refusal records_in (of_list (to_nodes false h.s)) h.gives k)) (finite x) refl

pub value-composes : ValueComposes
value-composes = record { runs = value-runs; refuses = value-refuses }
