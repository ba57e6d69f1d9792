-- The number of records that any sum of powers is written as, whole or not, with either flag, is document 01's. Assumes nothing.
use Prim.Native.Nat.{ℕ, ◌+◌, ◌*◌}
use mathlib.Core.Path.{◌≡◌, refl, ap, ◌∙◌}
use mathlib.Core.Bool.{Bool, true, false, not, ◌&&◌, ◌||◌, cond}
use mathlib.Core.List.{List, [], ◌∷◌}
use native.Mathlib.Omega.{arith}
use lib.ListN.{length}
use lib.Ieee.{Float}
use Rattle.numbers.specs.Signs.{zero64}
use Rattle.numbers.specs.declared.complex.Complex.{Complex}
use Rattle.numbers.specs.Complex.Arith as complex
use Rattle.sums.specs.Tree.Kinds as kinds
use Rattle.sums.specs.Tree.Sums.{Sum, and}
use Rattle.formats.specs.declared.record.Record.{Record}
use Rattle.formats.specs.declared.record.Primitive.TheVariants as prim
use Rattle.formats.specs.Tree.{Nodes, end, rec, size}
use Rattle.writing.specs.Draft.Writing.{push, does, on, body, append, one, two, Written, wrote, and_then, number, number_record, can_write}
use Rattle.writing.specs.ToNodes.{Form, constant, root, bare, square, power, form, is_bare, is_constant, is_empty, before, write_power, times_coef, plus, write}
use Rattle.writing.specs.Count.{Shape, shape, cost, costs, bare_x, records_for, Powers, nothing, zero, term, Counted}
use Rattle.writing.proofs.draft.Laws.{append-end, append-join, size-append}

and-false : (b : Bool) → (b && false) ≡ false
and-false true = refl
and-false false = refl

-- ---- what one term adds

number_is : (flag : Bool) (c : Complex) (ns : Nodes) → can_write flag c ≡ true → number flag c ns ≡ wrote (append ns (one (number_record flag c)))
number_is flag c ns e = rw e

abbrev tail : Bool → Record → Nodes
tail true r = end
tail false r = two r (does prim.Mul)

abbrev part : Form → Float → Record → Bool → Nodes
part constant p r b = append (two (push zero64) (does prim.Mul)) (two r (does prim.Add))
part root p r b = append (one (does prim.Sqrt)) (tail b r)
part bare p r b = tail b r
part square p r b = append (two (does prim.Dup) (does prim.Mul)) (tail b r)
part power p r b = append (two (push p) (does prim.Pow)) (tail b r)

tail-size : (b : Bool) (r : Record) → size (tail b r) ≡ cond b 0 2
unfolding size
tail-size true r = refl
tail-size false r = refl

plus-cond : (b : Bool) (n : ℕ) → n + cond b 0 2 ≡ cond b n (n + 2)
plus-cond true n = omega arith
plus-cond false n = refl

part-size : (m : Form) (p : Float) (r : Record) (b : Bool) → size (part m p r b) ≡ cost m b
unfolding size append cost
part-size constant p r b = refl
part-size root p r b = size-append (one (does prim.Sqrt)) (tail b r) ∙ ap (λ (k : ℕ). 1 + k) (tail-size b r) ∙ plus-cond b 1
part-size bare p r b = tail-size b r
part-size square p r b = size-append (two (does prim.Dup) (does prim.Mul)) (tail b r) ∙ ap (λ (k : ℕ). 2 + k) (tail-size b r) ∙ plus-cond b 2
part-size power p r b = size-append (two (push p) (does prim.Pow)) (tail b r) ∙ ap (λ (k : ℕ). 2 + k) (tail-size b r) ∙ plus-cond b 2

module _ (flag : Bool) (c : Complex) (f : Nodes → Written) (e : can_write flag c ≡ true) where
  tail-is : (b : Bool) (ns : Nodes) → and_then (times_coef (not b && true) flag c ns) f ≡ f (append ns (tail b (number_record flag c)))
  unfolding append
  tail-is true ns = rw (append-end ns)
  tail-is false ns = rw (number_is flag c ns e, append-join ns)

  part-is : (m : Form) (b : Bool) (p : Float) (ns : Nodes)
      → and_then (write_power m p flag c ns) (λ ms. and_then (times_coef (not b && not (is_constant m)) flag c ms) f) ≡ f (append ns (part m p (number_record flag c) b))
  unfolding append
  part-is constant b p ns = rw (number_is flag c (append ns (two (push zero64) (does prim.Mul))) e, and-false (not b), append-join ns, append-join ns)
  part-is root b p ns = rw (← append-join ns) (tail-is b (append ns (one (does prim.Sqrt))))
  part-is bare b p ns = tail-is b ns
  part-is square b p ns = rw (← append-join ns) (tail-is b (append ns (two (does prim.Dup) (does prim.Mul))))
  part-is power b p ns = rw (← append-join ns) (tail-is b (append ns (two (push p) (does prim.Pow))))

step-zero : (flag : Bool) (k : ℕ) (p : Float) (i : Sum) (c : Complex) (r : Sum) (id : Bool) (ns : Nodes) → complex.same c complex.zero ≡ true
    → write flag (and k p i c r) id ns ≡ write flag r id ns
unfolding write
step-zero flag k p i c r id ns e = rw e

step-term : (flag : Bool) (p : Float) (i : Sum) (c : Complex) (r : Sum) (id : Bool) (ns : Nodes) → complex.same c complex.zero ≡ false → can_write flag c ≡ true
    → write flag (and kinds.X p i c r) id ns
    ≡ write flag r (id || is_bare (form p)) (plus (not id && is_empty ns) (append (before (not id && is_empty ns) ns) (part (form p) p (number_record flag c) (complex.same c complex.one))))
unfolding write
step-term flag p i c r id ns z e =
    rw z (part-is flag c (λ m. write flag r (id || is_bare (form p)) (plus (not id && is_empty ns) m)) e (form p) (complex.same c complex.one) p (before (not id && is_empty ns) ns))

-- ---- all of them

more : {flag : Bool} {s : Sum} {ts : List Shape} → Powers flag s ts → (id : Bool) (a : Record) (i m : Nodes) → Counted flag s id (rec a i m) (size (rec a i m) + (costs ts + 3 * length ts))
unfolding write costs append size
more nothing id a i m = record { list = rec a i m; written = refl; counted = omega arith }
more {flag} (zero {k} {p} {j} {c} {r} e d) id a i m =
    let h = more d id a i m in
    record { list = h.list; written = step-zero flag k p j c r id (rec a i m) e ∙ h.written; counted = h.counted }
more {flag} (term {p} {j} {c} {r} {ts} e w d) id a i m =
    let P = part (form p) p (number_record flag c) (complex.same c complex.one) in
    let n = size (rec a i m) in
    let h = more d (id || is_bare (form p)) (on (n + 1)) (rec (body n) (rec a i m) end) (append P (one (does prim.Add))) in
    record {
      list = h.list;
      written = (rw (and-false (not id)) at (step-term flag p j c r id (rec a i m) e w)) ∙ h.written;
      counted = h.counted ∙ omega (arith, size-append P (one (does prim.Add)), part-size (form p) p (number_record flag c) (complex.same c complex.one));
    }

only : {flag : Bool} {s : Sum} {ts : List Shape} → Powers flag s ts → Counted flag s true end (records_for (shape bare true ∷ ts))
unfolding write append size costs records_for cost
only nothing = record { list = one (does prim.Identity); written = refl; counted = refl }
only {flag} (zero {k} {p} {j} {c} {r} e d) =
    let h = only d in
    record { list = h.list; written = step-zero flag k p j c r true end e ∙ h.written; counted = h.counted }
only {flag} (term {p} {j} {c} {r} {ts} e w d) =
    let P = part (form p) p (number_record flag c) (complex.same c complex.one) in
    let h = more d true (does prim.Dup) end (append P (one (does prim.Add))) in
    record {
      list = h.list;
      written = step-term flag p j c r true end e w ∙ h.written;
      counted = h.counted ∙ omega (arith, size-append P (one (does prim.Add)), part-size (form p) p (number_record flag c) (complex.same c complex.one));
    }

records_is : (m : Form) (b : Bool) (ts : List Shape) → bare_x m b ≡ false → records_for (shape m b ∷ ts) ≡ cost m b + (costs ts + 3 * length ts)
unfolding records_for costs
records_is m b [] e = rw e (omega arith)
records_is m b (t ∷ ts) e = rw e (omega arith)

written-first : {flag : Bool} {s : Sum} {ts : List Shape} (m : Form) (b : Bool) (p : Float) (r a : Record) (i n : Nodes) → bare_x m b ≡ false → part m p r b ≡ rec a i n → Powers flag s ts
    → Counted flag s (is_bare m) (part m p r b) (records_for (shape m b ∷ ts))
written-first {flag} {s} {ts} m b p r a i n f e d =
    let h = more d (is_bare m) a i n in
    record {
      list = h.list;
      written = ap (λ (z : Nodes). write flag s (is_bare m) z) e ∙ h.written;
      counted = h.counted ∙ omega (arith, records_is m b ts f, part-size m p r b, ap size e);
    }

first : {flag : Bool} {s : Sum} {ts : List Shape} (m : Form) (b : Bool) (p : Float) (r : Record) → Powers flag s ts → Counted flag s (is_bare m) (part m p r b) (records_for (shape m b ∷ ts))
unfolding append
first constant b p r d = written-first constant b p r _ _ _ refl refl d
first root b p r d = written-first root b p r _ _ _ refl refl d
first bare true p r d = only d
first bare false p r d = written-first bare false p r _ _ _ refl refl d
first square b p r d = written-first square b p r _ _ _ refl refl d
first power b p r d = written-first power b p r _ _ _ refl refl d

-- what a sum of powers is written as has as many records as document 01 says
pub record-count : {flag : Bool} {s : Sum} {ts : List Shape} → Powers flag s ts → Counted flag s false end (records_for ts)
unfolding write append size records_for
record-count nothing = record { list = two (push zero64) (does prim.Mul); written = refl; counted = refl }
record-count {flag} (zero {k} {p} {j} {c} {r} e d) =
    let h = record-count d in
    record { list = h.list; written = step-zero flag k p j c r false end e ∙ h.written; counted = h.counted }
record-count {flag} (term {p} {j} {c} {r} {ts} e w d) =
    let h = first (form p) (complex.same c complex.one) p (number_record flag c) d in
    record { list = h.list; written = step-term flag p j c r false end e w ∙ h.written; counted = h.counted }
