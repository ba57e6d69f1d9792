-- The list of a formula keeps the rules of lists, so that its bytes are parsed as it is. Assumes nothing.
use Prim.Native.Nat.{ℕ, ◌+◌, ◌*◌, ◌≤◌}
use mathlib.Core.Path.{◌≡◌, sym, ◌∙◌, subst}
use mathlib.Core.Bool.{Bool, true, false, not, ◌&&◌, ◌||◌}
use mathlib.Core.List.{List}
use native.Mathlib.Omega.{arith}
use lib.Dec.{T}
use lib.ListN.{length}
use lib.Ieee.{Float, binary64, fits}
use lib.Ieee.Bits.{of_bits-fits}
use Rattle.numbers.specs.Signs.{zero64}
use Rattle.numbers.specs.Complex.Arith as complex
use Rattle.sums.specs.Tree.Sums.{Sum}
use Rattle.formats.specs.declared.record.Record.{Record}
use Rattle.formats.specs.declared.record.Primitive.TheVariants as prim
use Rattle.formats.specs.Tree.{Nodes, end, rec, encode}
use Rattle.formats.proofs.record.Theorem.{parse-encode}
use Rattle.writing.specs.Draft.Writing.{push, does, append, one, two, wrote, number_record}
use Rattle.writing.proofs.draft.Fine.{Plain, Fine, fine_more, fine_end, fine-one, fine-two, fine-append, fine-say, fine-wrapped, fine-good, plain-does, plain_push, plain-number}
use Rattle.writing.specs.ToNodes.{Form, form, is_bare, is_empty, before, plus, close, write}
use Rattle.modifiers.specs.Reading.{read_nodes}
use Rattle.algebra.specs.Reading.{read_list}
use Rattle.theorems.specs.Readback.Terms.{Term}
use Rattle.theorems.proofs.readback.Written.{tail, piece, write-zero, write-term}
use Rattle.theorems.proofs.readback.Steps.{number_fits}
use Rattle.theorems.proofs.readback.Terms.{TermsListed, nothing, zero-entry, term-entry}
use Rattle.theorems.proofs.readback.Lists.{fair-written}

module _ (p : Float) (r : Record) (fp : T (fits binary64 p)) (fr : Plain r) where
  two-fine : (a b : Record) → Plain a → Plain b → Fine 2 1 (two a b)
  two-fine a b = fine-two 1 a b (omega arith)

  tail-fine : (unit : Bool) → Fine 2 1 (tail unit r)
  tail-fine true = fine_more 2 1 (fine_end 1) (omega arith) (omega arith)
  tail-fine false = two-fine r (does prim.Mul) fr (plain-does prim.Mul)

  after_tail : (A : Nodes) (unit : Bool) → Fine 2 1 A → Fine 4 1 (append A (tail unit r))
  after_tail A unit f = fine-append A (tail unit r) f (tail-fine unit)

  piece-fine : (m : Form) (unit : Bool) → Fine 4 1 (piece m p r unit)
  piece-fine Form.constant unit =
      fine-append (two (push zero64) (does prim.Mul)) (two r (does prim.Add)) (two-fine (push zero64) (does prim.Mul) (plain_push zero64 (of_bits-fits binary64 0)) (plain-does prim.Mul))
      (two-fine r (does prim.Add) fr (plain-does prim.Add))
  piece-fine Form.root unit = after_tail (one (does prim.Sqrt)) unit (fine_more 2 1 (fine-one 1 (does prim.Sqrt) (omega arith) (plain-does prim.Sqrt)) (omega arith) (omega arith))
  piece-fine Form.bare unit = fine_more 4 1 (tail-fine unit) (omega arith) (omega arith)
  piece-fine Form.square unit = after_tail (two (does prim.Dup) (does prim.Mul)) unit (two-fine (does prim.Dup) (does prim.Mul) (plain-does prim.Dup) (plain-does prim.Mul))
  piece-fine Form.power unit = after_tail (two (push p) (does prim.Pow)) unit (two-fine (push p) (does prim.Pow) (plain_push p fp) (plain-does prim.Pow))

before-fine : {n h : ℕ} (first : Bool) (ns : Nodes) → 1 ≤ h → n ≤ 2048 → Fine n h ns → Fine (n + 2) (h + 2) (before first ns)
before-fine {n} {h} true ns low few f = fine_more (n + 2) (h + 2) f (omega arith) (omega arith)
before-fine {n} {h} false end low few f = fine_more (n + 2) (h + 2) (fine-one h (does prim.Dup) low (plain-does prim.Dup)) (omega arith) (omega arith)
before-fine false (rec r ns ms) low few f = fine-wrapped (rec r ns ms) (omega arith) f

plus-fine : {n h : ℕ} (first : Bool) (ns : Nodes) → 1 ≤ h → Fine n h ns → Fine (n + 1) h (plus first ns)
plus-fine {n} {h} true ns low f = fine_more (n + 1) h f (omega arith) (omega arith)
plus-fine false ns low f = fine-say ns (does prim.Add) f low (plain-does prim.Add)

close-fine : {n h : ℕ} (id : Bool) (ns : Nodes) → 1 ≤ h → Fine n h ns → Fine (n + 2) h (close id ns)
close-fine {n} {h} id (rec r ns ms) low f = fine_more (n + 2) h f (omega arith) (omega arith)
close-fine {n} {h} true end low f = fine_more (n + 2) h (fine-one h (does prim.Identity) low (plain-does prim.Identity)) (omega arith) (omega arith)
close-fine {n} {h} false end low f =
    fine_more (n + 2) h (fine-two h (push zero64) (does prim.Mul) low (plain_push zero64 (of_bits-fits binary64 0)) (plain-does prim.Mul)) (omega arith) (omega arith)

wrote-is : {a b : Nodes} → wrote a ≡ wrote b → a ≡ b
wrote-is e = cc

-- seven records and two levels more for each term
list-fine : (flag : Bool) {s : Sum} {ts : List Term} → TermsListed s ts → (n h : ℕ) (id : Bool) (ns ms : Nodes) → 1 ≤ h → n + 7 * length ts ≤ 2000 → Fine n h ns → write flag s id ns ≡ wrote ms
    → Fine (n + 7 * length ts + 2) (h + 2 * length ts) ms
unfolding write
list-fine flag nothing n h id ns ms low few f e = subst (Fine (n + 0 + 2) (h + 0)) (wrote-is e) (fine_more (n + 0 + 2) (h + 0) (close-fine id ns low f) (omega arith) (omega arith))
list-fine flag (zero-entry {k} {p} {j} {c} {r} z l) n h id ns ms low few f e = list-fine flag l n h id ns ms low few f (sym (write-zero flag p j c r id ns k z) ∙ e)
list-fine flag {ts = ts} (term-entry {p} {j} {c} {r} {ts = us} z m l) n h id ns ms low few f e =
    let first = not id && is_empty ns in
    let R = number_record flag c in
    let P = piece (form p) p R (complex.same c complex.one) in
    let b = before-fine first ns low (omega arith) f in
    let q = piece-fine p R (number_fits p m.number) (plain-number flag c (number_fits c.re m.coef.re) (number_fits c.im m.coef.im)) (form p) (complex.same c complex.one) in
    let a = fine-append (before first ns) P b (fine_more 4 (h + 2) q (omega arith) (omega arith)) in
    let g = plus-fine first (append (before first ns) P) (omega arith) a in
    fine_more (n + 7 * length ts + 2) (h + 2 * length ts)
    (list-fine flag l (n + 2 + 4 + 1) (h + 2) (id || is_bare (form p)) (plus first (append (before first ns) P)) ms (omega arith) (omega arith) g
    (sym (write-term flag p j c r id ns z (fair-written flag c m.coef)) ∙ e))
    (omega arith) (omega arith)

-- so its bytes are read as it is
pub bytes_read : (flag : Bool) {s : Sum} {ts : List Term} (ns : Nodes) → TermsListed s ts → length ts ≤ 63 → write flag s false end ≡ wrote ns → read_list (encode ns) ≡ read_nodes ns
unfolding read_list
bytes_read flag {ts = ts} ns l few e =
    let f : Fine 2048 129 ns = fine_more 2048 129 (list-fine flag l 0 1 false end ns (omega arith) (omega arith) (fine_end 1) e) (omega arith) (omega arith) in
    rw (fine-good ns (omega arith) (omega arith) f, parse-encode ns record { fields = f.fields; ok = f.ok; few = f.few })
