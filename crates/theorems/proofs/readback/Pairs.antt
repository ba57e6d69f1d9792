-- A pair stands in the list of a formula exactly where it was written with the flag and a coefficient was written. Assumes nothing.
use mathlib.Core.Path.{◌≡◌, refl, sym, ap, ap₂, ◌∙◌}
use mathlib.Core.Bool.{Bool, true, false, not, ◌&&◌, ◌||◌, and-true, and-false}
use mathlib.Core.List.{List}
use lib.Ieee.{Float, eq}
use Rattle.numbers.specs.Constants.{half64, two64}
use Rattle.numbers.specs.Signs.{zero64, one64}
use Rattle.numbers.specs.declared.complex.Complex.{Complex}
use Rattle.numbers.specs.Complex.Arith as complex
use Rattle.sums.specs.Tree.Sums.{Sum}
use Rattle.formats.specs.declared.record.Kind.TheVariants.{ComplexPush}
use Rattle.formats.specs.declared.record.Primitive.TheVariants as prim
use Rattle.formats.specs.Names.{choose}
use Rattle.formats.specs.Rules.{is_a}
use Rattle.formats.specs.Tree.{Nodes, end, rec}
use Rattle.writing.specs.Draft.Writing.{does, append, one, wrote, number_record}
use Rattle.writing.specs.ToNodes.{Form, form, is_bare, is_constant, is_empty, before, plus, close, write}
use Rattle.theorems.specs.Readback.Terms.{Term, wrote_pair}
use Rattle.theorems.specs.Readback.ReadBack.{has_pair}
use Rattle.theorems.proofs.readback.Written.{tail, piece, write-zero, write-term}
use Rattle.theorems.proofs.readback.Steps.{or-false, or-join}
use Rattle.theorems.proofs.readback.Terms.{TermsListed, nothing, zero-entry, term-entry}
use Rattle.theorems.proofs.readback.Lists.{fair-written}

pair-append : (a b : Nodes) → has_pair (append a b) ≡ has_pair a || has_pair b
unfolding has_pair append
pair-append end b = refl
pair-append (rec r ns ms) b = ap (λ (z : Bool). is_a r ComplexPush || has_pair ns || z) (pair-append ms b) ∙ sym (or-join (is_a r ComplexPush || has_pair ns) (has_pair ms) (has_pair b))

pair-number : (flag : Bool) (c : Complex) → is_a (number_record flag c) ComplexPush ≡ flag
pair-number true c = refl
pair-number false c = refl

module _ (flag : Bool) (p : Float) (c : Complex) where
  pair-tail : (unit : Bool) → has_pair (tail unit (number_record flag c)) ≡ (flag && not unit)
  unfolding has_pair
  pair-tail true = sym (and-false flag)
  pair-tail false = rw (pair-number flag c, or-false flag, and-true flag) (or-false flag)

  pair-piece : (m : Form) (unit : Bool) → has_pair (piece m p (number_record flag c) unit) ≡ (flag && (is_constant m || not unit))
  unfolding has_pair append
  pair-piece Form.constant unit = rw (pair-number flag c, or-false flag, and-true flag) (or-false flag)
  pair-piece Form.root unit = pair-tail unit
  pair-piece Form.bare unit = pair-tail unit
  pair-piece Form.square unit = pair-tail unit
  pair-piece Form.power unit = pair-tail unit

constant-form : (p : Float) → is_constant (form p) ≡ eq p zero64
unfolding form
constant-form p = go (eq p zero64) (eq p half64) (eq p one64) (eq p two64)
  where
    go : (a b c d : Bool) → is_constant (choose a Form.constant (choose b Form.root (choose c Form.bare (choose d Form.square Form.power)))) ≡ a
    go true b c d = refl
    go false true c d = refl
    go false false true d = refl
    go false false false true = refl
    go false false false false = refl

pair-before : (first : Bool) (ns : Nodes) → has_pair (before first ns) ≡ has_pair ns
unfolding has_pair
pair-before true ns = refl
pair-before false end = refl
pair-before false (rec r ns ms) = or-false (has_pair (rec r ns ms) || false) ∙ or-false (has_pair (rec r ns ms))

pair-plus : (first : Bool) (ns : Nodes) → has_pair (plus first ns) ≡ has_pair ns
unfolding has_pair
pair-plus true ns = refl
pair-plus false ns = pair-append ns (one (does prim.Add)) ∙ or-false (has_pair ns)

pair-close : (id : Bool) (ns : Nodes) → has_pair (close id ns) ≡ has_pair ns
unfolding has_pair
pair-close id (rec r ns ms) = refl
pair-close true end = refl
pair-close false end = refl

wrote-is : {a b : Nodes} → wrote a ≡ wrote b → a ≡ b
wrote-is e = cc

regroup : (flag a w v : Bool) → ((a || (flag && w)) || (flag && v)) ≡ (a || (flag && (w || v)))
regroup true a w v = or-join a w v
regroup false a w v = or-false (a || false)

pub pair-list : (flag : Bool) {s : Sum} {ts : List Term} → TermsListed s ts → (id : Bool) (ns ms : Nodes) → write flag s id ns ≡ wrote ms → has_pair ms ≡ has_pair ns || (flag && wrote_pair ts)
unfolding write wrote_pair
pair-list flag nothing id ns ms e = ap has_pair (sym (wrote-is e)) ∙ pair-close id ns ∙ sym (rw (and-false flag) (or-false (has_pair ns)))
pair-list flag (zero-entry {k} {p} {j} {c} {r} z l) id ns ms e = pair-list flag l id ns ms (sym (write-zero flag p j c r id ns k z) ∙ e)
pair-list flag (term-entry {p} {j} {c} {r} {ts = us} z m l) id ns ms e =
    let first = not id && is_empty ns in
    let P = piece (form p) p (number_record flag c) (complex.same c complex.one) in
    let w = eq p zero64 || not (complex.same c complex.one) in
    let head : has_pair (plus first (append (before first ns) P)) ≡ (has_pair ns || (flag && w)) =
    pair-plus first (append (before first ns) P)
    ∙ pair-append (before first ns) P
    ∙ ap₂ ◌||◌ (pair-before first ns) (pair-piece flag p c (form p) (complex.same c complex.one) ∙ ap (λ (b : Bool). flag && (b || not (complex.same c complex.one))) (constant-form p)) in
    pair-list flag l (id || is_bare (form p)) (plus first (append (before first ns) P)) ms (sym (write-term flag p j c r id ns z (fair-written flag c m.coef)) ∙ e)
    ∙ ap (λ (b : Bool). b || (flag && wrote_pair us)) head
    ∙ regroup flag (has_pair ns) w (wrote_pair us)
