-- Every good sum of whole powers and of a square root whose coefficients can be written as real has a list, and it runs as document 01 says. Assumes nothing.
use Prim.Native.Nat.{ℕ, ◌≤◌}
use mathlib.Core.Path.{◌≡◌, sym, ap, ◌∙◌}
use mathlib.Core.Bool.{true, false}
use mathlib.Core.List.{List, [], ◌∷◌}
use mathlib.Core.Option.{Option}
use native.Mathlib.Omega.{arith}
use lib.Dec.{T}
use lib.Ieee.{Float}
use lib.Ieee.Bits.{is_true}
use lib.Ieee.Scale.{finite}
use Rattle.sums.specs.Tree.Kinds as kinds
use Rattle.sums.specs.Tree.Sums.{Sum, size as entries, entry}
use Rattle.sums.specs.Tree.Good.{Good}
use Rattle.sums.proofs.order.Walk.{good-and}
use Rattle.formats.specs.Tree.{Nodes, size, encode}
use Rattle.formats.proofs.record.Theorem.{parse-encode}
use Rattle.writing.specs.Draft.Writing.{wrote}
use Rattle.writing.proofs.draft.Fine.{Fine, fine-good}
use Rattle.writing.specs.Count as count
use Rattle.writing.specs.Count.{Powers}
use Rattle.writing.proofs.Count.{record-count}
use Rattle.running.specs.Running.{ended, run_nodes, run_list, RunAnswer}
use Rattle.values.specs.Value.{Power, value}
use Rattle.theorems.specs.Terms.{RootTerms}
use Rattle.values.specs.ValueOf.{all_real}
use Rattle.theorems.specs.Records.{shapes, exact_peak}
use Rattle.theorems.specs.Contract.PowerSum.{PowerSum}
use Rattle.theorems.proofs.Speed.Listed.{Listed, listed, nothing, zero_term, term}
use Rattle.theorems.proofs.Speed.Steps.{Stop, state, out, fifteen}
use Rattle.theorems.proofs.Speed.Terms.{form-is, can-write}
use Rattle.theorems.proofs.Speed.Rising.{rising, few-terms}
use Rattle.theorems.proofs.Speed.Whole.{whole-list}
use Rattle.theorems.proofs.Speed.Stops.{first-number, stops-15, stops-14}

wrote-is : {a b : Nodes} → wrote a ≡ wrote b → a ≡ b
wrote-is h = cc

-- such a sum is a sum of powers
powers : (left : ℕ) {s : Sum} {ts : List Power} → Good left s → Listed s ts → Powers false s (shapes ts)
unfolding shapes
powers left g nothing = count.nothing
powers left g (zero_term {k = l} {p} {j} {c} {r = s} z t) = count.zero z (powers left (good-and left (entry l (entries j) p c) j s g).rest t)
powers left g (term {p} {k = l} {j} {c} {r = s} z re w t) =
    let f = good-and left (entry kinds.X (entries j) p c) j s g in
    rw (form-is p l f.entry-good.number w) at (count.term {p = p} {j = j} {c = c} z (can-write c f.entry-good.re re) (powers left f.rest t))

-- a list that keeps the rules runs as its bytes do
bytes_run : (ns : Nodes) (x : Float) → Fine 2048 129 ns → T (finite x) → run_list (encode ns) x ≡ run_nodes ns x
unfolding run_list
bytes_run ns x f fx =
    rw (fine-good ns (omega arith) (omega arith) f, is_true (finite x) fx, parse-encode ns record { fields = f.fields; ok = f.ok; few = f.few })

-- the list that is written for a good sum of such powers, whose outermost coefficients can be written as real
pub power-sum : (left : ℕ) (s : Sum) (ts : List Power) → Good left s → entries s ≤ 64 → all_real s ≡ true → RootTerms s ts → (ns : Nodes) × PowerSum s ts ns
unfolding run_nodes
power-sum left s ts g few real terms =
    let t = listed real terms in
    let up = rising left g t in
    let h = whole-list left g t up (omega (arith, few-terms t)) in
    let k = record-count (powers left g t) in
    let ends : (x : Float) → Option Stop → RunAnswer = λ x o. ended (out o (state (value x ts ∷ []) (size h.list) (exact_peak ts))) in (
      h.list,
      record {
        written = h.written;
        records = ap size (wrote-is (sym h.written ∙ k.written)) ∙ k.counted;
        gives = λ x fx l e. ap ended (h.run x fx) ∙ ap (ends x) (stops-15 x ts l ∙ ap fifteen e);
        refuses = λ x at fx l e. ap ended (h.run x fx) ∙ ap (ends x) (stops-15 x ts l ∙ ap fifteen e);
        lacks = λ x fx l. ap ended (h.run x fx) ∙ ap (ends x) (stops-14 x fx ts (first-number left g t) up l);
        bytes = λ x fx. bytes_run h.list x h.fine fx;
      },
    )
