-- Demand 3 with √x among the powers, for every byte list that is read without a complex step; and of the C functions. Assumes nothing.
use Prim.Native.Nat.{ℕ, ◌*◌, ◌≤◌}
use native.Mathlib.Omega.{arith}
use mathlib.Core.Path.{◌≡◌, ap, subst, ◌∙◌}
use mathlib.Core.Bool.{Bool, true, false}
use mathlib.Core.List.{List}
use lib.Dec.{T, leb}
use lib.Ieee.{Float}
use lib.Ieee.Scale.{finite}
use lib.ListN.{take}
use borrow.Author.Tests.{le-leb}
use Rattle.std.specs.Prelude.{Ok, Err}
use Rattle.sums.specs.Tree.Sums.{Sum}
use Rattle.arithmetic.specs.Singles.{GoodSum}
use Rattle.formats.specs.Rules.{verdict, Verdict}
use Rattle.formats.specs.Tree.{Nodes, size, encode, parse, records_in}
use Rattle.formats.proofs.record.Codes.{length-encode}
use Rattle.modifiers.specs.Reading.{done, read_nodes}
use Rattle.calculus.proofs.Good.{derive-good}
use Rattle.writing.specs.Draft.Writing.{wrote}
use Rattle.running.specs.Running.{run_nodes, run_list, RunAnswer, Value}
use Rattle.algebra.specs.declared.answer.Answer.{Answer}
use Rattle.algebra.specs.declared.answer.Answer.TheVariants.{Done}
use Rattle.algebra.specs.Answer.Making.{Made, of_list, write, derive_and_write, Gives}
use Rattle.algebra.proofs.answer.Told.{first-bytes}
use Rattle.algebra.specs.Reading.{by_verdict, read_list}
use Rattle.algebra.specs.Entries.{derivative}
use Rattle.algebra.specs.Replies.{of_answer, of_run}
use Rattle.uplink.specs.Told.{Ran, with_count, with_steps}
use Rattle.theorems.specs.Reals.{RealSum}
use Rattle.theorems.specs.Contract.PowerSum.{PowerSum}
use Rattle.values.specs.Value.{Power, value}
use Rattle.values.specs.ValueOf.{all_real}
use Rattle.theorems.specs.Records.{records, exact_peak}
use Rattle.theorems.specs.Roots.{RootFormula, RootRuns, Demand3Roots, RootRunsTold, FunctionsRoots}
use Rattle.theorems.proofs.Reading.{sum-good}
use Rattle.theorems.proofs.Real.Reading.{read_real}
use Rattle.theorems.proofs.Real.Calculus.{derive-real}
use Rattle.theorems.proofs.Speed.Listed.{listed, all-real}
use Rattle.theorems.proofs.Speed.Peaks.{peak-at-most, peak-no-less}
use Rattle.theorems.proofs.Speed.Rising.{rising}
use Rattle.theorems.proofs.Speed.Finite.{value-finite}
use Rattle.theorems.proofs.Speed.Theorem.{power-sum}

-- without a complex step there are no imaginary parts
by-real : (v : Verdict) (ns : Nodes) {s : Sum} {h : Bool} {k : ℕ} → by_verdict v (read_nodes ns) ≡ done s false h k → RealSum s
by-real (Ok tt) ns e = read_real ns e
by-real (Err q) ns e = let z : ◌≡◌ {A = ℕ} 0 1 = cc in absurd (omega arith)

list-real : (l : List ℕ) {s : Sum} {h : Bool} {k : ℕ} → read_list l ≡ done s false h k → RealSum s
unfolding read_list
list-real l e = by-real (verdict l) (parse l) e

module _ {l : List ℕ} {ts : List Power} (f : RootFormula l ts) where
  -- the derivative is good, and has no imaginary parts either: it can be written as real
  good : GoodSum f.d
  good = derive-good f.s (sum-good l f.read) f.derived

  real : all_real f.d ≡ true
  real = all-real f.d (derive-real f.s (list-real l f.read) f.derived)

  -- so it has a list
  list : (ns : Nodes) × PowerSum f.d ts ns
  list = power-sum 4 f.d ts good.good good.room real f.terms

  module _ {ns : Nodes} (p : PowerSum f.d ts ns) where
    -- what derivative makes of l
    made-is : derivative l ≡ of_list (wrote ns)
    unfolding derivative derive_and_write write
    made-is = rw f.read (rw f.derived (ap of_list p.written))

    module _ {out out' : List ℕ} {r : Answer} (room : records ts ≤ records_in out) (g : Gives records_in (derivative l) out out' r) where
      fits : leb (size ns) (records_in out) ≡ true
      fits = le-leb (size ns) (records_in out) (omega (arith, p.records))

      given : Gives records_in (of_list (wrote ns)) out out' r
      given = subst (λ (m : Made). Gives records_in m out out' r) made-is g

      answers : r ≡ Done (records ts)
      answers = (rw fits at given.answered) ∙ ap Done p.records

      first : take (24 * records ts) out' ≡ encode ns
      first =
          ap (take (24 * records ts)) (rw fits at given.written)
          ∙ first-bytes (encode ns) out (24 * records ts) (omega (arith, p.records, length-encode ns)) (omega (arith, p.records))

      -- the bytes that it wrote run as the list does
      run_is : (x : Float) → T (finite x) → run_list (take (24 * records ts) out') x ≡ run_nodes ns x
      run_is x fx = ap (λ (b : List ℕ). run_list b x) first ∙ p.bytes x fx

      runs : RootRuns (take (24 * records ts) out') ts
      runs = record {
        gives = λ x fx l fv. run_is x fx ∙ p.gives x fx l ((value-finite x fx ts).1 fv) ∙ ap (λ (n : ℕ). Value (value x ts) n (exact_peak ts)) p.records;
        refuses = λ x at fx l e. run_is x fx ∙ p.refuses x at fx l e;
        lacks = λ x fx l. run_is x fx ∙ p.lacks x fx l;
      }

-- ---- the demand

pub demand-3-roots : Demand3Roots
demand-3-roots l ts f =
    let p = (list f).1 in
    record {
      rises = rising 4 (good f).good (listed (real f) f.terms);
      none_exactly = λ x fx. value-finite x fx ts;
      at_most = peak-at-most ts;
      no_less = peak-no-less ts;
      writes = λ out out' r room g. (answers f p room g, runs f p room g);
    }

-- ---- the same of the C functions, whose contracts tell an entry's reply

runs-told : {b : List ℕ} {ts : List Power} → RootRuns b ts → RootRunsTold b ts
runs-told s = record {
  gives = λ x no v answer fx l fv t. told t (s.gives x fx l fv);
  refuses = λ x at no v answer fx l e t. told t (s.refuses x at fx l e);
  lacks = λ x no v answer fx l t. told t (s.lacks x fx l);
}
  where
    told : {x : Float} {b : List ℕ} {no : ℕ} {v : Float} {answer : List ℕ} {a : RunAnswer} → Ran x b no v answer → run_list b x ≡ a
        → (no ≡ (of_run a).number) × (v ≡ (of_run a).value) × (answer ≡ with_steps (of_run a))
    told t e =
        let r = t.promised.0 ∙ ap of_run e in
        (t.returned ∙ ap (λ z. z.number) r, t.valued ∙ ap (λ z. z.value) r, t.told ∙ ap with_steps r)

pub functions-roots : FunctionsRoots
functions-roots l ts f = record {
  writes = λ out out' no answer room t.
      let s = (demand-3-roots l ts f).writes out out' t.promised.0 room t.promised.2 in
      let e = t.promised.1 ∙ ap of_answer s.0 in
      (t.returned ∙ ap (λ z. z.number) e, t.told ∙ ap with_count e, runs-told s.1);
}
