-- From bytes to bytes: what `write` wrote, `read` takes and gives back, and where real parts are written, `write` of that writes the same bytes again. Assumes nothing.
use Prim.Native.Nat.{ℕ, ◌*◌, ◌≤◌, min}
use mathlib.Core.Path.{◌≡◌, sym, ap, ◌∙◌, subst}
use mathlib.Core.Bool.{Bool, false, ◌&&◌}
use mathlib.Core.List.{List}
use native.Mathlib.Omega.{arith}
use borrow.Author.Tests.{le-leb}
use lib.ListN.{take}
use lib.Seq.{sets}
use Rattle.sums.specs.Tree.Sums.{Sum, size}
use Rattle.sums.specs.Tree.Good.{Good}
use Rattle.formats.specs.Tree as tree
use Rattle.formats.specs.Tree.{Nodes, encode, records_in}
use Rattle.formats.proofs.record.Codes.{length-encode}
use Rattle.sums.specs.Entry.Encoding.{entries_in, encode_sum}
use Rattle.sums.proofs.bytes.Laws.{length-sum}
use Rattle.writing.specs.Draft.Writing.{Written, wrote}
use Rattle.writing.specs.ToNodes.{to_nodes}
use Rattle.stack.specs.State.{most_pairs}
use Rattle.modifiers.specs.Reading.{Read, done}
use Rattle.algebra.specs.declared.answer.Answer.{Answer}
use Rattle.algebra.specs.declared.answer.Answer.TheVariants as given
use Rattle.algebra.specs.Answer.Making.{made, of_list, write, Gives, OfBytes}
use Rattle.algebra.proofs.answer.Taking.{of-good}
use Rattle.algebra.proofs.answer.Told.{success, first-bytes}
use Rattle.algebra.specs.Reading.{read_list}
use Rattle.algebra.specs.declared.ReadAnswer.{ReadAnswer}
use Rattle.algebra.specs.declared.ReadAnswer.TheVariants as answer
use Rattle.theorems.specs.Composing.{ReadGives}
use Rattle.theorems.proofs.Composing.{read_told}
use Rattle.modifiers.proofs.Good.{read-good}
use Rattle.stack.proofs.Sizes.{good-some}
use Rattle.theorems.specs.Readback.Terms.{terms, PowerFormula, wrote_pair}
use Rattle.theorems.specs.Readback.ReadBack.{Back}
use Rattle.theorems.specs.Readback.Passed.{Writes, Passes, Stays}
use Rattle.theorems.proofs.readback.Terms.{listed}
use Rattle.theorems.proofs.readback.Fine.{bytes_read}
use Rattle.theorems.proofs.readback.Theorem.{reads-back}

made-same : {n k : ℕ} {a b : List ℕ} → made n a ≡ made k b → (n ≡ k) × (a ≡ b)
made-same e = (cc, cc)

-- ---- what is written for a list

-- the bytes of a good sum that is written as the list ns
module _ (flag : Bool) (s : Sum) (ns : Nodes) (good : Good 4 s) (some : 1 ≤ size s) (room : size s ≤ 64) (e : to_nodes flag s ≡ wrote ns) where
  made_of : {out out' : List ℕ} {r : Answer} → Writes flag s out out' r → Gives records_in (made (tree.size ns) (encode ns)) out out' r
  unfolding write
  made_of {out} {out'} {r} p = subst (λ (w : Written). Gives records_in (of_list w) out out' r) e (of-good s good some room p)

  -- with enough room it succeeds
  written-done : (out out' : List ℕ) (r : Answer) → tree.size ns ≤ records_in out → Writes flag s out out' r → r ≡ given.Done (tree.size ns)
  written-done out out' r l p = (made_of p).answered ∙ rw (le-leb (tree.size ns) (records_in out) l)

  -- so many records, and their bytes are the output's first
  written-bytes : {out out' : List ℕ} {n : ℕ} → Writes flag s out out' (given.Done n) → (n ≡ tree.size ns) × (take (24 * n) out' ≡ encode ns)
  written-bytes {out} {out'} {n} p =
      let o = success records_in (made (tree.size ns) (encode ns)) (made_of p) in
      let z = made-same o.is in
      (sym z.0, ap (take (24 * n)) (o.written ∙ ap (sets out 0) (sym z.1)) ∙ first-bytes (encode ns) out (24 * n) (omega (arith, z.0, length-encode ns)) (omega (arith, o.fits)))

-- what is read with room for it
read_done : (t : Sum) (c h : Bool) (k : ℕ) (out out' : List ℕ) (r : ReadAnswer) → size t ≤ 64 → 64 ≤ entries_in out → ReadGives (done t c h k) out out' r
    → (r ≡ answer.Sum (size t) c (min most_pairs k)) × (take (32 * size t) out' ≡ encode_sum t)
read_done t c h k out out' r few l p =
    let fits = le-leb (size t) (entries_in out) (omega arith) in
    (p.answered ∙ rw fits, ap (take (32 * size t)) (p.written ∙ rw fits) ∙ first-bytes (encode_sum t) out (32 * size t) (omega (arith, length-sum t)) (omega arith))

-- ---- the theorems

module _ (flag : Bool) (s : Sum) (f : PowerFormula s) (some : 1 ≤ size s) where
  b : Back flag s
  b = reads-back flag s f

  -- the bytes that were written are read as t
  list_read : {out out' : List ℕ} {n : ℕ} → Writes flag s out out' (given.Done n) → read_list (take (24 * n) out') ≡ done b.t (flag && wrote_pair (terms s)) b.handled b.pairs
  list_read p =
      ap read_list (written-bytes flag s b.list f.good some f.room b.written p).1
      ∙ bytes_read flag b.list (listed 4 s f.good f.real f.powers f.small) (omega (arith, f.few)) b.written
      ∙ b.read

pub passes : Passes
passes flag s f some =
    let B = b flag s f some in
    record {
      t = B.t;
      back = B.back;
      pairs = min most_pairs B.pairs;
      records = tree.size B.list;
      writes = written-done flag s B.list f.good some f.room B.written;
      reads = λ out₁ out₁' out₂ out₂' n r p l g.
          read_done B.t (flag && wrote_pair (terms s)) B.handled B.pairs out₂ out₂' r B.back.formula.room (omega arith)
          (subst (λ (z : Read). ReadGives z out₂ out₂' r) (list_read flag s f some p) g);
    }

pub stays : Stays
stays s f some out₁ out₁' out₂ out₂' out₃ out₃' n m k c r p g l q =
    let B = b false s f some in
    let w = written-bytes false s B.list f.good some f.room B.written p in
    let T = read_told (done B.t false B.handled B.pairs) (subst (λ (z : Read). ReadGives z out₂ out₂' (answer.Sum m c k)) (list_read false s f some p) g) in
    let same : T.s ≡ B.t = cc in
    let bytes : take (32 * m) out₂' ≡ encode_sum B.t = T.bytes ∙ ap encode_sum same in
    let G = read-good B.list B.read in
    let v : Writes false B.t out₃ out₃' r = subst (λ (z : List ℕ). OfBytes records_in (write false) z out₃ out₃' r) bytes q in
    let again = B.back.again ∙ B.written in
    let d : r ≡ given.Done (tree.size B.list) = written-done false B.t B.list G.good (good-some G) G.room again out₃ out₃' r (omega (arith, w.0)) v in
    let h = written-bytes false B.t B.list G.good (good-some G) G.room again (subst (λ (z : Answer). Writes false B.t out₃ out₃' z) d v) in
    (d ∙ ap given.Done (sym w.0), ap (λ (i : ℕ). take (24 * i) out₃') w.0 ∙ h.1 ∙ sym w.1)
