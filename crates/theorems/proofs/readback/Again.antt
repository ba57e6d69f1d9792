-- Where real parts are written, what came is written as the formula was: both are written as their terms say, and these are the same but for the signs of zeros. Assumes nothing.
use mathlib.Core.Path.{◌≡◌, refl, sym, ap, ap₂, ◌∙◌, subst}
use mathlib.Core.Bool.{Bool, true, false, not, ◌&&◌, ◌||◌}
use mathlib.Core.List.{List, [], ◌∷◌}
use lib.Dec.{T}
use lib.Ieee.{Float, eq}
use Rattle.numbers.specs.Signs.{zero64, one64}
use Rattle.numbers.proofs.Bools.{T_of}
use Rattle.numbers.proofs.Finite.{zero-is-finite}
use Rattle.numbers.proofs.Order.{eq-transitive}
use Rattle.numbers.proofs.Zeros.{zero_test}
use Rattle.numbers.specs.declared.complex.Complex.{Complex}
use Rattle.numbers.specs.Complex.Arith as complex
use Rattle.sums.specs.Tree.Kinds.{X}
use Rattle.sums.specs.Tree.Sums.{Sum, none}
use Rattle.sums.specs.Tree.Good.{is_number}
use Rattle.formats.specs.declared.record.Record.{Record}
use Rattle.formats.specs.Tree.{Nodes}
use Rattle.writing.specs.Draft.Writing.{push, append, Written, wrote, can_write}
use Rattle.writing.specs.ToNodes.{Form, form, is_bare, is_empty, before, plus, close, write}
use Rattle.theorems.proofs.Speed.Listed.{small-zero}
use Rattle.theorems.proofs.Speed.Terms.{can-write}
use Rattle.theorems.specs.Readback.Terms.{Term, is_zero}
use Rattle.theorems.proofs.readback.Written.{piece, write-zero, write-term}
use Rattle.theorems.proofs.readback.Powers.{zero-is-zero}
use Rattle.theorems.proofs.readback.Pieces.{Fair}
use Rattle.theorems.proofs.readback.Came.{Came, nothing, next, extra, Kept}
use Rattle.theorems.proofs.readback.Terms as terms-of
use Rattle.theorems.proofs.readback.Terms.{Nice, TermsListed, zero-entry, term-entry}

-- each of the terms is as a formula's terms are
unfoldable pub AllNice : List Term → Type 0
AllNice [] = Unit {0}
AllNice (t ∷ ts) = Nice t × AllNice ts

pub listed-nice : {s : Sum} {ts : List Term} → TermsListed s ts → AllNice ts
unfolding AllNice
listed-nice terms-of.nothing = tt
listed-nice (zero-entry z l) = listed-nice l
listed-nice (term-entry z n l) = (n, listed-nice l)

-- the real part isn't zero, so neither is the coefficient
pub re-some : (c : Complex) → Fair c → eq c.re zero64 ≡ false
re-some c g = go (eq c.re zero64) refl
  where
    go : (b : Bool) → eq c.re zero64 ≡ b → b ≡ false
    go true e = absurd (g.some ((zero_test c.re).0 e))
    go false e = refl

pub kept-some : (t : Term) (p : Float) (d : Complex) → Nice t → Kept t p d → is_zero d ≡ false
kept-some t p d n k = rw (k.same.re, re-some t.coef n.coef)

-- ---- what is written for the terms alone

-- the records of a term
abbrev records : Float → Complex → Nodes
records p c = piece (form p) p (push c.re) (complex.same c complex.one)

-- a term after the list so far
abbrev after_term : Bool → Nodes → Nodes → Nodes
after_term id ns ms = plus (not id && is_empty ns) (append (before (not id && is_empty ns) ns) ms)

unfoldable write_all : List Term → Bool → Nodes → Written
write_all [] id ns = wrote (close id ns)
write_all (t ∷ ts) id ns = write_all ts (id || is_bare (form t.power)) (after_term id ns (records t.power t.coef))

listed-written : {s : Sum} {ts : List Term} → TermsListed s ts → (id : Bool) (ns : Nodes) → write false s id ns ≡ write_all ts id ns
unfolding write write_all
listed-written terms-of.nothing id ns = refl
listed-written (zero-entry {k} {p} {j} {c} {r} z l) id ns = write-zero false p j c r id ns k z ∙ listed-written l id ns
listed-written (term-entry {p} {j} {c} {r} z n l) id ns = write-term false p j c r id ns z (can-write c n.coef.re (small-zero c.im n.coef.real)) ∙ listed-written l _ _

-- ---- the same for what came

form-constant : (p : Float) → eq p zero64 ≡ true → form p ≡ Form.constant
unfolding form
form-constant p e = rw e

module _ (t : Term) (p : Float) (d : Complex) (n : Nice t) (k : Kept t p d) where
  form-same : form p ≡ form t.power
  form-same = go (eq t.power zero64) refl
    where
      go : (b : Bool) → eq t.power zero64 ≡ b → form p ≡ form t.power
      go true e = form-constant p (eq-transitive p t.power zero64 k.here k.there (T_of zero-is-finite) k.same.power ∙ e) ∙ sym (form-constant t.power e)
      go false e = ap form (k.same.exact e)

  piece-same : (r : Record) (b : Bool) → piece (form p) p r b ≡ piece (form t.power) t.power r b
  piece-same r b = go (eq t.power zero64) refl
    where
      go : (z : Bool) → eq t.power zero64 ≡ z → piece (form p) p r b ≡ piece (form t.power) t.power r b
      go true e = rw (form-same, form-constant t.power e)
      go false e = ap (λ (q : Float). piece (form q) q r b) (k.same.exact e)

  one_same : complex.same d complex.one ≡ complex.same t.coef complex.one
  one_same = rw (k.same.re, (zero_test d.im).1 k.same.im, (zero_test t.coef.im).1 n.coef.real)

  records-same : records p d ≡ records t.power t.coef
  records-same =
      ap₂ (λ (v : Float) (b : Bool). piece (form p) p (push v) b) k.same.re one_same ∙ piece-same (push t.coef.re) (complex.same t.coef complex.one)

  kept-written : can_write false d ≡ true
  kept-written = can-write d (subst (λ (v : Float). T (is_number v)) (sym k.same.re) n.coef.re) (small-zero d.im k.same.im)

came-written : {e : Bool} {ts : List Term} {u : Sum} → Came e ts u → AllNice ts → (id : Bool) (ns : Nodes) → write false u id ns ≡ write_all ts id ns
unfolding write write_all AllNice
came-written nothing a id ns = refl
came-written (next {t = t} {ts} {p} {d} {u} k c) a id ns =
    write-term false p none d u id ns (kept-some t p d a.0 k) (kept-written t p d a.0 k)
    ∙ came-written c a.1 (id || is_bare (form p)) (after_term id ns (records p d))
    ∙ ap₂ (λ (m : Form) (ms : Nodes). write_all ts (id || is_bare m) (after_term id ns ms)) (form-same t p d a.0 k) (records-same t p d a.0 k)
came-written (extra {u = u} b c) a id ns = write-zero false one64 none complex.zero u id ns X (rw zero-is-zero) ∙ came-written c a id ns

pub written-again : {e : Bool} {s u : Sum} {ts : List Term} → TermsListed s ts → Came e ts u → (id : Bool) (ns : Nodes) → write false u id ns ≡ write false s id ns
written-again l c id ns = came-written c (listed-nice l) id ns ∙ sym (listed-written l id ns)
