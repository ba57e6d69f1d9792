-- What `write` wrote, `read` gives back: the terms, 0·x where it is said, the flag, a good sum, and the same list again. Assumes nothing.
use Prim.Native.Nat.{suc}
use mathlib.Core.Path.{◌≡◌, refl, ap, ◌∙◌}
use mathlib.Core.Bool.{Bool, true, false, ◌&&◌, cond, and-false}
use mathlib.Core.List.{List}
use lib.Dec.{T}
use lib.ListN.{length}
use lib.Ieee.{Float, eq, lt, of_bits}
use lib.Ieee.Scale.{finite}
use native.Mathlib.Omega.{arith}
use Rattle.numbers.specs.Numbers.{is_whole}
use Rattle.numbers.specs.Signs.{zero64, one64}
use Rattle.numbers.proofs.Bools.{T_of}
use Rattle.numbers.proofs.Finite.{zero-is-finite}
use Rattle.numbers.proofs.Order.{eq-transitive, lt-eq-right}
use Rattle.numbers.proofs.Zeros.{zero_test}
use Rattle.numbers.specs.declared.complex.Complex.{Complex}
use Rattle.numbers.specs.Complex.Arith as complex
use Rattle.sums.specs.Tree.Kinds.{X}
use Rattle.sums.specs.Tree.Sums.{Sum, none, and}
use Rattle.modifiers.proofs.Good.{read-good}
use Rattle.theorems.specs.Reals.{RealSum}
use Rattle.formats.specs.Tree.{end}
use Rattle.theorems.specs.Readback.Terms.{Term, terms, zeros, PowerTerms, NoBigWhole, highest64, nought_x, is_zero}
use Rattle.theorems.specs.Readback.ReadBack.{Alike, has_pair, ReadsBack}
use Rattle.theorems.proofs.readback.Powers.{zero-is-zero}
use Rattle.theorems.proofs.readback.Came.{Came, nothing, next, extra, Kept}
use Rattle.theorems.proofs.readback.Terms.{listed, rising}
use Rattle.theorems.proofs.readback.Lists.{all_read, read-list}
use Rattle.theorems.proofs.readback.Pairs.{pair-list}
use Rattle.theorems.proofs.readback.Again.{AllNice, listed-nice, kept-some, written-again}

-- ---- what came, as the statement has it

zero_is : is_zero complex.zero ≡ true
zero_is = rw zero-is-zero

came-terms : {e : Bool} {ts : List Term} {u : Sum} → Came e ts u → AllNice ts → Alike ts (terms u)
unfolding Alike terms AllNice
came-terms nothing a = tt
came-terms (next {t = t} {p = p} {d} k c) a = rw (kept-some t p d a.0 k) (k.same, came-terms c a.1)
came-terms (extra b c) a = rw zero_is (came-terms c a)

came-powers : {e : Bool} {ts : List Term} {u : Sum} → Came e ts u → PowerTerms u
unfolding PowerTerms
came-powers nothing = tt
came-powers (next k c) = (λ z. refl, came-powers c)
came-powers (extra b c) = (λ z. refl, came-powers c)

came-zeros : {e : Bool} {ts : List Term} {u : Sum} → Came e ts u → AllNice ts → zeros u ≡ cond e nought_x none
unfolding zeros AllNice
came-zeros nothing a = refl
came-zeros (next {t = t} {p = p} {d} k c) a = rw (kept-some t p d a.0 k) (came-zeros c a.1)
came-zeros (extra b c) a = rw zero_is (ap (λ (v : Sum). and X one64 none complex.zero v) (came-zeros c a))

came-real : {e : Bool} {ts : List Term} {u : Sum} → Came e ts u → RealSum u
unfolding RealSum
came-real nothing = tt
came-real (next k c) = (k.same.im, tt, came-real c)
came-real (extra b c) = ((zero_test zero64).0 zero-is-zero, tt, came-real c)

came-few : {e : Bool} {ts : List Term} {u : Sum} → Came e ts u → AllNice ts → length (terms u) ≡ length ts
unfolding terms AllNice
came-few nothing a = refl
came-few (next {t = t} {p = p} {d} k c) a = rw (kept-some t p d a.0 k) (ap suc (came-few c a.1))
came-few (extra b c) a = rw zero_is (came-few c a)

zero-small : lt highest64 zero64 ≡ false
unfolding lt of_bits
zero-small = refl

highest-finite : finite highest64 ≡ true
unfolding of_bits
highest-finite = refl

-- a power that comes back is no more a whole number above 64 than it was
kept_small : (t : Term) (p : Float) (d : Complex) → Kept t p d → (is_whole t.power && lt highest64 t.power) ≡ false → (is_whole p && lt highest64 p) ≡ false
kept_small t p d k s = go (eq t.power zero64) refl
  where
    fz : T (finite zero64)
    fz = T_of zero-is-finite

    go : (b : Bool) → eq t.power zero64 ≡ b → (is_whole p && lt highest64 p) ≡ false
    go true e =
        let z : eq p zero64 ≡ true = eq-transitive p t.power zero64 k.here k.there fz k.same.power ∙ e in
        ap (λ (b : Bool). is_whole p && b) (lt-eq-right highest64 p zero64 (T_of highest-finite) k.here fz z ∙ zero-small) ∙ and-false (is_whole p)
    go false e = ap (λ (q : Float). is_whole q && lt highest64 q) (k.same.exact e) ∙ s

came-small : {e : Bool} {ts : List Term} {u : Sum} → Came e ts u → AllNice ts → NoBigWhole (terms u)
unfolding terms AllNice NoBigWhole
came-small nothing a = tt
came-small (next {t = t} {p = p} {d} k c) a = rw (kept-some t p d a.0 k) (kept_small t p d k a.0.small, came-small c a.1)
came-small (extra b c) a = rw zero_is (came-small c a)

-- ---- the theorem

pub reads-back : ReadsBack
unfolding has_pair
reads-back flag s f =
    let l = listed 4 s f.good f.real f.powers f.small in
    let a = all_read flag l (rising 4 f.good l) (omega (arith, f.few)) in
    let r = read-list a.reads in
    let g = read-good a.list r.2 in
    let n = listed-nice l in
    record {
      list = a.list;
      written = a.written;
      t = a.to;
      handled = r.0;
      pairs = r.1;
      read = r.2;
      pair = pair-list flag l false end a.list a.written;
      back = record {
        same = came-terms a.came n;
        more = came-zeros a.came n ∙ a.extra;
        formula = record {
          good = g.good;
          room = g.room;
          real = came-real a.came;
          powers = came-powers a.came;
          few = omega (arith, f.few, came-few a.came n);
          small = came-small a.came n;
        };
        again = written-again l a.came false end;
      };
    }
