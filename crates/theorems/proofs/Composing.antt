-- The entries compose: derivative is read, derive and write, each handed the bytes that the one before wrote; integral likewise, and both with the second writer. Assumes nothing.
use Prim.Native.Nat.{ℕ, ◌*◌, ◌≤◌}
use native.Mathlib.Omega.{arith}
use mathlib.Core.Path.{◌≡◌, refl, sym, ap, subst, ◌∙◌}
use mathlib.Core.Bool.{Bool}
use mathlib.Core.List.{List}
use lib.ListN.{take}
use lib.Seq.{sets}
use Rattle.limits.specs.declared.Refusal.{Refusal}
use Rattle.limits.specs.declared.Refusal.TheVariants.{OutputRoom}
use Rattle.sums.specs.Tree.Sums.{Sum}
use Rattle.sums.specs.Tree.Map.{Outcome, sum}
use Rattle.arithmetic.specs.Singles.{GoodSum}
use Rattle.stack.proofs.Sizes.{good-some}
use Rattle.formats.specs.Tree.{records_in}
use Rattle.sums.specs.Entry.Encoding.{entries_in, encode_sum}
use Rattle.sums.proofs.bytes.Laws.{length-sum}
use Rattle.modifiers.specs.Reading.{Read, done, refused_at}
use Rattle.calculus.specs.Derivative as derivatives
use Rattle.calculus.specs.Integral as integrals
use Rattle.calculus.proofs.Good.{derive-good, integrate-good}
use Rattle.algebra.specs.declared.answer.Answer.{Answer}
use Rattle.algebra.specs.declared.answer.Answer.TheVariants as given
use Rattle.algebra.specs.Answer.Making as making
use Rattle.algebra.specs.Answer.Making.{
  Made,
  of_outcome,
  of_sum,
  write,
  write_faithful,
  derive,
  integrate,
  derive_and_write,
  integrate_and_write,
  derive_and_write_faithful,
  integrate_and_write_faithful,
  Gives,
  OfBytes,
}
use Rattle.algebra.proofs.answer.Giving.{gives-refusal}
use Rattle.algebra.proofs.answer.Taking.{of-good}
use Rattle.algebra.proofs.answer.Told.{Success, success, refusal, not_made, refused-same, sum_same, SumMade, sum-made, refused-outcome, first-bytes}
use Rattle.algebra.specs.Reading.{read_list, made_of, flag_of, pairs_of}
use Rattle.algebra.specs.Entries.{after_read, derivative, integral, derivative_faithful, integral_faithful}
use Rattle.algebra.specs.declared.ReadAnswer.TheVariants as answer
use Rattle.theorems.specs.Composing.{ReadGives, ReadTold, Composes, DerivativeComposes, IntegralComposes, DerivativeFaithfulComposes, IntegralFaithfulComposes}
use Rattle.theorems.proofs.Reading.{sum-good, unflagged, sum-flagged, refusal-flagged}

-- ---- what `read` tells

sum-read : (x : Read) {n k : ℕ} {c : Bool} {bytes out' : List ℕ} (out : List ℕ) → made_of x ≡ making.made n bytes → flag_of x ≡ c → k ≡ pairs_of x → n ≤ entries_in out
    → out' ≡ sets out 0 bytes → ReadTold x n c k out'
sum-read (done s d h m) {n} out e f p fits w =
    let z = sum_same s e in
    record {
      s = s;
      handled = h;
      pairs = m;
      is = rw f refl;
      told = p;
      many = z.0;
      bytes = ap (take (32 * n)) (w ∙ ap (sets out 0) z.1) ∙ first-bytes (encode_sum s) out (32 * n) (omega (arith, z.0, length-sum s)) (omega (arith, fits));
    }
sum-read (refused_at q at h) out e f p fits w = absurd (not_made e)

pub read_told : (x : Read) {out out' : List ℕ} {n k : ℕ} {c : Bool} → ReadGives x out out' (answer.Sum n c k) → ReadTold x n c k out'
read_told x {out} {out'} p =
    let u = unflagged x p in
    let f = sum-flagged (flag_of x) (pairs_of x) u.answer u.is in
    let o = success entries_in (made_of x) (subst (λ (a : Answer). Gives entries_in (made_of x) out out' a) f.0 u.gives) in
    sum-read x out o.is f.1 f.2 o.fits o.written

refusal-read : (x : Read) {q : Refusal} {at : ℕ} → made_of x ≡ making.refused_at q at → (h : Bool) × (x ≡ refused_at q at h)
refusal-read (refused_at p i h) e = let z = refused-same e in (h, rw (z.0, z.1) refl)
refusal-read (done s c h k) e = absurd (not_made (sym e))

pub read-refusal : (x : Read) {out out' : List ℕ} {q : Refusal} {at : ℕ} → ReadGives x out out' (answer.Refused q at) → (q ≡ OutputRoom → ⊥)
    → (h : Bool) × (x ≡ refused_at q at h)
read-refusal x {out} {out'} p n =
    let u = unflagged x p in
    refusal-read x (refusal entries_in (made_of x) (subst (λ (a : Answer). Gives entries_in (made_of x) out out' a) (refusal-flagged (flag_of x) (pairs_of x) u.answer u.is) u.gives) n)

-- reading refused, and not for want of room
after-refusal : (l : List ℕ) {out₁ out₁' : List ℕ} {q : Refusal} {at : ℕ} (f : Bool → Sum → Made) (out : List ℕ)
    → ReadGives (read_list l) out₁ out₁' (answer.Refused q at) → (q ≡ OutputRoom → ⊥)
    → Gives records_in (after_read (read_list l) f) out out (given.Refused q at)
after-refusal l {out₁} {out₁'} {q} {at} f out p n = let w = read-refusal (read_list l) p n in rw w.1 (gives-refusal records_in q at out)

-- ---- through bytes

-- g derives or integrates: of a good sum it makes a good one, which the writer then writes
module _ (writer : Bool → Sum → Made) (g : Sum → Outcome) (keeps : (s d : Sum) → GoodSum s → g s ≡ sum d → GoodSum d) (l : List ℕ) {out₁ out₁' : List ℕ} where
  module _ {n k : ℕ} {c : Bool} (p : ReadGives (read_list l) out₁ out₁' (answer.Sum n c k)) (out₂ out₂' : List ℕ) where
    told : ReadTold (read_list l) n c k out₁'
    told = read_told (read_list l) p

    good : GoodSum told.s
    good = sum-good l told.is

    of-told : {r : Answer} → OfBytes entries_in (λ s. of_outcome (g s) of_sum) (take (32 * n) out₁') out₂ out₂' r → Gives entries_in (of_outcome (g told.s) of_sum) out₂ out₂' r
    of-told {r} q = of-good told.s good.good (good-some good) good.room (subst (λ z. OfBytes entries_in (λ s. of_outcome (g s) of_sum) z out₂ out₂' r) told.bytes q)

    -- g refused, and not for want of room
    composed-refusal : {q : Refusal} {at : ℕ} (out : List ℕ)
        → OfBytes entries_in (λ s. of_outcome (g s) of_sum) (take (32 * n) out₁') out₂ out₂' (given.Refused q at) → (q ≡ OutputRoom → ⊥)
        → Gives records_in (after_read (read_list l) (λ f s. of_outcome (g s) (writer f))) out out (given.Refused q at)
    composed-refusal {q} {at} out b m =
        let e = refusal entries_in (of_outcome (g told.s) of_sum) (of-told b) m in
        let z = refused-outcome (g told.s) (writer c) (λ s i w. absurd (not_made (sym w))) e in
        rw told.is (rw z (gives-refusal records_in q at out))

    -- g wrote m entries
    module _ {m : ℕ} (b : OfBytes entries_in (λ s. of_outcome (g s) of_sum) (take (32 * n) out₁') out₂ out₂' (given.Done m)) where
      made : Success (of_outcome (g told.s) of_sum) m (entries_in out₂) out₂ out₂'
      made = success entries_in (of_outcome (g told.s) of_sum) (of-told b)

      formed : SumMade (g told.s) m made.bytes
      formed = sum-made (g told.s) made.is

      kept : GoodSum formed.s
      kept = keeps told.s formed.s good formed.is

      bytes : take (32 * m) out₂' ≡ encode_sum formed.s
      bytes =
          ap (take (32 * m)) (made.written ∙ ap (sets out₂ 0) formed.these)
          ∙ first-bytes (encode_sum formed.s) out₂ (32 * m) (omega (arith, formed.many, length-sum formed.s)) (omega (arith, made.fits))

      -- what the writer answers to those bytes is what comes of the list in one
      composed : {out out' : List ℕ} {r : Answer} → OfBytes records_in (writer c) (take (32 * m) out₂') out out' r
          → Gives records_in (after_read (read_list l) (λ f s. of_outcome (g s) (writer f))) out out' r
      composed {out} {out'} {r} w =
          let k = of-good formed.s kept.good (good-some kept) kept.room (subst (λ z. OfBytes records_in (writer c) z out out' r) bytes w) in
          rw told.is (rw formed.is k)

-- ---- derivative and integral

composes : (writer : Bool → Sum → Made) (g : Sum → Outcome) → ((s d : Sum) → GoodSum s → g s ≡ sum d → GoodSum d)
    → Composes (λ s. of_outcome (g s) of_sum) writer (λ l. after_read (read_list l) (λ f s. of_outcome (g s) (writer f)))
composes writer g keeps = record {
  writes = λ l out₁ out₁' out₂ out₂' out out' n m k c r p b w. composed writer g keeps l p out₂ out₂' b w;
  refuses = λ l out₁ out₁' out₂ out₂' out n k c q at d p b. composed-refusal writer g keeps l p out₂ out₂' out b d;
  unread = λ l out₁ out₁' out q at k p. after-refusal l (λ f s. of_outcome (g s) (writer f)) out p k;
}

pub derivative-composes : DerivativeComposes
unfolding derive derive_and_write derivative
derivative-composes = composes write derivatives.derive (λ s d g e. derive-good s g e)

pub integral-composes : IntegralComposes
unfolding integrate integrate_and_write integral
integral-composes = composes write integrals.integrate (λ s d g e. integrate-good s g e)

pub derivative-faithful-composes : DerivativeFaithfulComposes
unfolding derive derive_and_write_faithful derivative_faithful
derivative-faithful-composes = composes write_faithful derivatives.derive (λ s d g e. derive-good s g e)

pub integral-faithful-composes : IntegralFaithfulComposes
unfolding integrate integrate_and_write_faithful integral_faithful
integral-faithful-composes = composes write_faithful integrals.integrate (λ s d g e. integrate-good s g e)
