-- Laws of a sum that is handed over for its value: it is refused, or taken and then answered. Assumes nothing.
use Prim.Native.Nat.{ℕ, ◌≤◌}
use native.Mathlib.Omega.{arith}
use mathlib.Core.Path.{◌≡◌, refl, sym, ap, subst, ◌∙◌}
use mathlib.Core.Bool.{Bool, true, false}
use mathlib.Core.List.{List}
use mathlib.Core.Logic.{◌⊎◌, inl, inr}
use lib.Ieee.{Float}
use lib.Ieee.Scale.{finite}
use Rattle.limits.specs.declared.Refusal.{Refusal}
use Rattle.limits.specs.declared.Refusal.TheVariants.{BadRecord, TooDeep, NeedsMath, NotFinite}
use Rattle.limits.specs.Refusals.{refusal_no}
use Rattle.cells.specs.Contract.Book.{Book}
use Rattle.sums.specs.Tree.Sums.{Sum, size}
use Rattle.sums.specs.Tree.Good.{Good}
use Rattle.sums.specs.Contract.Lies.{Lies, Held}
use Rattle.sums.specs.Contract.Laid.{Laid}
use Rattle.std.specs.Prelude.{Result, Ok, Err}
use Rattle.sums.specs.Entry.Encoding.{encode_sum}
use Rattle.sums.specs.Entry.Taking.{Weighed}
use Rattle.sums.proofs.bytes.Theorem.{settled, only, weighed-good}
use Rattle.sums.proofs.bytes.Laws.{encode-unique}
use Rattle.values.specs.Value.{value}
use Rattle.values.specs.ValueOf.{all_powers, all_real, powers_of, if_so, value_of, ValueOfBytes, value_numbers}

-- what is taken isn't refused
pub not-both : {t : Result ℕ Refusal} {q : Refusal} {n : ℕ} → t ≡ Err q → t ≡ Ok n → ⊥
not-both e f = let z : ◌≡◌ {A = ℕ} 0 1 = cc in omega arith

same-refusal : {p q : Refusal} → ◌≡◌ {A = Result ℕ Refusal} (Err p) (Err q) → ◌≡◌ {A = Result Float Refusal} (Err p) (Err q)
same-refusal g = cc

module _ {l : List ℕ} {x : Float} {t : Result ℕ Refusal} (w : Weighed l t) where
  pub value-refused : {q : Refusal} → t ≡ Err q → ValueOfBytes l x (Err q)
  value-refused e = record { weight = t; weighed = w; refuses = λ p g. same-refusal (sym e ∙ g); takes = λ n g s i k. absurd (not-both e g) }

  pub value_taken : {n : ℕ} {b : Book} {r : Result Float Refusal} → t ≡ Ok n → Laid l b n → ((s : Sum) → Lies b 0 n 4 s → r ≡ value_of s x) → ValueOfBytes l x r
  value_taken e d f = record { weight = t; weighed = w; refuses = λ q g. absurd (not-both g e); takes = λ m g s i k. f s (d.every s i k) }

-- the value of a sum whose bytes these are
pub value-known : {l : List ℕ} {x : Float} {r : Result Float Refusal} (s : Sum) → encode_sum s ≡ l → Good 4 s → 1 ≤ size s → size s ≤ 64 → r ≡ value_of s x → ValueOfBytes l x r
value-known {l} {x} s e g some few v = record {
  weight = Ok (size s);
  weighed = subst (λ (m : List ℕ). Weighed m (Ok (size s))) e (weighed-good s g some few);
  refuses = λ q h. absurd (not-both h refl);
  takes = λ n h u d k. v ∙ ap (λ (z : Sum). value_of z x) (encode-unique 4 4 s u g k few (e ∙ sym d));
}

-- a sum lies where it was taken in
pub value-held : {l : List ℕ} {b : Book} {n : ℕ} → Laid l b n → Held b 0 n 4
value-held d = (d.some.0, d.some.2)

-- any two answers that the promise allows are the same
pub value-determined : {l : List ℕ} {x : Float} {r₁ r₂ : Result Float Refusal} → ValueOfBytes l x r₁ → ValueOfBytes l x r₂ → r₁ ≡ r₂
value-determined {l} {x} {r₁} {r₂} p q = go p.weight refl
  where
    same : q.weight ≡ p.weight
    same = settled l q.weight p.weight q.weighed p.weighed

    go : (t : Result ℕ Refusal) → p.weight ≡ t → r₁ ≡ r₂
    go (Err z) e = p.refuses z e ∙ sym (q.refuses z (same ∙ e))
    go (Ok n) e =
        let s = (p.weighed.good n).0 e in
        p.takes n e s.0 s.1 s.3 ∙ sym (q.takes n (same ∙ e) s.0 s.1 s.3)

-- ---- which refusals there are: 11, 13, 14 and 15

of-sum : (a b c d : Bool) (v : Float) → (value_numbers (if_so a NotFinite (if_so b NeedsMath (if_so c NotFinite (if_so d NotFinite (Ok v)))))).number ≤ 15
of-sum false b c d v = omega arith
of-sum true false c d v = omega arith
of-sum true true false d v = omega arith
of-sum true true true false v = omega arith
of-sum true true true true v = omega arith

weighed-number : (q : Refusal) → (q ≡ TooDeep) ⊎ (q ≡ BadRecord) → refusal_no q ≤ 15
weighed-number q (inl e) = let z : refusal_no q ≡ 13 = ap refusal_no e in omega arith
weighed-number q (inr e) = let z : refusal_no q ≡ 11 = ap refusal_no e in omega arith

pub value-number : {l : List ℕ} {x : Float} {r : Result Float Refusal} → ValueOfBytes l x r → (value_numbers r).number ≤ 15
unfolding value_of
value-number {l} {x} {r} p = go p.weight refl
  where
    number_of : Result Float Refusal → Type 0
    number_of a = (value_numbers a).number ≤ 15

    of-valued : (s : Sum) → number_of (value_of s x)
    of-valued s = let v = value x (powers_of s) in of-sum (finite x) (all_powers s) (all_real s) (finite v) v

    go : (t : Result ℕ Refusal) → p.weight ≡ t → number_of r
    go (Err q) e = subst number_of (sym (p.refuses q e)) (weighed-number q (only l q (subst (Weighed l) e p.weighed)))
    go (Ok n) e =
        let s = (p.weighed.good n).0 e in
        subst number_of (sym (p.takes n e s.0 s.1 s.3)) (of-valued s.0)
