-- Laws of a sum that is handed over: it is refused, or taken and then answered. And what the entries do with a sum alone. Assumes nothing.
use Prim.Native.Nat.{ℕ, ◌+◌, ◌≤◌}
use native.Mathlib.Omega.{arith}
use mathlib.Core.Path.{◌≡◌, refl, sym, subst, ◌∙◌}
use mathlib.Core.List.{List}
use Rattle.cells.specs.Contract.Book.{Book}
use Rattle.limits.specs.declared.Refusal.{Refusal}
use Rattle.sums.specs.Tree.Sums.{Sum, size}
use Rattle.sums.specs.Tree.Good.{Good}
use Rattle.sums.specs.Contract.Lies.{Lies, Held}
use Rattle.std.specs.Prelude.{Result, Ok, Err}
use Rattle.sums.specs.Entry.Encoding.{encode_sum}
use Rattle.sums.specs.Entry.Taking.{Weighed}
use Rattle.sums.specs.Contract.Laid.{Laid}
use Rattle.cells.specs.Contract.Moves.{under}
use Rattle.arithmetic.specs.Add.Contract.Operands.{Source}
use Rattle.values.proofs.Taking.{not-both}
use Rattle.sums.proofs.bytes.Theorem.{good-taken, settled}
use Rattle.algebra.specs.declared.answer.Answer.{Answer}
use Rattle.algebra.specs.declared.answer.Answer.TheVariants as answer
use Rattle.algebra.specs.Answer.Making.{Made, Gives, OfBytes}
use Rattle.algebra.proofs.answer.Giving.{gives-refusal}
use Rattle.algebra.proofs.answer.Determined.{determined}

module _ {room : List ℕ → ℕ} {f : Sum → Made} {l : List ℕ} {t : Result ℕ Refusal} (w : Weighed l t) where
  pub bytes-refused : {q : Refusal} (out : List ℕ) → t ≡ Err q → OfBytes room f l out out (answer.Refused q 0)
  bytes-refused {q} out e =
      record {
        weight = t;
        weighed = w;
        refuses = λ p g. let z : p ≡ q = refusal-same (sym g ∙ e) in rw z (gives-refusal room q 0 out);
        takes = λ n g s d k. absurd (not-both e g);
      }
    where
      refusal-same : {p q : Refusal} → ◌≡◌ {A = Result ℕ Refusal} (Err p) (Err q) → p ≡ q
      refusal-same g = cc

  pub bytes-made : {n : ℕ} {b : Book} {out out' : List ℕ} {r : Answer} → t ≡ Ok n → Laid l b n
      → ((s : Sum) → Lies b 0 (0 + n) 4 s → Gives room (f s) out out' r) → OfBytes room f l out out' r
  bytes-made {n} {b} e d g =
      record {
        weight = t;
        weighed = w;
        refuses = λ q h. absurd (not-both h e);
        takes = λ m h s i k. g s (subst (λ z. Lies b 0 z 4 s) (omega arith) (d.every s i k));
      }

pub bytes-held : {l : List ℕ} {b : Book} {n : ℕ} → Laid l b n → (n ≤ 64) × Held b 0 (0 + n) 4
bytes-held {l} {b} {n} d = (d.few, (d.some.0, subst (λ z. Lies b 0 z 4 d.some.0) (omega arith) d.some.2))

-- the places from 64 on are apart from it
pub bytes-source : {l : List ℕ} {b : Book} {n : ℕ} → Laid l b n → Source b 0 n 64
bytes-source d = record { few = d.few; held = (bytes-held d).1; apart = under (let few = d.few in omega arith) }

-- ---- what a promise over a sum's bytes tells

-- of the bytes of a good sum, it is what is made of the sum
pub of-good : {room : List ℕ → ℕ} {f : Sum → Made} {out out' : List ℕ} {r : Answer} (s : Sum) → Good 4 s → 1 ≤ size s → size s ≤ 64 → OfBytes room f (encode_sum s) out out' r
    → Gives room (f s) out out' r
of-good s g some few p = p.takes (size s) (good-taken s p.weight g some few p.weighed) s refl g

-- any two answers that it allows are the same, and so is every byte of the output
pub bytes-determined : {room : List ℕ → ℕ} {f : Sum → Made} {l out out₁ out₂ : List ℕ} {r₁ r₂ : Answer} → OfBytes room f l out out₁ r₁
    → OfBytes room f l out out₂ r₂ → (r₁ ≡ r₂) × (out₁ ≡ out₂)
bytes-determined {room} {f} {l} {out} {out₁} {out₂} {r₁} {r₂} p q = go p.weight refl
  where
    same : q.weight ≡ p.weight
    same = settled l q.weight p.weight q.weighed p.weighed

    go : (t : Result ℕ Refusal) → p.weight ≡ t → (r₁ ≡ r₂) × (out₁ ≡ out₂)
    go (Err z) e = determined (p.refuses z e) (q.refuses z (same ∙ e))
    go (Ok n) e =
        let s = (p.weighed.good n).0 e in
        determined (p.takes n e s.0 s.1 s.3) (q.takes n (same ∙ e) s.0 s.1 s.3)
