-- What an answer tells of what was made, and what is then in the output. Assumes nothing.
use Prim.Native.Nat.{ℕ, ◌+◌, ◌≤◌}
use native.Mathlib.Omega.{arith}
use mathlib.Core.Path.{◌≡◌, refl, sym, ap, ◌∙◌}
use mathlib.Core.Bool.{Bool, true, false, cond}
use mathlib.Core.List.{List}
use lib.Dec.{leb}
use lib.ListN.{length, take}
use lib.Seq.{sets}
use borrow.Author.Tests.{leb-true}
use Rattle.limits.specs.declared.Refusal.{Refusal}
use Rattle.limits.specs.declared.Refusal.TheVariants.{OutputRoom}
use Rattle.sums.specs.Tree.Sums.{Sum, size}
use Rattle.sums.specs.Tree.Map.{Outcome, sum, refused}
use Rattle.formats.specs.Tree as tree
use Rattle.formats.proofs.record.Bytes.{take-sets}
use Rattle.std.specs.Prelude.{Result, Ok, Err}
use Rattle.sums.specs.Entry.Encoding.{encode_sum}
use Rattle.writing.specs.Draft.Writing as writing
use Rattle.algebra.specs.declared.answer.Answer.{Answer}
use Rattle.algebra.specs.declared.answer.Answer.TheVariants as answer
use Rattle.algebra.specs.Answer.Making.{Made, made, refused_at, of_outcome, of_sum, of_list, Gives, OfBytes}

-- n entries or records were made, and their bytes are the output's first
pub record Success (m : Made) (n : ℕ) (room : ℕ) (out out' : List ℕ) : Type 0 where
  pub bytes : List ℕ
  pub is : m ≡ made n bytes
  pub fits : n ≤ room
  pub written : out' ≡ sets out 0 bytes

same_count : {n k : ℕ} → answer.Done n ≡ answer.Done k → n ≡ k
same_count e = cc

not_done : {n at : ℕ} {q : Refusal} → answer.Done n ≡ answer.Refused q at → ⊥
not_done e = let z : ◌≡◌ {A = ℕ} 0 1 = cc in omega arith

pub success : (room : List ℕ → ℕ) (m : Made) {out out' : List ℕ} {n : ℕ} → Gives room m out out' (answer.Done n) → Success m n (room out) out out'
success room (refused_at q at) g = absurd (not_done g.answered)
success room (made k bytes) {out} {out'} {n} g = go (leb k (room out)) refl g.answered g.written
  where
    go : (b : Bool) → leb k (room out) ≡ b → answer.Done n ≡ cond b (answer.Done k) (answer.Refused OutputRoom 0) → out' ≡ cond b (sets out 0 bytes) out → Success (made k bytes) n (room out) out out'
    go true t e w = let z = same_count e in record { bytes = bytes; is = rw z refl; fits = omega (arith, leb-true k (room out) t); written = w }
    go false t e w = absurd (not_done e)

same-refusal : {p q : Refusal} {i j : ℕ} → answer.Refused p i ≡ answer.Refused q j → (p ≡ q) × (i ≡ j)
same-refusal e = (cc, cc)

-- it was refused, and not for want of room
pub refusal : (room : List ℕ → ℕ) (m : Made) {out out' : List ℕ} {q : Refusal} {at : ℕ} → Gives room m out out' (answer.Refused q at) → (q ≡ OutputRoom → ⊥) → m ≡ refused_at q at
refusal room (refused_at p i) g n = let e = same-refusal g.answered in rw (e.0, e.1) refl
refusal room (made k bytes) {out} {out'} {q} {at} g n = go (leb k (room out)) g.answered
  where
    go : (b : Bool) → answer.Refused q at ≡ cond b (answer.Done k) (answer.Refused OutputRoom 0) → made k bytes ≡ refused_at q at
    go true e = absurd (not_done (sym e))
    go false e = absurd (n (same-refusal e).0)

-- ---- the bytes of a success are a sum's, or a list's

made-same : {n k : ℕ} {a b : List ℕ} → made n a ≡ made k b → (n ≡ k) × (a ≡ b)
made-same e = (cc, cc)

pub not_made : {n at : ℕ} {q : Refusal} {a : List ℕ} → refused_at q at ≡ made n a → ⊥
not_made e = let z : ◌≡◌ {A = ℕ} 0 1 = cc in omega arith

pub refused-same : {p q : Refusal} {i j : ℕ} → refused_at p i ≡ refused_at q j → (p ≡ q) × (i ≡ j)
refused-same e = (cc, cc)

pub sum_same : (s : Sum) {n : ℕ} {bytes : List ℕ} → of_sum s ≡ made n bytes → (n ≡ size s) × (bytes ≡ encode_sum s)
sum_same s e = let z = made-same e in (sym z.0, sym z.1)

pub record SumMade (o : Outcome) (n : ℕ) (bytes : List ℕ) : Type 0 where
  pub s : Sum
  pub is : o ≡ sum s
  pub many : n ≡ size s
  pub these : bytes ≡ encode_sum s

pub sum-made : (o : Outcome) {n : ℕ} {bytes : List ℕ} → of_outcome o of_sum ≡ made n bytes → SumMade o n bytes
sum-made (sum s) e = let z = sum_same s e in record { s = s; is = refl; many = z.0; these = z.1 }
sum-made (refused q) e = absurd (not_made e)

pub record ListMade (w : writing.Written) (n : ℕ) (bytes : List ℕ) : Type 0 where
  pub ns : tree.Nodes
  pub is : w ≡ writing.wrote ns
  pub many : n ≡ tree.size ns
  pub these : bytes ≡ tree.encode ns

pub list-made : (w : writing.Written) {n : ℕ} {bytes : List ℕ} → of_list w ≡ made n bytes → ListMade w n bytes
list-made (writing.wrote ns) e = let z = made-same e in record { ns = ns; is = refl; many = sym z.0; these = sym z.1 }
list-made (writing.refused q) e = absurd (not_made e)

pub list-refused : (w : writing.Written) {q : Refusal} {at : ℕ} → of_list w ≡ refused_at q at → w ≡ writing.refused q
list-refused (writing.wrote ns) e = absurd (not_made (sym e))
list-refused (writing.refused p) e = ap writing.refused (refused-same e).0

-- a refusal of what was formed
pub refused-outcome : (o : Outcome) {f : Sum → Made} {q : Refusal} {at : ℕ} → (g : Sum → Made) → ((s : Sum) → o ≡ sum s → f s ≡ refused_at q at → g s ≡ refused_at q at)
    → of_outcome o f ≡ refused_at q at → of_outcome o g ≡ refused_at q at
refused-outcome (sum s) g h e = h s refl e
refused-outcome (refused p) g h e = e

-- the first bytes of the output are those written
pub first-bytes : (bytes out : List ℕ) (k : ℕ) → k ≡ length bytes → k ≤ length out → take k (sets out 0 bytes) ≡ bytes
first-bytes bytes out k e l = let z : k ≡ 0 + length bytes = omega (arith, e) in ap (λ (n : ℕ). take n (sets out 0 bytes)) z ∙ take-sets bytes out 0 (omega (arith, e))

-- ---- a refusal changes no byte

pub refusal-quiet : (room : List ℕ → ℕ) (m : Made) {out out' : List ℕ} {a : Answer} {q : Refusal} {at : ℕ} → Gives room m out out' a → a ≡ answer.Refused q at → out' ≡ out
refusal-quiet room (refused_at p i) g e = g.written
refusal-quiet room (made k bytes) {out} {out'} {a} {q} {at} g e = go (leb k (room out)) (sym e ∙ g.answered) g.written
  where
    go : (b : Bool) → answer.Refused q at ≡ cond b (answer.Done k) (answer.Refused OutputRoom 0) → out' ≡ cond b (sets out 0 bytes) out → out' ≡ out
    go true d w = absurd (not_done (sym d))
    go false d w = w

pub bytes-quiet : {room : List ℕ → ℕ} {f : Sum → Made} {l out out' : List ℕ} {a : Answer} {q : Refusal} {at : ℕ} → OfBytes room f l out out' a → a ≡ answer.Refused q at → out' ≡ out
bytes-quiet {room} {f} {l} {out} {out'} {a} p e = go p.weight refl
  where
    go : (t : Result ℕ Refusal) → p.weight ≡ t → out' ≡ out
    go (Err z) i = refusal-quiet room (refused_at z 0) (p.refuses z i) e
    go (Ok n) i = let s = (p.weighed.good n).0 i in refusal-quiet room (f s.0) (p.takes n i s.0 s.1 s.3) e
