-- Laws of `read`: the sum that it writes is good, and a refusal changes nothing. Assumes nothing.
use Prim.Native.Nat.{ℕ}
use native.Mathlib.Omega.{arith}
use mathlib.Core.Path.{◌≡◌, refl, sym, ◌∙◌}
use mathlib.Core.Bool.{Bool}
use mathlib.Core.List.{List}
use Rattle.formats.specs.Rules.{Verdict}
use Rattle.limits.specs.declared.Refusal.{Refusal}
use Rattle.sums.specs.Tree.Sums.{Sum, size}
use Rattle.arithmetic.specs.Singles.{GoodSum}
use Rattle.formats.specs.Rules as rules
use Rattle.formats.specs.Tree.{Nodes, parse}
use Rattle.std.specs.Prelude.{Result, Ok, Err}
use Rattle.sums.specs.Entry.Encoding.{entries_in, encode_sum}
use Rattle.sums.specs.Entry.Taking.{Weighed}
use Rattle.sums.proofs.bytes.Theorem.{good-taken}
use Rattle.stack.proofs.Sizes.{good-some}
use Rattle.modifiers.specs.Reading.{Read, done, read_nodes}
use Rattle.modifiers.proofs.Good.{read-good}
use Rattle.algebra.specs.declared.answer.Answer.{Answer}
use Rattle.algebra.specs.declared.answer.Answer.TheVariants as given
use Rattle.algebra.specs.Answer.Promises.{Promise}
use Rattle.algebra.specs.Answer.Making.{answered, Gives}
use Rattle.algebra.proofs.answer.Told as told
use Rattle.algebra.specs.Reading.{by_verdict, read_list, made_of, flag_of, pairs_of, flagged, answer_of, bytes_of}
use Rattle.algebra.specs.declared.ReadAnswer.{ReadAnswer}
use Rattle.algebra.specs.declared.ReadAnswer.TheVariants as answer

-- ---- the sum that is read

by-good : (v : Verdict) (ns : Nodes) {s : Sum} {c h : Bool} {k : ℕ} → by_verdict v (read_nodes ns) ≡ done s c h k → GoodSum s
by-good (Ok tt) ns e = read-good ns e
by-good (Err q) ns e = let z : ◌≡◌ {A = ℕ} 0 1 = cc in absurd (omega arith)

-- is a good one
pub sum-good : (l : List ℕ) {s : Sum} {c h : Bool} {k : ℕ} → read_list l ≡ done s c h k → GoodSum s
unfolding read_list
sum-good l e = by-good (rules.verdict l) (parse l) e

-- so what takes sums never refuses its bytes
pub sum-taken : (l : List ℕ) {s : Sum} {c h : Bool} {k : ℕ} (t : Result ℕ Refusal) → read_list l ≡ done s c h k → Weighed (encode_sum s) t → t ≡ Ok (size s)
sum-taken l {s} t e w = let g = sum-good l e in good-taken s t g.good (good-some g) g.room w

-- ---- the answer, its flag and its pairs

-- the answer without them is that of what is made
pub record Unflagged (x : Read) (out out' : List ℕ) (r : ReadAnswer) : Type 0 where
  pub answer : Answer
  pub is : r ≡ flagged (flag_of x) (pairs_of x) answer
  pub gives : Gives entries_in (made_of x) out out' answer

pub unflagged : (x : Read) {out out' : List ℕ} {r : ReadAnswer} → Promise (answer_of x) (bytes_of x) out out' r → Unflagged x out out' r
unflagged x {out} p = record { answer = answered (made_of x) (entries_in out); is = p.answered; gives = record { answered = refl; written = p.written } }

-- which answers have them
pub sum-flagged : {n k : ℕ} {c : Bool} (d : Bool) (m : ℕ) (a : Answer) → answer.Sum n c k ≡ flagged d m a → (a ≡ given.Done n) × (d ≡ c) × (k ≡ m)
sum-flagged d m (given.Done i) e = (cc, cc, cc)
sum-flagged d m (given.Refused q at) e = let z : ◌≡◌ {A = ℕ} 0 1 = cc in absurd (omega arith)

pub refusal-flagged : {q : Refusal} {at : ℕ} (d : Bool) (k : ℕ) (a : Answer) → answer.Refused q at ≡ flagged d k a → a ≡ given.Refused q at
refusal-flagged d k (given.Done m) e = let z : ◌≡◌ {A = ℕ} 0 1 = cc in absurd (omega arith)
refusal-flagged d k (given.Refused p i) e = cc

-- a refusal changes no byte
pub refusal-quiet : (x : Read) {out out' : List ℕ} {r : ReadAnswer} {q : Refusal} {at : ℕ} → Promise (answer_of x) (bytes_of x) out out' r → r ≡ answer.Refused q at → out' ≡ out
refusal-quiet x p e = let u = unflagged x p in told.refusal-quiet entries_in (made_of x) u.gives (refusal-flagged (flag_of x) (pairs_of x) u.answer (sym e ∙ u.is))
