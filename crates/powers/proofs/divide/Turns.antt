-- A step for each entry of a sum, which may write more places than those of the result: what is left decides. Assumes nothing.
use Prim.Native.Nat.{ℕ, ◌+◌, ◌-◌, ◌≤◌, ◌<◌}
use native.Mathlib.Omega.{arith}
use mathlib.Core.Path.{◌≡◌, refl, sym, ap, ◌∙◌}
use mathlib.Core.Bool.{Bool, true}
use Rattle.cells.specs.declared.Entry.{Entry}
use Rattle.cells.specs.Contract.Book.{Book, at}
use Rattle.cells.specs.Contract.Moves.{Kept}
use Rattle.limits.specs.declared.Refusal.{Refusal}
use Rattle.sums.specs.Tree.Sums.{Sum, entry}
use Rattle.sums.specs.Tree.Map.{Outcome, each_into}
use Rattle.sums.proofs.tree.Keeps.{each-sum}
use Rattle.std.specs.Prelude.{Result, Ok, Err}
use Rattle.sums.specs.Contract.Lies.{Lies, Agrees}
use Rattle.arithmetic.proofs.add.Lying.{Clear, clear-part, lies-clear, agreed-done}
use Rattle.arithmetic.proofs.add.Folding.{Folding, here, stopped}

-- nothing is asked of the entries
abbrev pub any : Sum → Bool
any v = true

-- a step answered r, and left the book b', where the cells from lo up to hi may be others: on to the rest
pub turned : (f : Entry → Sum → Sum → Outcome) (b b' : Book) (p n q e left lo hi : ℕ) (s v : Sum) (x : Entry) (r : Result ℕ Refusal) (m : ℕ)
    → Folding f any b p n q e left s v → x ≡ at b q → q < e
    → ((i u : Sum) → Lies b (q + 1) (q + 1 + x.inside) (left - 1) i → Lies b p (p + n) 4 u → Agrees r b' p (f x i u))
    → Kept b b' lo hi → Clear q e lo hi → r ≡ Ok m → (m ≤ 64) × Folding f any b' p m (q + 1 + x.inside) e left s v
turned f b b' p n q e left lo hi s v x r m w ex l call kept apart er =
    let k = here x w ex l in
    let a = agreed-done b' p m r (f x k.inner w.s') (call k.inner w.s' k.lies-inner w.lies-s) er in
    let whole = ap (λ (j : ℕ). entry x.kind j x.num x.coef) (sym k.inside) in
    let step = ap (λ (y : Entry). f y k.inner w.s') whole ∙ a.is in (
      a.few,
      record {
        s' = a.s;
        v' = k.rest;
        lies-s = a.lies;
        lies-v = lies-clear kept (clear-part (omega arith) (omega arith) apart) k.lies-rest;
        same = w.same ∙ ap (each_into f w.s') k.is ∙ each-sum f _ _ _ _ _ _ _ step;
        able = λ z. refl;
      },
    )

-- it was a refusal, which ends it
pub halted : (f : Entry → Sum → Sum → Outcome) (b b' : Book) (p n q e left : ℕ) (s v : Sum) (x : Entry) (r : Result ℕ Refusal) {z : Refusal}
    → Folding f any b p n q e left s v → x ≡ at b q → q < e
    → ((i u : Sum) → Lies b (q + 1) (q + 1 + x.inside) (left - 1) i → Lies b p (p + n) 4 u → Agrees r b' p (f x i u))
    → r ≡ Err z → Agrees (Err z) b' p (each_into f s v)
halted f b b' p n q e left s v x r {z} w ex l call er = stopped f any (λ k i. true) (λ k p i c u. refl) b b' p n q e left s v x r w ex l call z b' er
