-- A step for each entry of a sum, which forms a result in the same book, apart from it: what is left decides. Assumes nothing.
use Prim.Native.Nat.{ℕ, ◌+◌, ◌-◌, ◌≤◌, ◌<◌}
use native.Mathlib.Omega.{arith}
use mathlib.Core.Path.{◌≡◌, refl, sym, ap, ◌∙◌}
use mathlib.Core.Bool.{Bool, true, false, ◌&&◌}
use lib.Ieee.{Float}
use Rattle.numbers.specs.declared.complex.Complex.{Complex}
use Rattle.cells.specs.declared.Entry.{Entry}
use Rattle.cells.specs.Contract.Book.{Book, at}
use Rattle.cells.specs.Contract.Moves.{Kept}
use Rattle.limits.specs.declared.Refusal.{Refusal}
use Rattle.sums.specs.declared.tree.Merge.TheVariants.{Add}
use Rattle.sums.specs.Tree.Sums.{Sum, and, size, entry}
use Rattle.sums.specs.Tree.Map.{Outcome, formed, each_into}
use Rattle.arithmetic.specs.declared.Change.{Change}
use Rattle.arithmetic.specs.Adding.{changed}
use Rattle.arithmetic.specs.Singles.{with_coef}
use Rattle.sums.proofs.tree.Keeps.{each_none, each-sum, each-refused}
use Rattle.std.specs.Prelude.{Result, Ok, Err}
use Rattle.sums.specs.Contract.Lies.{Lies, Agrees}
use Rattle.sums.proofs.order.Walk.{Next, next, lies-none}
use Rattle.arithmetic.proofs.add.Lying.{Clear, clear-part, lies-clear, agreed-done, agreed-refused, agree-done, agree-refused}

-- both of two tests passed
pub both : (a b : Bool) → a && b ≡ true → (a ≡ true) × (b ≡ true)
both true b h = (refl, h)
both false b h = (h, cc)

-- nothing is asked of the entries
abbrev pub any : Sum → Bool
any v = true

-- an entry's coefficient is changed, and it is added
abbrev pub added : Change → Entry → Sum → Sum → Outcome
added how x u v = formed Add (with_coef x (changed how x.coef)) u v

-- so far s' was formed, n cells from p on, and v' is left of v, from q on; the test h of v holds of what is left
pub record Folding (f : Entry → Sum → Sum → Outcome) (h : Sum → Bool) (b : Book) (p n q e left : ℕ) (s v : Sum) : Type 0 where
  pub s' : Sum
  pub v' : Sum
  pub lies-s : Lies b p (p + n) 4 s'
  pub lies-v : Lies b q e left v'
  pub same : each_into f s v ≡ each_into f s' v'
  pub able : h v ≡ true → h v' ≡ true

pub outset : (f : Entry → Sum → Sum → Outcome) (h : Sum → Bool) {b : Book} {p n q e left : ℕ} {s v : Sum} → Lies b p (p + n) 4 s → Lies b q e left v → Folding f h b p n q e left s v
outset f h {s = s} {v = v} l k = record { s' = s; v' = v; lies-s = l; lies-v = k; same = refl; able = λ a. a }

-- the entry at q is the next, x
pub here : {f : Entry → Sum → Sum → Outcome} {h : Sum → Bool} {b : Book} {p n q e left : ℕ} {s v : Sum} (x : Entry) (w : Folding f h b p n q e left s v) → x ≡ at b q → q < e
    → Next b q e left w.v' x
here x w ex l = next _ _ _ _ w.v' x ex w.lies-v l

module _ (f : Entry → Sum → Sum → Outcome) (h : Sum → Bool) (g : ℕ → Sum → Bool)
    (law : (k : ℕ) (p : Float) (i : Sum) (c : Complex) (u : Sum) → h (and k p i c u) ≡ g k i && h u) where
  -- the test of the entry and of the rest
  pub tests : {b : Book} {p n q e left : ℕ} {s v : Sum} {x : Entry} (w : Folding f h b p n q e left s v) (k : Next b q e left w.v' x) → h v ≡ true
      → (g x.kind k.inner ≡ true) × (h k.rest ≡ true)
  tests {x = x} w k a = both _ _ (sym (law _ _ _ _ _) ∙ ap h (sym k.is) ∙ w.able a)

  -- a step answered r, and left the book b'
  module _ (b b' : Book) (p n q e left : ℕ) (s v : Sum) (x : Entry) (r : Result ℕ Refusal) (w : Folding f h b p n q e left s v) (ex : x ≡ at b q) (l : q < e)
      (call : (i u : Sum) → Lies b (q + 1) (q + 1 + x.inside) (left - 1) i → Lies b p (p + n) 4 u → Agrees r b' p (f x i u)) where
    whole : (k : Next b q e left w.v' x) → entry x.kind (size k.inner) x.num x.coef ≡ x
    whole k = ap (λ (m : ℕ). entry x.kind m x.num x.coef) (sym k.inside)

    -- a sum: on to the rest
    pub onward : (m : ℕ) → Kept b b' p (p + 64) → Clear q e p (p + 64) → r ≡ Ok m → (m ≤ 64) × Folding f h b' p m (q + 1 + x.inside) e left s v
    onward m kept apart er =
        let k = here x w ex l in
        let a = agreed-done b' p m r (f x k.inner w.s') (call k.inner w.s' k.lies-inner w.lies-s) er in
        let step = ap (λ (y : Entry). f y k.inner w.s') (whole k) ∙ a.is in (
          a.few,
          record {
            s' = a.s;
            v' = k.rest;
            lies-s = a.lies;
            lies-v = lies-clear kept (clear-part (omega arith) (omega arith) apart) k.lies-rest;
            same = w.same ∙ ap (each_into f w.s') k.is ∙ each-sum f _ _ _ _ _ _ _ step;
            able = λ z. (tests w k z).1;
          },
        )

    -- a refusal ends it
    pub stopped : (z : Refusal) (c : Book) → r ≡ Err z → Agrees (Err z) c p (each_into f s v)
    stopped z c er =
        let k = here x w ex l in
        let a = agreed-refused b' p z r (f x k.inner w.s') (call k.inner w.s' k.lies-inner w.lies-s) er in
        agree-refused c p z _ (w.same ∙ ap (each_into f w.s') k.is ∙ each-refused f _ _ _ _ _ _ _ (ap (λ (y : Entry). f y k.inner w.s') (whole k) ∙ a))

-- nothing is left
pub ended : (f : Entry → Sum → Sum → Outcome) (h : Sum → Bool) (b : Book) (p n q e left : ℕ) (s v : Sum) → Folding f h b p n q e left s v → n ≤ 64 → e ≤ q → Agrees (Ok n) b p (each_into f s v)
ended f h b p n q e left s v w few l =
    agree-done b p n _ w.s' (w.same ∙ ap (each_into f w.s') (lies-none b q e left w.v' w.lies-v l) ∙ each_none f w.s') few w.lies-s
