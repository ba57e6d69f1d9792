-- Whether each term of a sum that lies in a book can be divided: what is left decides. Assumes nothing.
use Prim.Native.Nat.{ℕ, ◌+◌, ◌≤◌, ◌<◌}
use mathlib.Core.Path.{◌≡◌, sym, ap, ◌∙◌}
use mathlib.Core.Bool.{Bool, true, false}
use Rattle.cells.specs.declared.Entry.{Entry}
use Rattle.cells.specs.Contract.Book.{Book, at}
use Rattle.sums.specs.Tree.Sums.{Sum}
use Rattle.arithmetic.specs.Quotient.{divable, all_divable}
use Rattle.arithmetic.proofs.Agree.{all_none, all_more, all-stop}
use Rattle.sums.specs.Contract.Lies.{Lies}
use Rattle.sums.proofs.order.Walk.{next, lies-none}
use Rattle.sums.proofs.order.Compare.{inner-more}

-- s' is left of s
pub record Able (b : Book) (q e : ℕ) (y : Entry) (v s : Sum) : Type 0 where
  pub s' : Sum
  pub lies : Lies b q e 4 s'
  pub same : all_divable y v s ≡ all_divable y v s'

-- what was asked of the term x, whose inside lies right behind it
abbrev pub Asked : Book → ℕ → Entry → Entry → Sum → Bool → Type 0
Asked b q x y v o = (t : Sum) → Lies b (q + 1) (q + 1 + x.inside) 4 t → o ≡ divable x t y v

module _ {b : Book} {q e : ℕ} {y : Entry} {v s : Sum} (w : Able b q e y v s) where
  -- x, which stands next, can be divided: on to the rest
  pub able-on : (x : Entry) → x ≡ at b q → q < e → Asked b q x y v true → Able b (q + 1 + x.inside) e y v s
  able-on x ex h f =
      let n = next b q e 4 w.s' x ex w.lies h in
      record { s' = n.rest; lies = n.lies-rest; same = w.same ∙ ap (all_divable y v) n.is ∙ all_more y v _ _ _ _ _ (sym (f n.inner (inner-more n))) }

  -- it can't
  pub able-off : (x : Entry) → x ≡ at b q → q < e → Asked b q x y v false → false ≡ all_divable y v s
  able-off x ex h f =
      let n = next b q e 4 w.s' x ex w.lies h in
      sym (w.same ∙ ap (all_divable y v) n.is ∙ all-stop y v _ _ _ _ _ (sym (f n.inner (inner-more n))))

  -- nothing is left
  pub able-end : e ≤ q → true ≡ all_divable y v s
  able-end h = sym (w.same ∙ ap (all_divable y v) (lies-none b q e 4 w.s' w.lies h) ∙ all_none y v)
