-- What a primitive leaves of the sums that it takes. Assumes nothing.
use Prim.Native.Nat.{ℕ, zero, suc, ◌+◌, ◌-◌, ◌≤◌}
use native.Mathlib.Omega.{arith}
use mathlib.Core.Path.{◌≡◌, refl, sym, subst, ◌∙◌}
use mathlib.Core.List.{List, [], ◌∷◌}
use Rattle.sums.specs.Tree.Sums.{Sum, size}
use Rattle.sums.specs.Tree.Map.{sum}
use Rattle.arithmetic.specs.Singles.{GoodSum}
use Rattle.sums.specs.Contract.Lies.{Lies}
use Rattle.formats.specs.declared.record.Primitive.{Primitive}
use Rattle.formats.specs.Table.{row}
use Rattle.primitives.specs.Forms.{of_one, of_two, pairs_of}
use Rattle.stack.specs.Contract.Arena.{Arena}
use Rattle.stack.specs.Stack.{total}
use Rattle.stack.specs.Contract.Stacked.{Stacked}
use Rattle.stack.specs.Contract.Blocks.{Outside}
use Rattle.stack.proofs.slots.Laws.{outside_refl, outside_trans, outside_wider, stacked-total}
use Rattle.stack.specs.declared.state.AlgebraEnv.{AlgebraEnv}
use Rattle.stack.specs.declared.state.Ran.{Ran}
use Rattle.stack.specs.declared.state.Ran.TheVariants.{Went}
use Rattle.stack.specs.State.{State, Walked, with_stack, taking, lend, push}
use Rattle.stack.specs.Steps.{paired, leaves_of_one, leaves_of_two, leaves}
use Rattle.stack.specs.Contract.Agree.{Prepared, Agree, Does}
use Rattle.stack.specs.Contract.Parts.{with_used, went_on, Tops}
use Rattle.stack.proofs.Laws.{lend-more, lend-two, total-two}
use Rattle.stack.proofs.state.Laws.{stands_on, stands-popped, topmost, pair, does-one, does-two}
use Rattle.stack.specs.Contract.Turning.{Turned}
use Rattle.stack.proofs.one_operand.Working.{stands-working, outside-held}

-- ---- primitives of one sum

module _ (at h : ℕ) (p : Primitive) where
  -- it leaves nothing
  pub one-popped : {a : Arena} {v : ℕ} {env : AlgebraEnv} {n : ℕ} → (row p).left ≡ 0 → Tops a env.used (n ∷ [])
      → Does a a v env (Went (went_on (env.used - n) 0 env)) (λ st. taking at 1 st (leaves at h p))
  one-popped {a} {v} {env} {n} e t =
      does-one at (leaves at h p) (outside_refl a 0 v) t
      (λ st s ss k one. rw e (stands_on (stands-popped k one.rest (let b = k.below in omega arith))))

  -- what it forms in the working places
  pub one-formed : {a w b : Arena} {v : ℕ} {env : AlgebraEnv} {r : Ran} {n : ℕ} → (row p).left ≡ 1 → Prepared a v env.used env.handled → Tops a env.used (n ∷ []) → Outside a w 0 128
      → ((s : Sum) → Lies a.cells (env.used - n) (env.used - n + n) 4 s → GoodSum s → Does w b v (with_used (env.used - n) env) r (push at h (of_one p s)))
      → Does a b v env r (λ st. taking at 1 st (leaves at h p))
  one-formed {a} {w} {b} {v} {env} {r} {n} e y t o d =
      let x = topmost t y.some.1.stack in
      does-one at (leaves at h p) (outside_trans (outside-held y o) (d x.s x.one.lies x.one.good).kept) t
      (λ st s ss k one. rw e ((d s one.lies one.good).agrees (with_stack ss st) (stands-working o (stands-popped k one.rest (let b = k.below in omega arith)))))

  -- the sum once more
  pub one-twice : {a b : Arena} {v : ℕ} {env : AlgebraEnv} {r : Ran} {n : ℕ} → 2 ≤ (row p).left → Prepared a v env.used env.handled → Tops a env.used (n ∷ [])
      → ((s : Sum) → Lies a.cells (env.used - n) (env.used - n + n) 4 s → Does a b v env r (push at h (sum s)))
      → Does a b v env r (λ st. taking at 1 st (leaves at h p))
  one-twice {a} {b} {v} {env} {r} {n} e y t d =
      let x = topmost t y.some.1.stack in
      does-one at (leaves at h p) (d x.s x.one.lies).kept t
      (λ st s ss k one.
      let same = sym (lend-more at h (s ∷ []) (s ∷ []) ss st) ∙ sym (twice (row p).left s (with_stack ss st) e) in
      subst (λ (w : Walked). Agree r b v w) same ((d s one.lies).agrees (with_stack (s ∷ ss) st) k))
    where
      twice : (l : ℕ) (s : Sum) (st : State) → 2 ≤ l → leaves_of_one at h p l s st ≡ lend at h (s ∷ s ∷ []) st
      twice zero s st le = absurd (omega arith)
      twice (suc zero) s st le = absurd (omega arith)
      twice (suc (suc l)) s st le = refl

-- ---- and of two

module _ (at h : ℕ) (p : Primitive) where
  -- what it forms
  pub two_formed : {a w b : Arena} {v : ℕ} {env : AlgebraEnv} {r : Ran} {n m : ℕ} → (row p).left ≡ 1 → Prepared a v env.used env.handled → Tops a env.used (n ∷ m ∷ []) → Outside a w 0 128
      → ((s t : Sum) → Lies a.cells (env.used - n) (env.used - n + n) 4 s → GoodSum s → Lies a.cells (env.used - n - m) (env.used - n - m + m) 4 t → GoodSum t
      → Does w b v (with_used (env.used - n - m) env) r (λ st. push at h (of_two p t s) (paired (pairs_of p t s) st)))
      → Does a b v env r (λ st. taking at 2 st (leaves at h p))
  two_formed {a} {w} {b} {v} {env} {r} {n} {m} e y t o d =
      let x = pair t y.some.1.stack in
      does-two at (leaves at h p) (outside_trans (outside-held y o) (d x.s x.t x.first.lies x.first.good x.second.lies x.second.good).kept) t
      (λ st s u ss k one two.
      let left = stands-popped k two.rest (let b = k.below in omega arith) in
      rw e ((d s u one.lies one.good two.lies two.good).agrees (with_stack ss st) (stands-working o left)))

  -- the lower one once more
  pub two-over : {a b : Arena} {v : ℕ} {env : AlgebraEnv} {r : Ran} {n m : ℕ} → 3 ≤ (row p).left → Prepared a v env.used env.handled → Tops a env.used (n ∷ m ∷ [])
      → ((t : Sum) → Lies a.cells (env.used - n - m) (env.used - n - m + m) 4 t → Does a b v env r (push at h (sum t)))
      → Does a b v env r (λ st. taking at 2 st (leaves at h p))
  two-over {a} {b} {v} {env} {r} {n} {m} e y t d =
      let x = pair t y.some.1.stack in
      does-two at (leaves at h p) (d x.t x.second.lies).kept t
      (λ st s u ss k one two.
      let same = sym (lend-more at h (u ∷ []) (s ∷ u ∷ []) ss st) ∙ sym (over (row p).left s u (with_stack ss st) e) in
      subst (λ (w : Walked). Agree r b v w) same ((d u two.lies).agrees (with_stack (s ∷ u ∷ ss) st) k))
    where
      over : (l : ℕ) (s u : Sum) (st : State) → 3 ≤ l → leaves_of_two at h p l s u st ≡ lend at h (u ∷ s ∷ u ∷ []) st
      over zero s u st le = absurd (omega arith)
      over (suc zero) s u st le = absurd (omega arith)
      over (suc (suc zero)) s u st le = absurd (omega arith)
      over (suc (suc (suc l))) s u st le = refl

-- the two turned: there is room for what was there
pub two-turned : {a b : Arena} {v : ℕ} {env : AlgebraEnv} {n m : ℕ} (at : ℕ) (p : Primitive) → (row p).left ≡ 2 → Prepared a v env.used env.handled → Tops a env.used (n ∷ m ∷ [])
    → Turned a b env.used → Does a b v env (Went (went_on env.used 0 env)) (λ st. taking at 2 st (leaves at (1152 - v) p))
two-turned {a} {b} {v} {env} at p e y t d =
    does-two at (leaves at (1152 - v) p) (outside_wider (omega arith) y.some.1.below d.outside) t
    (λ st s u ss k one two.
    let fits = both s u ss k.stack in
    let w = y.within in
    let low = k.below in
    rw (e, lend-two at (1152 - v) u s (with_stack ss st) (omega arith))
    (stands_on (record { stack = d.turned s u ss k.stack; below = k.below; handled = k.handled; complex = k.complex; pairs = k.pairs })))
  where
    both : (s u : Sum) (ss : List Sum) → Stacked a 128 env.used (s ∷ u ∷ ss) → 128 + (size s + (size u + total ss)) ≡ env.used
    both s u ss k =
        let all = stacked-total k in
        let e : size s + (size u + total ss) ≡ env.used - 128 = total-two s u ss (omega arith) in
        omega arith
