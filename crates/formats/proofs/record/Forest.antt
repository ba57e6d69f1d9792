-- Laws of the nodes of a list of bytes: `forest` by cases, and its size. Assumes nothing.
use mathlib.Core.Path.{◌≡◌, refl, ap₂, ◌∙◌, sym}
use mathlib.Core.Logic.{◌⊎◌, inl, inr, ⊎_elim}
use mathlib.Core.List.{List}
use Prim.Native.Nat.{ℕ, zero, suc, ◌+◌, ◌-◌, ◌≤◌, ◌<◌}
use native.Mathlib.Omega.{arith}
use native.Mathlib.Decide.{dec_lt}
use borrow.Author.Tests.{lt-ltb, le-ltb}
use Rattle.formats.specs.Tree.{end, rec, rec_at, next_at, grow, forest, size}

grow-none : (s : List ℕ) (f a e : ℕ) → e ≤ a → grow s f a e ≡ end
unfolding grow
grow-none s zero a e h = refl
grow-none s (suc f) a e h = rw (le-ltb a e h, grow)

grow-more : (s : List ℕ) (f a e : ℕ) → a < e → grow s (suc f) a e ≡ rec (rec_at s a) (grow s f (a + 1) (next_at s a e)) (grow s f (next_at s a e) e)
unfolding grow
grow-more s f a e h = rw (lt-ltb a e h, grow)

-- an order, as a choice
pub below : (a e : ℕ) → (a < e) ⊎ (e ≤ a)
below a e = elim (dec_lt a e) [ yes h ↦ inl h | no h ↦ inr (omega (arith, h)) ]

-- fuel beyond what is needed changes nothing
grow-fuel : (s : List ℕ) (f g a e : ℕ) → e - a ≤ f → e - a ≤ g → grow s f a e ≡ grow s g a e
grow-fuel s zero g a e h k = grow-none s zero a e (omega arith) ∙ sym (grow-none s g a e (omega arith))
grow-fuel s (suc f) zero a e h k = grow-none s (suc f) a e (omega arith) ∙ sym (grow-none s zero a e (omega arith))
grow-fuel s (suc f) (suc g) a e h k =
    ⊎_elim
    (λ l. grow-more s f a e l ∙ ap₂ (rec (rec_at s a)) (grow-fuel s f g (a + 1) (next_at s a e) (omega arith) (omega arith)) (grow-fuel s f g (next_at s a e) e (omega arith) (omega arith))
    ∙ sym (grow-more s g a e l))
    (λ l. grow-none s (suc f) a e l ∙ sym (grow-none s (suc g) a e l))
    (below a e)

size-grow : (s : List ℕ) (f a e : ℕ) → e - a ≤ f → size (grow s f a e) ≡ e - a
unfolding size
size-grow s zero a e h = rw (grow-none s zero a e (omega arith)) (omega arith)
size-grow s (suc f) a e h =
    ⊎_elim
    (λ l. rw (grow-more s f a e l) (omega (arith, size-grow s f (a + 1) (next_at s a e) (omega arith), size-grow s f (next_at s a e) e (omega arith))))
    (λ l. rw (grow-none s (suc f) a e l) (omega arith))
    (below a e)

pub forest-none : (s : List ℕ) (a e : ℕ) → e ≤ a → forest s a e ≡ end
unfolding forest
forest-none s a e h = grow-none s (e - a) a e h

pub forest-more : (s : List ℕ) (a e : ℕ) → a < e → forest s a e ≡ rec (rec_at s a) (forest s (a + 1) (next_at s a e)) (forest s (next_at s a e) e)
unfolding forest
forest-more s a e h =
    let f = e - a - 1 in
    grow-fuel s (e - a) (suc f) a e (omega arith) (omega arith)
    ∙ grow-more s f a e h
    ∙ ap₂ (rec (rec_at s a)) (grow-fuel s f (next_at s a e - (a + 1)) (a + 1) (next_at s a e) (omega arith) (omega arith)) (grow-fuel s f (e - next_at s a e) (next_at s a e) e (omega arith) (omega arith))

pub size-forest : (s : List ℕ) (a e : ℕ) → size (forest s a e) ≡ e - a
unfolding forest
size-forest s a e = size-grow s (e - a) a e (omega arith)
