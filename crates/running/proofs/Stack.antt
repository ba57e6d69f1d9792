-- Laws of the first n numbers of an array as a stack. Assumes nothing.
use Prim.Native.Nat.{ℕ, zero, suc, ◌+◌, ◌-◌, ◌≤◌, ◌<◌}
use native.Mathlib.Omega.{arith}
use native.Mathlib.Numerals.{add-one}
use mathlib.Core.Path.{◌≡◌, refl, ap, ap₂, ◌∙◌}
use mathlib.Core.List.{List, [], ◌∷◌}
use lib.ListN.{length, get_or, set, length-set}
use lib.Seq.{get_or-set_same, get_or-set_other}
use lib.Ieee.{Float, nan}
use Rattle.running.specs.Contract.Views.{stack_of}

pub length-stack : (xs : List Float) (n : ℕ) → length (stack_of xs n) ≡ n
unfolding stack_of
length-stack xs zero = refl
length-stack xs (suc n) = ap suc (length-stack xs n)

pub stack-none : (xs : List Float) (n : ℕ) → n ≡ 0 → stack_of xs n ≡ []
unfolding stack_of
stack-none xs n q = rw q

-- a store at or above n is not seen
pub stack_set : (xs : List Float) (i n : ℕ) (v : Float) → n ≤ i → stack_of (set xs i v) n ≡ stack_of xs n
unfolding stack_of
stack_set xs i zero v h = refl
stack_set xs i (suc n) v h = ap₂ ◌∷◌ (get_or-set_other xs i n v nan (λ e. omega arith)) (stack_set xs i n v (omega arith))

-- the top, and what is under it
pub stack-pop : (xs : List Float) (n : ℕ) → 0 < n → stack_of xs n ≡ get_or xs (n - 1) nan ∷ stack_of xs (n - 1)
unfolding stack_of
stack-pop xs zero h = absurd (omega arith)
stack-pop xs (suc n) h = let e : suc n - 1 ≡ n = omega arith in rw e

-- the two on top
pub stack-two : (xs : List Float) (n : ℕ) → 1 < n → stack_of xs n ≡ get_or xs (n - 1) nan ∷ get_or xs (n - 2) nan ∷ stack_of xs (n - 2)
stack-two xs n h =
    let e : n - 1 - 1 ≡ n - 2 = omega arith in
    stack-pop xs n (omega arith) ∙ ap (◌∷◌ (get_or xs (n - 1) nan)) (stack-pop xs (n - 1) (omega arith) ∙ rw e)

-- a store at n, and then one value more
pub stack_push : (xs : List Float) (n : ℕ) (v : Float) → n < length xs → stack_of (set xs n v) (n + 1) ≡ v ∷ stack_of xs n
unfolding stack_of
stack_push xs n v h = rw add-one (ap₂ ◌∷◌ (get_or-set_same xs n v nan h) (stack_set xs n n v (omega arith)))

-- two more, and three
pub stack-push-two : (xs : List Float) (n : ℕ) (b a : Float) → n + 1 < length xs → stack_of (set (set xs n b) (n + 1) a) (n + 2) ≡ a ∷ b ∷ stack_of xs n
stack-push-two xs n b a h =
    let e : n + 2 ≡ n + 1 + 1 = omega arith in
    ap (stack_of (set (set xs n b) (n + 1) a)) e
    ∙ stack_push (set xs n b) (n + 1) a (simp length-set (omega arith))
    ∙ ap (◌∷◌ a) (stack_push xs n b (omega arith))

pub stack-push-three : (xs : List Float) (n : ℕ) (c b a : Float) → n + 2 < length xs
    → stack_of (set (set (set xs n c) (n + 1) b) (n + 2) a) (n + 3) ≡ a ∷ b ∷ c ∷ stack_of xs n
stack-push-three xs n c b a h =
    let e : n + 3 ≡ n + 2 + 1 = omega arith in
    ap (stack_of (set (set (set xs n c) (n + 1) b) (n + 2) a)) e
    ∙ stack_push (set (set xs n c) (n + 1) b) (n + 2) a (simp length-set (omega arith))
    ∙ ap (◌∷◌ a) (stack-push-two xs n c b (omega arith))
