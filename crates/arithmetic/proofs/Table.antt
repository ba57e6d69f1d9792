-- A rule of a table of eight rows of eight, proved at all of its places by one test that is computed. Assumes nothing.
use mathlib.Core.Path.{◌≡◌, ◌∙◌, ap₂, subst, sym}
use mathlib.Core.Bool.{Bool, true, false}
use mathlib.Core.List.{List, [], ◌∷◌}
use Prim.Native.Nat.{ℕ, zero, suc, ◌+◌, ◌-◌, ◌≤◌, ◌<◌}
use native.Mathlib.Omega.{arith}
use native.Mathlib.Nat.{add-zero, zero-add, add-suc, suc-add, le_of_suc-le-suc, not-suc-le-zero}
use lib.Dec.{T, eqb, eqb→eq}
use lib.ListN.{length, get_or}

abbrev pub both : Bool → Bool → Bool
both true b = b
both false b = false

pub both_left : (a b : Bool) → T (both a b) → T a
both_left true b t = tt
both_left false b t = t

pub both_right : (a b : Bool) → T (both a b) → T b
both_right true b t = t
both_right false b t = absurd t

-- the test f passes at each element of the list and its place, counted from i
abbrev pub every : {A : Type 0} → (ℕ → A → Bool) → ℕ → List A → Bool
every f i [] = true
every f i (x ∷ xs) = both (f i x) (every f (suc i) xs)

from : {A : Type 0} (d : A) (f : ℕ → A → Bool) (xs : List A) (i : ℕ) → T (every f i xs) → (k : ℕ) → k < length xs → T (f (i + k) (get_or xs k d))
from d f [] i t k h = absurd (not-suc-le-zero h)
from d f (x ∷ xs) i t zero h = subst (λ (m : ℕ). T (f m x)) (sym (add-zero i)) (both_left (f i x) (every f (suc i) xs) t)
from d f (x ∷ xs) i t (suc k) h =
    subst (λ (m : ℕ). T (f m (get_or xs k d))) (suc-add i k ∙ sym (add-suc i k))
    (from d f xs (suc i) (both_right (f i x) (every f (suc i) xs) t) k (le_of_suc-le-suc h))

pub at : {A : Type 0} (d : A) (f : ℕ → A → Bool) (xs : List A) → T (every f 0 xs) → (k : ℕ) → k < length xs → T (f k (get_or xs k d))
at d f xs t k h = subst (λ (m : ℕ). T (f m (get_or xs k d))) (zero-add k) (from d f xs 0 t k h)

-- a row has n elements, and the rule g gives each of them
abbrev pub row : ℕ → (ℕ → ℕ → ℕ) → ℕ → List ℕ → Bool
row n g i xs = both (eqb (length xs) n) (every (λ (j x : ℕ). eqb x (g i j)) 0 xs)

pub at₂ : (n : ℕ) (g : ℕ → ℕ → ℕ) (xss : List (List ℕ)) → T (every (row n g) 0 xss) → (i j : ℕ) → i < length xss → j < n → get_or (get_or xss i []) j 0 ≡ g i j
at₂ n g xss t i j h k =
    let xs = get_or xss i [] in
    let p = eqb (length xs) n in
    let q = every (λ (j x : ℕ). eqb x (g i j)) 0 xs in
    let r = at [] (row n g) xss t i h in
    let l = eqb→eq (length xs) n (both_left p q r) in
    eqb→eq (get_or xs j 0) (g i j) (at 0 (λ (j x : ℕ). eqb x (g i j)) xs (both_right p q r) j (subst (λ (m : ℕ). j < m) (sym l) k))

-- kinds are counted from 1, rows and places from 0
pub by-kinds : (g : ℕ → ℕ → ℕ) (rows : List (List ℕ)) → T (every (row 8 (λ (i j : ℕ). g (suc i) (suc j))) 0 rows) → length rows ≡ 8
    → (k l : ℕ) → 1 ≤ k → k ≤ 8 → 1 ≤ l → l ≤ 8 → get_or (get_or rows (k - 1) []) (l - 1) 0 ≡ g k l
by-kinds g rows t e k l k⁺ k⁻ l⁺ l⁻ =
    let i : suc (k - 1) ≡ k = omega arith in
    let j : suc (l - 1) ≡ l = omega arith in
    at₂ 8 (λ (i j : ℕ). g (suc i) (suc j)) rows t (k - 1) (l - 1) (omega arith) (omega arith) ∙ ap₂ g i j
