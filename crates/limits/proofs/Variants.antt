-- An enum whose variants hold nothing: what holds of each variant, by one computed test over all of them, so that a new variant adds no line. Assumes nothing.
use Prim.Native.Nat.{ℕ, suc}
use mathlib.Core.Path.{◌≡◌, refl, ap, subst}
use mathlib.Core.Bool.{Bool, true, false, ◌&&◌}
use mathlib.Core.Logic.{inl, inr}
use mathlib.Core.List.{List, [], ◌∷◌}
use native.Mathlib.Omega.{arith}
use lib.Dec.{T}
use lib.Ieee.Fits.{and_l, and_r}
use denote.Struct.Field.{Field}
use denote.Enum.Declared.{Choice}

-- the test holds of each variant
abbrev pub every : (Fss : List (List Field)) → (Choice Fss → Bool) → Bool
every [] f = true
every ([] ∷ Fss) f = f (inl tt) && every Fss (λ c. f (inr c))
every ((F ∷ Fs) ∷ Fss) f = false

pub every_one : (Fss : List (List Field)) (f : Choice Fss → Bool) → T (every Fss f) → (c : Choice Fss) → T (f c)
every_one [] f t c = absurd c
every_one ([] ∷ Fss) f t (inl u) = and_l (f (inl tt)) (every Fss (λ c. f (inr c))) t
every_one ([] ∷ Fss) f t (inr c) = every_one Fss (λ d. f (inr d)) (and_r (f (inl tt)) (every Fss (λ d. f (inr d))) t) c
every_one ((F ∷ Fs) ∷ Fss) f t c = absurd t

-- so of every value: `make` gives one of each variant, and there are no others
pub of-all : {E : Type 0} (Fss : List (List Field)) (make : Choice Fss → E) (choice : E → Choice Fss) → ((x : E) → make (choice x) ≡ x)
    → (f : E → Bool) → T (every Fss (λ c. f (make c))) → (x : E) → T (f x)
of-all Fss make choice eta f t x = subst (λ y. T (f y)) (eta x) (every_one Fss (λ c. f (make c)) t (choice x))

-- which variant it is
abbrev pub position : (Fss : List (List Field)) → Choice Fss → ℕ
position [] c = absurd c
position (Fs ∷ Fss) (inl v) = 0
position (Fs ∷ Fss) (inr c) = suc (position Fss c)

pub position-one : (Fss : List (List Field)) → T (every Fss (λ c. true)) → (c d : Choice Fss) → position Fss c ≡ position Fss d → c ≡ d
position-one [] t c d e = absurd c
position-one ([] ∷ Fss) t (inl u) (inl v) e = refl
position-one ([] ∷ Fss) t (inr c) (inr d) e = ap inr (position-one Fss t c d (omega arith))
position-one ([] ∷ Fss) t (inl u) (inr d) e = absurd (omega arith)
position-one ([] ∷ Fss) t (inr c) (inl v) e = absurd (omega arith)
position-one ((F ∷ Fs) ∷ Fss) t c d e = absurd t
