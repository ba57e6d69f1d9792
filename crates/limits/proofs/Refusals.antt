-- What holds of every refusal, by one computed test over all of them, so that a new refusal adds no line here: the numbers are those from 1 to the table's last, and no two are alike. Assumes nothing.
use Prim.Native.Nat.{ℕ, ◌≤◌}
use mathlib.Core.Path.{◌≡◌, refl, sym, ap, subst, ◌∙◌}
use mathlib.Core.Bool.{Bool, true, false, ◌&&◌, ◌||◌, not}
use lib.Dec.{T, eqb, leb}
use lib.Ieee.Fits.{and_l, and_r}
use borrow.Author.Tests.{eqb-true, eq-eqb, leb-true}
use denote.Enum.Declared.{Choice}
use Rattle.limits.specs.declared.Refusal.{Refusal}
use Rattle.limits.specs.Refusals.{refusal_no, last_number}
use Rattle.limits.proofs.Variants.{every, every_one, of-all, position, position-one}
use Rattle.limits.specs.contracts.Refusal.{the_parts as parts, as_values, the_make as make, the_eta as eta}

pub numbered : (q : Refusal) → (1 ≤ refusal_no q) × (refusal_no q ≤ last_number)
numbered q =
    let t = of-all parts make as_values eta between tt q in
    (within 1 (refusal_no q) (and_l (leb 1 (refusal_no q)) (leb (refusal_no q) last_number) t), within (refusal_no q) last_number (and_r (leb 1 (refusal_no q)) (leb (refusal_no q) last_number) t))
  where
    between : Refusal → Bool
    between r = leb 1 (refusal_no r) && leb (refusal_no r) last_number

    within : (a b : ℕ) → T (leb a b) → a ≤ b
    within a b t = leb-true a b (is_true (leb a b) t)
      where
        is_true : (x : Bool) → T x → x ≡ true
        is_true true t = refl
        is_true false t = absurd t

-- refusals with one number are one refusal
pub same_number : (q r : Refusal) → refusal_no q ≡ refusal_no r → q ≡ r
same_number q r e =
    let c = as_values q in
    let d = as_values r in
    let t = every_one parts (λ b. alike c b) (every_one parts (λ a. every parts (λ b. alike a b)) tt c) d in
    let n : refusal_no (make c) ≡ refusal_no (make d) = ap refusal_no (eta q) ∙ e ∙ sym (ap refusal_no (eta r)) in
    sym (eta q) ∙ ap make (position-one parts tt c d (same (refusal_no (make c)) (refusal_no (make d)) (position parts c) (position parts d) n t)) ∙ eta r
  where
    alike : Choice parts → Choice parts → Bool
    alike a b = not (eqb (refusal_no (make a)) (refusal_no (make b))) || eqb (position parts a) (position parts b)

    same : (m n i j : ℕ) → m ≡ n → T (not (eqb m n) || eqb i j) → i ≡ j
    same m n i j e t = go (eqb i j) refl (subst (λ (x : Bool). T (not x || eqb i j)) (eq-eqb m n e) t)
      where
        go : (x : Bool) → eqb i j ≡ x → T x → i ≡ j
        go true h t = eqb-true i j h
        go false h t = absurd t
