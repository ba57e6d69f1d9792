-- How a modifier begins, by its manner. Assumes nothing.
use Prim.Native.Nat.{ℕ, ◌-◌}
use native.Mathlib.Omega.{arith}
use mathlib.Core.Path.{◌≡◌, sym, ◌∙◌}
use Rattle.formats.specs.declared.record.Modifier.{Modifier}
use Rattle.formats.specs.declared.record.Modifier.TheVariants.{Dip, Gap, On, By, Both, Bracket, Fork, Unlisted}
use Rattle.modifiers.specs.Holding.{holding, dropping, copying}
use Rattle.modifiers.specs.Contract.Plans.{held_by, lent_by, begin}
use Rattle.stack.specs.Contract.Arena.{Arena}
use Rattle.stack.specs.declared.state.AlgebraEnv.{AlgebraEnv}
use Rattle.modifiers.specs.Contract.Begins.{Begins}
use Rattle.modifiers.specs.Contract.Manners.{manner_of}
use Rattle.modifiers.specs.declared.hold.Begun.{Begun}
use Rattle.modifiers.specs.declared.begin.Manner.{Manner}
use Rattle.modifiers.specs.declared.begin.Manner.TheVariants.{Drops, Copies, Holds}

pub begins-held : {a b : Arena} {v k c : ℕ} {env : AlgebraEnv} {r : Begun} (at n : ℕ) (m : Modifier) → k ≡ held_by m n → c ≡ lent_by m
    → Begins a b v env r (λ st f. holding at k c (1152 - v) st f) → Begins a b v env r (λ st f. holding at (held_by m n) (lent_by m) (1152 - v) st f)
begins-held at n m p q g = rw (← p) (rw (← q) g)

module _ {a b : Arena} {v : ℕ} {env : AlgebraEnv} {r : Begun} (at n : ℕ) where
  drops : (m : Modifier) → manner_of m ≡ Drops → Begins a b v env r (λ st f. dropping at st f) → Begins a b v env r (λ st f. begin m n at (1152 - v) st f)
  unfolding begin
  drops Dip e g = let z : ◌≡◌ {A = ℕ} 0 1 = cc in absurd (omega arith)
  drops Gap e g = g
  drops On e g = let z : ◌≡◌ {A = ℕ} 0 1 = cc in absurd (omega arith)
  drops By e g = let z : ◌≡◌ {A = ℕ} 0 1 = cc in absurd (omega arith)
  drops Both e g = let z : ◌≡◌ {A = ℕ} 0 1 = cc in absurd (omega arith)
  drops Bracket e g = let z : ◌≡◌ {A = ℕ} 0 1 = cc in absurd (omega arith)
  drops Fork e g = let z : ◌≡◌ {A = ℕ} 0 1 = cc in absurd (omega arith)
  drops Unlisted e g = let z : ◌≡◌ {A = ℕ} 0 1 = cc in absurd (omega arith)

  copies : (m : Modifier) → manner_of m ≡ Copies → Begins a b v env r (λ st f. copying at n (1152 - v) st f) → Begins a b v env r (λ st f. begin m n at (1152 - v) st f)
  unfolding begin
  copies Dip e g = let z : ◌≡◌ {A = ℕ} 0 1 = cc in absurd (omega arith)
  copies Gap e g = let z : ◌≡◌ {A = ℕ} 0 1 = cc in absurd (omega arith)
  copies On e g = let z : ◌≡◌ {A = ℕ} 0 1 = cc in absurd (omega arith)
  copies By e g = g
  copies Both e g = let z : ◌≡◌ {A = ℕ} 0 1 = cc in absurd (omega arith)
  copies Bracket e g = let z : ◌≡◌ {A = ℕ} 0 1 = cc in absurd (omega arith)
  copies Fork e g = let z : ◌≡◌ {A = ℕ} 0 1 = cc in absurd (omega arith)
  copies Unlisted e g = let z : ◌≡◌ {A = ℕ} 0 1 = cc in absurd (omega arith)

  holds : (m : Modifier) → manner_of m ≡ Holds → Begins a b v env r (λ st f. holding at (held_by m n) (lent_by m) (1152 - v) st f) → Begins a b v env r (λ st f. begin m n at (1152 - v) st f)
  unfolding begin
  holds Dip e g = g
  holds Gap e g = let z : ◌≡◌ {A = ℕ} 0 1 = cc in absurd (omega arith)
  holds On e g = g
  holds By e g = let z : ◌≡◌ {A = ℕ} 0 1 = cc in absurd (omega arith)
  holds Both e g = g
  holds Bracket e g = g
  holds Fork e g = g
  holds Unlisted e g = g

  -- the same, where the manner is what a call answered and a match told
  module _ {m d : Modifier} {w : Manner} (p : w ≡ manner_of m) (q : m ≡ d) where
    pub begin-drops : w ≡ Drops → Begins a b v env r (λ st f. dropping at st f) → Begins a b v env r (λ st f. begin d n at (1152 - v) st f)
    begin-drops e g = rw (← q) (drops m (sym p ∙ e) g)

    pub begin-copies : w ≡ Copies → Begins a b v env r (λ st f. copying at n (1152 - v) st f) → Begins a b v env r (λ st f. begin d n at (1152 - v) st f)
    begin-copies e g = rw (← q) (copies m (sym p ∙ e) g)

    pub begin-holds : w ≡ Holds → Begins a b v env r (λ st f. holding at (held_by m n) (lent_by m) (1152 - v) st f) → Begins a b v env r (λ st f. begin d n at (1152 - v) st f)
    begin-holds e g = rw (← q) (holds m (sym p ∙ e) g)
