-- Demand 3 for whole powers, and at which record 15 is given: what is proved with √x among the powers, where there is none. Assumes nothing.
use Prim.Native.Nat.{ℕ}
use mathlib.Core.Path.{◌≡◌, refl, ap, ◌∙◌}
use mathlib.Core.Bool.{false}
use mathlib.Core.List.{List}
use mathlib.Core.Option.{Option, none, some}
use lib.Dec.{T}
use lib.Ieee.{Float, lt}
use lib.Ieee.Scale.{finite}
use Rattle.numbers.specs.Signs.{zero64}
use Rattle.numbers.proofs.Bools.{and-false}
use Rattle.limits.specs.declared.Refusal.TheVariants.{NotFinite}
use Rattle.sums.specs.Tree.Sums.{Sum}
use Rattle.running.specs.Running.{run_list, Value, Refused}
use Rattle.values.specs.Value.{whole, half, Power, value}
use Rattle.theorems.specs.Terms.{nothing, zero_term, term, Terms, RootTerms}
use Rattle.theorems.specs.Records.{records}
use Rattle.theorems.specs.Demand3.{Formula, Runs, Demand3}
use Rattle.theorems.specs.Places.{in_all, first_not_finite, PlaceOf15}
use Rattle.theorems.specs.Roots.{any_root, lacks_root, RootRuns, RootSpeed}
use Rattle.theorems.proofs.Roots.{demand-3-roots}

-- whole powers are among those allowed, and none is a root
pub widen : {s : Sum} {ts : List Power} → Terms s ts → RootTerms s ts × (any_root ts ≡ false)
unfolding any_root
widen nothing = (nothing, refl)
widen (zero_term z t) = let h = widen t in (zero_term z h.0, h.1)
widen (term {k = whole k} z w t) = let h = widen t in (term {k = whole k} z w h.0, h.1)
widen (term {k = half} z w t) = absurd w

-- so no root is asked
pub nothing-lacks : {s : Sum} {ts : List Power} (x : Float) → Terms s ts → lacks_root x ts ≡ false
nothing-lacks x t = rw (widen t).1 (and-false (lt x zero64))

module _ {l : List ℕ} {ts : List Power} (f : Formula l ts) where
  speed : RootSpeed l ts
  speed = demand-3-roots l ts (record { s = f.s; handled = f.handled; pairs = f.pairs; read = f.read; d = f.d; derived = f.derived; terms = (widen f.terms).0 })

  runs : {b : List ℕ} → RootRuns b ts → Runs b ts
  runs {b} r = record {
    gives = λ x fx fv. r.gives x fx (nothing-lacks x f.terms) fv ∙ ap (Value (value x ts) (records ts)) (speed.no_less (widen f.terms).1);
    refuses = λ x fx n. else x fx n (first_not_finite (in_all x ts)) refl;
  }
    where
      else : (x : Float) → T (finite x) → (T (finite (value x ts)) → ⊥) → (o : Option ℕ) → first_not_finite (in_all x ts) ≡ o → (at : ℕ) × (run_list b x ≡ Refused NotFinite at)
      else x fx n none e = absurd (n ((speed.none_exactly x fx).0 e))
      else x fx n (some at) e = (at, r.refuses x at fx (nothing-lacks x f.terms) e)

pub demand-3 : Demand3
demand-3 l ts f = record {
  rises = (speed f).rises;
  writes = λ out out' r room g. let w = (speed f).writes out out' r room g in (w.0, runs f w.1);
}

pub place-of-15 : PlaceOf15
place-of-15 l ts f = record {
  none_exactly = (speed f).none_exactly;
  refuses = λ out out' r room g x at fx e. ((speed f).writes out out' r room g).1.refuses x at fx (nothing-lacks x f.terms) e;
}
