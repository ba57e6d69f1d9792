-- A list without Both costs at most as many steps as it has records. Assumes nothing.
use Prim.Native.Nat.{ℕ, ◌*◌, ◌≤◌}
use native.Mathlib.Omega.{arith}
use native.Mathlib.Nat.{mul-le-mul_right}
use mathlib.Core.Path.{◌≡◌, refl, sym, ◌∙◌}
use mathlib.Core.Bool.{Bool, true, false, ◌||◌, cond, true≢false}
use mathlib.Core.Logic.{◌⊎◌, inl, inr}
use lib.Dec.{eqb}
use borrow.Author.Tests.{eq-eqb}
use Rattle.formats.specs.declared.record.Kind.{Kind}
use Rattle.std.specs.Prelude.{Option, Some, None}
use Rattle.formats.specs.declared.record.Record.{Record}
use Rattle.formats.specs.declared.record.Kind.TheVariants as kind
use Rattle.formats.specs.declared.record.Modifier.{Modifier}
use Rattle.formats.specs.declared.record.Modifier.TheVariants.{Dip, Gap, On, By, Both, Bracket, Fork, Unlisted}
use Rattle.formats.specs.Names.{kind_of, modifier_of, modifier_no}
use Rattle.formats.specs.Tree.{Nodes, end, rec, size, count}
use Rattle.formats.proofs.record.Names.{kind-found, modifier-found}
use Rattle.modifiers.specs.Reading.{inside_of}
use Rattle.reading.specs.Cost.Cost.{where_asked, times_of, inside_times, cost_of}
use Rattle.reading.specs.Cost.Theorem.{is_both, has_both, WithoutBoth}

asked-most : (times asked n : ℕ) → where_asked asked times n ≤ times
asked-most times asked n = go (eqb n asked)
  where
    go : (b : Bool) → cond b times 0 ≤ times
    go true = omega arith
    go false = omega arith

-- a body runs never, once or twice
times-most : (m : Modifier) (n : ℕ) → times_of m n ≤ 2
times-most Dip n = omega (arith, asked-most 1 1 n)
times-most Gap n = omega (arith, asked-most 1 1 n)
times-most On n = omega (arith, asked-most 1 1 n)
times-most By n = omega (arith, asked-most 1 1 n)
times-most Both n = asked-most 2 1 n
times-most Bracket n = omega (arith, asked-most 1 2 n)
times-most Fork n = omega arith
times-most Unlisted n = omega arith

-- and twice only by Both
times-once : (m : Modifier) (n : ℕ) → (m ≡ Both → ⊥) → times_of m n ≤ 1
times-once Dip n f = asked-most 1 1 n
times-once Gap n f = asked-most 1 1 n
times-once On n f = asked-most 1 1 n
times-once By n f = asked-most 1 1 n
times-once Both n f = absurd (f refl)
times-once Bracket n f = asked-most 1 2 n
times-once Fork n f = omega arith
times-once Unlisted n f = omega arith

code_of : (c : ℕ) → modifier_of c ≡ Both → c ≡ modifier_no Both
code_of c e = go (modifier-found c)
  where
    go : (modifier_of c ≡ Unlisted) ⊎ (modifier_no (modifier_of c) ≡ c) → c ≡ modifier_no Both
    go (inl u) = let z : ◌≡◌ {A = ℕ} 0 1 = cc in absurd (omega arith)
    go (inr q) = sym q ∙ rw e

module _ (r : Record) (ns : Nodes) where
  -- never, once, or as the modifier has it
  of-kind : (P : ℕ → Type 0) → P 0 → P 1 → ((kind_of r.kind ≡ Some kind.Modifier) → P (times_of (modifier_of r.code) (count ns)))
      → (k : Option Kind) → kind_of r.kind ≡ k → P (inside_times (inside_of k) r ns)
  of-kind P none once m (Some kind.Modifier) e = m e
  of-kind P none once m (Some kind.Body) e = once
  of-kind P none once m (Some kind.Run) e = once
  of-kind P none once m (Some kind.CustomInverse) e = once
  of-kind P none once m (Some kind.RealPush) e = none
  of-kind P none once m (Some kind.ComplexPush) e = none
  of-kind P none once m (Some kind.ArrayPush) e = none
  of-kind P none once m (Some kind.OtherPush) e = none
  of-kind P none once m (Some kind.Primitive) e = none
  of-kind P none once m (Some kind.Obverse) e = none
  of-kind P none once m (Some kind.NoNormal) e = none
  of-kind P none once m (Some kind.UnderMarker) e = none
  of-kind P none once m (Some kind.AnythingElse) e = none
  of-kind P none once m None e = none

  pub inside-twice : inside_times (inside_of (kind_of r.kind)) r ns ≤ 2
  inside-twice = of-kind (λ n. n ≤ 2) (omega arith) (omega arith) (λ e. times-most (modifier_of r.code) (count ns)) (kind_of r.kind) refl

  inside-once : is_both r ≡ false → inside_times (inside_of (kind_of r.kind)) r ns ≤ 1
  inside-once f =
      of-kind (λ n. n ≤ 1) (omega arith) (omega arith)
      (λ e. times-once (modifier_of r.code) (count ns) (λ b. true≢false (sym (rw (eq-eqb r.kind 6 (sym (kind-found r.kind kind.Modifier e)), eq-eqb r.code 5 (code_of r.code b))) ∙ f)))
      (kind_of r.kind) refl

or_left : (a b : Bool) → (a || b) ≡ false → a ≡ false
or_left false b e = refl
or_left true b e = e

or_right : (a b : Bool) → (a || b) ≡ false → b ≡ false
or_right false b e = e
or_right true b e = absurd (true≢false e)

pub without-both : WithoutBoth
unfolding cost_of size has_both
without-both end f = omega arith
without-both (rec r ns ms) f =
    let g = or_left (is_both r || has_both ns) (has_both ms) f in
    let a = without-both ns (or_right (is_both r) (has_both ns) g) in
    let b = without-both ms (or_right (is_both r || has_both ns) (has_both ms) f) in
    let t = inside_times (inside_of (kind_of r.kind)) r ns in
    let m : t * cost_of ns ≤ 1 * cost_of ns = mul-le-mul_right (cost_of ns) (inside-once r ns (or_left (is_both r) (has_both ns) g)) in
    omega arith
