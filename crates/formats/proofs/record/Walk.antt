-- Laws for a function that walks a stretch of records by index: the whole of a good list is a stretch; the first record of a stretch tells its kind and what it
-- uses; what is inside it is a stretch with a level less, and what comes after it is one. Assumes nothing.
use mathlib.Core.Path.{◌≡◌, refl}
use mathlib.Core.Bool.{Bool, true, false, ◌&&◌}
use mathlib.Core.List.{List, [], ◌∷◌}
use Prim.Native.Nat.{ℕ, suc, ◌+◌, ◌-◌, ◌/◌, ◌≤◌, ◌<◌}
use native.Mathlib.Omega.{arith}
use lib.Dec.{eqb}
use lib.ListN.{length}
use Rattle.std.specs.Prelude.{Option, Some, None, Ok}
use Rattle.formats.specs.Names.{kind_of}
use Rattle.formats.specs.Tree.{rec, count, rec_at, next_of, forest}
use Rattle.formats.specs.Rules.{is_a, is_known, one_of, used_or_zero, fields_ok, verdict}
use Rattle.formats.specs.Contract.Walk.{Stretch, Walkable}
use Rattle.formats.proofs.record.Forest.{forest-none}
use Rattle.formats.proofs.record.Shapes.{and_left, and_right}
use Rattle.formats.proofs.record.Fit.{Told, ok-next, ok-told, forest-split, height-split, count-split}
use Rattle.formats.proofs.record.Theorem.{good-sound, good-height, whole, few, ok}
use Rattle.formats.specs.declared.record.Record.{Record}
use Rattle.formats.specs.declared.record.Kind.{Kind}
use Rattle.formats.specs.declared.record.Kind.TheVariants as kind

-- the whole of a good list
pub whole-stretch : (s : List ℕ) → verdict s ≡ Ok tt → Stretch s 0 (length s / 24) false 129
whole-stretch s q =
    let t = good-sound s q in
    record { order = omega arith; room = omega (arith, whole s t); few = few s t; ok = ok s t; low = good-height s q }

-- a record that keeps the rules has a kind
found : (o : Option Kind) → is_known o ≡ true → (k : Kind) × (o ≡ Some k)
found (Some k) h = (k, refl)
found None h = let z : ◌≡◌ {A = ℕ} 0 1 = cc in absurd (omega arith)

pub fields-kind : (r : Record) → fields_ok r ≡ true → (k : Kind) × (kind_of r.kind ≡ Some k)
unfolding fields_ok
fields-kind r h = found (kind_of r.kind) (and_left (is_known (kind_of r.kind)) _ (and_left _ _ (and_left _ _ (and_left _ _ (and_left _ _ (and_left _ _ h))))))

-- and a record holds others, or none
pub fields-inside : (r : Record) → fields_ok r ≡ true → used_or_zero (one_of r (kind.Modifier ∷ kind.Body ∷ kind.Run ∷ kind.CustomInverse ∷ [])) r.inside ≡ true
unfolding fields_ok
fields-inside r f =
    let a : Bool = is_known (kind_of r.kind) && eqb r.blank 0 && used_or_zero (one_of r (kind.Primitive ∷ kind.Modifier ∷ [])) r.code && used_or_zero (one_of r (kind.Body ∷ [])) r.args in
    let i : Bool = used_or_zero (one_of r (kind.Modifier ∷ kind.Body ∷ kind.Run ∷ kind.CustomInverse ∷ [])) r.inside in
    let c : Bool = used_or_zero (one_of r (kind.RealPush ∷ kind.ComplexPush ∷ [])) r.re in
    let g : Bool = used_or_zero (one_of r (kind.ComplexPush ∷ [])) r.im in
    and_right a i (and_left (a && i) c (and_left (a && i && c) g f))

-- an empty stretch holds nothing
pub count_none : (s : List ℕ) (a e : ℕ) → e ≤ a → count (forest s a e) ≡ 0
unfolding count
count_none s a e h = rw (forest-none s a e h)

module _ (s : List ℕ) (a e : ℕ) (b : Bool) (levels : ℕ) (t : Stretch s a e b levels) where
  module _ (h : a < e) where
    -- what is inside the first record ends within the stretch
    pub stretch-next : next_of s a ≤ e
    stretch-next = ok-next s a e h b t.ok

    -- its fields keep the rules, it is a body where the stretch is of bodies, and it holds as many nodes as it says
    pub stretch-told : Told b (rec_at s a) (forest s (a + 1) (next_of s a)) (forest s (next_of s a) e)
    stretch-told = ok-told s a e h b t.ok

    pub stretch-kind : (k : Kind) × (kind_of (rec_at s a).kind ≡ Some k)
    stretch-kind = fields-kind (rec_at s a) stretch-told.fields

    pub stretch-split : forest s a e ≡ rec (rec_at s a) (forest s (a + 1) (next_of s a)) (forest s (next_of s a) e)
    stretch-split = forest-split s a e h stretch-next

    pub stretch-count : count (forest s a e) ≡ suc (count (forest s (next_of s a) e))
    stretch-count = count-split s a e h stretch-next

    pub stretch-levels : 0 < levels
    stretch-levels = omega (arith, t.low, height-split s a e h stretch-next)

    pub stretch-inside : Stretch s (a + 1) (next_of s a) (is_a (rec_at s a) kind.Modifier) (levels - 1)
    stretch-inside =
        record {
          order = omega arith;
          room = omega (arith, t.room, stretch-next);
          few = omega (arith, t.few, stretch-next);
          ok = stretch-told.inner;
          low = omega (arith, t.low, height-split s a e h stretch-next);
        }

    pub stretch-after : Stretch s (next_of s a) e b levels
    stretch-after =
        record { order = stretch-next; room = t.room; few = t.few; ok = stretch-told.after; low = omega (arith, t.low, height-split s a e h stretch-next) }

-- a turn of a loop over a stretch, where r is the record that was read
pub walk-on : (s : List ℕ) (a e : ℕ) (r : Record) → Walkable s a e → a < e → r ≡ rec_at s a
    → (a + 1 + r.inside ≤ e) × Walkable s (a + 1 + r.inside) e × (count (forest s a e) ≡ suc (count (forest s (a + 1 + r.inside) e)))
walk-on s a e r (b, l, t) h q = rw q (stretch-next s a e b l t h, (b, l, stretch-after s a e b l t h), stretch-count s a e b l t h)
