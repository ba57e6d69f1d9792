-- Laws of costs for the walk over a stretch of records, a turn at a time, in numbers that stop at the largest. Assumes nothing.
use Prim.Native.Nat.{ℕ, zero, suc, ◌+◌, ◌-◌, ◌*◌, ◌≤◌, ◌<◌, min}
use native.Mathlib.Omega.{arith}
use mathlib.Core.Path.{◌≡◌, ap, ◌∙◌}
use mathlib.Core.Bool.{Bool, false}
use mathlib.Core.List.{List}
use Rattle.limits.specs.Limits.{list_levels}
use Rattle.limits.specs.declared.Refusal.{Refusal}
use Rattle.formats.specs.declared.record.Record.{Record}
use Rattle.formats.specs.declared.record.Modifier as modifiers
use Rattle.formats.specs.Names.{kind_of, modifier_of}
use Rattle.formats.specs.Tree.{Nodes, count, rec_at, forest, parse, records_in}
use Rattle.formats.specs.declared.record.Kind.TheVariants.{Modifier}
use Rattle.formats.specs.Rules.{is_a, verdict}
use Rattle.formats.specs.Contract.Walk.{Stretch}
use Rattle.formats.proofs.record.Forest.{forest-none}
use Rattle.formats.proofs.record.Walk.{whole-stretch, stretch-next, stretch-split, stretch-levels, stretch-inside, stretch-after}
use Rattle.modifiers.specs.declared.Inside.TheVariants as inside
use Rattle.modifiers.specs.Reading.{inside_of}
use Rattle.std.specs.Prelude.{Ok, Err}
use Rattle.reading.specs.Cost.Cost.{most_steps, times_of, inside_times, own_cost, cost_of, cost_list}
use Rattle.reading.proofs.cost.Without.{inside-twice}

pub cost-none : (s : List ℕ) (a e : ℕ) → e ≤ a → cost_of (forest s a e) ≡ 0
unfolding cost_of
cost-none s a e h = rw (forest-none s a e h)

cost-more : (s : List ℕ) (a e : ℕ) (b : Bool) (left : ℕ) → Stretch s a e b left → a < e → (r : Record) → r ≡ rec_at s a
    → cost_of (forest s a e) ≡ own_cost r (forest s (a + 1) (a + 1 + r.inside)) (cost_of (forest s (a + 1) (a + 1 + r.inside))) + cost_of (forest s (a + 1 + r.inside) e)
unfolding cost_of
cost-more s a e b left t k r q = rw q (ap cost_of (stretch-split s a e b left t k))

-- never, once or twice what stops at the largest number
own-stops : (times n : ℕ) → times ≤ 2 → min most_steps (suc (times * min most_steps n)) ≡ min most_steps (suc (times * n))
own-stops zero n h = omega arith
own-stops (suc zero) n h = omega arith
own-stops (suc (suc zero)) n h = omega arith
own-stops (suc (suc (suc t))) n h = absurd (omega arith)

-- ---- one record

pub own-never : (times inner : ℕ) → times ≡ 0 → 1 ≡ min most_steps (suc (times * inner))
own-never times inner e = rw e (omega arith)

pub own-once : (times inner : ℕ) {r : ℕ} → times ≡ 1 → r ≡ min most_steps (1 + inner) → r ≡ min most_steps (suc (times * inner))
own-once times inner e d = rw e (omega arith)

pub own-twice : (times inner : ℕ) {r s : ℕ} → times ≡ 2 → s ≡ min most_steps (inner + inner) → r ≡ min most_steps (1 + s) → r ≡ min most_steps (suc (times * inner))
own-twice times inner e d f = rw e (omega arith)

module _ (r : Record) (ns : Nodes) where
  pub times-nothing : inside_of (kind_of r.kind) ≡ inside.Nothing → 0 ≡ inside_times (inside_of (kind_of r.kind)) r ns
  times-nothing e = rw e

  pub times-nodes : inside_of (kind_of r.kind) ≡ inside.Nodes → 1 ≡ inside_times (inside_of (kind_of r.kind)) r ns
  times-nodes e = rw e

  pub times-bodies : {n t : ℕ} {m : modifiers.Modifier} → inside_of (kind_of r.kind) ≡ inside.Bodies → n ≡ count ns → m ≡ modifier_of r.code → t ≡ times_of m n
      → t ≡ inside_times (inside_of (kind_of r.kind)) r ns
  times-bodies e n m t = rw e (t ∙ rw (n, m))

-- ---- a turn of the walk, where r is the record that was read

module _ (s : List ℕ) (a e : ℕ) (b : Bool) (left : ℕ) (t : Stretch s a e b left) (h : a < e) (r : Record) (q : r ≡ rec_at s a) where
  pub turn-next : a + 1 + r.inside ≤ e
  turn-next = rw q (stretch-next s a e b left t h)

  pub turn-levels : 0 < left
  turn-levels = stretch-levels s a e b left t h

  pub turn_inside : Stretch s (a + 1) (a + 1 + r.inside) (is_a r Modifier) (left - 1)
  turn_inside = rw q (stretch-inside s a e b left t h)

  pub turn-after : Stretch s (a + 1 + r.inside) e b left
  turn-after = rw q (stretch-after s a e b left t h)

  -- the steps so far, with the record's own, and those of the rest make up the whole
  pub turn-steps : (whole steps times inner own sum : ℕ) → times ≡ inside_times (inside_of (kind_of r.kind)) r (forest s (a + 1) (a + 1 + r.inside))
      → inner ≡ min most_steps (cost_of (forest s (a + 1) (a + 1 + r.inside))) → own ≡ min most_steps (suc (times * inner)) → sum ≡ min most_steps (steps + own)
      → min most_steps whole ≡ min most_steps (steps + cost_of (forest s a e)) → min most_steps whole ≡ min most_steps (sum + cost_of (forest s (a + 1 + r.inside) e))
  turn-steps whole steps times inner own sum n i o m w =
      let ns = forest s (a + 1) (a + 1 + r.inside) in
      let k = inside_times (inside_of (kind_of r.kind)) r ns in
      let z : own ≡ min most_steps (own_cost r ns (cost_of ns)) = o ∙ rw (n, i) (own-stops k (cost_of ns) (inside-twice r ns)) in
      omega (arith, w, m, z, cost-more s a e b left t h r q)

-- ---- the whole list

pub list-refused : (l : List ℕ) (q : Refusal) → verdict l ≡ Err q → Err q ≡ cost_list l
unfolding cost_list
list-refused l q v = rw v

module _ (l : List ℕ) (v : verdict l ≡ Ok tt) where
  pub list-stretch : {n : ℕ} → n ≡ records_in l → Stretch l 0 n false list_levels
  list-stretch e = rw e (whole-stretch l v)

  pub list_steps : {n steps : ℕ} → n ≡ records_in l → steps ≡ min most_steps (cost_of (forest l 0 n)) → Ok steps ≡ cost_list l
  unfolding cost_list parse
  list_steps e d = rw v (ap Ok (d ∙ ap (λ (k : ℕ). min most_steps (cost_of (forest l 0 k))) e))
