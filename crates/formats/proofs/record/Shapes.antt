-- Whether a stretch of records is well-formed, by its first record. Assumes nothing.
use mathlib.Core.Path.{◌≡◌, refl, ◌∙◌}
use mathlib.Core.Bool.{Bool, true, false, ◌&&◌}
use mathlib.Core.Logic.{⊎_elim}
use mathlib.Core.List.{List}
use Prim.Native.Nat.{ℕ, ◌+◌, ◌-◌, ◌≤◌, ◌<◌, min}
use native.Mathlib.Omega.{arith}
use native.Mathlib.Nat.{min-eq_left}
use borrow.Author.Tests.{le-leb, lt-leb, eq-eqb, ne_eqb}
use Rattle.formats.specs.Tree.{rec_at, next_of, forest}
use Rattle.formats.specs.Rules.{is_a, ok_nodes}
use Rattle.formats.specs.Contract.Measure.{may_stand}
use Rattle.formats.proofs.record.Forest.{below, forest-none, forest-more, size-forest}
use Rattle.formats.specs.declared.record.Record.{Record}
use Rattle.formats.specs.declared.record.Kind.TheVariants.{Modifier}

pub and_left : (x y : Bool) → (x && y) ≡ true → x ≡ true
and_left true y h = refl
and_left false y h = h

pub and_right : (x y : Bool) → (x && y) ≡ true → y ≡ true
and_right true y h = h
and_right false y h = let z : y ≡ true = cc in z

and-false : (g : Bool) → (g && false) ≡ false
and-false true = refl
and-false false = refl

pub ok-none : (b : Bool) (s : List ℕ) (a e : ℕ) → e ≤ a → ok_nodes b (forest s a e) ≡ true
unfolding ok_nodes
ok-none b s a e h = rw (forest-none s a e h)

ok-more : (b : Bool) (s : List ℕ) (a e : ℕ) → a < e
    → ok_nodes b (forest s a e) ≡ (may_stand (rec_at s a) a e b && ok_nodes (is_a (rec_at s a) Modifier) (forest s (a + 1) (next_of s a)) && ok_nodes b (forest s (next_of s a) e))
unfolding ok_nodes may_stand
ok-more b s a e h =
    let n : ℕ = next_of s a in
    rw (forest-more s a e h, size-forest)
    (⊎_elim
    (λ l. rw (lt-leb n e l, ne_eqb (rec_at s a).inside (min n e - (a + 1)) (omega arith), and-false))
    (λ (l : n ≤ e). rw (min-eq_left l, le-leb n e l, eq-eqb (rec_at s a).inside (n - (a + 1)) (omega arith)))
    (below e n))

-- in a turn of a loop, where r is the record that was read
module _ (b : Bool) (s : List ℕ) (a e : ℕ) (r : Record) (h : a < e) (q : r ≡ rec_at s a) where
  pub turn-bad : may_stand r a e b ≡ false → ok_nodes b (forest s a e) ≡ false
  turn-bad k = ok-more b s a e h ∙ rw (← q, k)

  pub turn-good : may_stand r a e b ≡ true → ok_nodes (is_a (rec_at s a) Modifier) (forest s (a + 1) (next_of s a)) ≡ true
      → ok_nodes b (forest s a e) ≡ ok_nodes b (forest s (a + 1 + r.inside) e)
  turn-good k l = ok-more b s a e h ∙ rw (l, ← q, k)
