-- Laws of nodes in which each record says how many nodes are inside it, and of well-formed ones, first record by first record. Assumes nothing.
use mathlib.Core.Path.{◌≡◌, refl, sym}
use mathlib.Core.Bool.{Bool, true, false, ◌&&◌, beq}
use mathlib.Core.Logic.{⊎_elim}
use mathlib.Core.List.{List}
use Prim.Native.Nat.{ℕ, zero, suc, ◌+◌, ◌-◌, ◌≤◌, ◌<◌, max}
use native.Mathlib.Omega.{arith}
use native.Mathlib.Nat.{min-eq_left, eq-or-lt_of_le}
use lib.Dec.{eqb}
use borrow.Author.Tests.{eqb-true}
use Rattle.formats.specs.Tree.{Nodes, end, rec, size, height, count, rec_at, next_of, next_at, forest}
use Rattle.formats.specs.Rules.{is_a, fields_ok, ok_nodes}
use Rattle.formats.proofs.record.Forest.{below, forest-more, size-forest}
use Rattle.formats.proofs.record.Shapes.{and_left, and_right}
use Rattle.formats.specs.declared.record.Record.{Record}
use Rattle.formats.specs.declared.record.Kind.TheVariants.{Modifier, Body}

-- each record says how many nodes are inside it
unfoldable pub Fit : Nodes → Type 0
Fit end = Unit {0}
Fit (rec r ns ms) = (r.inside ≡ size ns) × Fit ns × Fit ms

same_bool : (x y : Bool) → beq x y ≡ true → x ≡ y
same_bool true true h = refl
same_bool true false h = sym h
same_bool false true h = h
same_bool false false h = refl

-- what well-formed nodes that begin with a record tell of it
pub record Told (b : Bool) (r : Record) (ns ms : Nodes) : Type 0 where
  pub fields : fields_ok r ≡ true
  pub body : is_a r Body ≡ b
  pub inside : r.inside ≡ size ns
  pub inner : ok_nodes (is_a r Modifier) ns ≡ true
  pub after : ok_nodes b ms ≡ true

pub told : (b : Bool) (r : Record) (ns ms : Nodes) → ok_nodes b (rec r ns ms) ≡ true → Told b r ns ms
unfolding ok_nodes
told b r ns ms h =
    let f : Bool = fields_ok r in
    let y : Bool = beq (is_a r Body) b in
    let i : Bool = eqb r.inside (size ns) in
    let o : Bool = ok_nodes (is_a r Modifier) ns in
    let m : Bool = ok_nodes b ms in
    let l = and_left (f && y && i && o) m h in
    let k = and_left (f && y && i) o l in
    let g = and_left (f && y) i k in
    record {
      fields = and_left f y g;
      body = same_bool (is_a r Body) b (and_right f y g);
      inside = eqb-true r.inside (size ns) (and_right (f && y) i k);
      inner = and_right (f && y && i) o l;
      after = and_right (f && y && i && o) m h;
    }

pub ok-fit : (b : Bool) (t : Nodes) → ok_nodes b t ≡ true → Fit t
unfolding Fit
ok-fit b end h = tt
ok-fit b (rec r ns ms) h = let t = told b r ns ms h in (t.inside, ok-fit (is_a r Modifier) ns t.inner, ok-fit b ms t.after)

module _ (s : List ℕ) (a e : ℕ) (h : a < e) where
  -- where what is inside the first record is as much as it says, it ends where the stretch ends, or before
  pub inside-next : (rec_at s a).inside ≡ size (forest s (a + 1) (next_at s a e)) → next_of s a ≤ e
  inside-next q = omega (arith, q, size-forest s (a + 1) (next_at s a e))

  module _ (n : next_of s a ≤ e) where
    -- and the stretch splits there
    pub forest-split : forest s a e ≡ rec (rec_at s a) (forest s (a + 1) (next_of s a)) (forest s (next_of s a) e)
    forest-split = rw (← min-eq_left n) (forest-more s a e h)

    pub height-split : height (forest s a e) ≡ max (height (forest s (a + 1) (next_of s a)) + 1) (height (forest s (next_of s a) e))
    unfolding height
    height-split = rw forest-split

    pub count-split : count (forest s a e) ≡ suc (count (forest s (next_of s a) e))
    unfolding count
    count-split = rw forest-split

  module _ (f : Fit (forest s a e)) where
    split : Fit (rec (rec_at s a) (forest s (a + 1) (next_at s a e)) (forest s (next_at s a e) e))
    split = rw (forest-more s a e h) at f

    pub fit_next : next_of s a ≤ e
    unfolding Fit
    fit_next = inside-next split.0

    pub fit-inside : Fit (forest s (a + 1) (next_of s a))
    unfolding Fit
    fit-inside = rw (min-eq_left fit_next) at split.1

    pub fit-after : Fit (forest s (next_of s a) e)
    unfolding Fit
    fit-after = rw (min-eq_left fit_next) at split.2

  module _ (b : Bool) (o : ok_nodes b (forest s a e) ≡ true) where
    told_at : Told b (rec_at s a) (forest s (a + 1) (next_at s a e)) (forest s (next_at s a e) e)
    told_at = told b (rec_at s a) (forest s (a + 1) (next_at s a e)) (forest s (next_at s a e) e) (rw (forest-more s a e h) at o)

    pub ok-next : next_of s a ≤ e
    ok-next = inside-next told_at.inside

    -- what a stretch that is well-formed tells of its first record
    pub ok-told : Told b (rec_at s a) (forest s (a + 1) (next_of s a)) (forest s (next_of s a) e)
    ok-told = rw (min-eq_left ok-next) at told_at

-- in a well-formed stretch what is inside each record is a well-formed stretch too
pub ok-inner : (s : List ℕ) (k a e : ℕ) → e - a ≤ k → (b : Bool) → ok_nodes b (forest s a e) ≡ true → (j : ℕ) → a ≤ j → j < e
    → (next_of s j ≤ e) × (ok_nodes (is_a (rec_at s j) Modifier) (forest s (j + 1) (next_of s j)) ≡ true)
ok-inner s zero a e h b o j l g = absurd (omega arith)
ok-inner s (suc k) a e h b o j l g =
    let a<e : a < e = omega arith in
    let n = ok-next s a e a<e b o in
    let t = ok-told s a e a<e b o in
    ⊎_elim
    (λ (q : a ≡ j). rw (← q) (n, t.inner))
    (λ (q : a < j).
    ⊎_elim
    (λ (p : j < next_of s a). let w = ok-inner s k (a + 1) (next_of s a) (omega arith) (is_a (rec_at s a) Modifier) t.inner j (omega arith) p in (omega (arith, w.0), w.1))
    (λ (p : next_of s a ≤ j). ok-inner s k (next_of s a) e (omega arith) b t.after j p g)
    (below j (next_of s a)))
    (eq-or-lt_of_le l)
