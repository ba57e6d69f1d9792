-- Laws of simple records, and of stretches that are known to be low. Assumes nothing.
use mathlib.Core.Path.{◌≡◌, refl, ap, ◌∙◌, sym}
use mathlib.Core.Bool.{Bool, true, false, ◌&&◌, ◌||◌, beq}
use mathlib.Core.Logic.{◌⊎◌, inl, inr, ⊎_elim, ◌↔◌}
use mathlib.Core.List.{List}
use Prim.Native.Nat.{ℕ, zero, suc, ◌+◌, ◌-◌, ◌*◌, ◌%◌, ◌≤◌, ◌<◌}
use native.Mathlib.Omega.{arith}
use native.Mathlib.Numerals.{add-one}
use lib.Dec.{eqb, ltb, leb}
use lib.ListN.{length, get_or, set}
use lib.Seq.{get_or-set_same, get_or-set_other}
use borrow.Author.Tests.{eqb-true, ltb-true, leb-true, le-leb}
use Rattle.limits.specs.Limits.{list_levels}
use Rattle.formats.specs.Bytes.{number, Bytes}
use Rattle.formats.specs.Names.{kind_of}
use Rattle.formats.specs.Tree.{height, rec_at, next_of}
use Rattle.formats.specs.Rules.{is_a, fields_ok}
use Rattle.formats.specs.Contract.Measure.{Simple, Low, may_stand}
use Rattle.formats.specs.declared.record.Record.{Record}
use Rattle.formats.specs.declared.record.Kind.TheVariants.{Modifier, Body}
use Rattle.formats.proofs.record.Bytes.{number-four, number-eight}
use Rattle.formats.proofs.record.Codes.{rec-fields}
use Rattle.formats.proofs.record.Shapes.{and_left, and_right, ok-none, turn-good}
use Rattle.formats.proofs.record.Forest.{forest-none}
use Rattle.formats.proofs.record.Fit.{ok-next, ok-told, height-split}

-- ---- simple records

pub or_cases : (x y : Bool) → (x || y) ≡ true → (x ≡ true) ⊎ (y ≡ true)
or_cases true y h = inl refl
or_cases false y h = inr h

module _ (r : Record) (a : r.args ≡ 0) (b : r.blank ≡ 0) (i : r.inside ≡ 0) (m : r.im ≡ 0) where
  push-simple : r.kind ≡ 1 → r.code ≡ 0 → Simple r
  unfolding fields_ok kind_of
  push-simple k c = record { fields = rw (k, c, a, b, i, m); body = rw k; inside = i }

  primitive-simple : r.kind ≡ 5 → r.re ≡ 0 → Simple r
  unfolding fields_ok kind_of
  primitive-simple k e = record { fields = rw (k, e, a, b, i, m); body = rw k; inside = i }

-- by the three words of a record
module _ (s : List ℕ) (bytes : Bytes s) (i : ℕ) (h : 24 * i + 24 ≤ length s) where
  head : number 8 s (24 * i)
      ≡ (rec_at s i).kind + 256 * (rec_at s i).code + 65536 * (rec_at s i).args + 16777216 * (rec_at s i).blank + 4294967296 * (rec_at s i).inside
  head = number-eight s (24 * i) (omega arith) ∙ rw (rec-fields s i) (ap (λ x. x + 4294967296 * number 4 s (24 * i + 4)) (number-four s (24 * i) (omega arith)))

  kind-byte : (rec_at s i).kind < 256
  kind-byte = rw (rec-fields s i) (bytes (24 * i))

  pub words-simple : (w re im : ℕ) → w ≡ number 8 s (24 * i) → re ≡ number 8 s (24 * i + 8) → im ≡ number 8 s (24 * i + 16)
      → ((eqb w 1 || (eqb (w % 256) 5 && ltb w 65536 && eqb re 0)) && eqb im 0) ≡ true → Simple (rec_at s i)
  words-simple w re im p q e t =
      let r : Record = rec_at s i in
      let z : im ≡ 0 = eqb-true im 0 (and_right (eqb w 1 || (eqb (w % 256) 5 && ltb w 65536 && eqb re 0)) (eqb im 0) t) in
      let m : r.im ≡ 0 = rw (rec-fields s i) (sym e ∙ z) in
      ⊎_elim
      (λ f. let g : w ≡ 1 = eqb-true w 1 f in
      push-simple r (omega (arith, head)) (omega (arith, head)) (omega (arith, head)) m (omega (arith, head)) (omega (arith, head)))
      (λ f.
      let k : w % 256 ≡ 5 = eqb-true (w % 256) 5 (and_left (eqb (w % 256) 5) (ltb w 65536) (and_left (eqb (w % 256) 5 && ltb w 65536) (eqb re 0) f)) in
      let l : w < 65536 = ltb-true w 65536 (and_right (eqb (w % 256) 5) (ltb w 65536) (and_left (eqb (w % 256) 5 && ltb w 65536) (eqb re 0) f)) in
      let n : re ≡ 0 = eqb-true re 0 (and_right (eqb (w % 256) 5 && ltb w 65536) (eqb re 0) f) in
      primitive-simple r (omega (arith, head)) (omega (arith, head)) (omega (arith, head)) m (omega (arith, head, kind-byte)) (rw (rec-fields s i) (sym q ∙ n)))
      (or_cases (eqb w 1) (eqb (w % 256) 5 && ltb w 65536 && eqb re 0)
      (and_left (eqb w 1 || (eqb (w % 256) 5 && ltb w 65536 && eqb re 0)) (eqb im 0) t))

-- ---- low stretches

pub stands-within : (r : Record) (a e : ℕ) (b : Bool) → may_stand r a e b ≡ true → a + 1 + r.inside ≤ e
unfolding may_stand
stands-within r a e b m = leb-true (a + 1 + r.inside) e (and_right (fields_ok r && beq (is_a r Body) b) (leb (a + 1 + r.inside) e) m)

pub low-none : (s : List ℕ) (a e : ℕ) (b : Bool) (l : ℕ) → e ≤ a → Low s a e b l
unfolding height
low-none s a e b l h = record { ok = ok-none b s a e h; low = rw (forest-none s a e h) (omega arith) }

beq_same : (b : Bool) → beq b b ≡ true
beq_same true = refl
beq_same false = refl

-- by the first record of a stretch, with what is inside it and what comes after it
module _ (s : List ℕ) (a e : ℕ) (b : Bool) (l : ℕ) (r : Record) (h : a < e) (q : r ≡ rec_at s a) where
  pub low-more : 0 < l → may_stand r a e b ≡ true → Low s (a + 1) (a + 1 + r.inside) (is_a r Modifier) (l - 1) → Low s (a + 1 + r.inside) e b l → Low s a e b l
  low-more k m x y =
      let n : next_of s a ≤ e = rw q at (stands-within r a e b m) in
      let x' = rw q at x in
      let y' = rw q at y in
      record { ok = turn-good b s a e r h q m x'.ok ∙ y.ok; low = omega (arith, height-split s a e h n, x'.low, y'.low) }

  pub low-split : Low s a e b l → (0 < l) × (may_stand r a e b ≡ true) × Low s (a + 1) (a + 1 + r.inside) (is_a r Modifier) (l - 1) × Low s (a + 1 + r.inside) e b l
  unfolding may_stand
  low-split y =
      let n = ok-next s a e h b y.ok in
      let t = ok-told s a e h b y.ok in
      let k = height-split s a e h n in
      rw q (
        omega (arith, k, y.low),
        rw (t.fields, t.body, le-leb (next_of s a) e n, beq_same b),
        record { ok = t.inner; low = omega (arith, k, y.low) },
        record { ok = t.after; low = omega (arith, k, y.low) },
      )

-- one that holds nothing
module _ (s : List ℕ) (a e : ℕ) (b : Bool) (l : ℕ) (r : Record) (h : a < e) (q : r ≡ rec_at s a) (m : may_stand r a e b ≡ true) (z : r.inside ≡ 0) (k : 0 < l) where
  pub low-leaf : Low s (a + 1) e b l ↔ Low s a e b l
  low-leaf =
      let p : a + 1 + r.inside ≡ a + 1 = omega arith in
      (λ y. low-more s a e b l r h q k m (low-none s (a + 1) (a + 1 + r.inside) (is_a r Modifier) (l - 1) (omega arith)) (rw p y), λ y. rw p at (low-split s a e b l r h q y).3)

pub low-simple : (s : List ℕ) (a e l : ℕ) → a < e → Simple (rec_at s a) → 0 < l → Low s (a + 1) e false l ↔ Low s a e false l
unfolding may_stand
low-simple s a e l h f k =
    low-leaf s a e false l (rec_at s a) h refl (rw (f.fields, f.body, le-leb (a + 1 + (rec_at s a).inside) e (omega (arith, f.inside)))) f.inside k

-- ---- the stretches around the one that ends at e, the outermost first: d of them, which end at `ends` and are of bodies where `bs` says so

-- each ends within the next, and the outermost at n
unfoldable pub Within : List ℕ → ℕ → ℕ → ℕ → Type 0
Within ends n zero e = e ≤ n
Within ends n (suc d) e = (e ≤ get_or ends d 0) × Within ends n d (get_or ends d 0)

-- what is left of each of them is low
unfoldable pub Owed : List ℕ → List ℕ → List Bool → ℕ → ℕ → Type 0
Owed s ends bs zero e = Unit {0}
Owed s ends bs (suc d) e = Low s e (get_or ends d 0) (get_or bs d false) (list_levels - d) × Owed s ends bs d (get_or ends d 0)

pub within_none : (ends : List ℕ) (n e : ℕ) → e ≤ n → Within ends n 0 e
unfolding Within
within_none ends n e h = h

pub within_all : (ends : List ℕ) (n d e : ℕ) → Within ends n d e → e ≤ n
unfolding Within
within_all ends n zero e w = w
within_all ends n (suc d) e w = omega (arith, w.0, within_all ends n d (get_or ends d 0) w.1)

-- a store at or above d is not seen
within-set : (ends : List ℕ) (n d e i x : ℕ) → d ≤ i → Within ends n d e → Within (set ends i x) n d e
unfolding Within
within-set ends n zero e i x h w = w
within-set ends n (suc d) e i x h w =
    let q = get_or-set_other ends i d x 0 (λ (k : d ≡ i). omega arith) in
    rw q (w.0, within-set ends n d (get_or ends d 0) i x (omega arith) w.1)

owed-set : (s ends : List ℕ) (bs : List Bool) (d e i x : ℕ) (b : Bool) → d ≤ i → Owed s (set ends i x) (set bs i b) d e ↔ Owed s ends bs d e
unfolding Owed
owed-set s ends bs zero e i x b h = (λ w. tt, λ w. tt)
owed-set s ends bs (suc d) e i x b h =
    let q = get_or-set_other ends i d x 0 (λ (k : d ≡ i). omega arith) in
    let p = get_or-set_other bs i d b false (λ (k : d ≡ i). omega arith) in
    let o = owed-set s ends bs d (get_or ends d 0) i x b (omega arith) in
    rw (q, p) (λ w. (w.0, o.0 w.1), λ w. (w.0, o.1 w.1))

pub owed_none : (s ends : List ℕ) (bs : List Bool) (d e : ℕ) → d ≡ 0 → Owed s ends bs d e
unfolding Owed
owed_none s ends bs d e q = rw q tt

-- one stretch more
pub within-push : (ends : List ℕ) (n d e x : ℕ) → d < length ends → x ≤ e → Within ends n d e → Within (set ends d e) n (d + 1) x
unfolding Within
within-push ends n d e x h k w = rw (add-one, get_or-set_same ends d e 0 h) (k, within-set ends n d e d e (omega arith) w)

pub owed-push : (s ends : List ℕ) (bs : List Bool) (d e x : ℕ) (b : Bool) → d < length ends → d < length bs
    → Owed s (set ends d e) (set bs d b) (d + 1) x ↔ (Low s x e b (list_levels - d) × Owed s ends bs d e)
unfolding Owed
owed-push s ends bs d e x b h k =
    let o = owed-set s ends bs d e d e b (omega arith) in
    rw (add-one, get_or-set_same ends d e 0 h, get_or-set_same bs d b false k) (λ w. (w.0, o.0 w.1), λ w. (w.0, o.1 w.1))

-- one less
pub within-pop : (ends : List ℕ) (n d e : ℕ) → 0 < d → Within ends n d e → (e ≤ get_or ends (d - 1) 0) × Within ends n (d - 1) (get_or ends (d - 1) 0)
unfolding Within
within-pop ends n zero e h w = absurd (omega arith)
within-pop ends n (suc d) e h w = let q : suc d - 1 ≡ d = omega arith in rw q w

pub owed-pop : (s ends : List ℕ) (bs : List Bool) (d e : ℕ) → 0 < d
    → Owed s ends bs d e ↔ (Low s e (get_or ends (d - 1) 0) (get_or bs (d - 1) false) (list_levels - (d - 1)) × Owed s ends bs (d - 1) (get_or ends (d - 1) 0))
unfolding Owed
owed-pop s ends bs zero e h = absurd (omega arith)
owed-pop s ends bs (suc d) e h = let q : suc d - 1 ≡ d = omega arith in rw q (λ w. w, λ w. w)
